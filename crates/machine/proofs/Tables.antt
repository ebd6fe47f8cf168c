-- Tables in range that agree there are the same.
use Rattle.std.proofs.Common.{◌≡◌, ℕ, true, Some, None, Option, sym, refl, ◌∙◌}
use Rattle.protocol.specs.Tables.{Table, Ranged, same_table}
use Rattle.protocol.proofs.Same.{table_same}

pub tables_same : (e f : Table) → Ranged e → Ranged f → same_table e f ≡ true → (s l a : ℕ) → e s l a ≡ f s l a
tables_same e f re rf ok s l a = by (e s l a) (f s l a) refl refl
  where
    by : (o u : Option ℕ) → e s l a ≡ o → f s l a ≡ u → e s l a ≡ f s l a
    by None None p q = p ∙ sym q
    by None (Some t) p q = let r = rf s l a t q in table_same e f ok s l a r.0 r.1 r.2
    by (Some t) u p q = let r = re s l a t p in table_same e f ok s l a r.0 r.1 r.2
