-- Edges in range, and tables of such edges.
use Rattle.std.proofs.Common.{◌≡◌, ℕ, true, ltb, List, Some, subst}
use Rattle.protocol.specs.declared.edges.Edge.{Edge}
use Rattle.protocol.specs.Lists.{all, Each}
use Rattle.protocol.specs.Tables.{Ranged, EdgeRanged, edge_in_range, leads, table_of}
use Rattle.protocol.proofs.Tests.{both, and_true, less, is_less}
use Rattle.protocol.proofs.Lists.{all_each, each_in}
use Rattle.protocol.proofs.Firsts.{first_found, led}

pub edge_ranged : (e : Edge) → edge_in_range e ≡ true → EdgeRanged e
edge_ranged e h =
    let x = both (ltb e.from 16) _ h in
    let y = both (ltb e.letter 16) _ x.1 in
    let z = both (ltb e.answer 4) (ltb e.to 16) y.1 in
    (less e.from 16 x.0, less e.letter 16 y.0, less e.answer 4 z.0, less e.to 16 z.1)

pub ranged_edge : (e : Edge) → EdgeRanged e → edge_in_range e ≡ true
ranged_edge e h = and_true (is_less h.0) (and_true (is_less h.1) (and_true (is_less h.2) (is_less h.3)))

-- what holds of each edge of a list holds wherever its table leads
pub each_led : (P : ℕ → ℕ → ℕ → ℕ → Type 0) (es : List Edge) → Each (λ e. P e.from e.letter e.answer e.to) es →
    (s l a t : ℕ) → table_of es s l a ≡ Some t → P s l a t
each_led P es h s l a t q =
    let f = first_found (λ e. leads e s l a) (λ e. e.to) es t q in
    let e : Edge = f.0 in
    let w = led e s l a f.2 in
    subst (λ (v : ℕ). P s l a v) f.3
    (subst (λ (v : ℕ). P s l v e.to) w.2
    (subst (λ (v : ℕ). P s v e.answer e.to) w.1
    (subst (λ (v : ℕ). P v e.letter e.answer e.to) w.0 (each_in (λ (x : Edge). P x.from x.letter x.answer x.to) es e h f.1))))

pub table_ranged : (es : List Edge) → Each EdgeRanged es → Ranged (table_of es)
table_ranged es h = each_led (λ s l a t. EdgeRanged (record { from = s; letter = l; answer = a; to = t })) es h

pub listed_ranged : (es : List Edge) → all edge_in_range es ≡ true → Ranged (table_of es)
listed_ranged es h = table_ranged es (all_each edge_in_range EdgeRanged edge_ranged es h)
