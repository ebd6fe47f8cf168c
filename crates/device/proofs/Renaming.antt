-- A patch hears as a device does.
use Rattle.std.proofs.Common.{◌≡◌, ℕ, ◌+◌, ◌%◌, ◌^◌, ◌<◌, Bool, true, false, cond, eqb, Some, None, Option, unwrap_or, sym, refl, ap, ◌∙◌, subst, arith, lit<}
use Rattle.protocol.specs.Tables.{Table, Ranged, Allowed, allowed, edge_count, same_letter}
use Rattle.protocol.proofs.Tests.{none_some}
use Rattle.device.specs.declared.letter_map.LetterMap.{LetterMap}
use Rattle.device.specs.LetterMap.{down}
use Rattle.device.specs.Meaning.{Meaning, Lawful, Hears, moves, jams}
use Rattle.device.specs.Patch.{led_by, renamed, patched, passes, HeardBelow}
use Rattle.device.specs.Kept.{patch_lawful}
use Rattle.protocol.proofs.Answers.{allows, allowed_ranged}
use Rattle.protocol.proofs.Letters.{has_none}
use Rattle.protocol.proofs.Same.{letters_alike}
use Rattle.device.proofs.Hearing.{moves_to, jams_so}

-- nothing is allowed where a device is jammed
pub jammed_allows : (e : Table) → Ranged e → (l : ℕ) → allowed e 16 l ≡ false
jammed_allows e r l = by (allowed e 16 l) refl
  where
    by : (b : Bool) → allowed e 16 l ≡ b → allowed e 16 l ≡ false
    by true h = let w = allows e 16 l h in let lt : 16 < 16 = (r 16 l w.0 w.1 w.2).0 in absurd (omega arith)
    by false h = h

taken : (b : Bool) (o : Option ℕ) (k : ℕ) → cond b o None ≡ Some k → (b ≡ true) × (o ≡ Some k)
taken true o k e = (refl, e)
taken false o k e = absurd (none_some e)

module _ (map : LetterMap) (l : ℕ) (m : Meaning) (law : Lawful m) where
  ranged : Ranged (renamed map m.table)
  ranged = (patch_lawful map true 0 0 0 m law (lit< tt)).ranged

  pub stuck_stays : (stuck : Bool) → stuck ≡ true → None ≡ passes map stuck m l
  stuck_stays stuck e =
      ap (λ b. cond b (down map l) None) (sym (jammed_allows (renamed map m.table) ranged l))
      ∙ ap (λ v. passes map v m l) (sym e)

module _ (map : LetterMap) (h l₀ a₀ l : ℕ) (m : Meaning) (law : Lawful m) where
  pub stays : (stuck : Bool) → passes map stuck m l ≡ None → Hears (patched map stuck h l₀ a₀ m) l 255 (patched map true ((h + 1) % 2 ^ 32) l 255 m)
  stays stuck e = jams_so _ _ l 255 not refl refl
    where
      s : ℕ
      s = cond stuck 16 m.station

      not : Allowed (renamed map m.table) s l → ⊥
      not w =
          let yes-allowed : allowed (renamed map m.table) s l ≡ true = allowed_ranged (renamed map m.table) (ranged map l m law) s l w in
          let nowhere : down map l ≡ None = ap (λ b. cond b (down map l) None) (sym yes-allowed) ∙ e in
          none_some (ap (λ o. led_by m.table s o w.0) (sym nowhere) ∙ w.2)

  pub sends : (stuck : Bool) (k a : ℕ) (m' : Meaning) → passes map stuck m l ≡ Some k → Hears m k a m' → Hears (patched map stuck h l₀ a₀ m) l a (patched map stuck ((h + 1) % 2 ^ 32) l a m')
  sends true k a m' e w = absurd (none_some (stuck_stays map l m law true refl ∙ e))
  sends false k a m' e w = by a m' w
    where
      so : (allowed (renamed map m.table) m.station l ≡ true) × (down map l ≡ Some k)
      so = taken (allowed (renamed map m.table) m.station l) (down map l) k e

      by : (a : ℕ) (m' : Meaning) → Hears m k a m' → Hears (patched map false h l₀ a₀ m) l a (patched map false ((h + 1) % 2 ^ 32) l a m')
      by a m' (moves _ t q) = moves_to _ _ l a t (ap (λ o. led_by m.table m.station o a) so.1 ∙ q) (ap (λ n. patched map false ((h + 1) % 2 ^ 32) l a (went n)) (sym named))
        where
          named : unwrap_or (down map l) 255 ≡ k
          named = ap (λ o. unwrap_or o 255) so.1

          went : ℕ → Meaning
          went n = record {
            table = m.table;
            station = t;
            heard = (m.heard + 1) % 2 ^ 32;
            letter = k;
            answer = a;
            memory = m.rule m.memory n a;
            rule = m.rule;
          }
      by a m' (jams not) =
          let w = allows (renamed map m.table) m.station l so.0 in
          absurd (not (w.0, w.1, ap (λ o. led_by m.table m.station o w.0) (sym so.1) ∙ w.2))

-- What the device below hears

pub heard_below : {D : Type 0} (meaning : D → Meaning) {o : Option ℕ} {k a : ℕ} {d d' : D} → Some k ≡ o → Hears (meaning d) k a (meaning d') → HeardBelow meaning o d a d'
heard_below meaning {a = a} {d = d} {d' = d'} e w = subst (λ v. HeardBelow meaning v d a d') e w

pub not_heard : {D : Type 0} (meaning : D → Meaning) {o : Option ℕ} (d : D) (a : ℕ) → None ≡ o → HeardBelow meaning o d a d
not_heard meaning d a e = subst (λ v. HeardBelow meaning v d a d) e refl

-- The edges of a letter under a map are those of the letter below

module _ (map : LetterMap) (e : Table) (l : ℕ) (t : Table) (m : ℕ) where
  pub fits_below : (k : ℕ) → Some k ≡ down map l → same_letter e k t m ≡ same_letter (renamed map e) l t m
  fits_below k q = letters_alike e (renamed map e) k l t m (λ s a. ap (λ o. led_by e s o a) q)

  pub fits_none : None ≡ down map l → eqb (edge_count t m) 0 ≡ same_letter (renamed map e) l t m
  fits_none q = has_none (renamed map e) l (λ s a. ap (λ o. led_by e s o a) (sym q)) t m
