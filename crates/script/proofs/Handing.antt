-- Bound handles, one after the other.
use Rattle.std.proofs.Common.{◌≡◌, ℕ, suc, ◌<◌, not, ◌&&◌, List, [], ◌∷◌, map, length, get_or, drop, min, refl, ap, ◌∙◌, arith}
use Rattle.std.proofs.lemmas.List.{drop_all}
use Rattle.rules.specs.Lists.{has, distinct}
use Rattle.rules.specs.Script.{Keys, hand_over}
use Rattle.script.specs.declared.part.Handle.{Handle}

pub distinct_first : (bs : List ℕ) → 0 < length bs → distinct bs ≡ (not (has (get_or bs 0 0) (drop 1 bs)) && distinct (drop 1 bs))
distinct_first [] lt = absurd (omega arith)
distinct_first (b ∷ bs) lt = refl

pub hand_none : (ks : Keys) (bs : List ℕ) (hs : List Handle) (n : ℕ) → n ≡ min (length bs) (length hs) → hand_over ks (drop n bs) (map (λ (h : Handle). h.leaves) (drop n hs)) ≡ ks
hand_none ks [] hs n e = ap (λ v. hand_over ks v (map (λ (h : Handle). h.leaves) (drop n hs))) (drop_all n [] (omega arith))
hand_none ks (b ∷ bs) [] n e = let z : n ≡ 0 = omega arith in ap (λ (m : ℕ). hand_over ks (drop m (b ∷ bs)) (map (λ (h : Handle). h.leaves) (drop m []))) z
hand_none ks (b ∷ bs) (h ∷ hs) n e =
    let z : n ≡ suc (min (length bs) (length hs)) = omega arith in
    ap (λ (m : ℕ). hand_over ks (drop m (b ∷ bs)) (map (λ (h : Handle). h.leaves) (drop m (h ∷ hs)))) z ∙ hand_none ks bs hs (min (length bs) (length hs)) refl
