-- Main, the last of the parts.
use Rattle.std.proofs.Common.{◌≡◌, ℕ, suc, ◌+◌, ◌-◌, ◌<◌, ◌&&◌, eqb, List, [], ◌∷◌, map, length, get_or, sym, refl, ap, ◌∙◌, arith}
use Rattle.faults.specs.declared.causes.KeyCause.TheVariants.{MainHeld}
use Rattle.faults.specs.Numbers.{key_fault}
use Rattle.faults.specs.Results.{need}
use Rattle.rules.specs.Script.{main_of}
use Rattle.rules.specs.Check.{main_away}
use Rattle.script.specs.declared.part.Part.{Part}
use Rattle.script.specs.Parts.{away, no_handle, shown}
use Rattle.script.specs.Scripts.{check_main}
use Rattle.script.proofs.Mapped.{all_front, map_at}

pub main_last : (ps : List Part) (p : Part) → 0 < length ps → p ≡ get_or ps (length ps - 1) p → check_main ps ≡ need (away p) (key_fault MainHeld p.place)
main_last [] p lt e = absurd (omega arith)
main_last (q ∷ []) p lt e = ap (λ (v : Part). need (away v) (key_fault MainHeld v.place)) (sym e)
main_last (q ∷ r ∷ ps) p lt e =
    let z : suc (suc (length ps)) - 1 ≡ suc (suc (length ps) - 1) = omega arith in
    main_last (r ∷ ps) p (omega arith) (e ∙ ap (λ (i : ℕ). get_or (q ∷ r ∷ ps) i p) z)

away_shown : (bs : List ℕ) (p : Part) → main_away (shown bs p ∷ []) ≡ away p
away_shown bs p =
    all_front (λ h. eqb (get_or (map (λ h. h.enters) p.handles) h 0) 0 && eqb (get_or (map (λ h. h.leaves) p.handles) h 0) 0) (λ h. eqb h.enters 0 && eqb h.leaves 0) no_handle p.handles p.own 0
    (λ i. let z : 0 + i ≡ i = omega arith in
    ap (λ (j : ℕ). eqb (get_or (map (λ h. h.enters) p.handles) j 0) 0 && eqb (get_or (map (λ h. h.leaves) p.handles) j 0) 0) z
    ∙ (λ t. eqb (map_at (λ h. h.enters) no_handle p.handles i t) 0 && eqb (map_at (λ h. h.leaves) no_handle p.handles i t) 0))
    refl

pub main_shown : (bs : List ℕ) (ps : List Part) → check_main ps ≡ need (main_away (map (shown bs) ps)) (key_fault MainHeld (main_of (map (shown bs) ps)).place)
main_shown bs [] = refl
main_shown bs (p ∷ []) = ap (λ b. need b (key_fault MainHeld p.place)) (sym (away_shown bs p))
main_shown bs (p ∷ q ∷ ps) = main_shown bs (q ∷ ps)
