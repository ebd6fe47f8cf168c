-- The parts behind those already read.
use Rattle.std.proofs.Common.{◌≡◌, ℕ, zero, suc, ◌+◌, ◌-◌, ◌<◌, List, [], ◌∷◌, ◌++◌, map, length, take, drop, Ok, Err, Result, sym, refl, ap, ◌∙◌, arith, length-append, length-drop, length-take, drop-drop}
use Rattle.std.proofs.lemmas.List.{map_push}
use Rattle.faults.specs.declared.fault.Fault.{Fault}
use Rattle.faults.specs.Results.{◌>>=◌}
use Rattle.faults.proofs.Results.{follows}
use Rattle.book.specs.Kinds.{Kind}
use Rattle.rules.specs.Script as rules
use Rattle.rules.specs.Script.{read_part}
use Rattle.rules.specs.Check.{check_body, check_parts}
use Rattle.script.specs.declared.part.Part.{Part}
use Rattle.script.specs.Parts.{shown, Lies}
use Rattle.script.specs.Headers.{GivesPart}
use Rattle.script.specs.Scripts.{over, next_part}
use Rattle.script.proofs.Turns.{stops, in_turn}

module _ (book : List Kind) (bs : List ℕ) where
  more : ℕ → List rules.Part → ℕ → rules.Part × List ℕ → Result (List rules.Part) Fault
  more n ps at got = check_parts n book (ps ++ (got.0 ∷ [])) (at + (28 + length got.0.body.bytes)) got.1

  one_more : (n : ℕ) (ps : List rules.Part) (at : ℕ) (bytes : List ℕ) → 0 < length bytes →
      check_parts (suc n) book ps at bytes ≡ (next_part book ps at bytes >>= more n ps at)
  unfolding more
  one_more n ps at [] lt = absurd (omega arith)
  one_more n ps at (c ∷ bytes) lt = in_turn (λ got. check_body (over book ps got.0)) (more n ps at) (read_part book (length ps) at (c ∷ bytes))

  abbrev left : ℕ → List rules.Part → ℕ → Result (List rules.Part) Fault
  left n ps at = check_parts n book ps at (drop at bs)

  some_left : (at : ℕ) → at < length bs → 0 < length (drop at bs)
  some_left at lt = simp length-drop (omega arith)

  pub left_stops : (n : ℕ) (ps : List rules.Part) (at : ℕ) (e : Fault) → at < length bs → next_part book ps at (drop at bs) ≡ Err e → left (suc n) ps at ≡ Err e
  left_stops n ps at e lt r = one_more n ps at (drop at bs) (some_left at lt) ∙ stops (more n ps at) r

  pub left_on : (n : ℕ) (ps : List rules.Part) (at : ℕ) (p : Part) → at < length bs → Lies bs p → p.place ≡ at →
      next_part book ps at (drop at bs) ≡ Ok (shown bs p, drop (28 + p.len) (drop at bs)) →
      left (suc n) ps at ≡ left n (ps ++ (shown bs p ∷ [])) (at + (28 + p.len))
  unfolding more
  left_on n ps at p lt w e r =
      let whole : length (take p.len (drop (p.place + 28) bs)) ≡ p.len = simp (length-take, length-drop) (omega arith) in
      one_more n ps at (drop at bs) (some_left at lt) ∙ follows (more n ps at) r
      ∙ ap (λ (m : ℕ). check_parts n book (ps ++ (shown bs p ∷ [])) (at + (28 + m)) (drop (28 + p.len) (drop at bs))) whole
      ∙ ap (λ (v : List ℕ). check_parts n book (ps ++ (shown bs p ∷ [])) (at + (28 + p.len)) v) (drop-drop (28 + p.len) at bs)

  none_left : (n : ℕ) (ps : List rules.Part) (at : ℕ) → check_parts n book ps at [] ≡ Ok ps
  none_left zero ps at = refl
  none_left (suc n) ps at = refl

  -- with the next part added to those so far
  pub left_turn : (ps qs : List Part) (at : ℕ) (p : Part) → at < length bs → length ps < 16 → qs ≡ ps ++ (p ∷ []) → GivesPart bs at (Ok p) (next_part book (map (shown bs) ps) at (drop at bs)) →
      left (17 - length ps) (map (shown bs) ps) at ≡ left (17 - length qs) (map (shown bs) qs) (at + (28 + p.len))
  left_turn ps qs at p lt few e w =
      let fuel : 17 - length ps ≡ suc (16 - length ps) = omega arith in
      let less : 16 - length ps ≡ 17 - length qs = omega (arith, ap length e, length-append ps (p ∷ [])) in
      let grown : map (shown bs) ps ++ (shown bs p ∷ []) ≡ map (shown bs) qs = sym (map_push (shown bs) ps p) ∙ ap (map (shown bs)) (sym e) in
      ap (λ (n : ℕ). left n (map (shown bs) ps) at) fuel
      ∙ left_on (16 - length ps) (map (shown bs) ps) at p lt w.1 w.2 w.0
      ∙ (λ i. left (less i) (grown i) (at + (28 + p.len)))
