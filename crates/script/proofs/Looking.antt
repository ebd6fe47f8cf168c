-- Parts that are looked up by their number.
use Rattle.std.proofs.Common.{◌≡◌, ℕ, ◌<◌, ◌≤◌, List, map, length, get_or, take, Some, Ok, sym, ap, ◌∙◌, arith}
use native.Mathlib.Decide.{dec_lt}
use Rattle.std.specs.List.{slice_get}
use Rattle.std.proofs.lemmas.List.{get_or-map}
use Rattle.std.proofs.lemmas.Option.{slice_get-get_or, slice_get_past}
use Rattle.faults.specs.declared.causes.KeyCause.TheVariants.{BoundTwice, BoundWrong}
use Rattle.faults.specs.Numbers.{key_fault}
use Rattle.faults.specs.Results.{◌>>=◌, need}
use Rattle.protocol.specs.Lists.{all}
use Rattle.protocol.proofs.Tests.{none_some, some_same}
use Rattle.rules.specs.Lists.{distinct, from}
use Rattle.rules.specs.Script as rules
use Rattle.rules.specs.Script.{run, in_range, part_of, no_part, Keys, hand_over}
use Rattle.rules.specs.Check.{Checks, bound_right, command_keys}
use Rattle.script.specs.declared.part.Part.{Part}
use Rattle.script.specs.declared.scope.Scope.{Scope}
use Rattle.script.specs.Runs.{run_keys}
use Rattle.script.specs.Parts.{shown}
use Rattle.script.specs.Scopes.{scope_of}

-- what is found stands in the list, and what is not lies beyond it
pub found_in : {X : Type 0} (xs : List X) (i : ℕ) (x : X) → slice_get xs i ≡ Some x → i < length xs
found_in xs i x e = elim (dec_lt i (length xs)) [
  | yes lt ↦ lt
  | no nl ↦ let le : length xs ≤ i = omega (arith, nl) in absurd (none_some (sym (slice_get_past xs i le) ∙ e))
]

found_mapped : {X Y : Type 0} (f : X → Y) (xs : List X) (i : ℕ) (x : X) (e : Y) → slice_get xs i ≡ Some x → get_or (map f xs) i e ≡ f x
found_mapped f xs i x e q =
    let lt = found_in xs i x q in
    get_or-map f xs i x e lt ∙ ap f (some_same (sym (slice_get-get_or xs i x lt) ∙ q))

module _ (s : Scope) (p : ℕ) where
  abbrev below : List Part
  below = s.below.now

  part_found : (q : Part) → slice_get below p ≡ Some q → part_of (scope_of s) p ≡ shown s.draft.bytes.now q
  part_found q e = found_mapped (shown s.draft.bytes.now) below p q no_part e

  pub runs : (check : Checks) (place : ℕ) (bs : List ℕ) (ks : Keys) (q : Part) → slice_get below p ≡ Some q →
      command_keys check (scope_of s) place (run p bs) ks ≡ run_keys s.running place q bs ks
  runs check place bs ks q e = ap (λ (v : rules.Part).
      need (distinct (take v.handles bs)) (key_fault BoundTwice place) >>= (λ _.
      need (all (bound_right (scope_of s) ks v bs) (from 0 v.handles)) (key_fault BoundWrong place) >>= (λ _.
      Ok (hand_over ks (take v.handles bs) v.outs)))) (part_found q e)
