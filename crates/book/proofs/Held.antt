-- The automata of a held book are those of its kinds.
use Rattle.std.proofs.Common.{◌≡◌, ℕ, zero, suc, ◌<◌, ltb, List, [], ◌∷◌, length, get_or, is_some, None, Some, Option, MatchOption, sym, ap, ◌∙◌, subst, le_of_suc-le-suc, arith, Bor}
use Rattle.std.proofs.lemmas.List.{get_or_past}
use Rattle.std.proofs.lemmas.Slice.Zip.{AllZip-long}
use Rattle.std.specs.List.{HoldsAt}
use Rattle.std.specs.Slice.{IsItemAt}
use Rattle.book.specs.declared.automaton.Automaton.{Automaton}
use Rattle.book.specs.Automata.{Shows, Listed}
use Rattle.book.specs.Kinds.{Kind, no_kind}

shown_at : (xs : List Automaton) (ks : List Kind) (k : ℕ) (a : Automaton) → Listed xs ks → k < length xs → HoldsAt (λ y. a ≡ y) xs k → Shows a (get_or ks k no_kind)
shown_at [] ks k a w lt e = absurd (omega (arith, lt))
shown_at (x ∷ xs) [] k a w lt e = absurd w
shown_at (x ∷ xs) (y ∷ ks) zero a w lt e = subst (λ v. Shows v y) (sym (e x)) w.0
shown_at (x ∷ xs) (y ∷ ks) (suc k) a w lt e = shown_at xs ks k a w.1 (le_of_suc-le-suc lt) e

-- the automaton of a kind is there with the kind, and shows it
pub looked_up : (xs : List Automaton) (ks : List Kind) (k : ℕ) (r : Option (Bor Automaton)) → Listed xs ks → IsItemAt xs k r →
    (is_some r ≡ ltb k (length ks)) × MatchOption r (get_or ks k no_kind ≡ no_kind) (λ a. Shows a.now (get_or ks k no_kind))
looked_up xs ks k None w i =
    let long = AllZip-long Shows xs ks w in
    (i.0 ∙ ap (ltb k) (sym long), get_or_past ks k no_kind (omega (arith, long, i.3)))
looked_up xs ks k (Some a) w i = (i.0 ∙ ap (ltb k) (sym (AllZip-long Shows xs ks w)), shown_at xs ks k a.now w i.3.0 i.3.1)
