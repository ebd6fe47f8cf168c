-- A map of letters is what its bytes say.
use Rattle.std.proofs.Common.{◌≡◌, ℕ, ◌<◌, true, cond, List, map, length, Ok, Err, None, Some, Option, IfSome, refl, sym, ap, ◌∙◌, subst, Bool, false, ◌&&◌, nat_lt, slice_index, slice_index_or}
use Rattle.std.specs.Array.{IsMapOf}
use Rattle.std.specs.Fn.{Called}
use Rattle.std.specs.List.{list_all}
use Rattle.std.proofs.lemmas.List.{same_lists, get_or-map, length-map}
use Rattle.std.proofs.Math.Bridge.{le_prop}
use denote.Param.Members.{Mut}
use Rattle.faults.specs.declared.causes.StageCause.TheVariants.{BadMap}
use Rattle.faults.specs.Numbers.{nowhere, stage_fault}
use Rattle.protocol.proofs.Tests.{and_true, equal_numbers, less}
use Rattle.device.specs.declared.letter_map.LetterMap.{LetterMap}
use Rattle.device.specs.Letters.{AreLetters, below_in, letter_of, letter_or_none}
use Rattle.device.specs.LetterMap.{letters_in, map_from}

-- an array's `map`, with a function that keeps no state, is a list's
pub mapped : {F A B : Type 0} {g : Mut F (A × Unit {0}) B} {f : F} {xs : List A} {ys : List B} {n : ℕ} (h : A → B) → A → IsMapOf g f xs ys n → length xs ≡ n →
    ((p q : F) (x : A) (y : B) → Called g p (x, tt) y q → y ≡ h x) → ys ≡ map h xs
mapped {xs = xs} {ys = ys} h d w long called = same_lists ys (map h xs) (w.long ∙ sym long ∙ sym (length-map xs h)) (λ i e lt.
    let v = w.at i d e (subst (λ n. i < n) w.long lt) in called v.0 v.1 _ _ v.2 ∙ sym (get_or-map h xs i d e (subst (λ n. i < n) (w.long ∙ sym long) lt)))

same_map : (m n : LetterMap) → m.letters ≡ n.letters → m ≡ n
same_map m n e = subst (λ ls. (k : AreLetters ls) → m ≡ record { letters = ls; known = k }) e (λ k i. record { letters = m.letters; known = λ a l h. le_prop (m.known a l h) (k a l h) i }) n.known

pub read : (bs : List ℕ) (m : LetterMap) → length bs ≡ 16 → list_all letter_or_none bs ≡ true → m.letters ≡ map letter_of bs → Ok m ≡ map_from bs
read bs m long fit e =
    ap Ok (same_map m (letters_in bs) e)
    ∙ ap (λ b. cond b (Ok (letters_in bs)) (Err (stage_fault BadMap nowhere))) (sym (and_true (equal_numbers long) fit))

pub below_read : (ls : List (Option ℕ)) (bs : List ℕ) → length bs ≡ 16 → ls ≡ map letter_of bs → (l : ℕ) → cond (nat_lt l 16) (slice_index_or ls l None) None ≡ below_in bs l
below_read ls bs long e l = ap (λ (xs : List (Option ℕ)). cond (nat_lt l 16) (slice_index_or xs l None) None) e ∙ by (nat_lt l 16) refl
  where
    by : (b : Bool) → nat_lt l 16 ≡ b → cond b (slice_index_or (map letter_of bs) l None) None ≡ cond (b && nat_lt (slice_index bs l) 16) (Some (slice_index bs l)) None
    by true h = get_or-map letter_of bs l 0 None (subst (λ n. l < n) (sym long) (less l 16 h))
    by false h = refl

pub small : (o : Option ℕ) → ((l : ℕ) → o ≡ Some l → l < 16) → IfSome o (λ l. l < 16)
small (Some l) h = h l refl
small None h = tt
