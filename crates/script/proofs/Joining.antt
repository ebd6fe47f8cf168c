-- What values have in common, and blocks that must be empty.
use Rattle.std.proofs.Common.{◌≡◌, ℕ, suc, ◌<◌, Bool, true, false, cond, ◌&&◌, ◌||◌, eqb, List, [], ◌∷◌, map, length, get_or, drop, is_some, Some, None, Option, sym, refl, ap, ◌∙◌, arith}
use Rattle.std.specs.Bool.{then_some}
use Rattle.std.specs.List.{list_all, zip}
use Rattle.protocol.specs.Lists.{all}
use Rattle.protocol.proofs.Tests.{other_numbers}
use Rattle.rules.specs.Lists.{empty, same}
use Rattle.rules.specs.Script.{Keys}
use Rattle.rules.specs.Check.{join, undeclared_empty}
use Rattle.script.specs.declared.block.Block as code
use Rattle.script.specs.Ends.{common_by}
use Rattle.script.specs.Pieces.{piece}

module _ (test : Keys → Keys → Bool) (is_same : (a b : Keys) → test b a ≡ same a b) where
  all_same : (ks : Keys) (ends : List Keys) → all (same ks) ends ≡ list_all (λ e. test e ks) ends
  all_same ks [] = refl
  all_same ks (e ∷ ends) = λ i. sym (is_same ks e) i && all_same ks ends i

  pub join_common : (ends : List Keys) → join ends ≡ common_by test ends
  join_common [] = refl
  join_common (ks ∷ ends) = ap (λ b. cond b (Some ks) None) (all_same ks ends)

none_left : (ts : List (Option ℕ)) → undeclared_empty ts [] ≡ true
none_left [] = refl
none_left (None ∷ ts) = none_left ts
none_left (Some t ∷ ts) = none_left ts

no_bytes : (bs : List ℕ) → eqb (length bs) 0 ≡ empty bs
no_bytes [] = refl
no_bytes (b ∷ bs) = other_numbers (suc (length bs)) 0 (λ e. omega arith)

abbrev pub one_spare : Option ℕ × code.Block → Bool
one_spare p = is_some p.0 || eqb (length p.1.bytes.now) 0

pub all_spare : (ts : List (Option ℕ)) (bs : List code.Block) → list_all one_spare (zip ts bs) ≡ undeclared_empty ts (map piece bs)
all_spare [] bs = refl
all_spare (None ∷ ts) [] = sym (none_left ts)
all_spare (Some t ∷ ts) [] = sym (none_left ts)
all_spare (None ∷ ts) (b ∷ bs) = λ i. no_bytes b.bytes.now i && all_spare ts bs i
all_spare (Some t ∷ ts) (b ∷ bs) = all_spare ts bs

-- One by one

pub common_first : {X : Type 0} (test : X → X → Bool) (xs : List X) (x : X) (r : Bool) → 0 < length xs → x ≡ get_or xs 0 x → r ≡ list_all (λ y. test y x) (drop 1 xs) → common_by test xs ≡ then_some r x
common_first test [] x r lt e q = absurd (omega arith)
common_first test (y ∷ ys) x r lt e q = ap (λ z. cond (list_all (λ v. test v z) ys) (Some z) None) (sym e) ∙ ap (λ b. cond b (Some x) None) (sym q) ∙ by r
  where
    by : (b : Bool) → cond b (Some x) None ≡ then_some b x
    by true = refl
    by false = refl
