-- The bytes of a map: letters, or 255 for none.
use Rattle.std.specs.Prelude.{◌≡◌, ℕ, zero, suc, ◌<◌, Bool, cond, ◌&&◌, ◌||◌, List, [], ◌∷◌, map, Some, None, Option, ◌==◌, nat_lt, slice_index, slice_index_or}
use Rattle.std.proofs.Common.{subst}
use Rattle.protocol.proofs.Tests.{less, none_some, taken}

abbrev pub letter_or_none : ℕ → Bool
letter_or_none b = nat_lt b 16 || b == 255

-- the letter below a letter, as the bytes say
abbrev pub below_in : List ℕ → ℕ → Option ℕ
below_in bs l = cond (nat_lt l 16 && nat_lt (slice_index bs l) 16) (Some (slice_index bs l)) None

abbrev pub letter_of : ℕ → Option ℕ
letter_of b = cond (nat_lt b 16) (Some b) None

-- below a letter there is a letter or none
abbrev pub AreLetters : List (Option ℕ) → Type 0
AreLetters ls = (k l : ℕ) → slice_index_or ls k None ≡ Some l → l < 16

pub AreLetters-of : (bs : List ℕ) → AreLetters (map letter_of bs)
AreLetters-of [] k l e = absurd (none_some e)
AreLetters-of (b ∷ bs) zero l e = let w = taken (nat_lt b 16) b l e in subst (λ (n : ℕ). n < 16) w.1 (less b 16 w.0)
AreLetters-of (b ∷ bs) (suc k) l e = AreLetters-of bs k l e
