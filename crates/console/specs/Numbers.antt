-- Numbers written as decimal digits.
use Rattle.std.specs.Prelude.{ℕ, ◌+◌, ◌-◌, ◌*◌, cond, ◌||◌, List, [], ◌∷◌, length, Some, None, Option, nat_eq, nat_le, nat_lt}
use Rattle.std.specs.Option.{option_and_then}
use Rattle.console.specs.Hex.{within}

abbrev pub at_most : ℕ → ℕ → Option ℕ
at_most most n = cond (nat_le n most) (Some n) None

-- the digits 0 to 9
abbrev pub digit_of : ℕ → Option ℕ
digit_of c = cond (within 48 57 c) (Some (c - 48)) None

-- the number with a digit more
abbrev pub with_digit : ℕ → ℕ → Option ℕ
with_digit n c = option_and_then (λ d. at_most 4294967295 (10 * n + d)) (digit_of c)

abbrev pub with_digits : ℕ → List ℕ → Option ℕ
with_digits n [] = Some n
with_digits n (c ∷ cs) = option_and_then (λ m. with_digits m cs) (with_digit n c)

-- one to ten digits
abbrev pub number_in : List ℕ → Option ℕ
number_in word = cond (nat_eq (length word) 0 || nat_lt 10 (length word)) None (with_digits 0 word)
