-- Blanks and words of a line.
use Rattle.std.specs.Prelude.{ℕ, Bool, not, ◌||◌, List, length, take, drop, filter, ◌==◌, nat_lt}
use Rattle.std.specs.List.{prefix_len, slice_split}

-- a space, a tab or a carriage return
abbrev pub is_blank : ℕ → Bool
is_blank b = b == 32 || (b == 9 || b == 13)

abbrev pub in_word : ℕ → Bool
in_word b = not (is_blank b)

abbrev pub after_blanks : List ℕ → List ℕ
after_blanks bs = drop (prefix_len is_blank bs) bs

abbrev pub first_word : List ℕ → List ℕ
first_word bs = take (prefix_len in_word bs) bs

abbrev pub after_word : List ℕ → List ℕ
after_word bs = drop (prefix_len in_word bs) bs

abbrev pub no_blanks : List ℕ → List ℕ
no_blanks bs = filter in_word bs

-- what stands between blanks
abbrev pub words : List ℕ → List (List ℕ)
words bs = filter (λ w. nat_lt 0 (length w)) (slice_split is_blank bs)
