-- Pairs of digits, read from the left.
use Rattle.std.proofs.Common.{◌≡◌, ℕ, true, ◌+◌, ◌*◌, ◌<◌, ◌≤◌, ◌-◌, List, [], ◌∷◌, ◌++◌, length, take, drop, get_or, set, length-set, Some, None, Option, refl, sym, ap, ◌∙◌, append_assoc, arith}
use Rattle.std.proofs.lemmas.Bool.{cond-true}
use Rattle.std.proofs.lemmas.Grind.{take-set_at}
use Rattle.std.proofs.lemmas.List.{drop-drop, drop-set-lt, take_more_set, take_rest}
use Rattle.console.specs.Hex.{byte_of, hex_byte, hex_bytes, hex_value, onto}
use Rattle.console.specs.Words.{in_word, no_blanks}
use Rattle.console.proofs.Somes.{behind}

behind_push : (bs : List ℕ) (b : ℕ) (o : Option (List ℕ)) → behind bs (onto (Some b) o) ≡ behind (bs ++ b ∷ []) o
behind_push bs b None = refl
behind_push bs b (Some cs) = ap Some (sym (append_assoc bs (b ∷ []) cs))

-- a pair is a byte more
pub one_more : (bs : List ℕ) (c d b : ℕ) (cs : List ℕ) → Some b ≡ hex_byte c d → behind bs (hex_bytes (c ∷ d ∷ cs)) ≡ behind (bs ++ b ∷ []) (hex_bytes cs)
one_more bs c d b cs pair = ap (λ x. behind bs (onto x (hex_bytes cs))) (sym pair) ∙ behind_push bs b (hex_bytes cs)

pub pair_more : (bs s : List ℕ) (b : ℕ) → 2 ≤ length s → Some b ≡ hex_byte (get_or s 0 0) (get_or s 1 0) → behind bs (hex_bytes s) ≡ behind (bs ++ b ∷ []) (hex_bytes (take (length s - 2) (drop 2 s)))
pair_more bs [] b long pair = absurd (omega arith)
pair_more bs (c ∷ []) b long pair = absurd (omega arith)
pair_more bs (c ∷ d ∷ cs) b long pair = one_more bs c d b cs pair ∙ ap (λ ds. behind (bs ++ b ∷ []) (hex_bytes ds)) (sym (take_rest (c ∷ d ∷ cs) 2))

digit_in_word : (c h : ℕ) → hex_value c ≡ Some h → in_word c ≡ true
digit_in_word c h digit = grind arith

in_front : (c h : ℕ) (cs : List ℕ) → hex_value c ≡ Some h → no_blanks (c ∷ cs) ≡ c ∷ no_blanks cs
in_front c h cs digit = cond-true (in_word c) (c ∷ no_blanks cs) (no_blanks cs) (digit_in_word c h digit)

by_values : (c d b : ℕ) (cs : List ℕ) (high low : Option ℕ) → hex_value c ≡ high → hex_value d ≡ low → Some b ≡ byte_of high low → no_blanks (c ∷ d ∷ cs) ≡ c ∷ d ∷ no_blanks cs
by_values c d b cs None low first second pair = cc
by_values c d b cs (Some h) None first second pair = cc
by_values c d b cs (Some h) (Some l) first second pair = in_front c h (d ∷ cs) first ∙ ap (λ ds. c ∷ ds) (in_front d l cs second)

-- a pair side by side is a byte more
side_by_side : (bs : List ℕ) (c d b : ℕ) (cs : List ℕ) → Some b ≡ hex_byte c d → behind bs (hex_bytes (no_blanks (c ∷ d ∷ cs))) ≡ behind (bs ++ b ∷ []) (hex_bytes (no_blanks cs))
side_by_side bs c d b cs pair = ap (λ ds. behind bs (hex_bytes ds)) (by_values c d b cs (hex_value c) (hex_value d) refl refl pair) ∙ one_more bs c d b (no_blanks cs) pair

-- and two of them are two
two_more : (bs s : List ℕ) (x y : ℕ) → 4 ≤ length s → Some x ≡ hex_byte (get_or s 0 0) (get_or s 1 0) → Some y ≡ hex_byte (get_or s 2 0) (get_or s 3 0) →
    behind bs (hex_bytes (no_blanks s)) ≡ behind ((bs ++ x ∷ []) ++ y ∷ []) (hex_bytes (no_blanks (drop 4 s)))
two_more bs (a ∷ b ∷ c ∷ d ∷ cs) x y long first second = side_by_side bs a b x (c ∷ d ∷ cs) first ∙ side_by_side (bs ++ x ∷ []) c d y cs second
two_more bs [] x y long first second = absurd (omega arith)
two_more bs (a ∷ []) x y long first second = absurd (omega arith)
two_more bs (a ∷ b ∷ []) x y long first second = absurd (omega arith)
two_more bs (a ∷ b ∷ c ∷ []) x y long first second = absurd (omega arith)

-- the bytes in front of a text, and what the text from a place on spells
abbrev pub so_far : List ℕ → ℕ → ℕ → Option (List ℕ)
so_far t len from = behind (take len t) (hex_bytes (no_blanks (drop from t)))

-- a byte is written in front of what is still to be read
module _ (t : List ℕ) (len from : ℕ) where
  pub one_written : (after high low x : ℕ) → len < after → len < length t → no_blanks (drop from t) ≡ high ∷ low ∷ no_blanks (drop after t) → Some x ≡ hex_byte high low →
      so_far t len from ≡ so_far (set t len x) (len + 1) after
  one_written after high low x before within digits pair =
      ap (λ ds. behind (take len t) (hex_bytes ds)) digits ∙ one_more (take len t) high low x (no_blanks (drop after t)) pair
      ∙ ap (λ bs. behind bs (hex_bytes (no_blanks (drop after t)))) (sym (take_more_set t len x within))
      ∙ ap (λ ds. behind (take (len + 1) (set t len x)) (hex_bytes (no_blanks ds))) (sym (drop-set-lt after t len x before))

  pub two_written : (s : List ℕ) (x y : ℕ) → s ≡ drop from t → 2 * len ≤ from → from + 4 ≤ length t → 4 ≤ length s →
      Some x ≡ hex_byte (get_or s 0 0) (get_or s 1 0) → Some y ≡ hex_byte (get_or s 2 0) (get_or s 3 0) →
      so_far t len from ≡ so_far (set (set t len x) (len + 1) y) (len + 2) (from + 4)
  two_written s x y rest room within long first second =
      let one : List ℕ = set t len x in
      let more : len + 1 < length one = omega (arith, length-set {A = ℕ}) in
      let front : take (len + 2) (set one (len + 1) y) ≡ (take len t ++ x ∷ []) ++ y ∷ [] =
      take-set_at one (len + 1) (len + 2) y (omega arith) more ∙ ap (λ bs. bs ++ y ∷ []) (take_more_set t len x (omega arith)) in
      let back : drop (from + 4) (set one (len + 1) y) ≡ drop 4 s =
      drop-set-lt (from + 4) one (len + 1) y (omega arith) ∙ drop-set-lt (from + 4) t len x (omega arith) ∙ sym (drop-drop 4 from t) ∙ ap (drop 4) (sym rest) in
      ap (λ ds. behind (take len t) (hex_bytes (no_blanks ds))) (sym rest) ∙ two_more (take len t) s x y long first second
      ∙ ap (λ bs. behind bs (hex_bytes (no_blanks (drop 4 s)))) (sym front)
      ∙ ap (λ ds. behind (take (len + 2) (set one (len + 1) y)) (hex_bytes (no_blanks ds))) (sym back)
