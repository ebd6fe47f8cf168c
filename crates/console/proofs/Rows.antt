-- An input, row by row.
use Rattle.std.proofs.Common.{◌≡◌, ℕ, ◌+◌, ◌-◌, ◌<◌, ◌≤◌, ◌==◌, false, List, [], ◌∷◌, ◌++◌, length, take, drop, get_or, Some, None, sym, ap, ◌∙◌, arith, append_assoc, length-drop, length-take-le, map, take-append-drop, get_or-take, take_all}
use Rattle.std.specs.List.{All}
use Rattle.std.proofs.lemmas.Bool.{false_from_ne_true}
use Rattle.std.proofs.lemmas.List.{drop-drop, drop_more, take_rest}
use Rattle.std.proofs.lemmas.List.Elements.{All-from_get_or}
use Rattle.std.proofs.lemmas.List.Splits.{slice_split_at, slice_split_none}
use Rattle.memchr.specs.Find.{IsFirstByte, Nowhere, Passes, is_byte}
use Rattle.console.specs.Lines.{Numbered, Parsed, asked_at, asked_from, line_of, lines_of}

no_newline : (bs : List ℕ) (n : ℕ) → n ≤ length bs → Nowhere (Passes (is_byte 10) bs) 0 n → All (λ b. (b == 10) ≡ false) (take n bs)
no_newline bs n within none =
    All-from_get_or (λ b. (b == 10) ≡ false) (take n bs) 0
    (λ i below.
    let lt : i < n = omega (arith, length-take-le n bs within) in
    rw (get_or-take n bs i 0 lt) (false_from_ne_true _ (none i (omega arith) lt)))

-- no newline: one row
pub last_row : (bs : List ℕ) → IsFirstByte (is_byte 10) bs None → lines_of bs ≡ line_of bs ∷ []
last_row bs none =
    let all : All (λ b. (b == 10) ≡ false) (take (length bs) bs) = no_newline bs (length bs) (omega arith) none in
    ap (map line_of) (slice_split_none (λ b. b == 10) bs (rw (take_all (length bs) bs (omega arith)) at all))

-- the row before the first newline, and what follows it
pub first_row : (bs row after : List ℕ) (n : ℕ) → IsFirstByte (is_byte 10) bs (Some n) → row ≡ take n bs → after ≡ drop n bs → lines_of bs ≡ line_of row ∷ lines_of (take (length after - 1) (drop 1 after))
first_row bs row after n found front back =
    let lt : n < length bs = found.0.high in
    let parts : take n bs ++ get_or bs n 0 ∷ drop (n + 1) bs ≡ bs = ap (λ l. take n bs ++ l) (sym (drop_more bs n 0 lt)) ∙ take-append-drop n bs in
    let behind : take (length after - 1) (drop 1 after) ≡ drop (n + 1) bs = take_rest after 1 ∙ ap (drop 1) back ∙ drop-drop 1 n bs in
    ap lines_of (sym parts)
    ∙ ap (map line_of) (slice_split_at (λ b. b == 10) (take n bs) (get_or bs n 0) (drop (n + 1) bs) (no_newline bs n (omega arith) found.0.before) found.1)
    ∙ ap (λ l. line_of l ∷ lines_of (drop (n + 1) bs)) (sym front) ∙ ap (λ l. line_of row ∷ lines_of l) (sym behind)

-- what follows the newline is shorter, by a row and more
pub fewer : (bs after : List ℕ) (n number most : ℕ) → IsFirstByte (is_byte 10) bs (Some n) → after ≡ drop n bs → number + length bs ≤ most → number + 1 + length (take (length after - 1) (drop 1 after)) ≤ most
fewer bs after n number most found back few =
    let lt : n < length bs = found.0.high in
    let left : length after ≡ length bs - n = ap length back ∙ length-drop n bs in
    let behind : length (take (length after - 1) (drop 1 after)) ≡ length after - 1 = ap length (take_rest after 1) ∙ length-drop 1 after in
    omega (arith, left, behind)

-- what asks for something in the rows so far, and the next
pub row_more : (done longer all : List Numbered) (x : Parsed) (row : List ℕ) (n : ℕ) (rest tail : List Parsed) → all ≡ done ++ asked_from n rest → rest ≡ line_of row ∷ tail → x ≡ line_of row → longer ≡ done ++ asked_at n x → all ≡ longer ++ asked_from (n + 1) tail
row_more done longer all x row n rest tail so_far first same kept =
    so_far ∙ ap (λ ls. done ++ asked_from n ls) (first ∙ ap (λ y. y ∷ tail) (sym same)) ∙ sym (append_assoc done (asked_at n x) (asked_from (n + 1) tail))
    ∙ ap (λ ns. ns ++ asked_from (n + 1) tail) (sym kept)
