-- From ten on, the text of a number is that of its front and then its last digit, whatever stands before it.
use Rattle.std.proofs.Common.{◌≡◌, ℕ, ◌/◌, ◌%◌, ◌<◌, ◌≤◌, List, ◌++◌, decimal, sym, ap, ◌∙◌, arith}
use Rattle.std.proofs.lemmas.Fmt.{decimal_digit, decimal_step}
use Rattle.std.proofs.lemmas.List.{append_assoc}

pub last_digit : (text : List ℕ) (n : ℕ) → 10 ≤ n → n < 256 → (text ++ decimal (n / 10)) ++ decimal (n % 10) ≡ text ++ decimal n
last_digit text n high low =
    append_assoc text _ _
    ∙ ap (λ ds. text ++ (decimal (n / 10) ++ ds)) (decimal_digit (n % 10) (omega arith))
    ∙ ap (λ ds. text ++ ds) (sym (decimal_step n high (omega arith)))
