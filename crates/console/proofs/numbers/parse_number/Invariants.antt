use Rattle.std.proofs.Common.{◌≡◌, drop}
use Rattle.console.specs.Numbers.{with_digits}
use Rattle.console.proofs.numbers.parse_number.Given as goal

-- what is left decides, behind the number so far
abbrev pub invariant-loop-byte : goal.invariant-loop-byte
invariant-loop-byte l = with_digits 0 l.word ≡ with_digits l.number (drop l.byte-index l.word)
