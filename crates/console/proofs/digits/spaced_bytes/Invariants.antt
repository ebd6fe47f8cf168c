use Rattle.std.proofs.Common.{◌≡◌, ◌*◌, ◌-◌, ◌≤◌, length}
use Rattle.console.specs.Hex.{hex_bytes}
use Rattle.console.specs.Words.{no_blanks}
use Rattle.console.proofs.Pairs.{so_far}
use Rattle.console.proofs.digits.spaced_bytes.Given as goal

-- what is left decides, behind the bytes so far, which have replaced digits that are read
abbrev pub invariant-loop-text : goal.invariant-loop-text
invariant-loop-text l = record {
  same : hex_bytes (no_blanks l.initial.text) ≡ so_far l.text l.len l.from;
  room : 2 * l.len ≤ l.from;
  within : l.from ≤ length l.text;
  long : length l.text ≡ length l.initial.text;
}

abbrev pub decreases-loop-text : goal.decreases-loop-text
decreases-loop-text l = length l.text - l.from
