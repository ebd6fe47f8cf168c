use Rattle.std.proofs.Common.{ℕ, ◌≤◌, sym, subst, arith}
use Rattle.std.proofs.lemmas.List.FromFn.{get_or-map-range_with_len}
use Rattle.std.specs.Option.{unwrap_or}
use Rattle.console.specs.Hex.{hex_value}
use Rattle.console.proofs.digits.digit_value.Goals as goal

abbrev value_or_none : ℕ → ℕ
value_or_none c = unwrap_or (hex_value c) 256

value_within : (c : ℕ) → value_or_none c ≤ 256
value_within c = grind arith

-- the table is the list of all values
pub returns : goal.returns
returns c =
    let value = get_or-map-range_with_len value_or_none 0 256 c.args.byte c.args.byte 0 (omega arith) (omega arith) in
    record {
      value = value;
      within = subst (λ (v : ℕ). v ≤ 256) (sym value) (value_within c.args.byte);
    }
