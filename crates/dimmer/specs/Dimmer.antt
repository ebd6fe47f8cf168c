-- A dimmer: what it means, and what it answers.
use Rattle.std.specs.Prelude.{ℕ, cond, [], ◌∷◌}
use Rattle.protocol.specs.Tables.{allowed}
use Rattle.device.specs.Meaning.{Meaning}
use Rattle.dimmer.specs.declared.Dimmer.{Dimmer}
use Rattle.dimmer.specs.Lamp.{dimmer_rule, dimmer_table, reply_of}

abbrev pub dimmer_meaning : Dimmer → Meaning
dimmer_meaning d = record {
  table = dimmer_table;
  station = d.station;
  heard = d.tally.heard;
  letter = d.tally.letter;
  answer = d.tally.answer;
  memory = d.level ∷ [];
  rule = dimmer_rule;
}

-- its reply to a letter that is allowed, and 255 to any other
abbrev pub answer_of : Dimmer → ℕ → ℕ
answer_of d l = cond (allowed dimmer_table d.station l) (reply_of d.station d.level l) 255
