-- A layer that renames letters.
use Rattle.std.specs.Prelude.{◌≡◌, ℕ, Bool, cond, Some, None, Option}
use Rattle.std.specs.Option.{unwrap_or}
use Rattle.protocol.specs.Tables.{Table, allowed}
use Rattle.device.specs.declared.letter_map.LetterMap.{LetterMap}
use Rattle.device.specs.declared.patch.Patch.{Patch}
use Rattle.device.specs.LetterMap.{down}
use Rattle.device.specs.Meaning.{Meaning, Hears}

-- where an edge leads by the letter below
abbrev pub led_by : Table → ℕ → Option ℕ → ℕ → Option ℕ
led_by e s (Some k) a = e s k a
led_by e s None a = None

abbrev pub renamed : LetterMap → Table → Table
renamed map e s l a = led_by e s (down map l) a

-- the station is 16 where the patch itself is stuck; letters and the count of them are its own
abbrev pub patched : LetterMap → Bool → ℕ → ℕ → ℕ → Meaning → Meaning
patched map stuck h l a m = record {
  table = renamed map m.table;
  station = cond stuck 16 m.station;
  heard = h;
  letter = l;
  answer = a;
  memory = m.memory;
  rule = λ mem l a. m.rule mem (unwrap_or (down map l) 255) a;
}

abbrev pub patch_meaning : {D : Type 0} → (D → Meaning) → Patch D → Meaning
patch_meaning meaning p = patched p.map p.stuck p.tally.heard p.tally.letter p.tally.answer (meaning p.below)

-- the letter that goes down; none where it is not allowed
abbrev pub passes : LetterMap → Bool → Meaning → ℕ → Option ℕ
passes map stuck m l = cond (allowed (renamed map m.table) (cond stuck 16 m.station) l) (down map l) None

abbrev pub passed : {D : Type 0} → (D → Meaning) → Patch D → ℕ → Option ℕ
passed meaning p l = passes p.map p.stuck (meaning p.below) l

-- the device below hears the letter that goes down, or stays as it was
abbrev pub HeardBelow : {D : Type 0} → (D → Meaning) → Option ℕ → D → ℕ → D → Type 0
HeardBelow meaning (Some k) d a d' = Hears (meaning d) k a (meaning d')
HeardBelow meaning None d a d' = d' ≡ d
