-- What a line of input asks for, by its bytes.
use Rattle.std.specs.Prelude.{ℕ, ◌+◌, cond, List, [], ◌∷◌, ◌++◌, map, length, Some, None, codes, Option, ◌==◌, nat_le}
use Rattle.std.specs.List.{slice_split}
use Rattle.std.specs.Option.{option_map}
use Rattle.std.specs.Str.{bytes_eq}
use Rattle.console.specs.declared.line.Verb.{Verb}
use Rattle.console.specs.declared.line.Verb.TheVariants.{Book, Script, Rig}
use Rattle.console.specs.declared.stage.StageCommand.{StageCommand}
use Rattle.console.specs.Commands.{stage_command}
use Rattle.console.specs.Devices.{all_some, device_of}
use Rattle.console.specs.Hex.{hex_bytes}
use Rattle.console.specs.Plans.{Planned}
use Rattle.console.specs.Words.{after_blanks, after_word, first_word, no_blanks, words}

pub data Parsed : Type 0 where
  blank : Parsed
  book : List ℕ → Parsed
  script : List ℕ → Parsed
  rig : List Planned → Parsed
  stage : StageCommand → Parsed
  unknown : Parsed

abbrev pub known : (List ℕ → Parsed) → Option (List ℕ) → Parsed
known command None = unknown
known command (Some bs) = command bs

-- a command and the bytes that follow it
abbrev pub bytes_line : (List ℕ → Parsed) → List ℕ → Parsed
bytes_line command digits = known command (hex_bytes (no_blanks digits))

-- at most eight devices
abbrev pub rig_of : Option (List Planned) → Option Parsed
rig_of None = None
rig_of (Some ps) = cond (nat_le (length ps) 8) (Some (rig ps)) None

abbrev pub known_line : Option Parsed → Parsed
known_line None = unknown
known_line (Some line) = line

abbrev pub verb_of : List ℕ → Option Verb
verb_of word =
    cond (bytes_eq word (codes "book")) (Some Book)
    (cond (bytes_eq word (codes "script")) (Some Script)
    (cond (bytes_eq word (codes "rig")) (Some Rig) None))

-- a verb and what follows it; another word asks something of the player and the rig, if anything
abbrev pub command_of : Option Verb → List ℕ → List ℕ → Parsed
command_of (Some Book) word rest = bytes_line book rest
command_of (Some Script) word rest = bytes_line script rest
command_of (Some Rig) word rest = known_line (rig_of (all_some (map device_of (words rest))))
command_of None word rest = known_line (option_map stage (stage_command word rest))

abbrev pub worded : List ℕ → List ℕ → Parsed
worded word rest = command_of (verb_of word) word rest

-- 35 is `#`, which begins a remark
abbrev pub text_line : List ℕ → Parsed
text_line [] = blank
text_line (b ∷ bs) = cond (b == 35) blank (worded (first_word (b ∷ bs)) (after_word (b ∷ bs)))

abbrev pub line_of : List ℕ → Parsed
line_of bs = text_line (after_blanks bs)

-- the lines between newlines, which are 10; after the last newline there is a blank one more, which nothing answers
abbrev pub lines_of : List ℕ → List Parsed
lines_of bs = map line_of (slice_split (λ b. b == 10) bs)

-- a line that asks for something, with its number
pub record Numbered : Type 0 where
  pub number : ℕ
  pub line : Parsed

abbrev pub asked_at : ℕ → Parsed → List Numbered
asked_at number blank = []
asked_at number (book bs) = record { number = number; line = book bs } ∷ []
asked_at number (script bs) = record { number = number; line = script bs } ∷ []
asked_at number (rig plans) = record { number = number; line = rig plans } ∷ []
asked_at number (stage command) = record { number = number; line = stage command } ∷ []
asked_at number unknown = record { number = number; line = unknown } ∷ []

-- those among the lines from that number on
abbrev pub asked_from : ℕ → List Parsed → List Numbered
asked_from number [] = []
asked_from number (line ∷ lines) = asked_at number line ++ asked_from (number + 1) lines
