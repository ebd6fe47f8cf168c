-- What a line asks of the player and the rig.
use Rattle.std.specs.Prelude.{ℕ, cond, List, [], ◌∷◌, Some, None, Ok, Err, codes, Option, Result, ◌==◌}
use Rattle.std.specs.Option.{option_and_then, option_map}
use Rattle.std.specs.Str.{bytes_eq}
use Rattle.console.specs.declared.line.NotUnderstood.{NotUnderstood}
use Rattle.console.specs.declared.stage.StageCommand.{StageCommand}
use Rattle.console.specs.declared.stage.StageCommand.TheVariants.{Player, Begin, Go, Look, Strike, Ports}
use Rattle.console.specs.Numbers.{at_most, number_in}
use Rattle.console.specs.Words.{after_blanks, after_word, first_word}

abbrev pub alone : {X : Type 0} → X → List ℕ → Option X
alone x [] = Some x
alone x (b ∷ bs) = None

-- the value, unless more words follow
abbrev pub nothing_after : {X : Type 0} → X → List ℕ → Option X
nothing_after x rest = alone x (after_blanks rest)

-- the number that is the last word
abbrev pub last_number : List ℕ → Option ℕ
last_number text = option_and_then (λ n. nothing_after n (after_word text)) (number_in (first_word text))

-- a port has a number of one byte
abbrev pub port_in : List ℕ → Option ℕ
port_in rest = option_and_then (at_most 255) (last_number (after_blanks rest))

abbrev pub room_from : List ℕ → Option ℕ
room_from [] = Some 2000
room_from (b ∷ bs) = option_and_then (at_most 4096) (last_number (b ∷ bs))

-- the length of the log, at most 4096 entries, and 2000 where none is named
abbrev pub room_in : List ℕ → Option ℕ
room_in rest = room_from (after_blanks rest)

-- the steps, and the log
abbrev pub go_command : List ℕ → Option StageCommand
go_command text =
    option_and_then (λ steps. option_map (λ room. Go steps room) (room_in (after_word text))) (number_in (first_word text))

-- by its first word, and what follows it
abbrev pub stage_command : List ℕ → List ℕ → Option StageCommand
stage_command word rest =
    cond (bytes_eq word (codes "player")) (nothing_after Player rest)
    (cond (bytes_eq word (codes "begin")) (nothing_after Begin rest)
    (cond (bytes_eq word (codes "go")) (go_command (after_blanks rest))
    (cond (bytes_eq word (codes "look")) (option_map (λ port. Look port) (port_in rest))
    (cond (bytes_eq word (codes "strike")) (option_map (λ room. Strike room) (room_in rest))
    (cond (bytes_eq word (codes "ports")) (nothing_after Ports rest) None)))))

abbrev pub or_not_understood : Option StageCommand → Result StageCommand NotUnderstood
or_not_understood (Some command) = Ok command
or_not_understood None = Err (record {})

abbrev pub stage_text : List ℕ → Option (Result StageCommand NotUnderstood)
stage_text [] = None
stage_text (b ∷ bs) = cond (b == 35) None (Some (or_not_understood (stage_command (first_word (b ∷ bs)) (after_word (b ∷ bs)))))

-- a line that may ask for nothing
abbrev pub stage_line : List ℕ → Option (Result StageCommand NotUnderstood)
stage_line bs = stage_text (after_blanks bs)
