-- Refusals in words.
use Rattle.std.specs.Prelude.{ℕ, cond, List, ◌++◌, codes, decimal, ◌==◌}
use Rattle.faults.specs.declared.causes.BookCause.TheVariants as book
use Rattle.faults.specs.declared.causes.LayoutCause.TheVariants as layout
use Rattle.faults.specs.declared.causes.KeyCause.TheVariants as keys
use Rattle.faults.specs.declared.causes.StageCause.TheVariants as stage
use Rattle.faults.specs.declared.causes.Cause.{Cause}
use Rattle.faults.specs.declared.causes.Cause.TheVariants.{Book, Layout, Keys, Stage}
use Rattle.faults.specs.declared.fault.Fault.{Fault}
use Rattle.faults.specs.Numbers.{nowhere, number_of}

abbrev pub reason_of : Cause → List ℕ
reason_of (Book book.TooLong) = codes "the book has more than 8192 bytes"
reason_of (Book book.UnknownCommand) = codes "this is no command of a book"
reason_of (Book book.MissingOperands) = codes "the book ends before the operands of this command do"
reason_of (Book book.OutOfRange) = codes "an operand is out of range, the kind is not the next number, or no kind is declared yet"
reason_of (Book book.DeclaredTwice) = codes "this kind has this edge, or a retreat of this station, already"
reason_of (Book book.NoRetreat) = codes "a station that an edge of this kind names has no retreat"
reason_of (Book book.BadRetreat) = codes "the retreat letter is not allowed at its station, or an answer to it leads to a rank that is not smaller"
reason_of (Layout layout.TooLong) = codes "the script has more than 16384 bytes"
reason_of (Layout layout.NoPart) = codes "no part begins here, or the script ends before its header does"
reason_of (Layout layout.BadHeader) = codes "the header of this part is broken, its body runs past the end, or it is one part too many"
reason_of (Layout layout.BadCommand) = codes "this is no command of a body, or its operands or blocks run past its block"
reason_of (Layout layout.OutOfRange) = codes "a handle, letter, register, part number or binding is out of range"
reason_of (Layout layout.TooDeep) = codes "blocks stand too deep in each other"
reason_of (Keys keys.NotAllowed) = codes "the letter is not allowed at the station of its handle"
reason_of (Keys keys.AnswersDiffer) = codes "the answers to the letter lead to different stations"
reason_of (Keys keys.UndeclaredBlock) = codes "an answer that is not declared has a block that is not empty"
reason_of (Keys keys.EndsDiffer) = codes "the blocks end with the handles at different stations"
reason_of (Keys keys.RepeatDiffers) = codes "the block ends with the handles at other stations than it began with"
reason_of (Keys keys.BoundTwice) = codes "one handle is bound twice"
reason_of (Keys keys.BoundWrong) = codes "a bound handle differs in kind or in station"
reason_of (Keys keys.BodyEnd) = codes "the body does not end at the stations out of its part"
reason_of (Keys keys.MainHeld) = codes "the last part has a station in or out that is not away"
reason_of (Stage stage.NotOver) = codes "the player is not over"
reason_of (Stage stage.OtherCount) = codes "the rig has not as many ports as the last part has handles"
reason_of (Stage stage.OtherTable) = codes "the device of this port has not the table of its kind"
reason_of (Stage stage.NotAway) = codes "the device of this port is not away"
reason_of (Stage stage.Over) = codes "the player is over"
reason_of (Stage stage.BadBudget) = codes "the number of steps is 0 or above 1000"
reason_of (Stage stage.ShortLog) = codes "the log has too few entries"
reason_of (Stage stage.RigChanged) = codes "the ports, or the table or station of one, are not as the player keeps them"
reason_of (Stage stage.NoSuchPort) = codes "the player has no such port"
reason_of (Stage stage.BadMap) = codes "the map of a patch is not sixteen letters or marks for none"

-- a place of the stage is a port, any other a byte
abbrev pub scale : Cause → List ℕ
scale (Book c) = codes "byte "
scale (Layout c) = codes "byte "
scale (Keys c) = codes "byte "
scale (Stage c) = codes "port "

abbrev pub place_text : Fault → List ℕ
place_text f = cond (f.place == nowhere) (codes "") (codes " at " ++ (scale f.cause ++ decimal f.place))

abbrev pub text_of : Fault → List ℕ
text_of f = codes "refusal " ++ (decimal (number_of f.cause) ++ (place_text f ++ (codes ": " ++ reason_of f.cause)))
