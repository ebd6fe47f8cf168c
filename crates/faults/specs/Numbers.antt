-- The number of every refusal, and faults by layer.
use Rattle.std.specs.Prelude.{ℕ}
use Rattle.faults.specs.declared.causes.BookCause.{BookCause}
use Rattle.faults.specs.declared.causes.BookCause.TheVariants as book
use Rattle.faults.specs.declared.causes.LayoutCause.{LayoutCause}
use Rattle.faults.specs.declared.causes.LayoutCause.TheVariants as layout
use Rattle.faults.specs.declared.causes.KeyCause.{KeyCause}
use Rattle.faults.specs.declared.causes.KeyCause.TheVariants as keys
use Rattle.faults.specs.declared.causes.StageCause.{StageCause}
use Rattle.faults.specs.declared.causes.StageCause.TheVariants as stage
use Rattle.faults.specs.declared.causes.Cause.{Cause}
use Rattle.faults.specs.declared.causes.Cause.TheVariants.{Book, Layout, Keys, Stage}
use Rattle.faults.specs.declared.fault.Fault.{Fault}

abbrev pub nowhere : ℕ
nowhere = 65535

abbrev pub number_of : Cause → ℕ
number_of (Book book.TooLong) = 1
number_of (Book book.UnknownCommand) = 2
number_of (Book book.MissingOperands) = 3
number_of (Book book.OutOfRange) = 4
number_of (Book book.DeclaredTwice) = 5
number_of (Book book.NoRetreat) = 6
number_of (Book book.BadRetreat) = 7
number_of (Layout layout.TooLong) = 8
number_of (Layout layout.NoPart) = 9
number_of (Layout layout.BadHeader) = 10
number_of (Layout layout.BadCommand) = 11
number_of (Layout layout.OutOfRange) = 12
number_of (Layout layout.TooDeep) = 13
number_of (Keys keys.NotAllowed) = 14
number_of (Keys keys.AnswersDiffer) = 15
number_of (Keys keys.UndeclaredBlock) = 16
number_of (Keys keys.EndsDiffer) = 17
number_of (Keys keys.RepeatDiffers) = 18
number_of (Keys keys.BoundTwice) = 19
number_of (Keys keys.BoundWrong) = 20
number_of (Keys keys.BodyEnd) = 21
number_of (Keys keys.MainHeld) = 22
number_of (Stage stage.NotOver) = 23
number_of (Stage stage.OtherCount) = 24
number_of (Stage stage.OtherTable) = 25
number_of (Stage stage.NotAway) = 26
number_of (Stage stage.Over) = 27
number_of (Stage stage.BadBudget) = 28
number_of (Stage stage.ShortLog) = 29
number_of (Stage stage.RigChanged) = 30
number_of (Stage stage.NoSuchPort) = 31
number_of (Stage stage.BadMap) = 31

abbrev pub book_fault : BookCause → ℕ → Fault
book_fault c p = record { cause = Book c; place = p }

abbrev pub layout_fault : LayoutCause → ℕ → Fault
layout_fault c p = record { cause = Layout c; place = p }

abbrev pub key_fault : KeyCause → ℕ → Fault
key_fault c p = record { cause = Keys c; place = p }

abbrev pub stage_fault : StageCause → ℕ → Fault
stage_fault c p = record { cause = Stage c; place = p }
