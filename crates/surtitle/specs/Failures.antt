-- Failures in words, where they are the program's own.
use Rattle.std.specs.Prelude.{ℕ, List, Some, None, codes, Option}
use Rattle.faults.specs.Texts.{text_of}
use Rattle.surtitle.specs.declared.failure.Failure.{Failure}
use Rattle.surtitle.specs.declared.failure.Failure.TheVariants.{Usage, Refused, Io}

abbrev pub failure_text : Failure → Option (List ℕ)
failure_text Usage = Some (codes "usage: surtitle [check BOOK [SCRIPT] | play BOOK SCRIPT DEVICE .. | evening]")
failure_text (Refused fault) = Some (text_of fault)
failure_text (Io error) = None
