-- What is answered to the lines that ask for something is answered to all of them.
use Rattle.std.proofs.Common.{◌≡◌, ℕ, ◌+◌, List, [], ◌∷◌, ◌++◌, refl, subst, None, Option}
use Rattle.console.specs.Held.{Held, nothing_held}
use Rattle.console.specs.Lines.{Parsed, blank, book, script, rig, stage, unknown, Numbered, asked_from}
use Rattle.console.specs.Transcripts.{Told, Transcript, Tells, Prints}

pub told : (number : ℕ) (held : Held) (lines : List Parsed) (text : List ℕ) → Told held (asked_from number lines) text → Transcript number held lines text
told number held [] text t = t
told number held (blank ∷ lines) text t = (None, [], held, text, (refl, refl, refl), told (number + 1) held lines text t, refl)
told number held (book bs ∷ lines) text (a, es, held', rest, h, t, e) = (a, es, held', rest, h, told (number + 1) held' lines rest t, e)
told number held (script bs ∷ lines) text (a, es, held', rest, h, t, e) = (a, es, held', rest, h, told (number + 1) held' lines rest t, e)
told number held (rig plans ∷ lines) text (a, es, held', rest, h, t, e) = (a, es, held', rest, h, told (number + 1) held' lines rest t, e)
told number held (stage command ∷ lines) text (a, es, held', rest, h, t, e) = (a, es, held', rest, h, told (number + 1) held' lines rest t, e)
told number held (unknown ∷ lines) text (a, es, held', rest, h, t, e) = (a, es, held', rest, h, told (number + 1) held' lines rest t, e)

pub prints : (lines : List Parsed) (asked : List Numbered) (old new : Option (List ℕ)) → asked ≡ asked_from 1 lines → Tells asked old new → Prints lines old new
prints lines asked old new e t = (t.0, told 1 nothing_held lines t.0 (subst (λ (ns : List Numbered). Told nothing_held ns t.0) e t.1), t.2)
