-- What is answered to a row of lines.
use Rattle.std.specs.Prelude.{◌≡◌, ℕ, ◌+◌, List, [], ◌∷◌, ◌++◌, length, if◌then◌else◌, Some, None, Option, nat_le}
use Rattle.std.specs.Io.KnownBytes.{Appends}
use Rattle.protocol.specs.declared.edges.Entry.{Entry}
use Rattle.book.specs.Reading.{read_book}
use Rattle.console.specs.declared.answer.Answer.{Answer}
use Rattle.console.specs.declared.answer.Answer.TheVariants.{Book, Script, NotUnderstood}
use Rattle.console.specs.Acts.{Acts}
use Rattle.console.specs.Answers.{count_kinds, count_parts, reply_text, rig_answer}
use Rattle.console.specs.Held.{Held, nothing_held, book_after, replies_after, rig_after, script_after, script_read}
use Rattle.console.specs.Lines.{Numbered, Parsed, blank, book, script, rig, stage, unknown}
use Rattle.console.specs.Plans.{mounted}

-- the answer to the line of that number, its entries, and what is held after it
abbrev pub Answers : ℕ → Held → Parsed → Option Answer → List Entry → Held → Type 0
Answers number held blank answer es held' = (answer ≡ None) × (es ≡ []) × (held' ≡ held)
Answers number held (book bs) answer es held' =
    (answer ≡ Some (Book (count_kinds (read_book bs)))) × (es ≡ []) × (held' ≡ book_after held bs (read_book bs))
Answers number held (script bs) answer es held' =
    (answer ≡ Some (Script (count_parts (script_read held bs)))) × (es ≡ []) × (held' ≡ script_after held (script_read held bs))
Answers number held (rig plans) answer es held' =
    (answer ≡ Some (rig_answer number (mounted plans))) × (es ≡ []) × (held' ≡ rig_after held (mounted plans))
Answers number held (stage command) answer es held' = (a : Answer) × (answer ≡ Some a) × Acts number held command a es held'
Answers number held unknown answer es held' = (answer ≡ Some (NotUnderstood number)) × (es ≡ []) × (held' ≡ held)

-- the replies of the held projectors after a line of devices; what any other line leaves of the rig, `LeavesRig` says
abbrev pub Replies : Parsed → Option (List (List ℕ)) → Option (List (List ℕ)) → Type 0
Replies blank old new = Unit {0}
Replies (book bs) old new = Unit {0}
Replies (script bs) old new = Unit {0}
Replies (rig plans) old new = new ≡ replies_after old plans (mounted plans)
Replies (stage command) old new = Unit {0}
Replies unknown old new = Unit {0}

abbrev pub printed : Option Answer → List Entry → List ℕ
printed None es = []
printed (Some answer) es = reply_text answer es

-- the text that is answered to the lines from that number on
abbrev pub Transcript : ℕ → Held → List Parsed → List ℕ → Type 0
Transcript number held [] text = text ≡ []
Transcript number held (line ∷ lines) text =
    (answer : Option Answer) × (es : List Entry) × (held' : Held) × (rest : List ℕ)
    × Answers number held line answer es held' × Transcript (number + 1) held' lines rest × (text ≡ printed answer es ++ rest)

-- the text that is answered to lines with their numbers
abbrev pub Told : Held → List Numbered → List ℕ → Type 0
Told held [] text = text ≡ []
Told held (asked ∷ rest_asked) text =
    (answer : Option Answer) × (es : List Entry) × (held' : Held) × (rest : List ℕ)
    × Answers asked.number held asked.line answer es held' × Told held' rest_asked rest × (text ≡ printed answer es ++ rest)

-- a writer, by its bytes where they are known, took what is answered to such lines from nothing held
abbrev pub Tells : List Numbered → Option (List ℕ) → Option (List ℕ) → Type 0
Tells asked old new = (text : List ℕ) × Told nothing_held asked text × Appends old new text

-- a writer, by its bytes where they are known, took what is answered to the lines from nothing held
abbrev pub Prints : List Parsed → Option (List ℕ) → Option (List ℕ) → Type 0
Prints lines old new = (text : List ℕ) × Transcript 1 nothing_held lines text × Appends old new text

-- what is handed on of a text: all of it once it has 65,536 bytes, and else nothing
abbrev pub piece_of : List ℕ → List ℕ
piece_of text = if nat_le 65536 (length text) then text else []

abbrev pub rest_of : List ℕ → List ℕ
rest_of text = if nat_le 65536 (length text) then [] else text

-- a writer took the piece, and the rest of the text is left
abbrev pub Hands : List ℕ → List ℕ → Option (List ℕ) → Option (List ℕ) → Type 0
Hands text rest old new = Appends old new (piece_of text) × (rest ≡ rest_of text)
