-- What the code's draft and reader stand for.
use Rattle.std.specs.Prelude.{◌≡◌, ℕ, ◌≤◌, Bool, true, false, ◌||◌, List, length, take, drop, Err, Result, IsNone, IsOkAnd, IsSomeAnd, MatchOption, MatchResult, ◌==◌, slice_index, slice_index_or}
use Rattle.std.specs.Borrow.{Bor}
use Rattle.std.specs.List.{list_any}
use Rattle.faults.specs.declared.fault.Fault.{Fault}
use Rattle.protocol.specs.declared.edges.Edge.{Edge}
use Rattle.book.specs.declared.draft.Draft as code
use Rattle.book.specs.declared.reader.Reader.{Reader}
use Rattle.book.specs.Automata.{retreats_of, Shows, Listed}
use Rattle.book.specs.Kinds.{homed}
use Rattle.book.specs.Commands.{Code, code_of, width}
use Rattle.book.specs.Reading.{Draft, drafted, Reading, declare}

-- what a call answered is what the definition gives
abbrev pub Gives : {X Y : Type 0} → (Y → X → Type 0) → Result Y Fault → Result X Fault → Type 0
Gives R a r = MatchResult a (λ y. IsOkAnd r (R y)) (λ e. r ≡ Err e)

-- Drafts

-- an edge begins or ends at the station
abbrev pub names : List Edge → ℕ → Bool
names es s = list_any (λ e. e.from == s || e.to == s) es

-- each station that is named is away or has a retreat
abbrev pub AllHomed : code.Draft → Type 0
AllHomed d = (s : ℕ) → slice_index_or d.named s false ≡ true → homed (retreats_of d.automaton) s ≡ true

pub record Drafts (d : code.Draft) (x : Draft) : Type 0 where
  pub place : d.place ≡ x.place
  pub shows : Shows d.automaton (drafted x)
  pub named : (s : ℕ) → slice_index_or d.named s false ≡ names x.edges s
  pub listed : d.retreats.items ≡ x.retreats

-- Readers

pub record Reads (r : Reader) (x : Reading) : Type 0 where
  pub listed : Listed r.kinds.items x.kinds
  pub drafts : MatchOption r.draft (IsNone x.draft) (λ d. IsSomeAnd x.draft (Drafts d))

-- the reader took the operands of a command, and left the rest
abbrev pub Took : Reader → ℕ → List ℕ → Bor (List ℕ) → Reading → Type 0
Took r w operands rest x = Reads r x × (w ≤ length operands) × (rest.now ≡ drop w operands)

abbrev pub first_code : List ℕ → Code
first_code bs = code_of (slice_index bs 0)

-- the first command of the bytes, which stands at the place
abbrev pub declare_first : Reading → ℕ → List ℕ → Result Reading Fault
declare_first x at bs = declare x at (first_code bs) (take (width (first_code bs)) (drop 1 bs))
