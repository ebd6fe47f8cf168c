-- The check of a book: command by command, the kinds that it declares, or its first fault.
use Rattle.std.specs.Prelude.{ℕ, Bool, not, ◌&&◌, List, [], ◌∷◌, ◌++◌, map, length, is_some, Some, None, Ok, Err, Option, Result, ◌==◌, nat_le, nat_lt, slice_index}
use Rattle.faults.specs.declared.fault.Fault.{Fault}
use Rattle.faults.specs.declared.causes.BookCause.TheVariants.{TooLong, UnknownCommand, MissingOperands, OutOfRange, DeclaredTwice, NoRetreat, BadRetreat}
use Rattle.faults.specs.Numbers.{nowhere, book_fault}
use Rattle.faults.specs.Results.{◌>>=◌, need, each}
use Rattle.protocol.specs.declared.edges.Edge.{Edge}
use Rattle.protocol.specs.Lists.{all}
use Rattle.protocol.specs.Tables.{Table, edge_in_range, table_of}
use Rattle.book.specs.declared.automaton.Retreat.{Retreat}
use Rattle.book.specs.declared.draft.Placed.{Placed}
use Rattle.book.specs.Kinds.{Kind, Retreats, retreat_of, homed, falls, retreat_in_range}
use Rattle.book.specs.Commands.{Code, KIND, EDGE, RETREAT, OTHER, Command, commands, edge_from, retreat_from}

-- the kind that is being declared: the place of its KIND, and its edges and retreats so far
pub record Draft : Type 0 where
  pub place : ℕ
  pub edges : List Edge
  pub retreats : List Placed

-- the kinds that are closed, and the one that is not
pub record Reading : Type 0 where
  pub kinds : List Kind
  pub draft : Option Draft

abbrev pub start : Reading
start = record { kinds = []; draft = None }

abbrev pub unplaced : List Placed → List Retreat
unplaced ps = map (λ p. p.retreat) ps

abbrev pub drafted : Draft → Kind
drafted d = record { edges = d.edges; retreats = unplaced d.retreats }

-- both stations of the edge are away or have a retreat
abbrev pub edge_homed : Retreats → Edge → Bool
edge_homed h e = homed h e.from && homed h e.to

abbrev pub placed_falls : Table → Retreats → Placed → Result (Unit {0}) Fault
placed_falls t h p = need (falls t h p.retreat) (book_fault BadRetreat p.place)

abbrev pub close_draft : Draft → Result Kind Fault
close_draft d =
    let h : Retreats = retreat_of (unplaced d.retreats) in
    do
      _ ← need (all (edge_homed h) d.edges) (book_fault NoRetreat d.place)
      _ ← each (placed_falls (table_of d.edges) h) d.retreats
      Ok (drafted d)

abbrev pub closed : Reading → Result (List Kind) Fault
closed x = elim x.draft [ None ↦ Ok x.kinds | Some d ↦ close_draft d >>= (λ k. Ok (x.kinds ++ (k ∷ []))) ]

abbrev pub open_kind : List Kind → ℕ → List ℕ → Result Reading Fault
open_kind ks at os = do
  _ ← need (length os == 1) (book_fault MissingOperands at)
  _ ← need (slice_index os 0 == length ks && nat_lt (length ks) 8) (book_fault OutOfRange at)
  Ok (record { kinds = ks; draft = Some (record { place = at; edges = []; retreats = [] }) })

abbrev pub edge_added : Draft → Edge → Draft
edge_added d e = record { place = d.place; edges = d.edges ++ (e ∷ []); retreats = d.retreats }

abbrev pub add_edge : Draft → ℕ → Edge → Result Draft Fault
add_edge d at e = do
  _ ← need (edge_in_range e) (book_fault OutOfRange at)
  _ ← need (not (is_some (table_of d.edges e.from e.letter e.answer))) (book_fault DeclaredTwice at)
  Ok (edge_added d e)

abbrev pub retreat_added : Draft → ℕ → Retreat → Draft
retreat_added d at r = record { place = d.place; edges = d.edges; retreats = d.retreats ++ (record { place = at; retreat = r } ∷ []) }

abbrev pub add_retreat : Draft → ℕ → Retreat → Result Draft Fault
add_retreat d at r = do
  _ ← need (retreat_in_range r) (book_fault OutOfRange at)
  _ ← need (not (is_some (retreat_of (unplaced d.retreats) r.station))) (book_fault DeclaredTwice at)
  Ok (retreat_added d at r)

-- the kind that is being declared changes so; there has to be one
abbrev pub in_draft : Reading → ℕ → (Draft → Result Draft Fault) → Result Reading Fault
in_draft x at f = elim x.draft [
  | None ↦ Err (book_fault OutOfRange at)
  | Some d ↦ f d >>= (λ d'. Ok (record { kinds = x.kinds; draft = Some d' }))
]

-- one command more; a KIND closes the kind before it first
abbrev pub declare : Reading → ℕ → Code → List ℕ → Result Reading Fault
declare x at KIND os = closed x >>= (λ ks. open_kind ks at os)
declare x at EDGE os = need (length os == 4) (book_fault MissingOperands at) >>= (λ _. in_draft x at (λ d. add_edge d at (edge_from os)))
declare x at RETREAT os = need (length os == 3) (book_fault MissingOperands at) >>= (λ _. in_draft x at (λ d. add_retreat d at (retreat_from os)))
declare x at OTHER os = Err (book_fault UnknownCommand at)

abbrev pub declare_all : Reading → List Command → Result (List Kind) Fault
declare_all x [] = closed x
declare_all x (c ∷ cs) = declare x c.place c.code c.operands >>= (λ y. declare_all y cs)

-- the kinds that the bytes declare, or the first fault
abbrev pub read_book : List ℕ → Result (List Kind) Fault
read_book bs = do
  _ ← need (nat_le (length bs) 8192) (book_fault TooLong nowhere)
  declare_all start (commands (length bs) 0 bs)

-- what the check answers
abbrev pub verdict : Result (List Kind) Fault → Result (Unit {0}) Fault
verdict (Ok ks) = Ok tt
verdict (Err e) = Err e

abbrev pub kinds_of : Result (List Kind) Fault → List Kind
kinds_of (Ok ks) = ks
kinds_of (Err e) = []
