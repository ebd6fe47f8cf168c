-- The automata of the code, and the kinds that they show.
use Rattle.std.specs.Prelude.{◌≡◌, ℕ, List, [], ◌∷◌, count_by, is_some, slice_index_or, None}
use Rattle.std.specs.List.{AllZip}
use Rattle.std.specs.Coded.{×_prop, Unit-prop}
use Rattle.protocol.specs.Tables.{Table, table_of}
use Rattle.protocol.specs.Slots.{table_in}
use Rattle.book.specs.declared.automaton.Automaton.{Automaton}
use Rattle.book.specs.Kinds.{Kind, no_kind, Retreats, retreat_of}

abbrev pub edges_of : Automaton → Table
edges_of a = table_in a.edges

abbrev pub retreats_of : Automaton → Retreats
retreats_of a s = slice_index_or a.retreats s None

-- how many stations have a retreat
abbrev pub retreat_count : Automaton → ℕ
retreat_count a = count_by is_some a.retreats

pub record Shows (a : Automaton) (k : Kind) : Type 0 where
  pub edges : (s l n : ℕ) → edges_of a s l n ≡ table_of k.edges s l n
  pub retreats : (s : ℕ) → retreats_of a s ≡ retreat_of k.retreats s

pub record IsEmpty (a : Automaton) : Type 0 where
  pub shows : Shows a no_kind
  pub no_retreats : retreat_count a ≡ 0

-- the automata show the kinds, one by one
abbrev pub Listed : List Automaton → List Kind → Type 0
Listed shown ks = AllZip Shows shown ks

-- with one proof at most, so that a struct can hold it
pub Listed-prop : ((a : Automaton) (k : Kind) → IsProp (Shows a k)) → (shown : List Automaton) (ks : List Kind) → IsProp (Listed shown ks)
Listed-prop one [] [] = Unit-prop
Listed-prop one [] (k ∷ ks) = λ p. absurd p
Listed-prop one (a ∷ shown) [] = λ p. absurd p
Listed-prop one (a ∷ shown) (k ∷ ks) = ×_prop (one a k) (Listed-prop one shown ks)
