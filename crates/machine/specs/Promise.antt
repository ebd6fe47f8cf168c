-- What every run of calls keeps, whatever the devices answer.
use Rattle.std.specs.Prelude.{◌≡◌, ℕ, zero, suc, ◌+◌, ◌%◌, ◌^◌, ◌<◌, ◌≤◌, true, not, List, [], ◌∷◌, ◌++◌, length, take, drop}
use Rattle.protocol.specs.declared.edges.Entry.{Entry}
use Rattle.protocol.specs.Lists.{Each}
use Rattle.protocol.specs.Tables.{Table}
use Rattle.protocol.specs.Paths.{of_port, Path, one_if, away, grants, returns}
use Rattle.device.specs.Meaning.{Meaning, Lawful}
use Rattle.device.specs.Ports.{Ports}
use Rattle.machine.specs.Runs.{Scene, first_scene, Call, Does, joins, Run, most, before_exit, closes}

-- A port's entries

-- the last entry's letter, answer and station, or what was before
abbrev pub last_letter : ℕ → List Entry → ℕ
last_letter l [] = l
last_letter l (e ∷ es) = last_letter e.letter es

abbrev pub last_answer : ℕ → List Entry → ℕ
last_answer a [] = a
last_answer a (e ∷ es) = last_answer e.answer es

abbrev pub last_station : ℕ → List Entry → ℕ
last_station s [] = s
last_station s (e ∷ es) = last_station e.station es

-- the memory after the letters and answers, in order
abbrev pub memory_after : (List ℕ → ℕ → ℕ → List ℕ) → List ℕ → List Entry → List ℕ
memory_after rule mem [] = mem
memory_after rule mem (e ∷ es) = memory_after rule (rule mem e.letter e.answer) es

-- A device, by its meaning at first and now, heard exactly these entries.
pub record HeardExactly (m m' : Meaning) (es : List Entry) : Type 0 where
  pub table : m'.table ≡ m.table
  pub rule : m'.rule ≡ m.rule
  pub heard : m'.heard ≡ (m.heard + length es) % 2 ^ 32
  pub letter : m'.letter ≡ last_letter m.letter es
  pub answer : m'.answer ≡ last_answer m.answer es
  pub memory : m'.memory ≡ memory_after m.rule m.memory es

-- The entries are a path from away to the station of the last, and have a grant more than returns exactly where that is not away.
pub record Balanced (e : Table) (es : List Entry) : Type 0 where
  pub legal : Path e 0 es (last_station 0 es)
  pub even : grants 0 es ≡ returns 0 es + one_if (not (away (last_station 0 es)))

-- The port of the number, by its meaning at first and now, and the joined log:
-- it is not jammed, it heard exactly its entries, these are a path of its table from away to its station,
-- and those among any number of the joined log's first entries are balanced.
pub record PortKept (js : List Entry) (i : ℕ) (m m' : Meaning) : Type 0 where
  pub not_jammed : m'.station < 16
  pub heard : HeardExactly m m' (of_port i js)
  pub legal : Path m.table 0 (of_port i js) m'.station
  pub balanced : (k : ℕ) → Balanced m.table (of_port i (take k js))

-- Every port

-- at every port, by its number and its meaning in both
abbrev pub AtPorts : (ℕ → Meaning → Meaning → Type 0) → Ports → Ports → Type 0
AtPorts P [] [] = Unit {0}
AtPorts P [] (m ∷ g) = ⊥
AtPorts P (m ∷ g) [] = ⊥
AtPorts P (m ∷ g) (m' ∷ g') = P zero m m' × AtPorts (λ i. P (suc i)) g g'

abbrev pub AllAway : Ports → Type 0
AllAway g = Each (λ m. m.station ≡ 0) g

-- A fault exit's entries, after the others: at most 15 for each port, and none where it was away.
abbrev pub ShortExit : List Entry → List Entry → Type 0
ShortExit js es = (i : ℕ) → (length (of_port i es) ≤ 15) × (last_station 0 (of_port i js) ≡ 0 → of_port i es ≡ [])

-- What a call that follows the joined log leaves.
pub record CallKept (js : List Entry) (c : Call) (y : Scene) : Type 0 where
  pub home : closes c ≡ true → AllAway y.rig
  pub few : length (joins c) ≤ most c
  pub whole : before_exit c ≤ length (joins c)
  pub short_exit : ShortExit (js ++ take (before_exit c) (joins c)) (drop (before_exit c) (joins c))

-- What stands after the joined log, from the rig at first, and what every call that may follow leaves.
pub record Orderly (g : Ports) (js : List Entry) (x : Scene) : Type 0 where
  pub ports : AtPorts (PortKept js) g x.rig
  pub within : Each (λ e. e.port < length g) js
  pub home : x.player.over ≡ true → AllAway x.rig
  pub next : (c : Call) (y : Scene) → Does c x y → CallKept js c y

-- Every run of calls from a new player, on a rig of 1 to 8 ports that are all away, keeps the protocols of its ports.
-- The beginnings of a run are runs, so this holds after each of its calls.
abbrev pub RunsKeepProtocols : Type 0
RunsKeepProtocols =
    (g : Ports) → Each Lawful g → AllAway g → 0 < length g → length g ≤ 8 →
    (js : List Entry) (x : Scene) → Run (first_scene g) js x → Orderly g js x
