-- What a device means, and what a letter may do to it.
use Rattle.std.specs.Prelude.{◌≡◌, ℕ, ◌+◌, ◌%◌, ◌^◌, ◌<◌, List, Some}
use Rattle.protocol.specs.Tables.{Table, Ranged, Allowed}

-- the station is 16 where the device is jammed; the rule gives the memory after a letter and its answer
pub record Meaning : Type 0 where
  pub table : Table
  pub station : ℕ
  pub heard : ℕ
  pub letter : ℕ
  pub answer : ℕ
  pub memory : List ℕ
  pub rule : List ℕ → ℕ → ℕ → List ℕ

-- what every device keeps
pub record Lawful (m : Meaning) : Type 0 where
  pub ranged : Ranged m.table
  pub standing : m.station < 17
  pub counted : m.heard < 2 ^ 32

-- the device after it heard the letter and gave the answer, which led to the station
abbrev pub moved : Meaning → ℕ → ℕ → ℕ → Meaning
moved m l a t = record {
  table = m.table;
  station = t;
  heard = (m.heard + 1) % 2 ^ 32;
  letter = l;
  answer = a;
  memory = m.rule m.memory l a;
  rule = m.rule;
}

-- after a letter that was not allowed
abbrev pub jammed : Meaning → ℕ → Meaning
jammed m l = record {
  table = m.table;
  station = 16;
  heard = (m.heard + 1) % 2 ^ 32;
  letter = l;
  answer = 255;
  memory = m.memory;
  rule = m.rule;
}

-- what a letter may do to a device: it gives a declared answer and moves, or jams
pub data Hears (m : Meaning) (l : ℕ) : ℕ → Meaning → Type 0 where
  moves : (a t : ℕ) → m.table m.station l a ≡ Some t → Hears m l a (moved m l a t)
  jams : (Allowed m.table m.station l → ⊥) → Hears m l 255 (jammed m l)
