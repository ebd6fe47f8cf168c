-- Dialogues with a rig: which letter is sent next, by the answers so far.
use Rattle.std.specs.Prelude.{ℕ, zero, suc, List, [], ◌∷◌, Some, None, Option}
use Rattle.protocol.specs.declared.edges.Entry.{Entry}
use Rattle.device.specs.Meaning.{Meaning, moved, jammed}
use Rattle.device.specs.Ports.{Ports, RigHears, station_at}

-- an interaction tree: a value in the end, or a letter to a port and what follows each answer
pub data Dialogue (X : Type 0) : Type 0 where
  done : X → Dialogue X
  tells : (port letter : ℕ) → (ℕ → Dialogue X) → Dialogue X

-- one dialogue, and then one that its value picks
infixl 20 ◌>>=◌
abbrev pub ◌>>=◌ : {X Y : Type 0} → Dialogue X → (X → Dialogue Y) → Dialogue Y
done x >>= f = f x
tells p l k >>= f = tells p l (λ a. k a >>= f)

-- the log entry of a letter: port, letter, answer and the station after it
abbrev pub entry : ℕ → ℕ → ℕ → ℕ → Entry
entry p l a s = record { port = p; letter = l; answer = a; station = s }

-- with the station that the port has in the rig
abbrev pub entry_in : Ports → ℕ → ℕ → ℕ → Entry
entry_in g p l a = entry p l a (station_at g p)

-- On the rig, whose devices choose their answers, the dialogue may come to the value, with these entries, and leave the other rig.
pub data Plays {X : Type 0} : Dialogue X → Ports → List Entry → Ports → X → Type 0 where
  ended : (x : X) (g : Ports) → Plays (done x) g [] g x
  told : (p l a : ℕ) (k : ℕ → Dialogue X) (g g' g'' : Ports) (es : List Entry) (x : X) → RigHears g p l a g' → Plays (k a) g' es g'' x →
      Plays (tells p l k) g (entry_in g' p l a ∷ es) g'' x

-- By given answers

-- a device after it heard the letter and gave the answer
abbrev pub hear : Meaning → ℕ → ℕ → Meaning
hear m l a = elim (m.table m.station l a) [ Some t ↦ moved m l a t | None ↦ jammed m l ]

abbrev pub rig_hear : Ports → ℕ → ℕ → ℕ → Ports
rig_hear [] p l a = []
rig_hear (m ∷ g) zero l a = hear m l a ∷ g
rig_hear (m ∷ g) (suc p) l a = m ∷ rig_hear g p l a

pub record Played (X : Type 0) : Type 0 where
  pub value : X
  pub rig : Ports
  pub entries : List Entry

abbrev pub noted : {X : Type 0} → Entry → Option (Played X) → Option (Played X)
noted e None = None
noted e (Some r) = Some (record { value = r.value; rig = r.rig; entries = e ∷ r.entries })

-- what the dialogue comes to by these answers; none where they do not suffice
abbrev pub play : {X : Type 0} → Dialogue X → Ports → List ℕ → Option (Played X)
play (done x) g given = Some (record { value = x; rig = g; entries = [] })
play (tells p l k) g [] = None
play (tells p l k) g (a ∷ given) =
    let g' : Ports = rig_hear g p l a in
    noted (entry_in g' p l a) (play (k a) g' given)
