-- What a letter to a port does to every device that a rig holds, as a value: those behind the eighth too.
use Rattle.std.specs.Prelude.{◌≡◌, ℕ, zero, suc, List, take, nat_lt, slice_get, slice_set, MatchBool, MatchOption}
use Rattle.device.specs.declared.rigs.before.Before.{Before}
use Rattle.device.specs.Meaning.{Meaning, Hears}

-- a missing port answers 255, and nothing changes
abbrev pub Refuses : {X : Type 0} → X → ℕ → X → Type 0
Refuses x a x' = (a ≡ 255) × (x' ≡ x)

-- one device is port 0
abbrev pub SingleAsks : {D : Type 0} → (D → Meaning) → D → ℕ → ℕ → ℕ → D → Type 0
SingleAsks meaning d zero l a d' = Hears (meaning d) l a (meaning d')
SingleAsks meaning d (suc p) l a d' = Refuses d a d'

-- of devices in a row the first eight are ports; where one of them hears the letter, every other stays the same value
abbrev pub RowAsks : {D : Type 0} → (D → Meaning) → List D → ℕ → ℕ → ℕ → List D → Type 0
RowAsks {D} meaning ds p l a ds' = MatchOption (slice_get (take 8 ds) p) (Refuses ds a ds') (λ d. (d' : D) × Hears (meaning d) l a (meaning d') × (ds' ≡ slice_set ds p d'))

-- a device before a rig is port 0, and seven of the rig's ports come one later; who is not asked stays the same value
abbrev pub BeforeAsks : {D R : Type 0} → (D → Meaning) → (R → ℕ → ℕ → ℕ → R → Type 0) → Before D R → ℕ → ℕ → ℕ → Before D R → Type 0
BeforeAsks meaning asks r zero l a r' = Hears (meaning r.first) l a (meaning r'.first) × (r'.rest ≡ r.rest)
BeforeAsks meaning asks r (suc p) l a r' = MatchBool (nat_lt p 7) ((r'.first ≡ r.first) × asks r.rest p l a r'.rest) (Refuses r a r')
