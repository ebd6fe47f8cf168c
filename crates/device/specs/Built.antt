-- Rigs that are built of devices: the ports that they have, and what every rig owes.
use Rattle.std.proofs.Common.{sym, subst, ◌∙◌, zero-le, suc-le-suc, lit<, lit≤}
use Rattle.std.specs.Prelude.{ℕ, zero, suc, ◌<◌, ◌≤◌, List, [], ◌∷◌, map, length, take, vec_items, vec_len, Vec}
use Rattle.std.proofs.lemmas.List.{length-map}
use Rattle.protocol.specs.Lists.{Each}
use Rattle.device.specs.Meaning.{Meaning, Lawful}
use Rattle.device.specs.Ports.{Ports}

-- one device is a rig of one port
abbrev pub single_ports : Meaning → Ports
single_ports m = m ∷ []

-- of many devices the first eight are ports
abbrev pub row_ports : List Meaning → Ports
row_ports ms = take 8 ms

-- a device before a rig
abbrev pub before_ports : Meaning → Ports → Ports
before_ports m g = row_ports (m ∷ g)

-- What a rig owes

pub single_lawful : (m : Meaning) → Lawful m → Each Lawful (single_ports m)
single_lawful m h = (h, tt)

pub single_some : (m : Meaning) → 0 < length (single_ports m)
single_some m = lit< tt

pub single_few : (m : Meaning) → length (single_ports m) ≤ 8
single_few m = lit≤ tt

pub each_take : {X : Type 0} (P : X → Type 0) (n : ℕ) (xs : List X) → Each P xs → Each P (take n xs)
each_take P zero xs a = tt
each_take P (suc n) [] a = tt
each_take P (suc n) (x ∷ xs) a = (a.0, each_take P n xs a.1)

take_few : {X : Type 0} (n : ℕ) (xs : List X) → length (take n xs) ≤ n
take_few zero xs = zero-le
take_few (suc n) [] = zero-le
take_few (suc n) (x ∷ xs) = suc-le-suc (take_few n xs)

pub each_map : {X : Type 0} (f : X → Meaning) → ((x : X) → Lawful (f x)) → (xs : List X) → Each Lawful (map f xs)
each_map f h [] = tt
each_map f h (x ∷ xs) = (h x, each_map f h xs)

pub some_map : {X Z : Type 0} (f : X → Meaning) (v : Vec X Z) → 0 < vec_len v → 0 < length (map f (vec_items v))
some_map f v h = subst (λ (n : ℕ). 0 < n) (v.ok.0 ∙ sym (length-map (vec_items v) f)) h

pub row_lawful : (ms : List Meaning) → Each Lawful ms → Each Lawful (row_ports ms)
row_lawful ms a = each_take Lawful 8 ms a

pub row_some : (ms : List Meaning) → 0 < length ms → 0 < length (row_ports ms)
row_some [] h = h
row_some (m ∷ ms) h = suc-le-suc zero-le

pub row_few : (ms : List Meaning) → length (row_ports ms) ≤ 8
row_few ms = take_few 8 ms

pub before_lawful : (m : Meaning) (g : Ports) → Lawful m → Each Lawful g → Each Lawful (before_ports m g)
before_lawful m g h a = row_lawful (m ∷ g) (h, a)

pub before_some : (m : Meaning) (g : Ports) → 0 < length (before_ports m g)
before_some m g = row_some (m ∷ g) (suc-le-suc zero-le)

pub before_few : (m : Meaning) (g : Ports) → length (before_ports m g) ≤ 8
before_few m g = row_few (m ∷ g)
