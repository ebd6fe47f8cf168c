-- What the letters of a talk did.
use Rattle.std.proofs.Common.{◌≡◌, ℕ, List, [], ◌∷◌, ◌++◌, Some, refl, ap, ◌∙◌}
use Rattle.protocol.specs.declared.edges.Entry.{Entry}
use Rattle.protocol.specs.Tables.{Allowed}
use Rattle.device.specs.Meaning.{Hears, Meaning, jams, moved, moves}
use Rattle.device.specs.Ports.{Ports, RigHears}
use Rattle.machine.specs.Dialogue.{Dialogue, Plays, ◌>>=◌, done, ended, entry_in, tells, told}

-- What a talk's first letter did

abbrev pub Unfolds : {X : Type 0} → Dialogue X → Ports → List Entry → Ports → X → Type 0
Unfolds (done y) g es g'' x = (es ≡ []) × (g'' ≡ g) × (x ≡ y)
Unfolds (tells p l k) g es g'' x =
    (a : ℕ) × (g' : Ports) × (rest : List Entry) × RigHears g p l a g' × Plays (k a) g' rest g'' x
    × (es ≡ entry_in g' p l a ∷ rest)

pub unfolds : {X : Type 0} {t : Dialogue X} {g : Ports} {es : List Entry} {g' : Ports} {x : X} → Plays t g es g' x → Unfolds t g es g' x
unfolds (ended x g) = (refl, refl, refl)
unfolds (told p l a k g g' g'' es x h r) = (a, g', es, h, r, refl)

-- A device that hears an allowed letter

abbrev pub Moved : Meaning → ℕ → ℕ → Meaning → Type 0
Moved m l a m' = (t : ℕ) × (m.table m.station l a ≡ Some t) × (m' ≡ moved m l a t)

pub allowed_moves : {m : Meaning} {l a : ℕ} {m' : Meaning} → Hears m l a m' → Allowed m.table m.station l → Moved m l a m'
allowed_moves (moves a t e) ok = (t, e, refl)
allowed_moves (jams no_way) ok = absurd (no_way ok)

-- One talk after another

pub plays_then : {X Y : Type 0} {t : Dialogue X} {g : Ports} {es₁ : List Entry} {g' : Ports} {x : X} (f : X → Dialogue Y) {es₂ : List Entry} {g'' : Ports} {y : Y} →
    Plays t g es₁ g' x → Plays (f x) g' es₂ g'' y → Plays (t >>= f) g (es₁ ++ es₂) g'' y
plays_then f (ended x g) r = r
plays_then f (told p l a k g g' g'' es x h first) r = told p l a (λ b. k b >>= f) g g' _ (es ++ _) _ h (plays_then f first r)

pub split : {X Y : Type 0} (t : Dialogue X) (f : X → Dialogue Y) (g : Ports) (es : List Entry) (g'' : Ports) (y : Y) → Plays (t >>= f) g es g'' y →
    (x : X) × (g' : Ports) × (es₁ : List Entry) × (es₂ : List Entry) × Plays t g es₁ g' x × Plays (f x) g' es₂ g'' y × (es ≡ es₁ ++ es₂)
split (done x) f g es g'' y h = (x, g, [], es, ended x g, h, refl)
split (tells p l k) f g es g'' y h =
    let u = unfolds h in
    let w = split (k u.0) f u.1 u.2 g'' y u.4 in
    let e : Entry = entry_in u.1 p l u.0 in
    (w.0, w.1, e ∷ w.2, w.3, told p l u.0 k g u.1 w.1 w.2 w.0 u.3 w.4, w.5, u.5 ∙ ap (λ (x : List Entry). e ∷ x) w.6)
