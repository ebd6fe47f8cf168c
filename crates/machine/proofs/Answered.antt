-- What a talk comes to is settled by the answers.
use Rattle.std.proofs.Common.{◌≡◌, ℕ, List, ◌∷◌, map, Some, None, Option, sym, refl, ap, subst}
use Rattle.protocol.specs.declared.edges.Entry.{Entry}
use Rattle.protocol.specs.Tables.{Allowed}
use Rattle.device.specs.Meaning.{Hears, Meaning, jammed, jams, moves}
use Rattle.device.specs.Ports.{Ports, RigHears, here, missing, there}
use Rattle.machine.specs.Dialogue.{Dialogue, Played, Plays, ended, entry_in, hear, noted, play, rig_hear, told}
use Rattle.machine.specs.Going.{AnswersSettle}

jams_hear : (m : Meaning) (l : ℕ) (o : Option ℕ) → m.table m.station l 255 ≡ o → (Allowed m.table m.station l → ⊥) → hear m l 255 ≡ jammed m l
jams_hear m l None e no_way = rw (e, hear)
jams_hear m l (Some t) e no_way = absurd (no_way (255, t, e))

hears_hear : {m : Meaning} {l a : ℕ} {m' : Meaning} → Hears m l a m' → hear m l a ≡ m'
hears_hear {m} {l} (moves a t e) = rw (e, hear)
hears_hear {m} {l} (jams no_way) = jams_hear m l (m.table m.station l 255) refl no_way

rig_hears : {g : Ports} {i l a : ℕ} {g' : Ports} → RigHears g i l a g' → rig_hear g i l a ≡ g'
rig_hears (here {g = r} h) = ap (λ (x : Meaning). x ∷ r) (hears_hear h)
rig_hears (there {m = m} h) = ap (λ (x : Ports). m ∷ x) (rig_hears h)
rig_hears missing = refl

abbrev played : {X : Type 0} → X → Ports → List Entry → Option (Played X)
played x g es = Some (record { value = x; rig = g; entries = es })

answered : {X : Type 0} {t : Dialogue X} {g : Ports} {es : List Entry} {g' : Ports} {x : X} → Plays t g es g' x →
    play t g (map (λ e. e.answer) es) ≡ played x g' es
answered (ended x g) = refl
answered (told p l a k g g' g'' es x h r) = subst (λ (v : Ports). noted (entry_in v p l a) (play (k a) v (map (λ e. e.answer) es)) ≡ played x g'' (entry_in g' p l a ∷ es)) (sym (rig_hears h)) (rw (answered r))

pub settles : AnswersSettle
settles n p g g' es v h = answered h
