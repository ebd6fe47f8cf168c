-- What a device does with a letter that it hears.
use Rattle.std.proofs.Common.{◌≡◌, ℕ, false, Some, sym, ◌∙◌, subst, true≢false}
use Rattle.protocol.specs.Tables.{Table, Ranged, Allowed, allowed}
use Rattle.protocol.proofs.Answers.{allowed_ranged}
use Rattle.device.specs.Meaning.{Meaning, Hears, moved, jammed, moves, jams}

pub not_allowed : (e : Table) → Ranged e → (s l : ℕ) → allowed e s l ≡ false → Allowed e s l → ⊥
not_allowed e r s l f w = true≢false (sym (allowed_ranged e r s l w) ∙ f)

pub moves_to : (m m' : Meaning) (l a t : ℕ) → m.table m.station l a ≡ Some t → m' ≡ moved m l a t → Hears m l a m'
moves_to m m' l a t e q = subst (Hears m l a) (sym q) (moves a t e)

pub jams_so : (m m' : Meaning) (l a : ℕ) → (Allowed m.table m.station l → ⊥) → a ≡ 255 → m' ≡ jammed m l → Hears m l a m'
jams_so m m' l a not e q = subst (λ v. Hears m l v m') (sym e) (subst (Hears m l 255) (sym q) (jams not))
