-- The proofs that each device keeps what every device keeps.
use Rattle.std.specs.Prelude.{◌≡◌, ℕ, ◌^◌, ◌<◌, Bool, true, false, cond, Some, None, Option, nat_lt, slice_index_or, refl}
use Rattle.std.proofs.Common.{lit<}
use Rattle.protocol.specs.Tables.{Table, Ranged}
use Rattle.protocol.proofs.Tests.{none_some, less}
use Rattle.protocol.proofs.Ranges.{listed_ranged}
use Rattle.device.specs.declared.projector.Projector.{Projector}
use Rattle.device.specs.declared.letter_map.LetterMap.{LetterMap}
use Rattle.device.specs.Meaning.{Meaning, Lawful}
use Rattle.device.specs.LetterMap.{down}
use Rattle.device.specs.Patch.{led_by, renamed, patched}
use Rattle.device.specs.Projector.{projector_edges, projector_meaning, projector_table}

pub projector_ranged : Ranged projector_table
projector_ranged = listed_ranged projector_edges refl

pub projector_lawful : (p : Projector) → Lawful (projector_meaning p)
projector_lawful p = record { ranged = projector_ranged; standing = p.standing; counted = p.tally.counted }

led_within : (e : Table) (o : Option ℕ) (s a t : ℕ) → Ranged e → led_by e s o a ≡ Some t → (s < 16) × (a < 4) × (t < 16)
led_within e (Some k) s a t r q = let w = r s k a t q in (w.0, w.2, w.3)
led_within e None s a t r q = absurd (none_some q)

-- where an edge of the renamed table leads, the letter is one
known : (map : LetterMap) (e : Table) (s l a t : ℕ) → renamed map e s l a ≡ Some t → l < 16
known map e s l a t q = by (nat_lt l 16) refl q
  where
    by : (b : Bool) → nat_lt l 16 ≡ b → led_by e s (cond b (slice_index_or map.letters l None) None) a ≡ Some t → l < 16
    by true h p = less l 16 h
    by false h p = absurd (none_some p)

standing : (stuck : Bool) (s : ℕ) → s < 17 → cond stuck 16 s < 17
standing true s lt = lit< tt
standing false s lt = lt

pub patch_lawful : (map : LetterMap) (stuck : Bool) (h l a : ℕ) (m : Meaning) → Lawful m → h < 2 ^ 32 → Lawful (patched map stuck h l a m)
patch_lawful map stuck h l a m w lt = record {
  ranged = λ s k b t q. let v = led_within m.table (down map k) s b t w.ranged q in (v.0, known map m.table s k b t q, v.1, v.2);
  standing = standing stuck m.station w.standing;
  counted = lt;
}
