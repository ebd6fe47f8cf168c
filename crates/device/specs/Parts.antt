-- Whose a port is, where a device stands before a rig.
use Rattle.std.specs.Prelude.{◌≡◌, ℕ, suc, ◌<◌, ◌≤◌, Some, None, Option}
use Rattle.device.specs.declared.rigs.before.Part.{Part}
use Rattle.device.specs.declared.rigs.before.Part.TheVariants.{First, Rest}

-- port 0 is the device's, those from 1 to 7 are the rest's, and there is no eighth
abbrev pub IsPart : ℕ → Option Part → Type 0
IsPart p (Some First) = p ≡ 0
IsPart p (Some (Rest q)) = (p ≡ suc q) × (p < 8)
IsPart p None = 8 ≤ p
