-- There is room for what a script may open.
use Rattle.std.proofs.Common.{◌<◌, List, [], ◌∷◌, length, arith}
use Rattle.rules.specs.Script.{Part, main_of}
use Rattle.rules.proofs.Scripts.{ScriptSo, passed_so}
use Rattle.script.proofs.Held.{script_passed}
use Rattle.machine.specs.Player.{begun, main}
use Rattle.machine.proofs.Beginning.{begun_open}
use Rattle.machine.proofs.Open.{Open}
use Rattle.player.specs.declared.loaded.Loaded.{Loaded}
use Rattle.player.specs.Loaded.{held}

pub held_so : (l : Loaded) → ScriptSo (held l)
held_so l = passed_so (held l) (script_passed l.script)

-- a script with a handle has a main
some_parts : (ps : List Part) → 0 < (main_of ps).handles → 0 < length ps
some_parts [] lt = absurd (omega arith)
some_parts (p ∷ ps) lt = omega arith

pub begun_room : (l : Loaded) → 0 < (main (held l)).handles → ∥ Open (held l) (begun (held l)).frames ∥₁
begun_room l lt = ∣ begun_open (held l).book (held l).parts (held_so l) (some_parts (held l).parts lt) ∣₁
