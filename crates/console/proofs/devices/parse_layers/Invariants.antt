use Rattle.std.proofs.Common.{◌≡◌, map, drop, vec_items}
use Rattle.console.specs.Devices.{all_some, layer_of}
use Rattle.console.proofs.Somes.{behind}
use Rattle.console.proofs.devices.parse_layers.Given as goal

-- what is left decides, behind the layers so far
abbrev pub invariant-loop-piece : goal.invariant-loop-piece
invariant-loop-piece l =
    all_some (map layer_of (map (λ piece. piece.now) l.pieces)) ≡ behind (vec_items l.layers) (all_some (map layer_of (map (λ piece. piece.now) (drop l.piece-index l.pieces))))
