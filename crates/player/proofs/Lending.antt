-- The topmost block goes on behind a command, where the last record of the table is written.
use Rattle.std.proofs.Common.{◌≡◌, ℕ, ◌+◌, ◌-◌, ◌<◌, List, [], ◌∷◌, ◌++◌, map, reverse, length, get_or, take, set, sym, ap, ◌∙◌, arith, length-set}
use Rattle.std.proofs.lemmas.List.{map-append, reverse-append, take_all, take_more, take_more_set}
use Rattle.machine.specs.Player as machine
use Rattle.script.specs.declared.block.Block.{Block}
use Rattle.script.specs.Pieces.{piece}
use Rattle.player.specs.declared.open_blocks.Frame.{Frame}
use Rattle.player.specs.Frames.{frame_of, passed}

abbrev shown : List Frame → List machine.Frame
shown fs = reverse (map frame_of fs)

last_first : (fs : List Frame) (f : Frame) → shown (fs ++ (f ∷ [])) ≡ frame_of f ∷ shown fs
last_first fs f = ap reverse (map-append frame_of fs (f ∷ [])) ∙ reverse-append (map frame_of fs) (frame_of f ∷ [])

-- the topmost is the last of so many
pub top_passes : (fs : List Frame) (top : Frame) (rest : Block) → 0 < length fs → get_or fs (length fs - 1) top ≡ top →
    shown (set fs (length fs - 1) (record { block = rest; ports = top.ports })) ≡ passed (piece rest) (shown fs)
top_passes fs top rest some is =
    let i : ℕ = length fs - 1 in
    let f : Frame = record { block = rest; ports = top.ports } in
    let before : fs ≡ take i fs ++ (top ∷ []) = sym (take_all (i + 1) fs (omega arith)) ∙ take_more fs i top (omega arith) ∙ ap (λ t. take i fs ++ (t ∷ [])) is in
    let after : set fs i f ≡ take i fs ++ (f ∷ []) = sym (take_all (i + 1) (set fs i f) (omega (arith, length-set fs i f))) ∙ take_more_set fs i f (omega arith) in
    ap shown after ∙ last_first (take i fs) f ∙ sym (ap (λ l. passed (piece rest) (shown l)) before ∙ ap (passed (piece rest)) (last_first (take i fs) top))
