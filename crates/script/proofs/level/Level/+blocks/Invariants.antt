use Rattle.std.proofs.Common.{◌≡◌, ◌+◌, ◌-◌, ◌*◌, ◌≤◌, map, length, drop}
use Rattle.script.specs.Levels.{scope_at}
use Rattle.script.specs.Pieces.{piece}
use Rattle.script.specs.Walk.{block_keys, branch_ends}
use Rattle.script.proofs.Walking.{behind}
use Rattle.script.proofs.level.Level.+blocks.Given as goal

abbrev pub decreases-check_block : goal.decreases-check_block
decreases-check_block l = 4 * (9 - l.self.now.depth)

abbrev pub decreases-check_command : goal.decreases-check_command
decreases-check_command l = 4 * (9 - l.self.now.depth) - 1

abbrev pub decreases-check_ask : goal.decreases-check_ask
decreases-check_ask l = 4 * (9 - l.self.now.depth) + 2

abbrev pub decreases-check_branches : goal.decreases-check_branches
decreases-check_branches l = 4 * (9 - l.self.now.depth) + 1

abbrev pub decreases-check_repeat : goal.decreases-check_repeat
decreases-check_repeat l = 4 * (9 - l.self.now.depth) + 1

-- what is left comes to what the whole comes to
abbrev pub invariant-check_block-loop-first : goal.invariant-check_block-loop-first
invariant-check_block-loop-first l =
    block_keys (scope_at l.self) l.self.depth (piece l.block) l.initial.keys ≡ block_keys (scope_at l.self) l.self.depth (piece l.rest) l.keys

abbrev pub decreases-check_block-loop-first : goal.decreases-check_block-loop-first
decreases-check_block-loop-first l = length l.rest.bytes.now

-- behind the blocks so far
abbrev pub invariant-check_branches-loop-to : goal.invariant-check_branches-loop-to
invariant-check_branches-loop-to l =
    let n = length l.yielded in
    (branch_ends (scope_at l.self) l.self.depth l.handle l.fn.to (map piece l.blocks) l.keys
    ≡ behind (block_keys (scope_at l.self) l.self.depth) l.keys l.handle l.ends.items (drop n l.fn.to) (drop n (map piece l.blocks)))
    × (length l.ends.items ≤ n)
