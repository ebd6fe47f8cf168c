use Rattle.std.proofs.Common.{rules}
use Rattle.script.specs.Pieces.{piece}
use Rattle.script.proofs.Cutting.{four_of, none_cut, one_cut, short_behind, short_here, ask_cut, too_short}
use Rattle.script.proofs.command.read_ask.Goals as goal

pub returns-in_err-zero : goal.returns-in_err-zero
returns-in_err-zero c =
    too_short _ _ _ _ (four_of c.args.lengths (search rules)) (piece c.args.tail) _ c.from_residual.ensures
    (short_here _ _ _ c.in_err-zero.ensures)

pub returns-in_err-one : goal.returns-in_err-one
returns-in_err-one c =
    too_short _ _ _ _ (four_of c.args.lengths (search rules)) (piece c.args.tail) _ c.from_residual-in_err-one.ensures
    (short_behind _ _ (piece c.args.tail) (piece c.in_ok-zero.zero) (piece c.in_ok-zero.tail) c.in_ok-zero.ensures
    (short_here _ _ _ c.in_err-one.ensures))

pub returns-in_err-two : goal.returns-in_err-two
returns-in_err-two c =
    too_short _ _ _ _ (four_of c.args.lengths (search rules)) (piece c.args.tail) _ c.from_residual-in_err-two.ensures
    (short_behind _ _ (piece c.args.tail) (piece c.in_ok-zero.zero) (piece c.in_ok-zero.tail) c.in_ok-zero.ensures
    (short_behind _ _ _ (piece c.in_ok-one.one) (piece c.in_ok-one.tail) c.in_ok-one.ensures
    (short_here _ _ _ c.in_err-two.ensures)))

pub returns-in_err-three : goal.returns-in_err-three
returns-in_err-three c =
    too_short _ _ _ _ (four_of c.args.lengths (search rules)) (piece c.args.tail) _ c.from_residual-in_err-three.ensures
    (short_behind _ _ (piece c.args.tail) (piece c.in_ok-zero.zero) (piece c.in_ok-zero.tail) c.in_ok-zero.ensures
    (short_behind _ _ _ (piece c.in_ok-one.one) (piece c.in_ok-one.tail) c.in_ok-one.ensures
    (short_behind _ _ _ (piece c.in_ok-two.two) (piece c.in_ok-two.tail) c.in_ok-two.ensures
    (short_here _ _ _ c.in_err-three.ensures))))

pub returns : goal.returns
returns c =
    ask_cut _ _ _ _ (four_of c.args.lengths (search rules)) (piece c.args.tail)
    (one_cut _ _ _ (piece c.in_ok-zero.zero) (piece c.in_ok-zero.tail) c.in_ok-zero.ensures
    (one_cut _ _ _ (piece c.in_ok-one.one) (piece c.in_ok-one.tail) c.in_ok-one.ensures
    (one_cut _ _ _ (piece c.in_ok-two.two) (piece c.in_ok-two.tail) c.in_ok-two.ensures
    (one_cut _ _ _ (piece c.in_ok-three.three) (piece c.in_ok-three.rest) c.in_ok-three.ensures
    (none_cut _)))))
