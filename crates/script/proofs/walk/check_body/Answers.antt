use Rattle.std.proofs.Common.{◌≡◌, Bool, true, false, eqb, Ok, Err, sym, ap, ◌∙◌}
use lib.Pointwise.{pointwise}
use Rattle.faults.specs.declared.causes.KeyCause.TheVariants.{BodyEnd}
use Rattle.faults.specs.Numbers.{key_fault}
use Rattle.faults.specs.Results.{need as required}
use Rattle.rules.specs.Script.{Block, Keys, Scope}
use Rattle.rules.specs.Check.{check_body}
use Rattle.script.specs.Scopes.{scope_of}
use Rattle.script.specs.Pieces.{piece}
use Rattle.script.specs.Walk.{block_keys}
use Rattle.rules.specs.Lists.{same}
use Rattle.script.proofs.Turns.{passed}
use Rattle.script.proofs.Testing.{same_pointwise}
use Rattle.script.proofs.Walking.{body_ends}
use Rattle.script.proofs.walk.check_body.Goals as goal

pub returns-in_err-check_block : goal.returns-in_err-check_block
returns-in_err-check_block c =
    let x = scope_of c.args.scope.now in
    passed _ _ c.from_residual.ensures.1
    ∙ sym (body_ends x (piece c.body.result) _ c.body.ensures (sym (ap (block_keys x 1 (piece c.body.result)) c.stations_in-end.ensures) ∙ c.in_err-check_block.ensures))

-- the keys at the end are compared with those that are wanted
compared : (x : Scope) (b : Block) (ins ks : Keys) (is : Bool) (outs : Keys) → b ≡ x.running.body → ins ≡ x.running.ins → block_keys x 1 b ins ≡ Ok ks → is ≡ pointwise eqb ks outs → outs ≡ x.running.outs →
    required is (key_fault BodyEnd x.running.place) ≡ check_body x
compared x b ins ks is outs body begin end tested wanted =
    ap (λ b. required b (key_fault BodyEnd x.running.place)) (tested ∙ same_pointwise ks outs ∙ ap (same ks) wanted)
    ∙ sym (body_ends x b (Ok ks) body (sym (ap (block_keys x 1 b) begin) ∙ end))

pub returns-then-eq : goal.returns-then-eq
returns-then-eq c =
    compared (scope_of c.args.scope.now) (piece c.body.result) _ _ true _ c.body.ensures c.stations_in-end.ensures c.in_ok-check_block.ensures c.if-eq.ensures c.stations_out.ensures

pub returns-else-eq : goal.returns-else-eq
returns-else-eq c =
    ap Err c.at.ensures ∙ compared (scope_of c.args.scope.now) (piece c.body.result) _ _ false _ c.body.ensures c.stations_in-end.ensures c.in_ok-check_block.ensures c.if-eq.ensures c.stations_out.ensures
