use Rattle.std.proofs.Common.{◌≡◌, ℕ, suc, eqb, List, length, Option, Err, Result, refl, sym, ap, ◌∙◌, subst, inl, inr, arith, le-ltb, rules, None, ◌+◌, [], ◌∷◌, ◌++◌, length-append, map}
use Rattle.std.proofs.lemmas.Slice.Zip.{zip_turn}
use Rattle.std.specs.Option.{ok_or}
use lib.Pointwise.{pointwise}
use Rattle.faults.specs.declared.causes.KeyCause.TheVariants.{EndsDiffer}
use Rattle.faults.specs.Numbers.{key_fault}
use Rattle.protocol.proofs.Tests.{is_less}
use Rattle.rules.specs.Script as rules
use Rattle.rules.specs.Script.{Keys, Scope, first, in_range}
use Rattle.rules.specs.Check.{join, or_fault}
use Rattle.rules.proofs.Reading.{reads_within}
use Rattle.faults.specs.declared.fault.Fault.{Fault}
use Rattle.script.specs.declared.block.Block.{Block}
use Rattle.script.specs.declared.command.Command.{Command}
use Rattle.script.specs.declared.command.Command.TheVariants.{Set, Dec, Cue, Fail}
use Rattle.script.specs.Commands.{Gives, said}
use Rattle.script.specs.Ends.{common_by}
use Rattle.script.specs.Levels.{scope_at}
use Rattle.script.specs.Pieces.{piece, pieces}
use Rattle.script.specs.Runs.{run_keys}
use Rattle.script.specs.Walk.{ask_keys, block_keys, repeat_keys}
use Rattle.script.proofs.Turns.{or_faulty}
use Rattle.script.proofs.Leaving.{refused, left_so}
use Rattle.script.proofs.Joining.{join_common}
use Rattle.script.proofs.Testing.{same_turned}
use Rattle.script.proofs.Walking.{at_end, unread, stops, goes_on, out_of_range, not_so, so, undeclared, stands_too_deep, settled, not_spare, branch_fails, branches_end}
use Rattle.script.proofs.Looking.{runs}
use Rattle.script.proofs.level.Level.+blocks.Goals as goal

-- An ASK

pub check_ask-returns-then-not-undeclared_empty : goal.check_ask-returns-then-not-undeclared_empty
check_ask-returns-then-not-undeclared_empty t c =
    not_spare (scope_at c.args.self.now) c.args.self.now.depth c.args.place c.args.handle c.args.letter c.args.keys.now c.in_ok-to.to _ _ c.by_answer-blocks.ensures c.in_ok-to.ensures (sym c.undeclared_empty.ensures ∙ c.if-not-undeclared_empty.true)
    ∙ ap Err (sym c.at.ensures)

pub check_ask-returns-in_err-ends : goal.check_ask-returns-in_err-ends
check_ask-returns-in_err-ends t c =
    refused _ _ _ _ c.from_residual-in_err-ends.ensures.1
    (branch_fails (scope_at c.args.self.now) c.args.self.now.depth c.args.place c.args.handle c.args.letter c.args.keys.now c.in_ok-to.to _ _ c.by_answer-blocks.ensures c.in_ok-to.ensures (sym c.undeclared_empty.ensures ∙ c.if-not-undeclared_empty.false) _ c.in_err-ends.ensures)

-- what the blocks end with
joined : (x : Scope) (d place h l : ℕ) (ks : Keys) (bs : List rules.Block) (ends : List Keys) (o : Option Keys) (e : Fault) (r : Result Keys Fault) →
    ask_keys x d place h l bs ks ≡ or_fault (join ends) (key_fault EndsDiffer place) → o ≡ common_by (pointwise eqb) ends → e ≡ key_fault EndsDiffer place → r ≡ ok_or o e →
    ask_keys x d place h l bs ks ≡ r
joined x d place h l ks bs ends o e r asked common at is =
    asked ∙ or_faulty (join ends) (key_fault EndsDiffer place)
    ∙ sym (is ∙ (λ i. ok_or ((common ∙ sym (join_common (pointwise eqb) same_turned ends)) i) (at i)))

pub check_ask-returns-in_err-keys : goal.check_ask-returns-in_err-keys
check_ask-returns-in_err-keys t c =
    let ends : List Keys = c.in_ok-ends.ends.items in
    let x = scope_at c.args.self.now in
    let d = c.args.self.now.depth in
    let asked = branches_end x d c.args.place c.args.handle c.args.letter c.args.keys.now c.in_ok-to.to _ _ c.by_answer-blocks.ensures c.in_ok-to.ensures (sym c.undeclared_empty.ensures ∙ c.if-not-undeclared_empty.false) _ c.in_ok-ends.ensures in
    refused _ _ _ _ c.from_residual-in_err-keys.ensures.1
    (joined x d c.args.place c.args.handle c.args.letter c.args.keys.now _ ends _ _ _ asked (c.common.ensures ∙ ap (common_by (pointwise eqb)) c.deref.ensures.0) c.at-2.ensures c.in_err-keys.ensures.value)

pub check_ask-returns : goal.check_ask-returns
check_ask-returns t c =
    let ends : List Keys = c.in_ok-ends.ends.items in
    let x = scope_at c.args.self.now in
    let d = c.args.self.now.depth in
    let asked = branches_end x d c.args.place c.args.handle c.args.letter c.args.keys.now c.in_ok-to.to _ _ c.by_answer-blocks.ensures c.in_ok-to.ensures (sym c.undeclared_empty.ensures ∙ c.if-not-undeclared_empty.false) _ c.in_ok-ends.ensures in
    joined x d c.args.place c.args.handle c.args.letter c.args.keys.now _ ends _ _ _ asked (c.common.ensures ∙ ap (common_by (pointwise eqb)) c.deref.ensures.0) c.at-2.ensures c.in_ok-keys.ensures.value

-- A block

read_so : (b : Block) (r r' : Result (Command × Block) Fault) → Gives b.place r (first (piece b)) → r ≡ r' → Gives b.place r' (first (piece b))
read_so b r r' g is = subst (λ v. Gives b.place v (first (piece b))) is g

pub check_block-returns-in_err-command : goal.check_block-returns-in_err-command
check_block-returns-in_err-command t c =
    let g = read_so c.loop-first.rest c.in-Some.first _ c.in-Some.ensures c.in_err-command.was in
    refused _ _ _ _ c.from_residual.ensures.1 (c.loop-first.invariant ∙ unread _ _ _ _ g.0 ∙ ap Err (sym g.1))

pub check_block-returns-in_err-check_command : goal.check_block-returns-in_err-check_command
check_block-returns-in_err-check_command t c =
    let g = read_so c.loop-first.rest c.in-Some.first _ c.in-Some.ensures c.in_ok-command.was in
    refused _ _ _ _ c.from_residual-in_err-check_command.ensures.1 (c.loop-first.invariant ∙ stops _ _ _ _ _ _ _ g c.in_err-check_command.ensures)

pub check_block-loop-first-smaller : goal.check_block-loop-first-smaller
check_block-loop-first-smaller t c = (reads_within _ _ _ (read_so c.loop-first.rest c.in-Some.first _ c.in-Some.ensures c.in_ok-command.was)).rest_shorter

pub check_block-loop-first-preserved : goal.check_block-loop-first-preserved
check_block-loop-first-preserved t c =
    let g = read_so c.loop-first.rest c.in-Some.first _ c.in-Some.ensures c.in_ok-command.was in
    c.loop-first.invariant ∙ goes_on _ _ _ _ _ _ _ g c.in_ok-check_command.ensures

pub check_block-returns : goal.check_block-returns
check_block-returns t c = c.loop-first.invariant ∙ at_end _ _ _ _ c.in_default.ensures

-- A command

pub check_command-returns-then-not-in_range : goal.check_command-returns-then-not-in_range
check_command-returns-then-not-in_range t c = out_of_range _ _ _ _ _ (not_so (scope_at c.args.self.now) (said c.args.command) (sym c.in_range.ensures ∙ c.if-not-in_range.true)) ∙ ap Err (sym c.at.ensures)

pub check_command-returns-in_err-inner-in-Ask : goal.check_command-returns-in_err-inner-in-Ask
check_command-returns-in_err-inner-in-Ask t c =
    let w = c.in_err-inner-in-Ask.ensures in
    refused _ _ _ _ c.from_residual.ensures.1
    (stands_too_deep _ _ _ _ c.args.command _ c.in-Ask.is (so (scope_at c.args.self.now) c.args.command _ c.in-Ask.is (sym c.in_range.ensures ∙ c.if-not-in_range.false)) (le-ltb c.args.self.now.depth 8 w.0) ∙ ap Err (sym w.1))

pub check_command-returns-in_err-inner-in-Repeat : goal.check_command-returns-in_err-inner-in-Repeat
check_command-returns-in_err-inner-in-Repeat t c =
    let w = c.in_err-inner-in-Repeat.ensures in
    refused _ _ _ _ c.from_residual-in_err-inner-in-Repeat.ensures.1
    (stands_too_deep _ _ _ _ c.args.command _ c.in-Repeat.is (so (scope_at c.args.self.now) c.args.command _ c.in-Repeat.is (sym c.in_range.ensures ∙ c.if-not-in_range.false)) (le-ltb c.args.self.now.depth 8 w.0) ∙ ap Err (sym w.1))

pub check_command-returns-in_ok-inner-in-Ask : goal.check_command-returns-in_ok-inner-in-Ask
check_command-returns-in_ok-inner-in-Ask t c =
    let w = c.in_ok-inner-in-Ask.ensures in
    left_so _ _ _ _ (settled _ _ _ _ c.args.command _ c.in-Ask.is (so (scope_at c.args.self.now) c.args.command _ c.in-Ask.is (sym c.in_range.ensures ∙ c.if-not-in_range.false)) (is_less w.0)
    ∙ sym (λ i. ask_keys (w.1 i) (w.2 i) c.args.place c.in-Ask.handle c.in-Ask.letter (pieces c.in-Ask.blocks) c.args.keys.now))
    c.check_ask.ensures

pub check_command-returns-in_ok-inner-in-Repeat : goal.check_command-returns-in_ok-inner-in-Repeat
check_command-returns-in_ok-inner-in-Repeat t c =
    let w = c.in_ok-inner-in-Repeat.ensures in
    left_so _ _ _ _ (settled _ _ _ _ c.args.command _ c.in-Repeat.is (so (scope_at c.args.self.now) c.args.command _ c.in-Repeat.is (sym c.in_range.ensures ∙ c.if-not-in_range.false)) (is_less w.0)
    ∙ sym (λ i. repeat_keys (w.1 i) (w.2 i) c.args.place (piece c.in-Repeat.block) c.args.keys.now))
    c.check_repeat.ensures

pub check_command-returns-in-Send : goal.check_command-returns-in-Send
check_command-returns-in-Send t c =
    left_so _ _ _ _ (settled _ _ _ _ c.args.command _ c.in-Send.is (so (scope_at c.args.self.now) c.args.command _ c.in-Send.is (sym c.in_range.ensures ∙ c.if-not-in_range.false)) refl) c.check_send.ensures

pub check_command-returns-in-Set : goal.check_command-returns-in-Set
check_command-returns-in-Set t c =
    let after = λ (v : Command) (e : c.args.command ≡ v). settled (scope_at c.args.self.now) c.args.self.now.depth c.args.place c.args.keys.now c.args.command v e in
    let fits = λ (v : Command) (e : c.args.command ≡ v). so (scope_at c.args.self.now) c.args.command v e (sym c.in_range.ensures ∙ c.if-not-in_range.false) in
    elim c.in-Set.is [
      | inl w ↦ after (Set w.0 w.1) w.2 (fits (Set w.0 w.1) w.2) refl
      | inr (inl w) ↦ after (Dec w.0) w.1 (fits (Dec w.0) w.1) refl
      | inr (inr (inl w)) ↦ after (Cue w.0) w.1 refl refl
      | inr (inr (inr w)) ↦ after (Fail w.0) w.1 refl refl
    ]

pub check_command-returns-in_default : goal.check_command-returns-in_default
check_command-returns-in_default t c =
    let x = scope_at c.args.self.now in
    out_of_range x _ _ (said c.args.command) _ (ap (λ (v : Command). in_range x (said v)) c.in-Run.is ∙ c.in_default.ensures) ∙ ap Err (sym c.at-in_default.ensures)

pub check_command-returns-in-Some : goal.check_command-returns-in-Some
check_command-returns-in-Some t c =
    let x = scope_at c.args.self.now in
    let w = c.in-Some.ensures in
    left_so _ _ _ _ (settled x _ _ _ c.args.command _ c.in-Run.is w.0 refl
    ∙ runs c.args.self.now.scope.now c.in-Run.part (block_keys x (suc c.args.self.now.depth)) c.args.place c.in-Run.bindings.now c.args.keys.now c.in-Some.run'.part.now w.1
    ∙ sym (λ i. run_keys (w.2 i) c.args.place c.in-Some.run'.part.now (w.3 i) c.args.keys.now))
    c.check.ensures

-- Branches

pub check_branches-loop-to-preserved : goal.check_branches-loop-to-preserved
check_branches-loop-to-preserved t c =
    let here = zip_turn c.args.to.now c.args.blocks.now c.loop-to.yielded _ c.loop-to.to-iterator c.next.new.self c.next.result (search rules) (search rules) c.loop-to.yielded_by (c.in-Some.to, c.in-Some.block) c.in-Some.is c.next.ensures.steps in
    let one_more : length (c.loop-to.yielded ++ ((c.in-Some.to, c.in-Some.block) ∷ [])) ≡ length c.loop-to.yielded + 1 = length-append c.loop-to.yielded ((c.in-Some.to, c.in-Some.block) ∷ []) in (
      c.loop-to.invariant.0 ∙ undeclared (block_keys (scope_at c.args.self.now) c.args.self.now.depth) c.args.keys.now c.args.handle c.loop-to.ends.items c.args.to.now (map piece c.args.blocks.now) (length c.loop-to.yielded) _ here.0 (sym (here.2 None) ∙ c.in_default.is) one_more,
      omega (arith, one_more, c.loop-to.invariant.1),
    )
