use Rattle.std.proofs.Common.{◌≡◌, ℕ, ◌≤◌, [], ◌∷◌, length, get_or, sym, ap, ◌∙◌, subst}
use Rattle.std.proofs.lemmas.List.{take_rest}
use Rattle.rules.specs.Script.{Read, code_of, read_operands}
use Rattle.script.specs.Commands.{Reads, ask_at}
use Rattle.script.specs.Pieces.{past, piece}
use Rattle.script.proofs.Cutting.{left}
use Rattle.script.proofs.Firsts.{is_ask}
use Rattle.script.proofs.command.read_operands.Goals as goal

pub returns-in-len10-up : goal.returns-in-len10-up
returns-in-len10-up c =
    let b = c.args.operands in
    let bs = b.bytes.now in
    let n : 10 ≤ length bs = c.in-len10-up.len_at_least in
    let tail : past 10 (piece b) ≡ piece c.behind-in-33.result = left 10 (piece b) (piece c.behind-in-33.result) _ n (take_rest bs 10) c.behind-in-33.ensures.bytes c.behind-in-33.ensures.place in
    let reads : read_operands (code_of c.args.opcode) b.place bs ≡ ask_at (get_or bs 0 0) (get_or bs 1 0) (c.word.result ∷ c.word-in-33.result ∷ c.word-in-33-2.result ∷ c.word-in-33-3.result ∷ []) (piece c.behind-in-33.result) =
    ap (λ (k : ℕ). read_operands (code_of k) b.place bs) c.in-33.is ∙ is_ask b.place bs n
    ∙ (λ i. ask_at (get_or bs 0 0) (get_or bs 1 0) (sym c.word.ensures i ∷ sym c.word-in-33.ensures i ∷ sym c.word-in-33-2.ensures i ∷ sym c.word-in-33-3.ensures i ∷ []) (tail i)) in
    subst (λ (q : Read). Reads c.read_ask.result q) (sym reads) c.read_ask.ensures
