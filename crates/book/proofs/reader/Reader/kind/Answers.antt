use Rattle.std.proofs.Common.{◌≡◌, ◌≤◌, length, get_or, Err, sym, ap, ◌∙◌, arith, rules}
use Rattle.std.proofs.lemmas.Bool.Decides.{nat_tests}
use Rattle.std.proofs.lemmas.List.{take_rest}
use Rattle.faults.specs.declared.fault.Fault.{Fault}
use Rattle.book.proofs.Readers.{kind_reads, kind_refused}
use Rattle.book.proofs.reader.Reader.kind.Goals as goal
use Rattle.book.proofs.reader.Reader.kind.Goals.{then-from-len-via-then-from-len, then-from-len-via-else-from-len+then-is_full}

pub returns-then-from-len : goal.returns-then-from-len
returns-then-from-len c x w =
    let os = c.args.operands.now in
    let le : 1 ≤ length os = search rules in
    kind_refused c.close.new.self x c.args.place os (c.in_ok-close.ensures x w) le (λ e lt. elim c.then-from-len.branch [
      | then-from-len-via-then-from-len v ↦ grind (arith, nat_tests)
      | then-from-len-via-else-from-len+then-is_full v ↦ grind (arith, nat_tests)
    ])
    ∙ ap (λ (v : Fault). Err v) (sym c.at-then-from-len.ensures)

pub returns : goal.returns
returns c x w =
    let os = c.args.operands.now in
    let le : 1 ≤ length os = search rules in
    let number : get_or os 0 0 ≡ length c.close.new.self.kinds.items = search rules in
    let g = kind_reads c.close.new.self x c.args.place os (c.in_ok-close.ensures x w) le c.new.result _ c.new.ensures number in
    rw g.1 (g.2, le, take_rest os 1)
