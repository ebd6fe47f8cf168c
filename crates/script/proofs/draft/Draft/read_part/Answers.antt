use Rattle.std.proofs.Common.{◌≡◌, ◌+◌, ◌-◌, ◌≤◌, false, length, get_or, take, drop, Err, sym, refl, ap, ◌∙◌, arith, length-drop}
use lib.ListN.{length-map}
use Rattle.std.proofs.lemmas.List.{take_rest}
use Rattle.book.specs.Held.{kinds_held}
use Rattle.rules.specs.Script.{part_from}
use Rattle.script.specs.declared.part.Handle.{Handle}
use Rattle.script.specs.declared.part.Part.{Part}
use Rattle.script.specs.Headers.{by_header}
use Rattle.script.proofs.Headers.{header_so}
use Rattle.script.proofs.Placed.{in_order, has_mark, many_parts, many_handles, not_fitting, no_body, is_in_order, out_of_order, Copied, bad_header, good_header}
use Rattle.script.proofs.draft.Draft.read_part.Goals as goal
use Rattle.script.proofs.draft.Draft.read_part.Goals.{then-number-ge-MOST_PARTS-via-then-number-ge-MOST_PARTS, then-number-ge-MOST_PARTS-via-else-number-ge-MOST_PARTS+then-own-gt-HANDLES, then-not-handles_fit-via-then-not-handles_fit, then-not-handles_fit-via-else-not-handles_fit+then-rest-part}

pub returns-then-number-ge-MOST_PARTS-clause-gives : goal.returns-then-number-ge-MOST_PARTS-clause-gives
returns-then-number-ge-MOST_PARTS-clause-gives c =
    let bs = drop c.args.place c.args.self.now.bytes.now in
    let book = kinds_held c.args.self.now.book.now in
    let mark = has_mark bs (simp take_rest at c.if-rest.false) (simp take_rest at c.if-rest-ne-MARK.false) in
    let e : in_order book c.args.number (part_from c.args.place bs) bs ≡ false = elim c.then-number-ge-MOST_PARTS.branch [
      | then-number-ge-MOST_PARTS-via-then-number-ge-MOST_PARTS w ↦ many_parts book c.args.number (part_from c.args.place bs) bs w.if-number-ge-MOST_PARTS.true
      | then-number-ge-MOST_PARTS-via-else-number-ge-MOST_PARTS+then-own-gt-HANDLES w ↦ many_handles book c.args.number (part_from c.args.place bs) bs (simp take_rest at w.if-own-gt-HANDLES.true)
    ] in
    out_of_order book c.args.number c.args.place bs mark e ∙ ap Err (sym c.at-then-number-ge-MOST_PARTS.ensures)

pub returns-then-not-handles_fit-clause-gives : goal.returns-then-not-handles_fit-clause-gives
returns-then-not-handles_fit-clause-gives c =
    let bytes = c.args.self.now.bytes.now in
    let at = c.args.place in
    let rest = take (length bytes - at) (drop at bytes) in
    let book = kinds_held c.args.self.now.book.now in
    let p : Part = record { place = at; own = get_or rest 1 0; handles = c.triples.result; len = c.word.result; few = c.if-own-gt-HANDLES.false } in
    let w : Copied rest p = record { own = refl; kinds = c.triples.ensures.kinds; ins = c.triples.ensures.ins; outs = c.triples.ensures.outs; len = c.word.ensures } in
    let eight : length p.handles ≡ 8 = sym (length-map p.handles (λ (h : Handle). h.kind)) ∙ ap length c.triples.ensures.kinds in
    let e : in_order book c.args.number (by_header p) rest ≡ false = elim c.then-not-handles_fit.branch [
      | then-not-handles_fit-via-then-not-handles_fit v ↦ not_fitting book c.args.number (by_header p) rest (sym (header_so book p eight) ∙ sym v.if-not-handles_fit.ensures)
      | then-not-handles_fit-via-else-not-handles_fit+then-rest-part v ↦ no_body book c.args.number (by_header p) rest (omega (arith, v.if-rest-part.true, w.len))
    ] in
    bad_header book c.args.number bytes p rest (take_rest bytes at) w (has_mark rest c.if-rest.false c.if-rest-ne-MARK.false) e ∙ ap Err (sym c.at-then-not-handles_fit.ensures)

pub returns-clause-gives : goal.returns-clause-gives
returns-clause-gives c =
    let bytes = c.args.self.now.bytes.now in
    let at = c.args.place in
    let rest = take (length bytes - at) (drop at bytes) in
    let book = kinds_held c.args.self.now.book.now in
    let p : Part = record { place = at; own = get_or rest 1 0; handles = c.triples.result; len = c.word.result; few = c.if-own-gt-HANDLES.false } in
    let w : Copied rest p = record { own = refl; kinds = c.triples.ensures.kinds; ins = c.triples.ensures.ins; outs = c.triples.ensures.outs; len = c.word.ensures } in
    let eight : length p.handles ≡ 8 = sym (length-map p.handles (λ (h : Handle). h.kind)) ∙ ap length c.triples.ensures.kinds in
    let room : 28 + p.len ≤ length rest = c.if-rest-part.false in
    let e = is_in_order book c.args.number (by_header p) rest c.if-number-ge-MOST_PARTS.false (sym (header_so book p eight) ∙ sym c.if-not-handles_fit.ensures) (omega (arith, room, w.len)) in (
      good_header book c.args.number bytes p rest (take_rest bytes at) w (has_mark rest c.if-rest.false c.if-rest-ne-MARK.false) e,
      omega (arith, room, ap length (take_rest bytes at), length-drop at bytes, c.requires),
      refl,
    )
