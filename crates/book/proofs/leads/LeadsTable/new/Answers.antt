use Rattle.std.proofs.Common.{◌≡◌, ◌<◌, Bool, true, false, cond, ◌&&◌, ltb, get_or, replicate, refl, ap, ◌∙◌, arith}
use Rattle.std.proofs.lemmas.List.{get_or-replicate}
use Rattle.book.specs.declared.leads.Leads.TheVariants.{Nowhere}
use Rattle.book.specs.declared.leads.Joint.{Joint}
use Rattle.book.specs.Leads.{shown, slot_of, undeclared}
use Rattle.protocol.proofs.Tests.{both, less}
use Rattle.book.proofs.leads.LeadsTable.new.Goals as goal

pub returns : goal.returns
returns c s l = by (ltb s 16 && ltb l 16) refl
  where
    j : Joint
    j = c.new.result

    by : (b : Bool) → (ltb s 16 && ltb l 16) ≡ b → cond b (shown (get_or (replicate 256 j) (slot_of s l) undeclared)) Nowhere ≡ Nowhere
    by false e = refl
    by true e =
        let p = both (ltb s 16) (ltb l 16) e in
        let sl : s < 16 = less s 16 p.0 in
        let ll : l < 16 = less l 16 p.1 in
        ap shown (get_or-replicate 256 (slot_of s l) j undeclared (omega arith)) ∙ c.new.ensures
