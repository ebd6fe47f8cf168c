-- The handles of a header, and tests that fail.
use Rattle.std.proofs.Common.{◌≡◌, ℕ, Bool, true, false, cond, ◌&&◌, eqb, ltb, List, length, get_or, sym, refl, ap}
use Rattle.std.specs.List.{enumerate_from, list_all}
use Rattle.protocol.specs.Lists.{all}
use Rattle.protocol.proofs.Tests.{is_at_most}
use Rattle.book.specs.Kinds.{Kind}
use Rattle.rules.specs.Lists.{from}
use Rattle.rules.specs.Script.{triple_fits, header_fits}
use Rattle.script.specs.declared.part.Handle.{Handle}
use Rattle.script.specs.declared.part.Part.{Part}
use Rattle.script.specs.Parts.{no_handle}
use Rattle.script.specs.Headers.{by_header, empty_handle, handles_fit, ranged}
use Rattle.script.proofs.Mapped.{all_numbered, map_at}

pub left_fails : {a : Bool} (b : Bool) → a ≡ false → (a && b) ≡ false
left_fails b e = ap (λ v. v && b) e

pub right_fails : (a : Bool) {b : Bool} → b ≡ false → (a && b) ≡ false
right_fails true e = e
right_fails false e = refl

module _ (book : List Kind) (p : Part) where
  abbrev handle_fits : ℕ × Handle → Bool
  handle_fits h = cond (ltb h.0 p.own) (ranged (length book) h.1) (empty_handle h.1)

  one_fits : (i : ℕ) → triple_fits book (by_header p) i ≡ handle_fits (i, get_or p.handles i no_handle)
  one_fits i =
      let k = map_at (λ h. h.kind) no_handle p.handles i in
      let s = map_at (λ h. h.enters) no_handle p.handles i in
      let t = map_at (λ h. h.leaves) no_handle p.handles i in
      λ j. cond (ltb i p.own) (ltb (k j) (length book) && (ltb (s j) 16 && ltb (t j) 16)) (eqb (k j) 255 && (eqb (s j) 255 && eqb (t j) 255))

  pub header_so : length p.handles ≡ 8 → handles_fit (length book) p ≡ header_fits book (by_header p)
  header_so len =
      let fits : list_all handle_fits (enumerate_from 0 p.handles) ≡ all (triple_fits book (by_header p)) (from 0 8) =
      all_numbered (triple_fits book (by_header p)) handle_fits no_handle p.handles 8 len one_fits in
      λ j. ltb 0 p.own && (sym (is_at_most {m = p.own} {n = 8} p.few) j && fits j)
