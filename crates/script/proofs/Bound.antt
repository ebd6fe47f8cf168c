-- Bound handles, tested one by one.
use Rattle.std.proofs.Common.{◌≡◌, ℕ, ◌+◌, ◌<◌, ◌≤◌, ◌&&◌, eqb, Bool, List, map, length, get_or, take, sym, ap, ◌∙◌, arith}
use Rattle.std.specs.List.{list_all, zip}
use Rattle.std.proofs.lemmas.List.{get_or-take, length-take-le}
use Rattle.std.proofs.lemmas.Slice.Zip.{length-zip, get_or-zip}
use Rattle.protocol.specs.Lists.{all}
use Rattle.rules.specs.Lists.{from}
use Rattle.rules.specs.Script.{Keys}
use Rattle.script.specs.declared.part.Handle.{Handle}
use Rattle.script.specs.declared.part.Part.{Part}
use Rattle.script.specs.Parts.{no_handle}
use Rattle.script.specs.Runs.{suits}
use Rattle.script.proofs.Mapped.{all_over, map_at}

module _ (q : Part) (ks : Keys) (p : Part) (bs : List ℕ) where
  abbrev pub one_suits : ℕ × Handle → Bool
  one_suits b = eqb (get_or (map (λ (h : Handle). h.kind) q.handles) b.0 0) b.1.kind && eqb (get_or ks b.0 0) b.1.enters

  pub all_suit : length bs ≡ 8 → length p.handles ≡ 8 → list_all one_suits (zip (take p.own bs) p.handles) ≡ all (suits q ks p bs) (from 0 p.own)
  all_suit eight eight' =
      let bound : List ℕ = take p.own bs in
      let few : p.own ≤ 8 = p.few in
      let own : length bound ≡ p.own = length-take-le p.own bs (omega arith) in
      let long : length (zip bound p.handles) ≡ p.own = length-zip bound p.handles ∙ (omega arith) in
      sym (all_over (suits q ks p bs) one_suits (0, no_handle) (zip bound p.handles) 0 (λ i lt.
      let z : 0 + i ≡ i = omega arith in
      let lt' : i < p.own = omega (arith, long, lt) in
      let here : get_or bs i 0 ≡ get_or bound i 0 = sym (get_or-take p.own bs i 0 lt') in
      ap (suits q ks p bs) z
      ∙ (λ t. eqb (get_or (map (λ (h : Handle). h.kind) q.handles) (here t) 0) (map_at (λ (h : Handle). h.kind) no_handle p.handles i t)
      && eqb (get_or ks (here t) 0) (map_at (λ (h : Handle). h.enters) no_handle p.handles i t))
      ∙ ap one_suits (sym (get_or-zip bound p.handles i (0, no_handle) (omega arith) (omega arith)))))
      ∙ ap (λ (m : ℕ). all (suits q ks p bs) (from 0 m)) long
