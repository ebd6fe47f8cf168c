-- The tests of operands, depths and headers say what the rules of layout say.
use Rattle.std.proofs.Common.{◌≡◌, ℕ, ◌+◌, ◌<◌, ◌≤◌, Bool, true, cond, ◌&&◌, eqb, ltb, leb, List, length, get_or, Ok, sym, refl, ap, ◌∙◌, subst, subst₂, arith, le-ltb}
use native.Mathlib.Decide.{dec_lt}
use Rattle.faults.specs.declared.causes.LayoutCause.TheVariants.{NoPart, BadHeader}
use Rattle.faults.specs.Numbers.{layout_fault}
use Rattle.faults.specs.Results.{need}
use Rattle.faults.proofs.Results.{ok_same, bound, needed, met}
use Rattle.protocol.specs.Lists.{all}
use Rattle.protocol.proofs.Tests.{both, and_true, same_number, equal_numbers, less, is_less, at_most, is_at_most}
use Rattle.book.specs.Kinds.{Kind}
use Rattle.rules.specs.Lists.{from, word}
use Rattle.rules.specs.Script.{Command, send, ask, repeat, run, store, dec, cue, fail, Part, part_from, triple_fits, header_fits, read_part, Scope, part_of, binding_in_range, in_range, depth_fits}
use Rattle.rules.specs.Keys.{BindingsInRange, InRange, Shallow, PartAt}
use Rattle.rules.proofs.Lists.{below, all_below}

three : (a b c : Bool) → (a && (b && c)) ≡ true → (a ≡ true) × (b ≡ true) × (c ≡ true)
three a b c e =
    let p = both a (b && c) e in
    let q = both b c p.1 in
    (p.0, q.0, q.1)

-- one test of the numbers below a bound, another of those from it on
if_below : {i n : ℕ} (a b : Bool) → i < n → cond (ltb i n) a b ≡ a
if_below a b lt = ap (λ v. cond v a b) (is_less lt)

if_from : {i n : ℕ} (a b : Bool) → n ≤ i → cond (ltb i n) a b ≡ b
if_from {i} {n} a b le = ap (λ v. cond v a b) (le-ltb i n le)

by_bound : (i n : ℕ) (a b : Bool) → (i < n → a ≡ true) → (n ≤ i → b ≡ true) → cond (ltb i n) a b ≡ true
by_bound i n a b f g = elim (dec_lt i n) [
  | yes lt ↦ if_below a b lt ∙ f lt
  | no nl ↦ let le : n ≤ i = omega (arith, nl) in if_from a b le ∙ g le
]

-- Operands

bindings_so : (x : Scope) (p : ℕ) (bs : List ℕ) → all (binding_in_range x p bs) (from 0 8) ≡ true → BindingsInRange x (part_of x p) bs
bindings_so x p bs e = record {
  own = λ i i8 lt. less (get_or bs i 0) x.running.handles (sym (if_below _ _ lt) ∙ below (binding_in_range x p bs) 8 i e i8);
  beyond = λ i i8 le. same_number (get_or bs i 0) 255 (sym (if_from _ _ le) ∙ below (binding_in_range x p bs) 8 i e i8);
}

bindings_pass : (x : Scope) (p : ℕ) (bs : List ℕ) → BindingsInRange x (part_of x p) bs → all (binding_in_range x p bs) (from 0 8) ≡ true
bindings_pass x p bs w =
    all_below (binding_in_range x p bs) 8 (λ i i8. by_bound i (part_of x p).handles _ _ (λ lt. is_less (w.own i i8 lt)) (λ le. equal_numbers (w.beyond i i8 le)))

pub range_so : (x : Scope) (c : Command) → in_range x c ≡ true → InRange x c
range_so x (send h l r) e =
    let p = three (ltb h x.running.handles) (ltb l 16) (ltb r 8) e in
    (less h x.running.handles p.0, less l 16 p.1, less r 8 p.2)
range_so x (ask h l bs) e =
    let p = both (ltb h x.running.handles) (ltb l 16) e in
    (less h x.running.handles p.0, less l 16 p.1)
range_so x (repeat r b) e = less r 8 e
range_so x (run p bs) e =
    let q = both (ltb p (length x.below)) (all (binding_in_range x p bs) (from 0 8)) e in
    (less p (length x.below) q.0, bindings_so x p bs q.1)
range_so x (store r v) e = less r 8 e
range_so x (dec r) e = less r 8 e
range_so x (cue n) e = tt
range_so x (fail c) e = tt

pub range_passes : (x : Scope) (c : Command) → InRange x c → in_range x c ≡ true
range_passes x (send h l r) w = and_true (is_less w.0) (and_true (is_less w.1) (is_less w.2))
range_passes x (ask h l bs) w = and_true (is_less w.0) (is_less w.1)
range_passes x (repeat r b) w = is_less w
range_passes x (run p bs) w = and_true (is_less w.0) (bindings_pass x p bs w.1)
range_passes x (store r v) w = is_less w
range_passes x (dec r) w = is_less w
range_passes x (cue n) w = refl
range_passes x (fail c) w = refl

-- Depths

pub depth_so : (d : ℕ) (c : Command) → depth_fits d c ≡ true → Shallow d c
depth_so d (send h l r) e = tt
depth_so d (ask h l bs) e = less d 8 e
depth_so d (repeat r b) e = less d 8 e
depth_so d (run p bs) e = tt
depth_so d (store r v) e = tt
depth_so d (dec r) e = tt
depth_so d (cue n) e = tt
depth_so d (fail c) e = tt

pub depth_passes : (d : ℕ) (c : Command) → Shallow d c → depth_fits d c ≡ true
depth_passes d (send h l r) w = refl
depth_passes d (ask h l bs) w = is_less w
depth_passes d (repeat r b) w = is_less w
depth_passes d (run p bs) w = refl
depth_passes d (store r v) w = refl
depth_passes d (dec r) w = refl
depth_passes d (cue n) w = refl
depth_passes d (fail c) w = refl

-- Headers

module _ (book : List Kind) (k at : ℕ) (bs : List ℕ) where
  abbrev q : Part
  q = part_from at bs

  -- what is read is the part that is there
  pub part_at : (p : Part) (rest : List ℕ) → read_part book k at bs ≡ Ok (p, rest) → PartAt book k at bs p rest
  part_at p rest e =
      let c1 = bound (need (leb 28 (length bs) && eqb (get_or bs 0 0) 0x10) (layout_fault NoPart at)) _ (p, rest) e in
      let c2 = bound (need (ltb k 16 && (header_fits book q && leb (28 + word bs 26) (length bs))) (layout_fault BadHeader at)) _ (p, rest) c1.2 in
      let mark = both (leb 28 (length bs)) (eqb (get_or bs 0 0) 0x10) (needed _ _ c1.0 c1.1) in
      let head = three (ltb k 16) (header_fits book q) (leb (28 + word bs 26) (length bs)) (needed _ _ c2.0 c2.1) in
      let count = three (ltb 0 q.handles) (leb q.handles 8) (all (triple_fits book q) (from 0 8)) head.1 in
      let few : q.handles ≤ 8 = at_most q.handles 8 count.1 in
      subst₂ (PartAt book k at bs) (ap (λ (v : Part × List ℕ). v.0) (ok_same c2.2)) (ap (λ (v : Part × List ℕ). v.1) (ok_same c2.2)) (record {
        whole = at_most 28 (length bs) mark.0;
        marked = same_number (get_or bs 0 0) 0x10 mark.1;
        number = less k 16 head.0;
        some = less 0 q.handles count.0;
        few = few;
        own = λ i lt.
            let t = three (ltb (get_or q.kinds i 0) (length book)) (ltb (get_or q.ins i 0) 16) (ltb (get_or q.outs i 0) 16)
            (sym (if_below _ _ lt) ∙ below (triple_fits book q) 8 i count.2 (omega (arith, lt, few))) in
            (less _ _ t.0, less _ _ t.1, less _ _ t.2);
        beyond = λ i i8 le.
            let t = three (eqb (get_or q.kinds i 0) 255) (eqb (get_or q.ins i 0) 255) (eqb (get_or q.outs i 0) 255)
            (sym (if_from _ _ le) ∙ below (triple_fits book q) 8 i count.2 i8) in
            (same_number _ _ t.0, same_number _ _ t.1, same_number _ _ t.2);
        room = at_most (28 + word bs 26) (length bs) head.2;
        part_is = refl;
        rest_is = refl;
      })

  header_passes : (p : Part) (rest : List ℕ) → PartAt book k at bs p rest → header_fits book p ≡ true
  header_passes p rest w = and_true (is_less w.some) (and_true (is_at_most w.few) (all_below (triple_fits book p) 8 (λ i i8. by_bound i p.handles _ _
      (λ lt. let t = w.own i lt in and_true (is_less t.0) (and_true (is_less t.1) (is_less t.2)))
      (λ le. let t = w.beyond i i8 le in and_true (equal_numbers t.0) (and_true (equal_numbers t.1) (equal_numbers t.2))))))

  -- and the other way
  pub part_reads : (p : Part) (rest : List ℕ) → PartAt book k at bs p rest → read_part book k at bs ≡ Ok (p, rest)
  part_reads p rest w =
      met (leb 28 (length bs) && eqb (get_or bs 0 0) 0x10) _ _ (and_true (is_at_most w.whole) (equal_numbers w.marked))
      ∙ met (ltb k 16 && (header_fits book q && leb (28 + word bs 26) (length bs))) _ _
      (and_true (is_less w.number) (and_true (subst (λ v. header_fits book v ≡ true) w.part_is (header_passes p rest w)) (is_at_most w.room)))
      ∙ (λ i. Ok (sym w.part_is i, sym w.rest_is i))
