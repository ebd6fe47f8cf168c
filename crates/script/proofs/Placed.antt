-- A part of the code at its place in the script, and the definition's reading of it.
use Rattle.std.proofs.Common.{◌≡◌, ℕ, ◌+◌, ◌<◌, ◌≤◌, Bool, true, false, ◌&&◌, eqb, ltb, leb, List, map, length, get_or, take, drop, Ok, Err, sym, ap, ◌∙◌, drop-drop, le-ltb}
use borrow.Author.Tests.{lt-leb}
use Rattle.faults.specs.declared.causes.LayoutCause.TheVariants.{NoPart, BadHeader}
use Rattle.faults.specs.Numbers.{layout_fault}
use Rattle.faults.proofs.Results.{met}
use Rattle.protocol.specs.Lists.{all}
use Rattle.protocol.proofs.Tests.{and_true, equal_numbers, is_less, is_at_most}
use Rattle.book.specs.Kinds.{Kind}
use Rattle.rules.specs.Lists.{from, word}
use Rattle.rules.specs.Script as rules
use Rattle.rules.specs.Script.{thirds, part_from, triple_fits, header_fits, read_part}
use Rattle.script.specs.declared.part.Part.{Part}
use Rattle.script.specs.Parts.{shown}
use Rattle.script.specs.Headers.{by_header}
use Rattle.script.proofs.Turns.{unmet}
use Rattle.script.proofs.Headers.{left_fails, right_fails}

-- a whole header with its mark
abbrev pub marked : List ℕ → Bool
marked bs = leb 28 (length bs) && eqb (get_or bs 0 0) 0x10

-- its number and its handles are in range, and its body is whole
abbrev pub in_order : List Kind → ℕ → rules.Part → List ℕ → Bool
in_order book k p bs = ltb k 16 && (header_fits book p && leb (28 + word bs 26) (length bs))

module _ (bs : List ℕ) where
  pub has_mark : 28 ≤ length bs → get_or bs 0 0 ≡ 0x10 → marked bs ≡ true
  has_mark le e = and_true (is_at_most le) (equal_numbers e)

module _ (book : List Kind) (k : ℕ) (p : rules.Part) (bs : List ℕ) where
  pub many_parts : 16 ≤ k → in_order book k p bs ≡ false
  many_parts le = left_fails (header_fits book p && leb (28 + word bs 26) (length bs)) (le-ltb k 16 le)

  pub not_fitting : header_fits book p ≡ false → in_order book k p bs ≡ false
  not_fitting e = right_fails (ltb k 16) (left_fails (leb (28 + word bs 26) (length bs)) e)

  pub many_handles : 8 < p.handles → in_order book k p bs ≡ false
  many_handles lt = not_fitting (right_fails (ltb 0 p.handles) (left_fails (all (triple_fits book p) (from 0 8)) (lt-leb p.handles 8 lt)))

  pub no_body : length bs < 28 + word bs 26 → in_order book k p bs ≡ false
  no_body lt = right_fails (ltb k 16) (right_fails (header_fits book p) (lt-leb (28 + word bs 26) (length bs) lt))

  pub is_in_order : k < 16 → header_fits book p ≡ true → 28 + word bs 26 ≤ length bs → in_order book k p bs ≡ true
  is_in_order lt e le = and_true (is_less lt) (and_true e (is_at_most le))

module _ (book : List Kind) (k at : ℕ) (bs : List ℕ) where
  pub out_of_order : marked bs ≡ true → in_order book k (part_from at bs) bs ≡ false → read_part book k at bs ≡ Err (layout_fault BadHeader at)
  out_of_order e f = met (marked bs) (layout_fault NoPart at) _ e ∙ unmet (in_order book k (part_from at bs) bs) (layout_fault BadHeader at) _ f

  is_read : marked bs ≡ true → in_order book k (part_from at bs) bs ≡ true → read_part book k at bs ≡ Ok (part_from at bs, drop (28 + word bs 26) bs)
  is_read e f = met (marked bs) (layout_fault NoPart at) _ e ∙ met (in_order book k (part_from at bs) bs) (layout_fault BadHeader at) _ f

-- the part has what the bytes begin with
pub record Copied (bs : List ℕ) (p : Part) : Type 0 where
  pub own : p.own ≡ get_or bs 1 0
  pub kinds : map (λ h. h.kind) p.handles ≡ thirds 8 (drop 2 bs)
  pub ins : map (λ h. h.enters) p.handles ≡ thirds 8 (drop 3 bs)
  pub outs : map (λ h. h.leaves) p.handles ≡ thirds 8 (drop 4 bs)
  pub len : p.len ≡ word bs 26

module _ (book : List Kind) (k : ℕ) (bs : List ℕ) (p : Part) (rest : List ℕ) (e : rest ≡ drop p.place bs) (w : Copied rest p) where
  is_there : shown bs p ≡ part_from p.place rest
  is_there =
      let behind : drop (p.place + 28) bs ≡ drop 28 rest = sym (drop-drop 28 p.place bs) ∙ ap (drop 28) (sym e) in
      λ i. record {
        place = p.place;
        handles = w.own i;
        kinds = w.kinds i;
        ins = w.ins i;
        outs = w.outs i;
        body = record { place = p.place + 28; bytes = take (w.len i) (behind i) };
      }

  ordered : in_order book k (part_from p.place rest) rest ≡ in_order book k (by_header p) rest
  ordered = sym (ap (λ (q : rules.Part). in_order book k q rest) is_there)

  pub bad_header : marked rest ≡ true → in_order book k (by_header p) rest ≡ false → read_part book k p.place (drop p.place bs) ≡ Err (layout_fault BadHeader p.place)
  bad_header m f = ap (read_part book k p.place) (sym e) ∙ out_of_order book k p.place rest m (ordered ∙ f)

  pub good_header : marked rest ≡ true → in_order book k (by_header p) rest ≡ true →
      read_part book k p.place (drop p.place bs) ≡ Ok (shown bs p, drop (28 + p.len) (drop p.place bs))
  good_header m f =
      let back : part_from p.place rest ≡ shown bs p = sym is_there in
      let len : word rest 26 ≡ p.len = sym w.len in
      ap (read_part book k p.place) (sym e) ∙ is_read book k p.place rest m (ordered ∙ f) ∙ (λ i. Ok (back i, drop (28 + len i) (e i)))
