-- When a letter of a table has the edges of a list, and no other.
use Rattle.std.proofs.Common.{◌≡◌, ℕ, ◌<◌, Bool, true, false, cond, not, ◌&&◌, eqb, List, [], ◌∷◌, length, map, get_or, is_some, Some, None, Option, sym, refl, ap, ◌∙◌, inl, inr, true≢false, arith}
use Rattle.std.proofs.lemmas.List.{length-map}
use Rattle.protocol.specs.declared.edges.Edge.{Edge}
use Rattle.protocol.specs.Lists.{all, Each, Apart}
use Rattle.protocol.specs.Tables.{Table, EdgeRanged, SameEdge, leads, table_of, of_letter, ends, edge_count, same_option, same_letter}
use Rattle.protocol.specs.Slots.{slot_of}
use Rattle.protocol.proofs.Tests.{cases, both, and_true, some_of, same_number, equal_numbers, is_false, not_true}
use Rattle.protocol.proofs.Lists.{In, each_in, in_each, all_each, each_all, each_passed, apart_passed}
use Rattle.protocol.proofs.Firsts.{led, is_led, edge_found, edge_there, edge_leads}
use Rattle.protocol.proofs.Ranges.{each_led}
use Rattle.protocol.proofs.Same.{same_option_is, is_same_option, same_tests, letter_same, same_letter_so, letters_alike}
use Rattle.protocol.proofs.Counting.{some_at, no_other, all_counted, counted, ends_at, all_ends}

-- the place of an edge among the entries of its letter
abbrev place : Edge → ℕ
place e = slot_of e.from e.answer

-- an edge of the letter that is in range
abbrev pub OfLetter : ℕ → Edge → Type 0
OfLetter l e = (e.letter ≡ l) × EdgeRanged e

apart_places : (l : ℕ) (es : List Edge) → Apart SameEdge es → Each (OfLetter l) es → Apart ◌≡◌ (map place es)
apart_places l [] a h = tt
apart_places l (e ∷ es) a h = (others es a.0 h.1, apart_places l es a.1 h.1)
  where
    others : (fs : List Edge) → Each (λ f. SameEdge e f → ⊥) fs → Each (OfLetter l) fs → Each (λ i. place e ≡ i → ⊥) (map place fs)
    others [] b k = tt
    others (f ∷ fs) b k = (λ q. b.0 (omega (arith, q, h.0.1, k.0.1), h.0.0 ∙ sym k.0.0, omega (arith, q, h.0.1, k.0.1)), others fs b.1 k.1)

each_place : (P : ℕ → Type 0) (es : List Edge) → Each (λ e. P (place e)) es → Each P (map place es)
each_place P [] a = tt
each_place P (e ∷ es) a = (a.0, each_place P es a.1)

place_in : (es : List Edge) (e : Edge) (i : ℕ) → In e es → place e ≡ i → In i (map place es)
place_in [] e i m p = absurd m
place_in (f ∷ es) e i (inl q) p = inl (ap (λ (v : Edge). place v) q ∙ p)
place_in (f ∷ es) e i (inr m) p = inr (place_in es e i m p)

in_places : (es : List Edge) (i : ℕ) → In i (map place es) → (e : Edge) × In e es × (place e ≡ i)
in_places [] i m = absurd m
in_places (e ∷ es) i (inl q) = (e, inl refl, q)
in_places (e ∷ es) i (inr m) = let w = in_places es i m in (w.0, inr w.1, w.2)

module _ (l : ℕ) (es : List Edge) (new : Apart SameEdge es) (own : Each (OfLetter l) es) (t : Table) (m : ℕ) where
  -- the other table leads where the edge does
  abbrev Led : Edge → Type 0
  Led e = t e.from m e.answer ≡ Some e.to

  there : Each Led es → Each (some_at (ends t m)) (map place es)
  there led = each_place (some_at (ends t m)) es (in_each _ es (λ e i.
      let o : OfLetter l e = each_in (OfLetter l) es e own i in
      ap is_some (ends_at t m e.from e.answer o.1.0 o.1.2 ∙ each_in Led es e led i)))

  -- where it counts as many, it has no other
  fits : Each Led es → edge_count t m ≡ length es → (s a : ℕ) → s < 16 → a < 4 → table_of es s l a ≡ t s m a
  fits led count s a sl al = cases (table_of es s l a) (λ y q. q ∙ sym (follow y q)) (λ q. q ∙ sym (nowhere q))
    where
      follow : (y : ℕ) → table_of es s l a ≡ Some y → t s m a ≡ Some y
      follow y q = each_led (λ s k a y. t s m a ≡ Some y) es led s l a y q

      nowhere : table_of es s l a ≡ None → t s m a ≡ None
      nowhere q = cases (t s m a) (λ y k.
          let i = no_other (map place es) (ends t m) (apart_places l es new own) (there led) (sym (counted t m) ∙ count ∙ sym (length-map es place)) (slot_of s a) (ap is_some (ends_at t m s a sl al ∙ k)) in
          let w = in_places es (slot_of s a) i in
          let o : OfLetter l w.0 = each_in (OfLetter l) es w.0 own w.1 in
          absurd (true≢false (sym (edge_there es w.0 s l a w.1 (omega (arith, w.2, o.1)) o.0 (omega (arith, w.2, o.1))) ∙ ap is_some q)))
          (λ k. k)

  led_so : ((s a : ℕ) → s < 16 → a < 4 → table_of es s l a ≡ t s m a) → Each Led es
  led_so same = in_each Led es (λ e i.
      let o : OfLetter l e = each_in (OfLetter l) es e own i in
      sym (same e.from e.answer o.1.0 o.1.2) ∙ edge_leads es new e e.from l i refl o.0)

  count_so : ((s a : ℕ) → s < 16 → a < 4 → table_of es s l a ≡ t s m a) → edge_count t m ≡ length es
  count_so same = counted t m ∙ all_counted (map place es) (ends t m) (apart_places l es new own) (there (led_so same)) found ∙ length-map es place
    where
      found : (i : ℕ) → some_at (ends t m) i → In i (map place es)
      found i h =
          let w = all_ends t m i h in
          let k : is_some (table_of es w.0 l w.1) ≡ true =
          ap is_some (same w.0 w.1 w.2 w.3 ∙ sym (ends_at t m w.0 w.1 w.2 w.3)) ∙ ap (λ j. is_some (get_or (ends t m) j None)) w.4 ∙ h in
          let y = some_of (table_of es w.0 l w.1) k in
          let f = edge_found es w.0 l w.1 y.0 y.1 in
          place_in es f.0 i f.1 (omega (arith, f.2, f.4, w.4))

  listed : (eqb (edge_count t m) (length es) && all (λ e. same_option (t e.from m e.answer) (Some e.to)) es) ≡ same_letter (table_of es) l t m
  listed = same_tests _ _
      (λ h. let p = both (eqb (edge_count t m) (length es)) _ h in
      same_letter_so (table_of es) l t m (fits (all_each _ Led (λ e q. same_option_is (t e.from m e.answer) (Some e.to) q) es p.1) (same_number _ _ p.0)))
      (λ h. let same = letter_same (table_of es) l t m h in
      and_true (equal_numbers (count_so same)) (each_all _ Led (λ e q. is_same_option (t e.from m e.answer) (Some e.to) q) es (led_so same)))

-- the edges of one letter lead where all do
own_table : (l : ℕ) (es : List Edge) (s a : ℕ) → table_of (of_letter l es) s l a ≡ table_of es s l a
own_table l [] s a = refl
own_table l (e ∷ es) s a = by (eqb e.letter l) refl (own_table l es s a)
  where
    by : (b : Bool) → eqb e.letter l ≡ b → table_of (of_letter l es) s l a ≡ table_of es s l a → table_of (cond b (e ∷ of_letter l es) (of_letter l es)) s l a ≡ table_of (e ∷ es) s l a
    by true q rest = ap (λ (o : Option ℕ). cond (leads e s l a) (Some e.to) o) rest
    by false q rest =
        let other = is_false (leads e s l a) (λ h. true≢false (sym (equal_numbers (led e s l a h).1) ∙ q)) in
        rest ∙ sym (ap (λ b. cond b (Some e.to) (table_of es s l a)) other)

-- a letter of a table has the edges that a list has of a letter where it counts as many, and leads where each of them does
pub has_listed : (es : List Edge) → Apart SameEdge es → Each EdgeRanged es → (l : ℕ) (t : Table) (m : ℕ) →
    (eqb (edge_count t m) (length (of_letter l es)) && all (λ e. same_option (t e.from m e.answer) (Some e.to)) (of_letter l es)) ≡ same_letter (table_of es) l t m
has_listed es new ranged l t m =
    listed l (of_letter l es) (apart_passed SameEdge _ es new)
    (each_passed _ EdgeRanged (OfLetter l) (λ e q r. (same_number e.letter l q, r)) es ranged) t m
    ∙ letters_alike (table_of (of_letter l es)) (table_of es) l l t m (own_table l es)

-- and those of a letter without edges where it counts none
pub has_none : (e : Table) (l : ℕ) → ((s a : ℕ) → e s l a ≡ None) → (t : Table) (m : ℕ) → eqb (edge_count t m) 0 ≡ same_letter e l t m
has_none e l none t m = and_so (eqb (edge_count t m) 0) ∙ listed l [] tt tt t m ∙ letters_alike (table_of []) e l l t m (λ s a. sym (none s a))
  where
    and_so : (b : Bool) → b ≡ (b && true)
    and_so true = refl
    and_so false = refl

-- Edges as they are listed

abbrev pub all_new : List Edge → Bool
all_new [] = true
all_new (e ∷ es) = all (λ f. not (leads f e.from e.letter e.answer)) es && all_new es

pub new_so : (es : List Edge) → all_new es ≡ true → Apart SameEdge es
new_so [] h = tt
new_so (e ∷ es) h =
    let p = both _ (all_new es) h in
    (all_each _ (λ f. SameEdge e f → ⊥) (λ f q s. not_true q (is_led f e.from e.letter e.answer (sym s.0) (sym s.1) (sym s.2))) es p.0, new_so es p.1)
