-- The tables of the kind that is being declared, with one command more.
use Rattle.std.proofs.Common.{◌≡◌, ℕ, ◌<◌, Bool, true, false, cond, not, ◌||◌, eqb, List, [], ◌∷◌, ◌++◌, length, get_or, set, is_some, Some, None, Option, IsOkAnd, sym, ap, ◌∙◌, refl, arith, length-set}
use mathlib.Core.List.{map-append}
use Rattle.std.proofs.lemmas.Bool.Decides.{nat_tests}
use Rattle.std.proofs.lemmas.Grind.{common_steps}
use Rattle.std.proofs.lemmas.List.Folds.{list_any-append}
use Rattle.arrayvec.specs.ArrayVec.{ArrayVec}
use Rattle.faults.proofs.Results.{met}
use Rattle.protocol.specs.declared.edges.Edge.{Edge}
use Rattle.protocol.specs.Tables.{leads, table_of, edge_in_range}
use Rattle.protocol.specs.Slots.{table_in}
use Rattle.protocol.proofs.Tests.{same_number}
use Rattle.protocol.proofs.Firsts.{first_added, table_added}
use Rattle.protocol.proofs.Ranges.{edge_ranged}
use Rattle.book.specs.declared.automaton.Retreat.{Retreat}
use Rattle.book.specs.declared.automaton.Automaton.{Automaton}
use Rattle.book.specs.declared.draft.Placed.{Placed}
use Rattle.book.specs.declared.draft.Draft as code
use Rattle.book.specs.Automata.{edges_of, retreats_of, retreat_count}
use Rattle.book.specs.Kinds.{retreat_of, retreat_in_range}
use Rattle.book.specs.Reading.{Draft, unplaced, edge_added, retreat_added, add_edge, add_retreat}
use Rattle.book.specs.Shown.{Drafts, names}
use Rattle.book.proofs.Giving.{ok_and}

pub none_of : {X : Type 0} (o : Option X) → not (is_some o) ≡ true → o ≡ None
none_of None e = refl
none_of (Some x) e = cc

-- Edges

names_more : (es : List Edge) (e : Edge) (s : ℕ) → names (es ++ (e ∷ [])) s ≡ (eqb e.to s || (eqb e.from s || names es s))
names_more es e s = list_any-append (λ x. eqb x.from s || eqb x.to s) es (e ∷ []) ∙ turn (names es s) (eqb e.from s) (eqb e.to s)
  where
    turn : (n f t : Bool) → (n || ((f || t) || false)) ≡ (t || (f || n))
    turn n f t = grind arith

-- a mark is set
marked : (ns : List Bool) (i s : ℕ) → i < length ns → get_or (set ns i true) s false ≡ (eqb i s || get_or ns s false)
marked ns i s lt = grind (arith, common_steps, nat_tests)

module _ (d : code.Draft) (x : Draft) (m : Automaton) (e : Edge) (i j : ℕ) (placed : length d.retreats.items ≡ retreat_count m) where
  abbrev pub with_edge : code.Draft
  with_edge = record {
    place = d.place;
    automaton = m;
    named = set (set d.named i true) j true;
    retreats = d.retreats;
    placed = placed;
  }

  edge_drafts : Drafts d x → i ≡ e.from → j ≡ e.to → length d.named ≡ 16 → edge_in_range e ≡ true →
      table_of x.edges e.from e.letter e.answer ≡ None →
      m.retreats ≡ d.automaton.retreats →
      ((s l a : ℕ) → edges_of m s l a ≡ cond (leads e s l a) (Some e.to) (edges_of d.automaton s l a)) →
      Drafts with_edge (edge_added x e)
  edge_drafts w from to len ok new same after =
      let r = edge_ranged e ok in
      record {
        place = w.place;
        shows = record {
          edges = λ s l a.
              after s l a
              ∙ ap (λ (o : Option ℕ). cond (leads e s l a) (Some e.to) o) (w.shows.edges s l a)
              ∙ sym (table_added x.edges e new s l a);
          retreats = λ s. ap (λ (rs : List (Option Retreat)). get_or rs s None) same ∙ w.shows.retreats s;
        };
        named = λ s.
            marked (set d.named i true) j s (omega (arith, length-set d.named i true, to, r.3))
            ∙ ap (λ v. eqb j s || v) (marked d.named i s (omega (arith, from, r.0)))
            ∙ (λ k. eqb (to k) s || (eqb (from k) s || w.named s k))
            ∙ sym (names_more x.edges e s);
        listed = w.listed;
      }

  -- so an edge that is in range and new is added
  pub edge_gives : (place : ℕ) → Drafts d x → i ≡ e.from → j ≡ e.to → length d.named ≡ 16 → edge_in_range e ≡ true →
      not (is_some (edges_of d.automaton e.from e.letter e.answer)) ≡ true →
      m.retreats ≡ d.automaton.retreats →
      ((s l a : ℕ) → edges_of m s l a ≡ cond (leads e s l a) (Some e.to) (edges_of d.automaton s l a)) →
      IsOkAnd (add_edge x place e) (λ y. Drafts with_edge y)
  edge_gives place w from to len ok vacant same after =
      let old = w.shows.edges e.from e.letter e.answer in
      let new : table_of x.edges e.from e.letter e.answer ≡ None = sym old ∙ none_of _ vacant in
      ok_and _ (edge_added x e) (add_edge x place e)
      (met _ _ _ ok ∙ met _ _ _ (ap (λ (o : Option ℕ). not (is_some o)) new))
      (edge_drafts w from to len ok new same after)

-- Retreats

module _ (d : code.Draft) (x : Draft) (a : Automaton) (place : ℕ) (r : Retreat) (v : ArrayVec Placed) (placed : length v.items ≡ retreat_count a) where
  abbrev pub with_retreat : code.Draft
  with_retreat = record { place = d.place; automaton = a; named = d.named; retreats = v; placed = placed }

  pub retreat_gives : Drafts d x → retreat_in_range r ≡ true →
      not (is_some (retreats_of d.automaton r.station)) ≡ true →
      a.edges ≡ d.automaton.edges →
      ((s : ℕ) → retreats_of a s ≡ cond (eqb r.station s) (Some r) (retreats_of d.automaton s)) →
      v.items ≡ d.retreats.items ++ (record { place = place; retreat = r } ∷ []) →
      IsOkAnd (add_retreat x place r) (λ y. Drafts with_retreat y)
  retreat_gives w ok vacant same after pushed =
      let p : Placed = record { place = place; retreat = r } in
      let new : retreat_of (unplaced x.retreats) r.station ≡ None = sym (w.shows.retreats r.station) ∙ none_of _ vacant in
      ok_and _ (retreat_added x place r) (add_retreat x place r)
      (met _ _ _ ok ∙ met _ _ _ (ap (λ (o : Option Retreat). not (is_some o)) new))
      (record {
        place = w.place;
        shows = record {
          edges = λ s l n. ap (λ t. table_in t s l n) same ∙ w.shows.edges s l n;
          retreats = λ s.
              after s
              ∙ ap (λ (o : Option Retreat). cond (eqb r.station s) (Some r) o) (w.shows.retreats s)
              ∙ sym (first_added (λ (q : Retreat). eqb q.station s) (λ (q : Retreat). q) (unplaced x.retreats) r (λ e. ap (λ u. retreat_of (unplaced x.retreats) u) (sym (same_number r.station s e)) ∙ new))
              ∙ ap (λ rs. retreat_of rs s) (sym (map-append (λ (q : Placed). q.retreat) x.retreats (p ∷ [])));
        };
        named = w.named;
        listed = pushed ∙ ap (λ ps. ps ++ (p ∷ [])) w.listed;
      })
