-- The close of a draft, by its tables and by its definition.
use Rattle.std.proofs.Common.{◌≡◌, ℕ, true, false, ◌||◌, eqb, List, [], ◌∷◌, Ok, Err, Result, IsOkAnd, sym, refl, ap, ◌∙◌, subst, inl, inr, true≢false}
use mathlib.Core.Path.{fun_ext}
use Rattle.faults.specs.declared.fault.Fault.{Fault}
use Rattle.faults.specs.declared.causes.BookCause.TheVariants.{NoRetreat}
use Rattle.faults.specs.Numbers.{book_fault}
use Rattle.faults.specs.Results.{each, need, ◌>>=◌}
use Rattle.protocol.specs.declared.edges.Edge.{Edge}
use Rattle.protocol.specs.Lists.{all}
use Rattle.protocol.specs.Tables.{Table, table_of}
use Rattle.protocol.proofs.Tests.{both, and_true, either, or_left, or_right, is_false, equal_numbers, same_number}
use Rattle.book.specs.declared.draft.Draft as code
use Rattle.book.specs.Kinds.{Retreats, homed, retreat_of}
use Rattle.book.specs.Reading.{Draft, drafted, unplaced, placed_falls, edge_homed, close_draft}
use Rattle.book.specs.Automata.{Shows, edges_of, retreats_of}
use Rattle.book.specs.Shown.{AllHomed, Drafts, names}
use Rattle.book.proofs.Giving.{ok_and}

-- Stations that edges name

named_homed : (h : Retreats) (es : List Edge) → ((s : ℕ) → names es s ≡ true → homed h s ≡ true) → all (edge_homed h) es ≡ true
named_homed h [] f = refl
named_homed h (e ∷ es) f =
    and_true
    (and_true
    (f e.from (or_left (names es e.from) (or_left (eqb e.to e.from) (equal_numbers {m = e.from} refl))))
    (f e.to (or_left (names es e.to) (or_right (eqb e.from e.to) (equal_numbers {m = e.to} refl)))))
    (named_homed h es (λ s n. f s (or_right (eqb e.from s || eqb e.to s) n)))

homed_named : (h : Retreats) (es : List Edge) (s : ℕ) → all (edge_homed h) es ≡ true → names es s ≡ true → homed h s ≡ true
homed_named h [] s ok n = absurd (true≢false (sym n))
homed_named h (e ∷ es) s ok n =
    let p = both (edge_homed h e) (all (edge_homed h) es) ok in
    let q = both (homed h e.from) (homed h e.to) p.0 in
    elim (either (eqb e.from s || eqb e.to s) (names es s) n) [
      | inl i ↦ elim (either (eqb e.from s) (eqb e.to s) i) [
        | inl j ↦ subst (λ v. homed h v ≡ true) (same_number e.from s j) q.0
        | inr j ↦ subst (λ v. homed h v ≡ true) (same_number e.to s j) q.1
      ]
      | inr k ↦ homed_named h es s p.1 k
    ]

module _ (d : code.Draft) (x : Draft) (w : Drafts d x) where
  abbrev t : Table
  t = table_of x.edges

  abbrev h : Retreats
  h = retreat_of (unplaced x.retreats)

  same_table : edges_of d.automaton ≡ t
  same_table = fun_ext (λ s. fun_ext (λ l. fun_ext (λ n. w.shows.edges s l n)))

  same_retreats : retreats_of d.automaton ≡ h
  same_retreats = fun_ext w.shows.retreats

  same_tests : each (placed_falls (edges_of d.automaton) (retreats_of d.automaton)) d.retreats.items ≡ each (placed_falls t h) x.retreats
  same_tests = λ i. each (placed_falls (same_table i) (same_retreats i)) (w.listed i)

  -- the sixth refusal
  pub close_homeless : (AllHomed d → ⊥) → close_draft x ≡ Err (book_fault NoRetreat d.place)
  close_homeless homeless =
      let bad : all (edge_homed h) x.edges ≡ false = is_false _ (λ ok. homeless (λ s n. subst (λ g. homed g s ≡ true) (sym same_retreats) (homed_named h x.edges s ok (sym (w.named s) ∙ n)))) in
      ap (λ b. need b (book_fault NoRetreat x.place) >>= (λ _. each (placed_falls t h) x.retreats >>= (λ _. Ok (drafted x)))) bad
      ∙ ap (λ v. Err (book_fault NoRetreat v)) (sym w.place)

  -- the retreats of others decide
  pub close_tried : AllHomed d → (r : Result (Unit {0}) Fault) → r ≡ each (placed_falls (edges_of d.automaton) (retreats_of d.automaton)) d.retreats.items →
      close_draft x ≡ (r >>= (λ _. Ok (drafted x)))
  close_tried homes r e =
      let ok : all (edge_homed h) x.edges ≡ true = named_homed h x.edges (λ s n. subst (λ g. homed g s ≡ true) same_retreats (homes s (w.named s ∙ n))) in
      ap (λ b. need b (book_fault NoRetreat x.place) >>= (λ _. each (placed_falls t h) x.retreats >>= (λ _. Ok (drafted x)))) ok
      ∙ ap (λ (v : Result (Unit {0}) Fault). v >>= (λ _. Ok (drafted x))) (sym (e ∙ same_tests))

  pub close_passes : AllHomed d → Ok tt ≡ each (placed_falls (edges_of d.automaton) (retreats_of d.automaton)) d.retreats.items →
      IsOkAnd (close_draft x) (Shows d.automaton)
  close_passes homes e = ok_and (Shows d.automaton) (drafted x) (close_draft x) (close_tried homes (Ok tt) e) w.shows
