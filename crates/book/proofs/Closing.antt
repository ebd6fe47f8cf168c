-- A kind closes exactly where it is lawful.
use Rattle.std.proofs.Common.{◌≡◌, ℕ, ◌<◌, Bool, true, eqb, List, [], ◌∷◌, ◌++◌, is_some, Some, Ok, sym, refl, ap, ◌∙◌, subst, inl, inr, arith}
use Rattle.faults.specs.declared.fault.Fault.{Fault}
use Rattle.faults.specs.declared.causes.BookCause.TheVariants.{NoRetreat, BadRetreat}
use Rattle.faults.specs.Numbers.{book_fault}
use Rattle.faults.specs.Results.{need, each}
use Rattle.faults.proofs.Results.{ok_same, bound, needed, met, follows}
use Rattle.protocol.specs.declared.edges.Edge.{Edge}
use Rattle.protocol.specs.Lists.{all, Each, SomeOne}
use Rattle.protocol.specs.Tables.{EdgeRanged, Table, allowed, table_of}
use Rattle.protocol.proofs.Tests.{cases, some_of, both, and_true, either, or_left, or_right, same_number, equal_numbers, less, is_less}
use Rattle.protocol.proofs.Lists.{In, each_join, all_each, each_all, each_in, in_each, some_in, in_some}
use Rattle.book.specs.declared.automaton.Retreat.{Retreat}
use Rattle.book.specs.declared.draft.Placed.{Placed}
use Rattle.book.specs.Kinds.{Kind, Retreats, retreat_of, rank_of, homed, nearer, falls}
use Rattle.book.specs.Reading.{Draft, Reading, unplaced, drafted, edge_homed, close_draft, closed}
use Rattle.book.specs.Lawful.{kind_in, RetreatRanged, Homed, Departs, Nearer, LawfulKind}
use Rattle.protocol.proofs.Firsts.{edge_found, edge_there, edge_leads}
use Rattle.protocol.proofs.Answers.{allows, is_allowed, each_answer, all_answers}
use Rattle.book.proofs.Lookups.{retreat_found, retreat_there, retreat_is}
use Rattle.book.proofs.Entering.{Entered, lawful_entered, joined, joined_none}

module _ (k : Kind) (n : Entered k) where
  abbrev es : List Edge
  es = k.edges

  abbrev rs : List Retreat
  rs = k.retreats

  abbrev table : Table
  table = table_of k.edges

  abbrev home : Retreats
  home = retreat_of k.retreats

  -- Stations

  homed_there : (s : ℕ) → homed home s ≡ true → Homed rs s
  homed_there s q = elim (either (eqb s 0) (is_some (home s)) q) [
    | inl p ↦ inl (same_number s 0 p)
    | inr p ↦
        let w = some_of (home s) p in
        let f = retreat_found rs s w.0 w.1 in
        inr (in_some (λ r. r.station ≡ s) rs w.0 f.0 f.1)
  ]

  is_homed : (s : ℕ) → Homed rs s → homed home s ≡ true
  is_homed s (inl p) = or_left _ (equal_numbers p)
  is_homed s (inr p) = let w = some_in (λ r. r.station ≡ s) rs p in or_right (eqb s 0) (retreat_there rs w.0 s w.1 w.2)

  nearer_there : (r : Retreat) (s : ℕ) → Homed rs s → rank_of (home s) < r.rank → Nearer rs r s
  nearer_there r s (inl p) lt = inl p
  nearer_there r s (inr p) lt =
      let w = some_in (λ q. q.station ≡ s) rs p in
      let here : home s ≡ Some w.0 = retreat_is rs n.retreats_new w.0 s w.1 w.2 in
      inr (in_some (λ q. (q.station ≡ s) × (q.rank < r.rank)) rs w.0 w.1 (w.2, subst (λ o. rank_of o < r.rank) here lt))

  -- away has no retreat
  pub is_nearer : (r : Retreat) (s : ℕ) → 0 < r.rank → Nearer rs r s → rank_of (home s) < r.rank
  is_nearer r s pos (inl p) = cases (home s)
      (λ q e.
      let f = retreat_found rs s q e in
      let lt = (each_in RetreatRanged rs q n.retreats_ranged f.0).0 in
      absurd (omega (arith, lt, f.1, p)))
      (λ e. subst (λ o. rank_of o < r.rank) (sym e) pos)
  is_nearer r s pos (inr p) =
      let w = some_in (λ q. (q.station ≡ s) × (q.rank < r.rank)) rs p in
      subst (λ o. rank_of o < r.rank) (sym (retreat_is rs n.retreats_new w.0 s w.1 w.2.0)) w.2.1

  -- Retreats

  falls_allowed : (r : Retreat) → falls table home r ≡ true → SomeOne (Departs r) es
  falls_allowed r q =
      let p = both (allowed table r.station r.letter) _ q in
      let a = allows table r.station r.letter p.0 in
      let e = edge_found es r.station r.letter a.0 a.1 a.2 in
      in_some (Departs r) es e.0 e.1 (e.2, e.3)

  falls_nearer : (r : Retreat) → falls table home r ≡ true → (e : Edge) → In e es → Homed rs e.to → Departs r e → Nearer rs r e.to
  falls_nearer r q e m h d =
      let p = both (allowed table r.station r.letter) _ q in
      let lt = (each_in EdgeRanged es e n.edges_ranged m).2 in
      let here = edge_leads es n.edges_new e r.station r.letter m d.0 d.1 in
      let near = each_answer (nearer home r) table r.station r.letter p.1 e.answer lt in
      nearer_there r e.to h (less (rank_of (home e.to)) r.rank (subst (λ o. nearer home r o ≡ true) here near))

  does_fall : (r : Retreat) → 0 < r.rank → SomeOne (Departs r) es → Each (λ e. Departs r e → Nearer rs r e.to) es → falls table home r ≡ true
  does_fall r pos some near = and_true
      (let w = some_in (Departs r) es some in
      let e : Edge = w.0 in
      is_allowed table r.station r.letter e.answer (each_in EdgeRanged es e n.edges_ranged w.1).2 (edge_there es e r.station r.letter e.answer w.1 w.2.0 w.2.1 refl))
      (all_answers (nearer home r) table r.station r.letter (λ a. cases (table r.station r.letter a)
      (λ t q.
      let f = edge_found es r.station r.letter a t q in
      let at_Edge = each_in (λ e. Departs r e → Nearer rs r e.to) es f.0 near f.1 (f.2, f.3) in
      ap (nearer home r) q ∙ is_less (is_nearer r t pos (subst (Nearer rs r) f.5 at_Edge)))
      (λ q. ap (nearer home r) q)))

  -- Kinds

  lawful : all (edge_homed home) es ≡ true → Each (λ r. falls table home r ≡ true) rs → LawfulKind k
  lawful homes fall =
      let homed_all : Each (λ e. Homed rs e.from × Homed rs e.to) es = all_each (edge_homed home) (λ e. Homed rs e.from × Homed rs e.to)
      (λ e q. let p = both (homed home e.from) (homed home e.to) q in (homed_there e.from p.0, homed_there e.to p.1)) es homes in
      record {
        edges_ranged = n.edges_ranged;
        retreats_ranged = n.retreats_ranged;
        edges_new = n.edges_new;
        retreats_new = n.retreats_new;
        homed = homed_all;
        allowed = in_each (λ r. SomeOne (Departs r) es) rs (λ r m. falls_allowed r (each_in (λ v. falls table home v ≡ true) rs r fall m));
        falls = in_each (λ r. Each (λ e. Departs r e → Nearer rs r e.to) es) rs (λ r m.
            in_each (λ e. Departs r e → Nearer rs r e.to) es (λ e i.
            falls_nearer r (each_in (λ v. falls table home v ≡ true) rs r fall m) e i (each_in (λ v. Homed rs v.from × Homed rs v.to) es e homed_all i).1));
      }

  homes_hold : LawfulKind k → all (edge_homed home) es ≡ true
  homes_hold l = each_all (edge_homed home) (λ e. Homed rs e.from × Homed rs e.to) (λ e h. and_true (is_homed e.from h.0) (is_homed e.to h.1)) es l.homed

  all_fall : LawfulKind k → Each (λ r. falls table home r ≡ true) rs
  all_fall l = in_each (λ r. falls table home r ≡ true) rs (λ r m. does_fall r
      (each_in RetreatRanged rs r n.retreats_ranged m).3
      (each_in (λ v. SomeOne (Departs v) es) rs r l.allowed m)
      (each_in (λ v. Each (λ e. Departs v e → Nearer rs v e.to) es) rs r l.falls m))

-- Drafts

module _ (f : Retreat → Bool) (fault : ℕ → Fault) where
  passed : (ps : List Placed) (u : Unit {0}) → each (λ p. need (f p.retreat) (fault p.place)) ps ≡ Ok u → Each (λ r. f r ≡ true) (unplaced ps)
  passed [] u q = tt
  passed (p ∷ ps) u q =
      let c = bound (need (f p.retreat) (fault p.place)) _ u q in
      (needed (f p.retreat) (fault p.place) c.0 c.1, passed ps u c.2)

  passes : (ps : List Placed) → Each (λ r. f r ≡ true) (unplaced ps) → each (λ p. need (f p.retreat) (fault p.place)) ps ≡ Ok tt
  passes [] a = refl
  passes (p ∷ ps) a = met (f p.retreat) (fault p.place) _ a.0 ∙ passes ps a.1

closes : (d : Draft) (k : Kind) → Entered (drafted d) → close_draft d ≡ Ok k → (drafted d ≡ k) × LawfulKind (drafted d)
closes d k n q =
    let h : Retreats = retreat_of (unplaced d.retreats) in
    let c1 = bound (need (all (edge_homed h) d.edges) (book_fault NoRetreat d.place)) _ k q in
    let c2 = bound (each (λ p. need (falls (table_of d.edges) h p.retreat) (book_fault BadRetreat p.place)) d.retreats) _ k c1.2 in
    (ok_same c2.2, lawful (drafted d) n (needed _ _ c1.0 c1.1) (passed (falls (table_of d.edges) h) (book_fault BadRetreat) d.retreats c2.0 c2.1))

lawful_closes : (d : Draft) → LawfulKind (drafted d) → close_draft d ≡ Ok (drafted d)
lawful_closes d l =
    let n = lawful_entered (drafted d) l in
    let h : Retreats = retreat_of (unplaced d.retreats) in
    met (all (edge_homed h) d.edges) _ _ (homes_hold (drafted d) n l)
    ∙ follows _ (passes (falls (table_of d.edges) h) (book_fault BadRetreat) d.retreats (all_fall (drafted d) n l))

-- Readings with a kind open

abbrev pub opened : List Kind → Draft → Reading
opened ks d = record { kinds = ks; draft = Some d }

pub closed_lawful : (ks : List Kind) (d : Draft) (out : List Kind) → Each LawfulKind ks → Entered (drafted d) → closed (opened ks d) ≡ Ok out → (ks ++ (drafted d ∷ []) ≡ out) × Each LawfulKind out
closed_lawful ks d out l n q =
    let c = bound (close_draft d) _ out q in
    let k = closes d c.0 n c.1 in
    let is : ks ++ (drafted d ∷ []) ≡ out = ap (λ (v : Kind). ks ++ (v ∷ [])) k.0 ∙ ok_same c.2 in
    (is, subst (Each LawfulKind) is (each_join LawfulKind ks (drafted d ∷ []) l (k.1, tt)))

-- where no more items come
pub closed_is : (ks : List Kind) (d : Draft) → LawfulKind (joined (drafted d) (kind_in [])) → closed (opened ks d) ≡ Ok (ks ++ (joined (drafted d) (kind_in []) ∷ []))
closed_is ks d l =
    follows (λ k. Ok (ks ++ (k ∷ []))) (lawful_closes d (subst LawfulKind (joined_none (drafted d)) l))
    ∙ ap (λ (k : Kind). Ok (ks ++ (k ∷ []))) (sym (joined_none (drafted d)))
