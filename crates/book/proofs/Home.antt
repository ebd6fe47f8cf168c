-- Retreats of a lawful kind lead home, since their ranks fall.
use Rattle.std.proofs.Common.{◌≡◌, ℕ, zero, suc, ◌<◌, ◌≤◌, ◌⊎◌, List, get_or, Some, sym, ◌∙◌, subst, inl, inr, arith}
use Rattle.protocol.specs.declared.edges.Edge.{Edge}
use Rattle.protocol.specs.Lists.{Each, SomeOne}
use Rattle.protocol.specs.Tables.{Allowed, table_of}
use Rattle.protocol.proofs.Tests.{cases}
use Rattle.protocol.proofs.Lists.{In, each_at, each_in, some_in}
use Rattle.protocol.proofs.Firsts.{edge_found, edge_leads}
use Rattle.book.specs.declared.automaton.Retreat.{Retreat}
use Rattle.book.specs.Kinds.{Kind, no_kind, Retreats, retreat_of, rank_of}
use Rattle.book.specs.Lawful.{RetreatRanged, Homed, Departs, Nearer, LawfulKind}
use Rattle.book.specs.Home.{Named, ComesHome, is_away, retreats, RetreatsLeadHome}
use Rattle.book.proofs.Lookups.{retreat_found, retreat_is}
use Rattle.book.proofs.Entering.{lawful_entered}
use Rattle.book.proofs.Closing.{is_nearer}
use Rattle.book.proofs.Passed.{passed_declares}

module _ (k : Kind) (l : LawfulKind k) where
  abbrev es : List Edge
  es = k.edges

  abbrev rs : List Retreat
  rs = k.retreats

  abbrev home : Retreats
  home = retreat_of k.retreats

  both_homed : (e : Edge) → In e es → Homed rs e.from × Homed rs e.to
  both_homed e m = each_in (λ v. Homed rs v.from × Homed rs v.to) es e l.homed m

  named_homed : (s : ℕ) → Named k s → Homed rs s
  named_homed s (inl p) = inl p
  named_homed s (inr p) =
      let w = some_in (λ e. (e.from ≡ s) ⊎ (e.to ≡ s)) es p in
      let h = both_homed w.0 w.1 in
      elim w.2 [ inl q ↦ subst (Homed rs) q h.0 | inr q ↦ subst (Homed rs) q h.1 ]

  low : (s : ℕ) → rank_of (home s) ≤ 15
  low s = cases (home s)
      (λ r e.
      let lt = (each_in RetreatRanged rs r l.retreats_ranged (retreat_found rs s r e).0).4 in
      let le : r.rank ≤ 15 = omega arith in
      subst (λ o. rank_of o ≤ 15) (sym e) le)
      (λ e. let le : 0 ≤ 15 = omega arith in subst (λ o. rank_of o ≤ 15) (sym e) le)

  letter_allowed : (r : Retreat) (s : ℕ) → In r rs → r.station ≡ s → Allowed (table_of es) s r.letter
  letter_allowed r s m p =
      let w = some_in (Departs r) es (each_in (λ v. SomeOne (Departs v) es) rs r l.allowed m) in
      (w.0.answer, w.0.to, edge_leads es l.edges_new w.0 s r.letter w.1 (w.2.0 ∙ p) w.2.1)

  falling : (r : Retreat) (s : ℕ) → In r rs → r.station ≡ s → (a t : ℕ) → table_of es s r.letter a ≡ Some t → Homed rs t × (rank_of (home t) < r.rank)
  falling r s m p a t q =
      let f = edge_found es s r.letter a t q in
      let near = each_in (λ e. Departs r e → Nearer rs r e.to) es f.0 (each_in (λ v. Each (λ e. Departs v e → Nearer rs v e.to) es) rs r l.falls m) f.1 (f.2 ∙ sym p, f.3) in (
        subst (Homed rs) f.5 (both_homed f.0 f.1).1,
        is_nearer k (lawful_entered k l) r t (each_in RetreatRanged rs r l.retreats_ranged m).3 (subst (Nearer rs r) f.5 near),
      )

  -- a bound on the rank bounds the letters: each answer leads to a smaller rank
  comes : (n s : ℕ) → Homed rs s → rank_of (home s) ≤ n → ComesHome k s n
  comes zero s (inl p) le = subst (λ v. ComesHome k v zero) (sym p) (is_away zero)
  comes zero s (inr p) le =
      let w = some_in (λ r. r.station ≡ s) rs p in
      let here : home s ≡ Some w.0 = retreat_is rs l.retreats_new w.0 s w.1 w.2 in
      let pos = (each_in RetreatRanged rs w.0 l.retreats_ranged w.1).3 in
      let le' : w.0.rank ≤ 0 = subst (λ o. rank_of o ≤ 0) here le in
      absurd (omega (arith, pos, le'))
  comes (suc n) s (inl p) le = subst (λ v. ComesHome k v (suc n)) (sym p) (is_away (suc n))
  comes (suc n) s (inr p) le =
      let w = some_in (λ r. r.station ≡ s) rs p in
      let here : home s ≡ Some w.0 = retreat_is rs l.retreats_new w.0 s w.1 w.2 in
      let le' : w.0.rank ≤ suc n = subst (λ o. rank_of o ≤ suc n) here le in
      retreats s n w.0 here (letter_allowed w.0 s w.1 w.2) (λ a t q.
      let f = falling w.0 s w.1 w.2 a t q in
      comes n t f.0 (omega (arith, le', f.1)))

-- beyond the kinds of a book there is one without edges and retreats
pub none_lawful : LawfulKind no_kind
none_lawful = record { edges_ranged = tt; retreats_ranged = tt; edges_new = tt; retreats_new = tt; homed = tt; allowed = tt; falls = tt }

pub leads_home : RetreatsLeadHome
leads_home bs ks q k s named =
    let l : LawfulKind (get_or ks k no_kind) = each_at LawfulKind ks no_kind none_lawful (passed_declares bs ks q).lawful k in
    let kind = get_or ks k no_kind in
    (comes kind l (rank_of (retreat_of kind.retreats s)) s (named_homed kind l s named) (omega arith), low kind l s)
