-- An edge or a retreat is added to a kind exactly where it is in range and new.
use Rattle.std.proofs.Common.{◌≡◌, ℕ, true, not, List, [], ◌∷◌, ◌++◌, is_some, Ok, Result, sym, ap, ◌∙◌, subst, append_assoc, append-nil, arith}
use mathlib.Core.List.{map-append}
use Rattle.std.proofs.lemmas.Bool.Decides.{nat_tests}
use Rattle.faults.specs.declared.fault.Fault.{Fault}
use Rattle.faults.specs.declared.causes.BookCause.TheVariants.{OutOfRange, DeclaredTwice}
use Rattle.faults.specs.Numbers.{book_fault}
use Rattle.faults.specs.Results.{need}
use Rattle.faults.proofs.Results.{ok_same, bound, needed, met}
use Rattle.protocol.specs.declared.edges.Edge.{Edge}
use Rattle.protocol.specs.Lists.{Each, Apart}
use Rattle.protocol.specs.Tables.{EdgeRanged, SameEdge, edge_in_range, table_of}
use Rattle.protocol.proofs.Tests.{some_of, not_true, is_not}
use Rattle.protocol.proofs.Lists.{each_in, in_each, each_join, each_parts, apart_more, apart_before}
use Rattle.protocol.proofs.Firsts.{edge_found, edge_there}
use Rattle.protocol.proofs.Ranges.{edge_ranged, ranged_edge}
use Rattle.book.specs.declared.automaton.Retreat.{Retreat}
use Rattle.book.specs.declared.draft.Placed.{Placed}
use Rattle.book.specs.Kinds.{Kind, no_kind, retreat_of, retreat_in_range}
use Rattle.book.specs.Reading.{Draft, unplaced, drafted, edge_added, add_edge, retreat_added, add_retreat}
use Rattle.book.specs.Lawful.{Item, edge, retreat, kind_in, RetreatRanged, SameStation, LawfulKind}
use Rattle.book.proofs.Lookups.{retreat_found, retreat_there}

-- what a kind keeps before it is closed
pub record Entered (k : Kind) : Type 0 where
  pub edges_ranged : Each EdgeRanged k.edges
  pub retreats_ranged : Each RetreatRanged k.retreats
  pub edges_new : Apart SameEdge k.edges
  pub retreats_new : Apart SameStation k.retreats

pub none_entered : Entered no_kind
none_entered = record { edges_ranged = tt; retreats_ranged = tt; edges_new = tt; retreats_new = tt }

pub lawful_entered : (k : Kind) → LawfulKind k → Entered k
lawful_entered k l = record { edges_ranged = l.edges_ranged; retreats_ranged = l.retreats_ranged; edges_new = l.edges_new; retreats_new = l.retreats_new }

-- Kinds one behind the other

abbrev pub joined : Kind → Kind → Kind
joined a b = record { edges = a.edges ++ b.edges; retreats = a.retreats ++ b.retreats }

pub joined_none : (a : Kind) → joined a no_kind ≡ a
joined_none a = λ i. record { edges = append-nil a.edges i; retreats = append-nil a.retreats i }

joined_assoc : (a b c : Kind) → joined (joined a b) c ≡ joined a (joined b c)
joined_assoc a b c = λ i. record { edges = append_assoc a.edges b.edges c.edges i; retreats = append_assoc a.retreats b.retreats c.retreats i }

-- one item, and then the others
joined_item : (k : Kind) (i : Item) (is : List Item) → joined (joined k (kind_in (i ∷ []))) (kind_in is) ≡ joined k (kind_in (i ∷ is))
joined_item k (edge e) is = joined_assoc k (kind_in (edge e ∷ [])) (kind_in is)
joined_item k (retreat r) is = joined_assoc k (kind_in (retreat r ∷ [])) (kind_in is)

-- Ranges

retreat_ranged : (r : Retreat) → retreat_in_range r ≡ true → RetreatRanged r
retreat_ranged r h = grind (arith, nat_tests)

ranged_retreat : (r : Retreat) → RetreatRanged r → retreat_in_range r ≡ true
ranged_retreat r h = grind (arith, nat_tests)

-- New ones

edge_new : (es : List Edge) (e : Edge) → not (is_some (table_of es e.from e.letter e.answer)) ≡ true → Each (λ f. SameEdge f e → ⊥) es
edge_new es e h = in_each (λ f. SameEdge f e → ⊥) es (λ f m s. not_true h (edge_there es f e.from e.letter e.answer m s.0 s.1 s.2))

new_edge : (es : List Edge) (e : Edge) → Each (λ f. SameEdge f e → ⊥) es → not (is_some (table_of es e.from e.letter e.answer)) ≡ true
new_edge es e a = is_not (is_some (table_of es e.from e.letter e.answer)) (λ q.
    let w = some_of (table_of es e.from e.letter e.answer) q in
    let f = edge_found es e.from e.letter e.answer w.0 w.1 in
    each_in (λ f. SameEdge f e → ⊥) es f.0 a f.1 (f.2, f.3, f.4))

retreat_new : (rs : List Retreat) (r : Retreat) → not (is_some (retreat_of rs r.station)) ≡ true → Each (λ q. SameStation q r → ⊥) rs
retreat_new rs r h = in_each (λ q. SameStation q r → ⊥) rs (λ q m s. not_true h (retreat_there rs q r.station m s))

new_retreat : (rs : List Retreat) (r : Retreat) → Each (λ q. SameStation q r → ⊥) rs → not (is_some (retreat_of rs r.station)) ≡ true
new_retreat rs r a = is_not (is_some (retreat_of rs r.station)) (λ q.
    let w = some_of (retreat_of rs r.station) q in
    let f = retreat_found rs r.station w.0 w.1 in
    each_in (λ v. SameStation v r → ⊥) rs w.0 a f.0 f.1)

-- Items

abbrev pub add : Draft → ℕ → Item → Result Draft Fault
add d at (edge e) = add_edge d at e
add d at (retreat r) = add_retreat d at r

abbrev pub added : Draft → ℕ → Item → Draft
added d at (edge e) = edge_added d e
added d at (retreat r) = retreat_added d at r

added_is : (d : Draft) (at : ℕ) (i : Item) → drafted (added d at i) ≡ joined (drafted d) (kind_in (i ∷ []))
added_is d at (edge e) = λ i. record { edges = d.edges ++ (e ∷ []); retreats = sym (append-nil (unplaced d.retreats)) i }
added_is d at (retreat r) = λ i. record { edges = sym (append-nil d.edges) i; retreats = map-append (λ (p : Placed). p.retreat) d.retreats (record { place = at; retreat = r } ∷ []) i }

pub added_joined : (d : Draft) (at : ℕ) (i : Item) (is : List Item) → joined (drafted (added d at i)) (kind_in is) ≡ joined (drafted d) (kind_in (i ∷ is))
added_joined d at i is = ap (λ (k : Kind). joined k (kind_in is)) (added_is d at i) ∙ joined_item (drafted d) i is

-- what passes
pub item_entered : (d : Draft) (at : ℕ) (i : Item) (d' : Draft) → add d at i ≡ Ok d' → Entered (drafted d) → (added d at i ≡ d') × Entered (drafted (added d at i))
item_entered d at (edge e) d' q n =
    let c1 = bound (need (edge_in_range e) (book_fault OutOfRange at)) _ d' q in
    let c2 = bound (need (not (is_some (table_of d.edges e.from e.letter e.answer))) (book_fault DeclaredTwice at)) _ d' c1.2 in (
      ok_same c2.2,
      record {
        edges_ranged = each_join EdgeRanged d.edges (e ∷ []) n.edges_ranged (edge_ranged e (needed _ _ c1.0 c1.1), tt);
        retreats_ranged = n.retreats_ranged;
        edges_new = apart_more SameEdge d.edges e n.edges_new (edge_new d.edges e (needed _ _ c2.0 c2.1));
        retreats_new = n.retreats_new;
      },
    )
item_entered d at (retreat r) d' q n =
    let rs = unplaced d.retreats in
    let c1 = bound (need (retreat_in_range r) (book_fault OutOfRange at)) _ d' q in
    let c2 = bound (need (not (is_some (retreat_of rs r.station))) (book_fault DeclaredTwice at)) _ d' c1.2 in
    let more : unplaced (retreat_added d at r).retreats ≡ rs ++ (r ∷ []) = map-append (λ (p : Placed). p.retreat) d.retreats (record { place = at; retreat = r } ∷ []) in (
      ok_same c2.2,
      record {
        edges_ranged = n.edges_ranged;
        retreats_ranged = subst (Each RetreatRanged) (sym more) (each_join RetreatRanged rs (r ∷ []) n.retreats_ranged (retreat_ranged r (needed _ _ c1.0 c1.1), tt));
        edges_new = n.edges_new;
        retreats_new = subst (Apart SameStation) (sym more) (apart_more SameStation rs r n.retreats_new (retreat_new rs r (needed _ _ c2.0 c2.1)));
      },
    )

-- and what has to pass
pub item_enters : (d : Draft) (at : ℕ) (i : Item) (is : List Item) → Entered (joined (drafted d) (kind_in (i ∷ is))) → add d at i ≡ Ok (added d at i)
item_enters d at (edge e) is n =
    let es = (kind_in (edge e ∷ is)).edges in
    met (edge_in_range e) _ _ (ranged_edge e (each_parts EdgeRanged d.edges es n.edges_ranged).1.0)
    ∙ met (not (is_some (table_of d.edges e.from e.letter e.answer))) _ _ (new_edge d.edges e (apart_before SameEdge d.edges e (kind_in is).edges n.edges_new))
item_enters d at (retreat r) is n =
    let rs = unplaced d.retreats in
    met (retreat_in_range r) _ _ (ranged_retreat r (each_parts RetreatRanged rs (kind_in (retreat r ∷ is)).retreats n.retreats_ranged).1.0)
    ∙ met (not (is_some (retreat_of rs r.station))) _ _ (new_retreat rs r (apart_before SameStation rs r (kind_in is).retreats n.retreats_new))
