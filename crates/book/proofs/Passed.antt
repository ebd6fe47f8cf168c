-- Bytes that pass the check declare its kinds: what the rest of them declares, from the front.
use Rattle.std.proofs.Common.{◌≡◌, ℕ, zero, suc, ◌+◌, ◌<◌, ◌≤◌, Bool, true, false, cond, ◌&&◌, eqb, ltb, leb, List, [], ◌∷◌, ◌++◌, map, length, take, drop, Ok, Result, sym, refl, ap, ◌∙◌, subst, append_assoc, append-nil, arith, lit≤, length-append}
use Rattle.faults.specs.declared.fault.Fault.{Fault}
use Rattle.faults.specs.declared.causes.BookCause.TheVariants.{TooLong, MissingOperands, OutOfRange}
use Rattle.faults.specs.Numbers.{nowhere, book_fault}
use Rattle.faults.specs.Results.{◌>>=◌, need}
use Rattle.faults.proofs.Results.{err_ok, ok_same, bound, needed, follows}
use Rattle.protocol.specs.Lists.{Each}
use Rattle.protocol.proofs.Tests.{both, same_number, less, at_most}
use Rattle.book.specs.Kinds.{Kind, no_kind}
use Rattle.book.specs.Commands.{Code, KIND, EDGE, RETREAT, OTHER, width, commands}
use Rattle.book.specs.Reading.{Draft, Reading, start, drafted, closed, open_kind, declare, declare_all, read_book}
use Rattle.book.specs.Lawful.{Item, edge, retreat, item_bytes, items_bytes, kinds_bytes, kind_in, LawfulKind, Declares}
use Rattle.book.proofs.Entering.{Entered, none_entered, joined, joined_none, add, added, added_joined, item_entered}
use Rattle.book.proofs.Closing.{opened, closed_lawful}

-- where kinds are closed, the bytes declare the kinds behind them
record Later (bs : List ℕ) (ks out : List Kind) : Type 0 where
  items : List (List Item)
  written : bs ≡ kinds_bytes (length ks) items
  kinds : out ≡ ks ++ map kind_in items
  few : length out ≤ 8
  lawful : Each LawfulKind out

-- where one is open, the rest of it too
record Rest (bs : List ℕ) (ks : List Kind) (k : Kind) (out : List Kind) : Type 0 where
  items : List Item
  tail : List ℕ
  written : bs ≡ items_bytes items ++ tail
  later : Later tail (ks ++ (joined k (kind_in items) ∷ [])) out

-- a kind is open behind lawful ones
record Begun (ks : List Kind) (d : Draft) : Type 0 where
  room : length ks < 8
  before : Each LawfulKind ks
  entered : Entered (drafted d)

-- what passes with so many bytes left at most, where a kind is open
abbrev Reads : ℕ → Type 0
Reads n = (at : ℕ) (bs : List ℕ) (ks : List Kind) (d : Draft) (out : List Kind) → length bs ≤ n → Begun ks d →
    declare_all (opened ks d) (commands n at bs) ≡ Ok out → Rest bs ks (drafted d) out

-- the first command, and then the others
abbrev first : ℕ → ℕ → Reading → Code → List ℕ → Result (List Kind) Fault
first n at x c bs = declare x at c (take (width c) bs) >>= (λ y. declare_all y (commands n (at + suc (width c)) (drop (width c) bs)))

-- the code of a byte, by what it is tested for
abbrev code_from : Bool → Bool → Bool → Code
code_from x y z = cond x KIND (cond y EDGE (cond z RETREAT OTHER))

-- Kinds that close

last_count : (ks : List Kind) (k : Kind) → length (ks ++ (k ∷ [])) ≡ suc (length ks)
last_count ks k = omega (arith, length-append ks (k ∷ []))

-- no item more
no_more : (bs : List ℕ) (ks : List Kind) (k : Kind) (out : List Kind) → Later bs (ks ++ (k ∷ [])) out → Rest bs ks k out
no_more bs ks k out l = record {
  items = [];
  tail = bs;
  written = refl;
  later = subst (λ v. Later bs (ks ++ (v ∷ [])) out) (sym (joined_none k)) l;
}

at_end : (ks : List Kind) (d : Draft) (out : List Kind) → Begun ks d → closed (opened ks d) ≡ Ok out → Rest [] ks (drafted d) out
at_end ks d out b q =
    let c = closed_lawful ks d out b.before b.entered q in
    let count : length out ≡ suc (length ks) = ap length (sym c.0) ∙ last_count ks (drafted d) in
    no_more [] ks (drafted d) out (record {
      items = [];
      written = refl;
      kinds = sym c.0 ∙ sym (append-nil (ks ++ (drafted d ∷ [])));
      few = omega (arith, count, b.room);
      lawful = c.1;
    })

-- one item more, in front
item_first : (i : Item) (is : List Item) (bs tail : List ℕ) → bs ≡ items_bytes is ++ tail → item_bytes i ++ bs ≡ items_bytes (i ∷ is) ++ tail
item_first i is bs tail e = ap (λ (v : List ℕ). item_bytes i ++ v) e ∙ sym (append_assoc (item_bytes i) (items_bytes is) tail)

module _ (n : ℕ) (ih : Reads n) where
  -- A kind that begins

  kind_read : (at : ℕ) (bs : List ℕ) (ks out : List Kind) → length bs ≤ n → Each LawfulKind ks →
      (open_kind ks at (take 1 bs) >>= (λ y. declare_all y (commands n (at + 2) (drop 1 bs)))) ≡ Ok out → Later (1 ∷ bs) ks out
  kind_read at [] ks out le l q = absurd (err_ok q)
  kind_read at (b ∷ bs) ks out le l q =
      let c = bound (open_kind ks at (b ∷ [])) _ out q in
      let c1 = bound (need (eqb b (length ks) && ltb (length ks) 8) (book_fault OutOfRange at)) _ c.0 c.1 in
      let t = both (eqb b (length ks)) (ltb (length ks) 8) (needed _ _ c1.0 c1.1) in
      let d : Draft = record { place = at; edges = []; retreats = [] } in
      let r : Rest bs ks no_kind out = ih (at + 2) bs ks d out (omega arith) (record { room = less (length ks) 8 t.1; before = l; entered = none_entered })
      (subst (λ y. declare_all y (commands n (at + 2) bs) ≡ Ok out) (sym (ok_same c1.2)) c.2) in
      let k : Kind = kind_in r.items in
      record {
        items = r.items ∷ r.later.items;
        written = λ i. 1 ∷ same_number b (length ks) t.0 i ∷ (
            r.written
            ∙ ap (λ (v : List ℕ). items_bytes r.items ++ v) r.later.written
            ∙ ap (λ (v : ℕ). items_bytes r.items ++ kinds_bytes v r.later.items) (last_count ks k)
            ) i;
        kinds = r.later.kinds ∙ append_assoc ks (k ∷ []) (map kind_in r.later.items);
        few = r.later.few;
        lawful = r.later.lawful;
      }

  -- An item

  item_read : (at at' : ℕ) (i : Item) (bs : List ℕ) (ks : List Kind) (d : Draft) (out : List Kind) → length bs ≤ n → Begun ks d →
      (add d at i >>= (λ d'. Ok (opened ks d')) >>= (λ y. declare_all y (commands n at' bs))) ≡ Ok out → Rest (item_bytes i ++ bs) ks (drafted d) out
  item_read at at' i bs ks d out le b q =
      let c = bound (add d at i >>= (λ d'. Ok (opened ks d'))) _ out q in
      let c1 = bound (add d at i) (λ d'. Ok (opened ks d')) c.0 c.1 in
      let p = item_entered d at i c1.0 c1.1 b.entered in
      let y-is : opened ks (added d at i) ≡ c.0 = ap (opened ks) p.0 ∙ ok_same c1.2 in
      let r : Rest bs ks (drafted (added d at i)) out = ih at' bs ks (added d at i) out le (record { room = b.room; before = b.before; entered = p.1 }) (subst (λ y. declare_all y (commands n at' bs) ≡ Ok out) (sym y-is) c.2) in
      record {
        items = i ∷ r.items;
        tail = r.tail;
        written = item_first i r.items bs r.tail r.written;
        later = subst (λ v. Later r.tail (ks ++ (v ∷ [])) out) (added_joined d at i r.items) r.later;
      }

  edge_read : (at : ℕ) (bs : List ℕ) (ks : List Kind) (d : Draft) (out : List Kind) → length bs ≤ n → Begun ks d →
      first n at (opened ks d) EDGE bs ≡ Ok out → Rest (2 ∷ bs) ks (drafted d) out
  edge_read at [] ks d out le b q = absurd (err_ok q)
  edge_read at (f ∷ []) ks d out le b q = absurd (err_ok q)
  edge_read at (f ∷ g ∷ []) ks d out le b q = absurd (err_ok q)
  edge_read at (f ∷ g ∷ a ∷ []) ks d out le b q = absurd (err_ok q)
  edge_read at (f ∷ g ∷ a ∷ t ∷ bs) ks d out le b q = item_read at (at + 5) (edge (record { from = f; letter = g; answer = a; to = t })) bs ks d out (omega arith) b q

  retreat_read : (at : ℕ) (bs : List ℕ) (ks : List Kind) (d : Draft) (out : List Kind) → length bs ≤ n → Begun ks d →
      first n at (opened ks d) RETREAT bs ≡ Ok out → Rest (3 ∷ bs) ks (drafted d) out
  retreat_read at [] ks d out le b q = absurd (err_ok q)
  retreat_read at (s ∷ []) ks d out le b q = absurd (err_ok q)
  retreat_read at (s ∷ g ∷ []) ks d out le b q = absurd (err_ok q)
  retreat_read at (s ∷ g ∷ r ∷ bs) ks d out le b q = item_read at (at + 4) (retreat (record { station = s; letter = g; rank = r })) bs ks d out (omega arith) b q

  -- Any command

  in_kind : (at c : ℕ) (bs : List ℕ) (ks : List Kind) (d : Draft) (out : List Kind) → length bs ≤ n → Begun ks d →
      (x y z : Bool) → eqb c 1 ≡ x → eqb c 2 ≡ y → eqb c 3 ≡ z → first n at (opened ks d) (code_from x y z) bs ≡ Ok out → Rest (c ∷ bs) ks (drafted d) out
  in_kind at c bs ks d out le b true y z ex ey ez q =
      let p = bound (closed (opened ks d) >>= (λ ks'. open_kind ks' at (take 1 bs))) _ out q in
      let p1 = bound (closed (opened ks d)) (λ ks'. open_kind ks' at (take 1 bs)) p.0 p.1 in
      let k = closed_lawful ks d p1.0 b.before b.entered p1.1 in
      let more = kind_read at bs p1.0 out le k.1 (follows (λ y. declare_all y (commands n (at + 2) (drop 1 bs))) p1.2 ∙ p.2) in
      no_more (c ∷ bs) ks (drafted d) out (subst (λ v. Later (c ∷ bs) v out) (sym k.0) (subst (λ v. Later (v ∷ bs) p1.0 out) (sym (same_number c 1 ex)) more))
  in_kind at c bs ks d out le b false true z ex ey ez q = subst (λ v. Rest (v ∷ bs) ks (drafted d) out) (sym (same_number c 2 ey)) (edge_read at bs ks d out le b q)
  in_kind at c bs ks d out le b false false true ex ey ez q = subst (λ v. Rest (v ∷ bs) ks (drafted d) out) (sym (same_number c 3 ez)) (retreat_read at bs ks d out le b q)
  in_kind at c bs ks d out le b false false false ex ey ez q = absurd (err_ok q)

reads : (n : ℕ) → Reads n
reads zero at [] ks d out le b q = at_end ks d out b q
reads zero at (c ∷ bs) ks d out le b q = absurd (omega arith)
reads (suc n) at [] ks d out le b q = at_end ks d out b q
reads (suc n) at (c ∷ bs) ks d out le b q = in_kind n (reads n) at c bs ks d out (omega arith) b (eqb c 1) (eqb c 2) (eqb c 3) refl refl refl q

-- Books

-- where no kind is open yet, only one can begin
at_start : (n at c : ℕ) (bs : List ℕ) (out : List Kind) → length bs ≤ n → (x y z : Bool) → eqb c 1 ≡ x → first n at start (code_from x y z) bs ≡ Ok out → Later (c ∷ bs) [] out
at_start n at c bs out le true y z ex q = subst (λ v. Later (v ∷ bs) [] out) (sym (same_number c 1 ex)) (kind_read n (reads n) at bs [] out le tt q)
at_start n at c bs out le false true z ex q =
    let p = bound (declare start at EDGE (take 4 bs)) _ out q in
    let p1 = bound (need (eqb (length (take 4 bs)) 4) (book_fault MissingOperands at)) _ p.0 p.1 in
    absurd (err_ok p1.2)
at_start n at c bs out le false false true ex q =
    let p = bound (declare start at RETREAT (take 3 bs)) _ out q in
    let p1 = bound (need (eqb (length (take 3 bs)) 3) (book_fault MissingOperands at)) _ p.0 p.1 in
    absurd (err_ok p1.2)
at_start n at c bs out le false false false ex q = absurd (err_ok q)

from_start : (bs : List ℕ) (out : List Kind) → declare_all start (commands (length bs) 0 bs) ≡ Ok out → Later bs [] out
from_start [] out q =
    let is : ◌≡◌ {A = List Kind} [] out = ok_same q in
    record { items = []; written = refl; kinds = sym is; few = subst (λ v. length v ≤ 8) is (lit≤ tt); lawful = subst (Each LawfulKind) is tt }
from_start (c ∷ bs) out q = at_start (length bs) 0 c bs out (omega arith) (eqb c 1) (eqb c 2) (eqb c 3) refl q

pub passed_declares : (bs : List ℕ) (ks : List Kind) → read_book bs ≡ Ok ks → Declares bs ks
passed_declares bs ks q =
    let c = bound (need (leb (length bs) 8192) (book_fault TooLong nowhere)) _ ks q in
    let l : Later bs [] ks = from_start bs ks c.2 in
    record {
      short = at_most (length bs) 8192 (needed _ _ c.0 c.1);
      items = l.items;
      written = l.written;
      kinds = l.kinds;
      few = l.few;
      lawful = l.lawful;
    }
