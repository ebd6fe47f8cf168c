-- A reader with one command more.
use Rattle.std.proofs.Common.{◌≡◌, ℕ, ◌<◌, ◌≤◌, Bool, true, false, ◌&&◌, eqb, ltb, List, ◌∷◌, ◌++◌, [], length, get_or, take, Some, None, Ok, Err, Option, Result, IsOkAnd, IsSomeAnd, IsNone, MatchOption, OnSome, sym, refl, ap, ◌∙◌, subst, arith, lit<, length-take, get_or-take}
use Rattle.std.proofs.lemmas.Slice.Zip.{all_zipped_more, AllZip-long}
use Rattle.arrayvec.specs.ArrayVec.{ArrayVec}
use Rattle.faults.specs.declared.fault.Fault.{Fault}
use Rattle.faults.specs.declared.causes.BookCause.TheVariants.{OutOfRange}
use Rattle.faults.specs.Numbers.{book_fault}
use Rattle.faults.specs.Results.{need, ◌>>=◌}
use Rattle.faults.proofs.Results.{met, follows}
use Rattle.protocol.proofs.Tests.{both, and_true, is_false, equal_numbers, same_number, less, is_less}
use Rattle.book.specs.declared.automaton.Automaton.{Automaton}
use Rattle.book.specs.declared.draft.Draft as code
use Rattle.book.specs.declared.reader.Reader.{Reader}
use Rattle.book.specs.Automata.{Shows}
use Rattle.book.specs.Kinds.{Kind}
use Rattle.book.specs.Commands.{KIND}
use Rattle.book.specs.Reading.{Draft, Reading, close_draft, closed, open_kind, declare}
use Rattle.book.specs.Shown.{Drafts, Reads}
use Rattle.book.proofs.Giving.{ok_and, of_ok_and}

-- the draft of a reader stands for one of the reading
drafting : (d : code.Draft) (o : Option code.Draft) (p : Option Draft) → o ≡ Some d → MatchOption o (IsNone p) (λ e. IsSomeAnd p (Drafts e)) →
    (y : Draft) × (p ≡ Some y) × Drafts d y
drafting d o p is w = by p (subst (λ v. MatchOption v (IsNone p) (λ e. IsSomeAnd p (Drafts e))) is w)
  where
    by : (p : Option Draft) → IsSomeAnd p (Drafts d) → (y : Draft) × (p ≡ Some y) × Drafts d y
    by None w = absurd w
    by (Some y) w = (y, refl, w)

abbrev pub with_draft : (r : Reader) (d : code.Draft) → length r.kinds.items < 8 → Reader
with_draft r d room = record { kinds = r.kinds; draft = Some d; room = room }

enough : (n : ℕ) (os : List ℕ) → n ≤ length os → eqb (length (take n os)) n ≡ true
enough n os le = let e : length (take n os) ≡ n = length-take n os ∙ omega (arith, le) in equal_numbers e

pub close_reads : (r : Reader) (d : code.Draft) (a : Automaton) (v : ArrayVec Automaton) (o : Option code.Draft) (room : OnSome o (length v.items < 8)) (x : Reading) →
    Reads r x → r.draft ≡ Some d → v.items ≡ r.kinds.items ++ (a ∷ []) → o ≡ None → ((y : Draft) → Drafts d y → IsOkAnd (close_draft y) (Shows a)) →
    IsOkAnd (closed x) (λ ks. Reads (record { kinds = v; draft = o; room = room }) (record { kinds = ks; draft = None }))
close_reads r d a v o room x w is pushed none gives =
    let y = drafting d r.draft x.draft is w.drafts in
    let g = of_ok_and (Shows a) (close_draft y.0) (gives y.0 y.2) in
    ok_and _ (x.kinds ++ (g.0 ∷ [])) (closed x)
    (ap (λ (p : Option Draft). closed (record { kinds = x.kinds; draft = p })) y.1 ∙ follows (λ k. Ok (x.kinds ++ (k ∷ []))) g.1)
    (record {
      listed = rw pushed (all_zipped_more Shows r.kinds.items x.kinds a g.0 w.listed g.2);
      drafts = subst (λ p. MatchOption p (IsNone {T = Draft} None) (λ e. IsSomeAnd None (Drafts e))) (sym none) refl;
    })

pub close_fails : (r : Reader) (d : code.Draft) (x : Reading) (e : Fault) → Reads r x → r.draft ≡ Some d → ((y : Draft) → Drafts d y → close_draft y ≡ Err e) → closed x ≡ Err e
close_fails r d x e w is gives =
    let y = drafting d r.draft x.draft is w.drafts in
    ap (λ (p : Option Draft). closed (record { kinds = x.kinds; draft = p })) y.1
    ∙ ap (λ (v : Result Kind Fault). v >>= (λ k. Ok (x.kinds ++ (k ∷ [])))) (gives y.0 y.2)

module _ (r : Reader) (x : Reading) (at : ℕ) (os : List ℕ) (gives : IsOkAnd (closed x) (λ ks. Reads r (record { kinds = ks; draft = None }))) (le : 1 ≤ length os) where
  abbrev is_next : List Kind → Bool
  is_next ks = eqb (get_or (take 1 os) 0 0) (length ks) && ltb (length ks) 8

  -- what follows is decided by the number
  opened : (ks : List Kind) × (declare x at KIND (take 1 os) ≡ (need (is_next ks) (book_fault OutOfRange at) >>= (λ _. Ok (record { kinds = ks; draft = Some (record { place = at; edges = []; retreats = [] }) })))) × Reads r (record { kinds = ks; draft = None })
  opened = let g = of_ok_and _ (closed x) gives in (g.0, follows (λ ks. open_kind ks at (take 1 os)) g.1 ∙ met _ _ _ (enough 1 os le), g.2)

  counted : length opened.0 ≡ length r.kinds.items
  counted = AllZip-long Shows r.kinds.items opened.0 opened.2.listed

  pub kind_reads : (d : code.Draft) (room : length r.kinds.items < 8) → Drafts d (record { place = at; edges = []; retreats = [] }) → get_or os 0 0 ≡ length r.kinds.items →
      (x' : Reading) × (declare x at KIND (take 1 os) ≡ Ok x') × Reads (with_draft r d room) x'
  kind_reads d room new number =
      let next : is_next opened.0 ≡ true = and_true (equal_numbers (get_or-take 1 os 0 0 (lit< tt) ∙ number ∙ sym counted)) (is_less (omega (arith, counted, room))) in (
        record { kinds = opened.0; draft = Some (record { place = at; edges = []; retreats = [] }) },
        opened.1 ∙ met _ _ _ next,
        record { listed = opened.2.listed; drafts = new },
      )

  pub kind_refused : (get_or os 0 0 ≡ length r.kinds.items → length r.kinds.items < 8 → ⊥) → declare x at KIND (take 1 os) ≡ Err (book_fault OutOfRange at)
  kind_refused other =
      let bad : is_next opened.0 ≡ false = is_false _ (λ e.
      let p = both (eqb (get_or (take 1 os) 0 0) (length opened.0)) (ltb (length opened.0) 8) e in
      other (sym (get_or-take 1 os 0 0 (lit< tt)) ∙ same_number _ _ p.0 ∙ counted) (omega (arith, counted, less _ _ p.1))) in
      opened.1 ∙ ap (λ b. need b (book_fault OutOfRange at) >>= (λ _. Ok (record { kinds = opened.0; draft = Some (record { place = at; edges = []; retreats = [] }) }))) bad
