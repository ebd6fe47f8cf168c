-- What the tests over the answers to a letter say: the successors agree, undeclared blocks are empty, the declared ones end alike.
use Rattle.std.proofs.Common.{◌≡◌, ℕ, zero, suc, ◌≤◌, true, false, cond, List, [], ◌∷◌, length, get_or, drop, set, Some, None, Ok, Option, sym, refl, ap, ◌∙◌, subst, true≢false, arith, length-drop}
use Rattle.faults.specs.declared.fault.Fault.{Fault}
use Rattle.faults.proofs.Results.{err_ok, ok_same, bound, follows}
use Rattle.protocol.specs.Lists.{all, Each}
use Rattle.protocol.proofs.Tests.{none_some, some_same, taken, both, and_true, same_number, equal_numbers}
use Rattle.protocol.proofs.Lists.{all_each, each_all}
use Rattle.rules.specs.Lists.{same, empty}
use Rattle.rules.specs.Script.{Block, no_block, Keys}
use Rattle.rules.specs.Check.{Checks, agrees, agreed, undeclared_empty, branches, join, or_fault}
use Rattle.rules.proofs.Lists.{all_at, all_of, same_lists, same_self, is_empty, tail}

pub or_some : {X : Type 0} (o : Option X) (e : Fault) (x : X) → or_fault o e ≡ Ok x → o ≡ Some x
or_some None e x q = absurd (err_ok q)
or_some (Some y) e x q = ap Some (ok_same q)

-- All lead to one station

pub agreed_all : (ts : List (Option ℕ)) (t : ℕ) → agreed ts ≡ Some t → (a u : ℕ) → get_or ts a None ≡ Some u → u ≡ t
agreed_all [] t e a u q = absurd (none_some e)
agreed_all (None ∷ ts) t e zero u q = absurd (none_some q)
agreed_all (None ∷ ts) t e (suc a) u q = agreed_all ts t e a u q
agreed_all (Some v ∷ ts) t e zero u q = sym (some_same q) ∙ (taken (all (agrees v) ts) v t e).1
agreed_all (Some v ∷ ts) t e (suc a) u q =
    let w = taken (all (agrees v) ts) v t e in
    same_number u v (ap (agrees v) (sym q) ∙ all_at (agrees v) ts None refl w.0 a) ∙ w.1

pub all_agreed : (ts : List (Option ℕ)) (t a u : ℕ) → get_or ts a None ≡ Some u → ((a u : ℕ) → get_or ts a None ≡ Some u → u ≡ t) → agreed ts ≡ Some t
all_agreed [] t a u q h = absurd (none_some q)
all_agreed (None ∷ ts) t zero u q h = absurd (none_some q)
all_agreed (None ∷ ts) t (suc a) u q h = all_agreed ts t a u q (λ b. h (suc b))
all_agreed (Some v ∷ ts) t a u q h =
    ap (λ b. cond b (Some v) None) (all_of (agrees v) ts None (λ i. by_case i (get_or ts i None) refl)) ∙ ap Some (h 0 v refl)
  where
    by_case : (i : ℕ) (o : Option ℕ) → get_or ts i None ≡ o → agrees v o ≡ true
    by_case i None p = refl
    by_case i (Some w) p = equal_numbers (h (suc i) w p ∙ sym (h 0 v refl))

-- Undeclared answers have empty blocks

pub undeclared_all : (ts : List (Option ℕ)) (bs : List Block) → undeclared_empty ts bs ≡ true → length bs ≤ length ts →
    (a : ℕ) → get_or ts a None ≡ None → (get_or bs a no_block).bytes ≡ []
undeclared_all [] [] e le a q = refl
undeclared_all [] (b ∷ bs) e le a q = absurd (omega arith)
undeclared_all (None ∷ ts) bs e le zero q = is_empty (get_or bs 0 no_block).bytes (both (empty (get_or bs 0 no_block).bytes) (undeclared_empty ts (drop 1 bs)) e).0
undeclared_all (None ∷ ts) bs e le (suc a) q =
    ap (λ (b : Block). b.bytes) (sym (tail bs a no_block))
    ∙ undeclared_all ts (drop 1 bs) (both (empty (get_or bs 0 no_block).bytes) (undeclared_empty ts (drop 1 bs)) e).1 (omega (arith, length-drop 1 bs)) a q
undeclared_all (Some t ∷ ts) bs e le zero q = absurd (none_some (sym q))
undeclared_all (Some t ∷ ts) bs e le (suc a) q =
    ap (λ (b : Block). b.bytes) (sym (tail bs a no_block)) ∙ undeclared_all ts (drop 1 bs) e (omega (arith, length-drop 1 bs)) a q

pub all_undeclared : (ts : List (Option ℕ)) (bs : List Block) → ((a : ℕ) → get_or ts a None ≡ None → (get_or bs a no_block).bytes ≡ []) → undeclared_empty ts bs ≡ true
all_undeclared [] bs h = refl
all_undeclared (None ∷ ts) bs h =
    and_true (ap empty (h 0 refl)) (all_undeclared ts (drop 1 bs) (λ a q. ap (λ (b : Block). b.bytes) (tail bs a no_block) ∙ h (suc a) q))
all_undeclared (Some t ∷ ts) bs h = all_undeclared ts (drop 1 bs) (λ a q. ap (λ (b : Block). b.bytes) (tail bs a no_block) ∙ h (suc a) q)

-- The blocks of declared answers end in one set

module _ (check : Checks) (ks : Keys) (h : ℕ) (ks' : Keys) where
  -- each block ends there
  abbrev pub Ends : List (Option ℕ) → List Block → Type 0
  Ends ts bs = (a t : ℕ) → get_or ts a None ≡ Some t → check (get_or bs a no_block) (set ks h t) ≡ Ok ks'

  abbrev pub Alike : List Keys → Type 0
  Alike ends = Each (λ k. k ≡ ks') ends

  -- from those of the tail
  later : (ts : List (Option ℕ)) (bs : List Block) (a t : ℕ) → Ends ts (drop 1 bs) → get_or ts a None ≡ Some t → check (get_or bs (suc a) no_block) (set ks h t) ≡ Ok ks'
  later ts bs a t ends q = ap (λ (b : Block). check b (set ks h t)) (sym (tail bs a no_block)) ∙ ends a t q

  pub branches_end : (ts : List (Option ℕ)) (bs : List Block) (ends : List Keys) → branches check ks h ts bs ≡ Ok ends → Alike ends → Ends ts bs
  branches_end [] bs ends e al a t q = absurd (none_some q)
  branches_end (None ∷ ts) bs ends e al zero t q = absurd (none_some q)
  branches_end (None ∷ ts) bs ends e al (suc a) t q = later ts bs a t (branches_end ts (drop 1 bs) ends e al) q
  branches_end (Some v ∷ ts) bs ends e al a t q =
      let c1 = bound (check (get_or bs 0 no_block) (set ks h v)) _ ends e in
      let c2 = bound (branches check ks h ts (drop 1 bs)) _ ends c1.2 in
      let al' : Alike (c1.0 ∷ c2.0) = subst Alike (sym (ok_same c2.2)) al in
      by_case (c1.1 ∙ ap Ok al'.0) (branches_end ts (drop 1 bs) c2.0 c2.1 al'.1) a q
    where
      by_case : check (get_or bs 0 no_block) (set ks h v) ≡ Ok ks' → Ends ts (drop 1 bs) → (a : ℕ) → get_or (Some v ∷ ts) a None ≡ Some t → check (get_or bs a no_block) (set ks h t) ≡ Ok ks'
      by_case here there zero q = ap (λ u. check (get_or bs 0 no_block) (set ks h u)) (sym (some_same q)) ∙ here
      by_case here there (suc a) q = later ts bs a t there q

  pub end_branches : (ts : List (Option ℕ)) (bs : List Block) → Ends ts bs → (ends : List Keys) × (branches check ks h ts bs ≡ Ok ends) × Alike ends
  end_branches [] bs all_End = ([], refl, tt)
  end_branches (None ∷ ts) bs all_End =
      end_branches ts (drop 1 bs) (λ a t q. ap (λ (b : Block). check b (set ks h t)) (tail bs a no_block) ∙ all_End (suc a) t q)
  end_branches (Some v ∷ ts) bs all_End =
      let w = end_branches ts (drop 1 bs) (λ a t q. ap (λ (b : Block). check b (set ks h t)) (tail bs a no_block) ∙ all_End (suc a) t q) in
      (ks' ∷ w.0, follows _ (all_End 0 v refl) ∙ follows (λ (ends : List Keys). Ok (ks' ∷ ends)) w.1, (refl, w.2))

  pub some_branch : (ts : List (Option ℕ)) (bs : List Block) (ends : List Keys) (a t : ℕ) → branches check ks h ts bs ≡ Ok ends → get_or ts a None ≡ Some t → empty ends ≡ false
  some_branch [] bs ends a t e q = absurd (none_some q)
  some_branch (None ∷ ts) bs ends zero t e q = absurd (none_some q)
  some_branch (None ∷ ts) bs ends (suc a) t e q = some_branch ts (drop 1 bs) ends a t e q
  some_branch (Some v ∷ ts) bs ends a t e q =
      let c1 = bound (check (get_or bs 0 no_block) (set ks h v)) _ ends e in
      let c2 = bound (branches check ks h ts (drop 1 bs)) _ ends c1.2 in
      ap empty (sym (ok_same c2.2))

  pub join_alike : (ends : List Keys) → join ends ≡ Some ks' → Alike ends
  join_alike [] e = absurd (none_some e)
  join_alike (k ∷ ends) e =
      let w = taken (all (same k) ends) k ks' e in
      (w.1, all_each (same k) (λ x. x ≡ ks') (λ x q. sym (same_lists k x q) ∙ w.1) ends w.0)

  pub alike_join : (ends : List Keys) → empty ends ≡ false → Alike ends → join ends ≡ Some ks'
  alike_join [] e al = absurd (true≢false e)
  alike_join (k ∷ ends) e al =
      ap (λ b. cond b (Some k) None) (each_all (same k) (λ x. x ≡ ks') (λ x q. ap (same k) (q ∙ sym al.0) ∙ same_self k) ends al.1) ∙ ap Some al.0
