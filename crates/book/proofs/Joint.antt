-- Where all the answers to a letter lead, with one answer more.
use Rattle.std.proofs.Common.{◌≡◌, ℕ, zero, suc, ◌<◌, Bool, true, false, cond, ◌&&◌, eqb, List, [], ◌∷◌, length, get_or, set, Some, None, Option, sym, refl, ap, ◌∙◌, ◌≢◌, arith}
use native.Mathlib.Decide.{ℕ_discrete}
use Rattle.protocol.specs.declared.edges.Edge.{Edge}
use Rattle.protocol.specs.Tables.{Table, leads, successors}
use Rattle.protocol.proofs.Tests.{none_some, same_number, other_numbers}
use Rattle.book.specs.declared.leads.Leads.{Leads}
use Rattle.book.specs.declared.leads.Leads.TheVariants.{Nowhere, To, Apart}
use Rattle.book.specs.Leads.{joined_with, joint}

apart_from : (t u : ℕ) → t ≢ u → joined_with t (To u) ≡ Apart
apart_from t u ne = ap (λ b. cond b (To t) Apart) (other_numbers u t (λ e. ne (sym e)))

-- in whatever order they come
turned : (t u : ℕ) (w : Leads) → joined_with t (joined_with u w) ≡ joined_with u (joined_with t w)
turned t u w = by (ℕ_discrete t u)
  where
    others : t ≢ u → (w : Leads) → joined_with t (joined_with u w) ≡ joined_with u (joined_with t w)
    others ne Nowhere = apart_from t u ne ∙ sym (apart_from u t (λ e. ne (sym e)))
    others ne Apart = refl
    others ne (To v) = at (eqb v u) (eqb v t) refl refl
      where
        at : (b c : Bool) → eqb v u ≡ b → eqb v t ≡ c → joined_with t (cond b (To u) Apart) ≡ joined_with u (cond c (To t) Apart)
        at true true p q = absurd (ne (sym (same_number v t q) ∙ same_number v u p))
        at true false p q = apart_from t u ne
        at false true p q = sym (apart_from u t (λ e. ne (sym e)))
        at false false p q = refl

    by : Dec (t ≡ u) → joined_with t (joined_with u w) ≡ joined_with u (joined_with t w)
    by (yes e) = λ i. joined_with (e i) (joined_with (sym e i) w)
    by (no ne) = others ne w

joint_more : (ts : List (Option ℕ)) (a t : ℕ) → a < length ts → get_or ts a None ≡ None → joint (set ts a (Some t)) ≡ joined_with t (joint ts)
joint_more [] a t lt e = absurd (omega (arith, lt))
joint_more (None ∷ ts) zero t lt e = refl
joint_more (Some u ∷ ts) zero t lt e = absurd (none_some (sym e))
joint_more (None ∷ ts) (suc a) t lt e = joint_more ts a t (omega (arith, lt)) e
joint_more (Some u ∷ ts) (suc a) t lt e = ap (joined_with u) (joint_more ts a t (omega (arith, lt)) e) ∙ turned u t (joint ts)

same_joint : (e f : Table) (s l : ℕ) → ((a : ℕ) → e s l a ≡ f s l a) → joint (successors e s l) ≡ joint (successors f s l)
same_joint e f s l same = λ i. joint (same 0 i ∷ same 1 i ∷ same 2 i ∷ same 3 i ∷ [])

with_answer : (o : ℕ → Option ℕ) (a t : ℕ) → a < 4 → o a ≡ None →
    joint (successors (λ s l k. cond (eqb a k) (Some t) (o k)) 0 0) ≡ joined_with t (joint (successors (λ s l. o) 0 0))
with_answer o zero t lt e = joint_more (o 0 ∷ o 1 ∷ o 2 ∷ o 3 ∷ []) 0 t (omega arith) e
with_answer o (suc zero) t lt e = joint_more (o 0 ∷ o 1 ∷ o 2 ∷ o 3 ∷ []) 1 t (omega arith) e
with_answer o (suc (suc zero)) t lt e = joint_more (o 0 ∷ o 1 ∷ o 2 ∷ o 3 ∷ []) 2 t (omega arith) e
with_answer o (suc (suc (suc zero))) t lt e = joint_more (o 0 ∷ o 1 ∷ o 2 ∷ o 3 ∷ []) 3 t (omega arith) e
with_answer o (suc (suc (suc (suc a)))) t lt e = absurd (omega arith)

-- a table with an edge more
pub joint_added : (old new : Table) (e : Edge) → e.answer < 4 → old e.from e.letter e.answer ≡ None →
    ((s l a : ℕ) → new s l a ≡ cond (leads e s l a) (Some e.to) (old s l a)) → (s l : ℕ) →
    joint (successors new s l) ≡ cond (eqb e.from s && eqb e.letter l) (joined_with e.to (joint (successors old s l))) (joint (successors old s l))
joint_added old new e lt vacant after s l = by (eqb e.from s) (eqb e.letter l) refl refl
  where
    by : (b c : Bool) → eqb e.from s ≡ b → eqb e.letter l ≡ c → joint (successors new s l) ≡ cond (b && c) (joined_with e.to (joint (successors old s l))) (joint (successors old s l))
    by true true p q =
        same_joint new (λ s l a. cond (eqb e.answer a) (Some e.to) (old s l a)) s l (λ a. after s l a ∙ (λ i. cond (p i && (q i && eqb e.answer a)) (Some e.to) (old s l a)))
        ∙ with_answer (old s l) e.answer e.to lt ((λ i. old (sym (same_number e.from s p) i) (sym (same_number e.letter l q) i) e.answer) ∙ vacant)
    by true false p q = same_joint new old s l (λ a. after s l a ∙ (λ i. cond (p i && (q i && eqb e.answer a)) (Some e.to) (old s l a)))
    by false c p q = same_joint new old s l (λ a. after s l a ∙ (λ i. cond (p i && (eqb e.letter l && eqb e.answer a)) (Some e.to) (old s l a)))
