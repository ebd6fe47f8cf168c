-- Keys that are handed over to bound handles.
use Rattle.std.proofs.Common.{◌≡◌, ℕ, zero, suc, ◌<◌, ◌≢◌, ◌⊎◌, List, [], ◌∷◌, length, get_or, set, sym, refl, ap, ◌∙◌, subst, inl, inr, suc-le-suc, zero-le, le_of_suc-le-suc, arith, length-set, get_or-set_other, get_or-set_same}
use native.Mathlib.Decide.{ℕ_discrete}
use Rattle.rules.specs.Lists.{Different}
use Rattle.rules.specs.Script.{Keys, at, hand_over}

pub hand_over_length : (bs ts : List ℕ) (ks : Keys) → length (hand_over ks bs ts) ≡ length ks
hand_over_length [] ts ks = refl
hand_over_length (b ∷ bs) [] ks = refl
hand_over_length (b ∷ bs) (t ∷ ts) ks = hand_over_length bs ts (set ks b t) ∙ length-set ks b t

pub hand_over_other : (bs ts : List ℕ) (ks : Keys) (h : ℕ) → ((j : ℕ) → j < length bs → h ≢ get_or bs j 0) → at (hand_over ks bs ts) h ≡ at ks h
hand_over_other [] ts ks h far = refl
hand_over_other (b ∷ bs) [] ks h far = refl
hand_over_other (b ∷ bs) (t ∷ ts) ks h far =
    hand_over_other bs ts (set ks b t) h (λ j lt. far (suc j) (suc-le-suc lt)) ∙ get_or-set_other ks b h t 0 (far 0 (suc-le-suc zero-le))

abbrev pred_of : ℕ → ℕ
pred_of zero = zero
pred_of (suc n) = n

pub hand_over_same : (bs ts : List ℕ) (ks : Keys) (j : ℕ) → Different bs → ((i : ℕ) → i < length bs → get_or bs i 0 < length ks) → j < length bs → j < length ts →
    at (hand_over ks bs ts) (get_or bs j 0) ≡ at ts j
hand_over_same [] ts ks j d inside lt lt' = absurd (omega arith)
hand_over_same (b ∷ bs) [] ks j d inside lt lt' = absurd (omega arith)
hand_over_same (b ∷ bs) (t ∷ ts) ks zero d inside lt lt' =
    hand_over_other bs ts (set ks b t) b (λ i il e. absurd (zero_not (d 0 (suc i) (suc-le-suc zero-le) (suc-le-suc il) e)))
    ∙ get_or-set_same ks b t 0 (inside 0 (suc-le-suc zero-le))
  where
    zero_not : {i : ℕ} → 0 ≡ suc i → ⊥
    zero_not e = omega (arith, e)
hand_over_same (b ∷ bs) (t ∷ ts) ks (suc j) d inside lt lt' =
    hand_over_same bs ts (set ks b t) j
    (λ i k il kl e. ap pred_of (d (suc i) (suc k) (suc-le-suc il) (suc-le-suc kl) e))
    (λ i il. subst (λ v. get_or bs i 0 < v) (sym (length-set ks b t)) (inside (suc i) (suc-le-suc il)))
    (le_of_suc-le-suc lt) (le_of_suc-le-suc lt')

-- the handle of a list at which a number stands, or that it stands unmoved
pub where_is : (bs : List ℕ) (h : ℕ) → ((j : ℕ) × (j < length bs) × (h ≡ get_or bs j 0)) ⊎ ((j : ℕ) → j < length bs → h ≢ get_or bs j 0)
where_is [] h = inr (λ j lt e. absurd (omega arith))
where_is (b ∷ bs) h = decide (ℕ_discrete h b) (where_is bs h)
  where
    decide : Dec (h ≡ b) → ((j : ℕ) × (j < length bs) × (h ≡ get_or bs j 0)) ⊎ ((j : ℕ) → j < length bs → h ≢ get_or bs j 0) →
        ((j : ℕ) × (j < suc (length bs)) × (h ≡ get_or (b ∷ bs) j 0)) ⊎ ((j : ℕ) → j < suc (length bs) → h ≢ get_or (b ∷ bs) j 0)
    decide (yes e) r = inl (0, suc-le-suc zero-le, e)
    decide (no ne) (inl w) = inl (suc w.0, suc-le-suc w.1, w.2)
    decide (no ne) (inr far) = inr (elim [ zero ↦ λ lt. ne | suc j ↦ λ lt. far j (le_of_suc-le-suc lt) ])
