-- How many of a list are some, and how many edges a letter has.
use Rattle.std.proofs.Common.{◌≡◌, ℕ, zero, suc, ◌+◌, ◌*◌, ◌/◌, ◌%◌, ◌<◌, true, cond, List, [], ◌∷◌, length, get_or, set, count_by, flat_map, is_some, Some, None, Option, sym, refl, ap, ◌∙◌, subst, inl, inr, true≢false, arith, get_or-set_other, get_or-set_same}
use Rattle.std.proofs.lemmas.List.{get_or_past, ext_get_or}
use Rattle.std.proofs.lemmas.List.Sums.{get_or-le-sum_by, sum_by-cons, sum_by-set}
use Rattle.std.proofs.lemmas.Bool.{cases_eq, cases_lt}
use Rattle.protocol.specs.Lists.{Each, Apart, from}
use Rattle.protocol.specs.Tables.{Table, ends, edge_count}
use Rattle.protocol.specs.Slots.{slot_of}
use Rattle.protocol.proofs.Lists.{In, in_each, each_in}

-- Places of a list

module _ {X : Type 0} where
  abbrev pub some_at : List (Option X) → ℕ → Type 0
  some_at xs i = is_some (get_or xs i None) ≡ true

  pub within : (xs : List (Option X)) (i : ℕ) → some_at xs i → i < length xs
  within xs i h = elim (cases_lt i (length xs)) [ inl lt ↦ lt | inr le ↦ absurd (true≢false (sym h ∙ ap is_some (get_or_past xs i None le))) ]

  -- with one taken away there is one less
  one_less : (xs : List (Option X)) (i : ℕ) → some_at xs i → count_by is_some (set xs i None) + 1 ≡ count_by is_some xs
  one_less xs i h =
      let e = sum_by-set (λ (o : Option X). cond (is_some o) 1 0) xs i None None (within xs i h) in
      let one : ◌≡◌ {A = ℕ} (cond (is_some (get_or xs i None)) 1 0) 1 = ap (λ b. cond b 1 0) h in
      omega (arith, e, one)

  -- the others stay
  still : (xs : List (Option X)) (i j : ℕ) → (j ≡ i → ⊥) → is_some (get_or (set xs i None) j None) ≡ is_some (get_or xs j None)
  still xs i j ne = ap is_some (get_or-set_other xs i j None None ne)

  gone : (xs : List (Option X)) (i : ℕ) → some_at xs i → some_at (set xs i None) i → ⊥
  gone xs i h k = true≢false (sym k ∙ ap is_some (get_or-set_same xs i None None (within xs i h)))

  none_counted : (xs : List (Option X)) → ((j : ℕ) → some_at xs j → ⊥) → count_by is_some xs ≡ 0
  none_counted [] never = refl
  none_counted (None ∷ xs) never = omega (arith, sum_by-cons (λ (o : Option X). cond (is_some o) 1 0) None xs, none_counted xs (λ j. never (suc j)))
  none_counted (Some x ∷ xs) never = absurd (never 0 refl)

  rest : (is : List ℕ) (i : ℕ) (xs : List (Option X)) → Each (λ j. i ≡ j → ⊥) is → Each (some_at xs) is → Each (some_at (set xs i None)) is
  rest is i xs apart there = in_each _ is (λ j m. still xs i j (λ e. each_in (λ j. i ≡ j → ⊥) is j apart m (sym e)) ∙ each_in (some_at xs) is j there m)

  -- where as many places as there are some are some, there is no other
  pub no_other : (is : List ℕ) (xs : List (Option X)) → Apart ◌≡◌ is → Each (some_at xs) is → count_by is_some xs ≡ length is → (j : ℕ) → some_at xs j → In j is
  no_other [] xs apart there e j h =
      let le = get_or-le-sum_by (λ (o : Option X). cond (is_some o) 1 0) xs j None (within xs j h) in
      let one : ◌≡◌ {A = ℕ} (cond (is_some (get_or xs j None)) 1 0) 1 = ap (λ b. cond b 1 0) h in
      absurd (omega (arith, le, one, e))
  no_other (i ∷ is) xs apart there e j h = elim (cases_eq i j) [
    | inl same ↦ inl same
    | inr other ↦ inr (no_other is (set xs i None) apart.1 (rest is i xs apart.0 there.1) (omega (arith, one_less xs i there.0)) j (still xs i j (λ q. other (sym q)) ∙ h))
  ]

  -- where the places are all that are some, there are as many
  pub all_counted : (is : List ℕ) (xs : List (Option X)) → Apart ◌≡◌ is → Each (some_at xs) is → ((j : ℕ) → some_at xs j → In j is) → count_by is_some xs ≡ length is
  all_counted [] xs apart there found = none_counted xs (λ j h. found j h)
  all_counted (i ∷ is) xs apart there found =
      let less = all_counted is (set xs i None) apart.1 (rest is i xs apart.0 there.1) left in
      omega (arith, one_less xs i there.0, less)
    where
      left : (j : ℕ) → some_at (set xs i None) j → In j is
      left j h = elim (cases_eq j i) [
        | inl same ↦ absurd (gone xs i there.0 (subst (some_at (set xs i None)) same h))
        | inr other ↦ elim (found j (sym (still xs i j other) ∙ h)) [ inl same ↦ absurd (other (sym same)) | inr m ↦ m ]
      ]

-- Stations and answers

module _ (f : ℕ → ℕ → Option ℕ) where
  abbrev laid : ℕ → ℕ → List (Option ℕ)
  laid n k = flat_map (λ s. f s 0 ∷ f s 1 ∷ f s 2 ∷ f s 3 ∷ []) (from n k)

  first : (s a : ℕ) (xs : List (Option ℕ)) → a < 4 → get_or (f s 0 ∷ f s 1 ∷ f s 2 ∷ f s 3 ∷ xs) a None ≡ f s a
  first s zero xs lt = refl
  first s (suc zero) xs lt = refl
  first s (suc (suc zero)) xs lt = refl
  first s (suc (suc (suc zero))) xs lt = refl
  first s (suc (suc (suc (suc a)))) xs lt = absurd (omega arith)

  laid_at : (n k s a : ℕ) → s < k → a < 4 → get_or (laid n k) (4 * s + a) None ≡ f (n + s) a
  laid_at n zero s a sl al = absurd (omega arith)
  laid_at n (suc k) zero a sl al =
      let p : 4 * zero + a ≡ a = omega arith in
      let q : n ≡ n + zero = omega arith in
      ap (λ i. get_or (laid n (suc k)) i None) p ∙ first n a (laid (suc n) k) al ∙ ap (λ (t : ℕ). f t a) q
  laid_at n (suc k) (suc s) a sl al =
      let p : 4 * suc s + a ≡ suc (suc (suc (suc (4 * s + a)))) = omega arith in
      let q : suc n + s ≡ n + suc s = omega arith in
      ap (λ i. get_or (laid n (suc k)) i None) p ∙ laid_at (suc n) k s a (omega arith) al ∙ ap (λ (t : ℕ). f t a) q

-- what a letter's entry at a station and an answer is
pub ends_at : (e : Table) (l s a : ℕ) → s < 16 → a < 4 → get_or (ends e l) (slot_of s a) None ≡ e s l a
ends_at e l s a sl al = let p : 0 + s ≡ s = omega arith in laid_at (λ s a. e s l a) 0 16 s a sl al ∙ ap (λ (t : ℕ). e t l a) p

-- each place of the entries is that of a station and an answer
pub all_ends : (e : Table) (l i : ℕ) → some_at (ends e l) i → (s : ℕ) × (a : ℕ) × (s < 16) × (a < 4) × (slot_of s a ≡ i)
all_ends e l i h = let lt : i < 64 = within (ends e l) i h in (i / 4, i % 4, omega arith, omega arith, omega arith)

pub counted : (e : Table) (l : ℕ) → edge_count e l ≡ count_by is_some (ends e l)
unfolding edge_count
counted e l = refl

-- the count of a letter whose entries are those of a list
pub counts_held : (e : Table) (l : ℕ) (xs : List (Option ℕ)) → length xs ≡ 64 → ((s a : ℕ) → s < 16 → a < 4 → e s l a ≡ get_or xs (slot_of s a) None) → edge_count e l ≡ count_by is_some xs
unfolding edge_count
counts_held e l xs long h = ap (λ (os : List (Option ℕ)). count_by is_some os) (ext_get_or None (ends e l) xs (sym long) at)
  where
    at : (i : ℕ) → i < 64 → get_or (ends e l) i None ≡ get_or xs i None
    at i lt =
        let sl : i / 4 < 16 = omega arith in
        let al : i % 4 < 4 = omega arith in
        let p : slot_of (i / 4) (i % 4) ≡ i = omega arith in
        subst (λ j. get_or (ends e l) j None ≡ get_or xs j None) p (ends_at e l (i / 4) (i % 4) sl al ∙ h (i / 4) (i % 4) sl al)

-- a letter without edges counts none
pub counts_none : (e : Table) (l : ℕ) → ((s a : ℕ) → e s l a ≡ None) → edge_count e l ≡ 0
unfolding edge_count
counts_none e l h = none_counted (ends e l) (λ i k.
    let w = all_ends e l i k in
    true≢false (sym k ∙ ap (λ j. is_some (get_or (ends e l) j None)) (sym w.4) ∙ ap is_some (ends_at e l w.0 w.1 w.2 w.3 ∙ h w.0 w.1)))
