-- Tables that agree: at each station, letter and answer, and letter by letter.
use Rattle.std.proofs.Common.{◌≡◌, ℕ, ◌<◌, Bool, true, false, Some, None, Option, sym, refl, ap, ◌∙◌, true≢false}
use Rattle.protocol.specs.Lists.{all, from}
use Rattle.protocol.specs.Tables.{Table, same_option, same_answers, same_table, same_letter}
use Rattle.protocol.proofs.Tests.{same_number, equal_numbers, is_false}
use Rattle.protocol.proofs.Rows.{below, all_below}

pub same_option_is : (x y : Option ℕ) → same_option x y ≡ true → x ≡ y
same_option_is None None e = refl
same_option_is None (Some y) e = absurd (true≢false (sym e))
same_option_is (Some x) None e = absurd (true≢false (sym e))
same_option_is (Some x) (Some y) e = ap Some (same_number x y e)

pub is_same_option : (x y : Option ℕ) → x ≡ y → same_option x y ≡ true
is_same_option x y e = ap (λ v. same_option x v) (sym e) ∙ self x
  where
    self : (v : Option ℕ) → same_option v v ≡ true
    self None = refl
    self (Some n) = equal_numbers refl

-- tests that pass together are one
pub same_tests : (b c : Bool) → (b ≡ true → c ≡ true) → (c ≡ true → b ≡ true) → b ≡ c
same_tests true c f g = sym (f refl)
same_tests false c f g = sym (is_false c (λ e. true≢false (sym (g e))))

module _ (e : Table) (l : ℕ) (f : Table) (m : ℕ) where
  pub letter_same : same_letter e l f m ≡ true → (s a : ℕ) → s < 16 → a < 4 → e s l a ≡ f s m a
  unfolding same_letter
  letter_same ok s a sl al = same_option_is (e s l a) (f s m a) (below (λ x. same_option (e s l x) (f s m x)) 4 a (below (same_answers e l f m) 16 s ok sl) al)

  pub same_letter_so : ((s a : ℕ) → s < 16 → a < 4 → e s l a ≡ f s m a) → same_letter e l f m ≡ true
  unfolding same_letter
  same_letter_so h = all_below (same_answers e l f m) 16 (λ s sl. all_below (λ a. same_option (e s l a) (f s m a)) 4 (λ a al. is_same_option (e s l a) (f s m a) (h s a sl al)))

  pub all_answers_same : all (same_answers e l f m) (from 0 16) ≡ same_letter e l f m
  unfolding same_letter
  all_answers_same = refl

pub letters_alike : (e g : Table) (l k : ℕ) (f : Table) (m : ℕ) → ((s a : ℕ) → e s l a ≡ g s k a) → same_letter e l f m ≡ same_letter g k f m
unfolding same_letter
letters_alike e g l k f m h i = all (λ s. all (λ a. same_option (h s a i) (f s m a)) (from 0 4)) (from 0 16)

module _ (e f : Table) where
  pub table_same : same_table e f ≡ true → (s l a : ℕ) → s < 16 → l < 16 → a < 4 → e s l a ≡ f s l a
  unfolding same_table
  table_same ok s l a sl ll al = same_option_is (e s l a) (f s l a)
      (below (λ x. same_option (e s l x) (f s l x)) 4 a
      (below (λ y. all (λ x. same_option (e s y x) (f s y x)) (from 0 4)) 16 l
      (below (λ z. all (λ y. all (λ x. same_option (e z y x) (f z y x)) (from 0 4)) (from 0 16)) 16 s ok sl) ll) al)

  -- two tables are one where they have the edges of each letter
  pub letter_by_letter : all (λ l. same_letter e l f l) (from 0 16) ≡ same_table e f
  unfolding same_table
  letter_by_letter = same_tests _ _
      (λ ok. all_below _ 16 (λ s sl. all_below _ 16 (λ l ll. all_below (λ a. same_option (e s l a) (f s l a)) 4 (λ a al.
      is_same_option (e s l a) (f s l a) (letter_same e l f l (below (λ k. same_letter e k f k) 16 l ok ll) s a sl al)))))
      (λ ok. all_below _ 16 (λ l ll. same_letter_so e l f l (λ s a sl al. table_same ok s l a sl ll al)))

pub tables_alike : (e f g : Table) → ((s l a : ℕ) → f s l a ≡ g s l a) → same_table e f ≡ same_table e g
tables_alike e f g h i = same_table e (λ s l a. h s l a i)
