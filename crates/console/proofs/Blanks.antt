-- Blanks between digits.
use Rattle.std.proofs.Common.{◌≡◌, ℕ, Bool, true, false, not, cond, ◌+◌, ◌<◌, ◌≤◌, ◌-◌, List, [], ◌∷◌, length, take, drop, get_or, refl, sym, ap, ◌∙◌}
use Rattle.std.proofs.lemmas.List.{drop_all, drop-drop, drop_more, take_rest}
use Rattle.std.specs.List.{prefix_len}
use Rattle.console.specs.Words.{after_blanks, is_blank, no_blanks}

-- a line from its first byte that is no blank, without the blanks behind that
abbrev pub kept : List ℕ → List ℕ
kept [] = []
kept (c ∷ cs) = c ∷ no_blanks cs

by_first : (c : ℕ) (cs : List ℕ) (blank : Bool) → no_blanks cs ≡ kept (after_blanks cs) →
    cond (not blank) (c ∷ no_blanks cs) (no_blanks cs) ≡ kept (drop (cond blank (1 + prefix_len is_blank cs) 0) (c ∷ cs))
by_first c cs true same = same ∙ ap kept (drop-drop (prefix_len is_blank cs) 1 (c ∷ cs))
by_first c cs false same = refl

pub skipped : (bs : List ℕ) → no_blanks bs ≡ kept (after_blanks bs)
skipped [] = refl
skipped (c ∷ cs) = by_first c cs (is_blank c) (skipped cs)

-- from a place on, the first byte that is no blank stands behind the blanks there, if anywhere
module _ (bs : List ℕ) (n at : ℕ) (first : at ≡ n + prefix_len is_blank (take (length bs - n) (drop n bs))) where
  from_first : no_blanks (drop n bs) ≡ kept (drop at bs)
  from_first =
      skipped (drop n bs) ∙ ap kept (drop-drop (prefix_len is_blank (drop n bs)) n bs)
      ∙ ap (λ ds. kept (drop (n + prefix_len is_blank ds) bs)) (sym (take_rest bs n)) ∙ ap (λ k. kept (drop k bs)) (sym first)

  pub next_none : length bs ≤ at → no_blanks (drop n bs) ≡ []
  next_none past = from_first ∙ ap kept (drop_all at bs past)

  pub next_some : at < length bs → no_blanks (drop n bs) ≡ get_or bs at 0 ∷ no_blanks (drop (at + 1) bs)
  next_some within = from_first ∙ ap kept (drop_more bs at 0 within)
