-- A book, read to its end.
use Rattle.std.proofs.Common.{◌≡◌, ℕ, zero, suc, ◌+◌, ◌-◌, ◌<◌, ◌≤◌, List, [], ◌∷◌, length, drop, Err, Result, IsOkAnd, sym, refl, ap, ◌∙◌, subst, arith, length-drop, Bor}
use Rattle.faults.specs.declared.fault.Fault.{Fault}
use Rattle.faults.specs.Results.{◌>>=◌}
use Rattle.faults.proofs.Results.{follows}
use Rattle.book.specs.declared.reader.Reader.{Reader}
use Rattle.book.specs.Commands.{code_of, width, commands}
use Rattle.book.specs.Reading.{Reading, declare_all, read_book}
use Rattle.book.specs.Shown.{Reads, Took, first_code, declare_first}
use Rattle.book.proofs.Giving.{of_ok_and}

-- What is left of a book decides it

pub record Left (bytes : List ℕ) (r : Reader) (rest : List ℕ) : Type 0 where
  pub reading : Reading
  pub reads : Reads r reading
  pub limit : ℕ
  pub enough : length rest ≤ limit
  pub within : length rest ≤ length bytes
  pub short : length bytes ≤ 8192
  pub result : declare_all reading (commands limit (length bytes - length rest) rest) ≡ read_book bytes

-- the first command, and the rest
record Front (n at : ℕ) (bs : List ℕ) (x : Reading) : Type 0 where
  less : ℕ
  enough : length (drop (suc (width (first_code bs))) bs) ≤ less
  is : declare_all x (commands n at bs) ≡ (declare_first x at bs >>= (λ y. declare_all y (commands less (at + suc (width (first_code bs))) (drop (suc (width (first_code bs))) bs))))

front : (n at : ℕ) (bs : List ℕ) (x : Reading) → 0 < length bs → length bs ≤ n → Front n at bs x
front zero at bs x lt le = absurd (omega (arith, lt, le))
front (suc n) at [] x lt le = absurd (omega (arith, lt))
front (suc n) at (b ∷ bs) x lt le = record { less = n; enough = omega (arith, le, length-drop (width (code_of b)) bs); is = refl }

module _ (bytes : List ℕ) (r : Reader) (rest : List ℕ) (w : Left bytes r rest) (lt : 0 < length rest) where
  abbrev at : ℕ
  at = length bytes - length rest

  f : Front w.limit at rest w.reading
  f = front w.limit at rest w.reading lt w.enough

  pub left_on : (r' : Reader) (rest' : Bor (List ℕ)) → IsOkAnd (declare_first w.reading at rest) (Took r' (suc (width (first_code rest))) rest rest') →
      Left bytes r' rest'.now × (length rest'.now < length rest)
  left_on r' rest' g =
      let n : ℕ = suc (width (first_code rest)) in
      let y = of_ok_and (Took r' n rest rest') (declare_first w.reading at rest) g in
      let is : rest'.now ≡ drop n rest = y.2.2 in
      let fits : n ≤ length rest = y.2.1 in
      let long : length rest'.now ≡ length rest - n = ap length is ∙ length-drop n rest in
      let next : at + n ≡ length bytes - length rest'.now = omega (arith, long, fits, w.within) in (
        record {
          reading = y.0;
          reads = y.2.0;
          limit = f.less;
          enough = subst (λ l. length l ≤ f.less) (sym is) f.enough;
          within = omega (arith, long, w.within);
          short = w.short;
          result =
              (λ i. declare_all y.0 (commands f.less (sym next i) (is i)))
              ∙ sym (follows (λ z. declare_all z (commands f.less (at + n) (drop n rest))) y.1)
              ∙ sym f.is
              ∙ w.result;
        },
        omega (arith, long, fits),
      )

  pub left_fails : (e : Fault) → declare_first w.reading at rest ≡ Err e → read_book bytes ≡ Err e
  left_fails e g =
      sym w.result ∙ f.is
      ∙ ap (λ (v : Result Reading Fault). v >>= (λ y. declare_all y (commands f.less (at + suc (width (first_code rest))) (drop (suc (width (first_code rest))) rest)))) g
