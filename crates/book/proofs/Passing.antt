-- Bytes that declare lawful kinds pass the check.
use Rattle.std.proofs.Common.{◌≡◌, ℕ, zero, suc, ◌+◌, ◌<◌, ◌≤◌, ◌&&◌, eqb, ltb, leb, List, [], ◌∷◌, ◌++◌, map, length, Ok, Result, sym, refl, ap, ◌∙◌, subst, append_assoc, arith, length-append}
use lib.ListN.{length-map}
use Rattle.faults.specs.declared.fault.Fault.{Fault}
use Rattle.faults.specs.Results.{◌>>=◌}
use Rattle.faults.proofs.Results.{met, follows}
use Rattle.protocol.specs.Lists.{Each}
use Rattle.protocol.proofs.Tests.{and_true, equal_numbers, is_less, is_at_most}
use Rattle.book.specs.Kinds.{Kind}
use Rattle.book.specs.Commands.{commands}
use Rattle.book.specs.Reading.{Draft, start, drafted, closed, open_kind, declare_all, read_book}
use Rattle.book.specs.Lawful.{Item, edge, retreat, items_bytes, kinds_bytes, kind_in, LawfulKind, Declares, BookDecides}
use Rattle.book.proofs.Entering.{lawful_entered, joined, add, added, added_joined, item_enters}
use Rattle.book.proofs.Closing.{opened, closed_is}
use Rattle.book.proofs.Passed.{passed_declares}

-- the bytes of the rest of a kind, where so many are closed, and of later kinds
abbrev rest_bytes : ℕ → List Item → List (List Item) → List ℕ
rest_bytes n is iss = items_bytes is ++ kinds_bytes (suc n) iss

-- they pass, where they are so many at most
abbrev Passes : ℕ → Type 0
Passes n = (at : ℕ) (is : List Item) (iss : List (List Item)) (ks : List Kind) (d : Draft) → length (rest_bytes (length ks) is iss) ≤ n → length ks + suc (length iss) ≤ 8 →
    LawfulKind (joined (drafted d) (kind_in is)) → Each LawfulKind (map kind_in iss) →
    declare_all (opened ks d) (commands n at (rest_bytes (length ks) is iss)) ≡ Ok (ks ++ (joined (drafted d) (kind_in is) ∷ map kind_in iss))

module _ (n : ℕ) (ih : Passes n) where
  -- an item is added, and the rest passes
  item_passes : (at at' : ℕ) (i : Item) (is : List Item) (iss : List (List Item)) (ks : List Kind) (d : Draft) → length (rest_bytes (length ks) is iss) ≤ n → length ks + suc (length iss) ≤ 8 →
      LawfulKind (joined (drafted d) (kind_in (i ∷ is))) → Each LawfulKind (map kind_in iss) →
      (add d at i >>= (λ d'. Ok (opened ks d')) >>= (λ y. declare_all y (commands n at' (rest_bytes (length ks) is iss)))) ≡ Ok (ks ++ (joined (drafted d) (kind_in (i ∷ is)) ∷ map kind_in iss))
  item_passes at at' i is iss ks d le few l more =
      ap (λ (v : Result Draft Fault). v >>= (λ d'. Ok (opened ks d')) >>= (λ y. declare_all y (commands n at' (rest_bytes (length ks) is iss)))) (item_enters d at i is (lawful_entered _ l))
      ∙ ih at' is iss ks (added d at i) le few (subst LawfulKind (sym (added_joined d at i is)) l) more
      ∙ ap (λ (k : Kind). Ok (ks ++ (k ∷ map kind_in iss))) (added_joined d at i is)

  -- a kind begins, and the rest passes
  kind_passes : (at : ℕ) (is : List Item) (iss : List (List Item)) (ks : List Kind) → length (rest_bytes (length ks) is iss) ≤ n → length ks + suc (length iss) ≤ 8 →
      LawfulKind (kind_in is) → Each LawfulKind (map kind_in iss) →
      (open_kind ks at (length ks ∷ []) >>= (λ y. declare_all y (commands n (at + 2) (rest_bytes (length ks) is iss)))) ≡ Ok (ks ++ (kind_in is ∷ map kind_in iss))
  kind_passes at is iss ks le few l more =
      let d : Draft = record { place = at; edges = []; retreats = [] } in
      let room : length ks < 8 = omega arith in
      follows (λ y. declare_all y (commands n (at + 2) (rest_bytes (length ks) is iss)))
      (met (eqb (length ks) (length ks) && ltb (length ks) 8) _ (λ _. Ok (opened ks d)) (and_true (equal_numbers refl) (is_less room)))
      ∙ ih (at + 2) is iss ks d le few l more

  -- a kind closes before it
  next_passes : (at : ℕ) (is : List Item) (iss : List (List Item)) (ks : List Kind) (d : Draft) → length (rest_bytes (suc (length ks)) is iss) ≤ n → length ks + suc (suc (length iss)) ≤ 8 →
      LawfulKind (joined (drafted d) (kind_in [])) → LawfulKind (kind_in is) → Each LawfulKind (map kind_in iss) →
      (closed (opened ks d) >>= (λ ks'. open_kind ks' at (suc (length ks) ∷ [])) >>= (λ y. declare_all y (commands n (at + 2) (rest_bytes (suc (length ks)) is iss))))
      ≡ Ok (ks ++ (joined (drafted d) (kind_in []) ∷ kind_in is ∷ map kind_in iss))
  next_passes at is iss ks d le few l l' more =
      let ks' : List Kind = ks ++ (joined (drafted d) (kind_in []) ∷ []) in
      let count : length ks' ≡ suc (length ks) = omega (arith, length-append ks (joined (drafted d) (kind_in []) ∷ [])) in
      ap (λ (v : Result (List Kind) Fault). v >>= (λ ks'. open_kind ks' at (suc (length ks) ∷ [])) >>= (λ y. declare_all y (commands n (at + 2) (rest_bytes (suc (length ks)) is iss)))) (closed_is ks d l)
      ∙ ap (λ (v : ℕ). open_kind ks' at (v ∷ []) >>= (λ y. declare_all y (commands n (at + 2) (rest_bytes v is iss)))) (sym count)
      ∙ kind_passes at is iss ks' (subst (λ v. length (rest_bytes v is iss) ≤ n) (sym count) le) (omega (arith, count, few)) l' more
      ∙ ap (λ (v : List Kind). Ok v) (append_assoc ks (joined (drafted d) (kind_in []) ∷ []) (kind_in is ∷ map kind_in iss))

passes : (n : ℕ) → Passes n
passes zero at [] [] ks d le few l more = closed_is ks d l
passes zero at [] (is ∷ iss) ks d le few l more = absurd (omega arith)
passes zero at (edge e ∷ is) iss ks d le few l more = absurd (omega arith)
passes zero at (retreat r ∷ is) iss ks d le few l more = absurd (omega arith)
passes (suc n) at [] [] ks d le few l more = closed_is ks d l
passes (suc n) at [] (is ∷ iss) ks d le few l more = next_passes n (passes n) at is iss ks d (omega arith) few l more.0 more.1
passes (suc n) at (edge e ∷ is) iss ks d le few l more = item_passes n (passes n) at (at + 5) (edge e) is iss ks d (omega arith) few l more
passes (suc n) at (retreat r ∷ is) iss ks d le few l more = item_passes n (passes n) at (at + 4) (retreat r) is iss ks d (omega arith) few l more

from_start : (iss : List (List Item)) → length iss ≤ 8 → Each LawfulKind (map kind_in iss) →
    declare_all start (commands (length (kinds_bytes 0 iss)) 0 (kinds_bytes 0 iss)) ≡ Ok (map kind_in iss)
from_start [] few l = refl
from_start (is ∷ iss) few l =
    let n : ℕ = suc (length (rest_bytes 0 is iss)) in
    kind_passes n (passes n) 0 is iss [] (omega arith) (omega arith) l.0 l.1

declared_passes : (bs : List ℕ) (ks : List Kind) → Declares bs ks → read_book bs ≡ Ok ks
declared_passes bs ks x =
    let few : length x.items ≤ 8 = omega (arith, ap length x.kinds, length-map x.items kind_in, x.few) in
    met (leb (length bs) 8192) _ _ (is_at_most x.short)
    ∙ ap (λ (v : List ℕ). declare_all start (commands (length v) 0 v)) x.written
    ∙ from_start x.items few (subst (Each LawfulKind) x.kinds x.lawful)
    ∙ ap (λ (v : List Kind). Ok v) (sym x.kinds)

pub decides : BookDecides
decides bs ks = (passed_declares bs ks, declared_passes bs ks)
