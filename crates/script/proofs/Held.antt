-- What is known of a held script: it passed, and its parts are those of the definition.
use Rattle.std.proofs.Common.{◌≡◌, ℕ, suc, ◌-◌, List, [], ◌∷◌, map, length, Some, None, Ok, Err, Option, Result, IsOk, Bor, refl, sym, ap, ◌∙◌, subst, arith}
use Rattle.std.specs.List.{slice_get}
use Rattle.std.specs.Option.{option_copied}
use Rattle.std.proofs.lemmas.Option.{get_or_from_slice_get}
use Rattle.faults.specs.declared.fault.Fault.{Fault}
use Rattle.book.specs.Kinds.{Kind}
use Rattle.book.specs.Reading.{kinds_of, read_book}
use Rattle.rules.specs.Script as rules
use Rattle.rules.specs.Script.{main_of, no_part}
use Rattle.rules.specs.Check.{Passed, check_script}
use Rattle.rules.proofs.Decides.{decides}
use Rattle.script.specs.declared.part.Part.{Part}
use Rattle.script.specs.declared.script.Script.{Script}
use Rattle.script.specs.Held.{IsPart, book_of, parts_held, script_bytes, script_held}
use Rattle.script.specs.Parts.{Lies, shown}
use Rattle.script.specs.Scripts.{parts_of}
use Rattle.script.proofs.Looking.{found_in}

-- It passed

kinds_read : (r : Result (List Kind) Fault) → IsOk r → r ≡ Ok (kinds_of r)
kinds_read (Ok ks) o = refl
kinds_read (Err e) o = cc

-- what is read is over the book
script_read : (book : List Kind) (r : Result rules.Script Fault) → IsOk r → ((t : rules.Script) → r ≡ Ok t → t.book ≡ book) → r ≡ Ok (record { book = book; parts = parts_of r })
script_read book (Ok t) o over = λ i. Ok (record { book = over t refl i; parts = t.parts })
script_read book (Err e) o over = cc

pub script_passed : (s : Script) → Passed (script_held s)
script_passed s =
    let bytes = book_of s in
    let kinds : List Kind = kinds_of (read_book bytes) in
    let read : read_book bytes ≡ Ok kinds = kinds_read (read_book bytes) s.lawful in
    let over = λ (t : rules.Script) (e : check_script kinds (script_bytes s) ≡ Ok t). ((decides bytes kinds read (script_bytes s) t).0 e).over in
    (bytes, script_bytes s, read, script_read kinds (check_script kinds (script_bytes s)) s.passed over)

-- Its parts

abbrev shown_or_none : List ℕ → Option Part → rules.Part
shown_or_none bs None = no_part
shown_or_none bs (Some p) = shown bs p

main_last : (bs : List ℕ) (ps : List Part) → main_of (map (shown bs) ps) ≡ shown_or_none bs (slice_get ps (length ps - 1))
main_last bs [] = refl
main_last bs (p ∷ []) = refl
main_last bs (p ∷ q ∷ ps) =
    let z : suc (suc (length ps)) - 1 ≡ suc (suc (length ps) - 1) = omega arith in
    main_last bs (q ∷ ps) ∙ ap (λ (i : ℕ). shown_or_none bs (slice_get (p ∷ q ∷ ps) i)) (sym z)

-- one that is found by its number lies in the bytes
found_lies : (s : Script) (i : ℕ) (p : Part) → slice_get (parts_held s) i ≡ Some p → Lies (script_bytes s) p
found_lies s i p e = subst (Lies (script_bytes s)) (get_or_from_slice_get (parts_held s) i p p e) (s.lie i p (found_in (parts_held s) i p e))

pub main_found : (s : Script) (r : Option (Bor Part)) → option_copied r ≡ slice_get (parts_held s) (length (parts_held s) - 1) → IsPart s (main_of (script_held s).parts) r
main_found s r e =
    let last : main_of (script_held s).parts ≡ shown_or_none (script_bytes s) (option_copied r) = ap main_of (sym s.shows) ∙ main_last (script_bytes s) (parts_held s) ∙ ap (shown_or_none (script_bytes s)) (sym e) in
    elim r as (λ v. option_copied v ≡ slice_get (parts_held s) (length (parts_held s) - 1) → main_of (script_held s).parts ≡ shown_or_none (script_bytes s) (option_copied v) → IsPart s (main_of (script_held s).parts) v) [
      | None ↦ λ _ l. l
      | Some p ↦ λ f l. (l, found_lies s (length (parts_held s) - 1) p.now (sym f))
    ] e last
