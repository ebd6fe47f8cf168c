-- What the words of a command line ask for.
use Rattle.std.specs.Prelude.{ℕ, cond, List, [], ◌∷◌, map, string_bytes, Some, None, codes, Option}
use Rattle.std.specs.Str.{bytes_eq}
use Rattle.surtitle.specs.declared.request.Request.{Request}
use Rattle.surtitle.specs.declared.request.Request.TheVariants.{Answer, Check, Play, Evening}

-- a book is checked alone, or a script over it too; a script is played on a rig of devices
pub data Asked : Type 0 where
  answers : Asked
  checks : List ℕ → Option (List ℕ) → Asked
  plays : List ℕ → List ℕ → List (List ℕ) → Asked
  performs : Asked
  misused : Asked

abbrev pub asked : Option Request → Asked
asked (Some Answer) = answers
asked (Some (Check book None)) = checks book.now None
asked (Some (Check book (Some script))) = checks book.now (Some script.now)
asked (Some (Play book script devices)) = plays book.now script.now (map string_bytes devices.now)
asked (Some Evening) = performs
asked None = misused

-- by what follows the word

abbrev pub check_of : List (List ℕ) → Asked
check_of [] = misused
check_of (book ∷ []) = checks book None
check_of (book ∷ script ∷ []) = checks book (Some script)
check_of (book ∷ script ∷ more ∷ rest) = misused

abbrev pub play_of : List (List ℕ) → Asked
play_of [] = misused
play_of (book ∷ []) = misused
play_of (book ∷ script ∷ []) = misused
play_of (book ∷ script ∷ device ∷ devices) = plays book script (device ∷ devices)

abbrev pub evening_of : List (List ℕ) → Asked
evening_of [] = performs
evening_of (more ∷ rest) = misused

-- the first word is the program's own name
abbrev pub asked_of : List (List ℕ) → Asked
asked_of [] = answers
asked_of (name ∷ []) = answers
asked_of (name ∷ word ∷ rest) =
    cond (bytes_eq word (codes "check")) (check_of rest)
    (cond (bytes_eq word (codes "play")) (play_of rest)
    (cond (bytes_eq word (codes "evening")) (evening_of rest) misused))
