-- Worked examples: a projector's book, and scripts over it that pass or are refused by number and place.
use Rattle.std.specs.Prelude.{◌≡◌, ℕ, zero, suc, List, [], ◌∷◌, ◌++◌, length, replicate, Ok, Err, Result}
use Rattle.faults.specs.declared.fault.Fault.{Fault}
use Rattle.faults.specs.Numbers.{nowhere, number_of}
use Rattle.faults.specs.Results.{◌>>=◌}
use Rattle.book.specs.Lawful.{Item, edge, retreat, kind_in, kinds_bytes}
use Rattle.book.specs.Reading.{read_book}
use Rattle.rules.specs.Check.{check_script}

-- Books

-- at station s the letter l may be answered a, and then leads to t
abbrev pub leads : ℕ → ℕ → ℕ → ℕ → Item
leads s l a t = edge (record { from = s; letter = l; answer = a; to = t })

abbrev pub retreats : ℕ → ℕ → ℕ → Item
retreats s l r = retreat (record { station = s; letter = l; rank = r })

-- letter 0 grants and letter 1 returns; the three answers to letter 3 lead to three stations
abbrev pub edges : List Item
edges =
    leads 0 0 0 1 ∷ leads 1 1 0 0 ∷ leads 1 2 0 2 ∷ leads 2 3 0 3 ∷ leads 2 3 1 2
    ∷ leads 2 3 2 1 ∷ leads 3 4 0 4 ∷ leads 4 5 0 3 ∷ leads 2 6 0 1 ∷ leads 3 6 0 1 ∷ []

-- a projector whose station 2 retreats by the letter
abbrev pub projector : ℕ → List Item
projector l = edges ++ (retreats 1 1 1 ∷ retreats 2 l 2 ∷ retreats 3 6 2 ∷ retreats 4 5 3 ∷ [])

-- the projector that retreats from station 2 by letter 6, in bytes
abbrev pub house_book : List ℕ
house_book =
    0x01 ∷ 0 ∷ 0x02 ∷ 0 ∷ 0 ∷ 0 ∷ 1 ∷ 0x02 ∷ 1 ∷ 1 ∷ 0 ∷ 0 ∷ 0x02 ∷ 1 ∷ 2 ∷ 0 ∷ 2 ∷ 0x02 ∷ 2 ∷ 3 ∷ 0 ∷ 3
    ∷ 0x02 ∷ 2 ∷ 3 ∷ 1 ∷ 2 ∷ 0x02 ∷ 2 ∷ 3 ∷ 2 ∷ 1 ∷ 0x02 ∷ 3 ∷ 4 ∷ 0 ∷ 4 ∷ 0x02 ∷ 4 ∷ 5 ∷ 0 ∷ 3
    ∷ 0x02 ∷ 2 ∷ 6 ∷ 0 ∷ 1 ∷ 0x02 ∷ 3 ∷ 6 ∷ 0 ∷ 1
    ∷ 0x03 ∷ 1 ∷ 1 ∷ 1 ∷ 0x03 ∷ 2 ∷ 6 ∷ 2 ∷ 0x03 ∷ 3 ∷ 6 ∷ 2 ∷ 0x03 ∷ 4 ∷ 5 ∷ 3 ∷ []

-- Scripts

-- a part with one handle of kind 0, and its stations in and out
abbrev pub single : ℕ → ℕ → List ℕ → List ℕ
single s t body = (0x10 ∷ 1 ∷ 0 ∷ s ∷ t ∷ []) ++ (replicate 21 0xff ++ (length body ∷ 0 ∷ body))

-- a part with two such handles
abbrev pub double : ℕ → ℕ → List ℕ → List ℕ
double s t body = (0x10 ∷ 2 ∷ 0 ∷ s ∷ t ∷ 0 ∷ s ∷ t ∷ []) ++ (replicate 18 0xff ++ (length body ∷ 0 ∷ body))

-- one part, its handle away at both ends
abbrev pub script_of : List ℕ → List ℕ
script_of body = single 0 0 body

-- so many parts of 28 bytes
abbrev pub parts : ℕ → List ℕ
parts zero = []
parts (suc n) = script_of [] ++ parts n

-- a SEND on the handle, its answer to register 0
abbrev pub say : ℕ → ℕ → List ℕ
say h l = 0x20 ∷ h ∷ l ∷ 0 ∷ []

-- an ASK on handle 0, and the lengths of its blocks for the answers 0 and 1; the others are empty
abbrev pub asked : ℕ → ℕ → ℕ → List ℕ
asked l m n = 0x21 ∷ 0 ∷ l ∷ m ∷ 0 ∷ n ∷ 0 ∷ 0 ∷ 0 ∷ 0 ∷ 0 ∷ []

-- a REPEAT while register 0 is not 0
abbrev pub again : List ℕ → List ℕ
again block = 0x23 ∷ 0 ∷ length block ∷ 0 ∷ block

-- blocks in blocks
abbrev pub nest : ℕ → List ℕ
nest zero = []
nest (suc n) = let inner : List ℕ = nest n in again inner

-- a RUN of a part with two handles, which are bound to these
abbrev pub run_with : ℕ → ℕ → ℕ → List ℕ
run_with p a b = 0x24 ∷ p ∷ a ∷ b ∷ replicate 6 0xff

-- granted, and led to station 2
abbrev pub ready : List ℕ
ready = say 0 0 ++ say 0 2

-- two granted projectors, there and back
abbrev pub both_ways : List ℕ
both_ways = double 1 1 (say 0 2 ++ say 1 2 ++ say 0 6 ++ say 1 6)

abbrev pub grant_both : List ℕ
grant_both = say 0 0 ++ say 1 0

abbrev pub return_both : List ℕ
return_both = say 0 1 ++ say 1 1

-- What the check says

-- the number and the place of a refusal, or that there is none
abbrev pub numbered : {X : Type 0} → Result X Fault → Result (Unit {0}) (ℕ × ℕ)
numbered (Ok x) = Ok tt
numbered (Err e) = Err (number_of e.cause, e.place)

abbrev pub checked : List ℕ → Result (Unit {0}) (ℕ × ℕ)
checked bs = numbered (read_book house_book >>= (λ book. check_script book bs))

abbrev pub Accepted : List ℕ → Type 0
Accepted bs = checked bs ≡ Ok tt

abbrev pub Refused : List ℕ → ℕ → ℕ → Type 0
Refused bs number place = checked bs ≡ Err (number, place)

pub record Examples : Type 0 where
  -- the house's book, and one whose retreat letter may leave a projector where it is
  pub house : read_book house_book ≡ Ok (kind_in (projector 6) ∷ [])
  pub rank_stays : numbered (read_book (kinds_bytes 0 (projector 3 ∷ []))) ≡ Err (7, 56)
  -- scripts that pass
  pub no_script : Accepted []
  pub there_and_back : Accepted (script_of (say 0 0 ++ say 0 1))
  pub each_answer : Accepted (script_of (ready ++ asked 3 4 4 ++ say 0 6 ++ say 0 6 ++ say 0 1))
  pub fails_half_way : Accepted (script_of (ready ++ (0x28 ∷ 7 ∷ []) ++ say 0 6 ++ say 0 1))
  pub counts_down : Accepted (script_of ((0x25 ∷ 0 ∷ 2 ∷ []) ++ again (0x26 ∷ 0 ∷ [])))
  pub crossed : Accepted (both_ways ++ double 0 0 (grant_both ++ run_with 0 1 0 ++ return_both))
  pub sixteen_parts : Accepted (parts 16)
  pub eight_deep : Accepted (script_of (nest 7))
  -- scripts that are not laid out
  pub too_long : Refused (replicate 16385 0) 8 nowhere
  pub no_part : Refused (script_of [] ++ (0x11 ∷ [])) 9 28
  pub seventeen_parts : Refused (parts 17) 10 448
  pub cut_short : Refused (script_of (0x20 ∷ 0 ∷ 0 ∷ [])) 11 28
  pub runs_itself : Refused (double 0 0 (run_with 0 1 0)) 12 28
  pub too_deep : Refused (script_of (nest 8)) 13 56
  -- scripts that the key rules do not derive
  pub returned_twice : Refused (script_of (say 0 0 ++ say 0 1 ++ say 0 1)) 14 36
  pub unsure : Refused (script_of (ready ++ say 0 3)) 15 36
  pub undeclared : Refused (script_of (ready ++ asked 6 0 4 ++ say 0 6)) 16 36
  pub empty_block : Refused (script_of (ready ++ asked 3 4 0 ++ say 0 6 ++ say 0 1)) 17 36
  pub grants_again : Refused (script_of (again (say 0 0))) 18 28
  pub bound_twice : Refused (both_ways ++ double 0 0 (grant_both ++ run_with 0 1 1 ++ return_both)) 19 80
  pub not_granted : Refused (both_ways ++ double 0 0 (run_with 0 1 0)) 20 72
  pub not_returned : Refused (script_of (say 0 0)) 21 0
  pub main_held : Refused (single 1 1 []) 22 0
