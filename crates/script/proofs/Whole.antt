-- The check of a whole script, from those of its length, its parts and main.
use Rattle.std.proofs.Common.{◌≡◌, ℕ, ◌≤◌, leb, List, [], map, length, Ok, Err, Result, sym, ap, ◌∙◌}
use Rattle.faults.specs.declared.fault.Fault.{Fault}
use Rattle.faults.specs.declared.causes.LayoutCause.TheVariants.{TooLong}
use Rattle.faults.specs.declared.causes.KeyCause.TheVariants.{MainHeld}
use Rattle.faults.specs.Numbers.{nowhere, layout_fault, key_fault}
use Rattle.faults.specs.Results.{◌>>=◌, need}
use Rattle.faults.proofs.Results.{follows, met}
use Rattle.protocol.proofs.Tests.{is_at_most}
use Rattle.book.specs.Kinds.{Kind}
use Rattle.rules.specs.Script as rules
use Rattle.rules.specs.Script.{main_of}
use Rattle.rules.specs.Check.{main_away, check_parts, check_script}
use Rattle.script.specs.declared.part.Part.{Part}
use Rattle.script.specs.Parts.{shown}
use Rattle.script.specs.Scripts.{check_main}
use Rattle.script.proofs.Turns.{stops}
use Rattle.script.proofs.Mains.{main_shown}

module _ (book : List Kind) (bs : List ℕ) (short : length bs ≤ 16384) where
  abbrev all_parts : Result (List rules.Part) Fault
  all_parts = check_parts 17 book [] 0 bs

  abbrev with_main : List rules.Part → Result rules.Script Fault
  with_main ps = need (main_away ps) (key_fault MainHeld (main_of ps).place) >>= (λ _. Ok (record { book = book; parts = ps }))

  not_too_long : check_script book bs ≡ (all_parts >>= with_main)
  not_too_long = met (leb (length bs) 16384) (layout_fault TooLong nowhere) (λ _. all_parts >>= with_main) (is_at_most short)

  -- the slice holds the parts
  module _ (slice ps : List Part) (same : slice ≡ ps) (r : all_parts ≡ Ok (map (shown bs) ps)) where
    to_main : {c : Result (Unit {0}) Fault} → c ≡ check_main slice → need (main_away (map (shown bs) ps)) (key_fault MainHeld (main_of (map (shown bs) ps)).place) ≡ c
    to_main e = sym (main_shown bs ps) ∙ sym (e ∙ ap check_main same)

    pub main_fails : (e : Fault) → Err e ≡ check_main slice → check_script book bs ≡ Err e
    main_fails e c = not_too_long ∙ follows with_main r ∙ stops _ (to_main c)

    pub all_passes : Ok tt ≡ check_main slice → check_script book bs ≡ Ok (record { book = book; parts = map (shown bs) ps })
    all_passes c = not_too_long ∙ follows with_main r ∙ follows _ (to_main c)
