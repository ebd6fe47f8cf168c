-- The laws of the check of a block: by its first command and the rest.
use Rattle.std.proofs.Common.{◌≡◌, ℕ, suc, ◌+◌, ◌<◌, true, false, List, ◌∷◌, ◌++◌, length, get_or, drop, None, Ok, Err, Option, Result, sym, ap, ◌∙◌, true≢false, arith, drop-cons, drop-drop}
use Rattle.faults.specs.declared.fault.Fault.{Fault}
use Rattle.faults.specs.declared.causes.LayoutCause.TheVariants.{BadCommand, OutOfRange, TooDeep}
use Rattle.faults.specs.declared.causes.KeyCause.TheVariants.{NotAllowed, UndeclaredBlock, EndsDiffer, BodyEnd}
use Rattle.faults.specs.Numbers.{layout_fault, key_fault}
use Rattle.faults.specs.Results.{◌>>=◌, need}
use Rattle.faults.proofs.Results.{follows, met}
use Rattle.protocol.specs.Tables.{allowed, successors}
use Rattle.rules.specs.Lists.{same}
use Rattle.rules.specs.Script.{Block, Command, Read, broken, nothing, command, first, Scope, Keys, at, table_at, in_range, depth_fits, send, ask, repeat, run, store, dec, cue, fail}
use Rattle.rules.specs.Check.{Checks, branches, check_body, check_read, check_whole, command_keys, join, or_fault, undeclared_empty}
use Rattle.rules.proofs.Fuel.{unrolls}
use Rattle.script.specs.declared.command.Command as code
use Rattle.script.specs.Commands.{in_range_so, said}
use Rattle.script.specs.Walk.{allowed_at, ask_keys, block_keys, branch_ends, command_after}
use Rattle.script.proofs.Turns.{needed_first, unmet, stops as carried}

module _ (x : Scope) (d : ℕ) (b : Block) (ks : Keys) where
  unrolled : (q : Read) → first b ≡ q → block_keys x d b ks ≡ check_read (check_whole x (suc d)) (check_whole x d) x d b ks q
  unfolding block_keys
  unrolled q e = unrolls x d b ks ∙ ap (check_read (check_whole x (suc d)) (check_whole x d) x d b ks) e

  pub at_end : first b ≡ nothing → block_keys x d b ks ≡ Ok ks
  at_end e = unrolled nothing e

  pub unread : first b ≡ broken → block_keys x d b ks ≡ Err (layout_fault BadCommand b.place)
  unread e = unrolled broken e

  pub stops : (c : Command) (rest : Block) (f : Fault) → first b ≡ command c rest → command_after x d b.place c ks ≡ Err f → block_keys x d b ks ≡ Err f
  unfolding block_keys command_after
  stops c rest f e r = unrolled (command c rest) e ∙ ap (λ (v : Result Keys Fault). v >>= (λ k. check_whole x d rest k)) r

  pub goes_on : (c : Command) (rest : Block) (ks' : Keys) → first b ≡ command c rest → command_after x d b.place c ks ≡ Ok ks' → block_keys x d b ks ≡ block_keys x d rest ks'
  unfolding block_keys command_after
  goes_on c rest ks' e r = unrolled (command c rest) e ∙ ap (λ (v : Result Keys Fault). v >>= (λ k. check_whole x d rest k)) r

-- Bodies

pub body_ends : (x : Scope) (b : Block) (r : Result Keys Fault) → b ≡ x.running.body → block_keys x 1 b x.running.ins ≡ r →
    check_body x ≡ (r >>= (λ end. need (same end x.running.outs) (key_fault BodyEnd x.running.place)))
unfolding block_keys
body_ends x b r e q =
    ap (λ (v : Result Keys Fault). v >>= (λ end. need (same end x.running.outs) (key_fault BodyEnd x.running.place)))
    (sym (ap (λ (v : Block). check_whole x 1 v x.running.ins) e) ∙ q)

-- Commands

module _ (x : Scope) (d place : ℕ) (c : Command) (ks : Keys) where
  pub out_of_range : in_range x c ≡ false → command_after x d place c ks ≡ Err (layout_fault OutOfRange place)
  unfolding command_after
  out_of_range e = ap (λ b. need b (layout_fault OutOfRange place) >>= (λ _. need (depth_fits d c) (layout_fault TooDeep place) >>= (λ _. command_keys (block_keys x (suc d)) x place c ks))) e

  pub too_deep : in_range x c ≡ true → depth_fits d c ≡ false → command_after x d place c ks ≡ Err (layout_fault TooDeep place)
  unfolding command_after
  too_deep e f =
      met (in_range x c) (layout_fault OutOfRange place) _ e
      ∙ ap (λ b. need b (layout_fault TooDeep place) >>= (λ _. command_keys (block_keys x (suc d)) x place c ks)) f

  pub in_place : in_range x c ≡ true → depth_fits d c ≡ true → command_after x d place c ks ≡ command_keys (block_keys x (suc d)) x place c ks
  unfolding command_after
  in_place e f = met (in_range x c) (layout_fault OutOfRange place) _ e ∙ met (depth_fits d c) (layout_fault TooDeep place) _ f

-- Once the letter is allowed

module _ (check : Checks) (x : Scope) (place h l : ℕ) (ks : Keys) where
  abbrev pub asked : List Block → List (Option ℕ) → Result Keys Fault
  asked bs ts = need (undeclared_empty ts bs) (key_fault UndeclaredBlock place) >>= (λ _. branches check ks h ts bs >>= (λ ends. or_fault (join ends) (key_fault EndsDiffer place)))

  pub after_allowed_ask : (bs : List Block) → command_keys check x place (ask h l bs) ks ≡ (allowed_at x place h l ks >>= asked bs)
  after_allowed_ask bs = needed_first (allowed (table_at x h) (at ks h) l) (key_fault NotAllowed place) (successors (table_at x h) (at ks h) l) (asked bs)

-- a command of the code that is in range
pub so : (x : Scope) (c v : code.Command) → c ≡ v → in_range_so x (said c) ≡ true → in_range_so x (said v) ≡ true
so x c v e r = sym (ap (λ (w : code.Command). in_range_so x (said w)) e) ∙ r

pub not_so : (x : Scope) (c : Command) → in_range_so x c ≡ false → in_range x c ≡ false
not_so x (send h l r) e = e
not_so x (ask h l bs) e = e
not_so x (repeat r b) e = e
not_so x (run p bs) e = absurd (true≢false e)
not_so x (store r v) e = e
not_so x (dec r) e = e
not_so x (cue n) e = e
not_so x (fail n) e = e

module _ (x : Scope) (d place : ℕ) (ks : Keys) (c v : code.Command) (e : c ≡ v) (fits : in_range x (said v) ≡ true) where
  r : in_range x (said c) ≡ true
  r = ap (λ (w : code.Command). in_range x (said w)) e ∙ fits

  pub stands_too_deep : depth_fits d (said v) ≡ false → command_after x d place (said c) ks ≡ Err (layout_fault TooDeep place)
  stands_too_deep f = too_deep x d place (said c) ks r (ap (λ (w : code.Command). depth_fits d (said w)) e ∙ f)

  pub settled : depth_fits d (said v) ≡ true → command_after x d place (said c) ks ≡ command_keys (block_keys x (suc d)) x place (said v) ks
  settled f =
      in_place x d place (said c) ks r (ap (λ (w : code.Command). depth_fits d (said w)) e ∙ f)
      ∙ ap (λ (w : code.Command). command_keys (block_keys x (suc d)) x place (said w) ks) e

-- an ASK whose answers lead there, and whose blocks are these
module _ (x : Scope) (d place h l : ℕ) (ks : Keys) (ts : List (Option ℕ)) (bs all : List Block) (same_blocks : bs ≡ all) (e : Ok ts ≡ allowed_at x place h l ks) where
  is_asked : ask_keys x d place h l all ks ≡ asked (block_keys x d) x place h l ks bs ts
  is_asked =
      after_allowed_ask (block_keys x d) x place h l ks all ∙ follows (asked (block_keys x d) x place h l ks all) (sym e)
      ∙ ap (λ v. asked (block_keys x d) x place h l ks v ts) (sym same_blocks)

  pub not_spare : undeclared_empty ts bs ≡ false → ask_keys x d place h l all ks ≡ Err (key_fault UndeclaredBlock place)
  not_spare f = is_asked ∙ unmet (undeclared_empty ts bs) (key_fault UndeclaredBlock place) _ f

  module _ (spare : undeclared_empty ts bs ≡ true) where
    goes_in : ask_keys x d place h l all ks ≡ (branch_ends x d h ts bs ks >>= (λ ends. or_fault (join ends) (key_fault EndsDiffer place)))
    goes_in = is_asked ∙ met (undeclared_empty ts bs) (key_fault UndeclaredBlock place) _ spare

    pub branch_fails : (f : Fault) → branch_ends x d h ts bs ks ≡ Err f → ask_keys x d place h l all ks ≡ Err f
    branch_fails f r = goes_in ∙ carried _ r

    pub branches_end : (ends : List Keys) → branch_ends x d h ts bs ks ≡ Ok ends → ask_keys x d place h l all ks ≡ or_fault (join ends) (key_fault EndsDiffer place)
    branches_end ends r = goes_in ∙ follows (λ ends. or_fault (join ends) (key_fault EndsDiffer place)) r

-- Branches

module _ (check : Checks) (ks : Keys) (h : ℕ) where
  -- behind those whose blocks end so
  abbrev pub behind : List Keys → List (Option ℕ) → List Block → Result (List Keys) Fault
  behind ends ts bs = branches check ks h ts bs >>= (λ more. Ok (ends ++ more))

  -- an answer that is not declared has no branch
  pub undeclared : (ends : List Keys) (to : List (Option ℕ)) (bs : List Block) (n m : ℕ) → n < length to → get_or to n None ≡ None → m ≡ n + 1 → behind ends (drop n to) (drop n bs) ≡ behind ends (drop m to) (drop m bs)
  undeclared ends to bs n m lt e f =
      let z : suc n ≡ m = omega (arith, f) in
      let rest : drop n to ≡ None ∷ drop m to = drop-cons to n None lt ∙ (λ i. e i ∷ drop (z i) to) in
      (λ i. behind ends (rest i) (drop n bs)) ∙ ap (behind ends (drop m to)) (drop-drop 1 n bs ∙ ap (λ (k : ℕ). drop k bs) (sym f))
