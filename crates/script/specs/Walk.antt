-- The check of blocks and commands, shut: what is used of it are the laws in proofs/Walking.
use Rattle.std.specs.Prelude.{◌≡◌, ℕ, suc, List, Ok, Err, Option, Result, MatchResult}
use Rattle.arrayvec.specs.ArrayVec.{ArrayVec}
use Rattle.faults.specs.declared.fault.Fault.{Fault}
use Rattle.faults.specs.declared.causes.KeyCause.TheVariants.{NotAllowed}
use Rattle.faults.specs.Numbers.{key_fault}
use Rattle.faults.specs.Results.{◌>>=◌, need}
use Rattle.protocol.specs.Tables.{allowed, successors}
use Rattle.rules.specs.Script.{Block, Command, send, ask, repeat, Scope, Keys, at, table_at}
use Rattle.rules.specs.Check.{Checks, branches, check_command, check_whole, command_keys}

-- the keys at the end of a block at the depth
unfoldable pub block_keys : Scope → ℕ → Checks
block_keys x d b ks = check_whole x d b ks

-- the keys after a command at the depth
unfoldable pub command_after : Scope → ℕ → ℕ → Command → Keys → Result Keys Fault
command_after x d place c ks = check_command (block_keys x (suc d)) x d place c ks

-- where the answers to a letter lead, if it is allowed
abbrev pub allowed_at : Scope → ℕ → ℕ → ℕ → Keys → Result (List (Option ℕ)) Fault
allowed_at x place h l ks = do
  _ ← need (allowed (table_at x h) (at ks h) l) (key_fault NotAllowed place)
  Ok (successors (table_at x h) (at ks h) l)

-- after commands that are in range, whose blocks stand at the depth

abbrev pub send_keys : Scope → ℕ → ℕ → ℕ → Keys → Result Keys Fault
send_keys x place h l ks = command_keys (λ b k. Ok k) x place (send h l 0) ks

abbrev pub ask_keys : Scope → ℕ → ℕ → ℕ → ℕ → List Block → Keys → Result Keys Fault
ask_keys x d place h l bs ks = command_keys (block_keys x d) x place (ask h l bs) ks

abbrev pub repeat_keys : Scope → ℕ → ℕ → Block → Keys → Result Keys Fault
repeat_keys x d place b ks = command_keys (block_keys x d) x place (repeat 0 b) ks

-- at the ends of the blocks of the declared answers
abbrev pub branch_ends : Scope → ℕ → ℕ → List (Option ℕ) → List Block → Keys → Result (List Keys) Fault
branch_ends x d h ts bs ks = branches (block_keys x d) ks h ts bs

abbrev pub GivesEnds : Result (ArrayVec Keys) Fault → Result (List Keys) Fault → Type 0
GivesEnds (Ok v) q = q ≡ Ok v.items
GivesEnds (Err e) q = q ≡ Err e

-- what a call answered, and the keys that it left, are what the definition gives
abbrev pub Leaves : {X : Type 0} → Result X Fault → Keys → Result Keys Fault → Type 0
Leaves r ks q = MatchResult r (λ _. q ≡ Ok ks) (λ e. q ≡ Err e)
