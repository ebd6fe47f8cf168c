-- Open blocks by their layout alone: whatever the answers, none is broken and at most 128 are open.
use Rattle.std.proofs.Common.{◌≡◌, ℕ, suc, ◌+◌, ◌*◌, ◌<◌, ◌≤◌, Bool, true, false, cond, eqb, List, [], ◌∷◌, length, get_or, refl, arith, lit<, lit≤}
use Rattle.rules.specs.Keys.{LaidOut}
use Rattle.rules.specs.Script.{Block, Command, Scope, Script, ask, command, cue, dec, fail, first, no_block, no_part, repeat, run, send, store}
use Rattle.rules.proofs.Derived.{Laid, block_laid, first_laid}
use Rattle.rules.proofs.Scripts.{ScriptSo, scope_at, lower}
use Rattle.machine.specs.Dialogue.{Dialogue, done, tells}
use Rattle.machine.specs.Player.{Frame, Player}
use Rattle.machine.specs.Steps.{opened, run_command, unwound}

-- One block

-- what is left of a block of a part, with n open blocks below it: part numbers fall and depths rise along the open blocks
pub record Placed (s : Script) (b : Block) (n : ℕ) : Type 0 where
  pub part : ℕ
  pub depth : ℕ
  pub number : part < length s.parts
  pub deep : depth ≤ 8
  pub high : suc n + 8 * suc part ≤ 8 * length s.parts + depth
  pub laid : LaidOut (scope_at s part) depth b

pub placed_few : (s : Script) (b : Block) (n : ℕ) → ScriptSo s → Placed s b n → suc n ≤ 128
placed_few s b n so o = omega (arith, so.few, o.number, o.deep, o.high)

-- the rest of it
abbrev pub placed_rest : (s : Script) (b : Block) (n : ℕ) (o : Placed s b n) (rest : Block) → LaidOut (scope_at s o.part) o.depth rest → Placed s rest n
placed_rest s b n o rest l = record { part = o.part; depth = o.depth; number = o.number; deep = o.deep; high = o.high; laid = l }

-- a block of its command
abbrev pub placed_inner : (s : Script) (b : Block) (n : ℕ) (o : Placed s b n) (inner : Block) → o.depth < 8 → LaidOut (scope_at s o.part) (suc o.depth) inner → Placed s inner (suc n)
placed_inner s b n o inner room l = record { part = o.part; depth = suc o.depth; number = o.number; deep = room; high = omega (arith, o.high); laid = l }

-- a part that it runs
abbrev pub placed_part : (s : Script) → ScriptSo s → (b : Block) (n : ℕ) (o : Placed s b n) (p : ℕ) → p < o.part → Placed s (get_or s.parts p no_part).body (suc n)
placed_part s so b n o p lt = record {
  part = p;
  depth = 1;
  number = omega (arith, lt, o.number);
  deep = lit≤ tt;
  high = omega (arith, lt, o.deep, o.high);
  laid = so.laid p (omega (arith, lt, o.number));
}

-- the body of the last part
abbrev pub placed_main : (s : Script) → ScriptSo s → (k : ℕ) → suc k ≡ length s.parts → Placed s (get_or s.parts k no_part).body 0
placed_main s so k last = record {
  part = k;
  depth = 1;
  number = omega (arith, last);
  deep = lit≤ tt;
  high = omega (arith, last);
  laid = so.laid k (omega (arith, last));
}

-- All of them

abbrev pub Open : Script → List Frame → Type 0
Open s [] = Unit {0}
Open s (f ∷ fs) = Placed s f.block (length fs) × Open s fs

pub open_few : (s : Script) (fs : List Frame) → ScriptSo s → Open s fs → length fs ≤ 128
open_few s [] so o = omega arith
open_few s (f ∷ fs) so o = placed_few s f.block (length fs) so o.0

pub open_unwound : (s : Script) (fs : List Frame) → Open s fs → Open s (unwound fs)
open_unwound s [] o = tt
open_unwound s (f ∷ fs) o = by f.block.bytes (open_unwound s fs o.1)
  where
    by : (bs : List ℕ) → Open s (unwound fs) → Open s (elim bs [ [] ↦ unwound fs | b ∷ bs ↦ f ∷ fs ])
    by [] ih = ih
    by (b ∷ bs) ih = o

-- whatever the answers
abbrev pub Always : {X : Type 0} → (X → Type 0) → Dialogue X → Type 0
Always P (done x) = P x
Always P (tells i l k) = (a : ℕ) → Always P (k a)

module _ (p : Player) (so : ScriptSo p.script) (f : Frame) (fs : List Frame) (o : Open p.script (f ∷ fs)) (rest : Block) where
  abbrev s : Script
  s = p.script

  abbrev d : ℕ
  d = o.0.depth

  abbrev X : Scope
  X = scope_at s o.0.part

  past : LaidOut X d rest → Open s (opened rest f.ports fs)
  past l = (placed_rest s f.block (length fs) o.0 rest l, o.1)

  opens_by : (c : Command) → Laid X d c rest →
      Always (λ v. (v.1.script ≡ s) × Open s v.1.frames) (run_command p f.block.place f.ports (f ∷ fs) (opened rest f.ports fs) c)
  opens_by (send h l r) la = λ a. (refl, past la.3)
  opens_by (ask h l bs) la = λ a. (refl, (placed_inner s f.block (length fs) o.0 (get_or bs a no_block) la.1 (block_laid X (suc d) bs a la.2), past la.3))
  opens_by (repeat r b) la = (refl, by (eqb (get_or p.registers r 0) 0))
    where
      by : (z : Bool) → Open s (cond z (opened rest f.ports fs) (opened b f.ports (f ∷ fs)))
      by true = past la.3
      by false = (placed_inner s f.block (length fs) o.0 b la.1 (la.2 0 (lit< tt)), o)
  opens_by (run q bs) la =
      let before : q < o.0.part = (lower s o.0.part q la.0.0).0 in
      (refl, (placed_part s so f.block (length fs) o.0 q before, past la.3))
  opens_by (store r x) la = (refl, past la.3)
  opens_by (dec r) la = (refl, past la.3)
  opens_by (cue n) la = (refl, past la.3)
  opens_by (fail c) la = (refl, past la.3)

  -- the first command of the top block
  pub opens : (c : Command) → first f.block ≡ command c rest →
      Always (λ v. (v.1.script ≡ s) × Open s v.1.frames) (run_command p f.block.place f.ports (f ∷ fs) (opened rest f.ports fs) c)
  opens c e = opens_by c (first_laid X c rest o.0.laid e)
