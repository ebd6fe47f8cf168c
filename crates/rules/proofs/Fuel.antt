-- The bound of a check does not matter above the block's length, so the check of a block unrolls.
use Rattle.std.proofs.Common.{◌≡◌, ℕ, zero, suc, ◌<◌, List, [], ◌∷◌, length, get_or, drop, set, Some, None, Ok, Option, sym, refl, ap, ◌∙◌, arith}
use Rattle.faults.specs.declared.causes.LayoutCause.TheVariants.{OutOfRange, TooDeep}
use Rattle.faults.specs.declared.causes.KeyCause.TheVariants.{NotAllowed, UndeclaredBlock, EndsDiffer, RepeatDiffers}
use Rattle.faults.specs.Numbers.{layout_fault, key_fault}
use Rattle.faults.specs.Results.{◌>>=◌, need}
use Rattle.protocol.specs.Tables.{allowed, successors}
use Rattle.rules.specs.Lists.{same}
use Rattle.rules.specs.Script.{Block, no_block, Command, send, ask, repeat, run, store, dec, cue, fail, Read, nothing, broken, command, first, blocks, Scope, Keys, at, table_at, in_range, depth_fits}
use Rattle.rules.specs.Check.{Checks, undeclared_empty, branches, join, or_fault, command_keys, check_command, check_read, check_block, check_whole}
use Rattle.rules.proofs.Lists.{tail}
use Rattle.rules.proofs.Reading.{reads_within}

-- two checks agree on the blocks
abbrev Agree : Checks → Checks → List Block → Type 0
Agree f g bs = (i : ℕ) (ks : Keys) → f (get_or bs i no_block) ks ≡ g (get_or bs i no_block) ks

later : (f g : Checks) (bs : List Block) → Agree f g bs → Agree f g (drop 1 bs)
later f g bs h i ks = ap (λ (b : Block). f b ks) (tail bs i no_block) ∙ h (suc i) ks ∙ ap (λ (b : Block). g b ks) (sym (tail bs i no_block))

branches_agree : (f g : Checks) (ks : Keys) (h : ℕ) (ts : List (Option ℕ)) (bs : List Block) → Agree f g bs → branches f ks h ts bs ≡ branches g ks h ts bs
branches_agree f g ks h [] bs ag = refl
branches_agree f g ks h (None ∷ ts) bs ag = branches_agree f g ks h ts (drop 1 bs) (later f g bs ag)
branches_agree f g ks h (Some t ∷ ts) bs ag = λ i.
    ag 0 (set ks h t) i >>= (λ (end : Keys). branches_agree f g ks h ts (drop 1 bs) (later f g bs ag) i >>= (λ (ends : List Keys). Ok (end ∷ ends)))

keys_agree : (f g : Checks) (x : Scope) (place : ℕ) (c : Command) (ks : Keys) → Agree f g (blocks c) → command_keys f x place c ks ≡ command_keys g x place c ks
keys_agree f g x place (send h l r) ks ag = refl
keys_agree f g x place (ask h l bs) ks ag = λ i.
    need (allowed (table_at x h) (at ks h) l) (key_fault NotAllowed place) >>= (λ _.
    need (undeclared_empty (successors (table_at x h) (at ks h) l) bs) (key_fault UndeclaredBlock place) >>= (λ _.
    branches_agree f g ks h (successors (table_at x h) (at ks h) l) bs ag i >>= (λ (ends : List Keys). or_fault (join ends) (key_fault EndsDiffer place))))
keys_agree f g x place (repeat r b) ks ag = ap (λ e. e >>= (λ (end : Keys). need (same end ks) (key_fault RepeatDiffers place) >>= (λ _. Ok ks))) (ag 0 ks)
keys_agree f g x place (run p bs) ks ag = refl
keys_agree f g x place (store r v) ks ag = refl
keys_agree f g x place (dec r) ks ag = refl
keys_agree f g x place (cue n) ks ag = refl
keys_agree f g x place (fail c) ks ag = refl

-- a command and then the rest, under two checks each
command_agrees : (f g f' g' : Checks) (x : Scope) (d place : ℕ) (c : Command) (rest : Block) (ks : Keys) → Agree f g (blocks c) → ((k : Keys) → f' rest k ≡ g' rest k) →
    (check_command f x d place c ks >>= (λ k. f' rest k)) ≡ (check_command g x d place c ks >>= (λ k. g' rest k))
command_agrees f g f' g' x d place c rest ks inner outer = λ i.
    (need (in_range x c) (layout_fault OutOfRange place) >>= (λ _.
    need (depth_fits d c) (layout_fault TooDeep place) >>= (λ _. keys_agree f g x place c ks inner i)))
    >>= (λ k. outer k i)

read_agrees : (f g f' g' : Checks) (x : Scope) (d : ℕ) (b : Block) (ks : Keys) →
    ((b' : Block) (k : Keys) → length b'.bytes < length b.bytes → f b' k ≡ g b' k) → ((b' : Block) (k : Keys) → length b'.bytes < length b.bytes → f' b' k ≡ g' b' k) →
    (q : Read) → first b ≡ q → check_read f f' x d b ks q ≡ check_read g g' x d b ks q
read_agrees f g f' g' x d b ks inner outer nothing e = refl
read_agrees f g f' g' x d b ks inner outer broken e = refl
read_agrees f g f' g' x d b ks inner outer (command c rest) e =
    let w = reads_within b c rest e in
    command_agrees f g f' g' x d b.place c rest ks (λ i k. inner (get_or (blocks c) i no_block) k (w.blocks_shorter i)) (λ k. outer rest k w.rest_shorter)

blocks_agree : (n m : ℕ) (x : Scope) (d : ℕ) (b : Block) (ks : Keys) → length b.bytes < n → length b.bytes < m → check_block n x d b ks ≡ check_block m x d b ks
blocks_agree zero m x d b ks ln lm = absurd (omega arith)
blocks_agree (suc n) zero x d b ks ln lm = absurd (omega arith)
blocks_agree (suc n) (suc m) x d b ks ln lm =
    read_agrees (check_block n x (suc d)) (check_block m x (suc d)) (check_block n x d) (check_block m x d) x d b ks
    (λ b' k lt. blocks_agree n m x (suc d) b' k (omega (arith, lt, ln)) (omega (arith, lt, lm)))
    (λ b' k lt. blocks_agree n m x d b' k (omega (arith, lt, ln)) (omega (arith, lt, lm)))
    (first b) refl

pub checks_whole : (n : ℕ) (x : Scope) (d : ℕ) (b : Block) (ks : Keys) → length b.bytes < n → check_block n x d b ks ≡ check_whole x d b ks
checks_whole n x d b ks lt = blocks_agree n (suc (length b.bytes)) x d b ks lt (omega arith)

-- the check of a block is that of its first command, its blocks being checked so, and then of the rest
pub unrolls : (x : Scope) (d : ℕ) (b : Block) (ks : Keys) → check_whole x d b ks ≡ check_read (check_whole x (suc d)) (check_whole x d) x d b ks (first b)
unrolls x d b ks =
    let n : ℕ = length b.bytes in
    read_agrees (check_block n x (suc d)) (check_whole x (suc d)) (check_block n x d) (check_whole x d) x d b ks
    (λ b' k lt. checks_whole n x (suc d) b' k lt) (λ b' k lt. checks_whole n x d b' k lt) (first b) refl
