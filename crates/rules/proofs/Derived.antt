-- What the rules of layout and of keys say of a block's first command.
use Rattle.std.proofs.Common.{◌≡◌, ℕ, suc, ◌<◌, List, length, get_or, take, set, Some, sym, refl, subst, subst₂, arith}
use native.Mathlib.Decide.{dec_lt}
use lib.ListN.{get_or-eq_default}
use Rattle.protocol.specs.Tables.{Allowed}
use Rattle.rules.specs.Script.{Block, no_block, Command, send, ask, repeat, run, store, dec, cue, fail, Read, nothing, broken, command, first, blocks, Scope, part_of, Keys, at, table_at, hand_over}
use Rattle.rules.specs.Keys.{InRange, Shallow, LaidOut, laid_end, laid_then, Binds, BlockKeys, ends, goes_on, CommandKeys, sends, asks, repeats, runs, stores, decs, cues, fails}

-- a read is one of its three kinds, and a command one command
nothing_command : {r : Read} {c : Command} {rest : Block} → r ≡ nothing → r ≡ command c rest → ⊥
nothing_command p q = let z : ◌≡◌ {A = ℕ} 0 1 = cc in omega arith

nothing_broken : {r : Read} → r ≡ nothing → r ≡ broken → ⊥
nothing_broken p q = let z : ◌≡◌ {A = ℕ} 0 1 = cc in omega arith

command_broken : {r : Read} {c : Command} {rest : Block} → r ≡ command c rest → r ≡ broken → ⊥
command_broken p q = let z : ◌≡◌ {A = ℕ} 0 1 = cc in omega arith

same_command : {r : Read} {c c' : Command} {rest rest' : Block} → r ≡ command c rest → r ≡ command c' rest' → (c ≡ c') × (rest ≡ rest')
same_command p q = (cc, cc)

-- the command leads to keys from which the rest goes on
abbrev pub Goes_on : Scope → Command → Block → Keys → Keys → Type 0
Goes_on x c rest ks ks'' = (ks' : Keys) × CommandKeys x c ks ks' × BlockKeys x rest ks' ks''

pub first_derived : (x : Scope) {b : Block} {ks ks'' : Keys} (c : Command) (rest : Block) → BlockKeys x b ks ks'' → first b ≡ command c rest → Goes_on x c rest ks ks''
first_derived x c rest (ends b ks e) f = absurd (nothing_command e f)
first_derived x c rest (goes_on b c₁ rest₁ ks ks' ks'' e d ds) f =
    let same = same_command e f in
    (ks', subst (λ v. CommandKeys x v ks ks') same.0 d, subst (λ v. BlockKeys x v ks' ks'') same.1 ds)

pub end_derived : (x : Scope) {b : Block} {ks ks'' : Keys} → BlockKeys x b ks ks'' → first b ≡ nothing → ks ≡ ks''
end_derived x (ends b ks e) f = refl
end_derived x (goes_on b c₁ rest₁ ks ks' ks'' e d ds) f = absurd (nothing_command f e)

-- what the rules of layout say of a command
abbrev pub BlocksLaid : Scope → ℕ → Command → Type 0
BlocksLaid x d c = (i : ℕ) → i < length (blocks c) → LaidOut x d (get_or (blocks c) i no_block)

abbrev pub Laid : Scope → ℕ → Command → Block → Type 0
Laid x d c rest = InRange x c × Shallow d c × BlocksLaid x (suc d) c × LaidOut x d rest

pub first_laid : (x : Scope) {d : ℕ} {b : Block} (c : Command) (rest : Block) → LaidOut x d b → first b ≡ command c rest → Laid x d c rest
first_laid x c rest (laid_end d b e) f = absurd (nothing_command e f)
first_laid x c rest (laid_then d b c₁ rest₁ e r dep bs l) f =
    let same = same_command e f in
    subst₂ (λ (v : Command) (w : Block). Laid x d v w) same.0 same.1 (r, dep, bs, l)

pub not_broken : (x : Scope) {d : ℕ} {b : Block} → LaidOut x d b → first b ≡ broken → ⊥
not_broken x (laid_end d b e) f = nothing_broken e f
not_broken x (laid_then d b c₁ rest₁ e r dep bs l) f = command_broken e f

-- a block of a command; those beyond its own are empty
pub block_laid : (x : Scope) (d : ℕ) (bs : List Block) (a : ℕ) → ((i : ℕ) → i < length bs → LaidOut x d (get_or bs i no_block)) → LaidOut x d (get_or bs a no_block)
block_laid x d bs a h = elim (dec_lt a (length bs)) [
  | yes lt ↦ h a lt
  | no nl ↦ subst (LaidOut x d) (sym (get_or-eq_default bs no_block {n = a} (omega (arith, nl)))) (laid_end d no_block refl)
]

-- what the key rules say of a command
abbrev pub Says : Scope → Command → Keys → Keys → Type 0
Says x (send h l r) ks ks' = (t : ℕ) × Allowed (table_at x h) (at ks h) l × ((a u : ℕ) → table_at x h (at ks h) l a ≡ Some u → u ≡ t) × (set ks h t ≡ ks')
Says x (ask h l bs) ks ks' =
    Allowed (table_at x h) (at ks h) l × ((a t : ℕ) → table_at x h (at ks h) l a ≡ Some t → BlockKeys x (get_or bs a no_block) (set ks h t) ks')
Says x (repeat r b) ks ks' = BlockKeys x b ks ks × (ks ≡ ks')
Says x (run p bs) ks ks' = (p < length x.below) × Binds x (part_of x p) bs ks × (hand_over ks (take (part_of x p).handles bs) (part_of x p).outs ≡ ks')
Says x (store r v) ks ks' = ks ≡ ks'
Says x (dec r) ks ks' = ks ≡ ks'
Says x (cue n) ks ks' = ks ≡ ks'
Says x (fail c) ks ks' = ks ≡ ks'

pub said : (x : Scope) {c : Command} {ks ks' : Keys} → CommandKeys x c ks ks' → Says x c ks ks'
said x (sends h l r t ks a u) = (t, a, u, refl)
said x (asks h l bs ks ks' a d n) = (a, d)
said x (repeats r b ks d) = (d, refl)
said x (runs p bs ks lt b) = (lt, b, refl)
said x (stores r v ks) = refl
said x (decs r ks) = refl
said x (cues n ks) = refl
said x (fails c ks) = refl
