-- Blocks that are cut from the front of a longer one.
use Rattle.std.proofs.Common.{◌≡◌, ℕ, ◌+◌, ◌<◌, ◌≤◌, true, false, List, [], ◌∷◌, length, get_or, drop, None, Option, sym, refl, ap, ◌∙◌, subst, arith, add_assoc, length-drop, drop-drop}
use borrow.Author.Tests.{lt-leb}
use Rattle.protocol.proofs.Tests.{is_at_most}
use Rattle.rules.specs.Lists.{total}
use Rattle.rules.specs.Script.{Block, cut, ask, broken, command}
use Rattle.script.specs.declared.block.Block as code
use Rattle.script.specs.declared.command.Command.{Command}
use Rattle.script.specs.Commands.{Reads, ask_at}
use Rattle.script.specs.Pieces.{front, past}

pub four_of : (ns : List ℕ) → length ns ≡ 4 → get_or ns 0 0 ∷ get_or ns 1 0 ∷ get_or ns 2 0 ∷ get_or ns 3 0 ∷ [] ≡ ns
four_of [] e = absurd (omega (arith, e))
four_of (a ∷ []) e = absurd (omega (arith, e))
four_of (a ∷ b ∷ []) e = absurd (omega (arith, e))
four_of (a ∷ b ∷ c ∷ []) e = absurd (omega (arith, e))
four_of (a ∷ b ∷ c ∷ d ∷ []) e = refl
four_of (a ∷ b ∷ c ∷ d ∷ x ∷ ns) e = absurd (omega (arith, e))

-- the blocks of the lengths, cut from the front of the tail, and what is left of it
pub record AreCut (ns : List ℕ) (tail : Block) (bs : List Block) (rest : Block) : Type 0 where
  pub long : total ns ≤ length tail.bytes
  pub blocks : cut tail.place tail.bytes ns ≡ bs
  pub behind : past (total ns) tail ≡ rest

-- the tail is too short for them
pub record IsShort (ns : List ℕ) (tail : Block) : Type 0 where
  pub fewer : length tail.bytes < total ns

pub none_cut : (tail : Block) → AreCut [] tail [] tail
none_cut tail = let z : tail.place + 0 ≡ tail.place = omega arith in record { long = omega arith; blocks = refl; behind = λ i. record { place = z i; bytes = tail.bytes } }

-- a block of the length, cut from the front of the tail
module _ (n : ℕ) (ns : List ℕ) (tail b rest : Block) (w : (n ≤ length tail.bytes) × (b ≡ front n tail) × (rest ≡ past n tail)) where
  length_left : length rest.bytes + n ≡ length tail.bytes
  length_left = omega (arith, w.0, ap (λ (r : Block). length r.bytes) w.2, length-drop n tail.bytes)

  -- the first of them, and those that are cut from what is behind it
  pub one_cut : {bs : List Block} {end : Block} → AreCut ns rest bs end → AreCut (n ∷ ns) tail (b ∷ bs) end
  one_cut v = record {
    long = omega (arith, v.long, length_left);
    blocks = λ i. sym w.1 i ∷ (ap (λ (r : Block). cut r.place r.bytes ns) (sym w.2) ∙ v.blocks) i;
    behind =
        (λ i. record { place = sym (add_assoc tail.place n (total ns)) i; bytes = sym (drop-drop (total ns) n tail.bytes) i })
        ∙ ap (past (total ns)) (sym w.2) ∙ v.behind;
  }

  -- what is behind it is too short for the others
  pub short_behind : IsShort ns rest → IsShort (n ∷ ns) tail
  short_behind v = record { fewer = omega (arith, v.fewer, length_left) }

pub short_here : (n : ℕ) (ns : List ℕ) (tail : Block) → length tail.bytes < n → IsShort (n ∷ ns) tail
short_here n ns tail lt = record { fewer = omega (arith, lt) }

-- an ASK whose lengths are these
module _ (h l : ℕ) (ns all : List ℕ) (same : ns ≡ all) (tail : Block) where
  pub ask_cut : {bs : List Block} {rest : Block} → AreCut ns tail bs rest → ask_at h l all tail ≡ command (ask h l bs) rest
  ask_cut {bs} {rest} v =
      ap (λ v. ask_at h l v tail) (sym same)
      ∙ ap (λ t. elim t [ false ↦ broken | true ↦ command (ask h l (cut tail.place tail.bytes ns)) (past (total ns) tail) ]) (is_at_most v.long)
      ∙ (λ i. command (ask h l (v.blocks i)) (v.behind i))

  ask_broken : length tail.bytes < total ns → ask_at h l ns tail ≡ broken
  ask_broken lt = ap (λ t. elim t [ false ↦ broken | true ↦ command (ask h l (cut tail.place tail.bytes ns)) (past (total ns) tail) ]) (lt-leb (total ns) (length tail.bytes) lt)

  pub too_short : (r : Option (Command × code.Block)) → r ≡ None → IsShort ns tail → Reads r (ask_at h l all tail)
  too_short r none v = subst (λ (o : Option (Command × code.Block)). Reads o (ask_at h l all tail)) (sym none) (ap (λ ms. ask_at h l ms tail) (sym same) ∙ ask_broken v.fewer)

-- what is left behind the front of a block
pub left : (n : ℕ) (b r : Block) (rest : List ℕ) → n ≤ length b.bytes → rest ≡ drop n b.bytes → r.bytes ≡ rest → r.place + length rest ≡ b.place + length b.bytes → past n b ≡ r
left n b r rest le p q e =
    let len : length rest + n ≡ length b.bytes = omega (arith, ap length p, length-drop n b.bytes) in
    let place : b.place + n ≡ r.place = omega (arith, len, e) in
    λ i. record { place = place i; bytes = sym (q ∙ p) i }
