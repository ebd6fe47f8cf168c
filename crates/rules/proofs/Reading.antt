-- What reading gives: a command within its block, its blocks and the rest shorter, and parts with eight of each.
use Rattle.std.proofs.Common.{◌≡◌, ℕ, zero, suc, ◌+◌, ◌<◌, ◌≤◌, Bool, true, false, leb, List, [], ◌∷◌, length, get_or, drop, refl, ap, subst, le_of_suc-le-suc, arith, length-drop, length-take}
use Rattle.protocol.proofs.Tests.{at_most}
use Rattle.book.specs.Kinds.{Kind}
use Rattle.rules.specs.Lists.{total}
use Rattle.rules.specs.Script.{Block, no_block, Command, send, ask, repeat, run, store, dec, cue, fail, Code, SEND, ASK, REPEAT, RUN, SET, DEC, CUE, FAIL, OTHER, code_of, width, lengths, cut, Read, nothing, broken, command, command_of, read_operands, first, blocks, Part, no_part}
use Rattle.rules.specs.Keys.{PartAt, Parts, no_more, one_more}

-- Commands

-- an ASK has a block for each answer, and a RUN a byte for each of eight handles
abbrev pub Whole : Command → Type 0
Whole (send h l r) = Unit {0}
Whole (ask h l bs) = length bs ≡ 4
Whole (repeat r b) = Unit {0}
Whole (run p bs) = 8 ≤ length bs
Whole (store r v) = Unit {0}
Whole (dec r) = Unit {0}
Whole (cue n) = Unit {0}
Whole (fail c) = Unit {0}

-- a command in n bytes
pub record Within (n : ℕ) (c : Command) (rest : Block) : Type 0 where
  pub rest_shorter : length rest.bytes < n
  pub blocks_shorter : (i : ℕ) → length (get_or (blocks c) i no_block).bytes < n
  pub whole : Whole c

-- what is read from n bytes: nothing only from none
abbrev pub ReadSo : ℕ → Read → Type 0
ReadSo n nothing = n ≡ 0
ReadSo n broken = Unit {0}
ReadSo n (command c rest) = Within n c rest

cut_shorter : (ns bs : List ℕ) (at i : ℕ) → length (get_or (cut at bs ns) i no_block).bytes ≤ length bs
cut_shorter [] bs at i = omega arith
cut_shorter (n ∷ ns) bs at zero = omega (arith, length-take n bs)
cut_shorter (n ∷ ns) bs at (suc i) = omega (arith, cut_shorter ns (drop n bs) (at + n) i, length-drop n bs)

cut_count : (ns bs : List ℕ) (at : ℕ) → length (cut at bs ns) ≡ length ns
cut_count [] bs at = refl
cut_count (n ∷ ns) bs at = ap suc (cut_count ns (drop n bs) (at + n))

command_so : (c : Code) (os : List ℕ) (bs : List Block) (rest : Block) (n : ℕ) → width c ≤ length os → length rest.bytes < n →
    ((i : ℕ) → length (get_or bs i no_block).bytes < n) → length bs ≡ length (lengths c os) → ReadSo n (command_of c os bs rest)
command_so SEND os bs rest n le lt all-lt e = record { rest_shorter = lt; blocks_shorter = λ i. omega (arith, lt); whole = tt }
command_so ASK os bs rest n le lt all-lt e = record { rest_shorter = lt; blocks_shorter = all-lt; whole = e }
command_so REPEAT os bs rest n le lt all-lt e = record { rest_shorter = lt; blocks_shorter = elim [ zero ↦ all-lt 0 | suc i ↦ omega (arith, lt) ]; whole = tt }
command_so RUN os bs rest n le lt all-lt e =
    record { rest_shorter = lt; blocks_shorter = λ i. omega (arith, lt); whole = omega (arith, length-take 8 (drop 1 os), length-drop 1 os, le) }
command_so SET os bs rest n le lt all-lt e = record { rest_shorter = lt; blocks_shorter = λ i. omega (arith, lt); whole = tt }
command_so DEC os bs rest n le lt all-lt e = record { rest_shorter = lt; blocks_shorter = λ i. omega (arith, lt); whole = tt }
command_so CUE os bs rest n le lt all-lt e = record { rest_shorter = lt; blocks_shorter = λ i. omega (arith, lt); whole = tt }
command_so FAIL os bs rest n le lt all-lt e = record { rest_shorter = lt; blocks_shorter = λ i. omega (arith, lt); whole = tt }
command_so OTHER os bs rest n le lt all-lt e = tt

operands_so : (c : Code) (at : ℕ) (bs : List ℕ) → ReadSo (suc (length bs)) (read_operands c at bs)
operands_so c at bs = by_case (leb end (length bs)) refl
  where
    end : ℕ
    end = width c + total (lengths c bs)

    by_case : (t : Bool) → leb end (length bs) ≡ t → ReadSo (suc (length bs)) (elim t [
      | true ↦ command_of c bs (cut (at + width c) (drop (width c) bs) (lengths c bs)) (record { place = at + end; bytes = drop end bs })
      | false ↦ broken
    ])
    by_case true e =
        let le : width c + total (lengths c bs) ≤ length bs = at_most end (length bs) e in
        command_so c bs (cut (at + width c) (drop (width c) bs) (lengths c bs)) (record { place = at + end; bytes = drop end bs }) (suc (length bs))
        (omega (arith, le))
        (omega (arith, length-drop end bs))
        (λ i. omega (arith, cut_shorter (lengths c bs) (drop (width c) bs) (at + width c) i, length-drop (width c) bs))
        (cut_count (lengths c bs) (drop (width c) bs) (at + width c))
    by_case false e = tt

bytes_so : (at : ℕ) (bs : List ℕ) → ReadSo (length bs) (first (record { place = at; bytes = bs }))
bytes_so at [] = refl
bytes_so at (c ∷ bs) = operands_so (code_of c) (suc at) bs

pub first_so : (b : Block) → ReadSo (length b.bytes) (first b)
first_so b = bytes_so b.place b.bytes

pub reads_within : (b : Block) (c : Command) (rest : Block) → first b ≡ command c rest → Within (length b.bytes) c rest
reads_within b c rest e = subst (ReadSo (length b.bytes)) e (first_so b)

-- nothing is read from an empty block, and only from one
pub no_first : (b : Block) → b.bytes ≡ [] → first b ≡ nothing
no_first b e = rw (e, first)

pub some_first : (b : Block) (c : ℕ) (bs : List ℕ) → b.bytes ≡ c ∷ bs → first b ≡ nothing → ⊥
some_first b c bs e f =
    let none : length b.bytes ≡ 0 = subst (ReadSo (length b.bytes)) f (first_so b) in
    omega (arith, none, ap length e)

-- Parts

-- at most eight handles, and a station in and out for each of eight
pub record PartSo (p : Part) : Type 0 where
  pub few : p.handles ≤ 8
  pub ins : length p.ins ≡ 8
  pub outs : length p.outs ≡ 8

pub part_so : {book : List Kind} {k at : ℕ} {bs : List ℕ} {p : Part} {rest : List ℕ} → PartAt book k at bs p rest → PartSo p
part_so w = record {
  few = w.few;
  ins = ap (λ (q : Part). length q.ins) w.part_is;
  outs = ap (λ (q : Part). length q.outs) w.part_is;
}

pub parts_so : (book : List Kind) {k at : ℕ} {bs : List ℕ} {ps : List Part} → Parts book k at bs ps → (i : ℕ) → i < length ps → PartSo (get_or ps i no_part)
parts_so book (no_more k at) i lt = absurd (omega arith)
parts_so book (one_more k at bs rest p ps w more) zero lt = part_so w
parts_so book (one_more k at bs rest p ps w more) (suc i) lt = parts_so book more i (le_of_suc-le-suc lt)

-- at most 16, with those before them
pub parts_few : (book : List Kind) {k at : ℕ} {bs : List ℕ} {ps : List Part} → Parts book k at bs ps → k ≤ 16 → k + length ps ≤ 16
parts_few book (no_more k at) le = omega arith
parts_few book (one_more k at bs rest p ps w more) le = let ih = parts_few book more w.number in omega (arith, ih)
