-- Scripts: parts with handles, and the commands of their bodies.
use Rattle.std.specs.Prelude.{ℕ, zero, suc, ◌+◌, Bool, true, false, cond, ◌&&◌, List, [], ◌∷◌, length, get_or, take, drop, Ok, Result, ◌==◌, nat_le, nat_lt, slice_index, slice_index_or, slice_set}
use Rattle.faults.specs.declared.fault.Fault.{Fault}
use Rattle.faults.specs.declared.causes.LayoutCause.TheVariants.{NoPart, BadHeader}
use Rattle.faults.specs.Numbers.{layout_fault}
use Rattle.faults.specs.Results.{◌>>=◌, need}
use Rattle.protocol.specs.Lists.{all}
use Rattle.protocol.specs.Tables.{Table, table_of}
use Rattle.book.specs.Kinds.{Kind, no_kind}
use Rattle.rules.specs.Lists.{from, total, word}

-- a run of the script's bytes, with the place where it begins
pub record Block : Type 0 where
  pub place : ℕ
  pub bytes : List ℕ

abbrev pub no_block : Block
no_block = record { place = 0; bytes = [] }

-- Commands

-- An ASK has a block for each answer, in order. A REPEAT runs its block while its register is not 0.
-- A RUN says for each of eight handles of the part to which handle here it is bound.
pub data Command : Type 0 where
  send : (handle letter register : ℕ) → Command
  ask : (handle letter : ℕ) → List Block → Command
  repeat : (register : ℕ) → Block → Command
  run : (part : ℕ) → List ℕ → Command
  store : (register value : ℕ) → Command
  dec : (register : ℕ) → Command
  cue : (number : ℕ) → Command
  fail : (reason : ℕ) → Command

pub data Code : Type 0 where
  SEND ASK REPEAT RUN SET DEC CUE FAIL OTHER : Code

abbrev pub code_of : ℕ → Code
code_of c =
    cond (c == 0x20) SEND (cond (c == 0x21) ASK (cond (c == 0x23) REPEAT (cond (c == 0x24) RUN
    (cond (c == 0x25) SET (cond (c == 0x26) DEC (cond (c == 0x27) CUE (cond (c == 0x28) FAIL OTHER)))))))

-- how many bytes of operands
abbrev pub width : Code → ℕ
width SEND = 3
width ASK = 10
width REPEAT = 3
width RUN = 9
width SET = 2
width DEC = 1
width CUE = 2
width FAIL = 1
width OTHER = 0

-- the lengths of its blocks
abbrev pub lengths : Code → List ℕ → List ℕ
lengths SEND os = []
lengths ASK os = word os 2 ∷ word os 4 ∷ word os 6 ∷ word os 8 ∷ []
lengths REPEAT os = word os 1 ∷ []
lengths RUN os = []
lengths SET os = []
lengths DEC os = []
lengths CUE os = []
lengths FAIL os = []
lengths OTHER os = []

-- blocks of the lengths, one behind the other
abbrev pub cut : ℕ → List ℕ → List ℕ → List Block
cut at bs [] = []
cut at bs (n ∷ ns) = record { place = at; bytes = take n bs } ∷ cut (at + n) (drop n bs) ns

-- what a block begins with
pub data Read : Type 0 where
  nothing : Read
  broken : Read
  command : Command → Block → Read

abbrev pub command_of : Code → List ℕ → List Block → Block → Read
command_of SEND os bs rest = command (send (slice_index os 0) (slice_index os 1) (slice_index os 2)) rest
command_of ASK os bs rest = command (ask (slice_index os 0) (slice_index os 1) bs) rest
command_of REPEAT os bs rest = command (repeat (slice_index os 0) (slice_index_or bs 0 no_block)) rest
command_of RUN os bs rest = command (run (slice_index os 0) (take 8 (drop 1 os))) rest
command_of SET os bs rest = command (store (slice_index os 0) (slice_index os 1)) rest
command_of DEC os bs rest = command (dec (slice_index os 0)) rest
command_of CUE os bs rest = command (cue (word os 0)) rest
command_of FAIL os bs rest = command (fail (slice_index os 0)) rest
command_of OTHER os bs rest = broken

-- the bytes behind a command's first byte, which stand at the place
abbrev pub read_operands : Code → ℕ → List ℕ → Read
read_operands c at bs =
    let w : ℕ = width c in
    let ns : List ℕ = lengths c bs in
    let end : ℕ = w + total ns in
    elim (nat_le end (length bs)) [
      | true ↦ command_of c bs (cut (at + w) (drop w bs) ns) (record { place = at + end; bytes = drop end bs })
      | false ↦ broken
    ]

-- the first command of a block, and the rest
abbrev pub first : Block → Read
first b = elim b.bytes [ [] ↦ nothing | c ∷ bs ↦ read_operands (code_of c) (suc b.place) bs ]

abbrev pub blocks : Command → List Block
blocks (send h l r) = []
blocks (ask h l bs) = bs
blocks (repeat r b) = b ∷ []
blocks (run p bs) = []
blocks (store r v) = []
blocks (dec r) = []
blocks (cue n) = []
blocks (fail c) = []

-- Parts

-- kind, station in and station out of each of eight handles, FF beyond its own
pub record Part : Type 0 where
  pub place : ℕ
  pub handles : ℕ
  pub kinds : List ℕ
  pub ins : List ℕ
  pub outs : List ℕ
  pub body : Block

abbrev pub no_part : Part
no_part = record { place = 0; handles = 0; kinds = []; ins = []; outs = []; body = no_block }

-- every third of the bytes, as many as the number
abbrev pub thirds : ℕ → List ℕ → List ℕ
thirds zero bs = []
thirds (suc n) bs = slice_index bs 0 ∷ thirds n (drop 3 bs)

-- a header is a mark, the count of handles, eight triples of kind, station in and station out, and the length of the body
abbrev pub part_from : ℕ → List ℕ → Part
part_from at bs = record {
  place = at;
  handles = slice_index bs 1;
  kinds = thirds 8 (drop 2 bs);
  ins = thirds 8 (drop 3 bs);
  outs = thirds 8 (drop 4 bs);
  body = record { place = at + 28; bytes = take (word bs 26) (drop 28 bs) };
}

abbrev pub triple_fits : List Kind → Part → ℕ → Bool
triple_fits book p i =
    let k : ℕ = get_or p.kinds i 0 in
    let s : ℕ = get_or p.ins i 0 in
    let t : ℕ = get_or p.outs i 0 in
    cond (nat_lt i p.handles)
    (nat_lt k (length book) && (nat_lt s 16 && nat_lt t 16))
    (k == 255 && (s == 255 && t == 255))

abbrev pub header_fits : List Kind → Part → Bool
header_fits book p = nat_lt 0 p.handles && (nat_le p.handles 8 && all (triple_fits book p) (from 0 8))

-- the part that stands at the place, as the one of that number, and the bytes behind it
abbrev pub read_part : List Kind → ℕ → ℕ → List ℕ → Result (Part × List ℕ) Fault
read_part book k at bs =
    let p : Part = part_from at bs in
    let end : ℕ = 28 + word bs 26 in
    do
      _ ← need (nat_le 28 (length bs) && slice_index bs 0 == 0x10) (layout_fault NoPart at)
      _ ← need (nat_lt k 16 && (header_fits book p && nat_le end (length bs))) (layout_fault BadHeader at)
      Ok (p, drop end bs)

pub record Script : Type 0 where
  pub book : List Kind
  pub parts : List Part

abbrev pub empty_script : Script
empty_script = record { book = []; parts = [] }

-- main is the last part
abbrev pub main_of : List Part → Part
main_of [] = no_part
main_of (p ∷ []) = p
main_of (p ∷ q ∷ ps) = main_of (q ∷ ps)

-- where a body is read: in its part, behind the parts below it, over the book
pub record Scope : Type 0 where
  pub book : List Kind
  pub below : List Part
  pub running : Part

-- a part that may be run
abbrev pub part_of : Scope → ℕ → Part
part_of x p = slice_index_or x.below p no_part

abbrev pub kind_of : Scope → ℕ → Kind
kind_of x h = slice_index_or x.book (slice_index x.running.kinds h) no_kind

-- Keys

-- A key stands for the device of a handle, and its state is the station: by handle, eight stations.
abbrev pub Keys : Type 0
Keys = List ℕ

abbrev pub at : Keys → ℕ → ℕ
at ks h = slice_index ks h

abbrev pub table_at : Scope → ℕ → Table
table_at x h = table_of (kind_of x h).edges

-- each of the bound handles goes to the station given for it
abbrev pub hand_over : Keys → List ℕ → List ℕ → Keys
hand_over ks [] ts = ks
hand_over ks (b ∷ bs) [] = ks
hand_over ks (b ∷ bs) (t ∷ ts) = hand_over (slice_set ks b t) bs ts

-- Ranges of operands

-- a handle here for each handle of the part that is run, and FF beyond
abbrev pub binding_in_range : Scope → ℕ → List ℕ → ℕ → Bool
binding_in_range x p bs i =
    cond (nat_lt i (part_of x p).handles) (nat_lt (slice_index bs i) x.running.handles) (slice_index bs i == 255)

abbrev pub in_range : Scope → Command → Bool
in_range x (send h l r) = nat_lt h x.running.handles && (nat_lt l 16 && nat_lt r 8)
in_range x (ask h l bs) = nat_lt h x.running.handles && nat_lt l 16
in_range x (repeat r b) = nat_lt r 8
in_range x (run p bs) = nat_lt p (length x.below) && all (binding_in_range x p bs) (from 0 8)
in_range x (store r v) = nat_lt r 8
in_range x (dec r) = nat_lt r 8
in_range x (cue n) = true
in_range x (fail c) = true

-- a body stands at depth 1, a block one deeper than its command, and none deeper than 8
abbrev pub depth_fits : ℕ → Command → Bool
depth_fits d (send h l r) = true
depth_fits d (ask h l bs) = nat_lt d 8
depth_fits d (repeat r b) = nat_lt d 8
depth_fits d (run p bs) = true
depth_fits d (store r v) = true
depth_fits d (dec r) = true
depth_fits d (cue n) = true
depth_fits d (fail c) = true
