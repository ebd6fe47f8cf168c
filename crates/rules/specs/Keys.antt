-- The rules of layout and of keys, as derivations.
use Rattle.std.specs.Prelude.{◌≡◌, ℕ, suc, ◌+◌, ◌<◌, ◌≤◌, List, [], ◌∷◌, length, get_or, take, drop, Some, None, Ok, slice_index, slice_index_or, slice_set}
use Rattle.protocol.specs.Tables.{Allowed}
use Rattle.book.specs.Kinds.{Kind}
use Rattle.book.specs.Reading.{read_book}
use Rattle.rules.specs.Lists.{Different, word}
use Rattle.rules.specs.Script.{Block, no_block, Command, send, ask, repeat, run, store, dec, cue, fail, nothing, command, first, blocks, Part, no_part, part_from, main_of, Script, Scope, part_of, Keys, at, table_at, hand_over}
use Rattle.rules.specs.Check.{check_script}

-- Layout

-- each handle of the part that is run is bound to some handle here, and beyond its handles stands FF
pub record BindingsInRange (x : Scope) (p : Part) (bs : List ℕ) : Type 0 where
  pub own : (i : ℕ) → i < 8 → i < p.handles → slice_index bs i < x.running.handles
  pub beyond : (i : ℕ) → i < 8 → p.handles ≤ i → slice_index bs i ≡ 255

-- the operands are handles of the running part, letters, registers, and numbers of parts below it
abbrev pub InRange : Scope → Command → Type 0
InRange x (send h l r) = (h < x.running.handles) × (l < 16) × (r < 8)
InRange x (ask h l bs) = (h < x.running.handles) × (l < 16)
InRange x (repeat r b) = r < 8
InRange x (run p bs) = (p < length x.below) × BindingsInRange x (part_of x p) bs
InRange x (store r v) = r < 8
InRange x (dec r) = r < 8
InRange x (cue n) = Unit {0}
InRange x (fail c) = Unit {0}

-- a command that holds blocks stands at a depth under 8, so that no block is deeper
abbrev pub Shallow : ℕ → Command → Type 0
Shallow d (send h l r) = Unit {0}
Shallow d (ask h l bs) = d < 8
Shallow d (repeat r b) = d < 8
Shallow d (run p bs) = Unit {0}
Shallow d (store r v) = Unit {0}
Shallow d (dec r) = Unit {0}
Shallow d (cue n) = Unit {0}
Shallow d (fail c) = Unit {0}

-- A block at a depth is laid out: its commands are known and whole, their operands in range, their blocks not too deep.
pub data LaidOut (x : Scope) : ℕ → Block → Type 0 where
  laid_end : (d : ℕ) (b : Block) → first b ≡ nothing → LaidOut x d b
  laid_then : (d : ℕ) (b : Block) (c : Command) (rest : Block) → first b ≡ command c rest →
      InRange x c → Shallow d c →
      ((i : ℕ) → i < length (blocks c) → LaidOut x (suc d) (slice_index_or (blocks c) i no_block)) →
      LaidOut x d rest → LaidOut x d b

-- A part of that number stands at the place: its header is whole and in order, and so is its body, as long as the header says.
pub record PartAt (book : List Kind) (k at : ℕ) (bs : List ℕ) (p : Part) (rest : List ℕ) : Type 0 where
  pub whole : 28 ≤ length bs
  pub marked : get_or bs 0 0 ≡ 0x10
  pub number : k < 16
  pub some : 0 < p.handles
  pub few : p.handles ≤ 8
  pub own : (i : ℕ) → i < p.handles → (slice_index p.kinds i < length book) × (slice_index p.ins i < 16) × (slice_index p.outs i < 16)
  pub beyond : (i : ℕ) → i < 8 → p.handles ≤ i → (slice_index p.kinds i ≡ 255) × (slice_index p.ins i ≡ 255) × (slice_index p.outs i ≡ 255)
  pub room : 28 + word bs 26 ≤ length bs
  pub part_is : p ≡ part_from at bs
  pub rest_is : rest ≡ drop (28 + word bs 26) bs

-- the bytes are a row of parts, the first of the number and at the place
pub data Parts (book : List Kind) : ℕ → ℕ → List ℕ → List Part → Type 0 where
  no_more : (k at : ℕ) → Parts book k at [] []
  one_more : (k at : ℕ) (bs rest : List ℕ) (p : Part) (ps : List Part) → PartAt book k at bs p rest →
      Parts book (suc k) (at + (28 + length p.body.bytes)) rest ps → Parts book k at bs (p ∷ ps)

-- the body of the part of that number, behind the parts before it
abbrev pub scope : List Kind → List Part → ℕ → Scope
scope book ps i = record { book = book; below = take i ps; running = slice_index_or ps i no_part }

-- neither too long nor broken in a header or a body
pub record WellLaid (book : List Kind) (bs : List ℕ) (ps : List Part) : Type 0 where
  pub short : length bs ≤ 16384
  pub parts : Parts book 0 0 bs ps
  pub bodies : (i : ℕ) → i < length ps → LaidOut (scope book ps i) 1 (get_or ps i no_part).body

-- Keys

-- The handles of the part are bound to different handles here, equal in kind and at the stations in.
pub record Binds (x : Scope) (p : Part) (bs : List ℕ) (ks : Keys) : Type 0 where
  pub different : Different (take p.handles bs)
  pub kinds : (i : ℕ) → i < p.handles → slice_index x.running.kinds (slice_index bs i) ≡ slice_index p.kinds i
  pub stations : (i : ℕ) → i < p.handles → at ks (slice_index bs i) ≡ at p.ins i

mutual
  -- A block leads from keys to keys, command by command.
  pub data BlockKeys (x : Scope) : Block → Keys → Keys → Type 0 where
    ends : (b : Block) (ks : Keys) → first b ≡ nothing → BlockKeys x b ks ks
    goes_on : (b : Block) (c : Command) (rest : Block) (ks ks' ks'' : Keys) → first b ≡ command c rest →
        CommandKeys x c ks ks' → BlockKeys x rest ks' ks'' → BlockKeys x b ks ks''

  -- A SEND's letter is allowed, and all the declared answers lead to one station.
  -- An ASK's letter is allowed, the blocks of all the declared answers end with the same keys, and the others are empty.
  -- The block of a REPEAT ends with the keys with which it began.
  -- A RUN hands its bound handles over to a part below, and has them back at the stations out.
  pub data CommandKeys (x : Scope) : Command → Keys → Keys → Type 0 where
    sends : (h l r t : ℕ) (ks : Keys) →
        Allowed (table_at x h) (at ks h) l →
        ((a u : ℕ) → table_at x h (at ks h) l a ≡ Some u → u ≡ t) →
        CommandKeys x (send h l r) ks (slice_set ks h t)
    asks : (h l : ℕ) (bs : List Block) (ks ks' : Keys) →
        Allowed (table_at x h) (at ks h) l →
        ((a t : ℕ) → table_at x h (at ks h) l a ≡ Some t → BlockKeys x (slice_index_or bs a no_block) (slice_set ks h t) ks') →
        ((a : ℕ) → table_at x h (at ks h) l a ≡ None → (get_or bs a no_block).bytes ≡ []) →
        CommandKeys x (ask h l bs) ks ks'
    repeats : (r : ℕ) (b : Block) (ks : Keys) → BlockKeys x b ks ks → CommandKeys x (repeat r b) ks ks
    runs : (p : ℕ) (bs : List ℕ) (ks : Keys) → p < length x.below →
        Binds x (part_of x p) bs ks →
        CommandKeys x (run p bs) ks (hand_over ks (take (part_of x p).handles bs) (part_of x p).outs)
    stores : (r v : ℕ) (ks : Keys) → CommandKeys x (store r v) ks ks
    decs : (r : ℕ) (ks : Keys) → CommandKeys x (dec r) ks ks
    cues : (n : ℕ) (ks : Keys) → CommandKeys x (cue n) ks ks
    fails : (c : ℕ) (ks : Keys) → CommandKeys x (fail c) ks ks

-- every body leads from the stations in to the stations out, and main's are all away
pub record Derives (book : List Kind) (ps : List Part) : Type 0 where
  pub bodies : (i : ℕ) → i < length ps → BlockKeys (scope book ps i) (get_or ps i no_part).body (get_or ps i no_part).ins (get_or ps i no_part).outs
  pub main : (h : ℕ) → h < (main_of ps).handles → (at (main_of ps).ins h ≡ 0) × (at (main_of ps).outs h ≡ 0)

-- Both

-- the bytes are the script over the book, by these rules
pub record Passes (book : List Kind) (bs : List ℕ) (s : Script) : Type 0 where
  pub over : s.book ≡ book
  pub laid : WellLaid book bs s.parts
  pub derived : Derives book s.parts

-- over a book that passes, the check passes the scripts that are laid out and derived, and no others
abbrev pub CheckDecides : Type 0
CheckDecides = (bb : List ℕ) (book : List Kind) → read_book bb ≡ Ok book → (bs : List ℕ) (s : Script) →
    (check_script book bs ≡ Ok s → Passes book bs s) × (Passes book bs s → check_script book bs ≡ Ok s)
