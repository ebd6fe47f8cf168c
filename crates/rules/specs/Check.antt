-- The check of a script: the first fault in reading order, or its parts.
use Rattle.std.specs.Prelude.{◌≡◌, ℕ, zero, suc, ◌+◌, Bool, true, cond, ◌&&◌, List, [], ◌∷◌, ◌++◌, length, get_or, take, drop, Some, None, Ok, Err, Option, Result, ◌==◌, nat_le, slice_index, slice_index_or, slice_set}
use Rattle.faults.specs.declared.fault.Fault.{Fault}
use Rattle.faults.specs.declared.causes.LayoutCause.TheVariants.{TooLong, BadHeader, BadCommand, OutOfRange, TooDeep}
use Rattle.faults.specs.declared.causes.KeyCause.TheVariants.{NotAllowed, AnswersDiffer, UndeclaredBlock, EndsDiffer, RepeatDiffers, BoundTwice, BoundWrong, BodyEnd, MainHeld}
use Rattle.faults.specs.Numbers.{nowhere, layout_fault, key_fault}
use Rattle.faults.specs.Results.{◌>>=◌, need}
use Rattle.protocol.specs.Lists.{all}
use Rattle.protocol.specs.Tables.{Table, allowed, successors}
use Rattle.book.specs.Kinds.{Kind}
use Rattle.book.specs.Reading.{read_book}
use Rattle.rules.specs.Lists.{same, distinct, empty, from}
use Rattle.rules.specs.Script.{Block, no_block, Command, send, ask, repeat, run, store, dec, cue, fail, Read, nothing, broken, command, first, Part, read_part, main_of, Script, Scope, part_of, Keys, at, table_at, hand_over, in_range, depth_fits}

-- no answer, or one that leads to the station
abbrev pub agrees : ℕ → Option ℕ → Bool
agrees t None = true
agrees t (Some u) = u == t

-- the one station to which all the declared answers lead
abbrev pub agreed : List (Option ℕ) → Option ℕ
agreed [] = None
agreed (None ∷ ts) = agreed ts
agreed (Some t ∷ ts) = cond (all (agrees t) ts) (Some t) None

-- the block of an answer that is not declared is empty
abbrev pub undeclared_empty : List (Option ℕ) → List Block → Bool
undeclared_empty [] bs = true
undeclared_empty (None ∷ ts) bs = empty (get_or bs 0 no_block).bytes && undeclared_empty ts (drop 1 bs)
undeclared_empty (Some t ∷ ts) bs = undeclared_empty ts (drop 1 bs)

-- how a block is checked: the keys at its end, from those at its start
abbrev pub Checks : Type 0
Checks = Block → Keys → Result Keys Fault

-- the keys with which the blocks of the declared answers end; each starts from its own copy
abbrev pub branches : Checks → Keys → ℕ → List (Option ℕ) → List Block → Result (List Keys) Fault
branches check ks h [] bs = Ok []
branches check ks h (None ∷ ts) bs = branches check ks h ts (drop 1 bs)
branches check ks h (Some t ∷ ts) bs = do
  end ← check (slice_index_or bs 0 no_block) (slice_set ks h t)
  ends ← branches check ks h ts (drop 1 bs)
  Ok (end ∷ ends)

-- the keys that all of them are
abbrev pub join : List Keys → Option Keys
join [] = None
join (ks ∷ ends) = cond (all (same ks) ends) (Some ks) None

abbrev pub or_fault : {X : Type 0} → Option X → Fault → Result X Fault
or_fault None e = Err e
or_fault (Some x) e = Ok x

-- the handle of the part that is run fits the handle here to which it is bound
abbrev pub bound_right : Scope → Keys → Part → List ℕ → ℕ → Bool
bound_right x ks p bs i =
    let b : ℕ = get_or bs i 0 in
    (slice_index x.running.kinds b == slice_index p.kinds i) && at ks b == at p.ins i

-- the keys after a command at the place, its blocks being checked as given
abbrev pub command_keys : Checks → Scope → ℕ → Command → Keys → Result Keys Fault
command_keys check x place (send h l r) ks =
    let e : Table = table_at x h in
    do
      _ ← need (allowed e (at ks h) l) (key_fault NotAllowed place)
      t ← or_fault (agreed (successors e (at ks h) l)) (key_fault AnswersDiffer place)
      Ok (slice_set ks h t)
command_keys check x place (ask h l bs) ks =
    let e : Table = table_at x h in
    let ts : List (Option ℕ) = successors e (at ks h) l in
    do
      _ ← need (allowed e (at ks h) l) (key_fault NotAllowed place)
      _ ← need (undeclared_empty ts bs) (key_fault UndeclaredBlock place)
      ends ← branches check ks h ts bs
      or_fault (join ends) (key_fault EndsDiffer place)
command_keys check x place (repeat r b) ks = do
  end ← check b ks
  _ ← need (same end ks) (key_fault RepeatDiffers place)
  Ok ks
command_keys check x place (run p bs) ks =
    let q : Part = part_of x p in
    let bound : List ℕ = take q.handles bs in
    do
      _ ← need (distinct bound) (key_fault BoundTwice place)
      _ ← need (all (bound_right x ks q bs) (from 0 q.handles)) (key_fault BoundWrong place)
      Ok (hand_over ks bound q.outs)
command_keys check x place (store r v) ks = Ok ks
command_keys check x place (dec r) ks = Ok ks
command_keys check x place (cue n) ks = Ok ks
command_keys check x place (fail c) ks = Ok ks

abbrev pub check_command : Checks → Scope → ℕ → ℕ → Command → Keys → Result Keys Fault
check_command check x depth place c ks = do
  _ ← need (in_range x c) (layout_fault OutOfRange place)
  _ ← need (depth_fits depth c) (layout_fault TooDeep place)
  command_keys check x place c ks

-- a block by what it begins with: its blocks and its rest are checked as given
abbrev pub check_read : Checks → Checks → Scope → ℕ → Block → Keys → Read → Result Keys Fault
check_read inner outer x depth b ks nothing = Ok ks
check_read inner outer x depth b ks broken = Err (layout_fault BadCommand b.place)
check_read inner outer x depth b ks (command c rest) = check_command inner x depth b.place c ks >>= (λ ks'. outer rest ks')

-- the keys at the end of a block at the depth; the first number is above the block's length
abbrev pub check_block : ℕ → Scope → ℕ → Block → Keys → Result Keys Fault
check_block zero x depth b ks = Err (layout_fault BadCommand b.place)
check_block (suc n) x depth b ks = check_read (check_block n x (suc depth)) (check_block n x depth) x depth b ks (first b)

-- with a bound just above the length
abbrev pub check_whole : Scope → ℕ → Checks
check_whole x depth b ks = check_block (suc (length b.bytes)) x depth b ks

abbrev pub check_body : Scope → Result (Unit {0}) Fault
check_body x =
    let p : Part = x.running in
    do
      end ← check_whole x 1 p.body p.ins
      need (same end p.outs) (key_fault BodyEnd p.place)

-- main has its handles away at both ends
abbrev pub main_away : List Part → Bool
main_away ps =
    let p : Part = main_of ps in
    all (λ h. (at p.ins h == 0) && at p.outs h == 0) (from 0 p.handles)

-- the parts from the place on, behind those already read; the first number is above the count of parts to come
abbrev pub check_parts : ℕ → List Kind → List Part → ℕ → List ℕ → Result (List Part) Fault
check_parts n book ps place [] = Ok ps
check_parts zero book ps place (c ∷ bs) = Err (layout_fault BadHeader place)
check_parts (suc n) book ps place (c ∷ bs) = do
  got ← read_part book (length ps) place (c ∷ bs)
  _ ← check_body (record { book = book; below = ps; running = got.0 })
  check_parts n book (ps ++ (got.0 ∷ [])) (place + (28 + length got.0.body.bytes)) got.1

-- over the kinds of a book that passes
abbrev pub check_script : List Kind → List ℕ → Result Script Fault
check_script book bs = do
  _ ← need (nat_le (length bs) 16384) (layout_fault TooLong nowhere)
  ps ← check_parts 17 book [] 0 bs
  _ ← need (main_away ps) (key_fault MainHeld (main_of ps).place)
  Ok (record { book = book; parts = ps })

-- a script that passes, over a book that passes
abbrev pub Passed : Script → Type 0
Passed s = (bb : List ℕ) × (bs : List ℕ) × (read_book bb ≡ Ok s.book) × (check_script s.book bs ≡ Ok s)
