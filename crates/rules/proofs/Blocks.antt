-- The check of a block decides whether it is laid out and the key rules derive it.
use Rattle.std.proofs.Common.{◌≡◌, ℕ, zero, suc, ◌<◌, eqb, List, [], length, get_or, take, set, Some, None, Ok, Option, sym, refl, ap, ◌∙◌, subst, arith}
use Rattle.faults.specs.declared.causes.LayoutCause.TheVariants.{OutOfRange, TooDeep}
use Rattle.faults.specs.declared.causes.KeyCause.TheVariants.{NotAllowed, AnswersDiffer, UndeclaredBlock, EndsDiffer, RepeatDiffers, BoundTwice, BoundWrong}
use Rattle.faults.specs.Numbers.{layout_fault, key_fault}
use Rattle.faults.specs.Results.{◌>>=◌, need}
use Rattle.faults.proofs.Results.{err_ok, ok_same, bound, needed, follows, met}
use Rattle.protocol.specs.Lists.{all}
use Rattle.protocol.specs.Tables.{Table, Ranged, Allowed, allowed, successors}
use Rattle.protocol.proofs.Tests.{cases, both, and_true, same_number, equal_numbers}
use Rattle.rules.specs.Lists.{same, distinct, from}
use Rattle.rules.specs.Script.{Block, no_block, Command, send, ask, repeat, run, store, dec, cue, fail, Read, nothing, broken, command, first, blocks, Part, Scope, part_of, Keys, at, table_at, hand_over, in_range, depth_fits}
use Rattle.rules.specs.Check.{Checks, agreed, undeclared_empty, branches, join, or_fault, bound_right, command_keys, check_command, check_read, check_block}
use Rattle.rules.specs.Keys.{InRange, Shallow, LaidOut, laid_end, laid_then, Binds, BlockKeys, ends, goes_on, CommandKeys, sends, asks, repeats, runs, stores, decs, cues, fails}
use Rattle.rules.proofs.Lists.{below, all_below, same_lists, same_self, different, are_distinct}
use Rattle.rules.proofs.Ranges.{range_so, range_passes, depth_so, depth_passes}
use Rattle.protocol.proofs.Answers.{allows, allowed_ranged}
use Rattle.rules.proofs.Tables.{row}
use Rattle.rules.proofs.Reading.{Whole, reads_within, no_first}
use Rattle.rules.proofs.Derived.{BlocksLaid, first_derived, end_derived}
use Rattle.rules.proofs.Branches.{or_some, agreed_all, all_agreed, undeclared_all, all_undeclared, branches_end, end_branches, some_branch, join_alike, alike_join}

-- A block that passes

-- what it passes is laid out and derived
abbrev pub Faithful : Scope → ℕ → Checks → Type 0
Faithful x d check = (b : Block) (ks ks' : Keys) → check b ks ≡ Ok ks' → LaidOut x d b × BlockKeys x b ks ks'

no_blocks : (x : Scope) (d : ℕ) (i : ℕ) → i < 0 → LaidOut x d (get_or [] i no_block)
no_blocks x d i lt = absurd (omega arith)

-- commands at the place, whose blocks stand at the depth
module _ (x : Scope) (ranged : (h : ℕ) → Ranged (table_at x h)) (d : ℕ) (check : Checks) (place : ℕ) where
  abbrev Derived : Command → Keys → Keys → Type 0
  Derived c ks ks' = CommandKeys x c ks ks' × BlocksLaid x d c

  send_sound : (h l r : ℕ) (ks ks' : Keys) → command_keys check x place (send h l r) ks ≡ Ok ks' → Derived (send h l r) ks ks'
  send_sound h l r ks ks' e =
      let E : Table = table_at x h in
      let ts : List (Option ℕ) = successors E (at ks h) l in
      let c1 = bound (need (allowed E (at ks h) l) (key_fault NotAllowed place)) _ ks' e in
      let c2 = bound (or_fault (agreed ts) (key_fault AnswersDiffer place)) _ ks' c1.2 in
      let one : agreed ts ≡ Some c2.0 = or_some (agreed ts) (key_fault AnswersDiffer place) c2.0 c2.1 in (
        subst (λ v. CommandKeys x (send h l r) ks v) (ok_same c2.2)
            (sends h l r c2.0 ks (allows E (at ks h) l (needed _ _ c1.0 c1.1))
            (λ a u q. agreed_all ts c2.0 one a u (row E (ranged h) (at ks h) l a ∙ q))),
        no_blocks x d,
      )

  ask_sound : Faithful x d check → (h l : ℕ) (bs : List Block) (ks ks' : Keys) → length bs ≡ 4 → command_keys check x place (ask h l bs) ks ≡ Ok ks' → Derived (ask h l bs) ks ks'
  ask_sound sound h l bs ks ks' whole e =
      let E : Table = table_at x h in
      let ts : List (Option ℕ) = successors E (at ks h) l in
      let c1 = bound (need (allowed E (at ks h) l) (key_fault NotAllowed place)) _ ks' e in
      let c2 = bound (need (undeclared_empty ts bs) (key_fault UndeclaredBlock place)) _ ks' c1.2 in
      let c3 = bound (branches check ks h ts bs) _ ks' c2.2 in
      let alike = join_alike check ks h ks' c3.0 (or_some (join c3.0) (key_fault EndsDiffer place) ks' c3.2) in
      let passed : (a t : ℕ) → get_or ts a None ≡ Some t → LaidOut x d (get_or bs a no_block) × BlockKeys x (get_or bs a no_block) (set ks h t) ks' =
      λ a t q. sound (get_or bs a no_block) (set ks h t) ks' (branches_end check ks h ks' ts bs c3.0 c3.1 alike a t q) in
      let unused : (a : ℕ) → get_or ts a None ≡ None → (get_or bs a no_block).bytes ≡ [] =
      undeclared_all ts bs (needed _ _ c2.0 c2.1) (omega (arith, whole)) in (
        asks h l bs ks ks' (allows E (at ks h) l (needed _ _ c1.0 c1.1))
            (λ a t q. (passed a t (row E (ranged h) (at ks h) l a ∙ q)).1)
            (λ a q. unused a (row E (ranged h) (at ks h) l a ∙ q)),
        λ i lt. cases (get_or ts i None) (λ t q. (passed i t q).0) (λ q. laid_end d (get_or bs i no_block) (no_first (get_or bs i no_block) (unused i q))),
      )

  repeat_sound : Faithful x d check → (r : ℕ) (b : Block) (ks ks' : Keys) → command_keys check x place (repeat r b) ks ≡ Ok ks' → Derived (repeat r b) ks ks'
  repeat_sound sound r b ks ks' e =
      let c1 = bound (check b ks) _ ks' e in
      let c2 = bound (need (same c1.0 ks) (key_fault RepeatDiffers place)) _ ks' c1.2 in
      let back : c1.0 ≡ ks = same_lists c1.0 ks (needed _ _ c2.0 c2.1) in
      let w = sound b ks c1.0 c1.1 in (
        subst (λ v. CommandKeys x (repeat r b) ks v) (ok_same c2.2) (repeats r b ks (subst (λ v. BlockKeys x b ks v) back w.1)),
        elim [ zero ↦ λ lt. w.0 | suc i ↦ λ lt. absurd (omega arith) ],
      )

  run_sound : (p : ℕ) (bs : List ℕ) (ks ks' : Keys) → p < length x.below → command_keys check x place (run p bs) ks ≡ Ok ks' → Derived (run p bs) ks ks'
  run_sound p bs ks ks' lt e =
      let q : Part = part_of x p in
      let c1 = bound (need (distinct (take q.handles bs)) (key_fault BoundTwice place)) _ ks' e in
      let c2 = bound (need (all (bound_right x ks q bs) (from 0 q.handles)) (key_fault BoundWrong place)) _ ks' c1.2 in
      let right = λ (i : ℕ) (il : i < q.handles). both (eqb (get_or x.running.kinds (get_or bs i 0) 0) (get_or q.kinds i 0)) (eqb (at ks (get_or bs i 0)) (at q.ins i))
      (below (bound_right x ks q bs) q.handles i (needed _ _ c2.0 c2.1) il) in (
        subst (λ v. CommandKeys x (run p bs) ks v) (ok_same c2.2) (runs p bs ks lt (record {
          different = different (take q.handles bs) (needed _ _ c1.0 c1.1);
          kinds = λ i il. same_number _ _ (right i il).0;
          stations = λ i il. same_number _ _ (right i il).1;
        })),
        no_blocks x d,
      )

  keys_sound : Faithful x d check → (c : Command) (ks ks' : Keys) → Whole c → InRange x c → command_keys check x place c ks ≡ Ok ks' → Derived c ks ks'
  keys_sound sound (send h l r) ks ks' whole ok e = send_sound h l r ks ks' e
  keys_sound sound (ask h l bs) ks ks' whole ok e = ask_sound sound h l bs ks ks' whole e
  keys_sound sound (repeat r b) ks ks' whole ok e = repeat_sound sound r b ks ks' e
  keys_sound sound (run p bs) ks ks' whole ok e = run_sound p bs ks ks' ok.0 e
  keys_sound sound (store r v) ks ks' whole ok e = (subst (λ w. CommandKeys x (store r v) ks w) (ok_same e) (stores r v ks), no_blocks x d)
  keys_sound sound (dec r) ks ks' whole ok e = (subst (λ w. CommandKeys x (dec r) ks w) (ok_same e) (decs r ks), no_blocks x d)
  keys_sound sound (cue n) ks ks' whole ok e = (subst (λ w. CommandKeys x (cue n) ks w) (ok_same e) (cues n ks), no_blocks x d)
  keys_sound sound (fail c) ks ks' whole ok e = (subst (λ w. CommandKeys x (fail c) ks w) (ok_same e) (fails c ks), no_blocks x d)

-- a command that passes, before its keys too
command_sound : (x : Scope) (ranged : (h : ℕ) → Ranged (table_at x h)) (d place : ℕ) (check : Checks) (c : Command) (ks ks' : Keys) → Faithful x (suc d) check → Whole c →
    check_command check x d place c ks ≡ Ok ks' → InRange x c × Shallow d c × CommandKeys x c ks ks' × BlocksLaid x (suc d) c
command_sound x ranged d place check c ks ks' sound whole e =
    let c1 = bound (need (in_range x c) (layout_fault OutOfRange place)) _ ks' e in
    let c2 = bound (need (depth_fits d c) (layout_fault TooDeep place)) _ ks' c1.2 in
    let ok : InRange x c = range_so x c (needed _ _ c1.0 c1.1) in
    let w = keys_sound x ranged (suc d) check place sound c ks ks' whole ok c2.2 in
    (ok, depth_so d c (needed _ _ c2.0 c2.1), w.0, w.1)

read_sound : (x : Scope) (ranged : (h : ℕ) → Ranged (table_at x h)) (n d : ℕ) → ((d : ℕ) → Faithful x d (check_block n x d)) →
    (b : Block) (ks ks' : Keys) (q : Read) → first b ≡ q → check_read (check_block n x (suc d)) (check_block n x d) x d b ks q ≡ Ok ks' → LaidOut x d b × BlockKeys x b ks ks'
read_sound x ranged n d ih b ks ks' nothing e ok = (laid_end d b e, subst (λ v. BlockKeys x b ks v) (ok_same ok) (ends b ks e))
read_sound x ranged n d ih b ks ks' broken e ok = absurd (err_ok ok)
read_sound x ranged n d ih b ks ks' (command c rest) e ok =
    let c1 = bound (check_command (check_block n x (suc d)) x d b.place c ks) _ ks' ok in
    let w = command_sound x ranged d b.place (check_block n x (suc d)) c ks c1.0 (ih (suc d)) (reads_within b c rest e).whole c1.1 in
    let r = ih d rest c1.0 ks' c1.2 in
    (laid_then d b c rest e w.0 w.1 w.3 r.0, goes_on b c rest ks c1.0 ks' e w.2 r.1)

pub block_sound : (x : Scope) → ((h : ℕ) → Ranged (table_at x h)) → (n d : ℕ) → Faithful x d (check_block n x d)
block_sound x ranged zero d b ks ks' e = absurd (err_ok e)
block_sound x ranged (suc n) d b ks ks' e = read_sound x ranged n d (block_sound x ranged n) b ks ks' (first b) refl e

-- A block that is laid out and derived

-- it passes what the key rules derive
abbrev Passing : Scope → Checks → Block → Type 0
Passing x check b = (ks ks' : Keys) → BlockKeys x b ks ks' → check b ks ≡ Ok ks'

module _ (x : Scope) (ranged : (h : ℕ) → Ranged (table_at x h)) (check : Checks) (place : ℕ) where
  send_complete : (h l r t : ℕ) (ks : Keys) → Allowed (table_at x h) (at ks h) l → ((a u : ℕ) → table_at x h (at ks h) l a ≡ Some u → u ≡ t) →
      command_keys check x place (send h l r) ks ≡ Ok (set ks h t)
  send_complete h l r t ks al one =
      let E : Table = table_at x h in
      let ts : List (Option ℕ) = successors E (at ks h) l in
      let line : (a : ℕ) → get_or ts a None ≡ E (at ks h) l a = row E (ranged h) (at ks h) l in
      met (allowed E (at ks h) l) _ _ (allowed_ranged E (ranged h) (at ks h) l al)
      ∙ ap (λ o. or_fault o (key_fault AnswersDiffer place) >>= (λ u. Ok (set ks h u)))
      (all_agreed ts t al.0 al.1 (line al.0 ∙ al.2) (λ a u q. one a u (sym (line a) ∙ q)))

  ask_complete : (h l : ℕ) (bs : List Block) (ks ks' : Keys) → Allowed (table_at x h) (at ks h) l →
      ((a t : ℕ) → table_at x h (at ks h) l a ≡ Some t → check (get_or bs a no_block) (set ks h t) ≡ Ok ks') →
      ((a : ℕ) → table_at x h (at ks h) l a ≡ None → (get_or bs a no_block).bytes ≡ []) →
      command_keys check x place (ask h l bs) ks ≡ Ok ks'
  ask_complete h l bs ks ks' al on off =
      let E : Table = table_at x h in
      let ts : List (Option ℕ) = successors E (at ks h) l in
      let line : (a : ℕ) → get_or ts a None ≡ E (at ks h) l a = row E (ranged h) (at ks h) l in
      let w = end_branches check ks h ks' ts bs (λ a t q. on a t (sym (line a) ∙ q)) in
      let some = some_branch check ks h ks' ts bs w.0 al.0 al.1 w.1 (line al.0 ∙ al.2) in
      met (allowed E (at ks h) l) _ _ (allowed_ranged E (ranged h) (at ks h) l al)
      ∙ met (undeclared_empty ts bs) _ _ (all_undeclared ts bs (λ a q. off a (sym (line a) ∙ q)))
      ∙ follows (λ (ends : List Keys). or_fault (join ends) (key_fault EndsDiffer place)) w.1
      ∙ ap (λ o. or_fault o (key_fault EndsDiffer place)) (alike_join check ks h ks' w.0 some w.2)

  run_complete : (p : ℕ) (bs : List ℕ) (ks : Keys) → Binds x (part_of x p) bs ks →
      command_keys check x place (run p bs) ks ≡ Ok (hand_over ks (take (part_of x p).handles bs) (part_of x p).outs)
  run_complete p bs ks bd =
      let q : Part = part_of x p in
      met (distinct (take q.handles bs)) _ _ (are_distinct (take q.handles bs) bd.different)
      ∙ met (all (bound_right x ks q bs) (from 0 q.handles)) _ _
      (all_below (bound_right x ks q bs) q.handles (λ i il.
      and_true (equal_numbers (bd.kinds i il)) (equal_numbers (bd.stations i il))))

  keys_complete : {c : Command} {ks ks' : Keys} → CommandKeys x c ks ks' → Whole c → ((i : ℕ) → i < length (blocks c) → Passing x check (get_or (blocks c) i no_block)) →
      command_keys check x place c ks ≡ Ok ks'
  keys_complete (sends h l r t ks al one) whole pass = send_complete h l r t ks al one
  keys_complete (asks h l bs ks ks' al on off) whole pass =
      ask_complete h l bs ks ks' al (λ a t q. let lt = (ranged h (at ks h) l a t q).2 in pass a (omega (arith, lt, whole)) (set ks h t) ks' (on a t q)) off
  keys_complete (repeats r b ks k) whole pass =
      follows (λ (end : Keys). need (same end ks) (key_fault RepeatDiffers place) >>= (λ _. Ok ks)) (pass 0 (omega arith) ks ks k)
      ∙ met (same ks ks) _ _ (same_self ks)
  keys_complete (runs p bs ks lt bd) whole pass = run_complete p bs ks bd
  keys_complete (stores r v ks) whole pass = refl
  keys_complete (decs r ks) whole pass = refl
  keys_complete (cues n ks) whole pass = refl
  keys_complete (fails c ks) whole pass = refl

-- with the bound, every shorter block that is laid out and derived passes
abbrev pub Complete : Scope → ℕ → Type 0
Complete x n = (d : ℕ) (b : Block) (ks ks' : Keys) → length b.bytes < n → LaidOut x d b → BlockKeys x b ks ks' → check_block n x d b ks ≡ Ok ks'

read_complete : (x : Scope) → ((h : ℕ) → Ranged (table_at x h)) → (n : ℕ) → Complete x n → {d : ℕ} {b : Block} (ks ks' : Keys) → length b.bytes < suc n →
    LaidOut x d b → BlockKeys x b ks ks' → check_read (check_block n x (suc d)) (check_block n x d) x d b ks (first b) ≡ Ok ks'
read_complete x ranged n ih ks ks' lt (laid_end d b e) keys = ap (check_read (check_block n x (suc d)) (check_block n x d) x d b ks) e ∙ ap Ok (end_derived x keys e)
read_complete x ranged n ih ks ks' lt (laid_then d b c rest e inside fits laid more) keys =
    let w = first_derived x c rest keys e in
    let r = reads_within b c rest e in
    let check : Checks = check_block n x (suc d) in
    ap (check_read (check_block n x (suc d)) (check_block n x d) x d b ks) e
    ∙ follows (λ k. check_block n x d rest k)
    (met (in_range x c) _ _ (range_passes x c inside)
    ∙ met (depth_fits d c) _ _ (depth_passes d c fits)
    ∙ keys_complete x ranged check b.place w.1 r.whole
    (λ i il k k' ks. ih (suc d) (get_or (blocks c) i no_block) k k' (omega (arith, r.blocks_shorter i, lt)) (laid i il) ks))
    ∙ ih d rest w.0 ks' (omega (arith, r.rest_shorter, lt)) more w.2

pub block_complete : (x : Scope) → ((h : ℕ) → Ranged (table_at x h)) → (n : ℕ) → Complete x n
block_complete x ranged zero d b ks ks' lt laid keys = absurd (omega arith)
block_complete x ranged (suc n) d b ks ks' lt laid keys = read_complete x ranged n (block_complete x ranged n) ks ks' lt laid keys
