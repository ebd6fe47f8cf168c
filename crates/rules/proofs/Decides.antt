-- Over a book that passes, the check passes the scripts that are laid out and derived, and no others.
use Rattle.std.proofs.Common.{◌≡◌, ℕ, zero, suc, ◌+◌, ◌<◌, ◌≤◌, true, ◌&&◌, eqb, leb, List, [], ◌∷◌, ◌++◌, length, get_or, Ok, Result, sym, refl, ap, ◌∙◌, subst, subst₂, append-nil, zero-le, arith, length-append}
use native.Mathlib.Decide.{ℕ_discrete}
use lib.Seq.{append_snoc, take-append_seam, get_or-append_seam}
use Rattle.faults.specs.declared.fault.Fault.{Fault}
use Rattle.faults.specs.declared.causes.LayoutCause.TheVariants.{TooLong}
use Rattle.faults.specs.declared.causes.KeyCause.TheVariants.{BodyEnd, MainHeld}
use Rattle.faults.specs.Numbers.{nowhere, layout_fault, key_fault}
use Rattle.faults.specs.Results.{need}
use Rattle.faults.proofs.Results.{err_ok, ok_same, bound, needed, follows, met}
use Rattle.protocol.specs.Tables.{Ranged, table_of}
use Rattle.protocol.proofs.Tests.{both, and_true, same_number, equal_numbers, at_most, is_at_most}
use Rattle.book.specs.Kinds.{Kind, no_kind}
use Rattle.rules.specs.Lists.{same}
use Rattle.rules.specs.Script.{Part, no_part, read_part, main_of, Script, Scope, Keys, at}
use Rattle.rules.specs.Check.{check_block, check_body, main_away, check_parts, check_script}
use Rattle.rules.specs.Keys.{LaidOut, BlockKeys, PartAt, Parts, no_more, one_more, scope, Passes, CheckDecides}
use Rattle.rules.proofs.Lists.{below, all_below, same_lists, same_self}
use Rattle.rules.proofs.Ranges.{part_at, part_reads}
use Rattle.rules.proofs.Books.{passed_ranged}
use Rattle.rules.proofs.Blocks.{block_sound, block_complete}

-- Bodies

-- the body is laid out and derived
pub record Stands (x : Scope) : Type 0 where
  pub laid : LaidOut x 1 x.running.body
  pub keys : BlockKeys x x.running.body x.running.ins x.running.outs

-- the part of a number, in a list of which it is the first behind some
here : (book : List Kind) (ps : List Part) (p : Part) (more : List Part) → scope book (ps ++ p ∷ more) (length ps) ≡ record { book = book; below = ps; running = p }
here book ps p more = λ i. record { book = book; below = take-append_seam ps (p ∷ more) i; running = get_or-append_seam ps p more no_part i }

module _ (book : List Kind) (ranged : (i : ℕ) → Ranged (table_of (get_or book i no_kind).edges)) where
  abbrev over : List Part → Part → Scope
  over ps p = record { book = book; below = ps; running = p }

  body_sound : (ps : List Part) (p : Part) (u : Unit {0}) → check_body (over ps p) ≡ Ok u → Stands (over ps p)
  body_sound ps p u e =
      let x : Scope = over ps p in
      let n : ℕ = suc (length p.body.bytes) in
      let c = bound (check_block n x 1 p.body p.ins) _ u e in
      let out : c.0 ≡ p.outs = same_lists c.0 p.outs (needed _ _ u c.2) in
      let w = block_sound x (λ h. ranged (get_or p.kinds h 0)) n 1 p.body p.ins c.0 c.1 in
      record { laid = w.0; keys = subst (λ v. BlockKeys x p.body p.ins v) out w.1 }

  body_complete : (ps : List Part) (p : Part) → Stands (over ps p) → check_body (over ps p) ≡ Ok tt
  body_complete ps p st =
      let x : Scope = over ps p in
      let n : ℕ = suc (length p.body.bytes) in
      follows (λ (end : Keys). need (same end p.outs) (key_fault BodyEnd p.place))
      (block_complete x (λ h. ranged (get_or p.kinds h 0)) n 1 p.body p.ins p.outs (omega arith) st.laid st.keys)
      ∙ ap (λ b. need b (key_fault BodyEnd p.place)) (same_self p.outs)

  -- Parts

  more_length : (ps : List Part) (p : Part) → length (ps ++ (p ∷ [])) ≡ suc (length ps)
  more_length ps p = omega (arith, length-append ps (p ∷ []))

  -- those from the given count on
  abbrev From : ℕ → List Part → Type 0
  From k whole = (i : ℕ) → k ≤ i → i < length whole → Stands (scope book whole i)

  -- the bytes are the parts of the whole behind those already read, and these stand
  record Rest (ps : List Part) (place : ℕ) (bs : List ℕ) (whole : List Part) : Type 0 where
    more : List Part
    whole_is : whole ≡ ps ++ more
    parts : Parts book (length ps) place bs more
    stand : From (length ps) whole

  at_end : (ps : List Part) (place : ℕ) (whole : List Part) → ◌≡◌ {A = Result (List Part) Fault} (Ok ps) (Ok whole) → Rest ps place [] whole
  at_end ps place whole e = record {
    more = [];
    whole_is = sym (ok_same e) ∙ sym (append-nil ps);
    parts = no_more (length ps) place;
    stand = λ i le lt. absurd (omega (arith, ap length (ok_same e), le, lt));
  }

  one_before : (ps : List Part) (place : ℕ) (bs rest : List ℕ) (p : Part) (whole : List Part) → PartAt book (length ps) place bs p rest → Stands (over ps p) →
      Rest (ps ++ (p ∷ [])) (place + (28 + length p.body.bytes)) rest whole → Rest ps place bs whole
  one_before ps place bs rest p whole at_place st r = record {
    more = p ∷ r.more;
    whole_is = is;
    parts = one_more (length ps) place bs rest p r.more at_place (subst (λ k. Parts book k (place + (28 + length p.body.bytes)) rest r.more) (more_length ps p) r.parts);
    stand = λ i le lt. by_case i le lt (ℕ_discrete i (length ps));
  }
    where
      is : whole ≡ ps ++ p ∷ r.more
      is = r.whole_is ∙ append_snoc ps p r.more

      by_case : (i : ℕ) → length ps ≤ i → i < length whole → Dec (i ≡ length ps) → Stands (scope book whole i)
      by_case i le lt (yes q) = subst₂ (λ w v. Stands (scope book w v)) (sym is) (sym q) (subst Stands (sym (here book ps p r.more)) st)
      by_case i le lt (no ne) = r.stand i (omega (arith, more_length ps p)) lt

  parts_sound : (n : ℕ) (ps : List Part) (place : ℕ) (bs : List ℕ) (whole : List Part) → check_parts n book ps place bs ≡ Ok whole → Rest ps place bs whole
  parts_sound zero ps place [] whole e = at_end ps place whole e
  parts_sound zero ps place (c ∷ bs) whole e = absurd (err_ok e)
  parts_sound (suc n) ps place [] whole e = at_end ps place whole e
  parts_sound (suc n) ps place (c ∷ bs) whole e =
      let c1 = bound (read_part book (length ps) place (c ∷ bs)) _ whole e in
      let c2 = bound (check_body (over ps c1.0.0)) _ whole c1.2 in
      one_before ps place (c ∷ bs) c1.0.1 c1.0.0 whole (part_at book (length ps) place (c ∷ bs) c1.0.0 c1.0.1 c1.1) (body_sound ps c1.0.0 c2.0 c2.1) (parts_sound n _ _ c1.0.1 whole c2.2)

  -- one part more, and then the others
  pub parts_step : (n : ℕ) (ps : List Part) (place : ℕ) (bs rest : List ℕ) (p : Part) → PartAt book (length ps) place bs p rest → check_body (over ps p) ≡ Ok tt →
      check_parts (suc n) book ps place bs ≡ check_parts n book (ps ++ (p ∷ [])) (place + (28 + length p.body.bytes)) rest
  parts_step n ps place [] rest p w ok = absurd (omega (arith, w.whole))
  parts_step n ps place (c ∷ bs) rest p w ok = follows _ (part_reads book (length ps) place (c ∷ bs) p rest w) ∙ follows _ ok

  parts_complete : (n : ℕ) (ps : List Part) {k place : ℕ} {bs : List ℕ} {more : List Part} → n + length ps ≡ 17 → k ≡ length ps → Parts book k place bs more →
      From (length ps) (ps ++ more) → check_parts n book ps place bs ≡ Ok (ps ++ more)
  parts_complete zero ps sum kl (no_more k place) st = ap Ok (sym (append-nil ps))
  parts_complete zero ps sum kl (one_more k place bs rest p ps' w next) st = absurd (omega (arith, sum, kl, w.number))
  parts_complete (suc n) ps sum kl (no_more k place) st = ap Ok (sym (append-nil ps))
  parts_complete (suc n) ps sum kl (one_more k place bs rest p ps' w next) st =
      let len = more_length ps p in
      let whole = append_snoc ps p ps' in
      let first : Stands (over ps p) = subst Stands (here book ps p ps') (st (length ps) (omega arith) (omega (arith, length-append ps (p ∷ ps')))) in
      parts_step n ps place bs rest p (subst (λ v. PartAt book v place bs p rest) kl w) (body_complete ps p first)
      ∙ parts_complete n (ps ++ (p ∷ [])) (omega (arith, sum, len)) (ap suc kl ∙ sym len) next
      (λ i il ir. subst (λ w. Stands (scope book w i)) (sym whole) (st i (omega (arith, len, il)) (subst (λ (w : List Part). i < length w) whole ir)))
      ∙ ap Ok whole

  -- Main

  abbrev Away : List Part → Type 0
  Away ps = (h : ℕ) → h < (main_of ps).handles → (at (main_of ps).ins h ≡ 0) × (at (main_of ps).outs h ≡ 0)

  away : (ps : List Part) → main_away ps ≡ true → Away ps
  away ps e h lt =
      let p : Part = main_of ps in
      let w = both (eqb (at p.ins h) 0) (eqb (at p.outs h) 0) (below (λ i. eqb (at p.ins i) 0 && eqb (at p.outs i) 0) p.handles h e lt) in
      (same_number (at p.ins h) 0 w.0, same_number (at p.outs h) 0 w.1)

  is_away : (ps : List Part) → Away ps → main_away ps ≡ true
  is_away ps aw =
      let p : Part = main_of ps in
      all_below (λ i. eqb (at p.ins i) 0 && eqb (at p.outs i) 0) p.handles (λ i lt.
      let w = aw i lt in and_true (equal_numbers w.0) (equal_numbers w.1))

  -- Scripts

  script_sound : (bs : List ℕ) (s : Script) → check_script book bs ≡ Ok s → Passes book bs s
  script_sound bs s e =
      let c1 = bound (need (leb (length bs) 16384) (layout_fault TooLong nowhere)) _ s e in
      let c2 = bound (check_parts 17 book [] 0 bs) _ s c1.2 in
      let c3 = bound (need (main_away c2.0) (key_fault MainHeld (main_of c2.0).place)) _ s c2.2 in
      let r = parts_sound 17 [] 0 bs c2.0 c2.1 in
      subst (Passes book bs) (ok_same c3.2) (record {
        over = refl;
        laid = record {
          short = at_most (length bs) 16384 (needed _ _ c1.0 c1.1);
          parts = subst (Parts book 0 0 bs) (sym r.whole_is) r.parts;
          bodies = λ i lt. (r.stand i zero-le lt).laid;
        };
        derived = record {
          bodies = λ i lt. (r.stand i zero-le lt).keys;
          main = away c2.0 (needed _ _ c3.0 c3.1);
        };
      })

  script_complete : (bs : List ℕ) (s : Script) → Passes book bs s → check_script book bs ≡ Ok s
  script_complete bs s w =
      let ps : List Part = s.parts in
      met (leb (length bs) 16384) _ _ (is_at_most w.laid.short)
      ∙ follows _ (parts_complete 17 [] refl refl w.laid.parts (λ i le lt. record { laid = w.laid.bodies i lt; keys = w.derived.bodies i lt }))
      ∙ met (main_away ps) _ _ (is_away ps w.derived.main)
      ∙ ap (λ b. Ok (record { book = b; parts = ps })) (sym w.over)

pub decides : CheckDecides
decides bb book e bs s = (script_sound book (passed_ranged bb book e) bs s, script_complete book (passed_ranged bb book e) bs s)
