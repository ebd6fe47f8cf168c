-- The simulated projector hears as a device does.
use Rattle.std.proofs.Common.{◌≡◌, ℕ, zero, suc, ◌+◌, ◌%◌, ◌^◌, ◌<◌, Bool, true, false, cond, eqb, List, is_some, unwrap_or, sym, refl, ap, subst, arith}
use Rattle.protocol.specs.Lists.{Each}
use Rattle.protocol.specs.Tables.{allowed}
use Rattle.protocol.proofs.Tests.{cases, some_of}
use Rattle.device.specs.declared.projector.Projector.{Projector}
use Rattle.device.specs.Meaning.{Meaning, Hears}
use Rattle.device.specs.Projector.{projector_edges, projector_table, projected, projector_meaning, replies_of, next_reply, answer_of, arrived}
use Rattle.protocol.proofs.Ranges.{each_led}
use Rattle.device.specs.Kept.{projector_ranged}
use Rattle.protocol.proofs.Answers.{allows}
use Rattle.device.proofs.Hearing.{not_allowed, moves_to, jams_so}

-- where a letter is allowed, the lamp's has the answers 0 to 2 and any other has 0
abbrev Answered : ℕ → ℕ → ℕ → ℕ → Type 0
Answered s l a t = (r : ℕ) → r < 3 → is_some (projector_table s l (cond (eqb l 3) r 0)) ≡ true

lamp : Answered 2 3 0 0
lamp zero lt = refl
lamp (suc zero) lt = refl
lamp (suc (suc zero)) lt = refl
lamp (suc (suc (suc r))) lt = absurd (omega arith)

each_answered : Each (λ e. Answered e.from e.letter e.answer e.to) projector_edges
each_answered = (λ r lt. refl, (λ r lt. refl, (λ r lt. refl, (lamp, (lamp, (lamp, (λ r lt. refl, (λ r lt. refl, (λ r lt. refl, (λ r lt. refl, tt))))))))))

answered : (s l : ℕ) → allowed projector_table s l ≡ true → (r : ℕ) → r < 3 → is_some (projector_table s l (cond (eqb l 3) r 0)) ≡ true
answered s l h = let w = allows projector_table s l h in each_led Answered projector_edges each_answered s l w.0 w.1 w.2

reply_small : (rs : List ℕ) → next_reply rs < 3
reply_small rs = omega arith

-- 255 is declared for no letter
nowhere : (s l : ℕ) → arrived s l 255 ≡ 16
nowhere s l = cases (projector_table s l 255)
    (λ t e. let lt : 255 < 4 = (projector_ranged s l 255 t e).2 in absurd (omega arith))
    (λ e. ap (λ o. unwrap_or o 16) e)

hears : (p : Projector) (l : ℕ) → Hears (projector_meaning p) l (answer_of p l) (projected (arrived p.station l (answer_of p l)) ((p.tally.heard + 1) % 2 ^ 32) l (answer_of p l))
hears p l = by (allowed projector_table p.station l) refl
  where
    given : ℕ
    given = cond (eqb l 3) (next_reply (replies_of p)) 0

    by : (b : Bool) → allowed projector_table p.station l ≡ b →
        Hears (projector_meaning p) l (cond b given 255) (projected (arrived p.station l (cond b given 255)) ((p.tally.heard + 1) % 2 ^ 32) l (cond b given 255))
    by true e =
        let w = some_of (projector_table p.station l given) (answered p.station l e (next_reply (replies_of p)) (reply_small (replies_of p))) in
        moves_to _ _ l given w.0 w.1 (ap (λ o. projected (unwrap_or o 16) ((p.tally.heard + 1) % 2 ^ 32) l given) w.1)
    by false e = jams_so _ _ l 255 (not_allowed projector_table projector_ranged p.station l e) refl
        (ap (λ t. projected t ((p.tally.heard + 1) % 2 ^ 32) l 255) (nowhere p.station l))

pub projector_hears : (p : Projector) (m : Meaning) (l a s : ℕ) → m ≡ projector_meaning p → a ≡ answer_of p l → s ≡ arrived m.station l a →
    Hears (projector_meaning p) l a (projected s ((m.heard + 1) % 2 ^ 32) l a)
projector_hears p m l a s q e t =
    subst (λ (n : Meaning). s ≡ arrived n.station l a → Hears (projector_meaning p) l a (projected s ((n.heard + 1) % 2 ^ 32) l a)) (sym q)
    (λ w. subst (λ (v : ℕ). Hears (projector_meaning p) l a (projected v ((p.tally.heard + 1) % 2 ^ 32) l a)) (sym w)
    (subst (λ (v : ℕ). Hears (projector_meaning p) l v (projected (arrived p.station l v) ((p.tally.heard + 1) % 2 ^ 32) l v)) (sym e) (hears p l)))
    t
