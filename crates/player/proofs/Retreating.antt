-- Fault exits, letter by letter and port by port.
use Rattle.std.proofs.Common.{◌≡◌, ℕ, zero, suc, ◌+◌, ◌-◌, ◌<◌, ◌≤◌, ◌≢◌, [], ◌∷◌, length, set, sym, refl, ap, ◌∙◌, subst, arith}
use borrow.Rule.Slice.PartMut.{mid_of, put_mid}
use Rattle.protocol.specs.declared.edges.Entry.{Entry}
use Rattle.device.specs.Ports.{Ports, RigHears}
use Rattle.rules.specs.Lists.{from}
use Rattle.machine.specs.Dialogue.{Dialogue, ◌>>=◌, done, entry_in, tells}
use Rattle.machine.specs.Player.{Player, finished, kept, led, tell, with_station}
use Rattle.machine.specs.Exits.{retreat_from, retreat_letter, withdraw, withdraw_all, fault_exit}
use Rattle.machine.specs.Calls.{Log}
use Rattle.player.specs.Told.{Told}
use Rattle.player.proofs.Coming.{Coming, coming_as, coming_done, coming_part, coming_then, told_letter, written_at}

pub bind_assoc : {X Y Z : Type 0} (t : Dialogue X) (f : X → Dialogue Y) (h : Y → Dialogue Z) → ((t >>= f) >>= h) ≡ (t >>= (λ x. f x >>= h))
bind_assoc (done x) f h = refl
bind_assoc (tells p l k) f h = λ j. tells p l (λ a. bind_assoc (k a) f h j)

pub withdrawn : (n i : ℕ) (p : Player) → kept p i ≡ 0 → withdraw n i p ≡ done p
withdrawn zero i p e = refl
withdrawn (suc n) i p e = ap (λ v. retreat_from v (withdraw n i) i p) e

pub withdraws_on : (n i : ℕ) (p : Player) → kept p i ≢ 0 → withdraw (suc n) i p ≡ (tell p i (retreat_letter p i) >>= (λ got. withdraw n i got.1))
withdraws_on n i p ne = by (kept p i) ne
  where
    by : (v : ℕ) → v ≢ 0 → retreat_from v (withdraw n i) i p ≡ (tell p i (retreat_letter p i) >>= (λ got. withdraw n i got.1))
    by zero ne = absurd (ne refl)
    by (suc v) ne = refl

-- one letter of m
pub retreats : {whole : Dialogue Player} {g₀ : Ports} {log₀ : Log} (m k i : ℕ) (p : Player) {g : Ports} {log : Log} {l a : ℕ} {g' : Ports} {e : Entry} {q : Player} →
    Coming whole g₀ log₀ k (withdraw (m - k) i p) g log → k < m → k < length log → kept p i ≢ 0 → l ≡ retreat_letter p i →
    RigHears g i l a g' → e ≡ entry_in g' i l a → q ≡ with_station p i (led p i l a) →
    Coming whole g₀ log₀ (k + 1) (withdraw (m - (k + 1)) i q) g' (set log k e)
retreats {whole} {g₀} {log₀} m k i p {g} {log} {l} {a} {g'} {e} {q} b lt room out letter h at s =
    let n : ℕ = m - (k + 1) in
    let left : m - k ≡ suc n = omega arith in
    let rest : withdraw (m - k) i p ≡ (tell p i l >>= (λ got. withdraw n i got.1)) =
    ap (λ j. withdraw j i p) left ∙ withdraws_on n i p out ∙ ap (λ x. tell p i x >>= (λ got. withdraw n i got.1)) (sym letter) in
    subst (λ (v : Log). Coming whole g₀ log₀ (k + 1) (withdraw n i q) g' v) (written_at log k e room)
    (coming_then (λ (got : ℕ × Player). withdraw n i got.1) (coming_as rest b) (e ∷ [], told_letter p g i l h at s, refl, refl))

pub retreated : {whole : Dialogue Player} {g₀ : Ports} {log₀ : Log} (m k i : ℕ) (p : Player) {g : Ports} {log : Log} →
    Coming whole g₀ log₀ k (withdraw (m - k) i p) g log → k ≡ m → Told whole g₀ log₀ m p g log
retreated {whole} {g₀} {log₀} m k i p {g} {log} b all =
    let none : m - k ≡ 0 = omega (arith, all) in
    subst (λ n. Told whole g₀ log₀ n p g log) all (coming_done (coming_as (ap (λ j. withdraw j i p) none) b))

-- Port by port

-- the ports from one on, below another, are left
abbrev pub Exiting : Player → Ports → Log → ℕ → ℕ → ℕ → Player → Ports → Log → Type 0
Exiting p₀ g₀ log₀ k i e p g log = Coming (fault_exit p₀) g₀ log₀ k (withdraw_all (from i (e - i)) p >>= (λ q. done (finished q))) g log

module _ (p₀ : Player) (g₀ : Ports) (log₀ : Log) (k i e : ℕ) (p : Player) (g : Ports) (log : Log) (b : Exiting p₀ g₀ log₀ k i e p g log) where
  pub exits_more : i < e → {n : ℕ} {q : Player} {g' : Ports} {log' : Log} → Told (withdraw 15 i p) g (mid_of k (length log - k) log) n q g' log' →
      Exiting p₀ g₀ log₀ (k + n) (i + 1) e q g' (put_mid k (length log - k) log log')
  exits_more lt {n} {q} {g'} {log'} d =
      let next : suc i ≡ i + 1 = omega arith in
      let left : e - i ≡ suc (e - (i + 1)) = omega arith in
      let others : Player → Dialogue Player = λ x. withdraw_all (from (suc i) (e - (i + 1))) x in
      let rest : (withdraw_all (from i (e - i)) p >>= (λ x. done (finished x))) ≡ (withdraw 15 i p >>= (λ x. others x >>= (λ y. done (finished y)))) =
      ap (λ m. withdraw_all (from i m) p >>= (λ x. done (finished x))) left ∙ bind_assoc (withdraw 15 i p) others (λ x. done (finished x)) in
      subst (λ j. Coming (fault_exit p₀) g₀ log₀ (k + n) (withdraw_all (from j (e - (i + 1))) q >>= (λ x. done (finished x))) g' (put_mid k (length log - k) log log')) next
      (coming_part (λ x. others x >>= (λ y. done (finished y))) (coming_as rest b) d)

  pub exited : e ≤ i → {q : Player} → q ≡ finished p → Told (fault_exit p₀) g₀ log₀ k q g log
  exited le s =
      let none : e - i ≡ 0 = omega arith in
      subst (λ (x : Player). Told (fault_exit p₀) g₀ log₀ k x g log) (sym s) (coming_done (coming_as (ap (λ n. withdraw_all (from i n) p >>= (λ x. done (finished x))) none) b))
