-- A dialogue that has come some way: what is so far stands in the log, and whatever the rest of it comes to completes the whole.
use Rattle.std.proofs.Common.{◌≡◌, ℕ, suc, ◌+◌, ◌-◌, ◌<◌, List, [], ◌∷◌, ◌++◌, length, take, drop, set, sym, refl, ap, ◌∙◌, subst, subst₂, append_assoc, append-nil, arith, length-append}
use Rattle.std.proofs.lemmas.List.{drop-drop, drop_all, set_split, take_rest}
use borrow.Rule.Slice.PartMut.{mid_of, put_mid}
use lib.Seq.{take-append_seam, drop-append_seam}
use Rattle.protocol.specs.declared.edges.Entry.{Entry}
use Rattle.device.specs.Ports.{Ports, RigHears}
use Rattle.machine.specs.Dialogue.{Dialogue, Plays, ◌>>=◌, done, ended, entry_in, told}
use Rattle.machine.specs.Player.{Player, led, tell, with_station}
use Rattle.machine.specs.Calls.{Log, written}
use Rattle.machine.proofs.Dialogues.{plays_then}
use Rattle.player.specs.Told.{Told}

-- so many letters are sent, and the rest is to follow
pub record Coming {X : Type 0} (whole : Dialogue X) (g₀ : Ports) (log₀ : Log) (k : ℕ) (rest : Dialogue X) (g : Ports) (log : Log) : Type 0 where
  pub sofar : List Entry
  pub long : k ≡ length sofar
  pub log_is : log ≡ written sofar log₀
  pub completes : (es : List Entry) (g' : Ports) (x : X) → Plays rest g es g' x → Plays whole g₀ (sofar ++ es) g' x

pub coming_none : {X : Type 0} (t : Dialogue X) (g : Ports) (log : Log) → Coming t g log 0 t g log
coming_none t g log = record { sofar = []; long = refl; log_is = refl; completes = λ es g' x h. h }

-- entries behind others
written_more : (xs es : List Entry) (log : Log) → xs ++ written es (drop (length xs) log) ≡ written (xs ++ es) log
written_more xs es log =
    sym (append_assoc xs es (drop (length es) (drop (length xs) log)))
    ∙ ap (λ (v : Log). (xs ++ es) ++ v) (drop-drop (length es) (length xs) log ∙ ap (λ n. drop n log) (sym (length-append xs es)))

module _ {X : Type 0} {whole : Dialogue X} {g₀ : Ports} {log₀ : Log} {k : ℕ} {g : Ports} {log : Log} where
  pub coming_as : {rest rest' : Dialogue X} → rest ≡ rest' → Coming whole g₀ log₀ k rest g log → Coming whole g₀ log₀ k rest' g log
  coming_as e b = subst (λ (t : Dialogue X). Coming whole g₀ log₀ k t g log) e b

  -- a dialogue within it
  pub coming_then : {Y : Type 0} {t : Dialogue Y} (f : Y → Dialogue X) → Coming whole g₀ log₀ k (t >>= f) g log →
      {n : ℕ} {y : Y} {g' : Ports} {log' : Log} → Told t g (drop k log) n y g' log' → Coming whole g₀ log₀ (k + n) (f y) g' (take k log ++ log')
  coming_then f b {log' = log'} d =
      let es : List Entry = d.0 in
      let front : take k log ≡ b.sofar = ap (λ n. take n log) b.long ∙ ap (take (length b.sofar)) b.log_is ∙ take-append_seam b.sofar _ in
      let back : drop k log ≡ drop (length b.sofar) log₀ = ap (λ n. drop n log) b.long ∙ ap (drop (length b.sofar)) b.log_is ∙ drop-append_seam b.sofar _ in
      record {
        sofar = b.sofar ++ es;
        long = omega (arith, b.long, d.2, length-append b.sofar es);
        log_is =
            ap (λ (v : Log). v ++ log') front
            ∙ ap (λ (v : Log). b.sofar ++ v) (d.3 ∙ ap (written es) back)
            ∙ written_more b.sofar es log₀;
        completes = λ es' g' x h. subst (λ (v : List Entry). Plays whole g₀ v g' x) (sym (append_assoc b.sofar es es')) (b.completes (es ++ es') g' x (plays_then f d.1 h));
      }

  -- one that has the log from there on
  pub coming_part : {Y : Type 0} {t : Dialogue Y} (f : Y → Dialogue X) → Coming whole g₀ log₀ k (t >>= f) g log →
      {n : ℕ} {y : Y} {g' : Ports} {log' : Log} → Told t g (mid_of k (length log - k) log) n y g' log' →
      Coming whole g₀ log₀ (k + n) (f y) g' (put_mid k (length log - k) log log')
  coming_part {t = t} f b {n} {y} {g'} {log'} d =
      let behind : drop (length log - k) (drop k log) ≡ [] = drop-drop (length log - k) k log ∙ drop_all (k + (length log - k)) log (omega arith) in
      subst (λ (v : Log). Coming whole g₀ log₀ (k + n) (f y) g' (take k log ++ v)) (sym (ap (λ (v : Log). log' ++ v) behind ∙ append-nil log'))
      (coming_then f b (subst (λ (v : Log). Told t g v n y g' log') (take_rest log k) d))

  pub coming_done : {x : X} → Coming whole g₀ log₀ k (done x) g log → Told whole g₀ log₀ k x g log
  coming_done {x} b = (
    b.sofar,
    subst (λ (v : List Entry). Plays whole g₀ v g x) (append-nil b.sofar) (b.completes [] g x (ended x g)),
    b.long,
    b.log_is,
  )

-- A letter

pub told_letter : (p : Player) (g : Ports) (i l : ℕ) {a : ℕ} {g' : Ports} {e : Entry} {q : Player} → RigHears g i l a g' → e ≡ entry_in g' i l a →
    q ≡ with_station p i (led p i l a) → Plays (tell p i l) g (e ∷ []) g' (a, q)
told_letter p g i l {a} {g'} h at s =
    subst₂ (λ (x : Entry) (r : Player). Plays (tell p i l) g (x ∷ []) g' (a, r)) (sym at) (sym s)
    (told i l a (λ b. done (b, with_station p i (led p i l b))) g g' g' [] (a, with_station p i (led p i l a)) h (ended _ g'))

pub written_at : (log : Log) (k : ℕ) (e : Entry) → k < length log → take k log ++ written (e ∷ []) (drop k log) ≡ set log k e
written_at log k e lt =
    ap (λ (v : Log). take k log ++ (e ∷ v)) (drop-drop 1 k log ∙ (let z : k + 1 ≡ suc k = omega arith in ap (λ n. drop n log) z)) ∙ sym (set_split log k e lt)
