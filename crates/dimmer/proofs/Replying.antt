-- The dimmer has an answer for every letter that is allowed.
use Rattle.std.proofs.Common.{◌≡◌, ℕ, Bool, true, false, cond, ltb, Some, None, sym, refl, ap, ◌∙◌}
use Rattle.protocol.specs.Tables.{Allowed, Declared, allowed}
use Rattle.protocol.proofs.Answers.{allowed_ranged, allows}
use Rattle.protocol.proofs.Tests.{is_false, none_some}
use Rattle.device.proofs.Replies.{replies}
use Rattle.dimmer.specs.Lamp.{dimmer_edges, dimmer_ranged, dimmer_table, reply_of}

-- a dark lamp may be lit or stay dark
either : (b : Bool) → Declared dimmer_table 1 2 (cond b 1 0)
either true = (1, refl)
either false = (2, refl)

answered : (s v l : ℕ) → Allowed dimmer_table s l → Declared dimmer_table s l (reply_of s v l)
answered s v l = replies dimmer_edges (λ x y. reply_of x v y)
    ((1, refl), ((0, refl), ((0, refl), (either (ltb v 2), (either (ltb v 2), ((2, refl), ((1, refl), tt))))))) s l

pub not_allowed : (s v l a : ℕ) → a ≡ reply_of s v l → None ≡ dimmer_table s l a → Allowed dimmer_table s l → ⊥
not_allowed s v l a r none w =
    let d = answered s v l w in
    none_some (none ∙ ((λ i. dimmer_table s l (r i)) ∙ d.1))

-- so the answer is the reply where its edge leads on, and 255 where it does not

pub replied : (s v l a t : ℕ) → a ≡ reply_of s v l → Some t ≡ dimmer_table s l a → a ≡ cond (allowed dimmer_table s l) (reply_of s v l) 255
replied s v l a t r leads = r ∙ ap (λ b. cond b (reply_of s v l) 255) (sym (allowed_ranged dimmer_table dimmer_ranged s l (a, t, sym leads)))

pub refused : (s v l a : ℕ) → a ≡ reply_of s v l → None ≡ dimmer_table s l a → 255 ≡ cond (allowed dimmer_table s l) (reply_of s v l) 255
refused s v l a r none = ap (λ b. cond b (reply_of s v l) 255) (sym (is_false (allowed dimmer_table s l) (λ h. not_allowed s v l a r none (allows dimmer_table s l h))))
