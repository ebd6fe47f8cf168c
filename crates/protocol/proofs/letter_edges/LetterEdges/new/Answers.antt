use Rattle.std.proofs.Common.{◌≡◌, ℕ, zero, suc, Bool, true, false, cond, ◌&&◌, ltb, get_or, replicate, None, Option, refl}
use Rattle.protocol.specs.Slots.{slot_of}
use Rattle.protocol.proofs.letter_edges.LetterEdges.new.Goals as goal

none_at : (n i : ℕ) → get_or (replicate {A = Option ℕ} n None) i None ≡ None
none_at zero i = refl
none_at (suc n) zero = refl
none_at (suc n) (suc i) = none_at n i

either : (b : Bool) (o : Option ℕ) → o ≡ None → cond b o None ≡ None
either true o e = e
either false o e = refl

pub returns : goal.returns
returns c s a = either (ltb s 16 && ltb a 4) (get_or (replicate 64 None) (slot_of s a) None) (none_at 64 (slot_of s a))
