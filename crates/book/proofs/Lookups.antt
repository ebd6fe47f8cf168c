-- What is looked up in a list of retreats is one of the list.
use Rattle.std.proofs.Common.{◌≡◌, ℕ, true, eqb, List, is_some, Some, sym, ap, ◌∙◌, subst}
use Rattle.protocol.specs.Lists.{Apart}
use Rattle.protocol.proofs.Tests.{some_of, same_number, equal_numbers}
use Rattle.protocol.proofs.Lists.{In, apart_same}
use Rattle.protocol.proofs.Firsts.{first_found, first_there}
use Rattle.book.specs.declared.automaton.Retreat.{Retreat}
use Rattle.book.specs.Kinds.{retreat_of}
use Rattle.book.specs.Lawful.{SameStation}

pub retreat_found : (rs : List Retreat) (s : ℕ) (r : Retreat) → retreat_of rs s ≡ Some r → In r rs × (r.station ≡ s)
retreat_found rs s r q =
    let w = first_found (λ (v : Retreat). eqb v.station s) (λ (v : Retreat). v) rs r q in
    let at_home : w.0.station ≡ s = same_number w.0.station s w.2 in
    (subst (λ v. In v rs) w.3 w.1, subst (λ (v : Retreat). v.station ≡ s) w.3 at_home)

pub retreat_there : (rs : List Retreat) (r : Retreat) (s : ℕ) → In r rs → r.station ≡ s → is_some (retreat_of rs s) ≡ true
retreat_there rs r s m p = first_there (λ (v : Retreat). eqb v.station s) (λ (v : Retreat). v) rs r m (equal_numbers p)

-- where no two are of one station
pub retreat_is : (rs : List Retreat) → Apart SameStation rs → (r : Retreat) (s : ℕ) → In r rs → r.station ≡ s → retreat_of rs s ≡ Some r
retreat_is rs new r s m p =
    let w = some_of (retreat_of rs s) (retreat_there rs r s m p) in
    let f = retreat_found rs s w.0 w.1 in
    w.1 ∙ ap (λ (v : Retreat). Some v) (apart_same SameStation (λ x y h. sym h) rs new w.0 r f.0 m (f.1 ∙ sym p))
