-- The simulated projector's edges, letter by letter.
use Rattle.std.proofs.Common.{◌≡◌, ℕ, Bool, ◌&&◌, eqb, List, [], ◌∷◌, length, map, Some, refl, sym, ap, ◌∙◌}
use Rattle.std.proofs.lemmas.List.{length-map}
use Rattle.std.specs.List.{list_all}
use Rattle.protocol.specs.declared.edges.Edge.{Edge}
use Rattle.protocol.specs.Lists.{all}
use Rattle.protocol.specs.Tables.{Table, EdgeRanged, edge_in_range, edge_count, of_letter, same_option, same_letter}
use Rattle.protocol.proofs.Lists.{all_each}
use Rattle.protocol.proofs.Ranges.{edge_ranged}
use Rattle.protocol.proofs.Letters.{has_listed, new_so}
use Rattle.device.specs.Projector.{edge, projector_edges, projector_table}

all_listed : {X Y : Type 0} (f : X → Y) (g : Y → Bool) (xs : List X) → list_all (λ x. g (f x)) xs ≡ all g (map f xs)
all_listed f g [] = refl
all_listed f g (x ∷ xs) = ap (λ b. g (f x) && b) (all_listed f g xs)

-- the table leads along a way of a letter
abbrev pub leads_along : Table → ℕ → ℕ × ℕ × ℕ → Bool
leads_along t m (from, answer, to) = same_option (t from m answer) (Some to)

pub lists_letter : (ws : List (ℕ × ℕ × ℕ)) (l n : ℕ) (t : Table) (m : ℕ) → map (λ (from, answer, to). edge from l answer to) ws ≡ of_letter l projector_edges → n ≡ edge_count t m →
    (eqb n (length ws) && list_all (leads_along t m) ws) ≡ same_letter projector_table l t m
lists_letter ws l n t m e count =
    let way : ℕ × ℕ × ℕ → Edge = λ w. edge w.0 l w.1 w.2 in
    let leads : Edge → Bool = λ x. same_option (t x.from m x.answer) (Some x.to) in
    let long : length ws ≡ length (map way ws) = sym (length-map ws way) in
    (λ i. eqb (count i) (long i) && all_listed way leads ws i)
    ∙ ap (λ es. eqb (edge_count t m) (length es) && all leads es) e
    ∙ has_listed projector_edges (new_so projector_edges refl) (all_each edge_in_range EdgeRanged edge_ranged projector_edges refl) l t m
