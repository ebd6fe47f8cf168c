-- What the operands of an ASK are, by their length.
use Rattle.std.proofs.Common.{◌≡◌, ℕ, ◌+◌, ◌≤◌, Bool, true, false, leb, List, [], ◌∷◌, length, get_or, drop, sym, ap, ◌∙◌, arith, length-drop, drop-drop}
use Rattle.std.proofs.lemmas.Bool.Decides.{nat_tests}
use Rattle.rules.specs.Lists.{total, word}
use Rattle.rules.specs.Script.{Block, Code, Read, ASK, command_of, cut, lengths, width, read_operands, broken}
use Rattle.script.specs.Commands.{ask_at}
use Rattle.script.specs.Pieces.{past}

abbrev when : Bool → Read → Read
when b r = elim b [ true ↦ r | false ↦ broken ]

when_same : {t t' : Bool} {x y : Read} → t ≡ t' → x ≡ y → when t x ≡ when t' y
when_same {t} {t'} {x} {y} e f = ap (λ (v : Bool). when v x) e ∙ ap (λ (v : Read). when t' v) f

-- where the operands are there, the blocks behind them decide
operands : (c : Code) (p : ℕ) (bs : List ℕ) → width c ≤ length bs →
    let ns : List ℕ = lengths c bs in
    let tail : Block = record { place = p + width c; bytes = drop (width c) bs } in
    read_operands c p bs ≡ when (leb (total ns) (length tail.bytes)) (command_of c bs (cut tail.place tail.bytes ns) (past (total ns) tail))
operands c p bs le =
    let w : ℕ = width c in
    let n : ℕ = total (lengths c bs) in
    let test : leb (w + n) (length bs) ≡ leb n (length (drop w bs)) = simp length-drop (grind (arith, nat_tests)) in
    let place : p + (w + n) ≡ p + w + n = omega arith in
    let bytes : drop (w + n) bs ≡ drop n (drop w bs) = sym (drop-drop n w bs) in
    when_same test (λ i. command_of c bs (cut (p + w) (drop w bs) (lengths c bs)) (record { place = place i; bytes = bytes i }))

pub is_ask : (p : ℕ) (bs : List ℕ) → 10 ≤ length bs →
    read_operands ASK p bs ≡ ask_at (get_or bs 0 0) (get_or bs 1 0) (word bs 2 ∷ word bs 4 ∷ word bs 6 ∷ word bs 8 ∷ []) (record { place = p + 10; bytes = drop 10 bs })
is_ask p bs n = operands ASK p bs n
