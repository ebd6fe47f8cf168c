-- A port's entries: how they join, and what one more does.
use Rattle.std.proofs.Common.{◌≡◌, ℕ, suc, ◌+◌, ◌%◌, ◌^◌, ◌<◌, ◌≤◌, Bool, true, false, cond, eqb, ◌≢◌, List, [], ◌∷◌, ◌++◌, length, take, drop, Some, sym, refl, ap, ◌∙◌, subst, arith, length-append}
use Rattle.std.proofs.lemmas.List.{take-append-drop}
use Rattle.protocol.specs.declared.edges.Entry.{Entry}
use Rattle.protocol.specs.Paths.{Path, of_port}
use Rattle.protocol.specs.Tables.{Ranged, Table}
use Rattle.protocol.proofs.Tests.{equal_numbers, other_numbers}
use Rattle.protocol.proofs.Balance.{balance}
use Rattle.device.specs.Meaning.{Meaning, moved}
use Rattle.machine.specs.Promise.{HeardExactly, PortKept, last_answer, last_letter, last_station, memory_after}

-- Entries of a port

pub of_port_append : (i : ℕ) (xs ys : List Entry) → of_port i (xs ++ ys) ≡ of_port i xs ++ of_port i ys
of_port_append i [] ys = refl
of_port_append i (x ∷ xs) ys = by (eqb x.port i) (of_port_append i xs ys)
  where
    by : (b : Bool) → of_port i (xs ++ ys) ≡ of_port i xs ++ of_port i ys →
        cond b (x ∷ of_port i (xs ++ ys)) (of_port i (xs ++ ys)) ≡ cond b (x ∷ of_port i xs) (of_port i xs) ++ of_port i ys
    by true ih = ap (λ (r : List Entry). x ∷ r) ih
    by false ih = ih

pub of_port_length : (i : ℕ) (xs : List Entry) → length (of_port i xs) ≤ length xs
of_port_length i [] = omega arith
of_port_length i (x ∷ xs) = by (eqb x.port i) (of_port_length i xs)
  where
    by : (b : Bool) → length (of_port i xs) ≤ length xs → length (cond b (x ∷ of_port i xs) (of_port i xs)) ≤ suc (length xs)
    by true ih = omega (arith, ih)
    by false ih = omega (arith, ih)

pub one_here : (i : ℕ) (e : Entry) → e.port ≡ i → of_port i (e ∷ []) ≡ e ∷ []
one_here i e h = ap (λ b. cond b (e ∷ []) []) (equal_numbers h)

pub one_other : (i : ℕ) (e : Entry) → e.port ≢ i → of_port i (e ∷ []) ≡ []
one_other i e h = ap (λ b. cond b (e ∷ []) []) (other_numbers e.port i h)

-- One more entry

path_more : (e : Table) (s t : ℕ) (es : List Entry) (x : Entry) → Path e s es t → e t x.letter x.answer ≡ Some x.station →
    Path e s (es ++ (x ∷ [])) x.station
path_more e s t [] x p h = (ap (λ v. e v x.letter x.answer) p ∙ h, refl)
path_more e s t (y ∷ es) x p h = (p.0, path_more e y.station t es x p.1 h)

letter_more : (l : ℕ) (es : List Entry) (x : Entry) → last_letter l (es ++ (x ∷ [])) ≡ x.letter
letter_more l [] x = refl
letter_more l (y ∷ es) x = letter_more y.letter es x

answer_more : (a : ℕ) (es : List Entry) (x : Entry) → last_answer a (es ++ (x ∷ [])) ≡ x.answer
answer_more a [] x = refl
answer_more a (y ∷ es) x = answer_more y.answer es x

memory_more : (rule : List ℕ → ℕ → ℕ → List ℕ) (mem : List ℕ) (es : List Entry) (x : Entry) →
    memory_after rule mem (es ++ (x ∷ [])) ≡ rule (memory_after rule mem es) x.letter x.answer
memory_more rule mem [] x = refl
memory_more rule mem (y ∷ es) x = memory_more rule (rule mem y.letter y.answer) es x

pub path_last : (e : Table) (s t : ℕ) (es : List Entry) → Path e s es t → last_station s es ≡ t
path_last e s t [] p = p
path_last e s t (x ∷ es) p = path_last e x.station t es p.1

one_more_heard : (h k n : ℕ) → k ≡ (h + n) % 2 ^ 32 → (k + 1) % 2 ^ 32 ≡ (h + (n + 1)) % 2 ^ 32
one_more_heard h k n e = omega (arith, e)

-- A device, by its meaning at first and now, followed these entries: it is not jammed, heard them, and they are a path to its station.
pub record Followed (m m' : Meaning) (es : List Entry) : Type 0 where
  pub not_jammed : m'.station < 16
  pub heard : HeardExactly m m' es
  pub legal : Path m.table 0 es m'.station

-- a declared answer is one entry more
pub follows_more : (m m' : Meaning) (es : List Entry) (x : Entry) → Ranged m.table → Followed m m' es → m.table m'.station x.letter x.answer ≡ Some x.station →
    Followed m (moved m' x.letter x.answer x.station) (es ++ (x ∷ []))
follows_more m m' es x ranged k step = record {
  not_jammed = (ranged m'.station x.letter x.answer x.station step).3;
  heard = record {
    table = k.heard.table;
    rule = k.heard.rule;
    heard = one_more_heard m.heard m'.heard (length es) k.heard.heard ∙ ap (λ n. (m.heard + n) % 2 ^ 32) (sym (length-append es (x ∷ [])));
    letter = sym (letter_more m.letter es x);
    answer = sym (answer_more m.answer es x);
    memory = ap (λ (r : List ℕ → ℕ → ℕ → List ℕ). r m'.memory x.letter x.answer) k.heard.rule
        ∙ ap (λ (v : List ℕ). m.rule v x.letter x.answer) k.heard.memory ∙ sym (memory_more m.rule m.memory es x);
  };
  legal = path_more m.table 0 m'.station es x k.legal step;
}

-- The first entries

path_first : (e : Table) (s t : ℕ) (xs ys : List Entry) → Path e s (xs ++ ys) t → Path e s xs (last_station s xs)
path_first e s t [] ys p = refl
path_first e s t (x ∷ xs) ys p = (p.0, path_first e x.station t xs ys p.1)

-- those of a port among the first so many begin its own
first_own : (i k : ℕ) (js : List Entry) → of_port i js ≡ of_port i (take k js) ++ of_port i (drop k js)
first_own i k js = ap (of_port i) (sym (take-append-drop k js)) ∙ of_port_append i (take k js) (drop k js)

pub port_kept : (js : List Entry) (i : ℕ) (m m' : Meaning) → Followed m m' (of_port i js) → PortKept js i m m'
port_kept js i m m' f = record {
  not_jammed = f.not_jammed;
  heard = f.heard;
  legal = f.legal;
  balanced = λ k.
      let p = path_first m.table 0 m'.station (of_port i (take k js)) (of_port i (drop k js)) (subst (λ (x : List Entry). Path m.table 0 x m'.station) (first_own i k js) f.legal) in
      record { legal = p; even = balance m.table (of_port i (take k js)) (last_station 0 (of_port i (take k js))) p };
}
