-- One line of many is answered, and a writer takes what is printed.
use Rattle.std.proofs.Common.{◌≡◌, ℕ, ◌+◌, ◌<◌, Bool, true, false, if◌then◌else◌, nat_le, List, [], ◌∷◌, ◌++◌, map, length, get_or, drop, Option, sym, refl, ◌∙◌, subst, add-one, append_assoc, ap, Ok, Err, Result, OnOk}
use Rattle.std.proofs.Math.Seq.{drop-cons}
use Rattle.std.proofs.lemmas.List.{append-nil}
use Rattle.protocol.specs.declared.edges.Entry.{Entry}
use Rattle.console.specs.declared.answer.Answer.{Answer}
use Rattle.console.specs.Held.{Held}
use Rattle.console.specs.Lines.{Numbered}
use Rattle.console.specs.Transcripts.{Answers, Told, piece_of, printed, rest_of}

module _ {L : Type 0} (numbered : L → Numbered) (lines : List L) where
  -- what completes the lines behind it completes them with it
  pub turn : (i : ℕ) (line : L) (held held' : Held) (answer : Option Answer) (es : List Entry) (rest : List ℕ) → i < length lines → line ≡ get_or lines i line →
      Answers (numbered line).number held (numbered line).line answer es held' → Told held' (map numbered (drop (i + 1) lines)) rest →
      Told held (map numbered (drop i lines)) (printed answer es ++ rest)
  turn i line held held' answer es rest within is a t =
      let first : drop i lines ≡ line ∷ drop (i + 1) lines = drop-cons lines i line within ∙ (rw (add-one, ← is) refl) in
      subst (λ (ls : List L). Told held (map numbered ls) (printed answer es ++ rest)) (sym first) (answer, es, held', rest, a, t, refl)

split : (b : Bool) (text : List ℕ) → text ≡ (if b then text else []) ++ (if b then [] else text)
split true text = sym (append-nil text)
split false text = refl

-- the piece that is handed on, and the rest, are the text
pub in_two : (text rest : List ℕ) → rest ≡ rest_of text → text ≡ piece_of text ++ rest
in_two text rest left = split (nat_le 65536 (length text)) text ∙ ap (λ r. piece_of text ++ r) (sym left)

-- a text goes on by a piece, and its front is taken
pub moved_on : (taken text piece rest front behind longer : List ℕ) → longer ≡ text ++ piece → longer ≡ front ++ behind → taken ++ (text ++ (piece ++ rest)) ≡ (taken ++ front) ++ (behind ++ rest)
moved_on taken text piece rest front behind longer grown cut =
    ap (λ ys. taken ++ ys) (sym (append_assoc text piece rest) ∙ ap (λ ys. ys ++ rest) (sym grown ∙ cut) ∙ append_assoc front behind rest) ∙ sym (append_assoc taken front (behind ++ rest))

pub on_ok : {X E : Type 0} {P Q : Type 0} (r : Result X E) → (P → Q) → OnOk r P → OnOk r Q
on_ok (Ok x) f p = f p
on_ok (Err e) f p = p
