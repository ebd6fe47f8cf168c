use Rattle.std.proofs.Common.{◌≡◌, List, ℕ, [], ◌++◌, map, drop, string_bytes, refl, sym, subst}
use Rattle.std.proofs.KnownBytes.{Appends-nil, Appends-trans}
use Rattle.std.proofs.lemmas.List.{append-nil, drop_all}
use Rattle.std.specs.Io.KnownBytes.{Appends}
use Rattle.console.specs.Held.{Held, nothing_held}
use Rattle.console.specs.Numbered.{numbered}
use Rattle.console.specs.Transcripts.{Told, piece_of}
use Rattle.console.proofs.Turns.{turn, in_two, moved_on, on_ok}
use Rattle.console.proofs.session.answer_lines.Goals as goal

pub loop-next-init : goal.loop-next-init
loop-next-init g c = (
  [],
  Appends-nil (g.W.Write.contents c.args.out.now),
  λ rest t.
      let begun : Told nothing_held (map numbered c.args.asked.now) rest = subst (λ (h : Held). Told h (map numbered c.args.asked.now) rest) c.new-desk.ensures t in
      subst (λ (text : List ℕ). Told nothing_held (map numbered c.args.asked.now) (text ++ rest)) (sym c.new-text.ensures.bytes) begun,
)

pub loop-next-preserved : goal.loop-next-preserved
loop-next-preserved g c =
    let so_far = c.loop-next.invariant in
    let piece = piece_of (string_bytes c.write_answer.new.text) in
    let hands = c.in_ok-hand_on.ensures in (
      so_far.0 ++ piece,
      Appends-trans _ _ _ so_far.0 piece so_far.1 hands.0,
      λ rest t.
          subst (λ (text : List ℕ). Told nothing_held (map numbered c.args.asked.now) text)
          (moved_on so_far.0 (string_bytes c.loop-next.text) _ rest piece _ _ c.in_ok-write_answer.ensures (in_two _ _ hands.1))
          (so_far.2 _ (turn numbered c.args.asked.now _ _ _ _ _ _ rest c.loop-next-test.true c.next-item.is c.in_ok-answer.ensures.answers t)),
    )

pub returns : goal.returns
returns g c =
    let so_far = c.loop-next.invariant in
    let all : drop c.loop-next.next-index c.args.asked.now ≡ [] = drop_all c.loop-next.next-index c.args.asked.now c.loop-next-test.false in
    let text = string_bytes c.loop-next.text in
    let whole : Told nothing_held (map numbered c.args.asked.now) (so_far.0 ++ text) =
    subst (λ (behind : List ℕ). Told nothing_held (map numbered c.args.asked.now) (so_far.0 ++ behind)) (append-nil text) (so_far.2 [] (rw all refl)) in
    on_ok c.write_all.result (λ p. (
      so_far.0 ++ text,
      whole,
      Appends-trans _ _ _ so_far.0 text so_far.1 (subst (λ (bytes : List ℕ). Appends (g.W.Write.contents c.loop-next.out) (g.W.Write.contents c.write_all.new.self) bytes) c.as_bytes.ensures.value p),
    )) c.write_all.ensures.bytes
