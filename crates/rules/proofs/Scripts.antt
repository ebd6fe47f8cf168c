-- What a script that passes has.
use Rattle.std.proofs.Common.{◌≡◌, ℕ, ◌<◌, ◌≤◌, length, get_or, arith, lit≤, length-take, get_or-take}
use Rattle.rules.specs.Script.{no_part, main_of, Script, Scope, part_of, at}
use Rattle.rules.specs.Check.{Passed}
use Rattle.rules.specs.Keys.{LaidOut, BlockKeys, scope}
use Rattle.rules.proofs.Reading.{PartSo, parts_so, parts_few}
use Rattle.rules.proofs.Decides.{decides}

abbrev pub scope_at : Script → ℕ → Scope
scope_at s i = scope s.book s.parts i

pub record ScriptSo (s : Script) : Type 0 where
  pub few : length s.parts ≤ 16
  pub parts : (i : ℕ) → i < length s.parts → PartSo (get_or s.parts i no_part)
  pub laid : (i : ℕ) → i < length s.parts → LaidOut (scope_at s i) 1 (get_or s.parts i no_part).body
  pub derived : (i : ℕ) → i < length s.parts →
      BlockKeys (scope_at s i) (get_or s.parts i no_part).body (get_or s.parts i no_part).ins (get_or s.parts i no_part).outs
  pub main : (h : ℕ) → h < (main_of s.parts).handles → (at (main_of s.parts).ins h ≡ 0) × (at (main_of s.parts).outs h ≡ 0)

pub passed_so : (s : Script) → Passed s → ScriptSo s
passed_so s p =
    let w = (decides p.0 s.book p.2 p.1 s).0 p.3 in
    record {
      few = omega (arith, parts_few s.book w.laid.parts (lit≤ tt));
      parts = parts_so s.book w.laid.parts;
      laid = w.laid.bodies;
      derived = w.derived.bodies;
      main = w.derived.main;
    }

-- the parts that a body may run are those below it in the script
pub lower : (s : Script) (i p : ℕ) → p < length (scope_at s i).below → (p < i) × (part_of (scope_at s i) p ≡ get_or s.parts p no_part)
lower s i p lt =
    let before : p < i = omega (arith, length-take i s.parts, lt) in
    (before, get_or-take i s.parts p no_part before)
