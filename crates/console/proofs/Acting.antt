-- The entries of a go or a strike stand in its log.
use Rattle.std.proofs.Common.{◌≡◌, ℕ, ◌+◌, ◌≤◌, List, ◌++◌, length, take, drop, Ok, Err, OnErr, Result, ap, ◌∙◌, arith, length-append}
use Rattle.std.proofs.lemmas.List.{take-append-le}
use Rattle.faults.specs.declared.fault.Fault.{Fault}
use Rattle.protocol.specs.declared.edges.Entry.{Entry}
use Rattle.device.specs.Ports.{Ports}
use Rattle.machine.specs.declared.report.Report.{Report}
use Rattle.machine.specs.Calls.{Goes, Log, Strikes, written}
use Rattle.machine.specs.Player.{Player}
use Rattle.console.specs.declared.answer.Answer.TheVariants.{Went, Struck}
use Rattle.console.specs.Acts.{letters_in}

few : (letters : ℕ) (es : List Entry) (log log' : Log) → letters ≡ length es → log' ≡ written es log → letters ≤ length log'
few letters es log log' n w =
    let whole : length log' ≡ length es + length (drop (length es) log) = ap length w ∙ length-append es (drop (length es) log) in
    omega (arith, n, whole)

-- what is behind a call's log is not among its entries
module _ (p : Player) (g : Ports) (log : Log) (p' : Player) (g' : Ports) (log' behind : Log) where
  pub went_in : (n : ℕ) (r : Result Report Fault) (own : ℕ) → Goes p n g log r own p' g' log' → take (letters_in (Went r)) (log' ++ behind) ≡ take (letters_in (Went r)) log'
  went_in n (Ok r) own d = take-append-le r.letters log' behind (few r.letters d.1.0 log log' d.1.2 d.1.3)
  went_in n (Err e) own d = take-append-le 0 log' behind (omega arith)

  pub struck_in : (r : Result ℕ Fault) → Strikes p g log r p' g' log' → take (letters_in (Struck r)) (log' ++ behind) ≡ take (letters_in (Struck r)) log'
  struck_in (Ok k) d = take-append-le k log' behind (few k d.1.0 log log' d.1.2 d.1.3)
  struck_in (Err e) d = take-append-le 0 log' behind (omega arith)

  -- a refused call leaves the log, and with it what is behind
  pub unwritten_go : (n : ℕ) (r : Result Report Fault) (own : ℕ) → Goes p n g log r own p' g' log' → OnErr r (log' ++ behind ≡ log ++ behind)
  unwritten_go n (Ok r) own d = tt
  unwritten_go n (Err e) own d = ap (λ l. l ++ behind) d.3

  pub unwritten_strike : (r : Result ℕ Fault) → Strikes p g log r p' g' log' → OnErr r (log' ++ behind ≡ log ++ behind)
  unwritten_strike (Ok k) d = tt
  unwritten_strike (Err e) d = ap (λ l. l ++ behind) d.3
