use Rattle.std.proofs.Common.{refl, sym, ap}
use Rattle.machine.specs.Runs.{begins, goes, looks, strikes}
use Rattle.script.specs.Held.{script_held}
use Rattle.player.specs.Performing.{request}
use Rattle.script.proofs.Held.{script_passed}
use Rattle.player.proofs.Performing.{go_joins, strike_joins}
use Rattle.player.proofs.player.Player.answer.Goals as goal

pub returns-in-Begin-clause-answers : goal.returns-in-Begin-clause-answers
returns-in-Begin-clause-answers g c = record {
  call = begins (script_held c.in-Begin.script.now) c.begin.result;
  does = (script_passed c.in-Begin.script.now, c.begin.ensures, refl);
  asked = ap request (sym c.in-Begin.is);
  answered = refl;
  joined = refl;
  room = tt;
}

pub returns-in-Go-clause-answers : goal.returns-in-Go-clause-answers
returns-in-Go-clause-answers g c =
    let log' = c.go.new.log in
    let went = c.go.ensures.goes in
    record {
      call = goes c.in-Go.steps c.args.log.now c.go.result went.0 log';
      does = went.1;
      asked = ap request (sym c.in-Go.is);
      answered = refl;
      joined = go_joins c.in-Go.steps went.0 c.args.log.now log' c.go.result;
      room = c.requires;
    }

pub returns-in-Look-clause-answers : goal.returns-in-Look-clause-answers
returns-in-Look-clause-answers g c = record {
  call = looks c.in-Look.port c.look.result;
  does = (c.look.ensures, refl);
  asked = ap request (sym c.in-Look.is);
  answered = refl;
  joined = refl;
  room = tt;
}

pub returns-in-Strike-clause-answers : goal.returns-in-Strike-clause-answers
returns-in-Strike-clause-answers g c = record {
  call = strikes c.args.log.now c.strike.result c.strike.new.log;
  does = c.strike.ensures.strikes;
  asked = ap request (sym c.in-Strike.is);
  answered = refl;
  joined = strike_joins c.args.log.now c.strike.new.log c.strike.result;
  room = c.requires;
}
