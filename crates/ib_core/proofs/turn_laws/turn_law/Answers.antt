-- The law of one event, clause by clause.
use Rattle.std.proofs.Common.{ap}
use Rattle.ib_core.specs.Responses.{Response}
use Rattle.ib_core.proofs.EachTurn.{turn_kept}
use Rattle.ib_core.proofs.Near.{near_response}
use Rattle.ib_core.proofs.OneWord.{response_same, response_weighs, marks_with}
use Rattle.ib_core.proofs.Pays.{response_pays}
use Rattle.ib_core.proofs.turn_laws.turn_law.Goals as goal

pub returns-clause-reads_one : goal.returns-clause-reads_one
returns-clause-reads_one c event n w m a proper tells =
    let same = response_same n w m a.held proper.single a.phase event tells in (ap (λ (r : Response). r.answer) same, ap (λ (r : Response). r.session) same)

pub returns-clause-marks_one : goal.returns-clause-marks_one
returns-clause-marks_one c event n w m a tells = marks_with n w m a.held a.phase event tells

pub returns-clause-lock_alone : goal.returns-clause-lock_alone
returns-clause-lock_alone c event w m a proper off = response_weighs w a.held a.phase m event proper off

pub returns-clause-elsewhere : goal.returns-clause-elsewhere
returns-clause-elsewhere c event w m a latch f proper other = (near_response a proper.single w m event).away latch other f

pub returns-clause-class : goal.returns-clause-class
returns-clause-class c event w m a proper has stays = (response_pays w m event a proper).class has stays

pub returns-clause-kept : goal.returns-clause-kept
returns-clause-kept c event sessions m m' i a few good at here away = turn_kept m m' sessions i a event few good at here away
