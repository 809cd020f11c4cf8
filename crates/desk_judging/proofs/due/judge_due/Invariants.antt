use Rattle.std.proofs.Common.{◌≡◌}
use Rattle.board_definitions.specs.Pins.{HasNoPin}
use Rattle.desk_definitions.specs.Judged.{IsJudged}
use Rattle.desk_judging.specs.Findings.{findings_by}
use Rattle.desk_judging.proofs.Waiting.{waiting}
use Rattle.desk_judging.proofs.due.judge_due.Given as goal

abbrev pub invariant-loop : goal.invariant-loop
invariant-loop l = record {
  judged : IsJudged l.fn.board.fixed.rules (findings_by l.fn.bench) l.caller l.fn.board.history l.board.history;
  no_pin : HasNoPin l.board.history l.caller;
  fixed_stays : l.board.fixed ≡ l.fn.board.fixed;
  budget_stays : l.bench ≡ l.fn.bench;
}

abbrev pub decreases-loop : goal.decreases-loop
decreases-loop l = waiting l.board.history
