-- The loop of `take_run`: the steps before i are taken, and the next has this number, whose digits are at hand. Assumes nothing.
use Rattle.std.proofs.Common.{◌-◌}
use Rattle.lines.specs.inner.Needed.{Counted}
use Rattle.forecast_file.proofs.Steps.{StepsGoing}
use Rattle.forecast_file.proofs.take_run.Given as goal

abbrev pub invariant-loop-i : goal.invariant-loop-i
invariant-loop-i l = record {
  going : StepsGoing l.initial.number l.initial.most l.initial.at l.initial.i l.part l.end l.initial.lines l.initial.own l.initial.marks l.number l.most l.at l.i l.lines l.own l.marks;
  counted : Counted l.digits l.len l.number;
}

abbrev pub decreases-loop-i : goal.decreases-loop-i
decreases-loop-i l = l.end - l.i
