use Rattle.rules.specs.State.{mainframe}
use Rattle.layout.specs.Areas.{state_in}
use Rattle.run_list.proofs.Stepping.{StepsLeft}
use Rattle.run_list.proofs.run_steps.Given as goal

-- the records from i on bring the answers and the areas to where all of them do
abbrev pub invariant-loop-i : goal.invariant-loop-i
invariant-loop-i l =
    StepsLeft l.bytes l.n (state_in mainframe l.fn.clocks l.fn.words l.fn.records l.fn.marks) l.fn.answers l.answers l.clocks l.words l.records l.marks l.index l.i
