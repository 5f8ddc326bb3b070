-- Where the run stands after a write, which may have taken nothing. Assumes nothing.
use Rattle.std.proofs.Common.{eq-eqb, ne_eqb}
use Rattle.run_loop.specs.Promises.{wrote_run}
use Rattle.run_loop.proofs.Writing.{wrote_as}
use Rattle.run_loop.proofs.write.Goals as goal
use Rattle.run_loop.proofs.write.Goals.{then-n-eq0, else-n-eq0}

pub returns : goal.returns
unfolding wrote_run
returns c =
    elim c.if-n-eq0.branch [
      | then-n-eq0 w ↦ wrote_as _ _ _ (rw (c.min.ensures, c.saturating_sub.ensures, w.result-is, eq-eqb c.args.n 0 w.if-n-eq0.true))
      | else-n-eq0 w ↦ wrote_as _ _ _ (rw (c.min.ensures, c.saturating_sub.ensures, w.result-is, ne_eqb c.args.n 0 w.if-n-eq0.false))
    ]
