use Rattle.diff.proofs.Applying.{run_there, laying_ends}
use Rattle.diff.proofs.lay.Goals as goal

pub lay_run-requires : goal.lay_run-requires
lay_run-requires c = run_there _ _ _ _ _ _ _ _ c.loop-k.invariant c.loop-k-test.true c.from-offset.ensures c.from-len.ensures

pub returns-clause-memory : goal.returns-clause-memory
returns-clause-memory c = laying_ends _ _ _ _ _ _ c.loop-k.invariant c.loop-k-test.false
