use Rattle.diff_writer.proofs.Measuring.{measuring_begins, measuring_more, runs_measured, words_measured}
use Rattle.diff_writer.proofs.measure.Goals as goal

pub loop-i-init : goal.loop-i-init
loop-i-init c = measuring_begins _ _ c.requires

pub loop-i-preserved : goal.loop-i-preserved
loop-i-preserved c = measuring_more _ _ _ _ _ _ _ _ c.loop-i.invariant c.loop-i-test.true c.from-this.ensures c.from-runs.ensures

pub returns-clause-runs_value : goal.returns-clause-runs_value
returns-clause-runs_value c = runs_measured _ _ _ _ _ _ c.loop-i.invariant c.loop-i-test.false

pub returns-clause-words_value : goal.returns-clause-words_value
returns-clause-words_value c = words_measured _ _ _ _ _ _ c.loop-i.invariant c.loop-i-test.false
