-- The first g pages are fetched. Assumes nothing.
use Rattle.step_collect.proofs.Collecting.{PagesFetching}
use Rattle.step_collect.proofs.fetch_pages.Given as goal

abbrev pub invariant-loop-g : goal.invariant-loop-g
invariant-loop-g l = PagesFetching l.initial.clocks l.initial.words l.records l.marks l.p.0 l.g-end l.clocks l.words l.index l.moved.count l.moved.words l.g
