-- The run stops where the input has ended, or after 2, 15 or 16. Assumes nothing.
use Rattle.std.proofs.Common.{true, ◌≡◌, ◌||◌, sym, ◌∙◌, le-ltb}
use Rattle.run_loop.specs.Promises.{next_action}
use Rattle.run_loop.proofs.Coming.{next_action_is}
use Rattle.run_loop.proofs.next_action.Goals as goal
use Rattle.run_loop.proofs.next_action.Goals.{then-run-2, else-run-2}

pub returns-then-run-3 : goal.returns-then-run-3
unfolding next_action
returns-then-run-3 c =
    let over : (c.args.run.ended || c.args.run.progress.stopped) ≡ true =
    elim c.if-run-2.branch [ then-run-2 w ↦ rw w.if-run-2.true | else-run-2 w ↦ rw w.if-run-2.false (sym w.value-is ∙ c.if-run-3.true) ] in
    next_action_is _ _ (sym (rw (sym c.is_some.ensures ∙ c.if-is_some.false, le-ltb _ _ c.if-run.false, over)))
