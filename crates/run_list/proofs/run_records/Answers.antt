use Rattle.run_list.proofs.Running.{running_laws, refused_run, steps_there, all_run, is_refused, is_accepted}
use Rattle.run_list.proofs.run_records.Goals as goal

pub run_opening-opened-requires : goal.run_opening-opened-requires
run_opening-opened-requires c = search running_laws

pub returns-then-is_err : goal.returns-then-is_err
returns-then-is_err c =
    refused_run _ _ _ c.requires _ _ _ _ c.run_opening-opened.ensures (is_refused _ c.if-is_err.ensures.value)

pub run_steps-requires : goal.run_steps-requires
run_steps-requires c =
    steps_there _ _ _ c.requires _ _ _ _ _ _ _ _ _ _ c.run_opening-opened.ensures (is_accepted _ c.if-is_err.ensures.value)

pub returns : goal.returns
returns c =
    all_run _ _ _ c.requires _ _ _ _ _ _ _ _ _ _ c.run_opening-opened.ensures (is_accepted _ c.if-is_err.ensures.value) _ _ _ _ _ c.run_steps.ensures
