use Rattle.std.proofs.lemmas.Result.{err_from_is_err_and}
use Rattle.forecast_step.proofs.Foreseeing.{counted_foreseen}
use Rattle.forecast_step.proofs.Stepping.{step_fitting, fitting_from, own_entry_read, refused_late}
use Rattle.forecast_step.proofs.refusal_of.Goals as goal

pub early_refusal-requires : goal.early_refusal-requires
early_refusal-requires c = counted_foreseen _ _ c.requires

pub overflow_sub-p : goal.overflow_sub-p
overflow_sub-p c = fitting_from _ _ _ _ _ _ c.requires c.in_ok-kind.ensures.refusal

pub bounds-own-p : goal.bounds-own-p
bounds-own-p c = own_entry_read _ _ _ _ _ _ c.requires c.in_ok-kind.ensures.refusal

pub late_refusal-requires : goal.late_refusal-requires
late_refusal-requires c = step_fitting _ _ _ _ _ _ c.requires c.in_ok-kind.ensures.refusal

pub returns-in_err-late_refusal-clause-refusal : goal.returns-in_err-late_refusal-clause-refusal
returns-in_err-late_refusal-clause-refusal c =
    let p = err_from_is_err_and c.from_residual-in_err-late_refusal.result c.from_residual-in_err-late_refusal.ensures.1 in
    rw (p.1, p.2) (refused_late _ _ _ _ _ _ c.requires c.in_ok-kind.ensures.refusal _ c.in_err-late_refusal.ensures)

pub returns-clause-refusal : goal.returns-clause-refusal
returns-clause-refusal c = refused_late _ _ _ _ _ _ c.requires c.in_ok-kind.ensures.refusal _ c.in_ok-late_refusal.ensures
