use Rattle.std.proofs.Common.{ap, not}
use Rattle.std.proofs.lemmas.Result.{err_from_is_err_and}
use Rattle.engine.proofs.Stepping.{stepping_laws, step_fits, not_unknown, refused_late}
use Rattle.engine.proofs.accepted_kind.Goals as goal

pub fits-requires-clause-bounds_of : goal.fits-requires-clause-bounds_of
fits-requires-clause-bounds_of c = search stepping_laws

pub returns-then-not-fits-clause-refusal : goal.returns-then-not-fits-clause-refusal
returns-then-not-fits-clause-refusal c = search stepping_laws

pub returns-in_err-kind-clause-refusal : goal.returns-in_err-kind-clause-refusal
returns-in_err-kind-clause-refusal c =
    absurd (not_unknown _ _ _ c.requires _ _ _ _ _ c.fits.ensures (ap not c.if-not-fits.false) c.in_err-kind.ensures.1)

pub own_entry-own-requires : goal.own_entry-own-requires
own_entry-own-requires c = search stepping_laws

pub late_refusal-requires : goal.late_refusal-requires
late_refusal-requires c = step_fits _ _ _ c.requires _ _ _ _ _ c.fits.ensures (ap not c.if-not-fits.false)

pub returns-in_err-late_refusal-clause-refusal : goal.returns-in_err-late_refusal-clause-refusal
returns-in_err-late_refusal-clause-refusal c =
    let p = err_from_is_err_and c.from_residual-in_err-late_refusal.result c.from_residual-in_err-late_refusal.ensures.1 in
    rw (p.1, p.2)
    (refused_late _ _ _ c.requires _ _ _ _ _ c.fits.ensures (ap not c.if-not-fits.false) _ _ c.own_entry-own.ensures c.in_err-late_refusal.ensures)

pub returns-clause-refusal : goal.returns-clause-refusal
returns-clause-refusal c =
    refused_late _ _ _ c.requires _ _ _ _ _ c.fits.ensures (ap not c.if-not-fits.false) _ _ c.own_entry-own.ensures
    c.in_ok-late_refusal.ensures
