use Rattle.std.proofs.lemmas.Result.{err_from_is_err_and}
use Rattle.engine.proofs.Stepping.{stepping_laws, step_refused, step_acts, step_done}
use Rattle.engine.proofs.step_on.Goals as goal

pub accepted_kind-requires : goal.accepted_kind-requires
accepted_kind-requires c = search stepping_laws

pub returns-in_err-kind : goal.returns-in_err-kind
returns-in_err-kind c =
    let p = err_from_is_err_and c.from_residual.result c.from_residual.ensures.1 in
    rw (p.1, p.2) (step_refused _ _ _ _ _ _ _ _ _ c.requires _ c.in_err-kind.ensures.refusal)

pub act-requires : goal.act-requires
act-requires c = step_acts _ _ _ _ _ _ _ _ _ c.requires _ c.in_ok-kind.ensures.kind c.in_ok-kind.ensures.refusal

pub returns : goal.returns
returns c = step_done _ _ _ _ _ _ _ _ _ c.requires _ c.in_ok-kind.ensures.kind _ _ _ _ _ _ c.in_ok-kind.ensures.refusal c.act.ensures
