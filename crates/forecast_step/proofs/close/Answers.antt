use Rattle.forecast_step.proofs.Closing.{close_laws}
use Rattle.forecast_step.proofs.close.Goals as goal

pub dirty_of-dirty-requires : goal.dirty_of-dirty-requires
dirty_of-dirty-requires c = search close_laws

pub put_standing_count-requires : goal.put_standing_count-requires
put_standing_count-requires c = search close_laws

pub bounds-own-p : goal.bounds-own-p
bounds-own-p c = search close_laws

pub overflow_add-own : goal.overflow_add-own
overflow_add-own c = search close_laws

pub bounds-own-p-2 : goal.bounds-own-p-2
bounds-own-p-2 c = search close_laws

pub clean_pages-requires : goal.clean_pages-requires
clean_pages-requires c = search close_laws
