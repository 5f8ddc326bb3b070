-- `page` meets its contract. Assumes nothing.
use Rattle.step_close.proofs.PageWords.{page_laws}
use Rattle.step_close.proofs.page.Goals as goal

pub returns : goal.returns
returns c = search page_laws
