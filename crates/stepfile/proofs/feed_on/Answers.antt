-- No bytes are held, or those of the chunk go behind them. Assumes nothing.
use Rattle.stepfile.proofs.Chunks.{chunk_laws}
use Rattle.stepfile.proofs.feed_on.Goals as goal

pub returns-then-progress-eq0 : goal.returns-then-progress-eq0
returns-then-progress-eq0 c = search chunk_laws

pub returns-then-first-lt-FILE_RECORD_WIDTH : goal.returns-then-first-lt-FILE_RECORD_WIDTH
returns-then-first-lt-FILE_RECORD_WIDTH c = search chunk_laws
