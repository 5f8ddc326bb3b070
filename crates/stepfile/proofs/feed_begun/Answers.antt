-- The record that has begun is taken, then the rest of the chunk. Assumes nothing.
use Rattle.stepfile.proofs.Chunks.{chunk_taken}
use Rattle.stepfile.proofs.feed_begun.Goals as goal

pub returns : goal.returns
returns c = chunk_taken _ _ _ _ _ _ _ _ _ c.requires _ _ _ _ _ _ c.take_begun-behind.ensures _ _ _ c.take_rest.ensures
