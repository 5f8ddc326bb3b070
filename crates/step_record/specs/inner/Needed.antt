-- What `step_record` asks. Assumes nothing.
use Rattle.std.specs.Prelude.{ℕ, ◌+◌, ◌≤◌, List, length}
use Rattle.limits.specs.Files.{file_record_width}
use Rattle.step_collect.specs.inner.Needed.{ReadyKept}

-- eight bytes stand from a place on, the areas hold a state in order, and the index is kept
pub record StepThere (bytes : List ℕ) (at : ℕ) (c w r m x : List ℕ) : Type 0 where
  pub ready : ReadyKept c w r m x
  pub there : at + file_record_width ≤ length bytes
