-- What the inner functions of this crate promise. Assumes nothing.
use Rattle.std.specs.Prelude.{ℕ, ◌≡◌, Bool, List, ◌++◌, take}
use Rattle.whole_reads.specs.Promises.{Flows, failed_flow, left_to_write, wrote_flow}
use Rattle.whole_reads.specs.declared.Flow.{Flow}
use Rattle.whole_reads.specs.declared.Failure.{Failure}

-- n bytes were written
pub record WritingOn (f : Flow) (n : ℕ) (f' : Flow) : Type 0 where
  pub flow : f' ≡ wrote_flow f n
  pub flows : (read taken made written buffer out : List ℕ) → Flows read taken made written f buffer out
      → Flows read taken made (written ++ take n (left_to_write f out)) f' buffer out

-- a call failed: what was read, taken, made and written stays
pub record FailureNoted (f : Flow) (failure : Failure) (again : Bool) (f' : Flow) : Type 0 where
  pub flow : f' ≡ failed_flow f failure again
  pub flows : (read taken made written buffer out : List ℕ) → Flows read taken made written f buffer out → Flows read taken made written f' buffer out
