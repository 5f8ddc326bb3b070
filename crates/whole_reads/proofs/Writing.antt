-- The lines that are left, after a write, and after a call that failed. Assumes nothing.
use Prim.Native.Nat.{ℕ, ◌-◌, ◌≤◌, min}
use native.Mathlib.Omega.{arith}
use mathlib.Core.Path.{◌≡◌, ap, ◌∙◌}
use mathlib.Core.Bool.{Bool, true, false, cond}
use mathlib.Core.List.{List, ◌++◌, append_assoc}
use lib.ListN.{length, take, drop}
use Rattle.std.specs.Prelude.{Some}
use Rattle.lists.proofs.Parts.{part_goes_on, part_within}
use Rattle.whole_reads.specs.Promises.{Flows, failed_flow, left_to_write, wrote_flow}
use Rattle.whole_reads.specs.inner.Needed.{FailureNoted, WritingOn}
use Rattle.whole_reads.specs.declared.Flow.{Flow}
use Rattle.whole_reads.specs.declared.Failure.{Failure}

-- ---- the lines that are left

pub part_left : (f : Flow) (out : List ℕ) (to from : ℕ) → to ≡ min f.to (length out) → from ≡ min f.from to → take (to - from) (drop from out) ≡ left_to_write f out
unfolding left_to_write
part_left f out to from t s = part_within f.from f.to out from to t s

-- ---- n bytes of them are written

module _ (f : Flow) (n : ℕ) where
  wrote_flows : (read taken made written buffer out : List ℕ) → Flows read taken made written f buffer out
      → Flows read taken made (written ++ take n (left_to_write f out)) (wrote_flow f n) buffer out
  unfolding wrote_flow left_to_write
  wrote_flows read taken made written buffer out h =
      record {
        bytes = h.bytes;
        filled = h.filled;
        lines =
            append_assoc written (take n (left_to_write f out)) (left_to_write (wrote_flow f n) out)
            ∙ ap (λ (xs : List ℕ). written ++ xs) (part_goes_on n f.from f.to out)
            ∙ h.lines;
        ordered = omega (arith, h.ordered);
        within = h.within;
      }

  pub wrote_as : n ≤ f.to - f.from → (f' : Flow) → f' ≡ wrote_flow f n → WritingOn f n f'
  wrote_as l f' e = record { flow = e; flows = λ read taken made written buffer out h. rw e (wrote_flows read taken made written buffer out h) }

-- ---- a call that failed

module _ (f : Flow) (failure : Failure) (again : Bool) where
  failed_flows : (read taken made written buffer out : List ℕ) → Flows read taken made written f buffer out
      → Flows read taken made written (failed_flow f failure again) buffer out
  unfolding failed_flow left_to_write
  failed_flows read taken made written buffer out h = go again
    where
      go : (b : Bool) → Flows read taken made written (cond b f (record { have = f.have; ended = f.ended; from = f.from; to = f.to; done = f.done; failure = Some failure })) buffer out
      go true = h
      go false = record { bytes = h.bytes; filled = h.filled; lines = h.lines; ordered = h.ordered; within = h.within }

  pub failed_as : (f' : Flow) → f' ≡ failed_flow f failure again → FailureNoted f failure again f'
  failed_as f' e = record { flow = e; flows = λ read taken made written buffer out h. rw e (failed_flows read taken made written buffer out h) }
