-- After a write, and after a call that failed.. Assumes nothing.
use Prim.Native.Nat.{ℕ, ◌-◌, min}
use native.Mathlib.Omega.{arith}
use mathlib.Core.Path.{◌≡◌, ap, ◌∙◌}
use mathlib.Core.Bool.{Bool, true, false, cond}
use mathlib.Core.List.{List, ◌++◌, append_assoc}
use lib.ListN.{length, take, drop}
use Rattle.std.specs.Prelude.{Some}
use Rattle.lists.proofs.Parts.{part_goes_on, part_within}
use Rattle.layout.specs.Areas.{Areas}
use Rattle.run_loop.specs.Promises.{Runs, failed_run, pending, wrote_run}
use Rattle.run_loop.specs.inner.Needed.{FailedAs, WroteAs}
use Rattle.run_loop.specs.declared.Run.{Run}
use Rattle.run_loop.specs.declared.Fault.{Fault}

-- ---- n bytes of the lines that are left were written

module _ (s : Run) (n : ℕ) where
  wrote_runs : (a₀ : Areas) (read written out : List ℕ) (a : Areas) → Runs a₀ read written s out a → Runs a₀ read (written ++ take n (pending s out)) (wrote_run s n) out a
  unfolding wrote_run pending
  wrote_runs a₀ read written out a h =
      record {
        sizes = h.sizes;
        reached = h.reached;
        ordered = omega (arith, h.ordered);
        within = h.within;
        lines =
            append_assoc written (take n (pending s out)) (pending (wrote_run s n) out)
            ∙ ap (λ (xs : List ℕ). written ++ xs) (part_goes_on n s.from s.to out)
            ∙ h.lines;
      }

  pub wrote_as : (s' : Run) → s' ≡ wrote_run s n → WroteAs s n s'
  wrote_as s' e = record { run = e; runs = λ a₀ read written out a h. rw e (wrote_runs a₀ read written out a h) }

-- ---- a call that failed

module _ (s : Run) (f : Fault) (again : Bool) where
  failed_runs : (a₀ : Areas) (read written out : List ℕ) (a : Areas) → Runs a₀ read written s out a → Runs a₀ read written (failed_run s f again) out a
  unfolding failed_run pending
  failed_runs a₀ read written out a h = go again
    where
      go : (b : Bool) → Runs a₀ read written (cond b s (record { progress = s.progress; from = s.from; to = s.to; ended = s.ended; fault = Some f })) out a
      go true = h
      go false = record { sizes = h.sizes; reached = h.reached; ordered = h.ordered; within = h.within; lines = h.lines }

  pub failed_as : (s' : Run) → s' ≡ failed_run s f again → FailedAs s f again s'
  failed_as s' e = record { run = e; runs = λ a₀ read written out a h. rw e (failed_runs a₀ read written out a h) }

-- ---- the part of the lines that is handed to write

pub part_pending : (s : Run) (out : List ℕ) (to from : ℕ) → to ≡ min s.to (length out) → from ≡ min s.from to → take (to - from) (drop from out) ≡ pending s out
unfolding pending
part_pending s out to from t f = part_within s.from s.to out from to t f
