-- The buffer: another read left the same bytes in it, bytes more stand in it, or all are taken. Rests on Coming. Assumes nothing.
use Prim.Native.Nat.{ℕ, ◌≤◌}
use native.Mathlib.Omega.{arith}
use mathlib.Core.Path.{◌≡◌, sym, ap, ◌∙◌}
use mathlib.Core.Bool.{Bool}
use mathlib.Core.List.{List, ◌++◌, append_assoc, append-nil}
use lib.ListN.{length, take, drop, length-drop}
use lib.Seq.{take-add}
use Rattle.lists.proofs.Parts.{part_from_start}
use Rattle.whole_reads.specs.Promises.{Flows, TakeNoted, comes_next, filled_flow, left_to_write, taken_flow}
use Rattle.whole_reads.specs.declared.Flow.{Flow}
use Rattle.whole_reads.specs.declared.Next.TheVariants.{Take}
use Rattle.whole_reads.proofs.Coming.{all_written, taking}

-- ---- the buffer as another read left it

module _ (read taken made written : List ℕ) (f : Flow) (buffer out : List ℕ) where
  -- a buffer in which the same bytes stand
  pub buffer_kept : (before : List ℕ) → length before ≡ length buffer → take f.have before ≡ take f.have buffer → Flows read taken made written f before out
      → Flows read taken made written f buffer out
  buffer_kept before l s h =
      record {
        bytes = ap (λ (xs : List ℕ). taken ++ xs) (sym s) ∙ h.bytes;
        filled = omega (arith, l, h.filled);
        lines = h.lines;
        ordered = h.ordered;
        within = h.within;
      }

  -- the next bytes of the buffer are read
  pub filled_flows : (n : ℕ) → n ≤ length (drop f.have buffer) → Flows read taken made written f buffer out
      → Flows (read ++ take n (drop f.have buffer)) taken made written (filled_flow f n) buffer out
  unfolding filled_flow left_to_write
  filled_flows n l h =
      record {
        bytes =
            ap (λ (xs : List ℕ). taken ++ xs) (take-add f.have n buffer)
            ∙ sym (append_assoc taken (take f.have buffer) (take n (drop f.have buffer)))
            ∙ ap (λ (xs : List ℕ). xs ++ take n (drop f.have buffer)) h.bytes;
        filled = omega (arith, h.filled, length-drop f.have buffer);
        lines = h.lines;
        ordered = h.ordered;
        within = h.within;
      }

-- ---- all are taken

took_flows : (f : Flow) (n : ℕ) (done : Bool) (room : ℕ) (read taken made written buffer out out' : List ℕ) → comes_next f room ≡ Take → n ≤ length out'
    → Flows read taken made written f buffer out → Flows read read (made ++ take n out') written (taken_flow f n done) buffer out'
unfolding taken_flow left_to_write
took_flows f n done room read taken made written buffer out out' x l h =
    record {
      bytes = append-nil read;
      filled = omega arith;
      lines = ap (λ (xs : List ℕ). written ++ xs) (part_from_start n out') ∙ ap (λ (xs : List ℕ). xs ++ take n out') (all_written read taken made written f buffer out h (taking f room x).due.none);
      ordered = omega arith;
      within = l;
    }

pub took : (f : Flow) (n : ℕ) (done : Bool) (f' : Flow) → f' ≡ taken_flow f n done → TakeNoted f n done f'
took f n done f' e =
    record { flow = e; flows = λ room read taken made written buffer out out' x l h. rw e (took_flows f n done room read taken made written buffer out out' x l h) }
