-- After a read or a write has answered. Rests on Filling. Assumes nothing.
use Prim.Native.Nat.{ℕ, ◌-◌, ◌≤◌, min}
use native.Mathlib.Omega.{arith}
use mathlib.Core.Path.{◌≡◌, ap, ◌∙◌}
use mathlib.Core.Bool.{Bool}
use mathlib.Core.List.{List, append-nil}
use lib.ListN.{length, take, drop, length-take}
use Rattle.std.specs.Prelude.{Result, Ok, Err}
use Rattle.lists.proofs.Parts.{take_at_most}
use Rattle.whole_reads.specs.Promises.{ReadNoted, WriteNoted, filled_flow, got_flow, left_to_write, moved_bytes, put_flow, wrote_flow}
use Rattle.whole_reads.specs.inner.Needed.{FailureNoted, WritingOn}
use Rattle.whole_reads.specs.declared.Flow.{Flow}
use Rattle.whole_reads.specs.declared.Failure.TheVariants.{Reading, Writing}
use Rattle.whole_reads.proofs.Filling.{buffer_kept, filled_flows}

-- as many bytes are moved as the call says, up to all
moved_count : (n k : ℕ) (bytes part : List ℕ) → part ≡ bytes → k ≡ min n (length part) → k ≡ length (take n bytes)
moved_count n k bytes part p c = omega (arith, c, ap length p, length-take n bytes)

moved_these : (n k : ℕ) (bytes part : List ℕ) → part ≡ bytes → k ≡ min n (length part) → take k bytes ≡ take n bytes
moved_these n k bytes part p c = ap (λ (j : ℕ). take j bytes) (c ∙ ap (λ (xs : List ℕ). min n (length xs)) p) ∙ take_at_most n bytes

-- ---- a read

module _ (f : Flow) (got : Result ℕ Bool) (buffer : List ℕ) where
  pub got_failed : (again : Bool) (f' : Flow) → got ≡ Err again → FailureNoted f Reading again f' → ReadNoted f got buffer f'
  unfolding got_flow moved_bytes
  got_failed again f' e w =
      rw e
      (record {
        flow = w.flow;
        flows = λ read taken made written before out l s h.
            rw (append-nil read) (w.flows read taken made written buffer out (buffer_kept read taken made written f buffer out before l s h));
      })

  pub got_some : (n k : ℕ) (part : List ℕ) (f' : Flow) → got ≡ Ok n → part ≡ drop f.have buffer → k ≡ min n (length part) → f' ≡ filled_flow f k → ReadNoted f got buffer f'
  unfolding got_flow moved_bytes
  got_some n k part f' e p c w =
      rw e
      (record {
        flow = w ∙ ap (λ (j : ℕ). filled_flow f j) (moved_count n k (drop f.have buffer) part p c);
        flows = λ read taken made written before out l s h.
            rw (w, ← moved_these n k (drop f.have buffer) part p c)
            (filled_flows read taken made written f buffer out k (omega (arith, c, ap length p)) (buffer_kept read taken made written f buffer out before l s h));
      })

-- ---- a write

pub write_within : (f : Flow) (n k : ℕ) (out part : List ℕ) → part ≡ left_to_write f out → k ≡ min n (length part) → k ≤ f.to - f.from
unfolding left_to_write
write_within f n k out part p c = omega (arith, c, ap length p, length-take (f.to - f.from) (drop f.from out))

module _ (f : Flow) (put : Result ℕ Bool) (out : List ℕ) where
  pub put_failed : (again : Bool) (f' : Flow) → put ≡ Err again → FailureNoted f Writing again f' → WriteNoted f put out f'
  unfolding put_flow moved_bytes
  put_failed again f' e w =
      rw e (record { flow = w.flow; flows = λ read taken made written buffer h. rw (append-nil written) (w.flows read taken made written buffer out h) })

  pub put_some : (n k : ℕ) (part : List ℕ) (f' : Flow) → put ≡ Ok n → part ≡ left_to_write f out → k ≡ min n (length part) → WritingOn f k f' → WriteNoted f put out f'
  unfolding put_flow moved_bytes
  put_some n k part f' e p c w =
      rw e
      (record {
        flow = w.flow ∙ ap (λ (j : ℕ). wrote_flow f j) (moved_count n k (left_to_write f out) part p c);
        flows = λ read taken made written buffer h. rw (← moved_these n k (left_to_write f out) part p c) (w.flows read taken made written buffer out h);
      })
