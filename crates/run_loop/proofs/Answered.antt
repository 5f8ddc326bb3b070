-- After a read or a write has answered. Assumes nothing.
use Prim.Native.Nat.{ℕ, ◌/◌, ◌<◌, min}
use native.Mathlib.Omega.{arith}
use mathlib.Core.Path.{◌≡◌, refl, ap, ◌∙◌}
use mathlib.Core.Bool.{Bool, true, false}
use mathlib.Core.List.{List, append-nil}
use lib.ListN.{length, take, length-take}
use Rattle.std.specs.Prelude.{Result, Ok, Err, Some, None}
use Rattle.lists.proofs.Parts.{take_at_most}
use Rattle.limits.specs.Files.{file_record_width, line_limit}
use Rattle.layout.specs.Areas.{Areas}
use Rattle.run_loop.specs.Promises.{GotAs, PutAs, failed_run, got_areas, got_lines, got_run, bytes_moved, pending, put_run, read_areas, read_lines, read_run, wrote_run}
use Rattle.run_loop.specs.inner.Needed.{FailedAs, ReadAs, WroteAs}
use Rattle.run_loop.specs.declared.Run.{Run}
use Rattle.run_loop.specs.declared.Fault.TheVariants.{Reading, Writing, NotFed}
use Rattle.run_loop.proofs.Coming.{reads_faultless}

-- ---- a read

module _ (s : Run) (got : Result ℕ Bool) (chunk out : List ℕ) (a : Areas) where
  pub got_failed : (again : Bool) (s' : Run) → got ≡ Err again → FailedAs s Reading again s' → GotAs s got chunk out a s' out a
  unfolding got_run got_lines got_areas bytes_moved failed_run
  got_failed again s' e f =
      rw e
      (record {
        run = f.run;
        lines = refl;
        areas = refl;
        fed = λ a₀ read written x l h. possible again (reads_faultless s x) f.run;
        runs = λ a₀ read written x l h. rw (append-nil read) (f.runs a₀ read written out a h);
      })
    where
      possible : (d : Bool) → s.fault ≡ None → s' ≡ failed_run s Reading d → s'.fault ≡ Some NotFed → ⊥
      possible true n r z = cc (ap (λ (x : Run). x.fault) r)
      possible false n r z = cc (ap (λ (x : Run). x.fault) r)

  pub got_some : (n k : ℕ) (s' : Run) (out' : List ℕ) (a' : Areas) → got ≡ Ok n → k ≡ min n (length chunk) → ReadAs s (take k chunk) out a s' out' a' → GotAs s got chunk out a s' out' a'
  unfolding got_run got_lines got_areas bytes_moved
  got_some n k s' out' a' e c f = rw e (from (take k chunk) (ap (λ (j : ℕ). take j chunk) c ∙ take_at_most n chunk) f)
    where
      from : (bytes : List ℕ) → bytes ≡ take n chunk → ReadAs s bytes out a s' out' a' → GotAs s (Ok n) chunk out a s' out' a'
      from bytes m r =
          record {
            run = r.run ∙ ap (λ (xs : List ℕ). read_run s xs (length out) a) m;
            lines = r.lines ∙ ap (λ (xs : List ℕ). read_lines s xs out a) m;
            areas = r.areas ∙ ap (λ (xs : List ℕ). read_areas s xs (length out) a) m;
            fed = λ a₀ read written x l h z. cc (r.fed a₀ read written x (room l) h, z);
            runs = λ a₀ read written x l h. rw (← m) (r.runs a₀ read written x (room l) h);
          }
        where
          room : length chunk / file_record_width < length out / line_limit → length bytes / file_record_width < length out / line_limit
          room l = omega (arith, l, ap length m, length-take n chunk)

-- ---- a write

module _ (s : Run) (put : Result ℕ Bool) (out : List ℕ) where
  pub put_failed : (again : Bool) (s' : Run) → put ≡ Err again → FailedAs s Writing again s' → PutAs s put out s'
  unfolding put_run bytes_moved
  put_failed again s' e f =
      rw e (record { run = f.run; runs = λ a₀ read written a h. rw (append-nil written) (f.runs a₀ read written out a h) })

  pub put_some : (n k : ℕ) (part : List ℕ) (s' : Run) → put ≡ Ok n → part ≡ pending s out → k ≡ min n (length part) → WroteAs s k s' → PutAs s put out s'
  unfolding put_run bytes_moved
  put_some n k part s' e p c w =
      rw e
      (record {
        run = w.run ∙ ap (λ (j : ℕ). wrote_run s j) many;
        runs = λ a₀ read written a h. rw (← some) (w.runs a₀ read written out a h);
      })
    where
      many : k ≡ length (take n (pending s out))
      many = omega (arith, c, ap length p, length-take n (pending s out))

      some : take k (pending s out) ≡ take n (pending s out)
      some = ap (λ (j : ℕ). take j (pending s out)) (c ∙ ap (λ (xs : List ℕ). min n (length xs)) p) ∙ take_at_most n (pending s out)
