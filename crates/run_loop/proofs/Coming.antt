-- What comes next.. Rests on Standing. Assumes nothing.
use Prim.Native.Nat.{ℕ, ◌≤◌}
use native.Mathlib.Omega.{arith}
use mathlib.Core.Path.{◌≡◌, refl, sym, ap, ◌∙◌}
use mathlib.Core.Bool.{Bool, true, false, cond, ◌||◌}
use mathlib.Core.List.{List, [], ◌++◌, append-nil}
use lib.Dec.{ltb}
use borrow.Author.Tests.{ltb-false}
use Rattle.std.specs.Prelude.{Option, Some, None, is_some}
use Rattle.layout.specs.Areas.{Areas, areas}
use Rattle.stepfile.specs.Files.{file_lines}
use Rattle.stepfile.specs.Feeding.{after, begun}
use Rattle.stepfile.specs.Promises.{Started, progress_of}
use Rattle.stepfile.specs.declared.Progress.{Progress}
use Rattle.file_chunk.specs.Bytes.{bytes_taken}
use Rattle.run_loop.specs.Promises.{Begins, NextIs, Runs, next_action, lines_due, pending}
use Rattle.run_loop.specs.declared.Run.{Run}
use Rattle.run_loop.specs.declared.Fault.{Fault}
use Rattle.run_loop.specs.declared.Action.{Action}
use Rattle.run_loop.specs.declared.Action.TheVariants.{Read, Write, Stop}
use Rattle.run_loop.proofs.Standing.{written_due, stopped_lines}

-- ---- when it is reading or stopping

-- all lines are written, and there may be more to read
pub record MayRead (s : Run) : Type 0 where
  pub none : s.to ≤ s.from
  pub more : s.ended ≡ false

pub reading : (s : Run) → next_action s ≡ Read → MayRead s
unfolding next_action
reading s = go (is_some s.fault) (ltb s.from s.to) s.ended s.progress.stopped refl refl
  where
    go : (n l e t : Bool) → ltb s.from s.to ≡ l → s.ended ≡ e → cond n Stop (cond l Write (cond (e || t) Stop Read)) ≡ Read → MayRead s
    go true l e t q r x = absurd cc
    go false true e t q r x = absurd cc
    go false false true t q r x = absurd cc
    go false false false true q r x = absurd cc
    go false false false false q r x = record { none = ltb-false s.from s.to q; more = r }

-- then nothing went wrong
pub reads_faultless : (s : Run) → next_action s ≡ Read → s.fault ≡ None
unfolding next_action
reads_faultless s = go s.fault
  where
    go : (f : Option Fault) → cond (is_some f) Stop (cond (ltb s.from s.to) Write (cond (s.ended || s.progress.stopped) Stop Read)) ≡ Read → f ≡ None
    go None e = refl
    go (Some f) e = absurd cc

-- all lines are written, and the input has ended or the run has stopped
record Over (s : Run) : Type 0 where
  pub none : s.to ≤ s.from
  pub over : (s.ended || s.progress.stopped) ≡ true

stopping : (s : Run) → next_action s ≡ Stop → s.fault ≡ None → Over s
unfolding next_action
stopping s x w = go (is_some s.fault) (ltb s.from s.to) (s.ended || s.progress.stopped) (ap is_some w) refl refl x
  where
    go : (n l e : Bool) → n ≡ false → ltb s.from s.to ≡ l → (s.ended || s.progress.stopped) ≡ e → cond n Stop (cond l Write (cond e Stop Read)) ≡ Stop → Over s
    go true l e w q r x = absurd cc
    go false true e w q r x = absurd cc
    go false false true w q r x = record { none = ltb-false s.from s.to q; over = r }
    go false false false w q r x = absurd cc

-- then all lines of the file are written
all_written : (s : Run) (a₀ : Areas) (read rest written out : List ℕ) (a : Areas) → next_action s ≡ Stop → s.fault ≡ None → Runs a₀ read written s out a
    → (s.ended ≡ true → rest ≡ []) → written ≡ file_lines (read ++ rest)
unfolding lines_due
all_written s a₀ read rest written out a x w h last = go s.ended refl o.over
  where
    o : Over s
    o = stopping s x w

    so_far : written ≡ lines_due a₀ read s.ended
    so_far = written_due a₀ read written s out a h o.none

    go : (e : Bool) → s.ended ≡ e → (e || s.progress.stopped) ≡ true → written ≡ file_lines (read ++ rest)
    go true e t =
        so_far ∙ ap (λ (b : Bool). lines_due a₀ read b) e ∙ ap (λ (xs : List ℕ). file_lines xs) (sym (append-nil read) ∙ ap (λ (xs : List ℕ). read ++ xs) (sym (last e)))
    go false e t = so_far ∙ ap (λ (b : Bool). lines_due a₀ read b) e ∙ sym (stopped_lines a₀ a read rest s.progress h.sizes h.reached t)

-- ---- the promises

-- nothing has been read or written
pub begins : (p : Progress) → Started p → Begins (record { progress = p; from = 0; to = 0; ended = false; fault = None })
unfolding next_action pending lines_due after begun bytes_taken progress_of
begins p t =
    record {
      runs = λ a₀ out z. record { sizes = z; reached = t.reached a₀; ordered = omega arith; within = omega arith; lines = refl };
      reads = ap (λ (q : Progress). cond (false || q.stopped) Stop Read) (t.reached (areas [] [] [] [])).progress;
    }

-- what comes next, and that no line is left out where the program stops
pub next_action_is : (s : Run) (x : Action) → x ≡ next_action s → NextIs s x
next_action_is s x e = record { is = e; all = λ a₀ read rest written out a y w h last. all_written s a₀ read rest written out a (sym e ∙ y) w h last }
