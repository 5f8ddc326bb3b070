-- What was written where nothing is left to be written, and the lines of a file behind a run that has stopped. Assumes nothing.
use Prim.Native.Nat.{ℕ, ◌≤◌}
use mathlib.Core.Path.{◌≡◌, refl, sym, ap, ◌∙◌}
use mathlib.Core.Bool.{Bool, true}
use mathlib.Core.List.{List, [], ◌∷◌, ◌++◌, append-nil}
use lib.ListN.{take}
use Rattle.lists.proofs.Parts.{no_part}
use Rattle.layout.specs.Areas.{Areas, right_sizes}
use Rattle.file_record.specs.Records.{Feed}
use Rattle.file_chunk.specs.Bytes.{bytes_taken}
use Rattle.file_chunk.proofs.Bytes.{taken_together, taken_stopped}
use Rattle.stepfile.specs.Files.{file_lines}
use Rattle.stepfile.specs.Feeding.{begun, after, last_line_of}
use Rattle.stepfile.specs.Promises.{Reached, progress_of, finish_line}
use Rattle.stepfile.specs.declared.Progress.{Progress}
use Rattle.stepfile.proofs.Whole.{whole_lines}
use Rattle.run_loop.specs.Promises.{Runs, lines_due, pending}
use Rattle.run_loop.specs.declared.Run.{Run}

-- ---- nothing is left to be written

-- all lines linesDue have been written
pub written_due : (a₀ : Areas) (read written : List ℕ) (s : Run) (out : List ℕ) (a : Areas) → Runs a₀ read written s out a → s.to ≤ s.from → written ≡ lines_due a₀ read s.ended
unfolding pending
written_due a₀ read written s out a h l =
    sym (append-nil written) ∙ ap (λ (xs : List ℕ). written ++ xs) (sym (no_part s.from s.to out l)) ∙ h.lines

-- ---- a run that has stopped

-- bytes behind it change nothing
after_stopped : (a₀ : Areas) (read rest : List ℕ) → (after a₀ read).stopped ≡ true → after a₀ (read ++ rest) ≡ after a₀ read
unfolding after
after_stopped a₀ read rest e = taken_together (begun a₀) read rest ∙ taken_stopped (bytes_taken (begun a₀) read) rest e

-- there is no line at its end
no_last_line : (p : Progress) → p.stopped ≡ true → finish_line p ≡ []
unfolding finish_line last_line_of
no_last_line p e = ap (λ (b : Bool). last_line_of p.number (take p.held p.bytes) b p.words) e ∙ none (take p.held p.bytes)
  where
    none : (xs : List ℕ) → last_line_of p.number xs true p.words ≡ []
    none [] = refl
    none (x ∷ xs) = refl

stopped_there : (a₀ a : Areas) (read : List ℕ) (p : Progress) → Reached a₀ read p a → (after a₀ read).stopped ≡ p.stopped
unfolding progress_of
stopped_there a₀ a read p h = ap (λ (q : Progress). q.stopped) (sym h.progress)

-- its lines are those of the whole file, whatever follows
pub stopped_lines : (a₀ a : Areas) (read rest : List ℕ) (p : Progress) → right_sizes a₀ ≡ true → Reached a₀ read p a → p.stopped ≡ true
    → file_lines (read ++ rest) ≡ (after a₀ read).lines
stopped_lines a₀ a read rest p z h e =
    whole_lines a₀ (after a₀ (read ++ rest)).areas (read ++ rest) p z (record { progress = h.progress ∙ ap (λ (f : Feed). progress_of f) (sym same); areas = refl })
    ∙ ap (λ (f : Feed). f.lines ++ finish_line p) same
    ∙ ap (λ (xs : List ℕ). (after a₀ read).lines ++ xs) (no_last_line p e)
    ∙ append-nil (after a₀ read).lines
  where
    same : after a₀ (read ++ rest) ≡ after a₀ read
    same = after_stopped a₀ read rest (stopped_there a₀ a read p h ∙ e)
