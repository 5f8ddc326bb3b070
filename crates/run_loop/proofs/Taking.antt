-- After a read.. Rests on Coming. Assumes nothing.
use Prim.Native.Nat.{ℕ, ◌/◌, ◌<◌}
use native.Mathlib.Omega.{arith}
use mathlib.Core.Path.{◌≡◌, refl, sym, ap, ◌∙◌}
use mathlib.Core.Bool.{Bool, true, false, false≢true, cond, ◌&&◌}
use mathlib.Core.Logic.{◌⊎◌, inl, inr}
use mathlib.Core.List.{List, [], ◌∷◌, ◌++◌, append-nil}
use lib.ListN.{length, take}
use lib.Dec.{ltb}
use borrow.Author.Tests.{lt-ltb, eq-eqb, ne_eqb}
use Rattle.std.specs.Prelude.{None}
use Rattle.lists.proofs.Parts.{part_from_start}
use Rattle.limits.specs.Files.{file_record_width, line_limit}
use Rattle.layout.specs.Areas.{Areas}
use Rattle.stepfile.specs.Feeding.{after}
use Rattle.stepfile.specs.Promises.{FedAs, FinishedAs, Reached, feed_answer, feedable, finish_answer, finish_line, left_untaken, sound}
use Rattle.stepfile.specs.declared.Progress.{Progress}
use Rattle.stepfile.specs.declared.Taken.{Taken}
use Rattle.stepfile.proofs.Cutting.{after_sound}
use Rattle.run_loop.specs.Promises.{NextIs, Runs, next_action, lines_due, is_reading, pending, read_areas, read_lines, read_run, taken_run}
use Rattle.run_loop.specs.inner.Needed.{Ends, Feeds, ReadAs}
use Rattle.run_loop.specs.declared.Run.{Run}
use Rattle.run_loop.specs.declared.Action.{Action}
use Rattle.run_loop.specs.declared.Action.TheVariants.{Read, Write, Stop}
use Rattle.run_loop.proofs.Standing.{written_due}
use Rattle.run_loop.proofs.Coming.{reading}

-- ---- where the run stands after an answer

module _ (s : Run) (t : Taken) (ended : Bool) where
  taken_when : t.fed ≡ true → ◌≡◌ {A = Run} (record { progress = t.progress; from = 0; to = t.written; ended = ended; fault = None }) (taken_run s t ended)
  unfolding taken_run
  taken_when e = sym (rw e)

  taken_faultless : t.fed ≡ true → (taken_run s t ended).fault ≡ None
  taken_faultless e = ap (λ (r : Run). r.fault) (sym (taken_when e))

pub feeds : (s : Run) (bytes out : List ℕ) (a : Areas) (t : Taken) (s' : Run) (out' : List ℕ) (a' : Areas) → FedAs s.progress bytes out a t out' a' → s' ≡ taken_run s t false
    → Feeds s bytes out a s' out' a'
feeds s bytes out a t s' out' a' f e = record { taken = t; run = e; fed = f }

pub ends : (s : Run) (out : List ℕ) (t : Taken) (s' : Run) (out' : List ℕ) → FinishedAs s.progress out t out' → s' ≡ taken_run s t true → Ends s out s' out'
ends s out t s' out' f e = record { taken = t; run = e; finished = f }

-- ---- bytes are fed

-- a progress that feeding makes is fed where there is room
feeds_there : (a₀ a : Areas) (read : List ℕ) (p : Progress) (n room : ℕ) → Reached a₀ read p a → n / file_record_width < room / line_limit → feedable p n room ≡ true
unfolding feedable
feeds_there a₀ a read p n room h l =
    ap (λ (b : Bool). b && ltb (n / file_record_width) (room / line_limit)) (ap (λ (q : Progress). sound q) h.progress ∙ after_sound a₀ read)
    ∙ lt-ltb (n / file_record_width) (room / line_limit) l

feed_taken : (p : Progress) (bytes : List ℕ) (room : ℕ) (a : Areas) (t : Taken) → t ≡ feed_answer p bytes room a → feedable p (length bytes) room ≡ true → t.fed ≡ true
unfolding feed_answer
feed_taken p bytes room a t e f = ap (λ (x : Taken). x.fed) e ∙ rw f

finish_taken : (p : Progress) (room : ℕ) (t : Taken) → t ≡ finish_answer p room → feedable p 0 room ≡ true → t.fed ≡ true
unfolding finish_answer
finish_taken p room t e f = ap (λ (x : Taken). x.fed) e ∙ rw f

finish_same : (p : Progress) (room : ℕ) (t : Taken) → t ≡ finish_answer p room → t.progress ≡ p
unfolding finish_answer left_untaken
finish_same p room t e = ap (λ (x : Taken). x.progress) e ∙ go (feedable p 0 room)
  where
    either : Bool → Taken
    either b = cond b (record { progress = p; fed = true; written = length (finish_line p) }) (record { progress = p; fed = false; written = 0 })

    go : (b : Bool) → (either b).progress ≡ p
    go true = refl
    go false = refl

module _ (a₀ : Areas) (read written : List ℕ) (s : Run) (out : List ℕ) (a : Areas) (h : Runs a₀ read written s out a) (x : next_action s ≡ Read) where
  so_far : written ≡ (after a₀ read).lines
  unfolding lines_due
  so_far = written_due a₀ read written s out a h (reading s x).none ∙ ap (λ (b : Bool). lines_due a₀ read b) (reading s x).more

  module _ (bytes : List ℕ) (l : length bytes / file_record_width < length out / line_limit) (s' : Run) (out' : List ℕ) where
    module _ (a' : Areas) (f : Feeds s bytes out a s' out' a') where
      fed_there : f.taken.fed ≡ true
      fed_there = feed_taken s.progress bytes (length out) a f.taken f.fed.answer (feeds_there a₀ a read s.progress (length bytes) (length out) h.reached l)

      fed_faultless : s'.fault ≡ None
      fed_faultless = ap (λ (r : Run). r.fault) f.run ∙ taken_faultless s f.taken false fed_there

      fed_runs : Runs a₀ (read ++ bytes) written s' out' a'
      unfolding lines_due pending
      fed_runs =
          rw (f.run ∙ sym (taken_when s f.taken false fed_there))
          (record {
            sizes = h.sizes;
            reached = f.fed.cut a₀ read fed_there h.reached;
            ordered = omega arith;
            within = f.fed.within;
            lines =
                ap (λ (xs : List ℕ). written ++ xs) (part_from_start f.taken.written out')
                ∙ ap (λ (xs : List ℕ). xs ++ take f.taken.written out') so_far
                ∙ sym (f.fed.added a₀ read fed_there h.reached);
          })

    module _ (none : length bytes ≡ 0) (f : Ends s out s' out') where
      end_there : f.taken.fed ≡ true
      end_there = finish_taken s.progress (length out) f.taken f.finished.answer (feeds_there a₀ a read s.progress 0 (length out) h.reached (omega (arith, l, none)))

      end_faultless : s'.fault ≡ None
      end_faultless = ap (λ (r : Run). r.fault) f.run ∙ taken_faultless s f.taken true end_there

      no_bytes : (xs : List ℕ) → length xs ≡ 0 → read ≡ read ++ xs
      no_bytes [] e = sym (append-nil read)
      no_bytes (y ∷ ys) e = absurd (omega (arith, e))

      end_runs : Runs a₀ (read ++ bytes) written s' out' a
      unfolding lines_due pending
      end_runs =
          rw (f.run ∙ sym (taken_when s f.taken true end_there), ← no_bytes bytes none)
          (record {
            sizes = h.sizes;
            reached = rw (finish_same s.progress (length out) f.taken f.finished.answer) h.reached;
            ordered = omega arith;
            within = f.finished.within;
            lines =
                ap (λ (xs : List ℕ). written ++ xs) (part_from_start f.taken.written out')
                ∙ ap (λ (xs : List ℕ). xs ++ take f.taken.written out') so_far
                ∙ sym (f.finished.whole a₀ a read h.sizes end_there h.reached);
          })

-- ---- the promise

module _ (s : Run) (bytes out : List ℕ) (a : Areas) (x : Action) (e : NextIs s x) where
  -- a run that is not to read is left as it is
  pub read_not : (x ≡ Write) ⊎ (x ≡ Stop) → ReadAs s bytes out a s out a
  unfolding read_run read_lines read_areas
  read_not n =
      record {
        run = sym (rw idle);
        lines = sym (rw idle);
        areas = sym (rw idle);
        fed = λ a₀ read written y l h. absurd (other y);
        runs = λ a₀ read written y l h. absurd (other y);
      }
    where
      idle : is_reading (next_action s) ≡ false
      idle = elim n [ inl w ↦ ap is_reading (sym e.is ∙ w) | inr w ↦ ap is_reading (sym e.is ∙ w) ]

      other : next_action s ≡ Read → ⊥
      other y = false≢true (sym idle ∙ ap is_reading y)

  module _ (n : x ≡ Read) where
    yes : is_reading (next_action s) ≡ true
    yes = ap is_reading (sym e.is ∙ n)

    -- the input has ended
    pub read_end : (s' : Run) (out' : List ℕ) → length bytes ≡ 0 → Ends s out s' out' → ReadAs s bytes out a s' out' a
    unfolding read_run read_lines read_areas
    read_end s' out' none f =
        record {
          run = f.run ∙ ap (λ (t : Taken). taken_run s t true) f.finished.answer ∙ sym (rw (yes, eq-eqb (length bytes) 0 none));
          lines = f.finished.lines ∙ sym (rw (yes, eq-eqb (length bytes) 0 none));
          areas = sym (rw (yes, eq-eqb (length bytes) 0 none));
          fed = λ a₀ read written x l h. end_faultless a₀ read written s out a h x bytes l s' out' none f;
          runs = λ a₀ read written x l h. end_runs a₀ read written s out a h x bytes l s' out' none f;
        }

    -- bytes were read
    pub read_some : (s' : Run) (out' : List ℕ) (a' : Areas) → (length bytes ≡ 0 → ⊥) → Feeds s bytes out a s' out' a' → ReadAs s bytes out a s' out' a'
    unfolding read_run read_lines read_areas
    read_some s' out' a' some f =
        record {
          run = f.run ∙ ap (λ (t : Taken). taken_run s t false) f.fed.answer ∙ sym (rw (yes, ne_eqb (length bytes) 0 some));
          lines = f.fed.lines ∙ sym (rw (yes, ne_eqb (length bytes) 0 some));
          areas = f.fed.areas ∙ sym (rw (yes, ne_eqb (length bytes) 0 some));
          fed = λ a₀ read written x l h. fed_faultless a₀ read written s out a h x bytes l s' out' a' f;
          runs = λ a₀ read written x l h. fed_runs a₀ read written s out a h x bytes l s' out' a' f;
        }
