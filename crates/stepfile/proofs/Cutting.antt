-- A file cut anywhere: what its parts lead to, one after the other, is what they lead to together. Assumes nothing.
use Prim.Native.Nat.{ℕ, zero, suc, ◌+◌, ◌-◌, ◌*◌, ◌≤◌, ◌<◌}
use native.Mathlib.Omega.{arith}
use mathlib.Core.Path.{◌≡◌, refl, sym, ap, ◌∙◌}
use mathlib.Core.Bool.{Bool, true, false, cond}
use mathlib.Core.List.{List, [], ◌∷◌, ◌++◌, append_assoc, append-nil}
use lib.ListN.{length, replicate, length-append}
use lib.Seq.{take-append_seam, drop-append_seam}
use lib.Dec.{leb, eqb}
use borrow.Author.Tests.{le-leb, lt-ltb, leb-true, eqb-false}
use Rattle.limits.specs.Files.{file_record_width, step_limit}
use Rattle.limits.specs.Limits.{word_values}
use Rattle.rules.specs.InOrder.{all_zero}
use Rattle.rules.specs.Refusals.{Step, refused_with, answer}
use Rattle.rules.specs.State.{mainframe}
use Rattle.rules.proofs.FewWords.{words_in_32_bits}
use Rattle.layout.specs.Areas.{Areas, held_state, right_sizes}
use Rattle.engine.specs.Promises.{answer_of}
use Rattle.step_fields.specs.Records.{step_from}
use Rattle.file_record.specs.Records.{Feed, opening_taken, step_taken, too_many_taken, record_taken}
use Rattle.file_chunk.specs.Bytes.{held_on, byte_taken, bytes_taken}
use Rattle.file_chunk.proofs.Bytes.{taken_together}
use Rattle.stepfile.specs.Feeding.{begun, after}
use Rattle.stepfile.specs.Promises.{sound, progress_of, feed_at, Reached}
use Rattle.stepfile.specs.declared.Progress.{Progress}

-- ---- lines are only appended

-- what stands, with these lines in front of its own
unfoldable pub behind : List ℕ → Feed → Feed
behind l f = record { number = f.number; held = f.held; stopped = f.stopped; areas = f.areas; lines = l ++ f.lines; words = f.words }

-- what stands, with nothing printed yet
unfoldable pub unprinted : Feed → Feed
unprinted f = record { number = f.number; held = f.held; stopped = f.stopped; areas = f.areas; lines = []; words = f.words }

pub behind_own : (f : Feed) → behind f.lines (unprinted f) ≡ f
unfolding behind unprinted
behind_own f = ap (λ (l : List ℕ). record { number = f.number; held = f.held; stopped = f.stopped; areas = f.areas; lines = l; words = f.words }) (append-nil f.lines)

module _ (l : List ℕ) (f : Feed) where
  lines_behind : (number : ℕ) (stopped : Bool) (a : Areas) (x : List ℕ) (words : ℕ)
      → ◌≡◌ {A = Feed} (record { number = number; held = []; stopped = stopped; areas = a; lines = l ++ f.lines ++ x; words = words })
      (record { number = number; held = []; stopped = stopped; areas = a; lines = l ++ (f.lines ++ x); words = words })
  lines_behind number stopped a x words =
      ap (λ (y : List ℕ). record { number = number; held = []; stopped = stopped; areas = a; lines = y; words = words }) (append_assoc l f.lines x)

  record_behind : (bytes : List ℕ) → record_taken (behind l f) bytes ≡ behind l (record_taken f bytes)
  unfolding record_taken opening_taken step_taken too_many_taken behind
  record_behind bytes = go (eqb f.number 0) (leb f.number step_limit)
    where
      go : (a b : Bool) → cond a (opening_taken (behind l f) bytes) (cond b (step_taken (behind l f) bytes) (too_many_taken (behind l f)))
          ≡ behind l (cond a (opening_taken f bytes) (cond b (step_taken f bytes) (too_many_taken f)))
      go true b = lines_behind _ _ _ _ _
      go false true = lines_behind _ _ _ _ _
      go false false = lines_behind _ _ _ _ _

  byte_behind : (b : ℕ) → byte_taken (behind l f) b ≡ behind l (byte_taken f b)
  unfolding byte_taken behind held_on
  byte_behind b = go f.stopped (eqb (length f.held) 7)
    where
      go : (x y : Bool) → cond x (behind l f) (cond y (record_taken (behind l f) (f.held ++ b ∷ [])) (held_on (behind l f) (f.held ++ b ∷ [])))
          ≡ behind l (cond x f (cond y (record_taken f (f.held ++ b ∷ [])) (held_on f (f.held ++ b ∷ []))))
      go true y = refl
      go false true = record_behind (f.held ++ b ∷ [])
      go false false = refl

-- lines in front stay in front
pub taken_behind : (l : List ℕ) (f : Feed) (xs : List ℕ) → bytes_taken (behind l f) xs ≡ behind l (bytes_taken f xs)
unfolding bytes_taken
taken_behind l f [] = refl
taken_behind l f (x ∷ xs) = ap (λ (g : Feed). bytes_taken g xs) (byte_behind l f x) ∙ taken_behind l (byte_taken f x) xs

-- what bytes lead to is what they lead to with nothing printed, behind the lines so far
pub taken_unprinted : (f : Feed) (xs : List ℕ) → bytes_taken f xs ≡ behind f.lines (bytes_taken (unprinted f) xs)
taken_unprinted f xs = ap (λ (g : Feed). bytes_taken g xs) (sym (behind_own f)) ∙ taken_behind f.lines (unprinted f) xs

-- ---- what feeding makes

-- fewer than eight bytes are held, the next number is at most 1,000,001, and for each record fewer words have moved than a number of 32 bits can say
pub record Fed (f : Feed) : Type 0 where
  pub held : length f.held < file_record_width
  pub number : f.number ≤ step_limit + 1
  pub words : f.words ≤ word_values * f.number

begun_fed : (a : Areas) → Fed (begun a)
unfolding begun
begun_fed a = record { held = omega arith; number = omega arith; words = omega arith }

-- no step moves more words than a number of 32 bits can say
answer_words_in_32_bits : (a : Areas) (t : Step) → (answer_of a t).words < word_values
unfolding answer_of refused_with
answer_words_in_32_bits a t = go (right_sizes a)
  where
    go : (b : Bool) → (cond b (answer mainframe (held_state a) t) (refused_with 1)).words < word_values
    go true = words_in_32_bits (held_state a) t
    go false = omega arith

record_fed : (f : Feed) (bytes : List ℕ) → Fed f → Fed (record_taken f bytes)
unfolding record_taken opening_taken step_taken too_many_taken
record_fed f bytes h = go (eqb f.number 0) (leb f.number step_limit) refl
  where
    go : (x y : Bool) → leb f.number step_limit ≡ y → Fed (cond x (opening_taken f bytes) (cond y (step_taken f bytes) (too_many_taken f)))
    go true y e = record { held = omega arith; number = omega arith; words = omega arith }
    go false true e =
        record {
          held = omega arith;
          number = omega (arith, leb-true f.number step_limit e);
          words = omega (arith, h.words, answer_words_in_32_bits f.areas (step_from bytes));
        }
    go false false e = record { held = omega arith; number = h.number; words = h.words }

byte_fed : (f : Feed) (b : ℕ) → Fed f → Fed (byte_taken f b)
unfolding byte_taken held_on
byte_fed f b h = go f.stopped (eqb (length f.held) 7) refl
  where
    go : (x y : Bool) → eqb (length f.held) 7 ≡ y
        → Fed (cond x f (cond y (record_taken f (f.held ++ b ∷ [])) (held_on f (f.held ++ b ∷ []))))
    go true y e = h
    go false true e = record_fed f (f.held ++ b ∷ []) h
    go false false e =
        record { held = omega (arith, h.held, eqb-false (length f.held) 7 e, length-append f.held (b ∷ [])); number = h.number; words = h.words }

pub taken_fed : (f : Feed) (xs : List ℕ) → Fed f → Fed (bytes_taken f xs)
unfolding bytes_taken
taken_fed f [] h = h
taken_fed f (x ∷ xs) h = taken_fed (byte_taken f x) xs (byte_fed f x h)

pub after_fed : (a : Areas) (xs : List ℕ) → Fed (after a xs)
unfolding after
after_fed a xs = taken_fed (begun a) xs (begun_fed a)

zeros_zero : (n : ℕ) → all_zero (replicate n 0) ≡ true
unfolding all_zero
zeros_zero zero = refl
zeros_zero (suc n) = zeros_zero n

-- the progress of what feeding makes is sound
pub fed_sound : (f : Feed) → Fed f → sound (progress_of f) ≡ true
unfolding sound progress_of
fed_sound f h =
    rw (le-leb f.number (step_limit + 1) h.number, le-leb f.words (word_values * f.number) h.words, lt-ltb (length f.held) file_record_width h.held, drop-append_seam f.held (replicate (file_record_width - length f.held) 0))
    (zeros_zero (file_record_width - length f.held))

pub after_sound : (a : Areas) (xs : List ℕ) → sound (progress_of (after a xs)) ≡ true
after_sound a xs = fed_sound (after a xs) (after_fed a xs)

-- ---- from a progress on

-- what stands at the progress of what stands
pub standing_again : (f : Feed) → feed_at (progress_of f) f.areas ≡ unprinted f
unfolding feed_at progress_of unprinted
standing_again f = rw (take-append_seam f.held (replicate (file_record_width - length f.held) 0))

-- no byte has been fed
pub started : (a₀ : Areas) → Reached a₀ [] (record { number = 0; stopped = false; held = 0; bytes = replicate file_record_width 0; words = 0 }) a₀
unfolding after bytes_taken begun progress_of
started a₀ = record { progress = refl; areas = refl }

module _ (a₀ a : Areas) (before chunk : List ℕ) (p : Progress) (h : Reached a₀ before p a) where
  -- what stands before the chunk
  there : feed_at p a ≡ unprinted (after a₀ before)
  there =
      ap (λ (q : Progress). feed_at q a) h.progress ∙ ap (λ (b : Areas). feed_at (progress_of (after a₀ before)) b) h.areas
      ∙ standing_again (after a₀ before)

  -- what stands behind it
  pub cut_taken : after a₀ (before ++ chunk) ≡ behind (after a₀ before).lines (bytes_taken (feed_at p a) chunk)
  unfolding after
  cut_taken =
      taken_together (begun a₀) before chunk ∙ taken_unprinted (after a₀ before) chunk
      ∙ ap (λ (g : Feed). behind (after a₀ before).lines (bytes_taken g chunk)) (sym there)

  -- the chunk leads to what all bytes so far lead to
  pub cut_reached : Reached a₀ (before ++ chunk) (progress_of (bytes_taken (feed_at p a) chunk)) (bytes_taken (feed_at p a) chunk).areas
  unfolding behind progress_of
  cut_reached = record { progress = ap (λ (g : Feed). progress_of g) (sym cut_taken); areas = ap (λ (g : Feed). g.areas) (sym cut_taken) }

  -- and adds its lines
  pub cut_lines : (after a₀ (before ++ chunk)).lines ≡ (after a₀ before).lines ++ (bytes_taken (feed_at p a) chunk).lines
  unfolding behind
  cut_lines = ap (λ (g : Feed). g.lines) cut_taken
