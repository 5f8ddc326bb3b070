-- What `feed` promises, from what its parts have done. One law for each way of the code, and `answer_laws`. Assumes nothing.
use Prim.Native.Nat.{◌+◌, ◌≤◌, ℕ}
use native.Mathlib.Omega.{arith}
use mathlib.Core.Path.{◌∙◌, ◌≡◌, ap, refl, sym}
use mathlib.Core.Bool.{Bool, false, false≢true, true}
use mathlib.Core.List.{List, ◌++◌}
use lib.ListN.{drop, length, replicate, take, take-append-drop}
use lib.Seq.{length-take-le, sets, sets-eq}
use borrow.Author.Rules.{rules}
use Rattle.limits.specs.Files.{file_record_width}
use Rattle.layout.specs.Areas.{Areas}
use Rattle.inorder.specs.Areas.{OrderIs}
use Rattle.file_chunk.specs.Bytes.{bytes_taken}
use Rattle.file_chunk.proofs.Bytes.{taken_stopped}
use Rattle.file_lines.proofs.Placing.{rest_kept_all}
use Rattle.stepfile.specs.Feeding.{after}
use Rattle.stepfile.specs.Promises.{FedAs, Started, feed_answer, feed_areas, feed_lines, feedable, left_untaken, progress_of, feed_at}
use Rattle.stepfile.specs.declared.Progress.{Progress}
use Rattle.stepfile.specs.declared.Taken.{Taken}
use Rattle.file_held.specs.inner.Needed.{Holding}
use Rattle.stepfile.specs.inner.Needed.{ChunkFed, Feedable, FeedableIs, taken_as}
use Rattle.stepfile.proofs.Cutting.{cut_lines, cut_reached, started}
use Rattle.stepfile.proofs.Sound.{few_held, few_records, few_words, holding_there, room_there}

-- no byte has been fed
pub nothing_fed : Started (record { number = 0; stopped = false; held = 0; bytes = replicate file_record_width 0; words = 0 })
nothing_fed = record { reached = λ a₀. started a₀ }

-- bytes behind which all is as it was are stored at the start
pub stored_front : (out out' lines : List ℕ) → length lines ≤ length out → take (length lines) out' ≡ lines → drop (length lines) out' ≡ drop (length lines) out
    → out' ≡ sets out 0 lines
stored_front out out' lines l front rest =
    let none : 0 + length lines ≡ length lines = omega arith in
    sym (take-append-drop (length lines) out') ∙ ap (λ (xs : List ℕ). xs ++ drop (length lines) out') front
    ∙ ap (λ (xs : List ℕ). lines ++ xs) rest
    ∙ ap (λ (n : ℕ). lines ++ drop n out) (sym none)
    ∙ sym (sets-eq lines out 0 (omega (arith, l)))

module _ (p : Progress) (chunk out : List ℕ) (a : Areas) (b : Bool) (e : FeedableIs b p (length chunk) (length out)) where
  -- nothing is done
  pub not_fed : b ≡ false → FedAs p chunk out a (record { progress = p; fed = false; written = 0 }) out a
  unfolding feed_answer feed_lines feed_areas left_untaken
  not_fed z =
      let no : feedable p (length chunk) (length out) ≡ false = sym e.is ∙ z in
      record {
        answer = sym (rw no refl);
        lines = sym (rw no refl);
        areas = sym (rw no refl);
        within = omega arith;
        cut = λ a₀ before f r. absurd (false≢true f);
        added = λ a₀ before f r. absurd (false≢true f);
      }

  module _ (z : b ≡ true) where
    fed_there : feedable p (length chunk) (length out) ≡ true
    fed_there = sym e.is ∙ z

    -- the chunk is fed
    pub fed_as : (t : Taken) (out' : List ℕ) (a' : Areas) → ChunkFed (bytes_taken (feed_at p a) chunk) 0 out t out' a' → FedAs p chunk out a t out' a'
    unfolding feed_answer feed_lines feed_areas taken_as
    fed_as t out' a' d =
        let progress : t.progress ≡ progress_of (bytes_taken (feed_at p a) chunk) = ap (λ (x : Taken). x.progress) d.answer in
        let written : t.written ≡ length (bytes_taken (feed_at p a) chunk).lines = ap (λ (x : Taken). x.written) d.answer in
        record {
          answer = d.answer ∙ sym (rw fed_there refl);
          lines = stored_front out out' (bytes_taken (feed_at p a) chunk).lines d.kept.within d.lines d.kept.rest ∙ sym (rw fed_there refl);
          areas = d.areas ∙ sym (rw fed_there refl);
          within = omega (arith, written, d.kept.within, d.kept.long);
          cut = λ a₀ before u r. rw (progress, d.areas) (cut_reached a₀ a before chunk p r);
          added = λ a₀ before u r.
              cut_lines a₀ a before chunk p r
              ∙ ap (λ (xs : List ℕ). (after a₀ before).lines ++ xs) (sym d.lines ∙ ap (λ (n : ℕ). take n out') (sym written));
        }

module _ (p : Progress) (chunk out : List ℕ) (e : FeedableIs true p (length chunk) (length out)) where
  -- a run that has stopped is left as it is
  pub fed_stopped : (a : Areas) → length p.bytes ≡ file_record_width → p.stopped ≡ true
      → ChunkFed (bytes_taken (feed_at p a) chunk) 0 out (record { progress = p; fed = true; written = 0 }) out a
  unfolding feed_at progress_of taken_as
  fed_stopped a long s =
      rw (taken_stopped (feed_at p a) chunk s)
      (record {
        answer = ap (λ (x : Progress). record { progress = x; fed = true; written = 0 }) (again p (holding_there p (length chunk) (length out) (sym e.is) long));
        areas = refl;
        lines = refl;
        kept = rest_kept_all out 0 (omega arith);
      })
    where
      again : (q : Progress) → Holding q.held q.bytes → q ≡ progress_of (feed_at q a)
      again q h =
          let l : length (take q.held q.bytes) ≡ q.held = length-take-le q.held q.bytes (omega (arith, h.few, h.long)) in
          sym (rw (l, ← h.zeros, take-append-drop q.held q.bytes))

  -- what feeding on asks
  pub feedable_on : (ready : Bool) (c w r m : List ℕ) → p.stopped ≡ false → length p.bytes ≡ file_record_width → OrderIs ready c w r m
      → Feedable p (record { number = p.number; stopped = false; ready = ready; at = 0; words = p.words }) chunk out c w r m
  feedable_on ready c w r m s long o =
      record {
        few = few_records p (length chunk) (length out) (sym e.is);
        going = s;
        fewer = few_held p (length chunk) (length out) (sym e.is);
        holding = holding_there p (length chunk) (length out) (sym e.is) long;
        first = refl;
        room = room_there p (length chunk) (length out) (sym e.is);
        order = o;
        total = few_words p (length chunk) (length out) (sym e.is);
      }

pub ruleset answer_laws = (not_fed, fed_as, fed_stopped, feedable_on, rules)
