-- The rest of a chunk: the records that lie whole in it are taken, and the bytes behind the last are held. One law for each way of the code,
-- and `rest_laws`. Assumes nothing.
use Prim.Native.Nat.{◌<◌, ◌≤◌, ℕ}
use native.Mathlib.Omega.{arith}
use mathlib.Core.Path.{◌∙◌, ◌≡◌, ap, refl, sym}
use mathlib.Core.Bool.{Bool, false, true}
use mathlib.Core.List.{List, [], ◌++◌, append-nil}
use lib.ListN.{drop, drop_of_length-le, length, length-drop, replicate, take, take-append-drop}
use lib.Seq.{length-take-le}
use borrow.Author.Rules.{rules}
use Rattle.limits.specs.Files.{file_record_width}
use Rattle.layout.specs.Areas.{Areas, areas}
use Rattle.file_record.specs.Records.{Feed}
use Rattle.file_record.specs.declared.Stand.{Stand}
use Rattle.file_record.specs.inner.Needed.{stands_at}
use Rattle.file_chunk.specs.Bytes.{bytes_taken, held_on}
use Rattle.file_chunk.specs.inner.Needed.{AllPassed}
use Rattle.file_chunk.proofs.Bytes.{taken_held, taken_stopped}
use Rattle.stepfile.specs.Promises.{progress_of}
use Rattle.stepfile.specs.declared.Progress.{Progress}
use Rattle.stepfile.specs.declared.Taken.{Taken}
use Rattle.file_held.specs.declared.Held.{Held}
use Rattle.file_held.specs.inner.Needed.{HeldAll, Holding}
use Rattle.stepfile.specs.inner.Needed.{ChunkFed, Endable, Ended, taken_as}

-- the progress with bytes held
pub held_progress : (f : Feed) (count : ℕ) (kept : List ℕ) → Holding count kept
    → ◌≡◌ {A = Progress} (record { number = f.number; stopped = false; held = count; bytes = kept; words = f.words }) (progress_of (held_on f (take count kept)))
unfolding progress_of held_on
held_progress f count kept h =
    let l : length (take count kept) ≡ count = length-take-le count kept (omega (arith, h.few, h.long)) in
    rw (l, ← h.zeros, take-append-drop count kept)

module _ (s : Stand) (chunk : List ℕ) (from : ℕ) (h : Endable s chunk from) where
  -- bytes that are no record leave the lines and the areas as they are
  module _ (out : List ℕ) (a : Areas) where
    rest_held : s.stopped ≡ false → bytes_taken (stands_at s out a) (drop from chunk) ≡ held_on (stands_at s out a) (drop from chunk)
    unfolding stands_at
    rest_held z = taken_held (stands_at s out a) (drop from chunk) z (omega (arith, length-drop from chunk, h.few_left z))

    rest_stopped : s.stopped ≡ true → bytes_taken (stands_at s out a) (drop from chunk) ≡ stands_at s out a
    unfolding stands_at
    rest_stopped z = taken_stopped (stands_at s out a) (drop from chunk) z

    pub rest_lines_lem : (bytes_taken (stands_at s out a) (drop from chunk)).lines ≡ take s.at out
    unfolding stands_at held_on
    rest_lines_lem = go s.stopped refl
      where
        go : (b : Bool) → s.stopped ≡ b → (bytes_taken (stands_at s out a) (drop from chunk)).lines ≡ take s.at out
        go true e = ap (λ (f : Feed). f.lines) (rest_stopped e)
        go false e = ap (λ (f : Feed). f.lines) (rest_held e)

    pub rest_areas : (bytes_taken (stands_at s out a) (drop from chunk)).areas ≡ a
    unfolding stands_at held_on
    rest_areas = go s.stopped refl
      where
        go : (b : Bool) → s.stopped ≡ b → (bytes_taken (stands_at s out a) (drop from chunk)).areas ≡ a
        go true e = ap (λ (f : Feed). f.areas) (rest_stopped e)
        go false e = ap (λ (f : Feed). f.areas) (rest_held e)

  -- a run that has stopped holds none
  pub ended_stopped : s.stopped ≡ true
      → Ended s chunk from (record { progress = record { number = s.number; stopped = true; held = 0; bytes = replicate file_record_width 0; words = s.words }; fed = true; written = s.at })
  unfolding taken_as progress_of stands_at
  ended_stopped z =
      record { is = λ out a l. sym (ap (λ (f : Feed). taken_as f) (rest_stopped out a z) ∙ rw (z, length-take-le s.at out l)) }

  pub ended_held : (q : Held) → s.stopped ≡ false → HeldAll 0 (replicate file_record_width 0) chunk from q
      → Ended s chunk from (record { progress = record { number = s.number; stopped = false; held = q.count; bytes = q.bytes; words = s.words }; fed = true; written = s.at })
  unfolding taken_as stands_at held_on
  ended_held q z d =
      let few : q.count < file_record_width = omega (arith, d.holds.counted, d.holds.within, h.few_left z) in
      let all : drop q.next chunk ≡ [] = drop_of_length-le chunk {i = q.next} (omega (arith, d.short few)) in
      let rest : drop from chunk ≡ take q.count q.bytes =
      sym (sym (append-nil (take q.count q.bytes)) ∙ ap (λ (l : List ℕ). take q.count q.bytes ++ l) (sym all) ∙ d.holds.same) in
      record {
        is = λ out a l.
            ap (λ (p : Progress). record { progress = p; fed = true; written = s.at }) (held_progress (stands_at s out a) q.count q.bytes d.holds.holding)
            ∙ ap (λ (n : ℕ). record { progress = progress_of (held_on (stands_at s out a) (take q.count q.bytes)); fed = true; written = n }) (sym (length-take-le s.at out l))
            ∙ ap (λ (xs : List ℕ). taken_as (held_on (stands_at s out a) xs)) (sym rest)
            ∙ ap (λ (f : Feed). taken_as f) (sym (rest_held out a z));
      }

module _ (s : Stand) (chunk : List ℕ) (from : ℕ) (out c w r m : List ℕ) (s' : Stand) (i : ℕ) (out' c' w' r' m' : List ℕ)
    (h : AllPassed s chunk from out c w r m s' i out' c' w' r' m') where
  -- what the end asks of the last stand
  pub endable : Endable s' chunk i
  endable = record { within = h.passing.able.within; few_left = h.few_left }

  -- the records of a chunk are taken, and the bytes behind them are held
  pub rest_taken : (t : Taken) → Ended s' chunk i t → ChunkFed (bytes_taken (stands_at s out (areas c w r m)) (drop from chunk)) s.at out t out' (areas c' w' r' m')
  rest_taken t d =
      let a' : Areas = areas c' w' r' m' in
      let at : s'.at ≤ length out' = omega (arith, h.passing.kept.within, h.passing.kept.long) in
      let lines = rest_lines_lem s' chunk i endable out' a' in
      let written : length (bytes_taken (stands_at s' out' a') (drop i chunk)).lines ≡ s'.at = ap length lines ∙ length-take-le s'.at out' at in
      rw (← h.passing.is)
      (record {
        answer = d.is out' a' at;
        areas = sym (rest_areas s' chunk i endable out' a');
        lines = ap (λ (n : ℕ). take n out') written ∙ sym lines;
        kept = rw written h.passing.kept;
      })

pub ruleset rest_laws = (ended_stopped, ended_held, rest_taken, rules)
