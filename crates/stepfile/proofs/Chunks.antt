-- A chunk fed to a run that has not stopped: the record that has begun, if bytes are held, then the rest. One law for each way of the code, and
-- `chunk_laws`. Assumes nothing.
use Prim.Native.Nat.{◌<◌, ◌≤◌, ℕ}
use native.Mathlib.Omega.{arith}
use mathlib.Core.Path.{◌∙◌, ◌≡◌, ap, refl, sym}
use mathlib.Core.Bool.{Bool, false, true}
use mathlib.Core.List.{List, [], ◌++◌, append_assoc, append-nil}
use lib.ListN.{drop, drop_of_length-le, length, length-append, take, take-append-drop}
use lib.Seq.{length-take-le, take_at}
use borrow.Author.Rules.{rules}
use Rattle.limits.specs.Files.{file_record_width}
use Rattle.layout.specs.Areas.{Areas, areas}
use Rattle.file_record.specs.Records.{Feed, opening_taken, record_taken, step_taken, too_many_taken}
use Rattle.file_record.specs.declared.Stand.{Stand}
use Rattle.file_record.specs.inner.Needed.{RecordTaken, stands_at}
use Rattle.file_chunk.specs.Bytes.{bytes_taken, held_on}
use Rattle.file_chunk.specs.inner.Needed.{AllPassed}
use Rattle.file_chunk.proofs.Bytes.{eight_first, taken_held, taken_record, taken_stopped, taken_together}
use Rattle.file_lines.proofs.Placing.{rest_kept_again, rest_kept_all}
use Rattle.stepfile.specs.Promises.{feed_at}
use Rattle.stepfile.specs.declared.Progress.{Progress}
use Rattle.stepfile.specs.declared.Taken.{Taken}
use Rattle.file_held.specs.declared.Held.{Held}
use Rattle.file_held.specs.inner.Needed.{HeldAll}
use Rattle.stepfile.specs.inner.Needed.{BegunPassable, ChunkFed, Completes, Feedable, taken_as}
use Rattle.stepfile.proofs.Rest.{held_progress}

module _ (p : Progress) (s : Stand) (chunk out c w r m : List ℕ) (h : Feedable p s chunk out c w r m) where
  -- no line is written
  none_written : s.at ≡ 0
  none_written = ap (λ (x : Stand). x.at) h.first

  -- a whole record is taken whatever was held before it
  record_from : (bytes : List ℕ) → record_taken (feed_at p (areas c w r m)) bytes ≡ record_taken (stands_at s out (areas c w r m)) bytes
  unfolding record_taken opening_taken step_taken too_many_taken feed_at stands_at
  record_from bytes = ap (λ (x : Stand). record_taken (stands_at x out (areas c w r m)) bytes) (sym h.first)

  -- nothing is held
  pub whole_taken : p.held ≡ 0 → (t : Taken) (out' : List ℕ) (a' : Areas) → ChunkFed (bytes_taken (stands_at s out (areas c w r m)) (drop 0 chunk)) s.at out t out' a'
      → ChunkFed (bytes_taken (feed_at p (areas c w r m)) chunk) 0 out t out' a'
  unfolding feed_at stands_at
  whole_taken n t out' a' f =
      let same : stands_at s out (areas c w r m) ≡ feed_at p (areas c w r m) =
      ap (λ (x : Stand). stands_at x out (areas c w r m)) h.first
      ∙ sym (rw (h.going, n)) in
      rw (← same, ← none_written) f

  begun_long : length (take p.held p.bytes) ≡ p.held
  begun_long = length-take-le p.held p.bytes (omega (arith, h.fewer, h.holding.long))

  module _ (q : Held) (d : HeldAll p.held p.bytes chunk 0 q) where
    -- the chunk does not complete the record
    pub chunk_held : q.count < file_record_width
        → ChunkFed (bytes_taken (feed_at p (areas c w r m)) chunk) 0 out (record { progress = record { number = p.number; stopped = p.stopped; held = q.count; bytes = q.bytes; words = p.words }; fed = true; written = 0 }) out (areas c w r m)
    unfolding feed_at taken_as held_on
    chunk_held l =
        let all : drop q.next chunk ≡ [] = drop_of_length-le chunk {i = q.next} (omega (arith, d.short l)) in
        let bytes : take p.held p.bytes ++ chunk ≡ take q.count q.bytes =
        sym d.holds.same ∙ ap (λ (xs : List ℕ). take q.count q.bytes ++ xs) all ∙ append-nil (take q.count q.bytes) in
        let is : bytes_taken (feed_at p (areas c w r m)) chunk ≡ held_on (feed_at p (areas c w r m)) (take q.count q.bytes) =
        taken_held (feed_at p (areas c w r m)) chunk h.going (omega (arith, begun_long, d.holds.counted, d.short l, l))
        ∙ ap (λ (xs : List ℕ). held_on (feed_at p (areas c w r m)) xs) bytes in
        rw (is, h.going)
        (record {
          answer =
              ap (λ (x : Progress). record { progress = x; fed = true; written = 0 })
              (held_progress (feed_at p (areas c w r m)) q.count q.bytes d.holds.holding);
          areas = refl;
          lines = refl;
          kept = rest_kept_all out 0 (omega arith);
        })

    -- it does
    pub record_completes : file_record_width ≤ q.count → Completes p s q chunk out c w r m
    record_completes l = record { feedable = h; held = d; eight = l }

module _ (p : Progress) (s : Stand) (q : Held) (chunk out c w r m : List ℕ) (h : Completes p s q chunk out c w r m) where
  module _ (s' : Stand) (out' c' w' r' m' : List ℕ) (k : RecordTaken (record_taken (stands_at s out (areas c w r m)) (take file_record_width q.bytes)) s out s' out' c' w' r' m') where
    eight : q.count ≡ file_record_width
    eight = omega (arith, h.eight, h.held.holds.holding.few)

    begun : length (take p.held p.bytes) ≡ p.held
    begun = begun_long p s chunk out c w r m h.feedable

    first : length (take q.next chunk) ≡ q.next
    first = length-take-le q.next chunk h.held.holds.within

    -- the bytes held and those taken are the record
    whole : take p.held p.bytes ++ take q.next chunk ≡ take file_record_width q.bytes
    whole =
        let front : length (take p.held p.bytes ++ take q.next chunk) ≡ file_record_width =
        length-append (take p.held p.bytes) (take q.next chunk) ∙ omega (arith, begun, first, h.held.holds.counted, eight) in
        let same : take file_record_width q.bytes ++ drop q.next chunk ≡ take p.held p.bytes ++ chunk =
        ap (λ (n : ℕ). take n q.bytes ++ drop q.next chunk) (sym eight) ∙ h.held.holds.same in
        sym (take_at (take p.held p.bytes ++ take q.next chunk) (drop q.next chunk) file_record_width front)
        ∙ ap (λ (xs : List ℕ). take file_record_width xs) (append_assoc (take p.held p.bytes) (take q.next chunk) (drop q.next chunk))
        ∙ ap (λ (xs : List ℕ). take file_record_width (take p.held p.bytes ++ xs)) (take-append-drop q.next chunk)
        ∙ ap (λ (xs : List ℕ). take file_record_width xs) (sym same)
        ∙ take_at (take file_record_width q.bytes) (drop q.next chunk) file_record_width (length-take-le file_record_width q.bytes (omega (arith, h.held.holds.holding.long)))

    -- what the chunk leads to is what its rest leads to behind the record
    behind_first : bytes_taken (stands_at s' out' (areas c' w' r' m')) (drop q.next chunk) ≡ bytes_taken (feed_at p (areas c w r m)) chunk
    unfolding feed_at
    behind_first =
        sym
        (ap (λ (xs : List ℕ). bytes_taken (feed_at p (areas c w r m)) xs) (sym (take-append-drop q.next chunk))
        ∙ taken_together (feed_at p (areas c w r m)) (take q.next chunk) (drop q.next chunk)
        ∙ ap (λ (f : Feed). bytes_taken f (drop q.next chunk))
        (taken_record (feed_at p (areas c w r m)) (take q.next chunk) h.feedable.going (omega (arith, begun, h.feedable.fewer))
        (omega (arith, begun, first, h.held.holds.counted, eight))
        ∙ ap (λ (xs : List ℕ). record_taken (feed_at p (areas c w r m)) xs) whole
        ∙ record_from p s chunk out c w r m h.feedable (take file_record_width q.bytes)
        ∙ sym k.is))

    pub chunk_taken : (t : Taken) (out'' : List ℕ) (a'' : Areas) → ChunkFed (bytes_taken (stands_at s' out' (areas c' w' r' m')) (drop q.next chunk)) s'.at out' t out'' a''
        → ChunkFed (bytes_taken (feed_at p (areas c w r m)) chunk) 0 out t out'' a''
    chunk_taken t out'' a'' f =
        rw (← behind_first)
        (record {
          answer = f.answer;
          areas = f.areas;
          lines = f.lines;
          kept = rw (← none_written p s chunk out c w r m h.feedable) (rest_kept_again out s.at out' s'.at out'' _ k.kept f.kept);
        })

-- the record that has begun, passed as a chunk of one record
pub begun_taken : (s : Stand) (bytes out c w r m : List ℕ) (s' : Stand) (i : ℕ) (out' c' w' r' m' : List ℕ) → BegunPassable s bytes out c w r m
    → AllPassed s bytes 0 out c w r m s' i out' c' w' r' m'
    → RecordTaken (record_taken (stands_at s out (areas c w r m)) (take file_record_width bytes)) s out s' out' c' w' r' m'
unfolding stands_at bytes_taken
begun_taken s bytes out c w r m s' i out' c' w' r' m' h k =
    let f : Feed = record_taken (stands_at s out (areas c w r m)) (take file_record_width bytes) in
    record {
      is =
          sym (none_left s'.stopped refl) ∙ k.passing.is
          ∙ eight_first (stands_at s out (areas c w r m)) bytes refl h.going (omega (arith, h.eight))
          ∙ ap (λ (xs : List ℕ). bytes_taken f xs) (drop_of_length-le bytes {i = file_record_width} (omega (arith, h.eight)));
      few = k.passing.able.few;
      kept = k.passing.kept;
      near = omega (arith, k.passing.near, h.eight);
      order = k.passing.able.order;
      total = k.passing.able.total;
    }
  where
    none_left : (b : Bool) → s'.stopped ≡ b → bytes_taken (stands_at s' out' (areas c' w' r' m')) (drop i bytes) ≡ stands_at s' out' (areas c' w' r' m')
    none_left true y = taken_stopped (stands_at s' out' (areas c' w' r' m')) (drop i bytes) y
    none_left false y =
        ap (λ (xs : List ℕ). bytes_taken (stands_at s' out' (areas c' w' r' m')) xs)
        (drop_of_length-le bytes {i = i} (omega (arith, h.eight, k.few_left y, k.passing.whole)))

pub ruleset chunk_laws = (whole_taken, chunk_held, record_completes, rules)
