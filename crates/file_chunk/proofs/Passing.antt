-- The records of a chunk, one after the other: the opening, the steps, one too many. One law for each way of the code, and `passing_laws`. Rests on
-- Bytes and Records. Assumes nothing.
use Prim.Native.Nat.{◌+◌, ◌-◌, ◌<◌, ◌≤◌, ℕ}
use native.Mathlib.Omega.{arith}
use mathlib.Core.Path.{◌∙◌, ◌≡◌, ap, refl, sym}
use mathlib.Core.Bool.{false, true, true≢false}
use mathlib.Core.List.{List}
use lib.ListN.{drop, length, length-drop, take}
use borrow.Author.Rules.{rules}
use Rattle.limits.specs.Files.{file_record_width, line_limit}
use Rattle.layout.specs.Areas.{areas}
use Rattle.lines.specs.inner.Needed.{Room}
use Rattle.file_record.specs.Records.{Feed, opening_taken, record_taken}
use Rattle.file_record.specs.declared.Stand.{Stand}
use Rattle.file_record.specs.inner.Needed.{StoppedAt, Takeable, RecordTaken, stands_at}
use Rattle.file_lines.proofs.Placing.{rest_kept_all, rest_kept_again}
use Rattle.file_chunk.specs.Bytes.{bytes_taken}
use Rattle.file_chunk.specs.inner.Needed.{FirstTaken, LastPassable, LastTaken, Passable, AllPassed, Passing, StepsTaken}
use Rattle.file_chunk.proofs.Bytes.{eight_taken}
use Rattle.file_chunk.proofs.Records.{opening_record, too_many_record}

-- ---- records taken

-- none is taken yet
pub passing_begins : (s : Stand) (chunk : List ℕ) (from : ℕ) (out c w r m : List ℕ) → Passable s chunk from out c w r m
    → Passing s chunk from out c w r m s from out c w r m
passing_begins s chunk from out c w r m h =
    record {
      able = h;
      is = refl;
      whole = refl;
      near = omega arith;
      kept = rest_kept_all out s.at (omega (arith, h.room));
      clocks = refl;
      words = refl;
      records = refl;
      marks = refl;
    }

module _ (s₀ : Stand) (chunk : List ℕ) (from : ℕ) (out₀ c₀ w₀ r₀ m₀ : List ℕ) (s : Stand) (i : ℕ) (out c w r m : List ℕ)
    (h : Passing s₀ chunk from out₀ c₀ w₀ r₀ m₀ s i out c w r m) where
  -- those up to a place and those behind it
  pub passing_on : (s' : Stand) (i' : ℕ) (out' c' w' r' m' : List ℕ) → Passing s chunk i out c w r m s' i' out' c' w' r' m'
      → Passing s₀ chunk from out₀ c₀ w₀ r₀ m₀ s' i' out' c' w' r' m'
  passing_on s' i' out' c' w' r' m' k =
      record {
        able = k.able;
        is = k.is ∙ h.is;
        whole = k.whole ∙ h.whole;
        near = omega (arith, k.near, h.near);
        kept = rest_kept_again out₀ s₀.at out s.at out' s'.at h.kept k.kept;
        clocks = k.clocks ∙ h.clocks;
        words = k.words ∙ h.words;
        records = k.records ∙ h.records;
        marks = k.marks ∙ h.marks;
      }

module _ (s : Stand) (chunk : List ℕ) (i : ℕ) (out c w r m : List ℕ) (h : Passable s chunk i out c w r m) (l : file_record_width ≤ length chunk - i) where
  -- a whole record is there
  pub record_takeable : Takeable s chunk i out c w r m
  record_takeable = record { few = h.few; there = omega (arith, l); room = omega (arith, l, h.room); order = h.order; total = h.total }

  -- it is taken
  pub passing_one : (s' : Stand) (out' c' w' r' m' : List ℕ) → s.stopped ≡ false
      → RecordTaken (record_taken (stands_at s out (areas c w r m)) (take file_record_width (drop i chunk))) s out s' out' c' w' r' m'
      → length c' ≡ length c → length w' ≡ length w → length r' ≡ length r → length m' ≡ length m
      → Passing s chunk i out c w r m s' (i + file_record_width) out' c' w' r' m'
  unfolding stands_at
  passing_one s' out' c' w' r' m' z d ec ew er em =
      record {
        able =
            record {
              few = d.few;
              within = omega (arith, l);
              room = omega (arith, l, h.room, d.near, d.kept.long);
              order = d.order;
              total = d.total;
            };
        is =
            ap (λ (f : Feed). bytes_taken f (drop (i + file_record_width) chunk)) d.is
            ∙ sym (eight_taken (stands_at s out (areas c w r m)) chunk i refl z (omega (arith, l, length-drop i chunk)));
        whole = omega arith;
        near = omega (arith, l, d.near);
        kept = d.kept;
        clocks = ec;
        words = ew;
        records = er;
        marks = em;
      }

-- ---- the opening

module _ (s : Stand) (chunk : List ℕ) (from : ℕ) (out c w r m : List ℕ) (h : Passable s chunk from out c w r m) where
  -- it is taken before
  pub first_before : (s.number ≡ 0 → ⊥) → FirstTaken s chunk from out c w r m s from out c w r m
  first_before n = record { passing = passing_begins s chunk from out c w r m h; able = record { passable = h; opened = λ z e. absurd (n e) } }

  -- the run has stopped
  pub first_stopped : s.stopped ≡ true → FirstTaken s chunk from out c w r m s from out c w r m
  first_stopped y = record { passing = passing_begins s chunk from out c w r m h; able = record { passable = h; opened = λ z e. absurd (true≢false (sym y ∙ z)) } }

  -- fewer than eight bytes are there
  pub first_short : length chunk - from < file_record_width → FirstTaken s chunk from out c w r m s from out c w r m
  first_short l = record { passing = passing_begins s chunk from out c w r m h; able = record { passable = h; opened = λ z e. omega (arith, l) } }

  pub first_taken : (s' : Stand) (out' c' w' r' m' : List ℕ) → s.number ≡ 0 → s.stopped ≡ false → file_record_width ≤ length chunk - from
      → RecordTaken (opening_taken (stands_at s out (areas c w r m)) (take file_record_width (drop from chunk))) s out s' out' c' w' r' m'
      → length c' ≡ length c → length w' ≡ length w → length r' ≡ length r → length m' ≡ length m
      → FirstTaken s chunk from out c w r m s' (from + file_record_width) out' c' w' r' m'
  unfolding stands_at opening_taken
  first_taken s' out' c' w' r' m' n z l d ec ew er em =
      let one =
      passing_one s chunk from out c w r m h l s' out' c' w' r' m' z (opening_record s chunk from out c w r m s' out' c' w' r' m' n d) ec ew er em in
      record {
        passing = one;
        able = record { passable = one.able; opened = λ y e. absurd (omega (arith, e, ap (λ (f : Feed). f.number) d.is)) };
      }

-- ---- one too many

module _ (s : Stand) (chunk : List ℕ) (from : ℕ) (out : List ℕ) where
  -- the run has stopped before
  pub last_stopped : s.stopped ≡ true → LastTaken s chunk from out s from out
  last_stopped y =
      record {
        is = λ c w r m h. record { passing = passing_begins s chunk from out c w r m h; few_left = λ z. absurd (true≢false (sym y ∙ z)) };
      }

  -- fewer than eight bytes are left
  pub last_short : length chunk - from < file_record_width → LastTaken s chunk from out s from out
  last_short l = record { is = λ c w r m h. record { passing = passing_begins s chunk from out c w r m h; few_left = λ z. omega (arith, l) } }

  module _ (k : LastPassable s chunk from out) (l : file_record_width ≤ length chunk - from) where
    pub room_for_stop : Room out s.at line_limit
    room_for_stop = record { room = omega (arith, l, k.room) }

    pub last_taken : (s' : Stand) (out' : List ℕ) → s.stopped ≡ false → StoppedAt s out s' out'
        → LastTaken s chunk from out s' (from + file_record_width) out'
    last_taken s' out' z d =
        record {
          is = λ c w r m h.
              record {
                passing =
                    passing_one s chunk from out c w r m h l s' out' c w r m z
                    (too_many_record s chunk from out c w r m s' out' (record_takeable s chunk from out c w r m h l) (omega (arith, k.over z (omega (arith, l)))) d)
                    refl refl refl refl;
                few_left = λ y. absurd (true≢false (sym (ap (λ (x : Stand). x.stopped) d.is) ∙ y));
              };
        }

-- ---- one after the other

module _ (s : Stand) (chunk : List ℕ) (from : ℕ) (out c w r m : List ℕ) (s₁ : Stand) (i₁ : ℕ) (out₁ c₁ w₁ r₁ m₁ : List ℕ) (s₂ : Stand) (i₂ : ℕ) (out₂ : List ℕ) where
  -- the steps, then one too many
  pub behind_taken : StepsTaken s chunk from out c w r m s₁ i₁ out₁ c₁ w₁ r₁ m₁ → LastTaken s₁ chunk i₁ out₁ s₂ i₂ out₂ → AllPassed s chunk from out c w r m s₂ i₂ out₂ c₁ w₁ r₁ m₁
  behind_taken h d =
      let last = d.is c₁ w₁ r₁ m₁ h.passing.able in
      record {
        passing = passing_on s chunk from out c w r m s₁ i₁ out₁ c₁ w₁ r₁ m₁ h.passing s₂ i₂ out₂ c₁ w₁ r₁ m₁ last.passing;
        few_left = last.few_left;
      }

  -- the opening, then those behind it
  pub whole_taken : (c₂ w₂ r₂ m₂ : List ℕ) → FirstTaken s chunk from out c w r m s₁ i₁ out₁ c₁ w₁ r₁ m₁ → AllPassed s₁ chunk i₁ out₁ c₁ w₁ r₁ m₁ s₂ i₂ out₂ c₂ w₂ r₂ m₂
      → AllPassed s chunk from out c w r m s₂ i₂ out₂ c₂ w₂ r₂ m₂
  whole_taken c₂ w₂ r₂ m₂ h d =
      record {
        passing = passing_on s chunk from out c w r m s₁ i₁ out₁ c₁ w₁ r₁ m₁ h.passing s₂ i₂ out₂ c₂ w₂ r₂ m₂ d.passing;
        few_left = d.few_left;
      }

pub ruleset passing_laws = (record_takeable, first_before, first_stopped, first_short, first_taken, last_stopped, last_short, room_for_stop, last_taken, rules)
