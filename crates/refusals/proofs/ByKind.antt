-- What a step that fits says of its object, a write's refusals, and whether a processor holds a lock. Assumes nothing.
use Rattle.std.proofs.Common.{◌≡◌, ℕ, ◌+◌, ◌*◌, ◌/◌, ◌<◌, ◌≤◌, Bool, true, false, not, ◌||◌, eqb, ltb, List, length, get_or, sym, refl, ap, ◌∙◌, add-one, arith, ltb-true, ne_eqb, le-leb}
use mir.Val.{bool_byte}
use mathlib.Core.Bool.{and-eq-true_iff, or-true, or-false}
use borrow.Author.Tests.{lt-leb}
use Rattle.lists.specs.Tables.{any}
use Rattle.limits.specs.Limits.{interval_limit, lock_limit, page_width, record_limit}
use Rattle.limits.specs.inner.Sizes.{first_holder, mark_area, word_limit}
use Rattle.rules.specs.Refusals.{Write, uses_value, holds_any, late_refusal}
use Rattle.rules.specs.State.{mainframe, dirty_at, State, holder}
use Rattle.rules.specs.Steps.{page_of_word}
use Rattle.layout.specs.Areas.{state_in, holder_place}
use Rattle.layout.specs.inner.Marks.{page_count, lock_count, dirty_mark}
use Rattle.layout.specs.inner.Needed.{PageMark}
use Rattle.refusals.specs.inner.Parts.{seen, bound_of, fields_in_range, records_to_come, room_if_all_dirty}
use Rattle.refusals.specs.inner.Needed.{MarksCountable, WriteOf}
use Rattle.refusals.proofs.Marked.{dirty_seen, holder_seen}
use Rattle.refusals.proofs.Counting.{few_records_to_come}

-- ---- row 5

module _ (m : List ℕ) (k n : ℕ) where
  -- the words of a read or a write
  pub words_bound : k ≤ 2 → (n ≡ page_count m) × (n < 256) → n * page_width ≡ bound_of (seen m) k
  unfolding bound_of seen state_in mainframe
  words_bound l e = rw (e.0, le-leb k 2 l)

  -- the locks of an acquire or a release
  pub locks_bound : 2 < k → k ≤ 4 → (n ≡ lock_count m) × (n < 256) → n ≡ bound_of (seen m) k
  unfolding bound_of seen state_in mainframe
  locks_bound h l e = rw (lt-leb k 2 h, le-leb k 4 l) e.0

module _ (m : List ℕ) (k o v : ℕ) (h : MarksCountable m) (fit : fields_in_range (seen m) k o v ≡ true) where
  object_below : o < bound_of (seen m) k
  unfolding fields_in_range
  object_below = ltb-true o (bound_of (seen m) k) ((and-eq-true_iff (ltb o (bound_of (seen m) k)) (uses_value k || eqb v 0)).0 fit).0

  -- the word of a write that fits has a place
  pub word_there : k ≡ 2 → o < word_limit
  word_there e = omega (arith, object_below, words_bound m k (page_count m) (omega arith) (refl, omega (arith, h.pages)), h.pages)

  -- so has the lock of an acquire or a release
  pub lock_there : 3 ≤ k → k ≤ 4 → o < lock_limit
  lock_there a b = omega (arith, object_below, locks_bound m k (lock_count m) a b (refl, omega (arith, h.locks)), h.locks)

-- ---- the rows 9 and 10

-- the page of a word
pub page_of_word_lem : (m : List ℕ) (p w : ℕ) → WriteOf m p w → PageMark m p (w / page_width)
page_of_word_lem m p w h = record { marks = h.by.counted.marks; from = h.by.from; to = h.by.to; page = omega (arith, h.word) }

module _ (m : List ℕ) (n p w : ℕ) (h : WriteOf m p w) (d : Bool) (mark : d ≡ not (eqb (dirty_mark m p (w / page_width)) 0)) where
  is : d ≡ dirty_at (seen m).pages p (w / page_width)
  is = dirty_seen m d p h.by.from h.by.to (w / page_width) (page_of_word_lem m p w h).page mark

  -- a dirty page takes stores
  pub dirty_takes_stores : d ≡ true → 0 ≡ late_refusal mainframe (seen m) n p (Write w 0)
  unfolding late_refusal page_of_word mainframe
  dirty_takes_stores t = rw (← is, t)

  module _ (clean : d ≡ false) where
    -- 9: "own entry is 63"
    pub no_interval_left : n ≡ interval_limit → 9 ≡ late_refusal mainframe (seen m) n p (Write w 0)
    unfolding late_refusal page_of_word mainframe
    no_interval_left e = rw (← is, clean, e)

    module _ (left : n ≡ interval_limit → ⊥) (sum : ℕ) (all : sum ≡ records_to_come (seen m)) where
      -- 10: "records plus dirty pages are 128"
      pub no_room_left : sum ≡ record_limit → 10 ≡ late_refusal mainframe (seen m) n p (Write w 0)
      unfolding late_refusal page_of_word mainframe records_to_come
      no_room_left e = rw (← is, clean, ne_eqb n interval_limit left, ← all, e)

      -- a write while space remains
      pub write_has_space : (sum ≡ record_limit → ⊥) → 0 ≡ late_refusal mainframe (seen m) n p (Write w 0)
      unfolding late_refusal page_of_word mainframe records_to_come
      write_has_space e = rw (← is, clean, ne_eqb n interval_limit left, ← all, ne_eqb sum record_limit e)

    -- a write while space remains whatever is dirty
    pub write_has_ample_space : (n ≡ interval_limit → ⊥) → (b : Bool) → b ≡ room_if_all_dirty (seen m) → b ≡ true → 0 ≡ late_refusal mainframe (seen m) n p (Write w 0)
    unfolding room_if_all_dirty mainframe
    write_has_ample_space left b said t =
        let s : State = seen m in
        let room = ltb-true (s.records.standing + s.counts.processors * s.counts.pages) record_limit (sym said ∙ t) in
        write_has_space left (records_to_come s) refl (λ e. omega (arith, e, room, few_records_to_come s))

-- ---- row 18

-- the marks of the first l locks are looked at: held says whether processor own holds one of them
pub record HeldAmong (m : List ℕ) (own held l : ℕ) : Type 0 where
  pub marks : length m ≡ mark_area
  pub upto : l ≤ lock_limit
  pub few : held ≤ l
  pub says : not (eqb held 0) ≡ any l (λ i. eqb (holder (seen m) i) own)

-- none is looked at yet
pub held_begins : (m : List ℕ) (own : ℕ) → length m ≡ mark_area → HeldAmong m own 0 0
unfolding any
held_begins m own h = record { marks = h; upto = omega arith; few = omega arith; says = refl }

module _ (m : List ℕ) (own held l : ℕ) (h : HeldAmong m own held l) (b : l < lock_limit) where
  -- one more
  pub held_more : (r : ℕ) → r ≡ bool_byte (eqb (get_or m (first_holder + l) 0) own) → HeldAmong m own (held + r) (l + 1)
  unfolding any holder_place mainframe
  held_more r e =
      record {
        marks = h.marks;
        upto = omega (arith, b);
        few = omega (arith, h.few, most (eqb (get_or m (first_holder + l) 0) own) e);
        says = rw (add-one l) (go (eqb (get_or m (first_holder + l) 0) own) refl e);
      }
    where
      most : (x : Bool) → r ≡ bool_byte x → r ≤ 1
      most true z = omega (arith, z)
      most false z = omega (arith, z)

      here : holder (seen m) l ≡ get_or m (first_holder + l) 0
      here = sym (holder_seen m l (get_or m (first_holder + l) 0) (record { marks = h.marks; lock = b }) refl)

      mine : (x : Bool) → eqb (get_or m (first_holder + l) 0) own ≡ x → eqb (holder (seen m) l) own ≡ x
      mine x z = rw here z

      go : (x : Bool) → eqb (get_or m (first_holder + l) 0) own ≡ x → r ≡ bool_byte x → not (eqb (held + r) 0) ≡ (any l (λ i. eqb (holder (seen m) i) own) || eqb (holder (seen m) l) own)
      go true z q = rw (ne_eqb (held + r) 0 (λ y. omega (arith, y, q)), mine true z) (sym (or-true (any l (λ i. eqb (holder (seen m) i) own))))
      go false z q =
          let same : held + r ≡ held = omega (arith, q) in
          rw (same, mine false z) (h.says ∙ sym (or-false (any l (λ i. eqb (holder (seen m) i) own))))

-- all are
pub held_ends : (m : List ℕ) (p own held l : ℕ) → HeldAmong m own held l → lock_limit ≤ l → own ≡ p → not (eqb held 0) ≡ holds_any mainframe (seen m) p
unfolding holds_any mainframe
held_ends m p own held l h e same =
    let all : l ≡ lock_limit = omega (arith, e, h.upto) in
    h.says ∙ ap (λ (n : ℕ). any n (λ i. eqb (holder (seen m) i) own)) all ∙ ap (λ (q : ℕ). any lock_limit (λ i. eqb (holder (seen m) i) q)) same
