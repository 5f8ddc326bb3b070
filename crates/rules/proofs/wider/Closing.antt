-- Closing, and the steps that are a closing and a move of clocks and marks, leave states of two limits alike. Rests on Like and Slots. Assumes nothing.
use Prim.Native.Nat.{ℕ, zero, suc, ◌+◌, ◌-◌, ◌%◌, ◌≤◌, ◌<◌}
use native.Mathlib.Omega.{arith}
use mathlib.Core.Path.{◌≡◌, refl, sym, ap, ap₂, ◌∙◌, subst}
use mathlib.Core.Bool.{Bool, true, false, cond}
use mathlib.Core.List.{List, [], ◌∷◌, ◌++◌, map}
use lib.ListN.{length, get_or, take}
use lib.Dec.{eqb}
use Rattle.lists.specs.Tables.{put, cell}
use Rattle.lists.proofs.Tables.{get_put, get_map, any_same}
use Rattle.limits.specs.Limits.{word_values}
use Rattle.diff.specs.Format.{written}
use Rattle.rules.specs.State.{Limits, Processor, Lock, Barrier, Job, Clocks, clock_of, with_clock, copy_of, twin_of, dirty_at, Record, record_in, records_of, State, clock, own, holder, with_clocks, with_marks, with_arrived, with_queue, with_shared}
use Rattle.rules.specs.Lines.{first_in_line, lock_asked, lock_handed}
use Rattle.rules.specs.Close.{any_dirty, ticked, new_record, recorded, cleaned, closed}
use Rattle.rules.specs.Steps.{learned, acquire, lock_told, waiter_told, release, at_barrier, all_learned, round_done, place_behind, free_place, enqueue, dequeue}
use Rattle.rules.specs.WiderLimits.{wider}
use Rattle.rules.proofs.state.Slots.{new_records, slots_recorded, records_recorded, length_standing}
use Rattle.rules.proofs.wider.Like.{Tables, swapped, other, Fits, Like, goes_on, dirty_same}

-- ---- closing

module _ (s : State) (x : Tables) (f : Fits s x) (p : ℕ) where
  any_dirty_same : any_dirty (other s x) p ≡ any_dirty s p
  unfolding any_dirty
  any_dirty_same = any_same s.counts.pages (dirty_at (other s x).pages p) (dirty_at s.pages p) (dirty_same s x f p)

  -- the records that closing makes
  new_same : (n : ℕ) → n ≤ s.counts.pages → new_records (other s x) p n ≡ new_records s p n
  unfolding new_records
  new_same zero l = refl
  new_same (suc g) l =
      ap₂ (λ (b : Bool) (r : Record). cond b (new_records (other s x) p g ++ r ∷ []) (new_records (other s x) p g)) (dirty_same s x f p g l) one
      ∙ ap (λ (k : List Record). cond (dirty_at s.pages p g) (k ++ new_record s p g ∷ []) k) (new_same g (omega arith))
    where
      one : new_record (other s x) p g ≡ new_record s p g
      one = unfold new_record twin_of copy_of own clock clock_of in
          ap₂ (λ (a b : List ℕ). record { processor = p; interval = own s p + 1; page = g; diff = written a b }) (f.twins p g l) (f.copies p g l)

  abbrev n : ℕ
  n = s.counts.pages

  records_same : records_of (recorded (other s x) p n) ≡ records_of (recorded s p n)
  records_same =
      let before : records_of (other s x).records ≡ records_of s.records = unfold records_of in f.records in
      records_recorded (other s x) p n f.room_there ∙ ap₂ ◌++◌ before (new_same n (omega arith)) ∙ sym (records_recorded s p n f.room)

  standing_same : (recorded (other s x) p n).standing ≡ (recorded s p n).standing
  standing_same =
      sym (length_standing (recorded (other s x) p n) (slots_recorded (other s x) p n f.room_there)) ∙ ap length records_same
      ∙ length_standing (recorded s p n) (slots_recorded s p n f.room)

  -- the marks of closed pages
  cleaned_cell : (t : List (List ℕ)) (q g : ℕ) → cell 0 (put [] t p (map (λ (mark : ℕ). 0) (get_or t p []))) q g ≡ cond (eqb q p) 0 (cell 0 t q g)
  cleaned_cell t q g = ap (λ (row : List ℕ). get_or row g 0) (get_put [] t p q (map (λ (mark : ℕ). 0) (get_or t p []))) ∙ go (eqb q p)
    where
      go : (b : Bool) → get_or (cond b (map (λ (mark : ℕ). 0) (get_or t p [])) (get_or t q [])) g 0 ≡ cond b 0 (get_or (get_or t q []) g 0)
      go true = get_map (λ (mark : ℕ). 0) 0 (get_or t p []) g
      go false = refl

  applied_kept : (y : State) → (closed y p).clocks.applied ≡ y.clocks.applied
  unfolding closed ticked with_clock
  applied_kept y = go (any_dirty y p)
    where
      go : (c : Bool) → (cond c (ticked y p) y.clocks).applied ≡ y.clocks.applied
      go true = refl
      go false = refl

  clocks_closed : (closed (other s x) p).clocks ≡ swapped (closed s p).clocks (closed (other s x) p).clocks.applied
  unfolding closed ticked with_clock clock own clock_of
  clocks_closed =
      ap (λ (c : Bool). cond c (ticked (other s x) p) (other s x).clocks) any_dirty_same ∙ go (any_dirty s p)
      ∙ ap (λ (a : List (List (List ℕ))). swapped (closed s p).clocks a) (sym (applied_kept (other s x)))
    where
      go : (c : Bool) → cond c (ticked (other s x) p) (other s x).clocks ≡ swapped (cond c (ticked s p) s.clocks) x.applied
      go true = refl
      go false = refl

  pub closed_like : Like (closed s p) (closed (other s x) p)
  unfolding closed cleaned records_of
  closed_like =
      record {
        same = λ i.
            record {
              counts = s.counts;
              clocks = clocks_closed i;
              pages = (closed (other s x) p).pages;
              records = record { standing = standing_same i; slots = (recorded (other s x) p n).slots };
              marks = s.marks;
              shared = s.shared;
            };
        agrees =
            record {
              applied = λ q g l. ap (λ (a : List (List (List ℕ))). cell [] a q g) (applied_kept (other s x)) ∙ f.applied q g l ∙ sym (ap (λ (a : List (List (List ℕ))). cell [] a q g) (applied_kept s));
              copies = f.copies;
              twins = f.twins;
              dirty = λ q g l. cleaned_cell x.dirty q g ∙ clean q g l (eqb q p) ∙ sym (cleaned_cell s.pages.dirty q g);
              room = slots_recorded s p n f.room;
              room_there = subst (λ (k : ℕ). k ≤ length (recorded (other s x) p n).slots) standing_same (slots_recorded (other s x) p n f.room_there);
              records = ap (λ (k : ℕ). map record_in (take k (recorded (other s x) p n).slots)) (sym standing_same) ∙ records_same;
            };
      }
    where
      clean : (q g : ℕ) → g < s.counts.pages → (b : Bool) → cond b 0 (cell 0 x.dirty q g) ≡ cond b 0 (cell 0 s.pages.dirty q g)
      clean q g l true = refl
      clean q g l false = f.dirty q g l

-- ---- closing, and then the same move of clocks and marks

pub acquire_like : (s : State) (x : Tables) → Fits s x → (p l : ℕ) → Like (acquire s p l) (acquire (other s x) p l)
unfolding acquire
acquire_like s x f p l =
    goes_on (closed s p) (acquire s p l) (closed (other s x) p)
    (λ y. with_clocks (with_marks y (lock_asked y.counts.processors y.marks l p)) (cond (eqb (holder y l) 0) (learned y.clocks (Processor p) (Lock l)) y.clocks))
    (closed_like s x f p) (λ y k. unfold holder in go y k (eqb (get_or (closed s p).marks.holders l 0) 0))
  where
    s₁ : State
    s₁ = closed s p

    go : (y : Tables) → Fits s₁ y → (b : Bool)
        → Like (with_clocks (with_marks s₁ (lock_asked s₁.counts.processors s₁.marks l p)) (cond b (learned s₁.clocks (Processor p) (Lock l)) s₁.clocks))
        (with_clocks (with_marks (other s₁ y) (lock_asked s₁.counts.processors s₁.marks l p)) (cond b (learned (other s₁ y).clocks (Processor p) (Lock l)) (other s₁ y).clocks))
    go y k true = unfold learned with_clock clock_of in record { same = refl; agrees = k }
    go y k false = record { same = refl; agrees = k }

pub release_like : (s : State) (x : Tables) → Fits s x → (p l : ℕ) → Like (release s p l) (release (other s x) p l)
unfolding release waiter_told
release_like s x f p l =
    goes_on (closed s p) (release s p l) (closed (other s x) p)
    (λ y. with_clocks (with_marks y (lock_handed y.counts.processors y.marks l)) (waiter_told (lock_told y.clocks p l) (first_in_line y.counts.processors y.marks l) l))
    (closed_like s x f p) (λ y k. go y k (first_in_line (closed s p).counts.processors (closed s p).marks l) (eqb (first_in_line (closed s p).counts.processors (closed s p).marks l) 0))
  where
    s₁ : State
    s₁ = closed s p

    go : (y : Tables) → Fits s₁ y → (q : ℕ) (b : Bool)
        → Like (with_clocks (with_marks s₁ (lock_handed s₁.counts.processors s₁.marks l)) (cond b (lock_told s₁.clocks p l) (learned (lock_told s₁.clocks p l) (Processor q) (Lock l))))
        (with_clocks (with_marks (other s₁ y) (lock_handed s₁.counts.processors s₁.marks l)) (cond b (lock_told (other s₁ y).clocks p l) (learned (lock_told (other s₁ y).clocks p l) (Processor q) (Lock l))))
    go y k q true = unfold lock_told with_clock clock_of in record { same = refl; agrees = k }
    go y k q false = unfold lock_told learned with_clock clock_of in record { same = refl; agrees = k }

pub enqueue_like : (lim : Limits) (pages records : ℕ) (s : State) (x : Tables) → Fits s x → (p v : ℕ) → Like (enqueue lim s p v) (enqueue (wider lim pages records) (other s x) p v)
unfolding enqueue free_place
enqueue_like lim pages records s x f p v =
    goes_on (closed s p) (enqueue lim s p v) (closed (other s x) p)
    (λ y. with_marks (with_clocks (with_shared y (record { posted = y.shared.posted; adds = y.shared.adds; values = put 0 y.shared.values (free_place lim y) (v % word_values) })) (with_clock y.clocks (Job (free_place lim y)) (clock_of y.clocks (Processor p)))) (with_queue y.marks y.marks.first (y.marks.jobs + 1)))
    (closed_like s x f p) (λ y k. unfold with_clock clock_of free_place in record { same = refl; agrees = k })

pub dequeue_like : (lim : Limits) (pages records : ℕ) (s : State) (x : Tables) → Fits s x → (p : ℕ) → Like (dequeue lim s p).after (dequeue (wider lim pages records) (other s x) p).after
unfolding dequeue place_behind
dequeue_like lim pages records s x f p =
    goes_on (closed s p) (dequeue lim s p).after (closed (other s x) p)
    (λ y. with_marks (with_clocks y (learned y.clocks (Processor p) (Job y.marks.first))) (with_queue y.marks (place_behind lim y.marks.first) (y.marks.jobs - 1)))
    (closed_like s x f p) (λ y k. unfold learned with_clock clock_of place_behind in record { same = refl; agrees = k })

pub barrier_like : (s : State) (x : Tables) → Fits s x → (p : ℕ) → Like (at_barrier s p) (at_barrier (other s x) p)
unfolding at_barrier
barrier_like s x f p =
    goes_on (closed s p) (at_barrier s p) (closed (other s x) p) (λ y. with_marks (with_clocks y (learned y.clocks Barrier (Processor p))) (with_arrived y.marks (put 0 y.marks.arrived p 1)))
    (closed_like s x f p) (λ y k. unfold learned with_clock clock_of in record { same = refl; agrees = k })

-- ---- a completed round

learned_swapped : (c : Clocks) (a : List (List (List ℕ))) (n : ℕ) → all_learned (swapped c a) n ≡ swapped (all_learned c n) a
unfolding all_learned
learned_swapped c a zero = refl
learned_swapped c a (suc k) = ap (λ (d : Clocks). learned d (Processor (suc k)) Barrier) (learned_swapped c a k) ∙ (unfold learned with_clock clock_of in refl)

pub round_like : (s : State) (x : Tables) → Fits s x → Like (round_done s) (round_done (other s x))
unfolding round_done with_clock
round_like s x f =
    rw (learned_swapped s.clocks x.applied s.counts.processors)
    (record {
      same = refl;
      agrees =
          record {
            applied = λ p g l. f.applied p g l ∙ sym (ap (λ (c : Clocks). cell [] c.applied p g) (learned_swapped s.clocks s.clocks.applied s.counts.processors));
            copies = f.copies;
            twins = f.twins;
            dirty = f.dirty;
            room = f.room;
            room_there = f.room_there;
            records = f.records;
          };
    })
