-- The clocks' part of the invariant under closing: a processor's clock may rise by its own entry, and records may be added behind those
-- that stand. Rests on Invariant. Assumes nothing.
use Prim.Native.Nat.{ℕ, suc, ◌≤◌, ◌<◌}
use native.Mathlib.Omega.{arith}
use native.Mathlib.Decide.{dec_le}
use mathlib.Core.Path.{◌≡◌, refl, ap, ◌∙◌}
use mathlib.Core.Bool.{Bool, true, false, cond}
use mathlib.Core.List.{List}
use lib.ListN.{length}
use lib.Dec.{eqb}
use Rattle.clock.specs.Clocks.{entry_of, sum_of}
use Rattle.rules.specs.State.{Counts, Holder, Processor, Barrier, Applied, Clocks, clock_of, Record}
use Rattle.rules.specs.Fetch.{sum_at}
use Rattle.rules.proofs.state.Holders.{same_holder, same_holder_lem, Knows}
use Rattle.rules.proofs.word.WordOfRecords.{nth, HitAt, Rising}
use Rattle.rules.proofs.invariant.Invariant.{Covered, Informed, ClockInv}

-- the records l' are l and records of p behind them, c' are the clocks c with p's own entry raised if there are new ones that set the word
module _ (words g o : ℕ) where
  pub record Ticks (n : Counts) (c c' : Clocks) (p : ℕ) (l l' : List Record) (writer : ℕ) : Type 0 where
    pub others : (h : Holder) → Knows n h → same_holder (Processor p) h ≡ false → clock_of c' h ≡ clock_of c h
    pub applied : (q : ℕ) → clock_of c' (Applied q g) ≡ clock_of c (Applied q g)
    pub old_covered : (i : ℕ) → i < length l → Covered (clock_of c (Processor p)) (nth l i) → Covered (clock_of c' (Processor p)) (nth l i)
    pub covered_before : (i : ℕ) → i < length l → Covered (clock_of c' (Processor p)) (nth l i) → Covered (clock_of c (Processor p)) (nth l i)
    pub sum_grows : sum_of (clock_of c (Processor p)) ≤ sum_of (clock_of c' (Processor p))
    pub sums : (i : ℕ) → i < length l → sum_at c' (nth l i) ≡ sum_at c (nth l i)
    pub old : (i : ℕ) → i < length l → nth l' i ≡ nth l i
    -- a new record that sets the word: of p, which stored to w; known to p alone; of a larger sum than p had
    pub new_writer : (i : ℕ) → HitAt words g o l' i → length l ≤ i → writer ≡ p
    pub new_processor : (i : ℕ) → HitAt words g o l' i → length l ≤ i → (nth l' i).processor ≡ p
    pub new_unknown : (v : List ℕ) → ((q : ℕ) → entry_of v q ≤ entry_of (clock_of c (Processor q)) q) → (i : ℕ) → HitAt words g o l' i → length l ≤ i → Covered v (nth l' i) → ⊥
    pub new_covered : (i : ℕ) → HitAt words g o l' i → length l ≤ i → Covered (clock_of c' (Processor p)) (nth l' i)
    pub new_sum : (i : ℕ) → HitAt words g o l' i → length l ≤ i → sum_of (clock_of c (Processor p)) < sum_at c' (nth l' i)
    pub new_bounded : (i : ℕ) → HitAt words g o l' i → length l ≤ i → sum_at c' (nth l' i) ≤ sum_of (clock_of c' (Processor p))
    pub one_new : (i j : ℕ) → HitAt words g o l' i → HitAt words g o l' j → length l ≤ i → i < j → ⊥

  module _ (n : Counts) (c c' : Clocks) (p : ℕ) (l l' : List Record) (writes writer : ℕ) (known : Holder → ℕ) (ticks : Ticks n c c' p l l' writer)
      (present : Knows n (Processor p)) (within : (h : Holder) (q : ℕ) → entry_of (clock_of c h) q ≤ entry_of (clock_of c (Processor q)) q)
      (inv : ClockInv words g o n c l writes writer known) where
    -- an old record that sets the word did so before
    pub old_hit : (i : ℕ) → HitAt words g o l' i → i < length l → HitAt words g o l i
    old_hit i h k = record { within = k; hit = rw (ticks.old i k) at h.hit }

    pub some_writer : (i : ℕ) → HitAt words g o l' i → length l ≤ i → writer ≡ 0 → ⊥
    unfolding Knows same_holder
    some_writer i h k z = omega (arith, ticks.new_writer i h k, z, present.0)

    -- where a record that sets the word is new, p covers all the old ones
    pub covers_old : (j : ℕ) → HitAt words g o l' j → length l ≤ j → (i : ℕ) → HitAt words g o l i → Covered (clock_of c (Processor p)) (nth l i)
    covers_old j hj kj i hi =
        (inv.informed (Processor p) present).covers_hits
        (rw (ticks.new_writer j hj kj) at (inv.writer_knows (some_writer j hj kj))) i hi

    -- and so they have smaller sums than it has
    pub old_below_new : (i j : ℕ) → HitAt words g o l i → HitAt words g o l' j → length l ≤ j → sum_at c' (nth l i) < sum_at c' (nth l' j)
    old_below_new i j hi hj kj =
        omega (arith, ticks.sums i hi.within, (inv.informed (Processor p) present).bounded i hi (covers_old j hj kj i hi), ticks.new_sum j hj kj)

    -- the sum of an old record
    pub old_sum : (i : ℕ) → i < length l → sum_at c' (nth l' i) ≡ sum_at c (nth l i)
    old_sum i k = ap (sum_at c') (ticks.old i k) ∙ ticks.sums i k

    pub new_above_old : (i j : ℕ) → HitAt words g o l' i → HitAt words g o l' j → j < length l → length l ≤ i → sum_at c' (nth l' i) < sum_at c' (nth l' j) → ⊥
    new_above_old i j hi hj kj ki less =
        omega (arith, less, old_below_new j i (old_hit j hj kj) hi ki, ap (sum_at c') (ticks.old j kj))

    -- ---- the clocks afterwards

    data Place (i : ℕ) : Type 0 where
      Old : i < length l → Place i
      New : length l ≤ i → Place i

    place : (i : ℕ) → Place i
    place i = go (dec_le (suc i) (length l))
      where
        go : Dec (suc i ≤ length l) → Place i
        go (yes h) = Old h
        go (no h) = New (omega (arith, h))

    informed_other : (h : Holder) → Knows n h → same_holder (Processor p) h ≡ false → Informed words g o c' l' writes (clock_of c' h) (known h)
    informed_other h kh d =
        rw (ticks.others h kh d)
        (record {
          covers_hits = λ e i hi. covers e i hi (place i);
          bounded = λ i hi v. bound i hi v (place i);
          downward = λ i j hi hj less v. down i j hi hj less v (place i) (place j);
        })
      where
        before : Informed words g o c l writes (clock_of c h) (known h)
        before = inv.informed h kh

        covers : known h ≡ writes → (i : ℕ) → HitAt words g o l' i → Place i → Covered (clock_of c h) (nth l' i)
        covers e i hi (Old k) = rw (ticks.old i k) (before.covers_hits e i (old_hit i hi k))
        covers e i hi (New k) =
            absurd (omega (arith, e, inv.others_behind (some_writer i hi k) h kh (rw (ticks.new_writer i hi k) d)))

        bound : (i : ℕ) → HitAt words g o l' i → Covered (clock_of c h) (nth l' i) → Place i → sum_at c' (nth l' i) ≤ sum_of (clock_of c h)
        bound i hi v (Old k) = omega (arith, old_sum i k, before.bounded i (old_hit i hi k) (rw (ticks.old i k) at v))
        bound i hi v (New k) = absurd (ticks.new_unknown (clock_of c h) (within h) i hi k v)

        down : (i j : ℕ) → HitAt words g o l' i → HitAt words g o l' j → sum_at c' (nth l' i) < sum_at c' (nth l' j) → Covered (clock_of c h) (nth l' j) → Place i → Place j
            → Covered (clock_of c h) (nth l' i)
        down i j hi hj less v a (New k) = absurd (ticks.new_unknown (clock_of c h) (within h) j hj k v)
        down i j hi hj less v (New a) (Old k) = absurd (new_above_old i j hi hj k a less)
        down i j hi hj less v (Old a) (Old k) =
            rw (ticks.old i a)
            (before.downward i j (old_hit i hi a) (old_hit j hj k) (omega (arith, less, old_sum i a, old_sum j k)) (rw (ticks.old j k) at v))

    informed_own : Informed words g o c' l' writes (clock_of c' (Processor p)) (known (Processor p))
    informed_own =
        record {
          covers_hits = λ e i hi. covers e i hi (place i);
          bounded = λ i hi v. bound i hi v (place i);
          downward = λ i j hi hj less v. down i j hi hj less v (place i) (place j);
        }
      where
        before : Informed words g o c l writes (clock_of c (Processor p)) (known (Processor p))
        before = inv.informed (Processor p) present

        still : (i : ℕ) → i < length l → Covered (clock_of c (Processor p)) (nth l i) → Covered (clock_of c' (Processor p)) (nth l' i)
        still i k v = rw (ticks.old i k) (ticks.old_covered i k v)

        covers : known (Processor p) ≡ writes → (i : ℕ) → HitAt words g o l' i → Place i → Covered (clock_of c' (Processor p)) (nth l' i)
        covers e i hi (Old k) = still i k (before.covers_hits e i (old_hit i hi k))
        covers e i hi (New k) = ticks.new_covered i hi k

        bound : (i : ℕ) → HitAt words g o l' i → Covered (clock_of c' (Processor p)) (nth l' i) → Place i → sum_at c' (nth l' i) ≤ sum_of (clock_of c' (Processor p))
        bound i hi v (Old k) =
            omega (arith, old_sum i k, ticks.sum_grows, before.bounded i (old_hit i hi k) (ticks.covered_before i k (rw (ticks.old i k) at v)))
        bound i hi v (New k) = ticks.new_bounded i hi k

        down : (i j : ℕ) → HitAt words g o l' i → HitAt words g o l' j → sum_at c' (nth l' i) < sum_at c' (nth l' j) → Covered (clock_of c' (Processor p)) (nth l' j) → Place i → Place j
            → Covered (clock_of c' (Processor p)) (nth l' i)
        down i j hi hj less v (New a) b = ticks.new_covered i hi a
        down i j hi hj less v (Old a) (New k) = still i a (covers_old j hj k i (old_hit i hi a))
        down i j hi hj less v (Old a) (Old k) =
            still i a
            (before.downward i j (old_hit i hi a) (old_hit j hj k) (omega (arith, less, old_sum i a, old_sum j k))
            (ticks.covered_before j k (rw (ticks.old j k) at v)))

    pub rises_after : Rising words g o (sum_at c') l'
    rises_after = record { rises = λ i j hi hj less. go i j hi hj less (place i) (place j) }
      where
        go : (i j : ℕ) → HitAt words g o l' i → HitAt words g o l' j → i < j → Place i → Place j → sum_at c' (nth l' i) < sum_at c' (nth l' j)
        go i j hi hj less (Old a) (Old b) = omega (arith, old_sum i a, old_sum j b, inv.rising.rises i j (old_hit i hi a) (old_hit j hj b) less)
        go i j hi hj less (Old a) (New b) = omega (arith, ap (sum_at c') (ticks.old i a), old_below_new i j (old_hit i hi a) hj b)
        go i j hi hj less (New a) b = absurd (ticks.one_new i j hi hj a less)

    -- ---- the invariant of the clocks once p has closed

    pub ticks_keep_clocks : ClockInv words g o n c' l' writes (cond (eqb writer p) 0 writer) known
    unfolding Knows same_holder
    ticks_keep_clocks = go (eqb writer p) refl
      where
        none : writes ≡ 0 → (i : ℕ) → HitAt words g o l' i → Place i → ⊥
        none z i hi (Old k) = inv.none_yet z i (old_hit i hi k)
        none z i hi (New k) = omega (arith, z, inv.others_behind (some_writer i hi k) Barrier tt refl)

        who : (h : Holder) → Knows n h → (b : Bool) → same_holder (Processor p) h ≡ b → Informed words g o c' l' writes (clock_of c' h) (known h)
        who h kh true e = rw (← (same_holder_lem (Processor p) h e)) informed_own
        who h kh false e = informed_other h kh e

        go : (b : Bool) → eqb writer p ≡ b → ClockInv words g o n c' l' writes (cond b 0 writer) known
        go true e =
            record {
              none_yet = λ z i hi. none z i hi (place i);
              informed = λ h kh. who h kh (same_holder (Processor p) h) refl;
              rising = rises_after;
              writer_present = λ z. absurd (z refl);
              writer_knows = λ z. absurd (z refl);
              others_behind = λ z. absurd (z refl);
            }
        go false e =
            record {
              none_yet = λ z i hi. none z i hi (place i);
              informed = λ h kh. who h kh (same_holder (Processor p) h) refl;
              rising = rises_after;
              writer_present = inv.writer_present;
              writer_knows = inv.writer_knows;
              others_behind = inv.others_behind;
            }
