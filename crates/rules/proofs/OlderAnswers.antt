-- Document 02, L10: with more pages and records that there can be, every list of steps has the same answers up to the first refusal 10, and every opening
-- the same refusal but for the pages that are new. Rests on wider/ and InOrderRuns. Assumes nothing.
use Prim.Native.Nat.{ℕ, zero, suc, ◌≤◌, ◌<◌}
use native.Mathlib.Omega.{arith}
use native.Mathlib.Decide.{dec_lt}
use mathlib.Core.Path.{◌≡◌, refl, sym, ap, ◌∙◌}
use mathlib.Core.Bool.{Bool, true, false, cond, ◌&&◌}
use mathlib.Core.List.{List, [], ◌∷◌}
use lib.ListN.{get_or, replicate, length-replicate, get_or-replicate, get_or-eq_default}
use lib.Dec.{eqb, leb}
use borrow.Author.Tests.{eqb-false, le-leb, lt-leb}
use Rattle.lists.specs.Tables.{cell}
use Rattle.lists.specs.Until.{SameUntil}
use Rattle.lists.proofs.Until.{same_from_here, same_one_more, same_as_itself}
use Rattle.clock.specs.Clocks.{zeros}
use Rattle.rules.specs.State.{Limits, Counts, State}
use Rattle.rules.specs.InOrder.{in_range, counts_in_range}
use Rattle.rules.specs.Opening.{Opening, opening_refusal, rows, zero_clocks, zero_pages, zero_marks, zero_shared, opened}
use Rattle.rules.specs.Refusals.{Step, Answer, answer_in_order, next_in_order}
use Rattle.rules.specs.Runs.{answers, answers_in_order}
use Rattle.rules.specs.WiderLimits.{wider, is_ten}
use Rattle.rules.proofs.inorder.Facts.{InOrder}
use Rattle.rules.proofs.inorder.OpenedInOrder.{opened_in_order, opening_counts}
use Rattle.rules.proofs.inorder.Kept.{next_keeps_order}
use Rattle.rules.proofs.InOrderRuns.{answers_in_order_lem}
use Rattle.rules.proofs.demand.ListRuns.{answer_refusal}
use Rattle.rules.proofs.wider.Like.{Like}
use Rattle.rules.proofs.wider.Steps.{SameStep, step_same}

-- ---- openings

-- an opening with more pages than the limits have is refused by 2
pub too_many_pages : (lim : Limits) (o : Opening) → lim.pages < o.counts.pages → opening_refusal lim o ≡ 2
unfolding opening_refusal counts_in_range in_range
too_many_pages lim o h = rw (lt-leb o.counts.pages lim.pages h) (go (eqb o.first 0) (leb 1 o.counts.processors && leb o.counts.processors lim.processors) (leb 1 o.counts.pages))
  where
    go : (a b c : Bool) → ◌≡◌ {A = ℕ} (cond (a && (b && (c && false) && (leb 1 o.counts.locks && leb o.counts.locks lim.locks)) && eqb o.rest 0) 0 2) 2
    go false b c = refl
    go true false c = refl
    go true true false = refl
    go true true true = refl

-- an accepted one has no more pages than they have
pub opened_pages : (lim : Limits) (o : Opening) → opening_refusal lim o ≡ 0 → o.counts.pages ≤ lim.pages
opened_pages lim o e = go (dec_lt lim.pages o.counts.pages)
  where
    go : Dec (lim.pages < o.counts.pages) → o.counts.pages ≤ lim.pages
    go (yes l) = absurd (omega (arith, too_many_pages lim o l))
    go (no l) = omega (arith, l)

-- a place of a table of equal rows
rows_cell : {A : Type 0} (d z : A) (n a b : ℕ) (p g : ℕ) → g < a → g < b → cell d (rows n (replicate a z)) p g ≡ cell d (rows n (replicate b z)) p g
unfolding rows
rows_cell d z n a b zero g l m = refl
rows_cell {A = A} d z n a b (suc k) g l m = go (dec_lt k n)
  where
    at : (c : ℕ) → k < n → g < c → get_or (get_or (replicate n (replicate c z)) k []) g d ≡ z
    at c h l = ap (λ (r : List A). get_or r g d) (get_or-replicate n k (replicate c z) [] h) ∙ get_or-replicate c g z d l

    beyond : (c : ℕ) → (k < n → ⊥) → get_or (get_or (replicate n (replicate c z)) k []) g d ≡ get_or [] g d
    beyond c h = ap (λ (r : List A). get_or r g d) (get_or-eq_default (replicate n (replicate c z)) [] (omega (arith, h, length-replicate n (replicate c z))))

    go : Dec (k < n) → get_or (get_or (replicate n (replicate a z)) k []) g d ≡ get_or (get_or (replicate n (replicate b z)) k []) g d
    go (yes h) = at a h l ∙ sym (at b h m)
    go (no h) = beyond a h ∙ sym (beyond b h)

module _ (lim : Limits) (pages records : ℕ) where
  abbrev big : Limits
  big = wider lim pages records

  -- ---- lists of steps

  list_same : lim.records ≤ records → (s u : State) → Like s u → InOrder lim s → (ts : List Step) → SameUntil is_ten (answers_in_order lim s ts) (answers_in_order big u ts)
  unfolding answers_in_order is_ten
  list_same more s u k o [] = same_as_itself is_ten []
  list_same more s u k o (t ∷ ts) =
      go (eqb (answer_in_order lim s t).refusal 10) refl (λ n. step_same lim pages records more s u k o t (λ z. n (answer_refusal lim s t ∙ z)))
      (λ h. list_same more (next_in_order lim s t) (next_in_order big u t) h (next_keeps_order lim s t o) ts)
    where
      a : Answer
      a = answer_in_order lim s t

      rest : List Answer
      rest = answers_in_order lim (next_in_order lim s t) ts

      rest' : List Answer
      rest' = answers_in_order big (next_in_order big u t) ts

      go : (b : Bool) → eqb a.refusal 10 ≡ b → ((a.refusal ≡ 10 → ⊥) → SameStep lim pages records s u t)
          → (Like (next_in_order lim s t) (next_in_order big u t) → SameUntil is_ten rest rest') → SameUntil is_ten (a ∷ rest) (answer_in_order big u t ∷ rest')
      go true e step behind = same_from_here is_ten a rest (answer_in_order big u t ∷ rest') e
      go false e step behind =
          let k = step (eqb-false a.refusal 10 e) in
          rw k.answer (same_one_more is_ten a rest rest' e (behind k.after))

  -- ---- openings of both

  opened_like : (c : Counts) → c.pages ≤ lim.pages → lim.pages ≤ pages → Like (opened lim c) (opened big c)
  unfolding opened zero_clocks zero_pages zero_marks zero_shared
  opened_like c fit more =
      record {
        same = refl;
        agrees =
            record {
              applied = λ p g l. rows_cell [] (zeros lim.processors) lim.processors pages lim.pages p g (omega arith) (omega arith);
              copies = λ p g l. rows_cell [] (replicate lim.words 0) lim.processors pages lim.pages p g (omega arith) (omega arith);
              twins = λ p g l. rows_cell [] (replicate lim.words 0) lim.processors pages lim.pages p g (omega arith) (omega arith);
              dirty = λ p g l. rows_cell 0 0 lim.processors pages lim.pages p g (omega arith) (omega arith);
              room = omega arith;
              room_there = omega arith;
              records = refl;
            };
      }

  -- every other opening, with no more pages or with more than the wider limits have too, has the refusal that it had
  pub opening_stays : lim.pages ≤ pages → (o : Opening) → (lim.pages < o.counts.pages → o.counts.pages ≤ pages → ⊥) → opening_refusal big o ≡ opening_refusal lim o
  unfolding opening_refusal counts_in_range in_range
  opening_stays more o h = rw (go (dec_lt lim.pages o.counts.pages))
    where
      go : Dec (lim.pages < o.counts.pages) → leb o.counts.pages pages ≡ leb o.counts.pages lim.pages
      go (yes l) = lt-leb o.counts.pages pages (not_le (dec_lt pages o.counts.pages)) ∙ sym (lt-leb o.counts.pages lim.pages l)
        where
          not_le : Dec (pages < o.counts.pages) → pages < o.counts.pages
          not_le (yes m) = m
          not_le (no m) = absurd (h l (omega (arith, m)))
      go (no l) = le-leb o.counts.pages pages (omega (arith, l)) ∙ sym (le-leb o.counts.pages lim.pages (omega (arith, l)))

  -- ---- the theorem

  -- "The lines of such a file are the same up to the first one where refusal 10 .. used to stand": of every opening that the narrower limits accept and
  -- every list of steps the answers
  pub older_answers_stay : lim.pages ≤ pages → lim.records ≤ records → (o : Opening) → opening_refusal lim o ≡ 0 → (ts : List Step)
      → SameUntil is_ten (answers lim (opened lim o.counts) ts) (answers big (opened big o.counts) ts)
  older_answers_stay more-pages more_records o e ts =
      let few = opened_pages lim o e in
      let opens : opening_refusal big o ≡ 0 = opening_stays more-pages o (λ a b. omega arith) ∙ e in
      let first = opened_in_order lim o.counts (opening_counts lim o e) in
      let second = opened_in_order big o.counts (opening_counts big o opens) in
      rw (answers_in_order_lem lim (opened lim o.counts) ts first, answers_in_order_lem big (opened big o.counts) ts second)
      (list_same more_records (opened lim o.counts) (opened big o.counts) (opened_like o.counts few more-pages) first ts)
