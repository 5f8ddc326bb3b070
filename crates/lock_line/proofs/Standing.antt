-- Who stands in the line of a lock, and who stands first: what the loops over the processors leave to show, one law for each way of the
-- code. Assumes nothing.
use Prim.Native.Nat.{ℕ, suc, ◌+◌, ◌≤◌, ◌<◌}
use native.Mathlib.Numerals.{add-one}
use native.Mathlib.Omega.{arith}
use mathlib.Core.Path.{◌≡◌, refl, sym, ap, ◌∙◌}
use mathlib.Core.Bool.{Bool, true, false, cond, ◌&&◌}
use mathlib.Core.List.{List}
use lib.ListN.{get_or}
use lib.Dec.{eqb}
use mir.Syntax.{w8}
use mir.Val.{Fits, bool_byte}
use Rattle.limits.specs.Limits.{processor_limit}
use Rattle.lists.specs.Tables.{total, first_of}
use Rattle.lists.proofs.Counting.{first_stays}
use Rattle.rules.specs.State.{mainframe}
use Rattle.rules.specs.InOrder.{present}
use Rattle.rules.specs.Lines.{waits, waits_for, turn_of, in_line, waiter_at, first_in_line}
use Rattle.rules.proofs.inorder.Accepted.{present_says}
use Rattle.rules.proofs.inorder.Facts.{LinesInOrder}
use Rattle.rules.proofs.state.Waiters.{awake_says, no_first}
use Rattle.layout.specs.Areas.{marks_in, state_in}
use Rattle.layout.specs.inner.Marks.{processor_count, awaited_mark, turn_mark}
use Rattle.layout.specs.inner.Needed.{MarksOf}
use Rattle.layout.proofs.MarkLaws.{awaited_read, turn_read}
use Rattle.lock_line.specs.inner.Needed.{LineThere, InLine, Hands}

-- ---- one processor

module _ (m : List ℕ) (l p : ℕ) (h : InLine m l p) where
  -- it has marks
  pub marks_in_line : MarksOf m p
  marks_in_line = record { marks = h.line.marks; from = h.from; to = h.to }

  -- the lock that it waits for
  pub awaited_is : get_or (marks_in mainframe m).awaited p 0 ≡ awaited_mark m p
  unfolding state_in
  awaited_is = awaited_read m m m m p h.from h.to

  -- and its turn
  pub turn_is : get_or (marks_in mainframe m).turns p 0 ≡ turn_mark m p
  unfolding state_in
  turn_is = turn_read m m m m p h.from h.to

  -- its mark says whether it waits for the lock
  pub waits_is : (a : ℕ) → (a ≡ awaited_mark m p) × (a < 256) → eqb a (l + 1) ≡ waits_for (marks_in mainframe m) p l
  unfolding waits_for
  waits_is a e = rw (awaited_is, e.0, add-one l)

  module _ (b : Bool) (w : b ≡ waits_for (marks_in mainframe m) p l) where
    -- of who waits the turn decides
    pub turn_decides : (t : ℕ) → b ≡ true → (t ≡ turn_mark m p) × (t < 256) → eqb t 0 ≡ (waits_for (marks_in mainframe m) p l && eqb (turn_of (marks_in mainframe m) p) 0)
    unfolding turn_of
    turn_decides t y e = rw (← w, y, turn_is, e.0)

-- ---- the first k processors

-- there is room for a number, and the k-th processor has marks
module _ (m : List ℕ) (l n k : ℕ) (there : LineThere m l) (count : (n ≡ processor_count m) × (n < 256)) (b : k < n) where
  pub next_in_line : InLine m l (k + 1)
  next_in_line = record { line = there; from = omega arith; to = omega (arith, there.processors, count.0) }

-- 1 for a processor that waits for lock l
abbrev one : List ℕ → ℕ → ℕ → ℕ
one m l j = cond (waits_for (marks_in mainframe m) (suc j) l) 1 0

-- so many of the first k wait for lock l
pub record LineCounted (m : List ℕ) (l n count k : ℕ) : Type 0 where
  pub there : LineThere m l
  pub all : (n ≡ processor_count m) × (n < 256)
  pub upto : k ≤ n
  pub few : count ≤ k
  pub same : count ≡ total k (one m l)

-- nobody is counted yet
pub counted_none : (m : List ℕ) (l n : ℕ) → LineThere m l → (n ≡ processor_count m) × (n < 256) → LineCounted m l n 0 0
unfolding total
counted_none m l n h e = record { there = h; all = e; upto = omega arith; few = omega arith; same = refl }

module _ (m : List ℕ) (l n count k : ℕ) (h : LineCounted m l n count k) where
  module _ (b : Bool) (f : ℕ) (u : k < n) (w : b ≡ waits_for (marks_in mainframe m) (k + 1) l) (e : f ≡ bool_byte b) where
    counts_one : f ≡ cond b 1 0
    counts_one = e ∙ go b
      where
        go : (x : Bool) → bool_byte x ≡ cond x 1 0
        go true = refl
        go false = refl

    at_most_one : f ≤ 1
    at_most_one = rw counts_one (go b)
      where
        go : (x : Bool) → cond x 1 0 ≤ 1
        go true = omega arith
        go false = omega arith

    pub counted_fits : Fits w8 (count + f)
    counted_fits = omega (arith, h.few, h.all.1, u, at_most_one)

    -- the next one counts 1 or 0
    pub counted_more : LineCounted m l n (count + f) (k + 1)
    unfolding total
    counted_more =
        let one_more : f ≡ one m l k = counts_one ∙ ap (λ (x : Bool). cond x 1 0) (w ∙ ap (λ (j : ℕ). waits_for (marks_in mainframe m) j l) (add-one k)) in
        record {
          there = h.there;
          all = h.all;
          upto = omega arith;
          few = omega (arith, h.few, at_most_one);
          same = rw (add-one k, h.same, one_more);
        }

  -- all are counted
  pub counted_whole : (r : ℕ) → n ≤ k → r ≡ count → r ≡ in_line (processor_count m) (marks_in mainframe m) l
  unfolding in_line
  counted_whole r b is =
      let e : k ≡ processor_count m = omega (arith, b, h.upto, h.all.0) in
      is ∙ h.same ∙ ap (λ (j : ℕ). total j (one m l)) e

  pub few_counted : (r : ℕ) → r ≡ count → r ≤ processor_limit
  few_counted r is = omega (arith, is, h.few, h.upto, h.all.0, h.there.processors)

-- who waits for lock l with nobody before it
abbrev first : List ℕ → ℕ → ℕ → Bool
first m l j = waits_for (marks_in mainframe m) (suc j) l && eqb (turn_of (marks_in mainframe m) (suc j)) 0

-- none of the first k stands first
pub record NoneFirst (m : List ℕ) (l n k : ℕ) : Type 0 where
  pub there : LineThere m l
  pub all : (n ≡ processor_count m) × (n < 256)
  pub upto : k ≤ n
  pub none : first_of k (first m l) ≡ 0

-- nobody is looked at yet
pub none_first_yet : (m : List ℕ) (l n : ℕ) → LineThere m l → (n ≡ processor_count m) × (n < 256) → NoneFirst m l n 0
unfolding first_of
none_first_yet m l n h e = record { there = h; all = e; upto = omega arith; none = refl }

module _ (m : List ℕ) (l n k : ℕ) (h : NoneFirst m l n k) where
  module _ (b : Bool) (u : k < n) (e : b ≡ (waits_for (marks_in mainframe m) (k + 1) l && eqb (turn_of (marks_in mainframe m) (k + 1)) 0)) where
    decides : first m l k ≡ b
    decides = ap (λ (j : ℕ). waits_for (marks_in mainframe m) j l && eqb (turn_of (marks_in mainframe m) j) 0) (sym (add-one k)) ∙ sym e

    -- the next one stands first
    pub first_found : b ≡ true → k + 1 ≡ first_in_line (processor_count m) (marks_in mainframe m) l
    unfolding first_in_line waiter_at first_of
    first_found t =
        let here : first_of (suc k) (first m l) ≡ suc k = rw (h.none, decides ∙ t) in
        add-one k ∙ sym (first_stays (suc k) (processor_count m) (first m l) k (omega (arith, u, h.all.0)) here)

    pub first_has_marks : k + 1 ≤ processor_limit
    first_has_marks = omega (arith, u, h.all.0, h.there.processors)

    -- or does not
    pub none_first_more : b ≡ false → NoneFirst m l n (k + 1)
    unfolding first_of
    none_first_more t = record { there = h.there; all = h.all; upto = omega arith; none = rw (add-one k, h.none, decides ∙ t) }

  -- nobody stands first
  pub nobody_found : n ≤ k → 0 ≡ first_in_line (processor_count m) (marks_in mainframe m) l
  unfolding first_in_line waiter_at
  nobody_found b =
      let e : k ≡ processor_count m = omega (arith, b, h.upto, h.all.0) in
      sym h.none ∙ ap (λ (j : ℕ). first_of j (first m l)) e

-- ---- the marks of a state in order

-- where nobody stands first nobody waits
pub hands_in_order : (c w r m : List ℕ) (l : ℕ) → LineThere m l → LinesInOrder (state_in mainframe c w r m).counts (state_in mainframe c w r m).marks
    → ((p : ℕ) → 1 ≤ p → present (state_in mainframe c w r m) p ≡ false → waits (state_in mainframe c w r m).marks p ≡ false) → Hands m l
unfolding state_in
hands_in_order c w r m l there lines awake = record { line = there; nobody = λ z k b e. go z k b e (present (state_in mainframe c w r m) (suc k)) refl }
  where
    reads : (k : ℕ) → k < processor_limit → get_or (marks_in mainframe m).awaited (suc k) 0 ≡ awaited_mark m (suc k)
    reads k b = awaited_read c w r m (suc k) (omega arith) (omega (arith, b))

    go : first_in_line (processor_count m) (marks_in mainframe m) l ≡ 0 → (k : ℕ) → k < processor_limit → awaited_mark m (suc k) ≡ suc l → (b : Bool)
        → present (state_in mainframe c w r m) (suc k) ≡ b → ⊥
    go z k b e true t = no_first (processor_count m) (marks_in mainframe m) l lines.lines z k (present_says (state_in mainframe c w r m) (suc k) t).1 (reads k b ∙ e)
    go z k b e false t = omega (arith, e, reads k b, awake_says (marks_in mainframe m) k (awake (suc k) (omega arith) t))
