-- A processor without a dirty page has nothing to close: its marks looked at one by one, and the state that closing leaves as it is. One
-- law for each way of the code, and `dirty_laws`. Assumes nothing.
use Prim.Native.Nat.{ℕ, zero, suc, ◌+◌, ◌-◌, ◌≤◌, ◌<◌}
use native.Mathlib.Numerals.{add-one}
use native.Mathlib.Omega.{arith}
use mathlib.Core.Path.{◌≡◌, refl, sym, ap, ap₂, ◌∙◌}
use mathlib.Core.Bool.{Bool, true, false, cond, not, ◌&&◌, ◌||◌, false≢true}
use mathlib.Core.List.{List, [], ◌∷◌, map}
use lib.ListN.{length, get_or, take, drop, length-drop}
use lib.Seq.{set-get_or, length-take-le}
use lib.Dec.{eqb, ltb}
use borrow.Author.Tests.{eqb-true, ltb-true, le-ltb, not-false}
use borrow.Author.Rules.{rules}
use Rattle.std.proofs.lemmas.List.{get_or-drop, get_or-take}
use Rattle.lists.specs.Tables.{any}
use Rattle.lists.proofs.Tables.{any_at, any_holds, put_within}
use Rattle.limits.specs.Limits.{page_limit}
use Rattle.rules.specs.Close.{any_dirty, ticked, recorded, cleaned, closed}
use Rattle.rules.specs.State.{Limits, mainframe, dirty_at, State, with_clocks, with_pages, with_records}
use Rattle.rules.specs.InOrder.{present, present_holder}
use Rattle.rules.proofs.inorder.Facts.{InOrder}
use Rattle.layout.specs.Areas.{dirty_place, pages_in, state_in}
use Rattle.layout.specs.inner.Needed.{Acts, MarksOf, Holds}
use Rattle.layout.proofs.PageLaws.{dirty_read}
use Rattle.layout.proofs.MarkFunctions.{first_on_page, last_dirty_there}
use Rattle.step_close.specs.inner.Parts.{AnyDirty}
use Rattle.step_close.specs.inner.Needed.{ActsDirty}

-- ---- the marks of a processor, one by one

-- two tests that agree below n
any_same : (n : ℕ) (t u : ℕ → Bool) → ((i : ℕ) → i < n → t i ≡ u i) → any n t ≡ any n u
unfolding any
any_same zero t u h = refl
any_same (suc n) t u h = ap₂ ◌||◌ (any_same n t u (λ i k. h i (omega arith))) (h n (omega arith))

-- whether one of the first i marks is set
unfoldable pub some_set : List ℕ → ℕ → Bool
some_set marks i = any i (λ k. not (eqb (get_or marks k 0) 0))

module _ (marks : List ℕ) where
  -- before the first mark
  pub looked_begins : false ≡ some_set marks 0
  unfolding some_set any
  looked_begins = refl

  -- one more mark
  pub looked_more : (found : Bool) (i : ℕ) → found ≡ some_set marks i → (found || not (eqb (get_or marks i 0) 0)) ≡ some_set marks (i + 1)
  unfolding some_set any
  looked_more found i e = rw (add-one i, e)

module _ (m : List ℕ) (p from : ℕ) (there : MarksOf m p) (e : from ≡ dirty_place mainframe p 0) where
  -- the marks of the processor lie within the area
  pub marks_end : from + page_limit ≤ length m
  marks_end = last_dirty_there m p there from e

  -- those of its pages
  abbrev own_marks : List ℕ
  own_marks = take (from + page_limit - from) (drop from m)

  own_marks_long : length own_marks ≡ page_limit
  own_marks_long = length-take-le (from + page_limit - from) (drop from m) (omega (arith, length-drop from m, marks_end)) ∙ omega arith

  -- all marks are seen
  pub looked_ends : (found : Bool) (i : ℕ) → found ≡ some_set own_marks i → length own_marks ≤ i → i ≤ length own_marks → AnyDirty m p found
  unfolding some_set dirty_at state_in dirty_place mainframe
  looked_ends found i same done upto =
      let all : i ≡ page_limit = omega (arith, own_marks_long) in
      record { is = λ c w r. same ∙ ap (λ (k : ℕ). any k (λ g. not (eqb (get_or own_marks g 0) 0))) all ∙ any_same page_limit _ _ (λ g k. at g k w) }
    where
      at : (g : ℕ) → g < page_limit → (w : List ℕ) → not (eqb (get_or own_marks g 0) 0) ≡ dirty_at (pages_in mainframe w m) p g
      at g k w =
          let place : from + g ≡ dirty_place mainframe p g = omega (arith, e) in
          let here : get_or own_marks g 0 ≡ get_or m (from + g) 0 = get_or-take (from + page_limit - from) (drop from m) g 0 (omega arith) ∙ get_or-drop from m g 0 in
          ap (λ (x : ℕ). not (eqb x 0)) (here ∙ ap (λ (x : ℕ). get_or m x 0) place ∙ sym (dirty_read w m p g there.from there.to k))

-- ---- the state without a dirty page of its processor

-- where none passes each fails
none_at : (n : ℕ) (t : ℕ → Bool) → any n t ≡ false → (i : ℕ) → i < n → t i ≡ false
none_at n t e i h = go (t i) refl
  where
    go : (b : Bool) → t i ≡ b → t i ≡ false
    go true k = absurd (false≢true (sym e ∙ any_holds n t i h k))
    go false k = k

-- zeros are left as they are
zeros_kept : (row : List ℕ) → ((i : ℕ) → i < length row → get_or row i 0 ≡ 0) → map (λ x. 0) row ≡ row
zeros_kept [] h = refl
zeros_kept (x ∷ row) h = ap₂ ◌∷◌ (sym (h 0 (omega arith))) (zeros_kept row (λ i k. h (suc i) (omega arith)))

module _ (s : State) (p : ℕ) where
  none_dirty : (n : ℕ) → ((g : ℕ) → g < n → dirty_at s.pages p g ≡ false) → any n (dirty_at s.pages p) ≡ false
  unfolding any
  none_dirty zero h = refl
  none_dirty (suc n) h = rw (none_dirty n (λ g k. h g (omega arith)), h n (omega arith))

  none_recorded : (n : ℕ) → ((g : ℕ) → g < n → dirty_at s.pages p g ≡ false) → recorded s p n ≡ s.records
  unfolding recorded
  none_recorded zero h = refl
  none_recorded (suc n) h = rw (h n (omega arith)) (none_recorded n (λ g k. h g (omega arith)))

  module _ (lim : Limits) (order : InOrder lim s) (from : 1 ≤ p) (to : p ≤ lim.processors) (clean : any lim.pages (dirty_at s.pages p) ≡ false) where
    clean_at : (g : ℕ) → g < lim.pages → dirty_at s.pages p g ≡ false
    clean_at = none_at lim.pages (dirty_at s.pages p) clean

    marks_kept : map (λ x. 0) (get_or s.pages.dirty p []) ≡ get_or s.pages.dirty p []
    unfolding dirty_at
    marks_kept = zeros_kept (get_or s.pages.dirty p []) (λ g h. eqb-true _ 0 (not-false _ (clean_at g (omega (arith, order.sized.dirty_row p from to)))))

    pages_kept : cleaned s.pages p ≡ s.pages
    unfolding cleaned
    pages_kept =
        let row : p < length s.pages.dirty = omega (arith, order.sized.dirty) in
        ap (λ (t : List (List ℕ)). record { copies = s.pages.copies; twins = s.pages.twins; dirty = t })
        (rw marks_kept (put_within [] s.pages.dirty p (get_or s.pages.dirty p []) row ∙ set-get_or s.pages.dirty p []))

    -- closing leaves the state as it is
    pub nothing_to_close : closed s p ≡ s
    unfolding closed any_dirty
    nothing_to_close =
        let present_clean : (g : ℕ) → g < s.counts.pages → dirty_at s.pages p g ≡ false = λ g h. clean_at g (omega (arith, order.pages_fit)) in
        let unchanged = none_dirty s.counts.pages present_clean in
        let unrecorded = none_recorded s.counts.pages present_clean in
        λ i. with_records (with_clocks (with_pages s (pages_kept i)) (cond (unchanged i) (ticked s p) s.clocks)) (unrecorded i)

-- ---- the state with one

-- from the first absent page on the marks of a present processor are 0
pub clean_from : (lim : Limits) (s : State) (p : ℕ) → InOrder lim s → 1 ≤ p → p ≤ s.counts.processors → (i : ℕ) → s.counts.pages ≤ i → get_or (get_or s.pages.dirty p []) i 0 ≡ 0
unfolding dirty_at
clean_from lim s p order from to i h = eqb-true (get_or (get_or s.pages.dirty p []) i 0) 0 (not-false _ (order.absent_clean p i (unfold present_holder in rw (le-ltb i s.counts.pages h) (no_and (present s p)))))
  where
    no_and : (b : Bool) → (b && false) ≡ false
    no_and true = refl
    no_and false = refl

-- a dirty page is a present one
some_dirty : (lim : Limits) (s : State) (p : ℕ) → InOrder lim s → any lim.pages (dirty_at s.pages p) ≡ true → any_dirty s p ≡ true
unfolding any_dirty
some_dirty lim s p order e = let a = any_at lim.pages (dirty_at s.pages p) e in any_holds s.counts.pages (dirty_at s.pages p) a.at (here a.at a.passes) a.passes
  where
    no_and : (b : Bool) → (b && false) ≡ false
    no_and true = refl
    no_and false = refl

    here : (g : ℕ) → dirty_at s.pages p g ≡ true → g < s.counts.pages
    here g d = go (ltb g s.counts.pages) refl
      where
        go : (b : Bool) → ltb g s.counts.pages ≡ b → g < s.counts.pages
        go true l = ltb-true g s.counts.pages l
        go false l = absurd (false≢true (sym (order.absent_clean p g (unfold present_holder in rw l (no_and (present s p)))) ∙ d))

-- ---- closing

module _ (c w r m : List ℕ) (p : ℕ) (ready : Acts c w r m p) where
  on_machine : p ≤ mainframe.processors
  on_machine = omega (arith, ready.to, ready.in_order.processors_fit)

  -- the marks of the processor are there
  pub marks_there : MarksOf m p
  unfolding mainframe
  marks_there = record { marks = ready.lent.marks; from = ready.from; to = on_machine }

  -- areas without a dirty page hold the closed state already
  pub closed_already : (b : Bool) → AnyDirty m p b → b ≡ false → Holds c w r m (closed (state_in mainframe c w r m) p)
  closed_already b said e =
      record { lent = ready.lent; is = sym (nothing_to_close (state_in mainframe c w r m) p mainframe ready.in_order ready.from on_machine (sym (said.is c w r) ∙ e)) }

  -- with a dirty page there is an interval to close
  pub dirty_acts : (b : Bool) → AnyDirty m p b → b ≡ true → ActsDirty c w r m p
  dirty_acts b said e = record { acts = ready; dirty = some_dirty mainframe (state_in mainframe c w r m) p ready.in_order (sym (said.is c w r) ∙ e) }

pub ruleset dirty_laws = (first_on_page, looked_begins, looked_more, marks_end, looked_ends, marks_there, closed_already, dirty_acts, rules)
