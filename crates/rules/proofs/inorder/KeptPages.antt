-- The pages stay in order when a processor's pages become clean, when a copy is replaced and when a twin is taken; and how many pages are
-- dirty afterwards. Rests on KeptParts. Assumes nothing.
use Prim.Native.Nat.{ℕ, zero, suc, ◌+◌, ◌≤◌, ◌<◌}
use native.Mathlib.Omega.{arith}
use native.Mathlib.Decide.{ℕ_discrete}
use native.Mathlib.Nat.{suc_inj}
use mathlib.Core.Path.{◌≡◌, refl, sym, ap, ap₂, ◌∙◌}
use mathlib.Core.Bool.{Bool, true, false, cond, not, ◌&&◌, and-eq-true_iff, false≢true}
use mathlib.Core.List.{List, [], map}
use lib.ListN.{length, get_or}
use lib.Dec.{ltb, eqb}
use borrow.Author.Tests.{lt-ltb}
use Rattle.lists.specs.Tables.{put, cell, put_cell}
use Rattle.lists.proofs.Tables.{get_put_same, get_put_other, cell_put_same, by_put_cell, cell_put_elsewhere, get_map, total_same, total_zero, total_change}
use Rattle.rules.specs.State.{Limits, Counts, Applied, Pages, copy_of, twin_of, dirty_at}
use Rattle.rules.specs.Close.{cleaned}
use Rattle.rules.specs.Fetch.{with_copy}
use Rattle.rules.specs.Steps.{new_twin, twin_taken}
use Rattle.rules.proofs.inorder.Rows.{rows_put_cell, rows_map_row}
use Rattle.rules.proofs.inorder.KeptParts.{present_among, among_says, holder_among, dirty_below, dirty_in, CountsInOrder, PagesInOrder}

-- ---- all pages of a processor clean

-- no page of the processor is dirty afterwards
pub dirty_cleaned_same : (m : Pages) (p g : ℕ) → dirty_at (cleaned m p) p g ≡ false
unfolding dirty_at cleaned
dirty_cleaned_same m p g =
    let row : get_or (put [] m.dirty p (map (λ mark. 0) (get_or m.dirty p []))) p [] ≡ map (λ mark. 0) (get_or m.dirty p []) =
    get_put_same [] m.dirty p (map (λ mark. 0) (get_or m.dirty p [])) in
    let mark : get_or (get_or (put [] m.dirty p (map (λ mark. 0) (get_or m.dirty p []))) p []) g 0 ≡ 0 =
    ap (λ (r : List ℕ). get_or r g 0) row ∙ get_map (λ (x : ℕ). 0) 0 (get_or m.dirty p []) g in
    ap (λ (x : ℕ). not (eqb x 0)) mark

-- the pages of the others are as they were
pub dirty_cleaned_other : (m : Pages) (p q g : ℕ) → (q ≡ p → ⊥) → dirty_at (cleaned m p) q g ≡ dirty_at m q g
unfolding dirty_at cleaned
dirty_cleaned_other m p q g d =
    ap (λ (r : List ℕ). not (eqb (get_or r g 0) 0)) (get_put_other [] m.dirty p q (map (λ mark. 0) (get_or m.dirty p [])) d)

-- a page that is dirty afterwards was dirty, and is another processor's
pub dirty_after_cleaning : (m : Pages) (p q g : ℕ) → dirty_at (cleaned m p) q g ≡ true → (dirty_at m q g ≡ true) × (q ≡ p → ⊥)
dirty_after_cleaning m p q g e = go (ℕ_discrete q p)
  where
    go : Dec (q ≡ p) → (dirty_at m q g ≡ true) × (q ≡ p → ⊥)
    go (yes d) = let z : ◌≡◌ {A = Bool} false true = sym (dirty_cleaned_same m p g) ∙ ap (λ (x : ℕ). dirty_at (cleaned m p) x g) (sym d) ∙ e in absurd (false≢true z)
    go (no d) = (sym (dirty_cleaned_other m p q g d) ∙ e, d)

-- the pages stay in order
pub cleaned_in_order : (lim : Limits) (n : Counts) (m : Pages) (p : ℕ) → PagesInOrder lim n m → 1 ≤ p → p ≤ lim.processors → PagesInOrder lim n (cleaned m p)
cleaned_in_order lim n m p f h k =
    record {
      copies = unfold cleaned in f.copies;
      copy = unfold cleaned copy_of in f.copy;
      twins = unfold cleaned in f.twins;
      twin = unfold cleaned twin_of in f.twin;
      dirty = unfold cleaned in rows_map_row lim lim.pages m.dirty p (λ (x : ℕ). 0) f.dirty h k;
      absent_copy = unfold cleaned copy_of in f.absent_copy;
      absent_twin = unfold cleaned twin_of in f.absent_twin;
      absent_clean = λ q g a. go q g a (ℕ_discrete q p);
    }
  where
    go : (q g : ℕ) → holder_among n (Applied q g) ≡ false → Dec (q ≡ p) → dirty_at (cleaned m p) q g ≡ false
    go q g a (yes d) = rw d (dirty_cleaned_same m p g)
    go q g a (no d) = dirty_cleaned_other m p q g d ∙ f.absent_clean q g a

-- the dirty pages become fewer by those of the processor
pub dirty_pages_cleaned : (n : Counts) (m : Pages) (p : ℕ) → present_among n p ≡ true → dirty_in n (cleaned m p) + dirty_below m p n.pages ≡ dirty_in n m
dirty_pages_cleaned n m zero e = let b = among_says n 0 e in absurd (omega (arith, b.0))
dirty_pages_cleaned n m (suc k) e =
    let b = among_says n (suc k) e in
    let none : dirty_below (cleaned m (suc k)) (suc k) n.pages ≡ 0 =
    total_zero n.pages (λ g. cond (dirty_at (cleaned m (suc k)) (suc k) g) 1 0) (λ g h. ap (λ (t : Bool). cond t 1 0) (dirty_cleaned_same m (suc k) g)) in
    omega (
      arith,
      none,
      total_change n.processors (λ i. dirty_below (cleaned m (suc k)) (suc i) n.pages) (λ i. dirty_below m (suc i) n.pages) k b.1
          (λ i d. total_same n.pages (λ g. cond (dirty_at (cleaned m (suc k)) (suc i) g) 1 0) (λ g. cond (dirty_at m (suc i) g) 1 0)
          (λ g h. ap (λ (t : Bool). cond t 1 0) (dirty_cleaned_other m (suc k) (suc i) g (λ z. d (suc_inj z))))),
    )

-- the dirty pages of a present processor are among all
pub dirty_pages_part : (n : Counts) (m : Pages) (p : ℕ) → present_among n p ≡ true → dirty_below m p n.pages ≤ dirty_in n m
dirty_pages_part n m p e = omega (arith, dirty_pages_cleaned n m p e)

-- ---- a copy replaced

-- a present processor and page
pub record AtPage (lim : Limits) (n : Counts) (p g : ℕ) : Type 0 where
  pub counts : CountsInOrder lim n
  pub processor : present_among n p ≡ true
  pub page : g < n.pages

present_page : (lim : Limits) (n : Counts) (p g q h : ℕ) → AtPage lim n p g → q ≡ p → h ≡ g → holder_among n (Applied q h) ≡ false → ⊥
unfolding holder_among
present_page lim n p g q h a d e z =
    let t : ◌≡◌ {A = Bool} false true =
    sym z ∙ ap₂ (λ (x y : ℕ). present_among n x && ltb y n.pages) d e ∙ (and-eq-true_iff (present_among n p) (ltb g n.pages)).1 (a.processor, lt-ltb g n.pages a.page) in
    false≢true t

-- a table of copies or of twins with another page at a present place: the words of absent pages are as they were
absent_words_kept : (lim : Limits) (n : Counts) (t : List (List (List ℕ))) (p g : ℕ) (page : List ℕ) → AtPage lim n p g
    → ((q h o : ℕ) → holder_among n (Applied q h) ≡ false → get_or (cell [] t q h) o 0 ≡ 0)
    → (q h o : ℕ) → holder_among n (Applied q h) ≡ false → get_or (cell [] (put_cell [] t p g page) q h) o 0 ≡ 0
absent_words_kept lim n t p g page a f q h o z = by_put_cell (λ w. get_or w o 0 ≡ 0) [] t p g q h page (λ d e. absurd (present_page lim n p g q h a d e z)) (f q h o z)

-- a copy of the right length at a present page
pub copy_replaced : (lim : Limits) (n : Counts) (m : Pages) (p g : ℕ) (page : List ℕ) → AtPage lim n p g → length page ≡ lim.words → PagesInOrder lim n m
    → PagesInOrder lim n (with_copy m p g page)
unfolding with_copy copy_of twin_of dirty_at
copy_replaced lim n m p g page a l f =
    let b = among_says n p a.processor in
    record {
      copies = rows_put_cell [] lim lim.pages m.copies p g page f.copies b.0 (omega (arith, b.1, a.counts.processors_fit)) (omega (arith, a.page, a.counts.pages_fit));
      copy = λ q h x y z. by_put_cell (λ w. length w ≡ lim.words) [] m.copies p g q h page (λ d e. l) (f.copy q h x y z);
      twins = f.twins;
      twin = f.twin;
      dirty = f.dirty;
      absent_copy = absent_words_kept lim n m.copies p g page a f.absent_copy;
      absent_twin = f.absent_twin;
      absent_clean = f.absent_clean;
    }

-- ---- a twin taken

-- a dirty page has its twin already
pub twin_there : (m : Pages) (p g : ℕ) → dirty_at m p g ≡ true → twin_taken m p g ≡ m
unfolding twin_taken
twin_there m p g e = rw e

-- a clean page gets one
pub twin_new : (m : Pages) (p g : ℕ) → dirty_at m p g ≡ false → twin_taken m p g ≡ new_twin m p g
unfolding twin_taken
twin_new m p g e = rw e

-- the copies stay
pub twin_taken_copies : (m : Pages) (p g : ℕ) → (twin_taken m p g).copies ≡ m.copies
unfolding twin_taken new_twin
twin_taken_copies m p g = go (dirty_at m p g)
  where
    go : (b : Bool) → (cond b m (new_twin m p g)).copies ≡ m.copies
    go true = refl
    go false = refl

-- that page is dirty then
pub dirty_new_same : (m : Pages) (p g : ℕ) → dirty_at (new_twin m p g) p g ≡ true
unfolding dirty_at new_twin
dirty_new_same m p g = ap (λ (x : ℕ). not (eqb x 0)) (cell_put_same 0 m.dirty p g 1)

-- every other page is as it was
pub dirty_new_elsewhere : (m : Pages) (p g q h : ℕ) → (q ≡ p → h ≡ g → ⊥) → dirty_at (new_twin m p g) q h ≡ dirty_at m q h
unfolding dirty_at new_twin
dirty_new_elsewhere m p g q h d = ap (λ (x : ℕ). not (eqb x 0)) (cell_put_elsewhere 0 m.dirty p g q h 1 d)

-- the pages stay in order with a new twin
pub new_twin_in_order : (lim : Limits) (n : Counts) (m : Pages) (p g : ℕ) → AtPage lim n p g → PagesInOrder lim n m → PagesInOrder lim n (new_twin m p g)
unfolding new_twin copy_of twin_of dirty_at
new_twin_in_order lim n m p g a f =
    let b = among_says n p a.processor in
    let fit : p ≤ lim.processors = omega (arith, b.1, a.counts.processors_fit) in
    let on : g < lim.pages = omega (arith, a.page, a.counts.pages_fit) in
    record {
      copies = f.copies;
      copy = f.copy;
      twins = rows_put_cell [] lim lim.pages m.twins p g (copy_of m p g) f.twins b.0 fit on;
      twin = λ q h x y z. by_put_cell (λ w. length w ≡ lim.words) [] m.twins p g q h (copy_of m p g) (λ d e. f.copy p g b.0 fit on) (f.twin q h x y z);
      dirty = rows_put_cell 0 lim lim.pages m.dirty p g 1 f.dirty b.0 fit on;
      absent_copy = f.absent_copy;
      absent_twin = absent_words_kept lim n m.twins p g (copy_of m p g) a f.absent_twin;
      absent_clean = λ q h z.
          by_put_cell (λ w. not (eqb w 0) ≡ false) 0 m.dirty p g q h 1 (λ d e. absurd (present_page lim n p g q h a d e z)) (f.absent_clean q h z);
    }

-- one dirty page more
pub dirty_pages_new_twin : (n : Counts) (m : Pages) (p g : ℕ) → present_among n p ≡ true → g < n.pages → dirty_at m p g ≡ false → dirty_in n (new_twin m p g) ≡ dirty_in n m + 1
dirty_pages_new_twin n m zero g e h c = let b = among_says n 0 e in absurd (omega (arith, b.0))
dirty_pages_new_twin n m (suc k) g e h c =
    let b = among_says n (suc k) e in
    let one : ◌≡◌ {A = ℕ} (cond (dirty_at (new_twin m (suc k) g) (suc k) g) 1 0) 1 = ap (λ (t : Bool). cond t 1 0) (dirty_new_same m (suc k) g) in
    let none : ◌≡◌ {A = ℕ} (cond (dirty_at m (suc k) g) 1 0) 0 = ap (λ (t : Bool). cond t 1 0) c in
    let row =
    total_change n.pages (λ i. cond (dirty_at (new_twin m (suc k) g) (suc k) i) 1 0) (λ i. cond (dirty_at m (suc k) i) 1 0) g h
    (λ i d. ap (λ (t : Bool). cond t 1 0) (dirty_new_elsewhere m (suc k) g (suc k) i (λ a. d))) in
    omega (
      arith,
      one,
      none,
      row,
      total_change n.processors (λ i. dirty_below (new_twin m (suc k) g) (suc i) n.pages) (λ i. dirty_below m (suc i) n.pages) k b.1
          (λ i d. total_same n.pages (λ j. cond (dirty_at (new_twin m (suc k) g) (suc i) j) 1 0) (λ j. cond (dirty_at m (suc i) j) 1 0)
          (λ j l. ap (λ (t : Bool). cond t 1 0) (dirty_new_elsewhere m (suc k) g (suc i) j (λ z y. d (suc_inj z))))),
    )
