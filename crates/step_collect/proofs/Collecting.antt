-- Every page fetched for every processor: one law for each way of the code, and `fetches_laws`. Assumes nothing.
use Prim.Native.Nat.{ℕ, zero, suc, ◌+◌, ◌*◌, ◌≤◌, ◌<◌}
use native.Mathlib.Numerals.{add-one}
use native.Mathlib.Omega.{arith}
use mathlib.Core.Path.{◌≡◌, refl, sym, ap, ap₂, ◌∙◌}
use mathlib.Core.List.{List}
use lib.ListN.{length}
use mir.Syntax.{w32}
use mir.Val.{Fits}
use borrow.Author.Rules.{rules}
use Rattle.limits.specs.Limits.{page_limit, page_width, processor_limit, record_limit}
use Rattle.limits.specs.inner.Sizes.{key_area, mark_area}
use Rattle.rules.specs.Fetch.{fetched, fetch_count, fetch_words}
use Rattle.rules.specs.State.{mainframe, Counts, State}
use Rattle.rules.specs.Steps.{Fetches, pages_fetched, all_fetched}
use Rattle.rules.proofs.inorder.Facts.{InOrder}
use Rattle.rules.proofs.inorder.KeptFetch.{fetched_parts}
use Rattle.rules.proofs.inorder.KeptParts.{among_when, Parts, parts_of, in_order_of}
use Rattle.layout.specs.Areas.{state_in}
use Rattle.layout.specs.inner.Marks.{page_count, processor_count}
use Rattle.layout.specs.inner.Needed.{Ready}
use Rattle.layout.proofs.MarkLaws.{processors_read, pages_read}
use Rattle.fetch_index.specs.inner.Index.{IndexKept}
use Rattle.fetch.specs.inner.Needed.{Fetchable, FetchableKept, BroughtKept}
use Rattle.fetch.proofs.Fetching.{fetch_few}
use Rattle.step_collect.specs.inner.Needed.{ReadyKept, ProcessorFetches}
use Rattle.step_collect.specs.inner.Effects.{CountedKept}

-- ---- a fetch keeps order

fetched_in_order : (s : State) (p g : ℕ) → InOrder mainframe s → 1 ≤ p → p ≤ s.counts.processors → g < s.counts.pages → InOrder mainframe (fetched mainframe s p g)
fetched_in_order s p g o h k l =
    let f : Parts mainframe s = parts_of mainframe s o in
    in_order_of mainframe (fetched mainframe s p g)
    (fetched_parts mainframe s p g f (record { counts = f.counts; processor = among_when s.counts p h k; page = l }))

-- so do those of one processor, and the counts stay
pages_kept : (s : State) (p n : ℕ) → InOrder mainframe s → 1 ≤ p → p ≤ s.counts.processors → n ≤ s.counts.pages
    → InOrder mainframe (pages_fetched mainframe s p n).after × ((pages_fetched mainframe s p n).after.counts ≡ s.counts)
unfolding pages_fetched fetched
pages_kept s p zero o h k l = (o, refl)
pages_kept s p (suc g) o h k l =
    let q = pages_kept s p g o h k (omega arith) in
    let f : State = (pages_fetched mainframe s p g).after in
    let processors : f.counts.processors ≡ s.counts.processors = ap (λ (n : Counts). n.processors) q.1 in
    let pages : f.counts.pages ≡ s.counts.pages = ap (λ (n : Counts). n.pages) q.1 in
    (fetched_in_order f p g q.0 h (omega (arith, processors)) (omega (arith, pages)), q.1)

-- areas with the same marks hold states with the same counts
same_counts : (c c' w w' r r' m : List ℕ) → (state_in mainframe c' w' r' m).counts ≡ (state_in mainframe c w r m).counts
unfolding state_in
same_counts c c' w w' r r' m = refl

-- ---- fetch_pages

-- processor p has fetched the first g pages
pub record PagesFetching (c₀ w₀ r m : List ℕ) (p n : ℕ) (c w x : List ℕ) (count moved g : ℕ) : Type 0 where
  pub ready : Ready c w r m
  pub kept : IndexKept c r m x
  pub from : 1 ≤ p
  pub to : p ≤ (state_in mainframe c w r m).counts.processors
  pub pages : n ≡ (state_in mainframe c w r m).counts.pages
  pub few_pages : n ≤ page_limit
  pub upto : g ≤ n
  pub holds : state_in mainframe c w r m ≡ (pages_fetched mainframe (state_in mainframe c₀ w₀ r m) p g).after
  pub counted : count ≡ (pages_fetched mainframe (state_in mainframe c₀ w₀ r m) p g).count
  pub moved_is : moved ≡ (pages_fetched mainframe (state_in mainframe c₀ w₀ r m) p g).words
  pub few : count ≤ record_limit * g
  pub moved_few : moved ≤ page_width * count

module _ (c w r m : List ℕ) (p : ℕ) (x : List ℕ) (h : ProcessorFetches c w r m p x) where
  -- the marks have their size
  pub pages_marks : length m ≡ mark_area
  pages_marks = h.ready.lent.marks

  -- no page is fetched yet
  pub pages_begin : (n count moved : ℕ) → (n ≡ page_count m) × (n < 256) → (count ≡ 0) × (moved ≡ 0) → PagesFetching c w r m p n c w x count moved 0
  unfolding pages_fetched mainframe
  pages_begin n count moved e none =
      let is : n ≡ (state_in mainframe c w r m).counts.pages = e.0 ∙ sym (pages_read c w r m) in
      record {
        ready = h.ready;
        kept = h.kept;
        from = h.from;
        to = h.to;
        pages = is;
        few_pages = omega (arith, is, h.ready.in_order.pages_fit);
        upto = omega arith;
        holds = refl;
        counted = none.0;
        moved_is = none.1;
        few = omega (arith, none.0);
        moved_few = omega (arith, none.1);
      }

module _ (c₀ w₀ r m : List ℕ) (p n : ℕ) (c w x : List ℕ) (count moved g : ℕ) (t : PagesFetching c₀ w₀ r m p n c w x count moved g) where
  page_fetchable : g < n → Fetchable c w r m p g
  page_fetchable b =
      record {
        lent = t.ready.lent;
        in_order = t.ready.in_order;
        some_processor = t.from;
        processor_present = t.to;
        page_present = omega (arith, b, t.pages);
      }

  -- the next page can be fetched
  pub pages_next : g < n → FetchableKept c w r m p g x
  pages_next b = record { fetchable = page_fetchable b; kept = t.kept }

  module _ (c' w' : List ℕ) (y : ℕ) (x' : List ℕ) (skips v : ℕ) (b : g < n) (k : BroughtKept c w r m p g c' w' y x' skips v) where
    few_more : y ≤ record_limit
    few_more = fetch_few c w r m p g (page_fetchable b) c' w' y k.brought

    -- the counts fit
    pub pages_fit : Fits w32 (count + y)
    pages_fit = omega (arith, t.few, t.few_pages, b, few_more)

    -- so do the words
    pub pages_words_fit : Fits w32 (moved + v)
    pages_words_fit = omega (arith, t.few, t.moved_few, t.few_pages, b, few_more, k.moved_few)

    -- one page more is fetched
    pub pages_more : PagesFetching c₀ w₀ r m p n c' w' x' (count + y) (moved + v) (g + 1)
    unfolding pages_fetched
    pages_more =
        let counts : (state_in mainframe c' w' r m).counts ≡ (state_in mainframe c w r m).counts = same_counts c c' w w' r r m in
        record {
          ready =
              record {
                lent = k.brought.lent;
                in_order = rw k.brought.holds (fetched_in_order (state_in mainframe c w r m) p g t.ready.in_order t.from t.to (omega (arith, b, t.pages)));
              };
          kept = k.kept;
          from = t.from;
          to = rw counts t.to;
          pages = rw counts t.pages;
          few_pages = t.few_pages;
          upto = omega (arith, b);
          holds = rw (add-one g) (k.brought.holds ∙ ap (λ (s : State). fetched mainframe s p g) t.holds);
          counted = rw (add-one g) (ap₂ ◌+◌ t.counted (k.brought.counted ∙ ap (λ (s : State). fetch_count mainframe s p g) t.holds));
          moved_is = rw (add-one g) (ap₂ ◌+◌ t.moved_is (k.moved_is ∙ ap (λ (s : State). fetch_words mainframe s p g) t.holds));
          few = omega (arith, t.few, few_more);
          moved_few = omega (arith, t.moved_few, k.moved_few);
        }

  -- all are
  pub pages_end : n ≤ g → n ≡ page_count m → CountedKept (pages_fetched mainframe (state_in mainframe c₀ w₀ r m) p (page_count m)) count moved c w r m x
  pages_end b e =
      let is : g ≡ page_count m = omega (arith, b, t.upto, e) in
      record {
        counted = record { applied = rw (← is) t.counted; moved_is = rw (← is) t.moved_is; areas = record { lent = t.ready.lent; is = rw (← is) t.holds } };
        kept = t.kept;
      }

  pub pages_few : n ≤ g → count ≤ key_area
  pages_few b = omega (arith, t.few, t.few_pages, t.upto, b)

  pub pages_words_few : n ≤ g → moved ≤ page_width * count
  pages_words_few b = t.moved_few

-- ---- fetch_all

-- the first k processors have fetched every page
pub record AllFetching (c₀ w₀ r m : List ℕ) (n : ℕ) (c w x : List ℕ) (count moved k : ℕ) : Type 0 where
  pub ready : Ready c w r m
  pub kept : IndexKept c r m x
  pub processors : n ≡ (state_in mainframe c w r m).counts.processors
  pub few_processors : n ≤ processor_limit
  pub upto : k ≤ n
  pub holds : state_in mainframe c w r m ≡ (all_fetched mainframe (state_in mainframe c₀ w₀ r m) k).after
  pub counted : count ≡ (all_fetched mainframe (state_in mainframe c₀ w₀ r m) k).count
  pub moved_is : moved ≡ (all_fetched mainframe (state_in mainframe c₀ w₀ r m) k).words
  pub few : count ≤ key_area * k
  pub moved_few : moved ≤ page_width * count

module _ (c w r m x : List ℕ) (h : ReadyKept c w r m x) where
  -- the marks have their size
  pub all_marks : length m ≡ mark_area
  all_marks = h.ready.lent.marks

  -- no processor has fetched yet
  pub all_begin : (n count moved : ℕ) → (n ≡ processor_count m) × (n < 256) → (count ≡ 0) × (moved ≡ 0) → AllFetching c w r m n c w x count moved 0
  unfolding all_fetched mainframe
  all_begin n count moved e none =
      let is : n ≡ (state_in mainframe c w r m).counts.processors = e.0 ∙ sym (processors_read c w r m) in
      record {
        ready = h.ready;
        kept = h.kept;
        processors = is;
        few_processors = omega (arith, is, h.ready.in_order.processors_fit);
        upto = omega arith;
        holds = refl;
        counted = none.0;
        moved_is = none.1;
        few = omega (arith, none.0);
        moved_few = omega (arith, none.1);
      }

module _ (c₀ w₀ r m : List ℕ) (n : ℕ) (c w x : List ℕ) (count moved k : ℕ) (t : AllFetching c₀ w₀ r m n c w x count moved k) where
  -- the next processor can fetch
  pub all_next : k < n → ProcessorFetches c w r m (k + 1) x
  all_next b = record { ready = t.ready; kept = t.kept; from = omega arith; to = omega (arith, b, t.processors) }

  module _ (c' w' : List ℕ) (y v : ℕ) (x' : List ℕ) (b : k < n) (d : y ≤ key_area) (few : v ≤ page_width * y)
      (e : CountedKept (pages_fetched mainframe (state_in mainframe c w r m) (k + 1) (page_count m)) y v c' w' r m x') where
    -- the counts fit
    pub all_fit : Fits w32 (count + y)
    all_fit = omega (arith, t.few, t.few_processors, b, d)

    -- so do the words
    pub all_words_fit : Fits w32 (moved + v)
    all_words_fit = omega (arith, t.few, t.moved_few, t.few_processors, b, d, few)

    counts : (state_in mainframe c' w' r m).counts ≡ (state_in mainframe c w r m).counts
    counts = same_counts c c' w w' r r m

    pages : page_count m ≡ (state_in mainframe c₀ w₀ r m).counts.pages
    pages = sym (pages_read c₀ w₀ r m)

    -- one processor more has
    pub all_more : AllFetching c₀ w₀ r m n c' w' x' (count + y) (moved + v) (k + 1)
    unfolding all_fetched
    all_more =
        let same : pages_fetched mainframe (state_in mainframe c w r m) (k + 1) (page_count m)
        ≡ pages_fetched mainframe (all_fetched mainframe (state_in mainframe c₀ w₀ r m) k).after (suc k) (state_in mainframe c₀ w₀ r m).counts.pages =
        rw (t.holds, add-one k, pages) refl in
        record {
          ready = record { lent = e.counted.areas.lent; in_order = after };
          kept = e.kept;
          processors = rw counts t.processors;
          few_processors = t.few_processors;
          upto = omega (arith, b);
          holds = rw (add-one k) (e.counted.areas.is ∙ ap (λ (f : Fetches). f.after) same);
          counted = rw (add-one k) (ap₂ ◌+◌ t.counted (e.counted.applied ∙ ap (λ (f : Fetches). f.count) same));
          moved_is = rw (add-one k) (ap₂ ◌+◌ t.moved_is (e.counted.moved_is ∙ ap (λ (f : Fetches). f.words) same));
          few = omega (arith, t.few, d);
          moved_few = omega (arith, t.moved_few, few);
        }
      where
        after : InOrder mainframe (state_in mainframe c' w' r m)
        after =
            rw e.counted.areas.is
            (pages_kept (state_in mainframe c w r m) (k + 1) (page_count m) t.ready.in_order (omega arith) (omega (arith, b, t.processors)) (omega (arith, pages_read c w r m))).0

  -- all have
  pub all_end : n ≤ k → n ≡ processor_count m → CountedKept (all_fetched mainframe (state_in mainframe c₀ w₀ r m) (processor_count m)) count moved c w r m x
  all_end b e =
      let is : k ≡ processor_count m = omega (arith, b, t.upto, e) in
      record {
        counted = record { applied = rw (← is) t.counted; moved_is = rw (← is) t.moved_is; areas = record { lent = t.ready.lent; is = rw (← is) t.holds } };
        kept = t.kept;
      }

pub ruleset fetches_laws = (pages_marks, pages_begin, pages_next, pages_fit, pages_words_fit, pages_more, pages_end, pages_few, pages_words_few, all_marks, all_begin, all_next, all_fit, all_words_fit, all_more, all_end, rules)
