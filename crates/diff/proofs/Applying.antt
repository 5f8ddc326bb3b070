-- The laws by which `apply` and its helpers meet their contracts: what each way through their code says. Assumes nothing.
use Prim.Native.Nat.{ℕ, suc, ◌+◌, ◌-◌, ◌*◌, ◌/◌, ◌≤◌, ◌<◌}
use native.Mathlib.Nat.{add-zero}
use native.Mathlib.Omega.{arith}
use mathlib.Core.Path.{◌≡◌, refl, sym, ap, ◌∙◌}
use mathlib.Core.Bool.{true}
use mathlib.Core.List.{List, [], ◌∷◌}
use lib.ListN.{length, get_or, set, length-set}
use lib.Seq.{sets, length-sets}
use Rattle.std.specs.Int.{from_le_bytes, w32}
use mir.Val.{Fits}
use borrow.Author.Rules.{rules}
use borrow.Author.Tests.{eq-eqb, ne_eqb}
use Rattle.limits.specs.Limits.{page_width}
use Rattle.diff.specs.Reading.{run_count, runs_at, runs_in, words_place, word_at, words_at, word_count, orderly, read_refusal, words_set, applied}
use Rattle.diff.specs.Answers.{apply_refusal, apply_words, page_after}
use Rattle.diff.specs.inner.Needed.{Applicable, RunThere}
use Rattle.diff.proofs.Runs.{orderly_parts}
use Rattle.diff.proofs.Legal.{legal_when_read, words_end_bytes, few_words_set}
use Rattle.diff.proofs.Overlay.{lay, lay_applies}
use Rattle.diff.proofs.Checking.{pair_left}

-- ---- one word

-- four bytes, low byte first, as one number
pub four_bytes : (bytes : List ℕ) (at : ℕ)
    → from_le_bytes w32 (get_or bytes at 0 ∷ get_or bytes (at + 1) 0 ∷ get_or bytes (at + 2) 0 ∷ get_or bytes (at + 3) 0 ∷ []) ≡ word_at bytes at
unfolding word_at
four_bytes bytes at = omega arith

-- ---- one run

-- after k words of a run, wherever it lies: those behind them are still to be laid into the page
pub record WordsToLay (bytes page₀ page : List ℕ) (words len offset k : ℕ) : Type 0 where
  pub same : sets page₀ offset (words_at bytes words len) ≡ sets page (offset + k) (words_at bytes (words + 4 * k) (len - k))

pub words_to_lay_begins : (bytes page : List ℕ) (words len offset : ℕ) → WordsToLay bytes page page words len offset 0
words_to_lay_begins bytes page words len offset =
    let all : len - 0 ≡ len = omega arith in
    record { same = rw (all, add-zero offset, add-zero words) }

words_left : (bytes : List ℕ) (words len k : ℕ) → k < len
    → words_at bytes (words + 4 * k) (len - k) ≡ word_at bytes (words + 4 * k) ∷ words_at bytes (words + 4 * (k + 1)) (len - (k + 1))
unfolding words_at
words_left bytes words len k h =
    let one : len - k ≡ suc (len - (k + 1)) = omega arith in
    let behind : words + 4 * k + 4 ≡ words + 4 * (k + 1) = omega arith in
    rw (one, behind)

pub words_to_lay_more : (bytes page₀ page : List ℕ) (words len offset k v : ℕ) → WordsToLay bytes page₀ page words len offset k → k < len
    → v ≡ word_at bytes (words + 4 * k) → WordsToLay bytes page₀ (set page (offset + k) v) words len offset (k + 1)
words_to_lay_more bytes page₀ page words len offset k v p more e =
    let next : suc (offset + k) ≡ offset + (k + 1) = omega arith in
    record { same = p.same ∙ rw (words_left bytes words len k more, e, ← next) }

pub words_to_lay_ends : (bytes page₀ page : List ℕ) (words len offset k : ℕ) → WordsToLay bytes page₀ page words len offset k → len ≤ k
    → page ≡ sets page₀ offset (words_at bytes words len)
unfolding words_at
words_to_lay_ends bytes page₀ page words len offset k p all =
    let none : len - k ≡ 0 = omega arith in
    sym (p.same ∙ rw none)

-- after k words of a run that fits: those behind them are in the bytes, and are still to be laid into the page, on which they lie
pub record LayingRun (bytes page₀ page : List ℕ) (words len offset k : ℕ) : Type 0 where
  pub in_bytes : words + 4 * k + 4 * (len - k) ≤ length bytes
  pub on_page_lem : offset + k + (len - k) ≤ length page
  pub as_long : length page ≡ length page₀
  pub same : sets page₀ offset (words_at bytes words len) ≡ sets page (offset + k) (words_at bytes (words + 4 * k) (len - k))

pub laying_run_begins : (bytes page : List ℕ) (words len offset : ℕ) → RunThere bytes page words len offset → LayingRun bytes page page words len offset 0
laying_run_begins bytes page words len offset p =
    record {
      in_bytes = omega (arith, p.in_bytes);
      on_page_lem = omega (arith, p.on_page_lem);
      as_long = refl;
      same = (words_to_lay_begins bytes page words len offset).same;
    }

pub laying_run_more : (bytes page₀ page : List ℕ) (words len offset k v : ℕ) → LayingRun bytes page₀ page words len offset k → k < len
    → v ≡ word_at bytes (words + 4 * k) → LayingRun bytes page₀ (set page (offset + k) v) words len offset (k + 1)
laying_run_more bytes page₀ page words len offset k v p more e =
    record {
      in_bytes = omega (arith, p.in_bytes, more);
      on_page_lem = simp length-set (omega (arith, p.on_page_lem, more));
      as_long = length-set page (offset + k) v ∙ p.as_long;
      same = (words_to_lay_more bytes page₀ page words len offset k v (record { same = p.same }) more e).same;
    }

pub laying_run_ends : (bytes page₀ page : List ℕ) (words len offset k : ℕ) → LayingRun bytes page₀ page words len offset k → len ≤ k
    → page ≡ sets page₀ offset (words_at bytes words len)
laying_run_ends bytes page₀ page words len offset k p all = words_to_lay_ends bytes page₀ page words len offset k (record { same = p.same }) all

-- a run of one word
pub one_word_laid : (bytes page : List ℕ) (words len offset v : ℕ) → len ≡ 1 → v ≡ word_at bytes words → set page offset v ≡ sets page offset (words_at bytes words len)
unfolding words_at
one_word_laid bytes page words len offset v one e = rw (one, e)

-- ---- all runs

-- after k of n runs: those behind them are still to be laid into the page, their words from the place `words` on
pub record LayingRuns (bytes page₀ page : List ℕ) (n k words : ℕ) : Type 0 where
  pub from : ℕ
  pub in_order : orderly page_width from (runs_at bytes (1 + 2 * k) (n - k)) ≡ true
  pub pairs_whole : 1 + 2 * n ≤ length bytes
  pub exact : length bytes ≡ words + 4 * word_count (runs_at bytes (1 + 2 * k) (n - k))
  pub page_whole : length page ≡ page_width
  pub same : applied page_width bytes page₀ ≡ lay bytes (runs_at bytes (1 + 2 * k) (n - k)) words page

module _ (bytes page₀ : List ℕ) (n : ℕ) where
  pub laying_begins : Applicable bytes page₀ → n ≡ get_or bytes 0 0 → LayingRuns bytes page₀ page₀ n 0 (1 + 2 * n)
  unfolding run_count runs_in words_place
  laying_begins a e =
      let p = legal_when_read page_width bytes a.accepted in
      let all : n - 0 ≡ n = omega arith in
      record {
        from = 0;
        in_order = rw (all, e) p.in_order;
        pairs_whole = omega (arith, p.pairs_whole);
        exact = rw (all, e) p.exact;
        page_whole = a.page_whole;
        same = rw (all, e) (lay_applies page_width bytes page₀ p.in_order a.page_whole);
      }

module _ (bytes page₀ page : List ℕ) (n k words : ℕ) where
  abbrev offset : ℕ
  offset = get_or bytes (1 + 2 * k) 0

  abbrev len : ℕ
  len = get_or bytes (2 + 2 * k) 0

  -- what is known of the next run, and of those behind it
  record Next : Type 0 where
    pub on_page_lem : offset + len ≤ page_width
    pub behind : orderly page_width (offset + len + 1) (runs_at bytes (1 + 2 * (k + 1)) (n - (k + 1))) ≡ true
    pub count : word_count (runs_at bytes (1 + 2 * k) (n - k)) ≡ len + word_count (runs_at bytes (1 + 2 * (k + 1)) (n - (k + 1)))
    pub laid : lay bytes (runs_at bytes (1 + 2 * k) (n - k)) words page ≡ lay bytes (runs_at bytes (1 + 2 * (k + 1)) (n - (k + 1))) (words + 4 * len) (sets page offset (words_at bytes words len))

  next : LayingRuns bytes page₀ page n k words → k < n → Next
  unfolding word_count lay
  next p more =
      let first = pair_left bytes n k more in
      let q = orderly_parts page_width p.from _ _ (rw first at p.in_order) in
      record { on_page_lem = q.within; behind = q.rest; count = rw first; laid = rw first }

  pub run_there : (o l : ℕ) → LayingRuns bytes page₀ page n k words → k < n → o ≡ offset → l ≡ len → RunThere bytes page words l o
  run_there o l p more eo el =
      let q = next p more in
      record { in_bytes = omega (arith, p.exact, q.count); on_page_lem = omega (arith, q.on_page_lem, p.page_whole) }

  pub laying_more : (page' : List ℕ) (o l : ℕ) → LayingRuns bytes page₀ page n k words → k < n → o ≡ offset → l ≡ len
      → page' ≡ sets page o (words_at bytes words l) → LayingRuns bytes page₀ page' n (k + 1) (words + 4 * l)
  laying_more page' o l p more eo el e =
      let q = next p more in
      record {
        from = offset + len + 1;
        in_order = q.behind;
        pairs_whole = p.pairs_whole;
        exact = omega (arith, p.exact, q.count);
        page_whole = ap length e ∙ length-sets page o (words_at bytes words l) ∙ p.page_whole;
        same = p.same ∙ q.laid ∙ rw (e, eo, el);
      }

pub laying_ends : (bytes page₀ page : List ℕ) (n k words : ℕ) → LayingRuns bytes page₀ page n k words → n ≤ k → page ≡ applied page_width bytes page₀
unfolding lay runs_at
laying_ends bytes page₀ page n k words p all =
    let none : n - k ≡ 0 = omega arith in
    sym (p.same ∙ rw none)

-- a diff has a first byte
pub first_byte : (bytes page : List ℕ) → Applicable bytes page → 0 < length bytes
first_byte bytes page a = omega (arith, (legal_when_read page_width bytes a.accepted).not_empty)

-- ---- how many words are set

module _ (bytes : List ℕ) (h : read_refusal page_width bytes ≡ 0) where
  -- a diff has a first byte
  pub count_there : 1 ≤ length bytes
  count_there = (legal_when_read page_width bytes h).not_empty

  module _ (n : ℕ) (e : n ≡ get_or bytes 0 0) where
    long : length bytes ≡ 1 + 2 * n + 4 * words_set bytes
    unfolding run_count
    long = words_end_bytes page_width bytes h ∙ ap (λ (k : ℕ). 1 + 2 * k + 4 * words_set bytes) (sym e)

    -- its pairs lie behind that
    pub pairs_there : 2 * n ≤ length bytes - 1
    pairs_there = omega (arith, long)

    -- and its words behind those
    pub words_counted : (length bytes - 1 - 2 * n) / 4 ≡ words_set bytes
    words_counted = omega (arith, long)

    pub words_fit : Fits w32 ((length bytes - 1 - 2 * n) / 4)
    words_fit = omega (arith, words_counted, few_words_set page_width bytes h)

-- what can be applied is legal
pub applicable_legal : (bytes page : List ℕ) → Applicable bytes page → read_refusal page_width bytes ≡ 0
applicable_legal bytes page a = a.accepted

-- ---- the refusals of `apply`

module _ (bytes page : List ℕ) where
  pub page_length_refused : (length page ≡ page_width → ⊥) → 14 ≡ apply_refusal page_width bytes page
  unfolding apply_refusal
  page_length_refused h = rw (ne_eqb _ _ h)

  pub page_length_untouched : (length page ≡ page_width → ⊥) → page ≡ page_after page_width bytes page
  unfolding page_after apply_refusal
  page_length_untouched h = rw (ne_eqb _ _ h)

  pub page_length_words : (length page ≡ page_width → ⊥) → 0 ≡ apply_words page_width bytes page
  unfolding apply_words apply_refusal
  page_length_words h = rw (ne_eqb _ _ h)

  module _ (whole : length page ≡ page_width) (r : ℕ) (is : r ≡ read_refusal page_width bytes) where
    pub string_refused : (r ≡ 0 → ⊥) → r ≡ apply_refusal page_width bytes page
    unfolding apply_refusal
    string_refused h = is ∙ rw (eq-eqb _ _ whole)

    pub string_untouched : (r ≡ 0 → ⊥) → page ≡ page_after page_width bytes page
    unfolding page_after apply_refusal
    string_untouched h = rw (eq-eqb _ _ whole, ne_eqb (read_refusal page_width bytes) 0 (rw is at h))

    pub string_words : (r ≡ 0 → ⊥) → 0 ≡ apply_words page_width bytes page
    unfolding apply_words apply_refusal
    string_words h = rw (eq-eqb _ _ whole, ne_eqb (read_refusal page_width bytes) 0 (rw is at h))

    pub applicable : r ≡ 0 → Applicable bytes page
    applicable z = record { accepted = sym is ∙ z; page_whole = whole }

    pub applied_accepted : r ≡ 0 → 0 ≡ apply_refusal page_width bytes page
    unfolding apply_refusal
    applied_accepted z = sym z ∙ is ∙ rw (eq-eqb _ _ whole)

    pub applied_page : (page' : List ℕ) → r ≡ 0 → page' ≡ applied page_width bytes page → page' ≡ page_after page_width bytes page
    unfolding page_after apply_refusal
    applied_page page' z e = e ∙ rw (eq-eqb _ _ whole, eq-eqb (read_refusal page_width bytes) 0 (sym is ∙ z))

    pub applied_words : (words : ℕ) → r ≡ 0 → words ≡ words_set bytes → words ≡ apply_words page_width bytes page
    unfolding apply_words apply_refusal
    applied_words words z e = e ∙ rw (eq-eqb _ _ whole, eq-eqb (read_refusal page_width bytes) 0 (sym is ∙ z))

pub ruleset apply_laws = (four_bytes, laying_run_begins, laying_run_more, laying_run_ends, one_word_laid, laying_begins, laying_more, first_byte, count_there, pairs_there, words_counted, words_fit, applicable_legal, page_length_refused, page_length_words, string_words, applied_words, page_length_untouched, string_refused, string_untouched, applicable, applied_accepted, applied_page, rules)
