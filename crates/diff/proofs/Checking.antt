-- The laws by which `check` and its helpers meet their contracts: what each way through their code says. Assumes nothing.
use Prim.Native.Nat.{ℕ, zero, suc, ◌+◌, ◌-◌, ◌*◌, ◌≤◌, ◌<◌}
use native.Mathlib.Omega.{arith}
use mathlib.Core.Path.{◌≡◌, sym, ap, ◌∙◌}
use mathlib.Core.Bool.{true, false, cond, not, ◌&&◌, and-eq-true_iff}
use mathlib.Core.List.{List, ◌∷◌}
use lib.ListN.{length, get_or}
use lib.Dec.{leb, eqb}
use borrow.Author.Rules.{rules}
use borrow.Author.Tests.{leb-true, lt-ltb, le-ltb, eq-eqb, ne_eqb}
use Rattle.limits.specs.Limits.{page_width}
use Rattle.limits.specs.inner.Sizes.{run_limit}
use Rattle.diff.specs.Format.{Run}
use Rattle.diff.specs.Reading.{run_count, most_runs, runs_at, runs_in, words_place, word_count, pair_holds, orderly, pairs_refusal, read_refusal}
use Rattle.diff.specs.inner.Needed.{PairsThere}

-- ---- one pair

-- what a pair that keeps its rule says
pub record PairHolds (from offset len : ℕ) : Type 0 where
  pub above : from ≤ offset
  pub some_words : 1 ≤ len
  pub within : offset + len ≤ page_width

holds : (from offset len : ℕ) → pair_holds page_width from offset len ≡ true → PairHolds from offset len
unfolding pair_holds
holds from offset len h =
    let both = (and-eq-true_iff (leb from offset && leb 1 len) (leb (offset + len) page_width)).0 h in
    let two = (and-eq-true_iff (leb from offset) (leb 1 len)).0 both.0 in
    record { above = leb-true _ _ two.0; some_words = leb-true _ _ two.1; within = leb-true _ _ both.1 }

-- ---- the pairs, one after the other

-- after k of n pairs: those behind them and the total length decide
pub record Checking (bytes : List ℕ) (n k from end : ℕ) : Type 0 where
  pub room : end ≤ 1 + 2 * n + 4 * page_width * k
  pub same : pairs_refusal page_width bytes 0 (1 + 2 * n) (runs_at bytes 1 n) ≡ pairs_refusal page_width bytes from end (runs_at bytes (1 + 2 * k) (n - k))

pub checking_begins : (bytes : List ℕ) (n : ℕ) → Checking bytes n 0 0 (1 + 2 * n)
checking_begins bytes n = let all : n - 0 ≡ n = omega arith in record { room = omega arith; same = rw all }

-- with a pair left the runs have a first
pub runs_left : (bytes : List ℕ) (at left : ℕ) → 0 < left
    → runs_at bytes at left ≡ record { offset = get_or bytes at 0; len = get_or bytes (at + 1) 0 } ∷ runs_at bytes (at + 2) (left - 1)
unfolding runs_at
runs_left bytes at zero h = absurd (omega arith)
runs_left bytes at (suc k) h =
    let e : k ≡ suc k - 1 = omega arith in
    ap (λ (m : ℕ). record { offset = get_or bytes at 0; len = get_or bytes (at + 1) 0 } ∷ runs_at bytes (at + 2) m) e

-- behind k of n pairs the next one is the first
pub pair_left : (bytes : List ℕ) (n k : ℕ) → k < n
    → runs_at bytes (1 + 2 * k) (n - k) ≡ record { offset = get_or bytes (1 + 2 * k) 0; len = get_or bytes (2 + 2 * k) 0 } ∷ runs_at bytes (1 + 2 * (k + 1)) (n - (k + 1))
pair_left bytes n k h =
    let second : 1 + 2 * k + 1 ≡ 2 + 2 * k = omega arith in
    let behind : 1 + 2 * k + 2 ≡ 1 + 2 * (k + 1) = omega arith in
    let fewer : n - k - 1 ≡ n - (k + 1) = omega arith in
    runs_left bytes (1 + 2 * k) (n - k) (omega arith) ∙ rw (second, behind, fewer)

refusal_broken : (bytes : List ℕ) (from end : ℕ) (r : Run) (rs : List Run) → pair_holds page_width from r.offset r.len ≡ false → pairs_refusal page_width bytes from end (r ∷ rs) ≡ 12
unfolding pairs_refusal orderly
refusal_broken bytes from end r rs h = rw h

refusal_onward : (bytes : List ℕ) (from end : ℕ) (r : Run) (rs : List Run) → pair_holds page_width from r.offset r.len ≡ true
    → pairs_refusal page_width bytes from end (r ∷ rs) ≡ pairs_refusal page_width bytes (r.offset + r.len + 1) (end + 4 * r.len) rs
unfolding pairs_refusal orderly word_count
refusal_onward bytes from end r rs h =
    let e : end + 4 * (r.len + word_count rs) ≡ end + 4 * r.len + 4 * word_count rs = omega arith in
    rw (h, e)

module _ (bytes : List ℕ) (n k from end offset len : ℕ) (more : k < n) (o : offset ≡ get_or bytes (1 + 2 * k) 0) (l : len ≡ get_or bytes (2 + 2 * k) 0) where
  -- a pair that breaks its rule is refused
  pub checking_broken : Checking bytes n k from end → false ≡ pair_holds page_width from offset len → 12 ≡ pairs_refusal page_width bytes 0 (1 + 2 * n) (runs_at bytes 1 n)
  checking_broken p broken = sym (p.same ∙ rw (pair_left bytes n k more) (refusal_broken bytes from end _ _ (rw (← o, ← l) (sym broken))))

  -- after a pair that keeps its rule the next one is read
  pub checking_more : Checking bytes n k from end → true ≡ pair_holds page_width from offset len → Checking bytes n (k + 1) (offset + len + 1) (end + 4 * len)
  checking_more p kept =
      let fact = holds from offset len (sym kept) in
      record {
        room = omega arith;
        same = p.same ∙ rw (pair_left bytes n k more, o, l) (refusal_onward bytes from end _ _ (rw (← o, ← l) (sym kept)));
      }

module _ (bytes : List ℕ) (n k from end : ℕ) (p : Checking bytes n k from end) (all : n ≤ k) where
  last : pairs_refusal page_width bytes from end (runs_at bytes (1 + 2 * k) (n - k)) ≡ cond (not (eqb (length bytes) end)) 11 0
  unfolding pairs_refusal runs_at orderly word_count
  last = let none : n - k ≡ 0 = omega arith in let z : end + 4 * 0 ≡ end = omega arith in rw (none, z)

  -- after the last pair the total length decides
  pub length_exact : length bytes ≡ end → 0 ≡ pairs_refusal page_width bytes 0 (1 + 2 * n) (runs_at bytes 1 n)
  length_exact e = sym (p.same ∙ last ∙ rw (eq-eqb _ _ e))

  pub length_not_exact : (length bytes ≡ end → ⊥) → 11 ≡ pairs_refusal page_width bytes 0 (1 + 2 * n) (runs_at bytes 1 n)
  length_not_exact e = sym (p.same ∙ last ∙ rw (ne_eqb _ _ e))

-- ---- the whole byte string

module _ (bytes : List ℕ) where
  pub empty_string : length bytes ≡ 0 → 11 ≡ read_refusal page_width bytes
  unfolding read_refusal
  empty_string e = rw (eq-eqb _ _ e)

  module _ (some_bytes : length bytes ≡ 0 → ⊥) (n : ℕ) (is : n ≡ get_or bytes 0 0) where
    pub too_many_runs : run_limit < n → 11 ≡ read_refusal page_width bytes
    unfolding read_refusal most_runs run_count
    too_many_runs h = rw (ne_eqb _ _ some_bytes, ← is, lt-ltb run_limit n h)

    pub ends_within_pairs : n ≤ run_limit → length bytes < 1 + 2 * n → 11 ≡ read_refusal page_width bytes
    unfolding read_refusal most_runs run_count words_place
    ends_within_pairs m h = rw (ne_eqb _ _ some_bytes, ← is, le-ltb run_limit n m, lt-ltb _ _ h)

    pub pairs_decide : (r : ℕ) → n ≤ run_limit → 1 + 2 * n ≤ length bytes → r ≡ pairs_refusal page_width bytes 0 (1 + 2 * n) (runs_at bytes 1 n) → r ≡ read_refusal page_width bytes
    unfolding read_refusal most_runs run_count words_place runs_in
    pairs_decide r m h e = e ∙ rw (ne_eqb _ _ some_bytes, ← is, le-ltb run_limit n m, le-ltb _ _ h)

pub pairs_there : (bytes : List ℕ) (n : ℕ) → n ≤ run_limit → 1 + 2 * n ≤ length bytes → PairsThere bytes n
pairs_there bytes n f w = record { few = f; within = w }

pub ruleset check_laws = (checking_begins, checking_broken, checking_more, length_exact, length_not_exact, empty_string, too_many_runs, ends_within_pairs, pairs_decide, pairs_there, rules)
