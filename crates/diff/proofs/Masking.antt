-- The laws by which `mask` meets its contract: a diff's runs, each as a block of ones, are the words that it sets. Assumes nothing.
use Prim.Native.Nat.{ℕ, zero, suc, ◌+◌, ◌-◌, ◌*◌, ◌^◌, ◌%◌, ◌≤◌, ◌<◌}
use native.Mathlib.Nat.{le_of_eq, zero-add, mod-eq_of_lt, pow-suc, mul_assoc, mul_comm, mul-add, mul-one, one-mul, mul-zero}
use native.Mathlib.Omega.{arith}
use mathlib.Core.Path.{◌≡◌, refl, sym, ap, ◌∙◌}
use mathlib.Core.Bool.{true}
use mathlib.Core.Option.{Option, none, some}
use mathlib.Core.List.{List, [], ◌∷◌, ◌++◌, map, append_assoc}
use lib.ListN.{length, get_or, take, drop, replicate, length-drop}
use lib.Seq.{length-take-le}
use lib.Pow.{pow-add, pow_mono}
use mir.Syntax.{w64}
use mir.Val.{Fits}
use borrow.Author.Rules.{rules}
use Rattle.limits.specs.Limits.{page_width, word_values}
use Rattle.diff.specs.Format.{Run}
use Rattle.diff.specs.Reading.{run_count, runs_at, runs_in, words_place, words_at, word_count, orderly, read_refusal, settings_of, settings}
use Rattle.diff.specs.inner.Mask.{mask_of}
use Rattle.diff.proofs.Runs.{orderly_parts, orderly_earlier, length_settings}
use Rattle.diff.proofs.Words.{length_words}
use Rattle.diff.proofs.Legal.{legal_when_read}
use Rattle.diff.proofs.Checking.{pair_left}

-- ---- lists of settings

-- words that are not set, before others
mask_unset : (k : ℕ) (d : List (Option ℕ)) → mask_of (replicate k none ++ d) ≡ 2 ^ k * mask_of d
unfolding mask_of
mask_unset zero d = sym (one-mul (mask_of d))
mask_unset (suc k) d = ap (λ (x : ℕ). 2 * x) (mask_unset k d) ∙ sym (mul_assoc 2 (2 ^ k) (mask_of d)) ∙ ap (λ (x : ℕ). x * mask_of d) (mul_comm 2 (2 ^ k) ∙ sym (pow-suc 2 k))

-- words that are set, before others
mask_set : (l : List ℕ) (d : List (Option ℕ)) → mask_of (map some l ++ d) + 1 ≡ 2 ^ length l * (1 + mask_of d)
unfolding mask_of
mask_set [] d = omega (arith, one-mul (1 + mask_of d))
mask_set (v ∷ l) d =
    let more : 2 ^ suc (length l) * (1 + mask_of d) ≡ 2 * (2 ^ length l * (1 + mask_of d)) =
    ap (λ (x : ℕ). x * (1 + mask_of d)) (pow-suc 2 (length l) ∙ mul_comm (2 ^ length l) 2) ∙ mul_assoc 2 (2 ^ length l) (1 + mask_of d) in
    omega (arith, mask_set l d, more)

-- a list of settings has as many digits as words
pub mask_below : (d : List (Option ℕ)) → mask_of d < 2 ^ length d
unfolding mask_of
mask_below [] = omega arith
mask_below (none ∷ d) = omega (arith, mask_below d, pow-suc 2 (length d))
mask_below (some v ∷ d) = omega (arith, mask_below d, pow-suc 2 (length d))

-- no word is set
mask_none : (k : ℕ) → mask_of (replicate k none) ≡ 0
unfolding mask_of
mask_none zero = refl
mask_none (suc k) = ap (λ (x : ℕ). 2 * x) (mask_none k)

-- ---- runs

-- the runs as blocks of ones
unfoldable pub runs_mask : List Run → ℕ
runs_mask [] = 0
runs_mask (r ∷ rs) = (2 ^ (r.offset + r.len) - 2 ^ r.offset) + runs_mask rs

-- the block of one run, the digits behind it moved up
run_moved : (from offset len n m k : ℕ) → from ≤ offset → n + 1 ≡ 2 ^ len * (1 + m) → 2 ^ (offset + len) * m ≡ k
    → 2 ^ from * (2 ^ (offset - from) * n) ≡ (2 ^ (offset + len) - 2 ^ offset) + k
run_moved from offset len n m k h e rest =
    let to : from + (offset - from) ≡ offset = omega arith in
    let moved : 2 ^ from * (2 ^ (offset - from) * n) ≡ 2 ^ offset * n =
    sym (mul_assoc (2 ^ from) (2 ^ (offset - from)) n) ∙ ap (λ (x : ℕ). x * n) (sym (pow-add 2 from (offset - from)) ∙ ap (λ (x : ℕ). 2 ^ x) to) in
    let ones : 2 ^ offset * (n + 1) ≡ 2 ^ (offset + len) * (1 + m) =
    ap (λ (x : ℕ). 2 ^ offset * x) e ∙ sym (mul_assoc (2 ^ offset) (2 ^ len) (1 + m)) ∙ ap (λ (x : ℕ). x * (1 + m)) (sym (pow-add 2 offset len)) in
    let left : 2 ^ offset * (n + 1) ≡ 2 ^ offset * n + 2 ^ offset = mul-add (2 ^ offset) n 1 ∙ ap (λ (x : ℕ). 2 ^ offset * n + x) (mul-one (2 ^ offset)) in
    let right : 2 ^ (offset + len) * (1 + m) ≡ 2 ^ (offset + len) + 2 ^ (offset + len) * m =
    mul-add (2 ^ (offset + len)) 1 m ∙ ap (λ (x : ℕ). x + 2 ^ (offset + len) * m) (mul-one (2 ^ (offset + len))) in
    let longer : offset ≤ offset + len = omega arith in
    omega (arith, moved, ones, left, right, rest, pow_mono longer)

mask_of_runs : (w from : ℕ) (rs : List Run) (words : List ℕ) → orderly w from rs ≡ true → word_count rs ≤ length words
    → 2 ^ from * mask_of (settings_of w from rs words) ≡ runs_mask rs
unfolding settings_of word_count runs_mask
mask_of_runs w from [] words h enough = ap (λ (x : ℕ). 2 ^ from * x) (mask_none (w - from)) ∙ mul-zero (2 ^ from)
mask_of_runs w from (r ∷ rs) words h enough =
    let p = orderly_parts w from r rs h in
    let behind = settings_of w (r.offset + r.len) rs (drop r.len words) in
    let fits : r.len ≤ length words = omega (arith, enough) in
    let rest = mask_of_runs w (r.offset + r.len) rs (drop r.len words) (orderly_earlier w (r.offset + r.len) rs p.rest) (simp length-drop (omega (arith, enough))) in
    let set : mask_of (map some (take r.len words) ++ behind) + 1 ≡ 2 ^ r.len * (1 + mask_of behind) =
    mask_set (take r.len words) behind ∙ ap (λ (x : ℕ). 2 ^ x * (1 + mask_of behind)) (length-take-le r.len words fits) in
    ap (λ (d : List (Option ℕ)). 2 ^ from * mask_of d) (append_assoc (replicate (r.offset - from) none) (map some (take r.len words)) behind)
    ∙ ap (λ (x : ℕ). 2 ^ from * x) (mask_unset (r.offset - from) (map some (take r.len words) ++ behind))
    ∙ run_moved from r.offset r.len (mask_of (map some (take r.len words) ++ behind)) (mask_of behind) (runs_mask rs) p.above set rest

-- ---- all runs

-- after k of n runs: the blocks of those behind them are to be added
pub record MaskingRuns (bytes : List ℕ) (n k mask : ℕ) : Type 0 where
  pub from : ℕ
  pub in_order : orderly page_width from (runs_at bytes (1 + 2 * k) (n - k)) ≡ true
  pub pairs_whole : 1 + 2 * n ≤ length bytes
  pub same : mask + runs_mask (runs_at bytes (1 + 2 * k) (n - k)) ≡ mask_of (settings page_width bytes)
  pub small : mask_of (settings page_width bytes) < word_values

-- the settings of a page of 32 words have 32 digits
mask_fits : (bytes : List ℕ) → read_refusal page_width bytes ≡ 0 → mask_of (settings page_width bytes) < word_values
unfolding settings
mask_fits bytes ok =
    let whole = length_settings page_width 0 (runs_in bytes) (words_at bytes (words_place bytes) (word_count (runs_in bytes)))
    (omega arith) (legal_when_read page_width bytes ok).in_order (length_words bytes (words_place bytes) (word_count (runs_in bytes))) in
    let e : length (settings page_width bytes) ≡ 32 = omega (arith, whole) in
    rw e at (mask_below (settings page_width bytes))

module _ (bytes : List ℕ) (n : ℕ) where
  pub masking_begins : read_refusal page_width bytes ≡ 0 → n ≡ get_or bytes 0 0 → MaskingRuns bytes n 0 0
  unfolding run_count runs_in words_place settings
  masking_begins ok e =
      let p = legal_when_read page_width bytes ok in
      let everything = mask_of_runs page_width 0 (runs_in bytes) (words_at bytes (words_place bytes) (word_count (runs_in bytes))) p.in_order (le_of_eq (sym (length_words bytes (words_place bytes) (word_count (runs_in bytes))))) in
      let all : n - 0 ≡ n = omega arith in
      record {
        from = 0;
        in_order = rw (all, e) p.in_order;
        pairs_whole = omega (arith, p.pairs_whole, e);
        same = rw (all, e) (zero-add (runs_mask (runs_in bytes)) ∙ sym everything ∙ one-mul (mask_of (settings page_width bytes)));
        small = mask_fits bytes ok;
      }

pub masked_first : (bytes : List ℕ) → read_refusal page_width bytes ≡ 0 → 0 < length bytes
unfolding words_place
masked_first bytes ok = omega (arith, (legal_when_read page_width bytes ok).pairs_whole)

-- the block of a run whose words end on the page is below 2 ^ 64 as its two bits are
pub shifted : (k : ℕ) → k ≤ page_width → 1 * 2 ^ k % 2 ^ 64 ≡ 2 ^ k
shifted k h =
    let small : 2 ^ k ≤ 2 ^ 32 = pow_mono h in
    let fits : 2 ^ k < 2 ^ 64 = omega (arith, small) in
    ap (λ (x : ℕ). x % 2 ^ 64) (one-mul (2 ^ k)) ∙ mod-eq_of_lt fits

module _ (bytes : List ℕ) (n k mask o l : ℕ) (p : MaskingRuns bytes n k mask) (more : k < n) (eo : o ≡ get_or bytes (1 + 2 * k) 0) (el : l ≡ get_or bytes (2 + 2 * k) 0) where
  -- what is known of the next run, and of those behind it
  record Next : Type 0 where
    pub on_page_lem : o + l ≤ page_width
    pub behind : orderly page_width (o + l + 1) (runs_at bytes (1 + 2 * (k + 1)) (n - (k + 1))) ≡ true
    pub block : runs_mask (runs_at bytes (1 + 2 * k) (n - k)) ≡ (2 ^ (o + l) - 2 ^ o) + runs_mask (runs_at bytes (1 + 2 * (k + 1)) (n - (k + 1)))

  next : Next
  unfolding runs_mask
  next =
      let first = pair_left bytes n k more in
      let q = orderly_parts page_width p.from _ _ (rw first at p.in_order) in
      record { on_page_lem = rw (eo, el) q.within; behind = rw (eo, el) q.rest; block = rw (eo, el, first) }

  pub run_on_page : o + l ≤ page_width
  run_on_page = next.on_page_lem

  block_of : 1 * 2 ^ (o + l) % 2 ^ 64 - 1 * 2 ^ o % 2 ^ 64 ≡ 2 ^ (o + l) - 2 ^ o
  block_of = let start : o ≤ page_width = omega (arith, run_on_page) in rw (shifted (o + l) run_on_page, shifted o start)

  pub block_below : 1 * 2 ^ o % 2 ^ 64 ≤ 1 * 2 ^ (o + l) % 2 ^ 64
  block_below =
      let start : o ≤ page_width = omega (arith, run_on_page) in
      let longer : o ≤ o + l = omega arith in
      rw (shifted (o + l) run_on_page, shifted o start) (pow_mono longer)

  -- the block added
  masking_sum : mask + (1 * 2 ^ (o + l) % 2 ^ 64 - 1 * 2 ^ o % 2 ^ 64) + runs_mask (runs_at bytes (1 + 2 * (k + 1)) (n - (k + 1))) ≡ mask_of (settings page_width bytes)
  masking_sum = rw block_of (omega (arith, p.same, next.block))

  pub masking_more : MaskingRuns bytes n (k + 1) (mask + (1 * 2 ^ (o + l) % 2 ^ 64 - 1 * 2 ^ o % 2 ^ 64))
  masking_more = record { from = o + l + 1; in_order = next.behind; pairs_whole = p.pairs_whole; same = masking_sum; small = p.small }

  pub masking_fits : Fits w64 (mask + (1 * 2 ^ (o + l) % 2 ^ 64 - 1 * 2 ^ o % 2 ^ 64))
  masking_fits = omega (arith, masking_sum, p.small)

module _ (bytes : List ℕ) (n k mask : ℕ) (p : MaskingRuns bytes n k mask) where
  pub masking_ends : n ≤ k → mask ≡ mask_of (settings page_width bytes)
  unfolding runs_mask runs_at
  masking_ends all =
      let none : n - k ≡ 0 = omega arith in
      let last : mask + 0 ≡ mask_of (settings page_width bytes) = rw none at p.same in
      omega (arith, last)

  pub masked_fits : mask < word_values
  masked_fits = omega (arith, p.same, p.small)

pub ruleset mask_laws = (masked_first, masking_begins, masking_more, masked_fits, rules)
