-- What the crate's own functions ask of one another: places that lie within the bytes or the page. Of the public functions
-- only `lay`, `words_set` and `mask` ask anything. Assumes nothing.
use Rattle.std.specs.Prelude.{ℕ, ◌+◌, ◌*◌, ◌≤◌, ◌≡◌, List, length}
use Rattle.limits.specs.Limits.{page_width}
use Rattle.limits.specs.inner.Sizes.{run_limit}
use Rattle.diff.specs.Reading.{read_refusal}

-- the n pairs lie within the bytes
pub record PairsThere (bytes : List ℕ) (n : ℕ) : Type 0 where
  pub few : n ≤ run_limit
  pub within : 1 + 2 * n ≤ length bytes

-- the bytes are a diff and the page has 32 words
pub record Applicable (bytes page : List ℕ) : Type 0 where
  pub accepted : read_refusal page_width bytes ≡ 0
  pub page_whole : length page ≡ page_width

-- the words of a run lie within the bytes, and the run within the page
pub record RunThere (bytes page : List ℕ) (words len offset : ℕ) : Type 0 where
  pub in_bytes : words + 4 * len ≤ length bytes
  pub on_page_lem : offset + len ≤ length page
