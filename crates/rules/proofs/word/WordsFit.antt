-- Every word of a copy fits 32 bits at each time of a run. Rests on ValuesOverTime. Assumes nothing.
use Prim.Native.Nat.{ℕ, ◌≤◌, ◌<◌}
use native.Mathlib.Nat.{mod-lt}
use mathlib.Core.Path.{◌≡◌}
use mathlib.Core.List.{List}
use lib.Dec.{lit<}
use Rattle.limits.specs.Limits.{word_values}
use Rattle.diff.specs.Format.{Below}
use Rattle.rules.specs.State.{Limits, Counts, copy_of}
use Rattle.rules.specs.Order.{Event}
use Rattle.rules.proofs.state.CopyWords.{words_below}
use Rattle.rules.proofs.inorder.Facts.{whole_copy}
use Rattle.rules.proofs.order.Timeline.{Timeline, counts_stay}
use Rattle.rules.proofs.word.Values.{ValuesGood}
use Rattle.rules.proofs.word.ValuesOverTime.{values_over_time}

values_fit : (lim : Limits) (c : Counts) (es : List Event) (r : Timeline lim c es) (t : ℕ) → ValuesGood lim (λ g o x. x < word_values) (r.state t)
values_fit lim c es r =
    values_over_time lim c es r (λ (t g o x : ℕ). x < word_values) (λ t g o x h. h) (λ g o. lit< tt) (λ t g o x h. h)
    (λ t p x v took. mod-lt v {m = word_values} (lit< tt))

-- the words of a copy
pub copy_words_fit : (lim : Limits) (c : Counts) (es : List Event) (r : Timeline lim c es) (t p g : ℕ) → 1 ≤ p → p ≤ c.processors → g < c.pages
    → Below word_values (copy_of (r.state t).pages p g)
copy_words_fit lim c es r t p g a b l =
    let same : (r.state t).counts ≡ c = counts_stay lim c es r t in
    let b' : p ≤ (r.state t).counts.processors = rw same b in
    let l' : g < (r.state t).counts.pages = rw same l in
    words_below word_values lim.words (copy_of (r.state t).pages p g) (lit< tt)
    (whole_copy lim (r.state t) (r.ordered t) p g a b' l')
    (λ i m. (values_fit lim c es r t).copies p g i a b' l' m)
