-- Demand 3, the half without a premise: every accepted read answers 0 or the value field of an earlier accepted write to its word. Rests on
-- Allowed and ValuesOverTime. Assumes nothing.
use Prim.Native.Nat.{ℕ, suc, ◌+◌, ◌*◌, ◌/◌, ◌%◌, ◌<◌}
use native.Mathlib.Omega.{arith}
use native.Mathlib.Nat.{mod-lt, div-add-mod'}
use mathlib.Core.Path.{◌≡◌, refl}
use mathlib.Core.Logic.{◌⊎◌, inl, inr}
use mathlib.Core.List.{List}
use lib.Dec.{lit<}
use Rattle.limits.specs.Limits.{word_values}
use Rattle.rules.specs.State.{Limits, Counts}
use Rattle.rules.specs.Fetch.{fetched}
use Rattle.rules.specs.Steps.{page_of_word, offset_of_word, word_of, read}
use Rattle.rules.specs.Refusals.{Read, Write}
use Rattle.rules.specs.Order.{Event, Took}
use Rattle.rules.specs.Demand.{value_field, FromWrite}
use Rattle.rules.proofs.order.Timeline.{Timeline, counts_stay}
use Rattle.rules.proofs.order.Allowed.{took_allowed, took_read_page}
use Rattle.rules.proofs.word.Values.{ValuesGood, fetched_keeps_values}
use Rattle.rules.proofs.word.ValuesOverTime.{values_over_time}

module _ (lim : Limits) (c : Counts) (es : List Event) (r : Timeline lim c es) where
  -- x may be a value of the word at offset o of page g at time t: it fits 32 bits, and is 0 or was written to the word before
  unfoldable Written : ℕ → ℕ → ℕ → ℕ → Type 0
  Written t g o x = (x < word_values) × ((x ≡ 0) ⊎ FromWrite es (g * lim.words + o) t x)

  from_later : (w t x : ℕ) → (x ≡ 0) ⊎ FromWrite es w t x → (x ≡ 0) ⊎ FromWrite es w (suc t) x
  from_later w t x (inl e) = inl e
  from_later w t x (inr f) =
      inr (record {
        place = f.place;
        processor = f.processor;
        value = f.value;
        write = record { wrote = f.write.wrote; earlier = omega (arith, f.write.earlier) };
        is = f.is;
      })

  written_later : (t g o x : ℕ) → Written t g o x → Written (suc t) g o x
  unfolding Written
  written_later t g o x h = (h.0, from_later (g * lim.words + o) t x h.1)

  written_now : (t p x v : ℕ) → Took es t p (Write x v) → Written (suc t) (page_of_word lim x) (offset_of_word lim x) (v % word_values)
  unfolding Written page_of_word offset_of_word value_field
  written_now t p x v took = (
    mod-lt v {m = word_values} (lit< tt),
    rw (div-add-mod' x lim.words) (inr (record { place = t; processor = p; value = v; write = record { wrote = took; earlier = omega arith }; is = refl })),
  )

  values_written : (t : ℕ) → ValuesGood lim (Written t) (r.state t)
  unfolding Written
  values_written = values_over_time lim c es r Written (λ t g o x h. h.0) (λ g o. (lit< tt, inl refl)) written_later written_now

  -- "In each case it is 0 or the value field of one of them"
  pub weak_half : (j p w : ℕ) → Took es j p (Read w) → ((read lim (r.state j) p w).value ≡ 0) ⊎ FromWrite es w j (read lim (r.state j) p w).value
  unfolding read word_of Written page_of_word offset_of_word fetched
  weak_half j p w took =
      let ok = took_allowed lim c es r j p (Read w) took in
      let h : ValuesGood lim (Written j) (fetched lim (r.state j) p (w / lim.words)) =
      fetched_keeps_values lim (Written j) (r.state j) p (w / lim.words) (r.ordered j) (values_written j) in
      rw (div-add-mod' w lim.words) at (h.copies p (w / lim.words) (w % lim.words) ok.from (rw (counts_stay lim c es r j) ok.to) (took_read_page lim c es r j p w took) (mod-lt w r.words_there)).1
