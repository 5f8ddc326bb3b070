-- An add and a total, and the place of both. One law for each way of the code, and `tally_laws`. Assumes nothing.
use Rattle.std.proofs.Common.{◌≡◌, ℕ, ◌+◌, ◌*◌, ◌%◌, ◌^◌, ◌<◌, List, length, get_or, set, sym, ap, ◌∙◌, arith, length-set, get_or-set_other, rules}
use Rattle.limits.specs.Limits.{tally_limit, word_values}
use Rattle.limits.specs.inner.Sizes.{first_tally, word_area}
use Rattle.rules.specs.State.{mainframe, posted_of, adds_of}
use Rattle.rules.specs.Tallies.{tally_added, tally_total}
use Rattle.layout.specs.Areas.{tally_place, shared_in}
use Rattle.layout.proofs.TallyLaws.{tally_at, posted_read, adds_read, shared_written, add_written}
use Rattle.step_tally.specs.inner.Needed.{OnTally, TallyIn}
use Rattle.step_tally.specs.inner.Effects.{AddDone}

-- the place of an add, and that it lies within the area
pub place_is : (p t : ℕ) → first_tally + tally_limit * p + t ≡ tally_place mainframe p t
place_is p t = sym (tally_at p t)

pub place_within : (p t : ℕ) → OnTally p t → first_tally + tally_limit * p + t < word_area
place_within p t h = omega (arith, h.to, h.tally)

module _ (w : List ℕ) (p t : ℕ) (there : TallyIn w p t) where
  -- the tally has its place
  pub on_tally : OnTally p t
  on_tally = there.on_tally

  -- there is a word at a place within the area
  pub add_place : (at : ℕ) → at < word_area → at < length w
  add_place at h = omega (arith, there.words)

  -- so is there at that of the posted total
  pub total_place : first_tally + t < length w
  total_place = omega (arith, there.words, there.on_tally.tally)

  module _ (at : ℕ) (is : at ≡ tally_place mainframe p t) where
    -- the sum stored is the add of the rules
    pub add_done : (v x : ℕ) → x ≡ (get_or w at 0 + v) % 2 ^ 32 → AddDone w (set w at x) p t v
    unfolding tally_added
    add_done v x e =
        record {
          words = length-set w at x ∙ there.words;
          is = λ c r m.
              shared_written c w (set w at x) r m (tally_added (shared_in mainframe w) p t v) there.words (length-set w at x ∙ there.words)
              (λ i a b. get_or-set_other w at i x 0 (λ k. omega (arith, k, is, tally_at p t, b)))
              (ap (λ (j : ℕ). shared_in mainframe (set w j x)) is
              ∙ ap (λ (y : ℕ). shared_in mainframe (set w (tally_place mainframe p t) y)) sum
              ∙ add_written w p t ((adds_of (shared_in mainframe w) p t + v) % word_values) there.words there.on_tally.from there.on_tally.to there.on_tally.tally);
        }
      where
        sum : x ≡ (adds_of (shared_in mainframe w) p t + v) % word_values
        sum = e ∙ ap (λ (y : ℕ). (y + v) % word_values) (ap (λ (j : ℕ). get_or w j 0) is ∙ sym (adds_read w p t there.on_tally.from there.on_tally.to there.on_tally.tally))

    -- and the sum answered the total of the rules
    pub total_is : (x : ℕ) → x ≡ (get_or w (first_tally + t) 0 + get_or w at 0) % 2 ^ 32 → x ≡ tally_total (shared_in mainframe w) p t
    unfolding tally_total
    total_is x e =
        let first : tally_place mainframe 0 t ≡ first_tally + t = omega (arith, tally_at 0 t) in
        let posted : get_or w (first_tally + t) 0 ≡ posted_of (shared_in mainframe w) t = ap (λ (j : ℕ). get_or w j 0) (sym first) ∙ sym (posted_read w t there.on_tally.tally) in
        let added : get_or w at 0 ≡ adds_of (shared_in mainframe w) p t = ap (λ (j : ℕ). get_or w j 0) is ∙ sym (adds_read w p t there.on_tally.from there.on_tally.to there.on_tally.tally) in
        e ∙ (λ i. (posted i + added i) % word_values)

pub ruleset tally_laws = (place_is, place_within, on_tally, add_place, total_place, add_done, total_is, rules)
