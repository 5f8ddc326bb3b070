-- Which ranked records of a page a fetch need not look at any more. Assumes nothing.
use Rattle.std.specs.Prelude.{ℕ, ◌<◌, ◌≡◌, Bool, true, ◌||◌, List, leb, eqb}
use Rattle.lists.proofs.Selected.{Each}
use Rattle.clock.specs.Clocks.{entry_of}
use Rattle.fetch_index.specs.inner.Keys.{processor_of, interval_of}

-- whether a clock knows the interval of a key
unfoldable pub known_to : List ℕ → ℕ → Bool
known_to clock x = leb (interval_of x) (entry_of clock (processor_of x))

-- whether the record of a key is processor p's own, or its interval is known to the clock that is applied: then it is never pending again
unfoldable pub is_done : List ℕ → ℕ → ℕ → Bool
is_done applied p x = eqb (processor_of x) p || known_to applied x

-- every key of a list that is below a watermark is done for processor p
pub record DoneBelow (applied : List ℕ) (p watermark : ℕ) (l : List ℕ) : Type 0 where
  pub each : Each (λ x. x < watermark → is_done applied p x ≡ true) l
