-- Document 02, L4: tallies. Words of 32 bits to which processors add without a lock; the adds of a round are posted when it completes. Assumes nothing.
use Rattle.std.specs.Prelude.{ℕ, suc, ◌+◌, ◌%◌, map, length}
use Rattle.lists.specs.Tables.{put_cell, total, tabulate}
use Rattle.limits.specs.Limits.{word_values}
use Rattle.rules.specs.State.{Shared, posted_of, adds_of}

-- "Kind 8 adds the value to the tally named by the object"
unfoldable pub tally_added : Shared → ℕ → ℕ → ℕ → Shared
tally_added h p t v = record { posted = h.posted; adds = put_cell 0 h.adds p t ((adds_of h p t + v) % word_values); values = h.values }

-- "Kind 9 answers the posted total plus the card's own adds since, wrapped"
unfoldable pub tally_total : Shared → ℕ → ℕ → ℕ
tally_total h p t = (posted_of h t + adds_of h p t) % word_values

-- a tally after a round of n processors. "Totals wrap at 4,294,967,296"
unfoldable pub total_after : Shared → ℕ → ℕ → ℕ
total_after h n t = (posted_of h t + total n (λ k. adds_of h (suc k) t)) % word_values

-- every tally posted, and nothing added since
unfoldable pub posting : Shared → ℕ → Shared
posting h n = record { posted = tabulate (length h.posted) (total_after h n); adds = map (map (λ add. 0)) h.adds; values = h.values }
