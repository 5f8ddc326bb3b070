-- Document 02, L10: limits with other numbers of pages and records, and where their answers may differ. Assumes nothing.
use Rattle.std.specs.Prelude.{ℕ, Bool, eqb}
use Rattle.rules.specs.State.{Limits}
use Rattle.rules.specs.Refusals.{Answer}

-- the limits with other numbers of pages and records
abbrev pub wider : Limits → ℕ → ℕ → Limits
wider lim pages records =
    record {
      processors = lim.processors;
      pages = pages;
      words = lim.words;
      locks = lim.locks;
      records = records;
      intervals = lim.intervals;
      tallies = lim.tallies;
      jobs = lim.jobs;
    }

-- "where refusal 10 .. used to stand"
unfoldable pub is_ten : Answer → Bool
is_ten a = eqb a.refusal 10
