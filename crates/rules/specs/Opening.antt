-- Document 01, the opening: its record, its refusal, and the state that an accepted one leaves. Assumes nothing.
use Rattle.std.specs.Prelude.{ℕ, suc, cond, ◌&&◌, List, [], ◌∷◌, replicate, eqb}
use Rattle.clock.specs.Clocks.{zeros}
use Rattle.rules.specs.State.{Limits, Counts, Clocks, Pages, Marks, Shared, State}
use Rattle.rules.specs.InOrder.{slot_size, counts_in_range}

-- "The opening record holds 0, cards, pages, locks, four zeros": its first byte, the counts, and the number that bytes 4 to 7 make
pub record Opening : Type 0 where
  pub first : ℕ
  pub counts : Counts
  pub rest : ℕ

-- 2: "first byte not 0, a count out of range, or bytes 4 to 7 not all 0"
unfoldable pub opening_refusal : Limits → Opening → ℕ
opening_refusal lim o = cond (eqb o.first 0 && counts_in_range lim o.counts && eqb o.rest 0) 0 2

-- a table of n equal rows, with the empty place of nobody in front
unfoldable pub rows : {A : Type 0} → ℕ → List A → List (List A)
rows n row = [] ∷ replicate n row

-- the clocks all zeros, with the places that stay empty
unfoldable pub zero_clocks : Limits → Clocks
zero_clocks lim =
    record {
      processors = rows lim.processors (zeros lim.processors);
      locks = replicate lim.locks (zeros lim.processors);
      barrier = zeros lim.processors;
      applied = rows lim.processors (replicate lim.pages (zeros lim.processors));
      intervals = rows lim.processors ([] ∷ replicate lim.intervals (zeros lim.processors));
      jobs = replicate lim.jobs (zeros lim.processors);
    }

-- "Each card starts with a copy of 256 words, all 0", and every page is clean
unfoldable pub zero_pages : Limits → Pages
zero_pages lim =
    record {
      copies = rows lim.processors (replicate lim.pages (replicate lim.words 0));
      twins = rows lim.processors (replicate lim.pages (replicate lim.words 0));
      dirty = rows lim.processors (replicate lim.pages 0);
    }

-- no lock is held or waited for, nobody has arrived, and collection is not wanted
unfoldable pub zero_marks : Limits → Marks
zero_marks lim =
    record {
      holders = replicate lim.locks 0;
      arrived = replicate (suc lim.processors) 0;
      wanted = 0;
      awaited = replicate (suc lim.processors) 0;
      turns = replicate (suc lim.processors) 0;
      first = 0;
      jobs = 0;
    }

-- nothing is posted or added, and no job has been put anywhere
unfoldable pub zero_shared : Limits → Shared
zero_shared lim = record { posted = replicate lim.tallies 0; adds = rows lim.processors (replicate lim.tallies 0); values = replicate lim.jobs 0 }

-- the state that an accepted opening leaves
unfoldable pub opened : Limits → Counts → State
opened lim c =
    record {
      counts = c;
      clocks = zero_clocks lim;
      pages = zero_pages lim;
      records = record { standing = 0; slots = replicate lim.records (replicate (slot_size lim) 0) };
      marks = zero_marks lim;
      shared = zero_shared lim;
    }
