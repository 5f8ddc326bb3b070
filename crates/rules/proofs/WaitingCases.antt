-- Document 02, L1: runs with waiting processors, computed of the rules, one table. Listing A is in runs/FromStart.antt, and 17 for each kind of
-- step in RefusalRows.antt. Rests on FromStart. Assumes nothing.
use Prim.Native.Nat.{ℕ}
use mathlib.Core.Path.{◌≡◌, refl, ◌∙◌}
use mathlib.Core.List.{List, [], ◌∷◌}
use Rattle.rules.specs.State.{mainframe}
use Rattle.rules.specs.InOrder.{in_range, counts_in_range}
use Rattle.rules.specs.Refusals.{Step, Answer}
use Rattle.rules.specs.Runs.{answers, answers_in_order}
use Rattle.rules.proofs.runs.Listing.{reads, writes, acquires, releases, arrives, wants, start, answering}
use Rattle.rules.proofs.runs.FromStart.{answers_from_start}
use Rattle.rules.proofs.runs.StoredCases.{accepted}

-- a refused step
abbrev refused : ℕ → Answer
refused r = answering r 0 0

-- 2, 3 and 4 ask for 1's lock, which comes to each in turn with what was stored under it; 1's own acquire is refused; a waiter frees nothing
unfoldable pub three_in_line : List Step
three_in_line =
    acquires 1 0 ∷ acquires 2 0 ∷ acquires 3 0 ∷ acquires 4 0 ∷ acquires 1 0 ∷ releases 3 0 ∷ writes 1 0 11 ∷ releases 1 0 ∷ reads 2 0 ∷ reads 3 0 ∷ writes 2 0 22 ∷ releases 2 0
    ∷ reads 3 0 ∷ releases 3 0 ∷ reads 4 0 ∷ releases 4 0 ∷ releases 4 0 ∷ acquires 1 0 ∷ reads 1 0 ∷ []

-- "the asker's interval closes": 2 stores, asks, is served and stores again, which makes two records
unfoldable pub asker_closes : List Step
asker_closes = acquires 1 0 ∷ writes 2 0 7 ∷ acquires 2 0 ∷ releases 1 0 ∷ writes 2 0 8 ∷ releases 2 0 ∷ acquires 3 0 ∷ reads 3 0 ∷ []

-- and it closes when it asks, not when it is served: 1's store, made before it asked, does not come after the store that it then learns of
unfoldable pub closes_at_asking : List Step
closes_at_asking =
    acquires 2 0 ∷ writes 2 0 20 ∷ releases 2 0 ∷ acquires 3 0 ∷ writes 1 0 10 ∷ acquires 1 0 ∷ releases 3 0 ∷ releases 1 0 ∷ acquires 3 0 ∷ reads 3 0 ∷ []

-- a waiter learns the releaser's clock: 1 holds two locks, and frees the one that 2 waits for, then the one that 3 waits for
unfoldable pub two_locks : List Step
two_locks =
    acquires 1 0 ∷ writes 1 0 1 ∷ acquires 1 1 ∷ writes 1 32 2 ∷ acquires 2 1 ∷ acquires 3 0 ∷ releases 1 1 ∷ reads 2 0 ∷ reads 2 32 ∷ writes 1 0 3 ∷ releases 1 0 ∷ reads 3 0
    ∷ reads 3 32 ∷ reads 2 0 ∷ releases 2 1 ∷ acquires 3 1 ∷ reads 3 0 ∷ acquires 2 0 ∷ releases 3 0 ∷ reads 2 0 ∷ []

-- two processors that wait for one another's locks wait for good
unfoldable pub each_waits : List Step
each_waits = acquires 1 0 ∷ acquires 2 1 ∷ acquires 1 1 ∷ acquires 2 0 ∷ releases 1 0 ∷ releases 2 1 ∷ arrives 1 ∷ wants 2 ∷ reads 1 0 ∷ []

-- a lock goes to and fro; then a collecting round, and the line is empty again
unfoldable pub to_and_fro : List Step
to_and_fro =
    acquires 1 0 ∷ acquires 2 0 ∷ releases 1 0 ∷ acquires 1 0 ∷ releases 2 0 ∷ acquires 2 0 ∷ releases 1 0 ∷ releases 1 0 ∷ releases 2 0 ∷ wants 1 ∷ arrives 1 ∷ arrives 2 ∷ acquires 1 0
    ∷ acquires 2 0 ∷ []

pub record WaitingCases : Type 0 where
  pub three_in_line_lem : answers mainframe (start 4 1 2) three_in_line
      ≡ accepted ∷ accepted ∷ accepted ∷ accepted ∷ refused 7 ∷ refused 17 ∷ accepted ∷ accepted ∷ answering 0 11 1 ∷ refused 17 ∷ accepted ∷ accepted ∷ answering 0 22 1 ∷ accepted
      ∷ answering 0 22 1 ∷ accepted ∷ refused 8 ∷ accepted ∷ answering 0 22 1 ∷ []
  pub asker_closes_lem : answers mainframe (start 3 1 1) asker_closes ≡ accepted ∷ accepted ∷ accepted ∷ accepted ∷ accepted ∷ accepted ∷ accepted ∷ answering 0 8 1 ∷ []
  pub closes_at_asking_lem : answers mainframe (start 3 1 1) closes_at_asking
      ≡ accepted ∷ accepted ∷ accepted ∷ accepted ∷ accepted ∷ accepted ∷ accepted ∷ accepted ∷ accepted ∷ answering 0 20 1 ∷ []
  pub two_locks_lem : answers mainframe (start 3 2 2) two_locks
      ≡ accepted ∷ accepted ∷ accepted ∷ accepted ∷ accepted ∷ accepted ∷ accepted ∷ answering 0 1 1 ∷ answering 0 2 1 ∷ accepted ∷ accepted ∷ answering 0 3 1 ∷ answering 0 2 1
      ∷ answering 0 1 0 ∷ accepted ∷ accepted ∷ answering 0 3 0 ∷ accepted ∷ accepted ∷ answering 0 3 1 ∷ []
  pub each_waits_lem : answers mainframe (start 2 1 2) each_waits
      ≡ accepted ∷ accepted ∷ accepted ∷ accepted ∷ refused 17 ∷ refused 17 ∷ refused 17 ∷ refused 17 ∷ refused 17 ∷ []
  pub to_and_fro_lem : answers mainframe (start 2 1 1) to_and_fro
      ≡ accepted ∷ accepted ∷ accepted ∷ accepted ∷ accepted ∷ accepted ∷ accepted ∷ refused 8 ∷ accepted ∷ accepted ∷ accepted ∷ accepted ∷ accepted ∷ accepted ∷ []

-- ---- the runs, computed

computed_line : answers_in_order mainframe (start 4 1 2) three_in_line
    ≡ accepted ∷ accepted ∷ accepted ∷ accepted ∷ refused 7 ∷ refused 17 ∷ accepted ∷ accepted ∷ answering 0 11 1 ∷ refused 17 ∷ accepted ∷ accepted ∷ answering 0 22 1 ∷ accepted
    ∷ answering 0 22 1 ∷ accepted ∷ refused 8 ∷ accepted ∷ answering 0 22 1 ∷ []
unfolding start three_in_line
computed_line = refl

computed_closes : answers_in_order mainframe (start 3 1 1) asker_closes ≡ accepted ∷ accepted ∷ accepted ∷ accepted ∷ accepted ∷ accepted ∷ accepted ∷ answering 0 8 1 ∷ []
unfolding start asker_closes
computed_closes = refl

computed_asking : answers_in_order mainframe (start 3 1 1) closes_at_asking
    ≡ accepted ∷ accepted ∷ accepted ∷ accepted ∷ accepted ∷ accepted ∷ accepted ∷ accepted ∷ accepted ∷ answering 0 20 1 ∷ []
unfolding start closes_at_asking
computed_asking = refl

computed_two : answers_in_order mainframe (start 3 2 2) two_locks
    ≡ accepted ∷ accepted ∷ accepted ∷ accepted ∷ accepted ∷ accepted ∷ accepted ∷ answering 0 1 1 ∷ answering 0 2 1 ∷ accepted ∷ accepted ∷ answering 0 3 1 ∷ answering 0 2 1
    ∷ answering 0 1 0 ∷ accepted ∷ accepted ∷ answering 0 3 0 ∷ accepted ∷ accepted ∷ answering 0 3 1 ∷ []
unfolding start two_locks
computed_two = refl

computed_each : answers_in_order mainframe (start 2 1 2) each_waits
    ≡ accepted ∷ accepted ∷ accepted ∷ accepted ∷ refused 17 ∷ refused 17 ∷ refused 17 ∷ refused 17 ∷ refused 17 ∷ []
unfolding start each_waits
computed_each = refl

computed_fro : answers_in_order mainframe (start 2 1 1) to_and_fro
    ≡ accepted ∷ accepted ∷ accepted ∷ accepted ∷ accepted ∷ accepted ∷ accepted ∷ refused 8 ∷ accepted ∷ accepted ∷ accepted ∷ accepted ∷ accepted ∷ accepted ∷ []
unfolding start to_and_fro
computed_fro = refl

pub waiting_cases : WaitingCases
unfolding counts_in_range in_range mainframe
waiting_cases =
    record {
      three_in_line_lem = answers_from_start 4 1 2 refl three_in_line ∙ computed_line;
      asker_closes_lem = answers_from_start 3 1 1 refl asker_closes ∙ computed_closes;
      closes_at_asking_lem = answers_from_start 3 1 1 refl closes_at_asking ∙ computed_asking;
      two_locks_lem = answers_from_start 3 2 2 refl two_locks ∙ computed_two;
      each_waits_lem = answers_from_start 2 1 2 refl each_waits ∙ computed_each;
      to_and_fro_lem = answers_from_start 2 1 1 refl to_and_fro ∙ computed_fro;
    }
