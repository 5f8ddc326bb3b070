-- The shared values stay in order when a processor adds to a tally, and when the adds of a round are posted. Rests on KeptParts. Assumes nothing.
use Prim.Native.Nat.{ℕ, ◌+◌, ◌%◌, ◌<◌}
use native.Mathlib.Omega.{arith}
use mathlib.Core.Path.{◌≡◌, sym, ap, ◌∙◌}
use mathlib.Core.Bool.{true, false≢true}
use mathlib.Core.List.{List, [], map}
use lib.ListN.{length, get_or}
use Rattle.lists.proofs.Tables.{by_put_cell, get_map}
use Rattle.lists.proofs.Tabulated.{length_tabulate}
use Rattle.limits.specs.Limits.{word_values}
use Rattle.rules.specs.State.{Limits, Counts, Shared, adds_of, State, with_shared}
use Rattle.rules.specs.Tallies.{tally_added, total_after, posting}
use Rattle.rules.proofs.inorder.KeptParts.{present_among, among_says, CountsInOrder, SharedInOrder, Parts}
use Rattle.rules.proofs.inorder.Rows.{rows_put_cell, rows_map_all}

-- shared values in order in place of the shared values
pub shared_changed : (lim : Limits) (s : State) (h : Shared) → Parts lim s → SharedInOrder lim s.counts h → Parts lim (with_shared s h)
shared_changed lim s h f k =
    record {
      counts = f.counts;
      clocks = f.clocks;
      pages = f.pages;
      records = f.records;
      marks = f.marks;
      shared = k;
      room = f.room;
      dirty_has_interval = f.dirty_has_interval;
    }

-- what a processor adds
pub added_in_order : (lim : Limits) (n : Counts) (h : Shared) (p t v : ℕ) → CountsInOrder lim n → SharedInOrder lim n h → present_among n p ≡ true → t < lim.tallies
    → SharedInOrder lim n (tally_added h p t v)
unfolding tally_added adds_of
added_in_order lim n h p t v c f a l =
    let b = among_says n p a in
    record {
      posted = f.posted;
      values = f.values;
      adds = rows_put_cell 0 lim lim.tallies h.adds p t ((adds_of h p t + v) % word_values) f.adds b.0 (omega (arith, b.1, c.processors_fit)) l;
      absent_adds = λ q u k z.
          by_put_cell (λ x. x ≡ 0) 0 h.adds p t q u ((adds_of h p t + v) % word_values)
          (λ d e. absurd (false≢true (sym z ∙ ap (present_among n) d ∙ a))) (f.absent_adds q u k z);
    }

-- nothing is left of the adds that are cleared
pub no_adds_left : (t : List (List ℕ)) (q i : ℕ) → ◌≡◌ {A = ℕ} (get_or (get_or (map (map (λ (add : ℕ). 0)) t) q []) i 0) 0
no_adds_left t q i = ap (λ (row : List ℕ). get_or row i 0) (get_map (map (λ (add : ℕ). 0)) [] t q) ∙ get_map (λ (add : ℕ). 0) 0 (get_or t q []) i

-- what is posted
pub posted_in_order : (lim : Limits) (n : Counts) (h : Shared) (k : ℕ) → SharedInOrder lim n h → SharedInOrder lim n (posting h k)
unfolding posting adds_of
posted_in_order lim n h k f =
    record {
      posted = length_tabulate (length h.posted) (total_after h k) ∙ f.posted;
      values = f.values;
      adds = rows_map_all lim lim.tallies h.adds (λ add. 0) f.adds;
      absent_adds = λ q t l z. no_adds_left h.adds q t;
    }
