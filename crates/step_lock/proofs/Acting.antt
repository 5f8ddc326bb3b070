-- Acquire and release, put together from closing and their own parts: one law for each way of the code, and `act_laws`. Assumes nothing.
use Prim.Native.Nat.{ℕ}
use native.Mathlib.Omega.{arith}
use mathlib.Core.Path.{ap, ◌∙◌}
use mathlib.Core.List.{List}
use borrow.Author.Rules.{rules}
use Rattle.rules.specs.Close.{closed}
use Rattle.rules.specs.State.{mainframe, State}
use Rattle.rules.specs.Steps.{acquire, release}
use Rattle.rules.proofs.inorder.Accepted.{present_when}
use Rattle.rules.proofs.inorder.Facts.{InOrder}
use Rattle.rules.proofs.inorder.KeptClose.{closed_keeps}
use Rattle.layout.specs.Areas.{state_in}
use Rattle.layout.specs.inner.Needed.{Acts, Holds}
use Rattle.layout.proofs.Rows.{acting_within}
use Rattle.lock_line.specs.inner.Needed.{LineThere, Hands}
use Rattle.lock_line.proofs.Standing.{hands_in_order}
use Rattle.step_lock.specs.inner.Needed.{ActsOnLock, LockThere}
use Rattle.step_lock.specs.inner.Effects.{lock_taken, lock_freed, LockTaken, LockFreed}

module _ (c w r m : List ℕ) (p l : ℕ) (a : ActsOnLock c w r m p l) where
  -- who acts on a lock acts
  pub lock_acts : Acts c w r m p
  lock_acts = a.acts

  -- once the interval is closed
  module _ (c' r' m' : List ℕ) (h : Holds c' w r' m' (closed (state_in mainframe c w r m) p)) where
    still_in_order : InOrder mainframe (state_in mainframe c' w r' m')
    still_in_order = rw h.is (closed_keeps mainframe (state_in mainframe c w r m) p (present_when (state_in mainframe c w r m) p a.acts.from a.acts.to) a.acts.in_order)

    line_there : LineThere m' l
    unfolding state_in mainframe
    line_there =
        record {
          marks = h.lent.marks;
          processors = still_in_order.processors_fit;
          lock = omega (arith, a.lock, a.acts.in_order.locks_fit);
        }

    -- clocks, lock and processor have their places
    pub closed_there : LockThere c' m' p l
    closed_there =
        record { clocks = h.lent.clocks; line = record { line = line_there; from = a.acts.from; to = acting_within c w r m p a.acts } }

    -- where nobody is first nobody waits
    pub closed_hands : Hands m' l
    closed_hands = hands_in_order c' w r' m' l line_there still_in_order.lines still_in_order.absent_awake

module _ (s : State) (p l : ℕ) (c w r m c' m' : List ℕ) (h : Holds c w r m (closed s p)) where
  -- then the lock taken
  pub acquired : LockTaken c m c' m' p l → Holds c' w r m' (acquire s p l)
  unfolding acquire lock_taken
  acquired t =
      record {
        lent = record { clocks = t.clocks; words = h.lent.words; records = h.lent.records; marks = t.marks };
        is = t.is w r ∙ ap (λ (u : State). lock_taken u p l) h.is;
      }

  -- or freed
  pub released : LockFreed c m c' m' p l → Holds c' w r m' (release s p l)
  unfolding release lock_freed
  released t =
      record {
        lent = record { clocks = t.clocks; words = h.lent.words; records = h.lent.records; marks = t.marks };
        is = t.is w r ∙ ap (λ (u : State). lock_freed u p l) h.is;
      }

pub ruleset act_laws = (lock_acts, acquired, released, rules)
