-- Document 02, L1: the line of waiters of a lock, and what asking for a lock and handing it on do to the holders and the lines. It looks at
-- the marks alone, of which the first n processors are present. Assumes nothing.
use Rattle.std.specs.Prelude.{ℕ, suc, ◌-◌, Bool, cond, not, ◌&&◌, List, [], ◌∷◌, get_or, eqb}
use Rattle.lists.specs.Tables.{put, total, first_of, tabulate}
use Rattle.rules.specs.State.{Marks, with_holder, with_lines}

-- whether processor p waits for a lock
unfoldable pub waits : Marks → ℕ → Bool
waits m p = not (eqb (get_or m.awaited p 0) 0)

-- whether it waits for lock l
unfoldable pub waits_for : Marks → ℕ → ℕ → Bool
waits_for m p l = eqb (get_or m.awaited p 0) (suc l)

-- its turn: how many of that lock's waiters stand before it
unfoldable pub turn_of : Marks → ℕ → ℕ
turn_of m p = get_or m.turns p 0

-- how many wait for lock l
unfoldable pub in_line : ℕ → Marks → ℕ → ℕ
in_line n m l = total n (λ k. cond (waits_for m (suc k) l) 1 0)

-- who waits for lock l with k waiters before it; 0 if nobody does
unfoldable pub waiter_at : ℕ → Marks → ℕ → ℕ → ℕ
waiter_at n m l k = first_of n (λ j. waits_for m (suc j) l && eqb (turn_of m (suc j)) k)

-- "the longest waiter"; 0 if nobody waits
unfoldable pub first_in_line : ℕ → Marks → ℕ → ℕ
first_in_line n m l = waiter_at n m l 0

-- "its line of waiters", the longest waiter first
unfoldable pub line_of : ℕ → Marks → ℕ → List ℕ
line_of n m l = tabulate (in_line n m l) (waiter_at n m l)

-- ---- asking for a lock

-- p stands in the line of lock l behind k others
unfoldable pub with_waiter : Marks → ℕ → ℕ → ℕ → Marks
with_waiter m l p k = with_lines m (put 0 m.awaited p (suc l)) (put 0 m.turns p k)

-- p becomes the holder of a free lock; for a lock that is held it waits, behind those who wait already
unfoldable pub lock_asked : ℕ → Marks → ℕ → ℕ → Marks
lock_asked n m l p = cond (eqb (get_or m.holders l 0) 0) (with_holder m l p) (with_waiter m l p (in_line n m l))

-- ---- handing a lock on

-- the turns when the waiters of lock l move up by one
unfoldable pub moved_up : ℕ → List ℕ → List ℕ → List ℕ
moved_up l [] turns = turns
moved_up l (a ∷ awaited) [] = []
moved_up l (a ∷ awaited) (t ∷ turns) = cond (eqb a (suc l)) (t - 1) t ∷ moved_up l awaited turns

-- q leaves the line of lock l, and the others move up
unfoldable pub without_waiter : Marks → ℕ → ℕ → Marks
without_waiter m l q = with_lines m (put 0 m.awaited q 0) (moved_up l m.awaited m.turns)

-- "At a release the lock goes to the longest waiter, which becomes holder"; where nobody waits the holder becomes 0
unfoldable pub lock_handed : ℕ → Marks → ℕ → Marks
lock_handed n m l = let q = first_in_line n m l in with_holder (without_waiter m l q) l q
