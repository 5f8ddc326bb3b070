-- The edges of happens-before-1, each of which passes a test that computes, and which edges a derivation has in it: so a run shows that one step
-- is before another by one edge alone, or that it is not. Rests on lists' Tables and Conditions and on ActionKinds. Assumes nothing.
use Prim.Native.Nat.{ℕ, ◌+◌, ◌<◌}
use native.Mathlib.Omega.{arith}
use native.Mathlib.Decide.{dec_lt}
use mathlib.Core.Path.{◌≡◌, refl, sym, ap, ◌∙◌}
use mathlib.Core.Bool.{Bool, true, false, not, ◌&&◌, ◌||◌, false≢true}
use mathlib.Core.List.{List, [], ◌∷◌}
use lib.ListN.{length, get_or-eq_default}
use lib.Dec.{eqb, leb, ltb}
use borrow.Author.Tests.{eq-eqb, lt-ltb, not-true}
use Rattle.lists.specs.Tables.{every, any}
use Rattle.lists.proofs.Tables.{every_at, any_holds}
use Rattle.lists.proofs.Conditions.{conjoined, conjoined_at, Given, conjoined_holds}
use Rattle.rules.specs.Refusals.{Action, Read, Write, Acquire, Release, Arrive, Want, TallyAdd, TallyRead, Enqueue, Dequeue, Unknown, action_of}
use Rattle.rules.specs.Order.{Event, no_event, event_at, Took, is_arrival, counted_off, groups_before, rounds, counted, is_acquire_of, is_release_of, Serves, Before, program, lock, round, granted, Returns, job, is_enqueue, is_dequeue, chain}
use Rattle.rules.proofs.order.ActionKinds.{arrives_by, is_acquire, adds_job, removes_job, took_enqueue, took_dequeue}

-- the five ways in which a step is before another
pub data Edge : Type 0 where
  ByProgram : Edge
  ByLock : Edge
  ByRound : Edge
  ByGrant : Edge
  ByJob : Edge
  ByChain : Edge

number_of : Edge → ℕ
number_of ByProgram = 0
number_of ByLock = 1
number_of ByRound = 2
number_of ByGrant = 3
number_of ByJob = 4
number_of ByChain = 5

-- the edge e and no other
unfoldable pub just : Edge → Edge → Bool
unfolding number_of
just e f = eqb (number_of e) (number_of f)

-- whether a derivation of "before" has one of some edges in it
unfoldable pub has : {n : ℕ} {es : List Event} {i j : ℕ} → (Edge → Bool) → Before n es i j → Bool
has some (program p a b t u h) = some ByProgram
has some (lock p q l t u h) = some ByLock
has some (round p q b t u h) = some ByRound
has some (granted p q l a b s u h) = some ByGrant
has some (job p v q r) = some ByJob
has some (chain k x y) = some ByChain || has some x || has some y

-- ---- one edge, decided

is_release : Action → Bool
is_release (Read x) = false
is_release (Write x v) = false
is_release (Acquire l) = false
is_release (Release l) = true
is_release Arrive = false
is_release Want = false
is_release (TallyAdd j x) = false
is_release (TallyRead j) = false
is_release (Enqueue j) = false
is_release Dequeue = false
is_release Unknown = false

-- the lock that an action takes or frees
lock_of : Action → ℕ
lock_of (Read x) = 0
lock_of (Write x v) = 0
lock_of (Acquire l) = l
lock_of (Release l) = l
lock_of Arrive = 0
lock_of Want = 0
lock_of (TallyAdd j x) = 0
lock_of (TallyRead j) = 0
lock_of (Enqueue j) = 0
lock_of Dequeue = 0
lock_of Unknown = 0

-- the processor and the action at a place
abbrev processor_at : List Event → ℕ → ℕ
processor_at es i = (event_at es i).step.processor

abbrev action_at : List Event → ℕ → Action
action_at es i = action_of (event_at es i).step

-- what asks that the acquire at place a is served by the release at place i, and is by the processor of place j
grant_tests : List Event → ℕ → ℕ → ℕ → List Bool
grant_tests es i j a =
    let l = lock_of (action_at es i) in
    (event_at es a).accepted ∷ is_acquire (action_at es a) ∷ eqb (lock_of (action_at es a)) l ∷ eqb (processor_at es a) (processor_at es j)
    ∷ eqb (counted (is_acquire_of l) es a) (counted (is_release_of l) es i + 1) ∷ []

-- what an edge of a kind from place i to place j asks
tests : Edge → ℕ → List Event → ℕ → ℕ → List Bool
tests ByProgram n es i j = (event_at es i).accepted ∷ (event_at es j).accepted ∷ eqb (processor_at es i) (processor_at es j) ∷ ltb i j ∷ []
tests ByLock n es i j =
    (event_at es i).accepted ∷ (event_at es j).accepted ∷ is_release (action_at es i) ∷ is_acquire (action_at es j)
    ∷ eqb (lock_of (action_at es i)) (lock_of (action_at es j)) ∷ ltb i j ∷ []
tests ByRound n es i j = (event_at es i).accepted ∷ (event_at es j).accepted ∷ arrives_by (action_at es i) ∷ ltb (rounds n es i) (rounds n es j) ∷ []
tests ByGrant n es i j =
    (event_at es i).accepted ∷ (event_at es j).accepted ∷ is_release (action_at es i) ∷ ltb i j ∷ any i (λ a. conjoined (grant_tests es i j a)) ∷ []
tests ByJob n es i j =
    is_enqueue (event_at es i) ∷ is_dequeue (event_at es j) ∷ ltb i j ∷ eqb (counted is_enqueue es i) (counted is_dequeue es j) ∷ []
tests ByChain n es i j = false ∷ []

-- whether there is such an edge; who unfolds it unfolds what it computes with
unfoldable pub joins : Edge → ℕ → List Event → ℕ → ℕ → Bool
unfolding tests grant_tests is_release lock_of is_acquire arrives_by action_of event_at no_event rounds groups_before counted_off is_arrival counted is_acquire_of is_release_of is_enqueue is_dequeue conjoined any
joins e n es i j = conjoined (tests e n es i j)

module _ (n : ℕ) (es : List Event) (i j : ℕ) where
  -- each edge passes its test
  program_joins : (p : ℕ) (a b : Action) → Took es i p a → Took es j p b → i < j → joins ByProgram n es i j ≡ true
  unfolding joins
  program_joins p a b t u h = rw (t.accepted, u.accepted, t.processor, u.processor, eq-eqb p p refl, lt-ltb i j h)

  lock_joins : (p q l : ℕ) → Took es i p (Release l) → Took es j q (Acquire l) → i < j → joins ByLock n es i j ≡ true
  unfolding joins
  lock_joins p q l t u h = rw (t.accepted, u.accepted, t.action, u.action, eq-eqb l l refl, lt-ltb i j h)

  round_joins : (p q : ℕ) (b : Action) → Took es i p Arrive → Took es j q b → rounds n es i < rounds n es j → joins ByRound n es i j ≡ true
  unfolding joins
  round_joins p q b t u h = rw (t.accepted, u.accepted, t.action, lt-ltb (rounds n es i) (rounds n es j) h)

  grant_joins : (p q l a : ℕ) (b : Action) → Serves es l i p a q → Took es j q b → i < j → joins ByGrant n es i j ≡ true
  unfolding joins tests grant_tests Given is_release is_acquire lock_of
  grant_joins p q l a b s u h =
      conjoined_holds (tests ByGrant n es i j) s.release.accepted u.accepted (ap is_release s.release.action) (lt-ltb i j h)
      (any_holds i (λ a. conjoined (grant_tests es i j a)) a s.waited served)
    where
      lock_is : lock_of (action_at es i) ≡ l
      lock_is = ap lock_of s.release.action

      served : conjoined (grant_tests es i j a) ≡ true
      served =
          conjoined_holds (grant_tests es i j a) s.acquire.accepted (ap is_acquire s.acquire.action) (eq-eqb _ _ (ap lock_of s.acquire.action ∙ sym lock_is))
          (eq-eqb _ _ (s.acquire.processor ∙ sym u.processor))
          (eq-eqb _ _
          (ap (λ (x : ℕ). counted (is_acquire_of x) es a) lock_is ∙ s.next ∙ ap (λ (x : ℕ). counted (is_release_of x) es i + 1) (sym lock_is)))

  -- an accepted enqueue and an accepted dequeue by their events
  enqueue_is : (k p v : ℕ) → Took es k p (Enqueue v) → is_enqueue (event_at es k) ≡ true
  enqueue_is k p v t = took_enqueue es k p (Enqueue v) t ∙ (unfold adds_job in refl)

  dequeue_is : (k p : ℕ) → Took es k p Dequeue → is_dequeue (event_at es k) ≡ true
  dequeue_is k p t = took_dequeue es k p Dequeue t ∙ (unfold removes_job in refl)

  job_joins : (p v q : ℕ) → Returns es i p v j q → joins ByJob n es i j ≡ true
  unfolding joins
  job_joins p v q r = rw (enqueue_is i p v r.enqueue, dequeue_is j q r.dequeue, lt-ltb i j (omega (arith, r.waited)), eq-eqb (counted is_enqueue es i) (counted is_dequeue es j) r.same)

-- ---- places that no edge leads out of

module _ (dropped : Edge → Bool) (n : ℕ) (es : List Event) (inside : ℕ → Bool) where
  -- no edge of a kind leads from a place inside to one that is not
  stays : Edge → Bool
  stays e = every (length es) (λ j. every (length es) (λ i. not (inside i && joins e n es i j) || inside j))

  kinds : List Bool
  kinds = (dropped ByProgram || stays ByProgram) ∷ (dropped ByLock || stays ByLock) ∷ (dropped ByRound || stays ByRound) ∷ (dropped ByGrant || stays ByGrant) ∷ (dropped ByJob || stays ByJob) ∷ []

  -- nor one of any kind that is not dropped
  unfoldable pub closed_under : Bool
  unfolding stays kinds every conjoined joins
  closed_under = conjoined kinds

  -- an accepted step stands in the list
  within : (i : ℕ) → (event_at es i).accepted ≡ true → i < length es
  unfolding event_at no_event
  within i h = go (dec_lt i (length es))
    where
      go : Dec (i < length es) → i < length es
      go (yes k) = k
      go (no k) = absurd (false≢true (sym (ap (λ (e : Event). e.accepted) (get_or-eq_default es no_event {n = i} (omega (arith, k)))) ∙ h))

  edge_stays : (e : Edge) (i j : ℕ) → (dropped e || stays e) ≡ true → dropped e ≡ false → (event_at es i).accepted ≡ true → (event_at es j).accepted ≡ true
      → joins e n es i j ≡ true → inside i ≡ true → inside j ≡ true
  unfolding stays
  edge_stays e i j kept left from to edge start =
      let all : stays e ≡ true = rw left at kept in
      let here = every_at (length es) (λ i. not (inside i && joins e n es i j) || inside j) i
      (every_at (length es) (λ j. every (length es) (λ i. not (inside i && joins e n es i j) || inside j)) j all (within j to)) (within i from) in
      rw (start, edge) at here

  or_first : (a b : Bool) → (a || b) ≡ false → a ≡ false
  or_first false b h = refl
  or_first true b h = h

  or_second : (a b : Bool) → (a || b) ≡ false → b ≡ false
  or_second false b h = h
  or_second true b h = absurd (false≢true (sym h))

  -- so a derivation without the dropped edges stays inside
  before_stays : closed_under ≡ true → (i j : ℕ) (x : Before n es i j) → has dropped x ≡ false → inside i ≡ true → inside j ≡ true
  unfolding closed_under has conjoined
  before_stays c i j (program p a b t u h) f =
      edge_stays ByProgram i j (conjoined_at kinds 0 c) f t.accepted u.accepted (program_joins n es i j p a b t u (omega (arith, h)))
  before_stays c i j (lock p q l t u h) f =
      edge_stays ByLock i j (conjoined_at kinds 1 c) f t.accepted u.accepted (lock_joins n es i j p q l t u (omega (arith, h)))
  before_stays c i j (round p q b t u h) f =
      edge_stays ByRound i j (conjoined_at kinds 2 c) f t.accepted u.accepted (round_joins n es i j p q b t u (omega (arith, h)))
  before_stays c i j (granted p q l a b s u h) f =
      edge_stays ByGrant i j (conjoined_at kinds 3 c) f s.release.accepted u.accepted (grant_joins n es i j p q l a b s u (omega (arith, h)))
  before_stays c i j (job p v q r) f =
      edge_stays ByJob i j (conjoined_at kinds 4 c) f r.enqueue.accepted r.dequeue.accepted (job_joins n es i j p v q r)
  before_stays c i j (chain k x y) f = λ start.
      let g = or_first (dropped ByChain || has dropped x) (has dropped y) f in
      before_stays c k j y (or_second (dropped ByChain || has dropped x) (has dropped y) f) (before_stays c i k x (or_second (dropped ByChain) (has dropped x) g) start)

-- ---- what follows for two steps

-- no edge at all
unfoldable pub no_edge : Edge → Bool
no_edge e = false

has_none : (n : ℕ) (es : List Event) (i j : ℕ) (x : Before n es i j) → has no_edge x ≡ false
unfolding has no_edge
has_none n es i j (program p a b t u h) = refl
has_none n es i j (lock p q l t u h) = refl
has_none n es i j (round p q b t u h) = refl
has_none n es i j (granted p q l a b s u h) = refl
has_none n es i j (job p v q r) = refl
has_none n es i j (chain k x y) = rw (has_none n es i k x, has_none n es k j y)

module _ (n : ℕ) (es : List Event) (i j : ℕ) where
  -- where no edge leads out of some places, a step at one of them is not before a step elsewhere
  pub not_before : (inside : ℕ → Bool) → closed_under no_edge n es inside ≡ true → inside i ≡ true → inside j ≡ false → Before n es i j → ⊥
  not_before inside c from to x = false≢true (sym to ∙ before_stays no_edge n es inside c i j x (has_none n es i j x) from)

  -- where none but those of one kind do, every derivation that it is before has that edge in it
  pub only_by : (e : Edge) (inside : ℕ → Bool) → closed_under (just e) n es inside ≡ true → inside i ≡ true → inside j ≡ false
      → (x : Before n es i j) → has (just e) x ≡ true
  only_by e inside c from to x = go (has (just e) x) refl
    where
      go : (b : Bool) → has (just e) x ≡ b → has (just e) x ≡ true
      go true h = h
      go false h = absurd (false≢true (sym to ∙ before_stays (just e) n es inside c i j x h from))

  -- where no edge joins the two, every derivation is a chain
  pub only_chained : joins ByProgram n es i j ≡ false → joins ByLock n es i j ≡ false → joins ByRound n es i j ≡ false → joins ByGrant n es i j ≡ false → joins ByJob n es i j ≡ false
      → (x : Before n es i j) → has (just ByChain) x ≡ true
  unfolding has just
  only_chained no_program no_lock no-round no-grant no-job (program p a b t u h) = absurd (false≢true (sym no_program ∙ program_joins n es i j p a b t u (omega (arith, h))))
  only_chained no_program no_lock no-round no-grant no-job (lock p q l t u h) = absurd (false≢true (sym no_lock ∙ lock_joins n es i j p q l t u (omega (arith, h))))
  only_chained no_program no_lock no-round no-grant no-job (round p q b t u h) = absurd (false≢true (sym no-round ∙ round_joins n es i j p q b t u (omega (arith, h))))
  only_chained no_program no_lock no-round no-grant no-job (granted p q l a b s u h) = absurd (false≢true (sym no-grant ∙ grant_joins n es i j p q l a b s u (omega (arith, h))))
  only_chained no_program no_lock no-round no-grant no-job (job p v q r) = absurd (false≢true (sym no-job ∙ job_joins n es i j p v q r))
  only_chained no_program no_lock no-round no-grant no-job (chain k x y) = refl

  cut_tests : (ℕ → Bool) → List Bool
  cut_tests inside = closed_under no_edge n es inside ∷ inside i ∷ not (inside j) ∷ []

  -- place i is inside, place j is not, and no edge leads out
  unfoldable pub cut : (ℕ → Bool) → Bool
  unfolding cut_tests no_edge closed_under conjoined
  cut inside = conjoined (cut_tests inside)

  -- then the one is not before the other
  pub cut_not_before : (inside : ℕ → Bool) → cut inside ≡ true → Before n es i j → ⊥
  unfolding cut
  cut_not_before inside h =
      not_before inside (conjoined_at (cut_tests inside) 0 h) (conjoined_at (cut_tests inside) 1 h) (not-true (inside j) (conjoined_at (cut_tests inside) 2 h))

  -- the steps from place i on by other processors than the one at place j
  others : ℕ → Bool
  others k = not (eqb (processor_at es k) (processor_at es j)) && leb i k

  -- no edge leads from one of those to a step of the processor at place j
  unfoldable pub apart : Bool
  unfolding others cut
  apart = cut others

  -- then the one is not before the other
  pub apart_not_before : apart ≡ true → Before n es i j → ⊥
  unfolding apart
  apart_not_before = cut_not_before others

  -- the steps from place i on by its own processor
  mine : ℕ → Bool
  mine k = eqb (processor_at es k) (processor_at es i) && leb i k

  -- no edge leads from one of those to a step of another processor
  unfoldable pub alone : Bool
  unfolding mine cut
  alone = cut mine

  -- then it is before none of them
  pub alone_not_before : alone ≡ true → Before n es i j → ⊥
  unfolding alone
  alone_not_before = cut_not_before mine
