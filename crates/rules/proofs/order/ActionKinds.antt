-- What the kind of a step says of its action, that the events count the arrivals, the writes to a word, the acquires and releases of a lock and the jobs, and
-- that a read, a write or a release is no acquire. Rests on KindsOfSteps. Assumes nothing.
use Prim.Native.Nat.{ℕ}
use native.Mathlib.Omega.{arith}
use mathlib.Core.Path.{◌≡◌, refl, ap}
use mathlib.Core.Bool.{Bool, true, false, ◌&&◌, false≢true, and-eq-true_iff}
use mathlib.Core.List.{List}
use lib.Dec.{eqb}
use borrow.Author.Tests.{eqb-true}
use Rattle.rules.specs.Refusals.{Step, Action, Read, Write, Acquire, Release, Arrive, Want, TallyAdd, TallyRead, Enqueue, Dequeue, Unknown, action_of, known_kind}
use Rattle.rules.specs.Order.{Event, event_at, Took, is_arrival, is_acquire_of, is_release_of, is_enqueue, is_dequeue}
use Rattle.rules.specs.Demand.{is_write_to}
use Rattle.rules.proofs.inorder.KindsOfSteps.{unknown_differs, by_action}

-- whether an action is an arrival, and whether it is a write to the word w
unfoldable pub arrives_by : Action → Bool
arrives_by (Read x) = false
arrives_by (Write x v) = false
arrives_by (Acquire l) = false
arrives_by (Release l) = false
arrives_by Arrive = true
arrives_by Want = false
arrives_by (TallyAdd j x) = false
arrives_by (TallyRead j) = false
arrives_by (Enqueue j) = false
arrives_by Dequeue = false
arrives_by Unknown = false

unfoldable pub writes_to : ℕ → Action → Bool
writes_to w (Read x) = false
writes_to w (Write x v) = eqb x w
writes_to w (Acquire l) = false
writes_to w (Release l) = false
writes_to w Arrive = false
writes_to w Want = false
writes_to w (TallyAdd j x) = false
writes_to w (TallyRead j) = false
writes_to w (Enqueue j) = false
writes_to w Dequeue = false
writes_to w Unknown = false

-- the value that an action stores
unfoldable pub stored_by : Action → ℕ
stored_by (Read x) = 0
stored_by (Write x v) = v
stored_by (Acquire l) = 0
stored_by (Release l) = 0
stored_by Arrive = 0
stored_by Want = 0
stored_by (TallyAdd j x) = 0
stored_by (TallyRead j) = 0
stored_by (Enqueue j) = 0
stored_by Dequeue = 0
stored_by Unknown = 0

-- whether it is an acquire of lock l, and whether it is a release of it
unfoldable pub acquires_lock : ℕ → Action → Bool
acquires_lock l (Read x) = false
acquires_lock l (Write x v) = false
acquires_lock l (Acquire x) = eqb x l
acquires_lock l (Release x) = false
acquires_lock l Arrive = false
acquires_lock l Want = false
acquires_lock l (TallyAdd j x) = false
acquires_lock l (TallyRead j) = false
acquires_lock l (Enqueue j) = false
acquires_lock l Dequeue = false
acquires_lock l Unknown = false

unfoldable pub releases_lock : ℕ → Action → Bool
releases_lock l (Read x) = false
releases_lock l (Write x v) = false
releases_lock l (Acquire x) = false
releases_lock l (Release x) = eqb x l
releases_lock l Arrive = false
releases_lock l Want = false
releases_lock l (TallyAdd j x) = false
releases_lock l (TallyRead j) = false
releases_lock l (Enqueue j) = false
releases_lock l Dequeue = false
releases_lock l Unknown = false

pub releases_is : (l : ℕ) (a : Action) → releases_lock l a ≡ true → a ≡ Release l
unfolding releases_lock
releases_is l (Read x) e = absurd (false≢true e)
releases_is l (Write x v) e = absurd (false≢true e)
releases_is l (Acquire x) e = absurd (false≢true e)
releases_is l (Release x) e = ap Release (eqb-true x l e)
releases_is l Arrive e = absurd (false≢true e)
releases_is l Want e = absurd (false≢true e)
releases_is l (TallyAdd j x) e = absurd (false≢true e)
releases_is l (TallyRead j) e = absurd (false≢true e)
releases_is l (Enqueue j) e = absurd (false≢true e)
releases_is l Dequeue e = absurd (false≢true e)
releases_is l Unknown e = absurd (false≢true e)

-- an action that arrivesBy is an arrival
pub arrives_is : (a : Action) → arrives_by a ≡ true → a ≡ Arrive
unfolding arrives_by
arrives_is (Read x) e = absurd (false≢true e)
arrives_is (Write x v) e = absurd (false≢true e)
arrives_is (Acquire l) e = absurd (false≢true e)
arrives_is (Release l) e = absurd (false≢true e)
arrives_is Arrive e = refl
arrives_is Want e = absurd (false≢true e)
arrives_is (TallyAdd j x) e = absurd (false≢true e)
arrives_is (TallyRead j) e = absurd (false≢true e)
arrives_is (Enqueue j) e = absurd (false≢true e)
arrives_is Dequeue e = absurd (false≢true e)
arrives_is Unknown e = absurd (false≢true e)

-- an action that writes to w is a write to w of the value that it stores
pub writes_to_is : (w : ℕ) (a : Action) → writes_to w a ≡ true → a ≡ Write w (stored_by a)
unfolding writes_to stored_by
writes_to_is w (Read x) e = absurd (false≢true e)
writes_to_is w (Write x v) e = ap (λ (y : ℕ). Write y v) (eqb-true x w e)
writes_to_is w (Acquire l) e = absurd (false≢true e)
writes_to_is w (Release l) e = absurd (false≢true e)
writes_to_is w Arrive e = absurd (false≢true e)
writes_to_is w Want e = absurd (false≢true e)
writes_to_is w (TallyAdd j x) e = absurd (false≢true e)
writes_to_is w (TallyRead j) e = absurd (false≢true e)
writes_to_is w (Enqueue j) e = absurd (false≢true e)
writes_to_is w Dequeue e = absurd (false≢true e)
writes_to_is w Unknown e = absurd (false≢true e)

-- L9: whether an action adds a job, and whether it removes one
unfoldable pub adds_job : Action → Bool
adds_job (Read x) = false
adds_job (Write x v) = false
adds_job (Acquire l) = false
adds_job (Release l) = false
adds_job Arrive = false
adds_job Want = false
adds_job (TallyAdd j x) = false
adds_job (TallyRead j) = false
adds_job (Enqueue x) = true
adds_job Dequeue = false
adds_job Unknown = false

unfoldable pub removes_job : Action → Bool
removes_job (Read x) = false
removes_job (Write x v) = false
removes_job (Acquire l) = false
removes_job (Release l) = false
removes_job Arrive = false
removes_job Want = false
removes_job (TallyAdd j x) = false
removes_job (TallyRead j) = false
removes_job (Enqueue x) = false
removes_job Dequeue = true
removes_job Unknown = false

-- ---- by its kind

-- each of these of a step is seen by its kind and object
module _ (t : Step) where
  kind_arrives : eqb t.kind 5 ≡ arrives_by (action_of t)
  unfolding arrives_by known_kind
  kind_arrives = by_action (λ k a. eqb k 5 ≡ arrives_by a) t refl refl refl refl refl refl refl refl refl refl (unknown_differs 5 refl)

  kind_writes : (w : ℕ) → (eqb t.kind 2 && eqb t.object w) ≡ writes_to w (action_of t)
  unfolding writes_to known_kind
  kind_writes w = by_action (λ k a. (eqb k 2 && eqb t.object w) ≡ writes_to w a) t refl refl refl refl refl refl refl refl refl refl (λ k u. rw (unknown_differs 2 refl k u))

  kind_acquires : (l : ℕ) → (eqb t.kind 3 && eqb t.object l) ≡ acquires_lock l (action_of t)
  unfolding acquires_lock known_kind
  kind_acquires l = by_action (λ k a. (eqb k 3 && eqb t.object l) ≡ acquires_lock l a) t refl refl refl refl refl refl refl refl refl refl (λ k u. rw (unknown_differs 3 refl k u))

  kind_releases : (l : ℕ) → (eqb t.kind 4 && eqb t.object l) ≡ releases_lock l (action_of t)
  unfolding releases_lock known_kind
  kind_releases l = by_action (λ k a. (eqb k 4 && eqb t.object l) ≡ releases_lock l a) t refl refl refl refl refl refl refl refl refl refl (λ k u. rw (unknown_differs 4 refl k u))

  -- L9: a job is added by kind 10 and removed by kind 11
  pub kind_adds_job : eqb t.kind 10 ≡ adds_job (action_of t)
  unfolding adds_job known_kind
  kind_adds_job = by_action (λ k a. eqb k 10 ≡ adds_job a) t refl refl refl refl refl refl refl refl refl refl (unknown_differs 10 refl)

  pub kind_removes_job : eqb t.kind 11 ≡ removes_job (action_of t)
  unfolding removes_job known_kind
  kind_removes_job = by_action (λ k a. eqb k 11 ≡ removes_job a) t refl refl refl refl refl refl refl refl refl refl (unknown_differs 11 refl)

  -- the value that a write stores is its value field
  kind_value : (w : ℕ) → writes_to w (action_of t) ≡ true → t.value ≡ stored_by (action_of t)
  unfolding writes_to stored_by
  kind_value w =
      by_action (λ k a. writes_to w a ≡ true → t.value ≡ stored_by a) t none (λ e. refl) none none none none none none none none (λ k u. none)
    where
      none : {x : ℕ} → false ≡ true → t.value ≡ x
      none e = absurd (false≢true e)

-- ---- the events

-- whether an action is an acquire
unfoldable pub is_acquire : Action → Bool
is_acquire (Read x) = false
is_acquire (Write x v) = false
is_acquire (Acquire l) = true
is_acquire (Release l) = false
is_acquire Arrive = false
is_acquire Want = false
is_acquire (TallyAdd j x) = false
is_acquire (TallyRead j) = false
is_acquire (Enqueue j) = false
is_acquire Dequeue = false
is_acquire Unknown = false

-- a read, a write and a release are none, and a read and a write are no dequeue
pub write_no_acquire : (x v l : ℕ) → Write x v ≡ Acquire l → ⊥
write_no_acquire x v l e = let z : ◌≡◌ {A = ℕ} 0 1 = cc in omega arith

pub read_no_acquire : (x l : ℕ) → Read x ≡ Acquire l → ⊥
read_no_acquire x l e = let z : ◌≡◌ {A = ℕ} 0 1 = cc in omega arith

pub write_no_dequeue : (x v : ℕ) → Write x v ≡ Dequeue → ⊥
write_no_dequeue x v e = let z : ◌≡◌ {A = ℕ} 0 1 = cc in omega arith

pub read_no_dequeue : (x : ℕ) → Read x ≡ Dequeue → ⊥
read_no_dequeue x e = let z : ◌≡◌ {A = ℕ} 0 1 = cc in omega arith

pub release_no_acquire : (x l : ℕ) → Release x ≡ Acquire l → ⊥
release_no_acquire x l e = let z : ◌≡◌ {A = ℕ} 0 1 = cc in omega arith

module _ (es : List Event) (t : ℕ) where
  -- an accepted step is counted as an arrival when it is one
  pub took_arrival : (p : ℕ) (a : Action) → Took es t p a → is_arrival (event_at es t) ≡ arrives_by a
  unfolding is_arrival
  took_arrival p a k = rw (k.accepted, ← k.action) (kind_arrives (event_at es t).step)

  -- and as a write to w when it is one
  pub took_write : (w p : ℕ) (a : Action) → Took es t p a → is_write_to (event_at es t) w ≡ writes_to w a
  unfolding is_write_to
  took_write w p a k = rw (k.accepted, ← k.action) (kind_writes (event_at es t).step w)

  -- as an acquire or a release of lock l when it is one
  pub took_acquire : (l p : ℕ) (a : Action) → Took es t p a → is_acquire_of l (event_at es t) ≡ acquires_lock l a
  unfolding is_acquire_of
  took_acquire l p a k = rw (k.accepted, ← k.action) (kind_acquires (event_at es t).step l)

  pub took_release : (l p : ℕ) (a : Action) → Took es t p a → is_release_of l (event_at es t) ≡ releases_lock l a
  unfolding is_release_of
  took_release l p a k = rw (k.accepted, ← k.action) (kind_releases (event_at es t).step l)

  -- a refused step is no acquire and no release
  pub refused_acquire : (l : ℕ) → (event_at es t).accepted ≡ false → is_acquire_of l (event_at es t) ≡ false
  unfolding is_acquire_of
  refused_acquire l e = rw e

  pub refused_release : (l : ℕ) → (event_at es t).accepted ≡ false → is_release_of l (event_at es t) ≡ false
  unfolding is_release_of
  refused_release l e = rw e

  -- a refused step is no arrival
  pub refused_arrival : (event_at es t).accepted ≡ false → is_arrival (event_at es t) ≡ false
  unfolding is_arrival
  refused_arrival e = rw e

  -- nor a write
  pub refused_write : (w : ℕ) → (event_at es t).accepted ≡ false → is_write_to (event_at es t) w ≡ false
  unfolding is_write_to
  refused_write w e = rw e

  -- the value that an accepted write stores is its value field
  pub took_value : (w p : ℕ) (a : Action) → Took es t p a → writes_to w a ≡ true → (event_at es t).step.value ≡ stored_by a
  took_value w p a k = rw (← k.action) (kind_value (event_at es t).step w)

  -- L9: an accepted step is counted as an enqueue or a dequeue when it is one
  pub took_enqueue : (p : ℕ) (a : Action) → Took es t p a → is_enqueue (event_at es t) ≡ adds_job a
  unfolding is_enqueue
  took_enqueue p a k = rw (k.accepted, ← k.action) (kind_adds_job (event_at es t).step)

  pub took_dequeue : (p : ℕ) (a : Action) → Took es t p a → is_dequeue (event_at es t) ≡ removes_job a
  unfolding is_dequeue
  took_dequeue p a k = rw (k.accepted, ← k.action) (kind_removes_job (event_at es t).step)

  pub refused_enqueue : (event_at es t).accepted ≡ false → is_enqueue (event_at es t) ≡ false
  unfolding is_enqueue
  refused_enqueue e = rw e

  pub refused_dequeue : (event_at es t).accepted ≡ false → is_dequeue (event_at es t) ≡ false
  unfolding is_dequeue
  refused_dequeue e = rw e

  -- and what is counted as an enqueue is one
  pub enqueue_of : is_enqueue (event_at es t) ≡ true → Took es t (event_at es t).step.processor (Enqueue (event_at es t).step.value)
  unfolding is_enqueue action_of
  enqueue_of e =
      let both = (and-eq-true_iff (event_at es t).accepted (eqb (event_at es t).step.kind 10)).0 e in
      record { accepted = both.0; processor = refl; action = rw (eqb-true (event_at es t).step.kind 10 both.1) }
