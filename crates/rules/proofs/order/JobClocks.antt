-- The clock of a job over time: at its place it is the clock that the enqueuer had after the enqueue until the dequeue that returns the job, or zeros since a
-- collecting round; and that is what the dequeue learns. Rests on Jobs, Ring and QueueAfter. Assumes nothing.
use Prim.Native.Nat.{ℕ, suc, ◌<◌}
use native.Mathlib.Omega.{arith}
use native.Mathlib.Decide.{ℕ_discrete}
use mathlib.Core.Path.{◌≡◌, refl, sym, ap, ◌∙◌}
use mathlib.Core.Bool.{Bool, true, false, false≢true}
use mathlib.Core.Logic.{◌⊎◌, inl, inr}
use mathlib.Core.List.{List, [], ◌∷◌, map}
use lib.ListN.{get_or}
use Rattle.lists.specs.Tables.{put}
use Rattle.clock.specs.Clocks.{joined}
use Rattle.lists.proofs.Tables.{get_put_same, get_put_other, get_map}
use Rattle.rules.specs.State.{Limits, Counts, cleared, State, clock}
use Rattle.rules.specs.Close.{closed}
use Rattle.rules.specs.Steps.{at_barrier, all_arrived, wants_collection, free_place, enqueue}
use Rattle.rules.specs.Refusals.{Action, Arrive, Enqueue, Dequeue, effect}
use Rattle.rules.specs.Order.{Event, event_at, Took, counted, is_enqueue, is_dequeue, Returns}
use Rattle.rules.specs.Jobs.{Collects}
use Rattle.rules.proofs.order.Timeline.{Timeline, Moment, Refused, Taken, moment, effect_of, course_of}
use Rattle.rules.proofs.order.ActionKinds.{arrives_by, arrives_is, adds_job, took_enqueue, enqueue_of}
use Rattle.rules.proofs.order.QueueAfter.{jobs_after, jobs_after_lem, jobs_stay, arrival_leaves, arrival_clears, enqueue_leaves, dequeue_learns}
use Rattle.rules.proofs.order.Ring.{ring, Stays, keeps_its_place}
use Rattle.rules.proofs.order.Jobs.{counting, finds_room, free_is, queue}

-- whether an arrival completes a collecting round
collects_or_not : (s : State) (p : ℕ) → Collects s p ⊎ (Collects s p → ⊥)
collects_or_not s p = go (all_arrived (at_barrier s p)) (wants_collection (at_barrier s p)) refl refl
  where
    go : (a b : Bool) → all_arrived (at_barrier s p) ≡ a → wants_collection (at_barrier s p) ≡ b → Collects s p ⊎ (Collects s p → ⊥)
    go true true x y = inl (record { last = x; wanted = y })
    go true false x y = inr (λ h. false≢true (sym y ∙ h.wanted))
    go false b x y = inr (λ h. false≢true (sym x ∙ h.last))

-- zeros stay zeros
cleared_twice : (x : List ℕ) → cleared (cleared x) ≡ cleared x
unfolding cleared
cleared_twice [] = refl
cleared_twice (e ∷ x) = ap (λ (l : List ℕ). 0 ∷ l) (cleared_twice x)

module _ (lim : Limits) (c : Counts) (es : List Event) (r : Timeline lim c es) where
  -- the step at place k completes a collecting round
  pub record Collecting (k : ℕ) : Type 0 where
    pub processor : ℕ
    pub arrival : Took es k processor Arrive
    pub collects : Collects (r.state k) processor

  -- what a step that adds no job does to the clocks of the places
  data Turn (t : ℕ) : Type 0 where
    Clears : Collecting t → (r.state (suc t)).clocks.jobs ≡ map cleared (r.state t).clocks.jobs → Turn t
    Leaves : (Collecting t → ⊥) → (r.state (suc t)).clocks.jobs ≡ (r.state t).clocks.jobs → Turn t

  module _ (t p : ℕ) (a : Action) (took : Took es t p a) (Adds-none : adds_job a ≡ false) where
    -- a collecting step at its place is this one
    this_one : Collecting t → (a ≡ Arrive) × Collects (r.state t) p
    this_one h = (sym took.action ∙ h.arrival.action, rw (sym h.arrival.processor ∙ took.processor) at h.collects)

    now : (r.state (suc t)).clocks.jobs ≡ jobs_after lim (r.state t) p a
    now = ap (λ (u : State). u.clocks.jobs) (effect_of lim es r.state (course_of lim c es r) t p a took) ∙ jobs_after_lem lim (r.state t) p a

    turn_by : (x : Bool) → arrives_by a ≡ x → Collects (r.state t) p ⊎ (Collects (r.state t) p → ⊥) → Turn t
    turn_by true d (inl h) =
        let is : a ≡ Arrive = arrives_is a d in
        Clears (record { processor = p; arrival = record { accepted = took.accepted; processor = took.processor; action = took.action ∙ is }; collects = h })
        (now ∙ ap (jobs_after lim (r.state t) p) is ∙ (unfold jobs_after in arrival_clears (r.state t) p h))
    turn_by true d (inr n) = Leaves (λ h. n (this_one h).1) (now ∙ jobs_stay lim (r.state t) p a Adds-none (λ is. arrival_leaves (r.state t) p n))
    turn_by false d h =
        let none : a ≡ Arrive → ⊥ = λ is. false≢true (sym d ∙ ap arrives_by is ∙ (unfold arrives_by in refl)) in
        Leaves (λ h. none (this_one h).0) (now ∙ jobs_stay lim (r.state t) p a Adds-none (λ is. absurd (none is)))

  turn : (t : ℕ) → is_enqueue (event_at es t) ≡ false → Turn t
  turn t e = go (moment lim c es r t)
    where
      go : Moment lim es t (r.state t) (r.state (suc t)) → Turn t
      go (Refused d k) = Leaves (λ h. false≢true (sym d ∙ h.arrival.accepted)) (ap (λ (u : State). u.clocks.jobs) k)
      go (Taken p a took acc k) = turn_by t p a took (sym (took_enqueue es t p a took) ∙ e) (arrives_by a) refl (collects_or_not (r.state t) p)

  module _ (i : ℕ) (x : List ℕ) where
    -- what a clock that was x after the step at place i is at time t
    data Known (t : ℕ) (l : List ℕ) : Type 0 where
      Kept : ((k : ℕ) → i < k → k < t → Collecting k → ⊥) → l ≡ x → Known t l
      Zeros : (k : ℕ) → i < k → k < t → Collecting k → l ≡ cleared x → Known t l

    -- a step that leaves it
    leaves : (t : ℕ) (l l' : List ℕ) → (Collecting t → ⊥) → l' ≡ l → Known t l → Known (suc t) l'
    leaves t l l' none same (Kept before e) = Kept (λ k a b h. go k a b h (ℕ_discrete k t)) (same ∙ e)
      where
        go : (k : ℕ) → i < k → k < suc t → Collecting k → Dec (k ≡ t) → ⊥
        go k a b h (yes z) = none (rw z at h)
        go k a b h (no z) = before k a (omega (arith, b, z)) h
    leaves t l l' none same (Zeros k a b h e) = Zeros k a (omega (arith, b)) h (same ∙ e)

    -- a collecting round
    clears : (t : ℕ) (l l' : List ℕ) → i < t → Collecting t → l' ≡ cleared l → Known t l → Known (suc t) l'
    clears t l l' later h z (Kept before e) = Zeros t later (omega arith) h (z ∙ ap cleared e)
    clears t l l' later h z (Zeros k a b g e) = Zeros k a (omega (arith, b)) g (z ∙ ap cleared e ∙ cleared_twice x)

    abbrev clock_at : ℕ → ℕ → List ℕ
    clock_at t k = get_or (r.state t).clocks.jobs k []

    -- what is known of the place of the job that the step at place i added
    stays : is_enqueue (event_at es i) ≡ true → Stays lim.jobs (counted is_enqueue es) (λ t. is_enqueue (event_at es t)) (λ t k. i < t → k ≡ ring lim.jobs (counted is_enqueue es i) → Known t (clock_at t k))
    stays here =
        record {
          elsewhere = λ t k e other h l z. added t k e other h z (ℕ_discrete t i) l;
          otherwise = λ t k e h l z. passed t k e h z (ℕ_discrete t i) l (turn t e);
        }
      where
        added : (t k : ℕ) → is_enqueue (event_at es t) ≡ true → (k ≡ ring lim.jobs (counted is_enqueue es t) → ⊥) → (i < t → k ≡ ring lim.jobs (counted is_enqueue es i) → Known t (clock_at t k))
            → k ≡ ring lim.jobs (counted is_enqueue es i) → Dec (t ≡ i) → i < suc t → Known (suc t) (clock_at (suc t) k)
        added t k e other h z (yes d) l = absurd (other (z ∙ ap (λ (y : ℕ). ring lim.jobs (counted is_enqueue es y)) (sym d)))
        added t k e other h z (no d) l =
            let took = enqueue_of es t e in
            leaves t (clock_at t k) (clock_at (suc t) k) (λ g. not_both (sym took.action ∙ g.arrival.action))
            (ap (λ (u : State). get_or u.clocks.jobs k []) (effect_of lim es r.state (course_of lim c es r) t (event_at es t).step.processor (Enqueue (event_at es t).step.value) took)
            ∙ ap (λ (y : List (List ℕ)). get_or y k []) (jobs_after_lem lim (r.state t) (event_at es t).step.processor (Enqueue (event_at es t).step.value))
            ∙ (unfold jobs_after in get_put_other [] (r.state t).clocks.jobs (free_place lim (r.state t)) k (clock (closed (r.state t) (event_at es t).step.processor) (event_at es t).step.processor)
            (λ y. other (y ∙ free_is lim c es r t (event_at es t).step.processor (event_at es t).step.value took))))
            (h (omega (arith, l, d)) z)
          where
            not_both : {v : ℕ} → Enqueue v ≡ Arrive → ⊥
            not_both e = let z : ◌≡◌ {A = ℕ} 0 1 = cc in omega arith

        passed : (t k : ℕ) → is_enqueue (event_at es t) ≡ false → (i < t → k ≡ ring lim.jobs (counted is_enqueue es i) → Known t (clock_at t k))
            → k ≡ ring lim.jobs (counted is_enqueue es i) → Dec (t ≡ i) → i < suc t → Turn t → Known (suc t) (clock_at (suc t) k)
        passed t k e h z (yes d) l u = absurd (false≢true (sym e ∙ ap (λ (y : ℕ). is_enqueue (event_at es y)) d ∙ here))
        passed t k e h z (no d) l (Clears g y) =
            clears t (clock_at t k) (clock_at (suc t) k) (omega (arith, l, d)) g (ap (λ (q : List (List ℕ)). get_or q k []) y ∙ (unfold cleared in get_map cleared [] (r.state t).clocks.jobs k)) (h (omega (arith, l, d)) z)
        passed t k e h z (no d) l (Leaves n y) = leaves t (clock_at t k) (clock_at (suc t) k) n (ap (λ (q : List (List ℕ)). get_or q k []) y) (h (omega (arith, l, d)) z)

  -- at a dequeue that returns the job
  module _ (i p v j q : ℕ) (ret : Returns es i p v j q) where
    abbrev place : ℕ
    place = ring lim.jobs (counted is_enqueue es i)

    here : is_enqueue (event_at es i) ≡ true
    here = took_enqueue es i p (Enqueue v) ret.enqueue ∙ (unfold adds_job in refl)

    -- the enqueue puts its processor's clock at the place
    put_there : get_or (r.state (suc i)).clocks.jobs place [] ≡ clock (r.state (suc i)) p
    unfolding effect jobs_after
    put_there = ap (λ (u : State). get_or u.clocks.jobs place []) left ∙ there ∙ sym (ap (λ (u : State). clock u p) left ∙ enqueue_leaves lim (r.state i) p v p)
      where
        left : r.state (suc i) ≡ enqueue lim (r.state i) p v
        left = effect_of lim es r.state (course_of lim c es r) i p (Enqueue v) ret.enqueue

        free : free_place lim (r.state i) ≡ place
        free = free_is lim c es r i p v ret.enqueue

        there : get_or (enqueue lim (r.state i) p v).clocks.jobs place [] ≡ clock (closed (r.state i) p) p
        there =
            ap (λ (l : List (List ℕ)). get_or l place []) (jobs_after_lem lim (r.state i) p (Enqueue v))
            ∙ ap (λ (k : ℕ). get_or (put [] (r.state i).clocks.jobs k (clock (closed (r.state i) p) p)) place []) free
            ∙ get_put_same [] (r.state i).clocks.jobs place (clock (closed (r.state i) p) p)

    -- and there it is until the dequeue, or zeros
    known_then : Known i (clock (r.state (suc i)) p) j (get_or (r.state j).clocks.jobs place [])
    known_then =
        keeps_its_place lim.jobs (counted is_enqueue es) (counted is_dequeue es) (λ t. is_enqueue (event_at es t)) (queue lim c es r (omega (arith, finds_room lim c es r i p v ret.enqueue)))
        (λ t k. i < t → k ≡ place → Known i (clock (r.state (suc i)) p) t (get_or (r.state t).clocks.jobs k [])) (stays i (clock (r.state (suc i)) p) here) i here
        (λ l z. Kept (λ k a b h. omega (arith, a, b)) put_there) j ret.waited (omega (arith, ret.same)) ret.waited refl

    -- which is what it learns
    learns : (l : List ℕ) → get_or (r.state j).clocks.jobs place [] ≡ l → clock (r.state (suc j)) q ≡ joined (clock (closed (r.state j) q) q) l
    unfolding effect
    learns l e =
        ap (λ (u : State). clock u q) (effect_of lim es r.state (course_of lim c es r) j q Dequeue ret.dequeue)
        ∙ dequeue_learns lim (r.state j) q
        ∙ ap (λ (k : ℕ). joined (clock (closed (r.state j) q) q) (get_or (r.state j).clocks.jobs k [])) ((counting lim c es r j).first ∙ ap (ring lim.jobs) (sym ret.same))
        ∙ ap (joined (clock (closed (r.state j) q) q)) e

    -- the enqueuer's clock, where no round has collected since
    pub learns_kept : ((k : ℕ) → i < k → k < j → Collecting k → ⊥) → clock (r.state (suc j)) q ≡ joined (clock (closed (r.state j) q) q) (clock (r.state (suc i)) p)
    learns_kept none = go known_then
      where
        go : Known i (clock (r.state (suc i)) p) j (get_or (r.state j).clocks.jobs place []) → clock (r.state (suc j)) q ≡ joined (clock (closed (r.state j) q) q) (clock (r.state (suc i)) p)
        go (Kept n e) = learns (clock (r.state (suc i)) p) e
        go (Zeros k a b h e) = absurd (none k a b h)

    -- zeros, where one has
    pub learns_zeros : (k : ℕ) → i < k → k < j → Collecting k → clock (r.state (suc j)) q ≡ joined (clock (closed (r.state j) q) q) (cleared (clock (r.state (suc i)) p))
    learns_zeros k a b h = go known_then
      where
        go : Known i (clock (r.state (suc i)) p) j (get_or (r.state j).clocks.jobs place []) → clock (r.state (suc j)) q ≡ joined (clock (closed (r.state j) q) q) (cleared (clock (r.state (suc i)) p))
        go (Kept n e) = absurd (n k a b h)
        go (Zeros m c d g e) = learns (cleared (clock (r.state (suc i)) p)) e
