-- What a run shows of an edge of happens-before-1: demand 3 judges one of its reads, and every derivation that a write is before the read has that edge in it,
-- which is computed. Rests on Edges and JudgedRuns. Assumes nothing.
use Prim.Native.Nat.{ℕ}
use mathlib.Core.Path.{◌≡◌, refl, sym, ◌∙◌, subst}
use mathlib.Core.Bool.{Bool, true, not, ◌||◌}
use mathlib.Core.List.{List, [], ◌∷◌}
use lib.Dec.{eqb}
use borrow.Author.Tests.{eq-eqb, not-true}
use Rattle.lists.specs.Tables.{every}
use Rattle.lists.proofs.Tables.{every_at}
use Rattle.lists.proofs.Conditions.{conjoined, conjoined_at}
use Rattle.rules.specs.State.{mainframe, Counts}
use Rattle.rules.specs.InOrder.{counts_in_range}
use Rattle.rules.specs.Opening.{opening_refusal, opened}
use Rattle.rules.specs.Refusals.{Step, Read, Write}
use Rattle.rules.specs.Runs.{answers, answers_in_order}
use Rattle.rules.specs.Order.{Event, events, event_at, Took, Before}
use Rattle.rules.specs.Demand.{is_write_to, last_written, EarlierWrite, Synchronized, Judged, value_at}
use Rattle.rules.proofs.order.ActionKinds.{writes_to, took_write}
use Rattle.rules.proofs.order.Edges.{Edge, ByProgram, ByLock, ByRound, ByGrant, ByJob, ByChain, just, has, joins, closed_under, only_by, only_chained}
use Rattle.rules.proofs.runs.JudgedRuns.{opening_with, in_range_accepted, events_from, events_computed, read_judged}

-- ---- what a run shows of an edge

-- every derivation that an earlier write to w is before place j has the edge e in it
pub record OnlyBy (e : Edge) (n : ℕ) (es : List Event) (w j : ℕ) : Type 0 where
  pub derived : (i p u : ℕ) → EarlierWrite es w j i p u → (x : Before n es i j) → has (just e) x ≡ true

-- what is shown of the steps of a run: processor p's read of w at place j, and the value field v of the last write to w before it
pub record Shown (e : Edge) (n : ℕ) (es : List Event) (w j p v : ℕ) : Type 0 where
  -- the read is accepted
  pub read : Took es j p (Read w)
  -- the premise of demand 3 is met
  pub premise : Synchronized n es w j
  -- and it is so by this edge alone
  pub only : OnlyBy e n es w j
  pub last : last_written es w j ≡ v

-- a run from an accepted opening in which the premise holds by the edge e alone, and demand 3 gives the value: it is not 0
pub record Pinned (e : Edge) (c : Counts) (ts : List Step) (w j p v : ℕ) : Type 0 where
  pub opening : opening_refusal mainframe (opening_with c) ≡ 0
  pub shown : Shown e c.processors (events_from c ts) w j p v
  pub value : value_at (answers mainframe (opened mainframe c) ts) j ≡ v
  pub not_zero : v ≡ 0 → ⊥
  -- demand 3 leaves no other value
  pub no_other : (x : ℕ) → Judged c.processors (events_from c ts) w j x → x ≡ v

-- what the steps show, demand 3 judges
pub pinned : {e : Edge} {c : Counts} {ts : List Step} {w j p v : ℕ} (es : List Event) → counts_in_range mainframe c ≡ true
    → events ts (answers_in_order mainframe (opened mainframe c) ts) ≡ es → Shown e c.processors es w j p v → (v ≡ 0 → ⊥) → Pinned e c ts w j p v
pinned {e} {c} {ts} {w} {j} {p} {v} es in-range computed shown not_zero =
    let here : Shown e c.processors (events_from c ts) w j p v =
    subst (λ (l : List Event). Shown e c.processors l w j p v) (sym (events_computed c in-range ts es computed)) shown in
    record {
      opening = in_range_accepted c in-range;
      shown = here;
      value = read_judged c in-range ts j p w here.read here.premise ∙ here.last;
      not_zero = not_zero;
      no_other = λ x judged. judged.last here.premise ∙ here.last;
    }

-- ---- by this edge alone, computed

-- a test that every write to w before place j passes
unfoldable pub every_write : List Event → ℕ → ℕ → (ℕ → Bool) → Bool
unfolding every
every_write es w j test = every j (λ i. not (is_write_to (event_at es i) w) || test i)

write_passes : (es : List Event) (w j : ℕ) (test : ℕ → Bool) → every_write es w j test ≡ true → (i p u : ℕ) → EarlierWrite es w j i p u → test i ≡ true
unfolding every_write writes_to
write_passes es w j test all i p u h =
    let is_write : is_write_to (event_at es i) w ≡ true = took_write es i w p (Write w u) h.wrote ∙ eq-eqb w w refl in
    let here : (not (is_write_to (event_at es i) w) || test i) ≡ true = every_at j (λ i. not (is_write_to (event_at es i) w) || test i) i all h.earlier in
    rw is_write at here

module _ (n : ℕ) (es : List Event) (w j : ℕ) where
  cut_off_tests : Edge → (ℕ → ℕ → Bool) → ℕ → List Bool
  cut_off_tests e inside i = closed_under (just e) n es (inside i) ∷ inside i i ∷ not (inside i j) ∷ []

  -- without the edge e a write leads to no place outside a set that it is in, and the read is outside
  unfoldable pub cut_off : Edge → (ℕ → ℕ → Bool) → ℕ → Bool
  unfolding cut_off_tests closed_under just conjoined
  cut_off e inside i = conjoined (cut_off_tests e inside i)

  pub only_cut_off : (e : Edge) (inside : ℕ → ℕ → Bool) → every_write es w j (cut_off e inside) ≡ true → OnlyBy e n es w j
  unfolding cut_off
  only_cut_off e inside all = record { derived = λ i p u h. go i (write_passes es w j (cut_off e inside) all i p u h) }
    where
      go : (i : ℕ) → conjoined (cut_off_tests e inside i) ≡ true → (x : Before n es i j) → has (just e) x ≡ true
      go i h =
          let tests = cut_off_tests e inside i in
          only_by n es i j e (inside i) (conjoined_at tests 0 h) (conjoined_at tests 1 h) (not-true (inside i j) (conjoined_at tests 2 h))

  unjoined_tests : ℕ → List Bool
  unjoined_tests i = not (joins ByProgram n es i j) ∷ not (joins ByLock n es i j) ∷ not (joins ByRound n es i j) ∷ not (joins ByGrant n es i j) ∷ not (joins ByJob n es i j) ∷ []

  -- no edge by itself joins a write to the read
  unfoldable pub unjoined : ℕ → Bool
  unfolding unjoined_tests joins conjoined
  unjoined i = conjoined (unjoined_tests i)

  pub only_by_chaining : every_write es w j unjoined ≡ true → OnlyBy ByChain n es w j
  unfolding unjoined
  only_by_chaining all = record { derived = λ i p u h. go i (write_passes es w j unjoined all i p u h) }
    where
      go : (i : ℕ) → conjoined (unjoined_tests i) ≡ true → (x : Before n es i j) → has (just ByChain) x ≡ true
      go i h =
          let at = conjoined_at (unjoined_tests i) in
          only_chained n es i j (not-true (joins ByProgram n es i j) (at 0 h)) (not-true (joins ByLock n es i j) (at 1 h)) (not-true (joins ByRound n es i j) (at 2 h)) (not-true (joins ByGrant n es i j) (at 3 h)) (not-true (joins ByJob n es i j) (at 4 h))

-- a place by itself, and the places of its processor: where a write can lead without the edge of a run
abbrev pub itself : ℕ → ℕ → Bool
itself i k = eqb i k

abbrev pub own_steps : List Event → ℕ → ℕ → Bool
own_steps es i k = eqb (event_at es i).step.processor (event_at es k).step.processor
