-- A step's kind and object, and the action that it asks for: one says the other. Rests on the definitions alone. Assumes nothing.
use Prim.Native.Nat.{ℕ, zero, suc, ◌≤◌}
use native.Mathlib.Omega.{arith}
use native.Mathlib.Decide.{ℕ_discrete}
use mathlib.Core.Path.{◌≡◌, refl, sym, ap, ◌∙◌}
use mathlib.Core.Bool.{Bool, true, false, ◌&&◌, ◌||◌, and-eq-true_iff, false≢true}
use mathlib.Core.Logic.{◌⊎◌, inl, inr}
use lib.Dec.{leb, eqb}
use borrow.Author.Tests.{ne_eqb, leb-true}
use Rattle.rules.specs.Refusals.{Step, Action, Read, Write, Acquire, Release, Arrive, Want, TallyAdd, TallyRead, Enqueue, Dequeue, Unknown, action_of, known_kind, step_of}

-- a known kind is 1 to 6 or 8 to 11
pub known_says : (k : ℕ) → known_kind k ≡ true → ((1 ≤ k) × (k ≤ 6)) ⊎ ((8 ≤ k) × (k ≤ 11))
unfolding known_kind
known_says k e = go (leb 1 k && leb k 6) (leb 8 k && leb k 11) refl refl e
  where
    go : (a b : Bool) → (leb 1 k && leb k 6) ≡ a → (leb 8 k && leb k 11) ≡ b → (a || b) ≡ true → ((1 ≤ k) × (k ≤ 6)) ⊎ ((8 ≤ k) × (k ≤ 11))
    go true b x y h = let both = (and-eq-true_iff (leb 1 k) (leb k 6)).0 x in inl (leb-true 1 k both.0, leb-true k 6 both.1)
    go false true x y h = let both = (and-eq-true_iff (leb 8 k) (leb k 11)).0 y in inr (leb-true 8 k both.0, leb-true k 11 both.1)
    go false false x y h = let f : ◌≡◌ {A = Bool} false true = h in absurd (false≢true f)

-- a claim about a known kind holds if it holds of each
pub by_kind : (claim : ℕ → Type 0) → claim 1 → claim 2 → claim 3 → claim 4 → claim 5 → claim 6 → claim 8 → claim 9 → claim 10 → claim 11 → (k : ℕ) → known_kind k ≡ true → claim k
by_kind claim a b c d e f g h m n k known = go (known_says k known)
  where
    first : (k : ℕ) → 1 ≤ k → k ≤ 6 → claim k
    first zero l m = absurd (omega arith)
    first (suc zero) l m = a
    first (suc (suc zero)) l m = b
    first (suc (suc (suc zero))) l m = c
    first (suc (suc (suc (suc zero)))) l m = d
    first (suc (suc (suc (suc (suc zero))))) l m = e
    first (suc (suc (suc (suc (suc (suc zero)))))) l m = f
    first (suc (suc (suc (suc (suc (suc (suc k))))))) l m = absurd (omega arith)

    later : (k : ℕ) → 8 ≤ k → k ≤ 11 → Dec (k ≡ 8) → Dec (k ≡ 9) → Dec (k ≡ 10) → claim k
    later k x y (yes z) v w = rw z g
    later k x y (no u) (yes z) w = rw z h
    later k x y (no u) (no v) (yes z) = rw z m
    later k x y (no u) (no v) (no w) = let z : k ≡ 11 = omega (arith, x, y, u, v, w) in rw z n

    go : ((1 ≤ k) × (k ≤ 6)) ⊎ ((8 ≤ k) × (k ≤ 11)) → claim k
    go (inl x) = first k x.0 x.1
    go (inr x) = later k x.0 x.1 (ℕ_discrete k 8) (ℕ_discrete k 9) (ℕ_discrete k 10)

-- the action of each kind
module _ (k p o v : ℕ) where
  pub kind_reads : k ≡ 1 → action_of (step_of k p o v) ≡ Read o
  unfolding action_of step_of
  kind_reads e = ap (λ (j : ℕ). action_of (step_of j p o v)) e

  pub kind_writes : k ≡ 2 → action_of (step_of k p o v) ≡ Write o v
  unfolding action_of step_of
  kind_writes e = ap (λ (j : ℕ). action_of (step_of j p o v)) e

  pub kind_acquires : k ≡ 3 → action_of (step_of k p o v) ≡ Acquire o
  unfolding action_of step_of
  kind_acquires e = ap (λ (j : ℕ). action_of (step_of j p o v)) e

  pub kind_releases : k ≡ 4 → action_of (step_of k p o v) ≡ Release o
  unfolding action_of step_of
  kind_releases e = ap (λ (j : ℕ). action_of (step_of j p o v)) e

  pub kind_arrives : k ≡ 5 → action_of (step_of k p o v) ≡ Arrive
  unfolding action_of step_of
  kind_arrives e = ap (λ (j : ℕ). action_of (step_of j p o v)) e

  pub kind_wants : k ≡ 6 → action_of (step_of k p o v) ≡ Want
  unfolding action_of step_of
  kind_wants e = ap (λ (j : ℕ). action_of (step_of j p o v)) e

  pub kind_adds : k ≡ 8 → action_of (step_of k p o v) ≡ TallyAdd o v
  unfolding action_of step_of
  kind_adds e = ap (λ (j : ℕ). action_of (step_of j p o v)) e

  pub kind_totals : k ≡ 9 → action_of (step_of k p o v) ≡ TallyRead o
  unfolding action_of step_of
  kind_totals e = ap (λ (j : ℕ). action_of (step_of j p o v)) e

  pub kind_enqueues : k ≡ 10 → action_of (step_of k p o v) ≡ Enqueue v
  unfolding action_of step_of
  kind_enqueues e = ap (λ (j : ℕ). action_of (step_of j p o v)) e

  pub kind_dequeues : k ≡ 11 → action_of (step_of k p o v) ≡ Dequeue
  unfolding action_of step_of
  kind_dequeues e = ap (λ (j : ℕ). action_of (step_of j p o v)) e

-- a kind that is not known is none of those that are
pub unknown_differs : (n : ℕ) → known_kind n ≡ true → (k : ℕ) → known_kind k ≡ false → eqb k n ≡ false
unknown_differs n known k unknown = ne_eqb k n (λ e. false≢true (sym unknown ∙ ap known_kind e ∙ known))

-- and asks for no action
unknown_action : (t : Step) → known_kind t.kind ≡ false → action_of t ≡ Unknown
unfolding action_of
unknown_action t u = rw (
  no 1 (unfold known_kind in refl),
  no 2 (unfold known_kind in refl),
  no 3 (unfold known_kind in refl),
  no 4 (unfold known_kind in refl),
  no 5 (unfold known_kind in refl),
  no 6 (unfold known_kind in refl),
  no 8 (unfold known_kind in refl),
  no 9 (unfold known_kind in refl),
  no 10 (unfold known_kind in refl),
  no 11 (unfold known_kind in refl),
)
  where
    no : (n : ℕ) → known_kind n ≡ true → eqb t.kind n ≡ false
    no n known = unknown_differs n known t.kind u

-- a claim about a kind and what it asks for holds of a step if it holds of each known kind with its action, and of every other with none
pub by_action : (claim : ℕ → Action → Type 0) (t : Step) → claim 1 (Read t.object) → claim 2 (Write t.object t.value) → claim 3 (Acquire t.object)
    → claim 4 (Release t.object) → claim 5 Arrive → claim 6 Want → claim 8 (TallyAdd t.object t.value) → claim 9 (TallyRead t.object) → claim 10 (Enqueue t.value)
    → claim 11 Dequeue → ((k : ℕ) → known_kind k ≡ false → claim k Unknown) → claim t.kind (action_of t)
by_action claim t a b c d e f g h i j other = go (known_kind t.kind) refl
  where
    of_kind : ℕ → Step
    of_kind k = record { kind = k; processor = t.processor; object = t.object; value = t.value }

    go : (known : Bool) → known_kind t.kind ≡ known → claim t.kind (action_of t)
    go true z = by_kind (λ k. claim k (action_of (of_kind k))) (unfold action_of in a) (unfold action_of in b) (unfold action_of in c) (unfold action_of in d) (unfold action_of in e) (unfold action_of in f) (unfold action_of in g) (unfold action_of in h) (unfold action_of in i) (unfold action_of in j) t.kind z
    go false z = rw (unknown_action t z) (other t.kind z)

-- the kind of an action; 0 for none
unfoldable pub kind_of : Action → ℕ
kind_of (Read w) = 1
kind_of (Write w v) = 2
kind_of (Acquire l) = 3
kind_of (Release l) = 4
kind_of Arrive = 5
kind_of Want = 6
kind_of (TallyAdd t v) = 8
kind_of (TallyRead t) = 9
kind_of (Enqueue t) = 10
kind_of Dequeue = 11
kind_of Unknown = 0

-- the object that an action has, or d where it has none
unfoldable pub object_in : ℕ → Action → ℕ
object_in d (Read w) = w
object_in d (Write w v) = w
object_in d (Acquire l) = l
object_in d (Release l) = l
object_in d Arrive = d
object_in d Want = d
object_in d (TallyAdd t v) = t
object_in d (TallyRead t) = t
object_in d (Enqueue t) = d
object_in d Dequeue = d
object_in d Unknown = d

module _ (t : Step) where
  -- the kind of a step is that of its action, where it has one
  pub kind_or_unknown : (t.kind ≡ kind_of (action_of t)) ⊎ (action_of t ≡ Unknown)
  unfolding kind_of
  kind_or_unknown =
      by_action (λ k a. (k ≡ kind_of a) ⊎ (a ≡ Unknown)) t (inl refl) (inl refl) (inl refl) (inl refl) (inl refl) (inl refl) (inl refl) (inl refl) (inl refl) (inl refl) (λ k u. inr refl)

  -- so is that of a step with a known action
  pub kind_of_lem : (a : Action) → action_of t ≡ a → (a ≡ Unknown → ⊥) → t.kind ≡ kind_of a
  kind_of_lem a e n = go kind_or_unknown
    where
      go : (t.kind ≡ kind_of (action_of t)) ⊎ (action_of t ≡ Unknown) → t.kind ≡ kind_of a
      go (inl k) = k ∙ ap kind_of e
      go (inr u) = absurd (n (sym e ∙ u))

  -- the object of a step is that of its action
  pub object_in_lem : object_in t.object (action_of t) ≡ t.object
  unfolding object_in
  object_in_lem = by_action (λ k a. object_in t.object a ≡ t.object) t refl refl refl refl refl refl refl refl refl refl (λ k u. refl)

  -- no known kind asks for an unknown action
  pub known_action : known_kind t.kind ≡ true → action_of t ≡ Unknown → ⊥
  unfolding kind_of
  known_action =
      by_action (λ k a. known_kind k ≡ true → a ≡ Unknown → ⊥) t (λ z e. apart 0 (ap kind_of e)) (λ z e. apart 1 (ap kind_of e)) (λ z e. apart 2 (ap kind_of e)) (λ z e. apart 3 (ap kind_of e))
      (λ z e. apart 4 (ap kind_of e)) (λ z e. apart 5 (ap kind_of e)) (λ z e. apart 7 (ap kind_of e)) (λ z e. apart 8 (ap kind_of e)) (λ z e. apart 9 (ap kind_of e)) (λ z e. apart 10 (ap kind_of e))
      (λ k u z. absurd (false≢true (sym u ∙ z)))
    where
      apart : (n : ℕ) → suc n ≡ 0 → ⊥
      apart n e = omega arith
