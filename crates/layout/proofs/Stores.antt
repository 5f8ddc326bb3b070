-- Laws of parts of a list, of stores and of runs of stores, and of tests of places. Assumes nothing.
use Prim.Native.Nat.{ℕ, zero, suc, ◌+◌, ◌-◌, ◌≤◌, ◌<◌}
use native.Mathlib.Omega.{arith}
use native.Mathlib.Decide.{ℕ_discrete}
use mathlib.Core.Path.{◌≡◌, refl, sym, ap, ◌∙◌}
use mathlib.Core.Bool.{cond, ◌&&◌}
use mathlib.Core.List.{List, [], ◌∷◌, ◌++◌, append_assoc}
use lib.ListN.{length, get_or, take, drop, set, get_or-append}
use lib.Seq.{length-take-le, take-nil, drop-drop, get_or-set_same, get_or-set_other, take-set-le, drop-set-lt, drop-set-add, get_or-drop, take-take, take_at, drop_at, sets, sets-eq}
use lib.Dec.{eqb}
use borrow.Author.Tests.{eq-eqb, ne_eqb}

-- ---- parts of parts

module _ {A : Type 0} where
  -- the rest of a front is a front of the rest
  pub drop_take : (k n : ℕ) (l : List A) → k ≤ n → drop k (take n l) ≡ take (n - k) (drop k l)
  drop_take zero n l h =
      let e : n ≡ n - 0 = omega arith in
      ap (λ (j : ℕ). take j l) e
  drop_take (suc k) zero l h = absurd (omega arith)
  drop_take (suc k) (suc n) [] h = sym (take-nil (suc n - suc k))
  drop_take (suc k) (suc n) (x ∷ l) h =
      let e : n - k ≡ suc n - suc k = omega arith in
      drop_take k n l (omega arith) ∙ ap (λ (j : ℕ). take j (drop k l)) e

  -- a part that ends within a front is a part of the whole
  pub part_of_part : (n k count : ℕ) (l : List A) → k + count ≤ n → take count (drop k (take n l)) ≡ take count (drop k l)
  part_of_part n k count l h =
      ap (λ (r : List A). take count r) (drop_take k n l (omega arith)) ∙ take-take count (n - k) (drop k l) (omega arith)

-- ---- a run of stores leaves alone what lies before it and behind it

module _ {A : Type 0} where
  -- the rest behind the run
  pub drop_sets_behind : (v l : List A) (i m : ℕ) → i + length v ≤ m → drop m (sets l i v) ≡ drop m l
  drop_sets_behind [] l i m h = refl
  drop_sets_behind (a ∷ v) l i m h =
      let k : suc i + length v ≤ m = omega (arith, h) in
      drop_sets_behind v (set l i a) (suc i) m k ∙ drop-set-lt m l i a (omega (arith, h))

  part_set_before : (n m : ℕ) (l : List A) (i : ℕ) (a : A) → m + n ≤ i → take n (drop m (set l i a)) ≡ take n (drop m l)
  part_set_before n m l i a h =
      ap (λ (k : ℕ). take n (drop m (set l k a))) e ∙ ap (λ (r : List A). take n r) (drop-set-add m l (i - m) a)
      ∙ take-set-le n (drop m l) (i - m) a (omega arith)
    where
      e : i ≡ m + (i - m)
      e = omega arith

  -- a part before the run
  pub part_sets_before : (v l : List A) (i n m : ℕ) → m + n ≤ i → take n (drop m (sets l i v)) ≡ take n (drop m l)
  part_sets_before [] l i n m h = refl
  part_sets_before (a ∷ v) l i n m h =
      part_sets_before v (set l i a) (suc i) n m (omega (arith, h)) ∙ part_set_before n m l i a h

  -- what was stored, and what follows it
  pub drop_sets_same : (v l : List A) (i : ℕ) → i + length v ≤ length l → drop i (sets l i v) ≡ v ++ drop (i + length v) l
  drop_sets_same v l i h =
      ap (λ (r : List A). drop i r) (sets-eq v l i h ∙ append_assoc (take i l) v (drop (i + length v) l))
      ∙ drop_at (take i l) (v ++ drop (i + length v) l) i (length-take-le i l (omega arith))

  -- the part that the run stored
  pub part_sets_same : (v l : List A) (i n : ℕ) → length v ≡ n → i + n ≤ length l → take n (drop i (sets l i v)) ≡ v
  part_sets_same v l i n e h =
      ap (λ (r : List A). take n r) (drop_sets_same v l i (omega arith)) ∙ take_at v (drop (i + length v) l) n e

  -- a part that was lent, put back
  pub put_back : (l part : List A) (from n : ℕ) → length part ≡ n → from + n ≤ length l → take from l ++ (part ++ drop n (drop from l)) ≡ sets l from part
  put_back l part from n e h =
      ap (λ (q : List A). take from l ++ (part ++ q)) (drop-drop n from l)
      ∙ sym (append_assoc (take from l) part (drop (from + n) l))
      ∙ ap (λ (j : ℕ). take from l ++ part ++ drop (from + j) l) (sym e)
      ∙ sym (sets-eq part l from (omega (arith, e, h)))

  -- an element before the run
  pub get_sets_before : (v l : List A) (i j : ℕ) (d : A) → j < i → get_or (sets l i v) j d ≡ get_or l j d
  get_sets_before [] l i j d h = refl
  get_sets_before (a ∷ v) l i j d h =
      get_sets_before v (set l i a) (suc i) j d (omega (arith, h)) ∙ get_or-set_other l i j a d (λ e. omega (arith, e, h))

  -- an element behind the run
  pub get_sets_behind : (v l : List A) (i j : ℕ) (d : A) → i + length v ≤ j → get_or (sets l i v) j d ≡ get_or l j d
  get_sets_behind [] l i j d h = refl
  get_sets_behind (a ∷ v) l i j d h =
      let k : suc i + length v ≤ j = omega (arith, h) in
      get_sets_behind v (set l i a) (suc i) j d k ∙ get_or-set_other l i j a d (λ e. omega (arith, e, h))

  -- an element that the run stored
  pub get_sets_same : (v l : List A) (i j : ℕ) (d : A) → j < length v → i + length v ≤ length l → get_or (sets l i v) (i + j) d ≡ get_or v j d
  get_sets_same v l i j d h k =
      sym (get_or-drop i (sets l i v) j d) ∙ ap (λ (r : List A). get_or r j d) (drop_sets_same v l i k) ∙ get_or-append v (drop (i + length v) l) d j h

-- ---- one store

-- an element is the new one at its place, the old one elsewhere
pub get_set : (m : List ℕ) (k j x : ℕ) → k < length m → get_or (set m k x) j 0 ≡ cond (eqb j k) x (get_or m j 0)
get_set m k j x h = go (ℕ_discrete j k)
  where
    go : Dec (j ≡ k) → get_or (set m k x) j 0 ≡ cond (eqb j k) x (get_or m j 0)
    go (yes e) = rw (eq-eqb j k e) (rw e (get_or-set_same m k x 0 h))
    go (no e) = rw (ne_eqb j k e) (get_or-set_other m k j x 0 e)

-- ---- tests of places

-- two tests that ask the same
pub eqb_iff : (a b i j : ℕ) → (a ≡ b → i ≡ j) → (i ≡ j → a ≡ b) → eqb a b ≡ eqb i j
eqb_iff a b i j there back = go (ℕ_discrete i j)
  where
    go : Dec (i ≡ j) → eqb a b ≡ eqb i j
    go (yes e) = eq-eqb a b (back e) ∙ sym (eq-eqb i j e)
    go (no e) = ne_eqb a b (λ z. e (there z)) ∙ sym (ne_eqb i j e)

-- a test that asks for a pair
pub eqb_pair : (a b q p j g : ℕ) → (a ≡ b → (q ≡ p) × (j ≡ g)) → (q ≡ p → j ≡ g → a ≡ b) → eqb a b ≡ (eqb q p && eqb j g)
eqb_pair a b q p j g there back = go (ℕ_discrete q p) (ℕ_discrete j g)
  where
    go : Dec (q ≡ p) → Dec (j ≡ g) → eqb a b ≡ (eqb q p && eqb j g)
    go (yes e) (yes k) = eq-eqb a b (back e k) ∙ rw (eq-eqb q p e, eq-eqb j g k)
    go (yes e) (no k) = ne_eqb a b (λ z. k (there z).1) ∙ rw (eq-eqb q p e, ne_eqb j g k)
    go (no e) k = ne_eqb a b (λ z. e (there z).0) ∙ rw (ne_eqb q p e)
