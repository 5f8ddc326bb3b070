-- One word after records that were selected by a test or sorted: only the records that set the word matter. Rests on Selected and
-- WordOfRecords. Assumes nothing.
use Prim.Native.Nat.{ℕ, zero, suc, ◌<◌}
use native.Mathlib.Omega.{arith}
use mathlib.Core.Path.{◌≡◌, refl, sym, ap, ◌∙◌}
use mathlib.Core.Bool.{Bool, true, false, cond, not, ◌&&◌, false≢true}
use mathlib.Core.Option.{Option, none, some, get_or}
use mathlib.Core.List.{List, [], ◌∷◌}
use Rattle.lists.specs.Tables.{select, insert_by, sort_by}
use Rattle.lists.proofs.Selected.{Each, each_select, each_sort}
use Rattle.rules.specs.State.{Record}
use Rattle.rules.specs.Fetch.{is_set}
use Rattle.rules.proofs.word.WordOfRecords.{nth, sets_word, is_hit, word_after, HitAt, Rising, FreshUp}

module _ (words g o : ℕ) where
  -- ---- what holds of every record of a list that sets the word

  abbrev pub EachHit : (Record → Type 0) → List Record → Type 0
  EachHit P l = Each (λ r. is_hit words g o r ≡ true → P r) l

  -- the same by places
  pub each_hit_at : (P : Record → Type 0) (l : List Record) → EachHit P l → (i : ℕ) → HitAt words g o l i → P (nth l i)
  each_hit_at P [] e i h = absurd (omega (arith, h.within))
  each_hit_at P (r ∷ l) e zero h = e.0 h.hit
  each_hit_at P (r ∷ l) e (suc i) h = each_hit_at P l e.1 i (record { within = omega (arith, h.within); hit = h.hit })

  hit_front : (r : Record) (l : List Record) → is_hit words g o r ≡ true → HitAt words g o (r ∷ l) 0
  hit_front r l e = record { within = omega arith; hit = e }

  hit_behind : (r : Record) (l : List Record) (i : ℕ) → HitAt words g o l i → HitAt words g o (r ∷ l) (suc i)
  hit_behind r l i h = record { within = omega (arith, h.within); hit = h.hit }

  pub each_hit_when : (P : Record → Type 0) (l : List Record) → ((i : ℕ) → HitAt words g o l i → P (nth l i)) → EachHit P l
  each_hit_when P [] h = tt
  each_hit_when P (r ∷ l) h = (λ e. h 0 (hit_front r l e), each_hit_when P l (λ i k. h (suc i) (hit_behind r l i k)))

  -- ---- rising keys, from the front on

  abbrev pub RisingOn : (Record → ℕ) → List Record → Type 0
  RisingOn key [] = Unit
  RisingOn key (r ∷ l) = (is_hit words g o r ≡ true → EachHit (λ q. key r < key q) l) × RisingOn key l

  pub rising_on : (key : Record → ℕ) (l : List Record) → Rising words g o key l → RisingOn key l
  rising_on key [] h = tt
  rising_on key (r ∷ l) h = (
    λ e. each_hit_when (λ q. key r < key q) l (λ i k. h.rises 0 (suc i) (hit_front r l e) (hit_behind r l i k) (omega arith)),
    rising_on key l (record { rises = λ i j a b c. h.rises (suc i) (suc j) (hit_behind r l i a) (hit_behind r l j b) (omega arith) }),
  )

  rising_places : (key : Record → ℕ) (l : List Record) → RisingOn key l → (i j : ℕ) → HitAt words g o l i → HitAt words g o l j → i < j → key (nth l i) < key (nth l j)
  rising_places key [] h i j a b c = absurd (omega (arith, a.within))
  rising_places key (r ∷ l) h i zero a b c = absurd (omega arith)
  rising_places key (r ∷ l) h zero (suc j) a b c = each_hit_at (λ q. key r < key q) l (h.0 a.hit) j (record { within = omega (arith, b.within); hit = b.hit })
  rising_places key (r ∷ l) h (suc i) (suc j) a b c =
      rising_places key l h.1 i j (record { within = omega (arith, a.within); hit = a.hit }) (record { within = omega (arith, b.within); hit = b.hit }) (omega arith)

  pub rising_when : (key : Record → ℕ) (l : List Record) → RisingOn key l → Rising words g o key l
  rising_when key l h = record { rises = rising_places key l h }

  rising_on_select : (key : Record → ℕ) (t : Record → Bool) (l : List Record) → RisingOn key l → RisingOn key (select t l)
  unfolding select
  rising_on_select key t [] h = tt
  rising_on_select key t (r ∷ l) h = go (t r) (rising_on_select key t l h.1)
    where
      go : (b : Bool) → RisingOn key (select t l) → RisingOn key (cond b (r ∷ select t l) (select t l))
      go true k = (λ e. each_select (λ q. is_hit words g o q ≡ true → key r < key q) (λ q. is_hit words g o q ≡ true → key r < key q) t l (λ q u v. v) (h.0 e), k)
      go false k = k

  -- a selection keeps rising keys
  pub rising_select : (key : Record → ℕ) (t : Record → Bool) (l : List Record) → Rising words g o key l → Rising words g o key (select t l)
  rising_select key t l h = rising_when key (select t l) (rising_on_select key t l (rising_on key l h))

  -- ---- sorted records

  no_hit_keeps : (r : Record) (x : ℕ) → is_hit words g o r ≡ false → get_or (sets_word words g o r) x ≡ x
  unfolding is_hit is_set
  no_hit_keeps r x e = go (sets_word words g o r) e
    where
      go : (s : Option ℕ) → is_set s ≡ false → get_or s x ≡ x
      go none e = refl
      go (some v) e = absurd (false≢true (sym e))

  -- two records of which one leaves the word alone may change places
  swap_records : (r q : Record) (x : ℕ) → (is_hit words g o r ≡ true → is_hit words g o q ≡ true → ⊥)
      → get_or (sets_word words g o r) (get_or (sets_word words g o q) x) ≡ get_or (sets_word words g o q) (get_or (sets_word words g o r) x)
  unfolding is_hit is_set
  swap_records r q x h = go (sets_word words g o r) (sets_word words g o q) h
    where
      go : (a b : Option ℕ) → (is_set a ≡ true → is_set b ≡ true → ⊥) → get_or a (get_or b x) ≡ get_or b (get_or a x)
      go none b h = refl
      go (some v) none h = refl
      go (some v) (some w) h = absurd (h refl refl)

  word_after_insert : (sooner : Record → Record → Bool) (key : Record → ℕ) → ((x y : Record) → key x < key y → sooner x y ≡ true)
      → (r : Record) (l : List Record) → (is_hit words g o r ≡ true → EachHit (λ q. key r < key q) l) → (x : ℕ)
      → word_after words g o (insert_by sooner r l) x ≡ word_after words g o l (get_or (sets_word words g o r) x)
  unfolding insert_by word_after
  word_after_insert sooner key first r [] h x = refl
  word_after_insert sooner key first r (q ∷ l) h x =
      go (sooner r q) refl (word_after_insert sooner key first r l (λ e. (h e).1) (get_or (sets_word words g o q) x))
    where
      go : (b : Bool) → sooner r q ≡ b
          → word_after words g o (insert_by sooner r l) (get_or (sets_word words g o q) x) ≡ word_after words g o l (get_or (sets_word words g o r) (get_or (sets_word words g o q) x))
          → word_after words g o (cond b (r ∷ q ∷ l) (q ∷ insert_by sooner r l)) x ≡ word_after words g o l (get_or (sets_word words g o q) (get_or (sets_word words g o r) x))
      go true e k = refl
      go false e k = k ∙ ap (word_after words g o l) (swap_records r q x (λ a b. false≢true (sym e ∙ first r q ((h a).0 b))))

  -- sorting by an order that rising keys agree with leaves the word as it is
  pub word_after_sort : (sooner : Record → Record → Bool) (key : Record → ℕ) → ((x y : Record) → key x < key y → sooner x y ≡ true)
      → (l : List Record) → Rising words g o key l → (x : ℕ) → word_after words g o (sort_by sooner l) x ≡ word_after words g o l x
  unfolding sort_by word_after
  word_after_sort sooner key first l h x = go l (rising_on key l h) x
    where
      go : (l : List Record) → RisingOn key l → (x : ℕ) → word_after words g o (sort_by sooner l) x ≡ word_after words g o l x
      go [] h x = refl
      go (r ∷ l) h x =
          word_after_insert sooner key first r (sort_by sooner l) (λ e. each_sort (λ q. is_hit words g o q ≡ true → key r < key q) sooner l (h.0 e)) x
          ∙ go l h.1 (get_or (sets_word words g o r) x)

  -- ---- selected records

  -- where a record leaves the word alone it does not matter whether it is selected
  select_no_hit : (r : Record) (b : Bool) (l : List Record) (x : ℕ) → is_hit words g o r ≡ false → word_after words g o (cond b (r ∷ l) l) x ≡ word_after words g o l x
  unfolding word_after
  select_no_hit r true l x e = ap (word_after words g o l) (no_hit_keeps r x e)
  select_no_hit r false l x e = refl

  select_one : (r : Record) (b : Bool) (l k : List Record) (x : ℕ) → ((y : ℕ) → word_after words g o l y ≡ word_after words g o k y)
      → word_after words g o (cond b (r ∷ l) l) x ≡ word_after words g o (cond b (r ∷ k) k) x
  unfolding word_after
  select_one r true l k x same = same (get_or (sets_word words g o r) x)
  select_one r false l k x same = same x

  -- tests that agree on the records that set the word select the same word
  pub word_after_select_same : (t u : Record → Bool) (l : List Record) → ((i : ℕ) → HitAt words g o l i → t (nth l i) ≡ u (nth l i))
      → (x : ℕ) → word_after words g o (select t l) x ≡ word_after words g o (select u l) x
  unfolding select
  word_after_select_same t u [] h x = refl
  word_after_select_same t u (r ∷ l) h x = go (is_hit words g o r) refl (word_after_select_same t u l (λ i k. h (suc i) (hit_behind r l i k)))
    where
      go : (b : Bool) → is_hit words g o r ≡ b → ((y : ℕ) → word_after words g o (select t l) y ≡ word_after words g o (select u l) y)
          → word_after words g o (cond (t r) (r ∷ select t l) (select t l)) x ≡ word_after words g o (cond (u r) (r ∷ select u l) (select u l)) x
      go false e same = select_no_hit r (t r) (select t l) x e ∙ same x ∙ sym (select_no_hit r (u r) (select u l) x e)
      go true e same = rw (h 0 (hit_front r l e)) (select_one r (u r) (select t l) (select u l) x same)

  -- a test that no record that sets the word passes selects nothing of it
  pub word_after_select_none : (t : Record → Bool) (l : List Record) → ((i : ℕ) → HitAt words g o l i → t (nth l i) ≡ false)
      → (x : ℕ) → word_after words g o (select t l) x ≡ x
  unfolding select word_after
  word_after_select_none t [] h x = refl
  word_after_select_none t (r ∷ l) h x = go (is_hit words g o r) refl (word_after_select_none t l (λ i k. h (suc i) (hit_behind r l i k)))
    where
      go : (b : Bool) → is_hit words g o r ≡ b → ((y : ℕ) → word_after words g o (select t l) y ≡ y) → word_after words g o (cond (t r) (r ∷ select t l) (select t l)) x ≡ x
      go false e same = select_no_hit r (t r) (select t l) x e ∙ same x
      go true e same = rw (h 0 (hit_front r l e)) (same x)

  -- ---- fresh records behind the others

  fresh_up_behind : (key : Record → ℕ) (fresh : Record → Bool) (r : Record) (l : List Record) → FreshUp words g o key fresh (r ∷ l) → FreshUp words g o key fresh l
  fresh_up_behind key fresh r l h = record { up = λ i j a b c. h.up (suc i) (suc j) (hit_behind r l i a) (hit_behind r l j b) c }

  rising_behind : (key : Record → ℕ) (r : Record) (l : List Record) → Rising words g o key (r ∷ l) → Rising words g o key l
  rising_behind key r l h = record { rises = λ i j a b c. h.rises (suc i) (suc j) (hit_behind r l i a) (hit_behind r l j b) (omega arith) }

  -- behind a fresh record that sets the word all that set it are fresh
  fresh_behind : (key : Record → ℕ) (fresh : Record → Bool) (r : Record) (l : List Record) → Rising words g o key (r ∷ l) → FreshUp words g o key fresh (r ∷ l)
      → is_hit words g o r ≡ true → fresh r ≡ true → (i : ℕ) → HitAt words g o (r ∷ l) i → fresh (nth (r ∷ l) i) ≡ true
  fresh_behind key fresh r l h f e k zero a = k
  fresh_behind key fresh r l h f e k (suc i) a = f.up 0 (suc i) (hit_front r l e) a (h.rises 0 (suc i) (hit_front r l e) a (omega arith)) k

  -- the fresh records but those of a smaller test, applied behind those that are not fresh, are all but those of the smaller test
  pub word_after_fresh : (key : Record → ℕ) (fresh fresh₂ pending : Record → Bool) (l : List Record) → Rising words g o key l → FreshUp words g o key fresh l
      → ((r : Record) → fresh₂ r ≡ true → fresh r ≡ true)
      → ((i : ℕ) → HitAt words g o l i → pending (nth l i) ≡ (fresh (nth l i) && not (fresh₂ (nth l i))))
      → (x : ℕ) → word_after words g o (select pending l) (word_after words g o (select (λ r. not (fresh r)) l) x) ≡ word_after words g o (select (λ r. not (fresh₂ r)) l) x
  unfolding select word_after
  word_after_fresh key fresh fresh₂ pending [] h f sub agree x = refl
  word_after_fresh key fresh fresh₂ pending (r ∷ l) h f sub agree x =
      go (is_hit words g o r) (fresh r) (fresh₂ r) refl refl refl
      (word_after_fresh key fresh fresh₂ pending l (rising_behind key r l h) (fresh_up_behind key fresh r l f) sub (λ i a. agree (suc i) (hit_behind r l i a)))
    where
      go : (a b c : Bool) → is_hit words g o r ≡ a → fresh r ≡ b → fresh₂ r ≡ c
          → ((y : ℕ) → word_after words g o (select pending l) (word_after words g o (select (λ q. not (fresh q)) l) y) ≡ word_after words g o (select (λ q. not (fresh₂ q)) l) y)
          → word_after words g o (select pending (r ∷ l)) (word_after words g o (select (λ q. not (fresh q)) (r ∷ l)) x) ≡ word_after words g o (select (λ q. not (fresh₂ q)) (r ∷ l)) x
      go false b c e p q rest =
          select_no_hit r (pending r) (select pending l) (word_after words g o (select (λ v. not (fresh v)) (r ∷ l)) x) e
          ∙ ap (word_after words g o (select pending l)) (select_no_hit r (not (fresh r)) (select (λ v. not (fresh v)) l) x e)
          ∙ rest x
          ∙ sym (select_no_hit r (not (fresh₂ r)) (select (λ v. not (fresh₂ v)) l) x e)
      go true false true e p q rest = absurd (false≢true (sym p ∙ sub r q))
      go true false false e p q rest = rw (agree 0 (hit_front r l e), p, q) (rest (get_or (sets_word words g o r) x))
      go true true c e p q rest =
          ap (word_after words g o (select pending (r ∷ l)))
          (word_after_select_none (λ v. not (fresh v)) (r ∷ l) (λ i a. ap not (fresh_behind key fresh r l h f e p i a)) x)
          ∙ word_after_select_same pending (λ v. not (fresh₂ v)) (r ∷ l)
          (λ i a. agree i a ∙ ap (λ (b : Bool). b && not (fresh₂ (nth (r ∷ l) i))) (fresh_behind key fresh r l h f e p i a)) x
