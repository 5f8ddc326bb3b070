-- Laws of lists that are the same up to the first element that passes a test, element by element. Assumes nothing.
use native.Mathlib.Omega.{arith}
use mathlib.Core.Path.{◌≡◌, refl, sym, ap, ◌∙◌}
use mathlib.Core.Bool.{Bool, true, false}
use mathlib.Core.List.{List, [], ◌∷◌}
use lib.ListN.{length, take}
use Rattle.lists.specs.Until.{until, SameUntil}

module _ {A : Type 0} (t : A → Bool) where
  -- ---- one element more

  pub until_passed : (x : A) (l : List A) → t x ≡ true → until t (x ∷ l) ≡ []
  unfolding until
  until_passed x l e = rw e refl

  pub until_more : (x : A) (l : List A) → t x ≡ false → until t (x ∷ l) ≡ x ∷ until t l
  unfolding until
  until_more x l e = rw e refl

  -- a first element that passes leaves nothing to be the same
  pub same_from_here : (x : A) (l newer : List A) → t x ≡ true → SameUntil t (x ∷ l) newer
  same_from_here x l newer e = let none = until_passed x l e in record { before = rw none refl; all = λ h. absurd (omega (arith, ap length (sym none ∙ h))) }

  -- one that does not is the first of both
  pub same_one_more : (x : A) (l newer : List A) → t x ≡ false → SameUntil t l newer → SameUntil t (x ∷ l) (x ∷ newer)
  same_one_more x l newer e h =
      let more = until_more x l e in
      record { before = rw more (ap (λ (k : List A). x ∷ k) h.before); all = λ k. ap (λ (m : List A). x ∷ m) (h.all (cc)) }

  -- ---- and taken away again

  -- where nothing passes there is nothing new
  pub same_none : (newer : List A) → SameUntil t [] newer → newer ≡ []
  unfolding until
  same_none newer h = h.all refl

  -- the newer list behind the same first element
  pub record Behind (x : A) (l newer : List A) : Type 0 where
    pub rest : List A
    pub are : newer ≡ x ∷ rest
    pub same : SameUntil t l rest

  pub same_behind : (x : A) (l newer : List A) → t x ≡ false → SameUntil t (x ∷ l) newer → Behind x l newer
  same_behind x l newer e h = go newer (rw (until_more x l e) at h.before) (λ k. h.all (until_more x l e ∙ ap (λ (m : List A). x ∷ m) k))
    where
      go : (newer : List A) → take (length (x ∷ until t l)) newer ≡ x ∷ until t l → (until t l ≡ l → newer ≡ x ∷ l) → Behind x l newer
      go [] before all = absurd (omega (arith, ap length before))
      go (y ∷ rest) before all = record { rest = rest; are = ap (λ (z : A). z ∷ rest) (cc); same = record { before = cc; all = λ k. let z = all k in cc } }

  -- ---- a list is the same as itself

  pub same_as_itself : (l : List A) → SameUntil t l l
  same_as_itself [] = record { before = unfold until in refl; all = λ h. refl }
  same_as_itself (x ∷ l) = go (t x) refl (same_as_itself l)
    where
      go : (b : Bool) → t x ≡ b → SameUntil t l l → SameUntil t (x ∷ l) (x ∷ l)
      go true e h = same_from_here x l (x ∷ l) e
      go false e h = same_one_more x l l e h
