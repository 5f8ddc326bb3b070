-- A list up to the first element that passes a test, and lists that are the same up to there. Assumes nothing.
use Rattle.std.specs.Prelude.{◌≡◌, Bool, cond, List, [], ◌∷◌, length, take}

-- the elements before the first that passes a test; all of them if none does
unfoldable pub until : {A : Type 0} → (A → Bool) → List A → List A
until t [] = []
until t (x ∷ l) = cond (t x) [] (x ∷ until t l)

-- a newer list that begins with what an older one has before the first element that passes a test, and is the older one if none does
pub record SameUntil {A : Type 0} (t : A → Bool) (older newer : List A) : Type 0 where
  pub before : take (length (until t older)) newer ≡ until t older
  pub all : until t older ≡ older → newer ≡ older
