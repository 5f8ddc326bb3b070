-- What a list of records does to one word of a page, the word at offset o of page g. Rests on the definitions alone. Assumes nothing.
use Prim.Native.Nat.{ℕ, ◌<◌}
use mathlib.Core.Path.{◌≡◌, refl}
use mathlib.Core.Bool.{Bool, true, false, cond, false≢true}
use mathlib.Core.Option
use mathlib.Core.Option.{Option, none, some}
use mathlib.Core.List.{List, [], ◌∷◌, ◌++◌}
use lib.ListN.{length, get_or}
use lib.Dec.{eqb}
use borrow.Author.Tests.{eqb-true}
use Rattle.diff.specs.inner.Settings.{setting_at}
use Rattle.rules.specs.State.{Record}
use Rattle.rules.specs.Fetch.{is_set}

abbrev pub no_record : Record
no_record = record { processor = 0; interval = 0; page = 0; diff = [] }

-- the record at a place of a list
abbrev pub nth : List Record → ℕ → Record
nth l i = get_or l i no_record

module _ (words g o : ℕ) where
  -- what a record sets the word to, if it sets it
  unfoldable pub sets_word : Record → Option ℕ
  sets_word r = cond (eqb r.page g) (setting_at words r.diff o) none

  -- a record that sets the word
  unfoldable pub is_hit : Record → Bool
  is_hit r = is_set (sets_word r)

  -- the word after the records are applied in their order
  unfoldable pub word_after : List Record → ℕ → ℕ
  word_after [] x = x
  word_after (r ∷ l) x = word_after l (Option.get_or (sets_word r) x)

  -- at place i of the list stands a record that sets the word
  pub record HitAt (l : List Record) (i : ℕ) : Type 0 where
    pub within : i < length l
    pub hit : is_hit (nth l i) ≡ true

  -- the records that set the word stand in strictly rising order of a key
  pub record Rising (key : Record → ℕ) (l : List Record) : Type 0 where
    pub rises : (i j : ℕ) → HitAt l i → HitAt l j → i < j → key (nth l i) < key (nth l j)

  -- among the records that set the word, one of larger key than a fresh one is fresh
  pub record FreshUp (key : Record → ℕ) (fresh : Record → Bool) (l : List Record) : Type 0 where
    pub up : (i j : ℕ) → HitAt l i → HitAt l j → key (nth l i) < key (nth l j) → fresh (nth l i) ≡ true → fresh (nth l j) ≡ true

  -- records applied one list after the other
  pub word_after_append : (l k : List Record) (x : ℕ) → word_after (l ++ k) x ≡ word_after k (word_after l x)
  unfolding word_after
  word_after_append [] k x = refl
  word_after_append (r ∷ l) k x = word_after_append l k (Option.get_or (sets_word r) x)

  -- a record that sets the word is of its page
  pub hit_page : (r : Record) → is_hit r ≡ true → r.page ≡ g
  unfolding is_hit sets_word is_set
  hit_page r e = go (eqb r.page g) refl e
    where
      go : (b : Bool) → eqb r.page g ≡ b → is_set (cond b (setting_at words r.diff o) none) ≡ true → r.page ≡ g
      go true p q = eqb-true r.page g p
      go false p q = absurd (false≢true q)
