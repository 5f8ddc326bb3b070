-- Document 02, L5: a record each of whose words is set again by later records of its fetch is skipped. The copy is the one that applying all gives, races or
-- not; whether skipped records count among the later ones makes no difference. Rests on CopyWords. Assumes nothing.
use Prim.Native.Nat.{ℕ, zero, suc, ◌+◌, ◌≤◌, ◌<◌}
use native.Mathlib.Omega.{arith}
use mathlib.Core.Path.{◌≡◌, refl, sym, ap, ap₂, ◌∙◌}
use mathlib.Core.Bool.{Bool, true, false, cond, not, ◌&&◌, ◌||◌, false≢true}
use mathlib.Core.Logic.{◌↔◌}
use mathlib.Core.Option
use mathlib.Core.Option.{Option, none, some}
use mathlib.Core.List.{List, [], ◌∷◌}
use lib.ListN.{length, get_or}
use lib.Seq.{ext_get_or}
use Rattle.lists.specs.Tables.{every}
use Rattle.lists.proofs.Selected.{Each}
use Rattle.lists.proofs.Tables.{every_at, every_holds}
use Rattle.diff.specs.Format.{set_words}
use Rattle.diff.specs.Reading.{settings, words_set, applied}
use Rattle.diff.specs.inner.Settings.{setting_at}
use Rattle.diff.proofs.Theorems.{applied_word, words_with_a_setting}
use Rattle.rules.specs.State.{Record}
use Rattle.rules.specs.Fetch.{applied_all, is_set, any_sets, replaced, unreplaced, skipped}
use Rattle.rules.specs.Moved.{unreplaced_by, Skips}
use Rattle.rules.proofs.state.CopyWords.{length_applied, length_applied_all}

module _ (w : ℕ) where
  -- what a record sets the word at offset o to, if it sets it
  abbrev at : Record → ℕ → Option ℕ
  at r o = get_or (settings w r.diff) o none

  -- ---- one word

  -- the word at offset o after the records
  unfoldable word_once_laid : ℕ → List Record → ℕ → ℕ
  word_once_laid o [] x = x
  word_once_laid o (r ∷ rs) x = word_once_laid o rs (Option.get_or (at r o) x)

  word_on : (o : ℕ) (rs : List Record) (page : List ℕ) → o < length page → get_or (applied_all w rs page) o 0 ≡ word_once_laid o rs (get_or page o 0)
  unfolding applied_all word_once_laid setting_at
  word_on o [] page l = refl
  word_on o (r ∷ rs) page l = word_on o rs (applied w r.diff page) (rw (length_applied w r.diff page) l) ∙ ap (word_once_laid o rs) (applied_word w r.diff page o l)

  -- what stood there before does not matter where one of them sets it
  set_again : (o : ℕ) (rs : List Record) (x y : ℕ) → any_sets w o rs ≡ true → word_once_laid o rs x ≡ word_once_laid o rs y
  unfolding word_once_laid any_sets is_set
  set_again o [] x y e = absurd (let z : ◌≡◌ {A = ℕ} 0 1 = ap (λ (b : Bool). cond b 1 0) e in omega (arith, z))
  set_again o (r ∷ rs) x y e = go (at r o) e (set_again o rs x y)
    where
      go : (a : Option ℕ) → (is_set a || any_sets w o rs) ≡ true → (any_sets w o rs ≡ true → word_once_laid o rs x ≡ word_once_laid o rs y)
          → word_once_laid o rs (Option.get_or a x) ≡ word_once_laid o rs (Option.get_or a y)
      go none h k = k h
      go (some v) h k = refl

  replaced_at : (r : Record) (rs : List Record) (o : ℕ) → o < w → replaced w r rs ≡ true → (not (is_set (at r o)) || any_sets w o rs) ≡ true
  unfolding replaced
  replaced_at r rs o l e = every_at w (λ o. not (is_set (at r o)) || any_sets w o rs) o e l

  -- a skipped record leaves every word as the later ones leave it
  skipped_word : (r : Record) (rs : List Record) (o x : ℕ) → o < w → replaced w r rs ≡ true → word_once_laid o rs (Option.get_or (at r o) x) ≡ word_once_laid o rs x
  unfolding is_set
  skipped_word r rs o x l e = go (at r o) (replaced_at r rs o l e)
    where
      go : (a : Option ℕ) → (not (is_set a) || any_sets w o rs) ≡ true → word_once_laid o rs (Option.get_or a x) ≡ word_once_laid o rs x
      go none h = refl
      go (some v) h = set_again o rs v x h

  -- the records that are not skipped leave each word as all do
  unreplaced_word : (o : ℕ) (rs : List Record) (x : ℕ) → o < w → word_once_laid o (unreplaced w rs) x ≡ word_once_laid o rs x
  unfolding word_once_laid unreplaced
  unreplaced_word o [] x l = refl
  unreplaced_word o (r ∷ rs) x l = go (replaced w r rs) refl (λ y. unreplaced_word o rs y l)
    where
      go : (b : Bool) → replaced w r rs ≡ b → ((y : ℕ) → word_once_laid o (unreplaced w rs) y ≡ word_once_laid o rs y)
          → word_once_laid o (cond b (unreplaced w rs) (r ∷ unreplaced w rs)) x ≡ word_once_laid o rs (Option.get_or (at r o) x)
      go true e k = k x ∙ sym (skipped_word r rs o x l e)
      go false e k = k (Option.get_or (at r o) x)

  -- "The copy afterwards must equal the one that applying all would give, races or not"
  pub skipping_changes_nothing : (rs : List Record) (page : List ℕ) → length page ≡ w → applied_all w (unreplaced w rs) page ≡ applied_all w rs page
  skipping_changes_nothing rs page e =
      ext_get_or 0 (applied_all w (unreplaced w rs) page) (applied_all w rs page) (length_applied_all w (unreplaced w rs) page ∙ sym (length_applied_all w rs page))
      (λ o l.
      let h : o < length page = rw (length_applied_all w (unreplaced w rs) page) at l in
      word_on o (unreplaced w rs) page h ∙ unreplaced_word o rs (get_or page o 0) (omega (arith, e, h)) ∙ sym (word_on o rs page h))

  -- ---- skipped later records may be counted or not

  every_same : (n : ℕ) (t u : ℕ → Bool) → ((i : ℕ) → i < n → t i ≡ u i) → every n t ≡ every n u
  unfolding every
  every_same zero t u h = refl
  every_same (suc n) t u h = ap₂ ◌&&◌ (every_same n t u (λ i l. h i (omega (arith, l)))) (h n (omega arith))

  covered_set : (a b : Bool) → (not a || b) ≡ true → (a || b) ≡ b
  covered_set true true e = refl
  covered_set true false e = sym e
  covered_set false b e = refl

  -- the words that the records set are those that the ones not skipped set
  pub unreplaced_sets : (o : ℕ) (rs : List Record) → o < w → any_sets w o (unreplaced w rs) ≡ any_sets w o rs
  unfolding any_sets unreplaced
  unreplaced_sets o [] l = refl
  unreplaced_sets o (r ∷ rs) l = go (replaced w r rs) refl (unreplaced_sets o rs l)
    where
      go : (b : Bool) → replaced w r rs ≡ b → any_sets w o (unreplaced w rs) ≡ any_sets w o rs
          → any_sets w o (cond b (unreplaced w rs) (r ∷ unreplaced w rs)) ≡ (is_set (at r o) || any_sets w o rs)
      go true e k = k ∙ sym (covered_set (is_set (at r o)) (any_sets w o rs) (replaced_at r rs o l e))
      go false e k = ap (λ (b : Bool). is_set (at r o) || b) k

  replaced_same : (r : Record) (rs : List Record) → replaced w r (unreplaced w rs) ≡ replaced w r rs
  unfolding replaced
  replaced_same r rs =
      every_same w (λ o. not (is_set (at r o)) || any_sets w o (unreplaced w rs)) (λ o. not (is_set (at r o)) || any_sets w o rs)
      (λ o l. ap (λ (b : Bool). not (is_set (at r o)) || b) (unreplaced_sets o rs l))

  -- "set again by later records": whether skipped ones are counted among them or not
  readings_agree : (rs : List Record) → unreplaced_by w rs ≡ unreplaced w rs
  unfolding unreplaced_by unreplaced
  readings_agree [] = refl
  readings_agree (r ∷ rs) =
      ap (λ (l : List Record). cond (replaced w r l) l (r ∷ l)) (readings_agree rs)
      ∙ ap (λ (b : Bool). cond b (unreplaced w rs) (r ∷ unreplaced w rs)) (replaced_same r rs)

  -- ---- how many

  -- applied and skipped together are all, each once
  pub applied_and_skipped : (rs : List Record) → length (unreplaced w rs) + length (skipped w rs) ≡ length rs
  unfolding unreplaced skipped
  applied_and_skipped [] = refl
  applied_and_skipped (r ∷ rs) = go (replaced w r rs) (applied_and_skipped rs)
    where
      go : (b : Bool) → length (unreplaced w rs) + length (skipped w rs) ≡ length rs
          → length (cond b (unreplaced w rs) (r ∷ unreplaced w rs)) + length (cond b (r ∷ skipped w rs) (skipped w rs)) ≡ suc (length rs)
      go true e = omega (arith, e)
      go false e = omega (arith, e)

  -- ---- when a record is skipped

  -- exactly where each of its words is set again
  replaced_exactly : (r : Record) (rs : List Record) → replaced w r rs ≡ true ↔ ((o : ℕ) → o < w → is_set (at r o) ≡ true → any_sets w o rs ≡ true)
  unfolding replaced
  replaced_exactly r rs = (
    λ e o l set. rw set at (replaced_at r rs o l e),
    λ h. every_holds w (λ o. not (is_set (at r o)) || any_sets w o rs) (λ o l. go o (is_set (at r o)) refl (h o l)),
  )
    where
      go : (o : ℕ) (b : Bool) → is_set (at r o) ≡ b → (is_set (at r o) ≡ true → any_sets w o rs ≡ true) → (not b || any_sets w o rs) ≡ true
      go o true e h = h e
      go o false e h = refl

  -- where no word is set none is at a place
  none_set : (l : List (Option ℕ)) → length (set_words l) ≡ 0 → (o : ℕ) → is_set (get_or l o none) ≡ false
  unfolding set_words is_set
  none_set [] e o = refl
  none_set (none ∷ l) e zero = refl
  none_set (none ∷ l) e (suc o) = none_set l e o
  none_set (some v ∷ l) e o = absurd (omega (arith, e))

  -- a record with no words always
  no_words_skipped : (r : Record) (rs : List Record) → words_set r.diff ≡ 0 → replaced w r rs ≡ true
  no_words_skipped r rs e =
      (replaced_exactly r rs).1
      (λ o l set. absurd (false≢true (sym (none_set (settings w r.diff) (sym (words_with_a_setting w r.diff) ∙ e) o) ∙ set)))

  -- all of it
  pub skips : Skips w
  skips =
      record {
        exactly = replaced_exactly;
        no_words = no_words_skipped;
        readings_agree = readings_agree;
        all_of_them = applied_and_skipped;
        same_copy = skipping_changes_nothing;
      }

-- ---- those that are not skipped are some of the records

pub each_unreplaced : (P : Record → Type 0) (w : ℕ) (rs : List Record) → Each (λ q. P q) rs → Each (λ q. P q) (unreplaced w rs)
unfolding unreplaced
each_unreplaced P w [] h = h
each_unreplaced P w (r ∷ rs) h = go (replaced w r rs) (each_unreplaced P w rs h.1)
  where
    go : (b : Bool) → Each (λ q. P q) (unreplaced w rs) → Each (λ q. P q) (cond b (unreplaced w rs) (r ∷ unreplaced w rs))
    go true e = e
    go false e = (h.0, e)

pub unreplaced_few : (w : ℕ) (rs : List Record) → length (unreplaced w rs) ≤ length rs
unreplaced_few w rs = omega (arith, applied_and_skipped w rs)
