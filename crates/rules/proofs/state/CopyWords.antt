-- The words of a copy after records were applied to it, after one of them was stored and after the copy was replaced. Rests on Tables and
-- Selected. Assumes nothing.
use Prim.Native.Nat.{ℕ, suc, ◌<◌}
use native.Mathlib.Omega.{arith}
use native.Mathlib.Decide.{dec_lt, ℕ_discrete}
use mathlib.Core.Path.{◌≡◌, refl, sym, ap, ◌∙◌, subst}
use mathlib.Core.Bool.{Bool, true, false, cond}
use mathlib.Core.Option
use mathlib.Core.Option.{Option, none, some}
use mathlib.Core.List.{List, [], ◌∷◌}
use lib.ListN.{length, get_or, set, get_or-eq_default}
use lib.Seq.{get_or-set_same, get_or-set_other}
use lib.Dec.{eqb}
use Rattle.lists.proofs.Tables.{by_put_cell}
use Rattle.lists.proofs.Selected.{Each}
use Rattle.diff.specs.Format.{Below, setting}
use Rattle.diff.specs.Reading.{settings, applied}
use Rattle.diff.specs.inner.Settings.{setting_at}
use Rattle.diff.proofs.Overlay.{length_overlay}
use Rattle.diff.proofs.Theorems.{applied_word}
use Rattle.rules.specs.State.{Pages, copy_of, Record}
use Rattle.rules.specs.Fetch.{applied_all, with_copy}

-- ---- records applied

-- a page keeps its length when a diff is applied to it
pub length_applied : (w : ℕ) (bytes page : List ℕ) → length (applied w bytes page) ≡ length page
unfolding applied
length_applied w bytes page = length_overlay (settings w bytes) page

-- and when records are
pub length_applied_all : (w : ℕ) (rs : List Record) (page : List ℕ) → length (applied_all w rs page) ≡ length page
unfolding applied_all
length_applied_all w [] page = refl
length_applied_all w (r ∷ rs) page = length_applied_all w rs (applied w r.diff page) ∙ length_applied w r.diff page

-- a word of it has a property if it had it before and every value that a record sets it to has it
pub word_applied_all : (X : ℕ → Type 0) (w o : ℕ) (rs : List Record) (page : List ℕ) → o < length page
    → Each (λ r. (v : ℕ) → setting_at w r.diff o ≡ some v → X v) rs → X (get_or page o 0) → X (get_or (applied_all w rs page) o 0)
unfolding applied_all
word_applied_all X w o [] page l h x = x
word_applied_all X w o (r ∷ rs) page l h x =
    word_applied_all X w o rs (applied w r.diff page) (rw (length_applied w r.diff page) l) h.1
    (rw (applied_word w r.diff page o l) (go (setting_at w r.diff o) refl))
  where
    go : (a : Option ℕ) → setting_at w r.diff o ≡ a → X (Option.get_or a (get_or page o 0))
    go none e = x
    go (some v) e = h.0 v e

-- ---- one word, one copy

-- a setting of a word sets its new value
pub setting_new : (x y v : ℕ) → setting x y ≡ some v → y ≡ v
unfolding setting
setting_new x y v e = go (eqb x y) e
  where
    go : (b : Bool) → cond b none (some y) ≡ some v → y ≡ v
    go true e = let z : suc v ≡ v = ap (λ (a : Option ℕ). Option.get_or a (suc v)) e in absurd (omega (arith, z))
    go false e = ap (λ (a : Option ℕ). Option.get_or a y) e

-- a copy is the one that was put there, or the one that was there
pub with_copy_lem : (m : Pages) (p g : ℕ) (page : List ℕ) (q k : ℕ) (X : List ℕ → Type 0) → (q ≡ p → k ≡ g → X page) → X (copy_of m q k) → X (copy_of (with_copy m p g page) q k)
unfolding with_copy copy_of
with_copy_lem m p g page q k X new old = by_put_cell X [] m.copies p g q k page new old

-- a word is the one that was stored, or the one that was there
pub word_set : (X : ℕ → ℕ → Type 0) (page : List ℕ) (i v o : ℕ) → o < length page → X i v → X o (get_or page o 0) → X o (get_or (set page i v) o 0)
word_set X page i v o l new old = go (ℕ_discrete o i)
  where
    go : Dec (o ≡ i) → X o (get_or (set page i v) o 0)
    go (yes e) = rw e (subst (X i) (sym (get_or-set_same page i v 0 (omega (arith, e, l)))) new)
    go (no d) = subst (X o) (sym (get_or-set_other page i o v 0 d)) old

-- a page whose words are all below a limit
pub words_below : (limit w : ℕ) (page : List ℕ) → 0 < limit → length page ≡ w → ((i : ℕ) → i < w → get_or page i 0 < limit) → Below limit page
words_below limit w page positive long h = record { at = λ i. go i (dec_lt i w) }
  where
    go : (i : ℕ) → Dec (i < w) → get_or page i 0 < limit
    go i (yes l) = h i l
    go i (no d) = rw (get_or-eq_default page 0 {n = i} (omega (arith, long))) positive
