-- What a selection of records does to one word, by what the test says of the records that set it. Rests on SortedRecords. Assumes nothing.
use Prim.Native.Nat.{ℕ, ◌+◌, ◌-◌, ◌≤◌, ◌<◌}
use native.Mathlib.Omega.{arith}
use mathlib.Core.Path.{◌≡◌, refl, sym, ap, ◌∙◌}
use mathlib.Core.Bool.{Bool, true}
use mathlib.Core.List.{List, ◌++◌}
use lib.ListN.{length, get_or-append}
use lib.Seq.{get_or-append-add}
use Rattle.lists.specs.Tables.{select}
use Rattle.lists.proofs.Selected.{select_all}
use Rattle.rules.specs.State.{Record}
use Rattle.rules.proofs.word.WordOfRecords.{no_record, nth, word_after, HitAt}
use Rattle.rules.proofs.word.SortedRecords.{word_after_select_same, word_after_select_none}

-- the record at a place of two lists, one after the other
pub nth_first : (l k : List Record) (i : ℕ) → i < length l → nth (l ++ k) i ≡ nth l i
nth_first l k i h = get_or-append l k no_record i h

pub nth_second : (l k : List Record) (i : ℕ) → length l ≤ i → nth (l ++ k) i ≡ nth k (i - length l)
nth_second l k i h =
    let e : length l + (i - length l) ≡ i = omega arith in
    ap (λ (j : ℕ). nth (l ++ k) j) (sym e) ∙ get_or-append-add l k (i - length l) no_record

module _ (words g o : ℕ) where
  -- where the test accepts every record that sets the word, the selection does what the list does
  pub all_selected : (t : Record → Bool) (l : List Record) (x : ℕ) → ((i : ℕ) → HitAt words g o l i → t (nth l i) ≡ true)
      → word_after words g o (select t l) x ≡ word_after words g o l x
  all_selected t l x h = word_after_select_same words g o t (λ r. true) l h x ∙ ap (λ (k : List Record). word_after words g o k x) (select_all l)

  -- records none of which sets the word leave it
  pub nothing_set : (l : List Record) (x : ℕ) → ((i : ℕ) → HitAt words g o l i → ⊥) → word_after words g o l x ≡ x
  nothing_set l x h = sym (all_selected (λ r. true) l x (λ i k. refl)) ∙ word_after_select_none words g o (λ r. true) l (λ i k. absurd (h i k)) x
