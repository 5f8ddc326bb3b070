-- The records that closing makes: one for each dirty page, in the order of the pages. Rests on Slots and SelectedRecords. Assumes
-- nothing.
use Prim.Native.Nat.{ℕ, zero, suc, ◌≤◌, ◌<◌}
use native.Mathlib.Omega.{arith}
use native.Mathlib.Decide.{dec_le, ℕ_discrete}
use mathlib.Core.Path.{◌≡◌, refl, sym, ap, ap₂, ◌∙◌}
use mathlib.Core.Bool.{Bool, true, false, false≢true}
use mathlib.Core.Option.{Option, none, get_or}
use mathlib.Core.List.{List, [], ◌∷◌, ◌++◌}
use lib.ListN.{length, length-append}
use lib.Seq.{get_or-append_seam}
use borrow.Author.Tests.{eq-eqb, ne_eqb}
use Rattle.diff.specs.Format.{written}
use Rattle.diff.specs.inner.Settings.{setting_at}
use Rattle.rules.specs.State.{dirty_at, copy_of, twin_of, Record, State}
use Rattle.rules.specs.Close.{new_record}
use Rattle.rules.proofs.state.Slots.{new_records}
use Rattle.rules.proofs.word.WordOfRecords.{no_record, nth, sets_word, word_after, HitAt, word_after_append, hit_page}
use Rattle.rules.proofs.word.SelectedRecords.{nth_first, nothing_set}

module _ (s : State) (p : ℕ) where
  more_records : (g : ℕ) → dirty_at s.pages p g ≡ true → new_records s p (suc g) ≡ new_records s p g ++ new_record s p g ∷ []
  unfolding new_records
  more_records g e = rw e

  same_records : (g : ℕ) → dirty_at s.pages p g ≡ false → new_records s p (suc g) ≡ new_records s p g
  unfolding new_records
  same_records g e = rw e

  -- the record at a place among the new ones is that of a dirty page
  pub record NewAt (n j : ℕ) : Type 0 where
    pub page : ℕ
    pub below : page < n
    pub is_dirty : dirty_at s.pages p page ≡ true
    pub is : nth (new_records s p n) j ≡ new_record s p page

  -- the last of one more
  last_record : (l : List Record) (r : Record) (j : ℕ) → j < length (l ++ r ∷ []) → (suc j ≤ length l → ⊥) → nth (l ++ r ∷ []) j ≡ r
  last_record l r j h d =
      let e : j ≡ length l = omega (arith, h, d, length-append l (r ∷ [])) in
      ap (λ (i : ℕ). nth (l ++ r ∷ []) i) e ∙ get_or-append_seam l r [] no_record

  pub new_record_at : (n j : ℕ) → j < length (new_records s p n) → NewAt n j
  unfolding new_records
  new_record_at zero j h = absurd (omega arith)
  new_record_at (suc g) j h = go (dirty_at s.pages p g) refl (new_record_at g j) (dec_le (suc j) (length (new_records s p g)))
    where
      go : (b : Bool) → dirty_at s.pages p g ≡ b → (j < length (new_records s p g) → NewAt g j) → Dec (suc j ≤ length (new_records s p g)) → NewAt (suc g) j
      go false e ih d =
          let r = ih (rw (same_records g e) at h) in
          record { page = r.page; below = omega (arith, r.below); is_dirty = r.is_dirty; is = ap (λ (l : List Record). nth l j) (same_records g e) ∙ r.is }
      go true e ih (yes d) =
          let r = ih d in
          record {
            page = r.page;
            below = omega (arith, r.below);
            is_dirty = r.is_dirty;
            is = ap (λ (l : List Record). nth l j) (more_records g e) ∙ nth_first (new_records s p g) (new_record s p g ∷ []) j d ∙ r.is;
          }
      go true e ih (no d) =
          record {
            page = g;
            below = omega arith;
            is_dirty = e;
            is = ap (λ (l : List Record). nth l j) (more_records g e) ∙ last_record (new_records s p g) (new_record s p g) j (rw (more_records g e) at h) d;
          }

  page_of : (g : ℕ) → (new_record s p g).page ≡ g
  unfolding new_record
  page_of g = refl

  -- the pages of the new records rise
  pub new_pages_rise : (n i j : ℕ) → i < j → j < length (new_records s p n) → (nth (new_records s p n) i).page < (nth (new_records s p n) j).page
  unfolding new_records
  new_pages_rise zero i j less h = absurd (omega arith)
  new_pages_rise (suc g) i j less h = go (dirty_at s.pages p g) refl (new_pages_rise g i j less) (dec_le (suc j) (length (new_records s p g)))
    where
      go : (b : Bool) → dirty_at s.pages p g ≡ b → (j < length (new_records s p g) → (nth (new_records s p g) i).page < (nth (new_records s p g) j).page) → Dec (suc j ≤ length (new_records s p g))
          → (nth (new_records s p (suc g)) i).page < (nth (new_records s p (suc g)) j).page
      go false e ih d = rw (same_records g e) (ih (rw (same_records g e) at h))
      go true e ih (yes d) =
          rw (more_records g e, nth_first (new_records s p g) (new_record s p g ∷ []) j d, nth_first (new_records s p g) (new_record s p g ∷ []) i (omega (arith, less, d))) (ih d)
      go true e ih (no d) =
          let end : nth (new_records s p (suc g)) j ≡ new_record s p g =
          ap (λ (l : List Record). nth l j) (more_records g e) ∙ last_record (new_records s p g) (new_record s p g) j (rw (more_records g e) at h) d in
          let place : i < length (new_records s p g) = omega (arith, less, rw (more_records g e) at h, length-append (new_records s p g) (new_record s p g ∷ [])) in
          let r = new_record_at g i place in
          let start : nth (new_records s p (suc g)) i ≡ new_record s p r.page =
          ap (λ (l : List Record). nth l i) (more_records g e) ∙ nth_first (new_records s p g) (new_record s p g ∷ []) i place ∙ r.is in
          omega (arith, ap (λ (x : Record). x.page) end, ap (λ (x : Record). x.page) start, page_of r.page, page_of g, r.below)

-- ---- what they do to one word

module _ (s : State) (p words g o : ℕ) where
  -- a new record that sets the word is that of page g, which is dirty
  pub record NewHit (n j : ℕ) : Type 0 where
    pub is_dirty : dirty_at s.pages p g ≡ true
    pub below : g < n
    pub is : nth (new_records s p n) j ≡ new_record s p g

  pub new_hit : (n j : ℕ) → HitAt words g o (new_records s p n) j → NewHit n j
  new_hit n j h =
      let r = new_record_at s p n j h.within in
      let e : r.page ≡ g = sym (page_of s p r.page) ∙ ap (λ (x : Record). x.page) (sym r.is) ∙ hit_page words g o (nth (new_records s p n) j) h.hit in
      record { is_dirty = rw e at r.is_dirty; below = omega (arith, r.below, e); is = r.is ∙ ap (new_record s p) e }

  pub one_new_hit : (n i j : ℕ) → HitAt words g o (new_records s p n) i → HitAt words g o (new_records s p n) j → i < j → ⊥
  one_new_hit n i j hi hj less =
      omega (arith, new_pages_rise s p n i j less hj.within, hit_page words g o (nth (new_records s p n) i) hi.hit, hit_page words g o (nth (new_records s p n) j) hj.hit)

  -- where page g is clean they leave the word
  pub new_records_leave : (n x : ℕ) → dirty_at s.pages p g ≡ false → word_after words g o (new_records s p n) x ≡ x
  new_records_leave n x e = nothing_set words g o (new_records s p n) x (λ i h. false≢true (sym e ∙ (new_hit n i h).is_dirty))

  one_more : (k x : ℕ) → dirty_at s.pages p k ≡ true → word_after words g o (new_records s p (suc k)) x ≡ get_or (sets_word words g o (new_record s p k)) (word_after words g o (new_records s p k) x)
  unfolding word_after
  one_more k x e =
      ap (λ (l : List Record). word_after words g o l x) (more_records s p k e) ∙ word_after_append words g o (new_records s p k) (new_record s p k ∷ []) x

  pub page_record : sets_word words g o (new_record s p g) ≡ setting_at words (written (twin_of s.pages p g) (copy_of s.pages p g)) o
  unfolding sets_word new_record
  page_record = rw (eq-eqb g g refl)

  other_record : (k : ℕ) → (k ≡ g → ⊥) → sets_word words g o (new_record s p k) ≡ none
  unfolding sets_word new_record
  other_record k d = rw (ne_eqb k g d)

  -- where it is-dirty they do what its diff does
  pub new_records_set : (n x : ℕ) → g < n → dirty_at s.pages p g ≡ true
      → word_after words g o (new_records s p n) x ≡ get_or (setting_at words (written (twin_of s.pages p g) (copy_of s.pages p g)) o) x
  new_records_set zero x h e = absurd (omega arith)
  new_records_set (suc k) x h e = go (ℕ_discrete k g) (dirty_at s.pages p k) refl (new_records_set k x)
    where
      go : Dec (k ≡ g) → (b : Bool) → dirty_at s.pages p k ≡ b → (g < k → dirty_at s.pages p g ≡ true → word_after words g o (new_records s p k) x ≡ get_or (setting_at words (written (twin_of s.pages p g) (copy_of s.pages p g)) o) x)
          → word_after words g o (new_records s p (suc k)) x ≡ get_or (setting_at words (written (twin_of s.pages p g) (copy_of s.pages p g)) o) x
      go (yes d) true q ih =
          one_more k x q ∙ ap (λ (i : ℕ). get_or (sets_word words g o (new_record s p i)) (word_after words g o (new_records s p k) x)) d
          ∙ ap₂ get_or page_record (nothing_set words g o (new_records s p k) x (λ i hi. omega (arith, d, (new_hit k i hi).below)))
      go (yes d) false q ih = absurd (false≢true (sym q ∙ ap (dirty_at s.pages p) d ∙ e))
      go (no d) true q ih =
          one_more k x q ∙ ap (λ (v : Option ℕ). get_or v (word_after words g o (new_records s p k) x)) (other_record k d) ∙ ih (omega (arith, h, d)) e
      go (no d) false q ih = ap (λ (l : List Record). word_after words g o l x) (same_records s p k q) ∙ ih (omega arith) e
