-- The pages after a store, and the invariant of the page stored to: a store to another word changes nothing of it, and one to w makes its
-- processor the one with stores that no interval has yet. Rests on KeptPages and Invariant. Assumes
-- nothing.
use Prim.Native.Nat.{ℕ, ◌%◌, ◌<◌}
use mathlib.Core.Path.{◌≡◌, refl, sym, ap, ◌∙◌}
use mathlib.Core.Bool.{Bool, true, false, cond, false≢true}
use mathlib.Core.List.{List, []}
use lib.ListN.{length, get_or, set}
use lib.Seq.{get_or-set_same, get_or-set_other}
use Rattle.lists.proofs.Tables.{cell_put_same, cell_put_elsewhere}
use Rattle.limits.specs.Limits.{word_values}
use Rattle.clock.specs.Clocks.{entry_of}
use Rattle.rules.specs.State.{Limits, Processor, Applied, Clocks, clock_of, Pages, copy_of, twin_of, dirty_at, Record}
use Rattle.rules.specs.Fetch.{with_copy}
use Rattle.rules.specs.Steps.{page_of_word, offset_of_word, new_twin, twin_taken, stored}
use Rattle.rules.proofs.inorder.KeptPages.{twin_taken_copies, dirty_new_same, dirty_new_elsewhere}
use Rattle.rules.proofs.invariant.Invariant.{seen, PageInv}

-- ---- what a store leaves in the pages

module _ (lim : Limits) (m : Pages) (p x v : ℕ) where
  -- the page of the store
  abbrev page : ℕ
  page = page_of_word lim x

  abbrev pub stored_pages : Pages
  stored_pages = stored lim (twin_taken m p (page_of_word lim x)) p x v

  pub stored_copy : copy_of stored_pages p page ≡ set (copy_of m p page) (offset_of_word lim x) (v % word_values)
  unfolding stored with_copy copy_of
  stored_copy = rw (twin_taken_copies m p page) (cell_put_same [] m.copies p page (set (copy_of m p page) (offset_of_word lim x) (v % word_values)))

  -- a page other than the one stored to
  abbrev pub Elsewhere : ℕ → ℕ → Type 0
  Elsewhere q g = q ≡ p → g ≡ page_of_word lim x → ⊥

  pub stored_copy_elsewhere : (q g : ℕ) → Elsewhere q g → copy_of stored_pages q g ≡ copy_of m q g
  unfolding stored with_copy copy_of
  stored_copy_elsewhere q g e = rw (twin_taken_copies m p page) (cell_put_elsewhere [] m.copies p page q g (set (copy_of m p page) (offset_of_word lim x) (v % word_values)) e)

  pub stored_dirty : dirty_at stored_pages p page ≡ true
  unfolding stored twin_taken with_copy dirty_at
  stored_dirty = go (dirty_at m p page) refl
    where
      go : (b : Bool) → dirty_at m p page ≡ b → dirty_at (cond b m (new_twin m p page)) p page ≡ true
      go true e = e
      go false e = dirty_new_same m p page

  pub stored_dirty_elsewhere : (q g : ℕ) → Elsewhere q g → dirty_at stored_pages q g ≡ dirty_at m q g
  unfolding stored twin_taken with_copy dirty_at
  stored_dirty_elsewhere q g k = go (dirty_at m p page)
    where
      go : (b : Bool) → dirty_at (cond b m (new_twin m p page)) q g ≡ dirty_at m q g
      go true = refl
      go false = dirty_new_elsewhere m p page q g k

  -- a clean page gets its twin, a dirty one keeps it
  pub stored_twin_clean : dirty_at m p page ≡ false → twin_of stored_pages p page ≡ copy_of m p page
  unfolding stored twin_taken new_twin with_copy twin_of
  stored_twin_clean e = rw (e) (cell_put_same [] m.twins p page (copy_of m p page))

  pub stored_twin_dirty : dirty_at m p page ≡ true → twin_of stored_pages p page ≡ twin_of m p page
  unfolding stored twin_taken with_copy twin_of
  stored_twin_dirty e = rw (e)

  pub stored_twin_elsewhere : (q g : ℕ) → Elsewhere q g → twin_of stored_pages q g ≡ twin_of m q g
  unfolding stored twin_taken new_twin with_copy twin_of
  stored_twin_elsewhere q g k = go (dirty_at m p page)
    where
      go : (b : Bool) → twin_of (cond b m (new_twin m p page)) q g ≡ twin_of m q g
      go true = refl
      go false = cell_put_elsewhere [] m.twins p page q g (copy_of m p page) k

-- ---- the page of the store

module _ (lim : Limits) (o : ℕ) (c : Clocks) (m : Pages) (l : List Record) (p x v writer last base : ℕ)
    (current : (q : ℕ) → entry_of (clock_of c (Applied p (page_of_word lim x))) q ≡ entry_of (clock_of c (Processor p)) q)
    (inv : PageInv lim.words (page_of_word lim x) o p c m l writer last base) where
  abbrev m' : Pages
  m' = stored lim (twin_taken m p (page_of_word lim x)) p x v

  abbrev g : ℕ
  g = page_of_word lim x

  twin_seen : get_or (twin_of m' p g) o 0 ≡ seen lim.words g o p c l base
  twin_seen = go (dirty_at m p g) refl
    where
      go : (b : Bool) → dirty_at m p g ≡ b → get_or (twin_of m' p g) o 0 ≡ seen lim.words g o p c l base
      go true e = ap (λ (t : List ℕ). get_or t o 0) (stored_twin_dirty lim m p x v e) ∙ inv.dirty_twin e
      go false e = ap (λ (t : List ℕ). get_or t o 0) (stored_twin_clean lim m p x v e) ∙ inv.clean_copy e

  -- a store to another word of the page
  pub store_beside : (o ≡ offset_of_word lim x → ⊥) → PageInv lim.words g o p c m' l writer last base
  store_beside d =
      record {
        fresh_up = inv.fresh_up;
        dirty_applied = λ e q. current q;
        clean_copy = λ e. absurd (false≢true (sym e ∙ stored_dirty lim m p x v));
        dirty_twin = λ e. twin_seen;
        dirty_copy = λ e k. word_stays ∙ old_copy k (dirty_at m p g) refl;
        writer_dirty = λ e. stored_dirty lim m p x v;
        writer_copy = λ e. word_stays ∙ inv.writer_copy e;
      }
    where
      word_stays : get_or (copy_of m' p g) o 0 ≡ get_or (copy_of m p g) o 0
      word_stays = ap (λ (t : List ℕ). get_or t o 0) (stored_copy lim m p x v) ∙ get_or-set_other (copy_of m p g) (offset_of_word lim x) o (v % word_values) 0 d

      old_copy : (writer ≡ p → ⊥) → (b : Bool) → dirty_at m p g ≡ b → get_or (copy_of m p g) o 0 ≡ seen lim.words g o p c l base
      old_copy k true e = inv.dirty_copy e k
      old_copy k false e = inv.clean_copy e

  -- a store to the word
  pub store_there : o ≡ offset_of_word lim x → o < length (copy_of m p g) → PageInv lim.words g o p c m' l p (v % word_values) base
  store_there d h =
      record {
        fresh_up = inv.fresh_up;
        dirty_applied = λ e q. current q;
        clean_copy = λ e. absurd (false≢true (sym e ∙ stored_dirty lim m p x v));
        dirty_twin = λ e. twin_seen;
        dirty_copy = λ e k. absurd (k refl);
        writer_dirty = λ e. stored_dirty lim m p x v;
        writer_copy =
            λ e. ap (λ (t : List ℕ). get_or t o 0) (stored_copy lim m p x v)
            ∙ rw (← d) (get_or-set_same (copy_of m p g) o (v % word_values) 0 h);
      }
