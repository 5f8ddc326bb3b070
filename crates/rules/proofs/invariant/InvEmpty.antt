-- The invariant where no record stands, every store has its interval, and every copy has the value of the last write. Rests on Invariant.
-- Assumes nothing.
use Prim.Native.Nat.{ℕ, ◌≤◌}
use native.Mathlib.Omega.{arith}
use mathlib.Core.Path.{◌≡◌, sym, ap, ◌∙◌}
use mathlib.Core.Bool.{Bool, true, false, not, false≢true}
use mathlib.Core.List.{List, []}
use lib.ListN.{length, get_or}
use Rattle.lists.specs.Tables.{select}
use Rattle.rules.specs.State.{Applied, clock_of, copy_of, dirty_at, Record, State, standing}
use Rattle.rules.proofs.order.Ghosts.{Ghost}
use Rattle.rules.proofs.word.WordOfRecords.{word_after, HitAt}
use Rattle.rules.proofs.word.FetchedWord.{above}
use Rattle.rules.proofs.invariant.Invariant.{seen, PageInv, Inv}

module _ (words g o : ℕ) (s : State) (γ : Ghost) (none-stands : standing s ≡ []) (no-writer : γ.writer ≡ 0) (settled : γ.base ≡ γ.last)
    (clean : (q : ℕ) → 1 ≤ q → q ≤ s.counts.processors → dirty_at s.pages q g ≡ false)
    (copies : (q : ℕ) → 1 ≤ q → q ≤ s.counts.processors → get_or (copy_of s.pages q g) o 0 ≡ γ.last) where
  no_hit : (i : ℕ) → HitAt words g o (standing s) i → ⊥
  no_hit i hit = let e : length (standing s) ≡ 0 = ap (λ (l : List Record). length l) none-stands in omega (arith, hit.within, e)

  selected_base : (t : Record → Bool) → word_after words g o (select t (standing s)) γ.base ≡ γ.base
  unfolding select word_after
  selected_base t = ap (λ (l : List Record). word_after words g o (select t l) γ.base) none-stands

  all_base : word_after words g o (standing s) γ.base ≡ γ.base
  unfolding word_after
  all_base = ap (λ (l : List Record). word_after words g o l γ.base) none-stands

  page_without_records : (q : ℕ) → 1 ≤ q → q ≤ s.counts.processors → PageInv words g o q s.clocks s.pages (standing s) γ.writer γ.last γ.base
  unfolding seen
  page_without_records q h k =
      record {
        fresh_up = record { up = λ i j hi hj less e. absurd (no_hit i hi) };
        dirty_applied = λ e. absurd (dirty e);
        clean_copy = λ e. copies q h k ∙ sym settled ∙ sym (selected_base (λ (r : Record). not (above q (clock_of s.clocks (Applied q g)) r)));
        dirty_twin = λ e. absurd (dirty e);
        dirty_copy = λ e. absurd (dirty e);
        writer_dirty = λ e. absurd (omega (arith, e, no-writer, h));
        writer_copy = λ e. absurd (omega (arith, e, no-writer, h));
      }
    where
      dirty : dirty_at s.pages q g ≡ true → ⊥
      dirty e = false≢true (sym (clean q h k) ∙ e)

  pub inv_without_records : Inv words g o s γ
  inv_without_records =
      record {
        clocks =
            record {
              none_yet = λ e. no_hit;
              informed = λ h k.
                  record {
                    covers_hits = λ e i hit. absurd (no_hit i hit);
                    bounded = λ i hit. absurd (no_hit i hit);
                    downward = λ i j hit. absurd (no_hit i hit);
                  };
              rising = record { rises = λ i j hit. absurd (no_hit i hit) };
              writer_present = λ e. absurd (e no-writer);
              writer_knows = λ e. absurd (e no-writer);
              others_behind = λ e. absurd (e no-writer);
            };
        page = page_without_records;
        closed_value = λ e. all_base ∙ settled;
        resting_clean = λ q h k e. clean q h k;
      }
