-- The records' slots of the mainframe in their area: a slot is a row of bytes, and bytes stored at its front are laid over it. Assumes
-- nothing.
use Prim.Native.Nat.{ℕ, ◌+◌, ◌*◌, ◌≤◌, ◌<◌}
use native.Mathlib.Omega.{arith}
use native.Mathlib.Decide.{ℕ_discrete}
use mathlib.Core.Path.{◌≡◌, sym, ap, ◌∙◌}
use mathlib.Core.Bool.{cond}
use mathlib.Core.List.{List, [], ◌++◌}
use lib.ListN.{length, get_or, take, drop}
use lib.Seq.{sets}
use lib.Dec.{eqb}
use borrow.Author.Tests.{eq-eqb, ne_eqb}
use Rattle.lists.specs.Tables.{put, tabulate}
use Rattle.limits.specs.Limits.{record_limit, slot_head}
use Rattle.limits.specs.inner.Sizes.{diff_limit, record_area, slot_width}
use Rattle.rules.specs.InOrder.{slot_size, record_at}
use Rattle.rules.specs.State.{mainframe, record_in, laid_over}
use Rattle.layout.specs.Layout.{row_of}
use Rattle.layout.specs.Areas.{records_in, state_in}
use Rattle.layout.specs.inner.Marks.{slot_diff, slot_interval, slot_length, slot_page, slot_processor}
use Rattle.lists.proofs.Tabulated.{get_tabulate, tabulate_same, put_tabulate}
use Rattle.layout.proofs.RowLaws.{get_row, part_of_row, row_of_sets_other, row_of_sets_front}

-- the slot lies within the area
pub slot_there : (i : ℕ) → i < record_limit → slot_width * i + slot_width ≤ record_area
slot_there i b = omega arith

-- a slot is its row
pub slot_read : (r m : List ℕ) (i : ℕ) → i < record_limit → get_or (records_in mainframe r m).slots i [] ≡ row_of slot_width r i
unfolding records_in mainframe slot_size
slot_read r m i b = get_tabulate record_limit (λ k. row_of slot_width r k) i [] b

-- a byte of a slot
pub slot_byte : (r : List ℕ) (i k : ℕ) → k < slot_width → get_or (row_of slot_width r i) k 0 ≡ get_or r (slot_width * i + k) 0
slot_byte r i k b = get_row slot_width r i k 0 b

-- the bytes of a diff that stands in a slot
pub slot_diff_lem : (r : List ℕ) (i n : ℕ) → n ≤ diff_limit → take n (drop slot_head (row_of slot_width r i)) ≡ take n (drop (slot_width * i + slot_head) r)
slot_diff_lem r i n b = part_of_row slot_width r i slot_head n (omega arith)

-- the record that stands in a slot, from the area's bytes
pub record_read : (c w r m : List ℕ) (i : ℕ) → i < record_limit → slot_length r i ≤ diff_limit
    → record_at (state_in mainframe c w r m) i
    ≡ record {
      processor = slot_processor r i;
      interval = slot_interval r i;
      page = slot_page r i;
      diff = slot_diff r i;
    }
unfolding record_at state_in record_in
record_read c w r m i b n =
    ap (λ (slot : List ℕ). record_in slot) (slot_read r m i b)
    ∙ (λ k. record {
      processor = (slot_byte r i 0 (omega arith) ∙ ap (λ (j : ℕ). get_or r j 0) first) k;
      interval = slot_byte r i 1 (omega arith) k;
      page = slot_byte r i 2 (omega arith) k;
      diff = (ap (λ (j : ℕ). take j (drop slot_head (row_of slot_width r i))) (slot_byte r i 3 (omega arith)) ∙ slot_diff_lem r i (slot_length r i) n) k;
    })
  where
    first : slot_width * i + 0 ≡ slot_width * i
    first = omega arith

-- bytes stored at the front of a slot
pub slot_written : (r m bytes : List ℕ) (i : ℕ) → length r ≡ record_area → length bytes ≤ slot_width → i < record_limit
    → records_in mainframe (sets r (slot_width * i) bytes) m
    ≡ record {
      standing = (records_in mainframe r m).standing;
      slots = put [] (records_in mainframe r m).slots i (laid_over bytes (get_or (records_in mainframe r m).slots i []));
    }
unfolding records_in mainframe slot_size laid_over
slot_written r m bytes i there e b =
    λ k. record {
      standing = (records_in mainframe r m).standing;
      slots =
          (tabulate_same record_limit (λ j. row_of slot_width (sets r (slot_width * i) bytes) j) (λ j. cond (eqb j i) (bytes ++ drop (length bytes) (row_of slot_width r i)) (row_of slot_width r j))
          (λ j x. each j (ℕ_discrete j i))
          ∙ sym (put_tabulate [] record_limit (λ j. row_of slot_width r j) i (bytes ++ drop (length bytes) (row_of slot_width r i)) b)
          ∙ ap (λ (slot : List ℕ). put [] (tabulate record_limit (λ j. row_of slot_width r j)) i (bytes ++ drop (length bytes) slot)) (sym (slot_read r m i b))) k;
    }
  where
    each : (j : ℕ) → Dec (j ≡ i) → row_of slot_width (sets r (slot_width * i) bytes) j ≡ cond (eqb j i) (bytes ++ drop (length bytes) (row_of slot_width r i)) (row_of slot_width r j)
    each j (yes s) = rw (eq-eqb j i s) (rw s (row_of_sets_front slot_width r bytes i e (omega arith)))
    each j (no s) = rw (ne_eqb j i s) (row_of_sets_other slot_width r bytes i j e s)
