-- Laws of the records in their slots: what stands after one record is appended and after a processor closed its interval, and what holds of
-- every standing record. Rests on Tables and Selected. Assumes nothing.
use Prim.Native.Nat.{ℕ, zero, suc, ◌≤◌, ◌<◌}
use native.Mathlib.Numerals.{add-one}
use native.Mathlib.Omega.{arith}
use mathlib.Core.Path.{◌≡◌, sym, ap, ◌∙◌}
use mathlib.Core.Bool.{Bool, true, false, cond}
use mathlib.Core.List.{List, [], ◌∷◌, ◌++◌, map, map-append, append_assoc, append-nil}
use lib.ListN.{length, get_or, take, drop, length-map}
use lib.Seq.{length-take-le, take-append_seam, get_or-take}
use Rattle.lists.specs.Tables.{put}
use Rattle.lists.proofs.Tables.{length_put, take_put_next, get_map_within}
use Rattle.lists.proofs.Selected.{Each, each_at, each_when}
use Rattle.rules.specs.State.{dirty_at, Record, Records, slot_bytes, record_in, records_of, laid_over, appended, State}
use Rattle.rules.specs.Close.{new_record, recorded}
-- the records that closing makes, with the laws on them
unfoldable pub use Rattle.rules.specs.Noted.{new_records}

pub record_in_laid : (r : Record) (slot : List ℕ) → record_in (laid_over (slot_bytes r) slot) ≡ r
unfolding record_in laid_over slot_bytes
record_in_laid r slot =
    ap (λ (diff : List ℕ). record { processor = r.processor; interval = r.interval; page = r.page; diff = diff })
    (take-append_seam r.diff (drop (length (slot_bytes r)) slot))

-- a record is appended behind those that stand
pub records_appended : (r : Records) (new : Record) → r.standing ≤ length r.slots → records_of (appended r new) ≡ records_of r ++ new ∷ []
unfolding records_of appended
records_appended r new h =
    let slot : List ℕ = laid_over (slot_bytes new) (get_or r.slots r.standing []) in
    ap (λ (n : ℕ). map record_in (take n (put [] r.slots r.standing slot))) (add-one r.standing)
    ∙ ap (map record_in) (take_put_next [] r.slots r.standing slot h)
    ∙ map-append record_in (take r.standing r.slots) (slot ∷ [])
    ∙ ap (λ (x : Record). map record_in (take r.standing r.slots) ++ x ∷ []) (record_in_laid new (get_or r.slots r.standing []))

-- the slots of the standing records stay enough
pub slots_appended : (r : Records) (new : Record) → r.standing ≤ length r.slots → (appended r new).standing ≤ length (appended r new).slots
unfolding appended
slots_appended r new h = omega (arith, length_put [] r.slots r.standing (laid_over (slot_bytes new) (get_or r.slots r.standing [])))

pub slots_recorded : (s : State) (p n : ℕ) → s.records.standing ≤ length s.records.slots → (recorded s p n).standing ≤ length (recorded s p n).slots
unfolding recorded
slots_recorded s p zero h = h
slots_recorded s p (suc g) h = go (dirty_at s.pages p g) (slots_recorded s p g h)
  where
    go : (b : Bool) → (recorded s p g).standing ≤ length (recorded s p g).slots
        → (cond b (appended (recorded s p g) (new_record s p g)) (recorded s p g)).standing ≤ length (cond b (appended (recorded s p g) (new_record s p g)) (recorded s p g)).slots
    go true k = slots_appended (recorded s p g) (new_record s p g) k
    go false k = k

pub records_recorded : (s : State) (p n : ℕ) → s.records.standing ≤ length s.records.slots → records_of (recorded s p n) ≡ records_of s.records ++ new_records s p n
unfolding recorded new_records
records_recorded s p zero h = sym (append-nil (records_of s.records))
records_recorded s p (suc g) h = go (dirty_at s.pages p g) (records_recorded s p g h) (slots_recorded s p g h)
  where
    go : (b : Bool) → records_of (recorded s p g) ≡ records_of s.records ++ new_records s p g → (recorded s p g).standing ≤ length (recorded s p g).slots
        → records_of (cond b (appended (recorded s p g) (new_record s p g)) (recorded s p g)) ≡ records_of s.records ++ cond b (new_records s p g ++ new_record s p g ∷ []) (new_records s p g)
    go true e k =
        records_appended (recorded s p g) (new_record s p g) k ∙ ap (λ (l : List Record). l ++ new_record s p g ∷ []) e
        ∙ append_assoc (records_of s.records) (new_records s p g) (new_record s p g ∷ [])
    go false e k = e

-- a standing record is the one of its slot
pub standing_at : (r : Records) (i : ℕ) (d : Record) → i < r.standing → r.standing ≤ length r.slots → get_or (records_of r) i d ≡ record_in (get_or r.slots i [])
unfolding records_of
standing_at r i d h k =
    get_map_within record_in (take r.standing r.slots) i [] d (rw (length-take-le r.standing r.slots k) h)
    ∙ ap record_in (get_or-take r.standing r.slots i [] h)

pub length_standing : (r : Records) → r.standing ≤ length r.slots → length (records_of r) ≡ r.standing
unfolding records_of
length_standing r k = length-map (take r.standing r.slots) record_in ∙ length-take-le r.standing r.slots k

module _ (P : Record → Type 0) where
  -- what holds of every slot in use holds of every standing record
  pub each_standing : (r : Records) → r.standing ≤ length r.slots → ((i : ℕ) → i < r.standing → P (record_in (get_or r.slots i []))) → Each P (records_of r)
  each_standing r k h =
      each_when P (record_in []) (records_of r)
      (λ i l. let m : i < r.standing = omega (arith, l, length_standing r k) in rw (standing_at r i (record_in []) m k) (h i m))

  -- and the other way round
  pub standing_each : (r : Records) → r.standing ≤ length r.slots → Each P (records_of r) → (i : ℕ) → i < r.standing → P (record_in (get_or r.slots i []))
  standing_each r k h i l = rw (standing_at r i (record_in []) l k) at (each_at P (record_in []) (records_of r) h i (omega (arith, l, length_standing r k)))
