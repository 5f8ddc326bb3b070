-- The records stay in order when own entries rise and when a record is appended. Rests on Slots and KeptParts. Assumes nothing.
use Prim.Native.Nat.{ℕ, ◌+◌, ◌*◌, ◌≤◌, ◌<◌}
use native.Mathlib.Omega.{arith}
use native.Mathlib.Decide.{ℕ_discrete}
use native.Mathlib.Nat.{le_trans}
use mathlib.Core.Path.{◌≡◌, refl, ap, ap₂, ◌∙◌}
use mathlib.Core.Bool.{true, false}
use mathlib.Core.List.{List, []}
use lib.ListN.{length, get_or, drop, length-append, length-drop}
use Rattle.lists.proofs.Tables.{get_put_same, get_put_other, length_put_within}
use Rattle.diff.specs.Reading.{read_refusal}
use Rattle.rules.specs.State.{Limits, Counts, Record, Records, slot_bytes, record_in, laid_over, appended}
use Rattle.rules.specs.InOrder.{slot_size, same_notice}
use Rattle.rules.proofs.state.Slots.{record_in_laid}
use Rattle.rules.proofs.inorder.KeptParts.{present_among, SlotSound, RecordsInOrder}

-- a made interval stays a made one
pub records_with_more_intervals : (lim : Limits) (n : Counts) (o more : ℕ → ℕ) (r : Records) → ((q : ℕ) → o q ≤ more q) → RecordsInOrder lim n o r → RecordsInOrder lim n more r
records_with_more_intervals lim n o more r h f =
    record {
      slots = f.slots;
      slot = f.slot;
      few_standing = f.few_standing;
      sound = λ i l.
          let t = f.sound i l in
          record {
            processor = t.processor;
            page = t.page;
            some_interval = t.some_interval;
            made_interval = le_trans t.made_interval (h (record_in (get_or r.slots i [])).processor);
            fits = t.fits;
            legal = t.legal;
          };
      distinct = f.distinct;
    }

-- ---- one record appended

-- a sound record for which there is room and which has no other's processor, interval and page
pub record Appendable (lim : Limits) (n : Counts) (o : ℕ → ℕ) (r : Records) (new : Record) : Type 0 where
  pub room : r.standing < lim.records
  pub processor : present_among n new.processor ≡ true
  pub page : new.page < n.pages
  pub some_interval : 1 ≤ new.interval
  pub made_interval : new.interval ≤ o new.processor
  pub short : length new.diff ≤ 4 * lim.words + 3
  pub legal : read_refusal lim.words new.diff ≡ 0
  pub other : (j : ℕ) → j < r.standing → same_notice new (record_in (get_or r.slots j [])) ≡ false

-- the slot of the new record
unfoldable pub new_slot : Records → Record → List ℕ
new_slot r new = laid_over (slot_bytes new) (get_or r.slots r.standing [])

-- it stands behind the records that stood
pub new_slot_at : (r : Records) (new : Record) → get_or (appended r new).slots r.standing [] ≡ new_slot r new
unfolding appended new_slot
new_slot_at r new = get_put_same [] r.slots r.standing (new_slot r new)

-- every other slot is as it was
pub old_slot_at : (r : Records) (new : Record) (i : ℕ) → (i ≡ r.standing → ⊥) → get_or (appended r new).slots i [] ≡ get_or r.slots i []
unfolding appended new_slot
old_slot_at r new i d = get_put_other [] r.slots r.standing i (new_slot r new) d

-- the record in the new slot is the new record
pub record_in_new_slot : (r : Records) (new : Record) → record_in (new_slot r new) ≡ new
unfolding new_slot
record_in_new_slot r new = record_in_laid new (get_or r.slots r.standing [])

length_new_slot : (lim : Limits) (r : Records) (new : Record) → length new.diff ≤ 4 * lim.words + 3 → length (get_or r.slots r.standing []) ≡ slot_size lim
    → length (new_slot r new) ≡ slot_size lim
unfolding new_slot laid_over slot_bytes slot_size
length_new_slot lim r new h k =
    let old : List ℕ = get_or r.slots r.standing [] in
    omega (arith, length-append (slot_bytes new) (drop (length (slot_bytes new)) old), length-drop (length (slot_bytes new)) old)

new_slot_fits : (lim : Limits) (r : Records) (new : Record) → length new.diff ≤ 4 * lim.words + 3 → 4 + get_or (new_slot r new) 3 0 ≤ slot_size lim
unfolding new_slot laid_over slot_bytes slot_size
new_slot_fits lim r new h = omega arith

new_slot_sound : (lim : Limits) (n : Counts) (o : ℕ → ℕ) (r : Records) (new : Record) → Appendable lim n o r new → SlotSound lim n o (new_slot r new)
new_slot_sound lim n o r new a =
    let e = record_in_new_slot r new in
    record {
      processor = rw e a.processor;
      page = rw e a.page;
      some_interval = rw e a.some_interval;
      made_interval = rw e a.made_interval;
      fits = new_slot_fits lim r new a.short;
      legal = rw e a.legal;
    }

-- the records stay in order
pub appended_in_order : (lim : Limits) (n : Counts) (o : ℕ → ℕ) (r : Records) (new : Record) → RecordsInOrder lim n o r → Appendable lim n o r new
    → RecordsInOrder lim n o (appended r new)
appended_in_order lim n o r new f a =
    record {
      slots = slots_kept;
      slot = λ i l. slot_kept i l (ℕ_discrete i r.standing);
      few_standing = omega (arith, standing_is, a.room);
      sound = λ i l. sound_kept i (omega (arith, l, standing_is)) (ℕ_discrete i r.standing);
      distinct = λ i j l m. distinct_kept i j (omega (arith, l, standing_is)) m (ℕ_discrete i r.standing);
    }
  where
    standing_is : (appended r new).standing ≡ r.standing + 1
    standing_is = unfold appended in refl

    slots_kept : length (appended r new).slots ≡ lim.records
    slots_kept = unfold appended in (length_put_within [] r.slots r.standing (laid_over (slot_bytes new) (get_or r.slots r.standing [])) (omega (arith, f.slots, a.room)) ∙ f.slots)

    slot_kept : (i : ℕ) → i < lim.records → Dec (i ≡ r.standing) → length (get_or (appended r new).slots i []) ≡ slot_size lim
    slot_kept i l (yes e) = rw e (ap length (new_slot_at r new) ∙ length_new_slot lim r new a.short (f.slot r.standing a.room))
    slot_kept i l (no e) = ap length (old_slot_at r new i e) ∙ f.slot i l

    sound_kept : (i : ℕ) → i < r.standing + 1 → Dec (i ≡ r.standing) → SlotSound lim n o (get_or (appended r new).slots i [])
    sound_kept i l (yes e) = rw (e, new_slot_at r new) (new_slot_sound lim n o r new a)
    sound_kept i l (no e) = rw (old_slot_at r new i e) (f.sound i (omega arith))

    distinct_kept : (i j : ℕ) → i < r.standing + 1 → j < i → Dec (i ≡ r.standing)
        → same_notice (record_in (get_or (appended r new).slots i [])) (record_in (get_or (appended r new).slots j [])) ≡ false
    distinct_kept i j l m (yes e) =
        ap₂ same_notice (ap (λ (k : ℕ). record_in (get_or (appended r new).slots k [])) e ∙ ap record_in (new_slot_at r new) ∙ record_in_new_slot r new)
        (ap record_in (old_slot_at r new j (λ d. omega (arith, d, e, m)))) ∙ a.other j (omega arith)
    distinct_kept i j l m (no e) =
        ap₂ same_notice (ap record_in (old_slot_at r new i e)) (ap record_in (old_slot_at r new j (λ d. omega (arith, d, m)))) ∙ f.distinct i j (omega arith) m
