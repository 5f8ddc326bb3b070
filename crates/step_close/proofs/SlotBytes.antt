-- A record's bytes in its slot: the write notice, the diff and its length before it. One law for each way of the code, and `slot_laws`. Assumes nothing.
use Prim.Native.Nat.{ℕ, suc, ◌+◌, ◌-◌, ◌*◌, ◌≤◌, ◌<◌}
use native.Mathlib.Omega.{arith}
use mathlib.Core.Path.{◌≡◌, refl, sym, ap, ◌∙◌}
use mathlib.Core.List.{List, [], ◌∷◌, ◌++◌, append_assoc}
use lib.ListN.{length, take, drop, set, take-append-drop, length-drop}
use lib.Seq.{length-take-le, drop-append-le, set_comm, drop-drop, sets, length-sets, sets-eq}
use mir.Syntax.{w8}
use mir.Val.{Fits}
use borrow.Author.Rules.{rules}
use Rattle.limits.specs.inner.Sizes.{slot_width}
use Rattle.diff.specs.Format.{difference, written}
use Rattle.diff.proofs.Theorems.{at_most_131_bytes}
use Rattle.diff.specs.inner.Mask.{mask_of}
use Rattle.diff_writer.specs.inner.Needed.{PagesWhole, RoomForDiff}
use Rattle.step_close.specs.inner.Parts.{notice_bytes, counted_bytes}
use Rattle.step_close.specs.inner.Needed.{NoticeSlotThere, CountedFits, DiffFits}

-- a list stored into a part of another, and the part put back
pub part_stored : (xs ys vs : List ℕ) (a k : ℕ) → a + k ≤ length xs → length vs ≤ k → ys ≡ sets (take k (drop a xs)) 0 vs
    → take a xs ++ (ys ++ drop k (drop a xs)) ≡ sets xs a vs
part_stored xs ys vs a k h l e =
    let part : length (take k (drop a xs)) ≡ k = length-take-le k (drop a xs) (omega (arith, length-drop a xs)) in
    let room : 0 + length vs ≤ length (take k (drop a xs)) = omega (arith, part) in
    let zero_first : 0 + length vs ≡ length vs = omega arith in
    let first : ys ≡ vs ++ drop (length vs) (take k (drop a xs)) =
    e ∙ sets-eq vs (take k (drop a xs)) 0 room ∙ ap (λ (n : ℕ). vs ++ drop n (take k (drop a xs))) zero_first in
    let tail : drop (length vs) (take k (drop a xs)) ++ drop k (drop a xs) ≡ drop (a + length vs) xs =
    sym (drop-append-le (length vs) (take k (drop a xs)) (drop k (drop a xs)) (omega (arith, part)))
    ∙ ap (λ (r : List ℕ). drop (length vs) r) (take-append-drop k (drop a xs)) ∙ drop-drop (length vs) a xs in
    ap (λ (r : List ℕ). take a xs ++ (r ++ drop k (drop a xs))) first
    ∙ ap (λ (r : List ℕ). take a xs ++ r) (append_assoc vs (drop (length vs) (take k (drop a xs))) (drop k (drop a xs)) ∙ ap (λ (r : List ℕ). vs ++ r) tail)
    ∙ sym (append_assoc (take a xs) vs (drop (a + length vs) xs))
    ∙ sym (sets-eq vs xs a (omega arith))

-- ---- the diff of two whole pages finds room

module _ (old new out : List ℕ) (fits : DiffFits old new out) where
  -- both pages are whole
  pub diff_pages : PagesWhole old new
  diff_pages = record { old_whole = fits.old_whole; new_whole = fits.new_whole }

  pub diff_room : (mask : ℕ) → mask ≡ mask_of (difference old new) → RoomForDiff old new mask out
  diff_room mask e =
      record {
        whole = diff_pages;
        is = e;
        room = omega (arith, at_most_131_bytes old new fits.old_whole fits.new_whole, fits.room);
      }

  -- the length fits a byte
  pub diff_length : (n : ℕ) → n ≡ length (written old new) → Fits w8 n
  diff_length n e = omega (arith, e, at_most_131_bytes old new fits.old_whole fits.new_whole)

-- ---- behind its length

-- a store before others
set_before : (vs l : List ℕ) (i j a : ℕ) → j < i → set (sets l i vs) j a ≡ sets (set l j a) i vs
set_before [] l i j a h = refl
set_before (v ∷ vs) l i j a h =
    set_before vs (set l i v) (suc i) j a (omega arith) ∙ ap (λ (k : List ℕ). sets k (suc i) vs) (set_comm l i j v a (λ e. omega (arith, e, h)))

module _ (old new out : List ℕ) (fits : CountedFits old new out) where
  -- behind the place of the length there is room for every diff
  pub room_behind : (k : ℕ) → k ≡ length out → DiffFits old new (take (k - 1) (drop 1 out))
  room_behind k e =
      record {
        old_whole = fits.old_whole;
        new_whole = fits.new_whole;
        room = omega (arith, length-take-le (k - 1) (drop 1 out) (omega (arith, length-drop 1 out, e)), fits.room, e);
      }

  -- the part put back has the diff behind the place of the length
  pub diff_behind : (part : List ℕ) (k : ℕ) → k ≡ length out → part ≡ sets (take (k - 1) (drop 1 out)) 0 (written old new)
      → take 1 out ++ (part ++ drop (k - 1) (drop 1 out)) ≡ sets out 1 (written old new)
  diff_behind part k l e =
      part_stored out part (written old new) 1 (k - 1) (omega (arith, l, fits.room)) (omega (arith, l, fits.room, at_most_131_bytes old new fits.old_whole fits.new_whole)) e

  -- the place of the length is there
  pub length_place : (out' : List ℕ) → out' ≡ sets out 1 (written old new) → 0 < length out'
  length_place out' e = omega (arith, ap length e ∙ length-sets out 1 (written old new), fits.room)

  -- length and diff together
  pub counted_laid : (n : ℕ) (out' : List ℕ) → n ≡ length (written old new) → out' ≡ sets out 1 (written old new) → set out' 0 n ≡ sets out 0 (counted_bytes old new)
  unfolding counted_bytes
  counted_laid n out' l e = rw (e, l) (set_before (written old new) out 1 0 (length (written old new)) (omega arith))

-- ---- the write notice

module _ (r : List ℕ) (p i g slot : ℕ) (fits : NoticeSlotThere r p i g slot) where
  -- its places are there
  pub notice_place_lem : (k : ℕ) → k < slot_width → slot_width * slot + k < length r
  notice_place_lem k h = omega (arith, fits.records, fits.place)

  pub notice_laid : set (set (set r (slot_width * slot) p) (slot_width * slot + 1) i) (slot_width * slot + 2) g ≡ sets r (slot_width * slot) (notice_bytes p i g)
  unfolding notice_bytes
  notice_laid =
      let second : slot_width * slot + 1 ≡ suc (slot_width * slot) = omega arith in
      let third : slot_width * slot + 2 ≡ suc (suc (slot_width * slot)) = omega arith in
      rw (second, third)

pub ruleset slot_laws = (diff_pages, diff_room, diff_length, room_behind, diff_behind, length_place, counted_laid, notice_place_lem, notice_laid, rules)
