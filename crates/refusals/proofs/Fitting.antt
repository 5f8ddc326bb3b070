-- The rows 3 to 6 and 17 as one test: flags multiplied, by the bounds of the kinds and the marks. One law for each way of the code. Assumes nothing.
use Rattle.std.proofs.Common.{◌≡◌, ℕ, zero, suc, ◌+◌, ◌*◌, ◌%◌, ◌<◌, ◌≤◌, min, Bool, true, false, cond, not, ◌&&◌, ◌||◌, eqb, ltb, leb, ◌⊎◌, List, get_or, sym, refl, ap, ◌∙◌, inl, inr, zero-mul, arith, w32, Fits, le-ltb, lt-ltb, eq-eqb, ne_eqb, le-leb}
use mir.Val.{bool_byte}
use native.Mathlib.Decide.{dec_le, dec_lt}
use mathlib.Core.Bool.{and-false}
use borrow.Author.Tests.{lt-leb}
use Rattle.limits.specs.Limits.{processor_limit}
use Rattle.limits.specs.Places.{first_arrived}
use Rattle.limits.specs.inner.Sizes.{first_awaited, kind_bounds, kind_limit, value_limit}
use Rattle.rules.specs.InOrder.{present}
use Rattle.rules.specs.Lines.{waits}
use Rattle.rules.specs.Refusals.{known_kind, uses_value}
use Rattle.rules.specs.State.{mainframe, has_arrived}
use Rattle.rules.proofs.inorder.KindsOfSteps.{known_says}
use Rattle.layout.specs.Areas.{arrived_place, awaited_place, state_in}
use Rattle.layout.specs.inner.Marks.{processor_count, arrived_mark, awaited_mark}
use Rattle.refusals.specs.inner.Parts.{seen, bound_of, fields_in_range, is_free, may_act, step_in_range}
use Rattle.refusals.specs.inner.Bounds.{object_bound_of, value_bound_of, is_in_bounds, marks_free, bounds_of}
use Rattle.refusals.specs.inner.Needed.{MarksCountable, BoundsOf}
use Rattle.refusals.proofs.Marked.{arrived_seen, waiting_seen}

-- ---- flags

-- the product of two flags is the flag of both
both : (a b : Bool) (x y : ℕ) → x ≡ cond a 1 0 → y ≡ cond b 1 0 → x * y ≡ cond (a && b) 1 0
both true b x y ea eb = rw ea (omega (arith, eb))
both false b x y ea eb = rw ea (zero-mul y)

-- a test as a byte is its flag
as_flag : (b : Bool) → bool_byte b ≡ cond b 1 0
as_flag true = refl
as_flag false = refl

flag_is_one : (b : Bool) → eqb (cond b 1 0) 1 ≡ b
flag_is_one true = refl
flag_is_one false = refl

-- ---- the fields

-- the flags of object and value
pub fields_flagged : (bounds : List ℕ) (k j : ℕ) → j ≡ min k kind_limit → (o v x y : ℕ) → x ≡ bool_byte (ltb o (get_or bounds j 0)) → y ≡ bool_byte (leb v (get_or bounds (kind_bounds + j) 0))
    → x * y ≡ cond (is_in_bounds bounds k o v) 1 0
unfolding is_in_bounds
fields_flagged bounds k j e o v x y ex ey =
    both (ltb o (get_or bounds j 0)) (leb v (get_or bounds (kind_bounds + j) 0)) x y (ex ∙ as_flag _) (ey ∙ as_flag _)
    ∙ ap (λ (i : ℕ). cond (ltb o (get_or bounds i 0) && leb v (get_or bounds (kind_bounds + i) 0)) 1 0) e

-- a kind and its place are known or not together
place_known : (k : ℕ) → known_kind (min k kind_limit) ≡ known_kind k
place_known k = go (dec_le k kind_limit)
  where
    go : Dec (k ≤ kind_limit) → known_kind (min k kind_limit) ≡ known_kind k
    go (yes l) = let same : min k kind_limit ≡ k = omega arith in rw same
    go (no l) = let last : min k kind_limit ≡ kind_limit = omega arith in rw last (unfold known_kind in sym (rw (lt-leb k 6 (omega arith), lt-leb k 11 (omega arith), and-false (leb 1 k), and-false (leb 8 k))))

-- a value is not above its bound where it is used or 0
value_in_bound : (k v : ℕ) → v ≤ value_limit → leb v (value_bound_of k) ≡ (uses_value k || eqb v 0)
unfolding value_bound_of
value_in_bound k v h = go (uses_value k) (dec_le v 0)
  where
    go : (u : Bool) → Dec (v ≤ 0) → leb v (cond u value_limit 0) ≡ (u || eqb v 0)
    go true d = le-leb v value_limit h
    go false (yes l) = le-leb v 0 l ∙ sym (eq-eqb v 0 (omega arith))
    go false (no l) = lt-leb v 0 (omega arith) ∙ sym (ne_eqb v 0 (λ z. l (omega arith)))

-- within the bounds are the known kinds whose fields fit
in_bounds : (m bounds : List ℕ) (k o v : ℕ) → BoundsOf m bounds → v ≤ value_limit → is_in_bounds bounds k o v ≡ (known_kind k && fields_in_range (seen m) k o v)
unfolding is_in_bounds object_bound_of fields_in_range
in_bounds m bounds k o v h l =
    let j : ℕ = min k kind_limit in
    let low : j ≤ kind_limit = omega arith in
    ap (λ (x : ℕ). ltb o x && leb v (get_or bounds (kind_bounds + j) 0)) (h.object j low)
    ∙ ap (λ (x : ℕ). ltb o (cond (known_kind j) (bound_of (seen m) j) 0) && leb v x) (h.value j low)
    ∙ ap (λ (b : Bool). ltb o (cond (known_kind j) (bound_of (seen m) j) 0) && b) (value_in_bound j v l)
    ∙ ap (λ (b : Bool). ltb o (cond b (bound_of (seen m) j) 0) && (uses_value j || eqb v 0)) (place_known k)
    ∙ go (known_kind k) refl
  where
    go : (b : Bool) → known_kind k ≡ b
        → (ltb o (cond b (bound_of (seen m) (min k kind_limit)) 0) && (uses_value (min k kind_limit) || eqb v 0)) ≡ (b && (ltb o (bound_of (seen m) k) && (uses_value k || eqb v 0)))
    go true e = rw (place (known_says k e))
      where
        place : ((1 ≤ k) × (k ≤ 6)) ⊎ ((8 ≤ k) × (k ≤ 11)) → min k kind_limit ≡ k
        place (inl x) = omega (arith, x.1)
        place (inr x) = omega (arith, x.1)
    go false e = rw (le-ltb o 0 (omega arith))

-- ---- the processor

-- by the number of processors and two marks
module _ (m : List ℕ) (q j : ℕ) (h : MarksCountable m) (small : q < 4294967296) (least : j ≡ min ((q + 18446744073709551615) % 18446744073709551616) processor_limit) where
  -- one that is among the processors
  there : j < processor_count m → q ≡ j + 1
  there l = omega (arith, h.processors, small, least)

  own_marks : j < processor_count m → marks_free m j ≡ is_free (seen m) q
  unfolding marks_free is_free arrived_place awaited_place mainframe
  own_marks l = λ i. arrived i && awake i
    where
      not_not : (b : Bool) → b ≡ not (not b)
      not_not true = refl
      not_not false = refl

      is : q ≡ j + 1
      is = there l

      arrived_place_lem : first_arrived + j ≡ arrived_place mainframe q
      arrived_place_lem = omega (arith, is)

      awaited_place_lem : first_awaited + j ≡ awaited_place mainframe q
      awaited_place_lem = omega (arith, is)

      arrived : eqb (get_or m (first_arrived + j) 0) 0 ≡ not (has_arrived (seen m) q)
      arrived =
          not_not (eqb (get_or m (first_arrived + j) 0) 0)
          ∙ ap (λ (x : ℕ). not (not (eqb (get_or m x 0) 0))) arrived_place_lem
          ∙ ap (λ (b : Bool). not b) (arrived_seen m (not (eqb (arrived_mark m q) 0)) q (omega (arith, is)) (omega (arith, is, l, h.processors)) refl)

      awake : eqb (get_or m (first_awaited + j) 0) 0 ≡ not (waits (seen m).marks q)
      awake =
          not_not (eqb (get_or m (first_awaited + j) 0) 0)
          ∙ ap (λ (x : ℕ). not (not (eqb (get_or m x 0) 0))) awaited_place_lem
          ∙ ap (λ (b : Bool). not b) (waiting_seen m (not (eqb (awaited_mark m q) 0)) q (omega (arith, is)) (omega (arith, is, l, h.processors)) refl)

  -- one that is not
  absent : processor_count m ≤ j → (leb 1 q && leb q (processor_count m)) ≡ false
  absent l = go (dec_le 1 q)
    where
      go : Dec (1 ≤ q) → (leb 1 q && leb q (processor_count m)) ≡ false
      go (yes k) = rw (lt-leb q (processor_count m) (omega (arith, h.processors, small, least, l))) (and-false (leb 1 q))
      go (no k) = rw (lt-leb 1 q (omega arith))

  acts_by_marks : (ltb j (processor_count m) && marks_free m j) ≡ may_act (seen m) q
  unfolding may_act present seen state_in
  acts_by_marks = go (dec_lt j (processor_count m))
    where
      go : Dec (j < processor_count m)
          → (ltb j (processor_count m) && marks_free m j) ≡ (leb 1 q && leb q (processor_count m) && is_free (seen m) q)
      go (yes l) = rw (lt-ltb j (processor_count m) l, le-leb 1 q (omega (arith, there l)), le-leb q (processor_count m) (omega (arith, there l))) (own_marks l)
      go (no l) = rw (le-ltb j (processor_count m) (omega arith), absent (omega arith))

-- the flags of both
pub processor_flagged : (m : List ℕ) (q j n x y : ℕ) → MarksCountable m → Fits w32 q → j ≡ min ((q + 18446744073709551615) % 18446744073709551616) processor_limit
    → (n ≡ processor_count m) × (n < 256) → x ≡ bool_byte (ltb j n) → y ≡ cond (marks_free m j) 1 0 → x * y ≡ cond (may_act (seen m) q) 1 0
processor_flagged m q j n x y h fq least count ex ey =
    both (ltb j n) (marks_free m j) x y (ex ∙ as_flag _) ey
    ∙ ap (λ (i : ℕ). cond (ltb j i && marks_free m j) 1 0) count.0
    ∙ ap (λ (b : Bool). cond b 1 0) (acts_by_marks m q j h fq.fits least)

-- ---- the step

-- both flags set: no row from 3 to 6 refuses, and not 17
pub fits_by_flags : (m bounds : List ℕ) (k p o v x y : ℕ) → BoundsOf m bounds → Fits w32 v → x ≡ cond (is_in_bounds bounds k o v) 1 0 → y ≡ cond (may_act (seen m) p) 1 0
    → eqb (x * y) 1 ≡ step_in_range (seen m) k p o v
unfolding step_in_range
fits_by_flags m bounds k p o v x y h f ex ey =
    ap (λ (z : ℕ). eqb z 1) (both (is_in_bounds bounds k o v) (may_act (seen m) p) x y ex ey)
    ∙ flag_is_one (is_in_bounds bounds k o v && may_act (seen m) p)
    ∙ ap (λ (b : Bool). b && may_act (seen m) p) (in_bounds m bounds k o v h (omega (arith, f.fits)))

-- ---- the bounds

-- a claim of every place of a kind
by_place : (claim : ℕ → Type 0) → claim 0 → claim 1 → claim 2 → claim 3 → claim 4 → claim 5 → claim 6 → claim 7 → claim 8 → claim 9 → claim 10 → claim 11 → claim 12 → (k : ℕ) → k ≤ kind_limit → claim k
by_place claim a₀ a₁ a₂ a₃ a₄ a₅ a₆ a₇ a₈ a₉ a₁₀ a₁₁ a₁₂ zero l = a₀
by_place claim a₀ a₁ a₂ a₃ a₄ a₅ a₆ a₇ a₈ a₉ a₁₀ a₁₁ a₁₂ (suc zero) l = a₁
by_place claim a₀ a₁ a₂ a₃ a₄ a₅ a₆ a₇ a₈ a₉ a₁₀ a₁₁ a₁₂ (suc (suc zero)) l = a₂
by_place claim a₀ a₁ a₂ a₃ a₄ a₅ a₆ a₇ a₈ a₉ a₁₀ a₁₁ a₁₂ (suc (suc (suc zero))) l = a₃
by_place claim a₀ a₁ a₂ a₃ a₄ a₅ a₆ a₇ a₈ a₉ a₁₀ a₁₁ a₁₂ (suc (suc (suc (suc zero)))) l = a₄
by_place claim a₀ a₁ a₂ a₃ a₄ a₅ a₆ a₇ a₈ a₉ a₁₀ a₁₁ a₁₂ (suc (suc (suc (suc (suc zero))))) l = a₅
by_place claim a₀ a₁ a₂ a₃ a₄ a₅ a₆ a₇ a₈ a₉ a₁₀ a₁₁ a₁₂ (suc (suc (suc (suc (suc (suc zero)))))) l = a₆
by_place claim a₀ a₁ a₂ a₃ a₄ a₅ a₆ a₇ a₈ a₉ a₁₀ a₁₁ a₁₂ (suc (suc (suc (suc (suc (suc (suc zero))))))) l = a₇
by_place claim a₀ a₁ a₂ a₃ a₄ a₅ a₆ a₇ a₈ a₉ a₁₀ a₁₁ a₁₂ (suc (suc (suc (suc (suc (suc (suc (suc zero)))))))) l = a₈
by_place claim a₀ a₁ a₂ a₃ a₄ a₅ a₆ a₇ a₈ a₉ a₁₀ a₁₁ a₁₂ (suc (suc (suc (suc (suc (suc (suc (suc (suc zero))))))))) l = a₉
by_place claim a₀ a₁ a₂ a₃ a₄ a₅ a₆ a₇ a₈ a₉ a₁₀ a₁₁ a₁₂ (suc (suc (suc (suc (suc (suc (suc (suc (suc (suc zero)))))))))) l = a₁₀
by_place claim a₀ a₁ a₂ a₃ a₄ a₅ a₆ a₇ a₈ a₉ a₁₀ a₁₁ a₁₂ (suc (suc (suc (suc (suc (suc (suc (suc (suc (suc (suc zero))))))))))) l = a₁₁
by_place claim a₀ a₁ a₂ a₃ a₄ a₅ a₆ a₇ a₈ a₉ a₁₀ a₁₁ a₁₂ (suc (suc (suc (suc (suc (suc (suc (suc (suc (suc (suc (suc zero)))))))))))) l = a₁₂
by_place claim a₀ a₁ a₂ a₃ a₄ a₅ a₆ a₇ a₈ a₉ a₁₀ a₁₁ a₁₂ (suc (suc (suc (suc (suc (suc (suc (suc (suc (suc (suc (suc (suc k))))))))))))) l = absurd (omega arith)

-- the bounds of the marks are such
pub bounds_are : (m : List ℕ) → BoundsOf m (bounds_of m)
unfolding bounds_of object_bound_of value_bound_of bound_of known_kind uses_value seen state_in mainframe
bounds_are m =
    record {
      long = refl;
      object = by_place (λ k. get_or (bounds_of m) k 0 ≡ object_bound_of (seen m) k) refl refl refl refl refl refl refl refl refl refl refl refl refl;
      value = by_place (λ k. get_or (bounds_of m) (kind_bounds + k) 0 ≡ value_bound_of k) refl refl refl refl refl refl refl refl refl refl refl refl refl;
    }
