-- What the functions on clocks leave to show. Assumes nothing.
use Prim.Native.Nat.{ℕ, ◌+◌, ◌*◌, ◌≤◌, ◌<◌}
use native.Mathlib.Numerals.{add-one}
use native.Mathlib.Omega.{arith}
use mathlib.Core.Path.{◌≡◌, refl, sym, ◌∙◌}
use mathlib.Core.Bool.{Bool, true, ◌&&◌}
use mathlib.Core.List.{List}
use lib.ListN.{length, get_or}
use lib.Seq.{ext_get_or}
use borrow.Author.Tests.{leb-true}
use Rattle.lists.specs.Tables.{every}
use Rattle.lists.proofs.Tables.{every_at}
use Rattle.limits.specs.Limits.{interval_limit, processor_limit}
use Rattle.limits.specs.inner.Sizes.{clock_width, first_interval_row, own_step}
use Rattle.lists.proofs.Tabulated.{length_tabulate, get_tabulate}
use Rattle.inorder_records.specs.inner.Tests.{own_fits}
use Rattle.inorder.specs.inner.Tests.{own_entries}
use Rattle.inorder.specs.inner.Needed.{RowsThere, IntervalsOne}

-- ---- a loop that looks at every number and keeps whether all passed

pub every_none : (t : ℕ → Bool) → true ≡ every 0 t
unfolding every
every_none t = refl

pub every_more : (t : ℕ → Bool) (i : ℕ) (all : Bool) → all ≡ every i t → (all && t i) ≡ every (i + 1) t
unfolding every
every_more t i all e = rw (add-one i, e)

-- ---- own entries

-- all are read
pub own_read_all : (c own : List ℕ) → length own ≡ clock_width → ((j : ℕ) → j < processor_limit → get_or own j 0 ≡ get_or c (clock_width + own_step * j) 0) → own ≡ own_entries c
unfolding own_entries
own_read_all c own h first =
    ext_get_or 0 own (own_entries c) (h ∙ sym (length_tabulate processor_limit entry))
    (λ j b. first j (omega (arith, b, h)) ∙ sym (get_tabulate processor_limit entry j 0 (omega (arith, b, h))))
  where
    entry : ℕ → ℕ
    entry j = get_or c (clock_width + own_step * j) 0

-- ---- the intervals' clocks

-- the rows of the intervals' clocks lie within the area
pub interval_rows_there : (own c : List ℕ) (k there : ℕ) → IntervalsOne own c k → there ≡ get_or own k 0 → RowsThere c (first_interval_row + interval_limit * k) interval_limit there
unfolding own_fits
interval_rows_there own c k there p e =
    let fits : get_or own k 0 ≤ interval_limit = leb-true _ _ (every_at processor_limit (own_fits own) k p.own_fit.fit p.processor) in
    record { within = omega (arith, p.clocks, p.processor); among = omega (arith, fits, e) }
