-- What a caller has after an accepted opening: memory in order, that holds the opened state. Assumes nothing.
use Prim.Native.Nat.{ℕ}
use mathlib.Core.Path.{◌≡◌, ap, ◌∙◌}
use mathlib.Core.Bool.{Bool, true, false, cond, not}
use mathlib.Core.List.{List}
use lib.ListN.{length}
use lib.Dec.{eqb}
use native.Mathlib.Omega.{arith}
use Rattle.limits.specs.Files.{file_record_width}
use Rattle.rules.specs.Opening.{opening_refusal, opened}
use Rattle.rules.specs.State.{mainframe, State}
use Rattle.rules.proofs.inorder.Facts.{Sized}
use Rattle.rules.proofs.inorder.OpenedInOrder.{opened_sized, opened_in_order, opening_counts}
use Rattle.rules.proofs.order.Nobody.{opened_nobody_marked}
use Rattle.layout.specs.Areas.{Areas, areas, holding, right_sizes}
use Rattle.layout.specs.inner.Needed.{Ready, Holds}
use Rattle.layout.proofs.Decoding.{encoded_lent, decoded}
use Rattle.opening.specs.Promises.{opening_of, open_refusal, areas_opened}

-- the areas hold the opened state
pub opened_holds : (bs c w r m : List ℕ) → areas c w r m ≡ holding (opened mainframe (opening_of bs).counts) → Holds c w r m (opened mainframe (opening_of bs).counts)
unfolding areas holding opened
opened_holds bs c w r m e =
    rw (ap (λ (a : Areas). a.clocks) e, ap (λ (a : Areas). a.words) e, ap (λ (a : Areas). a.records) e, ap (λ (a : Areas). a.marks) e)
    (record { lent = encoded_lent s sized; is = decoded s sized (opened_nobody_marked mainframe (opening_of bs).counts) })
  where
    s : State
    s = opened mainframe (opening_of bs).counts

    sized : Sized mainframe s
    sized = opened_sized mainframe (opening_of bs).counts

-- an accepted opening is one that the rules accept
pub accepted_opening : (bs : List ℕ) (a : Areas) → open_refusal bs a ≡ 0 → opening_refusal mainframe (opening_of bs) ≡ 0
unfolding open_refusal
accepted_opening bs a e = go (right_sizes a) (eqb (length bs) file_record_width) (opening_refusal mainframe (opening_of bs)) e
  where
    go : (s l : Bool) (n : ℕ) → cond (not s) 1 (cond (not l) 2 n) ≡ 0 → n ≡ 0
    go true true n z = z
    go true false n z = absurd (omega arith)
    go false l n z = absurd (omega arith)

-- after an accepted opening the memory is in order
pub opened_ready : (bs c w r m c' w' r' m' : List ℕ) → open_refusal bs (areas c w r m) ≡ 0 → areas c' w' r' m' ≡ areas_opened bs (areas c w r m)
    → Ready c' w' r' m'
unfolding areas_opened
opened_ready bs c w r m c' w' r' m' z e =
    let is : areas c' w' r' m' ≡ holding (opened mainframe (opening_of bs).counts)
    = e ∙ ap (λ (n : ℕ). cond (eqb n 0) (holding (opened mainframe (opening_of bs).counts)) (areas c w r m)) z in
    let h = opened_holds bs c' w' r' m' is in
    record {
      lent = h.lent;
      in_order = rw h.is (opened_in_order mainframe (opening_of bs).counts (opening_counts mainframe (opening_of bs) (accepted_opening bs (areas c w r m) z)));
    }
