-- Demand 3, the theorem over every list of steps. Start reading here.
--
-- Take any limits with pages of at least one word, any opening that they accept, and any list of steps with any fields, in any order, refused
-- ones too. For every accepted read of a word w in it, look at the accepted writes to w that stand earlier in the list:
--   * if every two of them by different processors are ordered by happens-before-1, and each of them is before the read, then the value
--     answered is the value field of the last of them, or 0 if there are none;
--   * in each case the value answered is 0 or the value field of one of them.
-- happens-before-1 is made from the number of processors, the fields of the steps and whether each was accepted (specs/Order.antt), and the
-- claim is `DemandThree` of specs/Demand.antt. Rests on InvOverTime, WeakHalf, StrongHalf and ListRuns. Assumes nothing.
use Prim.Native.Nat.{ℕ, ◌<◌}
use native.Mathlib.Omega.{arith}
use mathlib.Core.Path.{◌≡◌, ◌∙◌}
use mathlib.Core.List.{List}
use Rattle.rules.specs.State.{Limits, Counts}
use Rattle.rules.specs.Opening.{Opening, opening_refusal, opened}
use Rattle.rules.specs.Steps.{page_of_word, offset_of_word, word_of, read}
use Rattle.rules.specs.Refusals.{Step, Read}
use Rattle.rules.specs.Order.{Event, Took}
use Rattle.rules.specs.Demand.{last_written, Synchronized, Judged, DemandThree}
use Rattle.rules.proofs.inorder.OpenedInOrder.{opened_in_order, opening_counts}
use Rattle.rules.proofs.InOrderRuns.{answers_in_order_lem}
use Rattle.rules.proofs.order.Timeline.{Timeline, counts_stay}
use Rattle.rules.proofs.order.Ghosts.{ghost_at}
use Rattle.rules.proofs.order.ActionKinds.{read_no_acquire, read_no_dequeue}
use Rattle.rules.proofs.order.Allowed.{took_allowed, took_read_page}
use Rattle.rules.proofs.order.NumbersFollow.{knows_all_writes, last_is_last_written}
use Rattle.rules.proofs.demand.WeakHalf.{weak_half}
use Rattle.rules.proofs.invariant.InvOverTime.{offset_in_page, inv_at}
use Rattle.rules.proofs.demand.StrongHalf.{reads_last}
use Rattle.rules.proofs.demand.ListRuns.{events_of, timeline, read_answer}

module _ (lim : Limits) (c : Counts) (es : List Event) (r : Timeline lim c es) where
  strong_half : (j p w : ℕ) → Took es j p (Read w) → Synchronized c.processors es w j → (read lim (r.state j) p w).value ≡ last_written es w j
  unfolding read word_of
  strong_half j p w took sync =
      let ok = took_allowed lim c es r j p (Read w) took in
      let n = counts_stay lim c es r j in
      let l = took_read_page lim c es r j p w took in
      let inv = inv_at lim c es r w j sync.ordered (rw n at l) j (omega arith) in
      let all = knows_all_writes lim c es r w j p (Read w) took (read_no_acquire w) (read_no_dequeue w) (λ i q v e d. sync.before i q v e) in
      reads_last lim (page_of_word lim w) (offset_of_word lim w) (r.state j) (ghost_at lim c es r w j) p (r.ordered j) (offset_in_page lim w r.words_there) ok.from
      (rw n ok.to) l inv all
      ∙ last_is_last_written lim c es r w j

  pub reads_are_judged : (j p w : ℕ) → Took es j p (Read w) → Judged c.processors es w j (read lim (r.state j) p w).value
  reads_are_judged j p w took = record { last = strong_half j p w took; some_write = weak_half lim c es r j p w took }

pub demand_three : (lim : Limits) (o : Opening) → 0 < lim.words → opening_refusal lim o ≡ 0 → (ts : List Step) → DemandThree lim o.counts ts
unfolding DemandThree
demand_three lim o words_there accepted ts =
    rw (answers_in_order_lem lim (opened lim o.counts) ts (opened_in_order lim o.counts (opening_counts lim o accepted)))
    (record {
      reads = λ j p w took.
          rw (read_answer lim o.counts (opening_counts lim o accepted) words_there ts j p w took)
          (reads_are_judged lim o.counts (events_of lim (opened lim o.counts) ts) (timeline lim o.counts (opening_counts lim o accepted) words_there ts) j p w took);
    })
