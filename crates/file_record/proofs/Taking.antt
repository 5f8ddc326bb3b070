-- The line of a step's outcome, and the opening taken. One law for each way of the code. Assumes nothing.
use Prim.Native.Nat.{◌+◌, ◌-◌, ℕ}
use native.Mathlib.Omega.{arith}
use mathlib.Core.Path.{◌∙◌, ◌≡◌, ap, refl, sym}
use mathlib.Core.Bool.{Bool, ◌&&◌, false, not, true}
use mathlib.Core.List.{List, [], ◌++◌}
use lib.ListN.{drop, take}
use lib.Dec.{eqb}
use mir.Syntax.{w32, w64}
use mir.Val.{Fits}
use borrow.Author.Tests.{eq-eqb, ne_eqb}
use Rattle.std.specs.Prelude.{Ok, Err}
use Rattle.limits.specs.Files.{file_record_width, line_limit}
use Rattle.rules.specs.InOrder.{is_in_order}
use Rattle.rules.specs.State.{mainframe}
use Rattle.rules.proofs.inorder.InOrderWhen.{in_order_when}
use Rattle.layout.specs.Areas.{state_in, Areas, areas}
use Rattle.layout.specs.inner.Needed.{Ready}
use Rattle.layout.proofs.Encoding.{lent_right}
use Rattle.inorder.specs.Areas.{areas_in_order}
use Rattle.inorder.specs.Areas.{OrderIs}
use Rattle.opening.specs.Promises.{areas_opened, open_refusal}
use Rattle.opening.proofs.Following.{opened_ready}
use Rattle.step_access.specs.declared.Answered.{Answered}
use Rattle.step_act.specs.Telling.{Outcome, outcome_count, outcome_value, outcome_words, told}
use Rattle.lines.specs.Lines.{line_bytes, refusal_line}
use Rattle.lines.specs.inner.Needed.{Room}
use Rattle.file_record.specs.Records.{opening_taken}
use Rattle.file_record.specs.declared.Stand.{Stand}
use Rattle.file_lines.specs.inner.Needed.{LinePut}
use Rattle.file_record.specs.inner.Needed.{Reply, OpenedAs, Takeable, RecordTaken, TotalThere, WordsAdded, reply_of, outcome_line, stands_at, reply_words}

-- ---- the line of what a step answers

module _ (out : List ℕ) (at number : ℕ) (out' : List ℕ) (end : ℕ) where
  -- the line of a step that was done
  pub done_line : (o : Reply) (a : Answered) → o ≡ Ok a → LinePut out at (line_bytes number 0 a.value a.count) out' end → LinePut out at (outcome_line number o) out' end
  unfolding outcome_line
  done_line o a e h = rw e h

  -- of one that was refused
  pub refused_line : (o : Reply) (r n : ℕ) → o ≡ Err r → n ≡ r → LinePut out at (line_bytes number n 0 0) out' end → LinePut out at (outcome_line number o) out' end
  unfolding outcome_line
  refused_line o r n e f h = rw (e, ← f) h

-- the line of an outcome has the four numbers that it tells
pub line_told : (number : ℕ) (o : Outcome) → outcome_line number (reply_of o) ≡ line_bytes number (told o).refusal (told o).value (told o).count
unfolding outcome_line reply_of told outcome_value outcome_count
line_told number (Ok a) = refl
line_told number (Err r) = refl

-- ---- the words of a step

module _ (total : ℕ) (o : Reply) where
  -- of one that was done: the sum is a number of 64 bits
  pub total_fits : (number n : ℕ) → TotalThere total number → Fits w32 n → Fits w64 (total + n)
  total_fits number n h f = omega (arith, h.few, h.bounded, f.fits)

  pub words_done : (a : Answered) (n : ℕ) → o ≡ Ok a → n ≡ a.words → Fits w32 a.words → WordsAdded total o (total + n)
  unfolding reply_words
  words_done a n e f k = rw (e, f) (record { is = refl; few = omega (arith, k.fits) })

  -- of one that was refused
  pub words_refused : (r : ℕ) → o ≡ Err r → WordsAdded total o total
  unfolding reply_words
  words_refused r e = rw e (record { is = omega arith; few = omega arith })

-- the words of an outcome are those that it tells
pub words_told : (o : Outcome) → reply_words (reply_of o) ≡ (told o).words
unfolding reply_words reply_of told outcome_words
words_told (Ok a) = refl
words_told (Err r) = refl

-- ---- the order of the areas

-- memory that is ready is in order
pub ready_order : (c w r m : List ℕ) → Ready c w r m → OrderIs true c w r m
unfolding areas_in_order
ready_order c w r m h =
    record {
      is =
          sym
          (ap (λ (b : Bool). b && is_in_order mainframe (state_in mainframe c w r m)) (lent_right c w r m h.lent)
          ∙ in_order_when mainframe (state_in mainframe c w r m) h.in_order);
    }

-- areas that are the same are in the same order
same_order : (b : Bool) (c w r m c' w' r' m' : List ℕ) → OrderIs b c w r m → areas c' w' r' m' ≡ areas c w r m → OrderIs b c' w' r' m'
unfolding areas
same_order b c w r m c' w' r' m' h e =
    record { is = h.is ∙ ap (λ (a : Areas). areas_in_order a.clocks a.words a.records a.marks) (sym e) }

-- ---- what stands after a record

-- the stand, its lines and its areas by their parts
pub stands : (number : ℕ) (stopped ready : Bool) (end moved : ℕ) (out : List ℕ) (a : Areas) (lines : List ℕ) (b : Areas) → take end out ≡ lines → a ≡ b
    → stands_at (record { number = number; stopped = stopped; ready = ready; at = end; words = moved }) out a
    ≡ record { number = number; held = []; stopped = stopped; areas = b; lines = lines; words = moved }
unfolding stands_at
stands number stopped ready end moved out a lines b e f =
    ap (λ (l : List ℕ). record { number = number; held = []; stopped = stopped; areas = a; lines = l; words = moved }) e
    ∙ ap (λ (x : Areas). record { number = number; held = []; stopped = stopped; areas = x; lines = lines; words = moved }) f

module _ (s : Stand) (bytes : List ℕ) (from : ℕ) (out c w r m : List ℕ) where
  -- a refused opening: nothing is laid
  module _ (n : ℕ) (c' w' r' m' : List ℕ) (k : ℕ) (out' : List ℕ) (end : ℕ) (h : Takeable s bytes from out c w r m)
      (o : OpenedAs (take file_record_width (drop from bytes)) c w r m n c' w' r' m') (e : k ≡ n) (p : LinePut out s.at (line_bytes 0 k 0 0) out' end) where
    opening_line : take end out' ≡ take s.at out ++ refusal_line 0 (open_refusal (take file_record_width (drop from bytes)) (areas c w r m))
    unfolding refusal_line
    opening_line = p.lines ∙ ap (λ (j : ℕ). take s.at out ++ line_bytes 0 j 0 0) (e ∙ o.refusal)

    pub refused_opening_taken : (n ≡ 0 → ⊥)
        → RecordTaken (opening_taken (stands_at s out (areas c w r m)) (take file_record_width (drop from bytes))) s out (record { number = 1; stopped = true; ready = s.ready; at = end; words = 0 }) out' c' w' r' m'
    unfolding opening_taken stands_at areas_opened
    refused_opening_taken z =
        let no : eqb (open_refusal (take file_record_width (drop from bytes)) (areas c w r m)) 0 ≡ false = ne_eqb _ 0 (λ q. z (o.refusal ∙ q)) in
        record {
          is =
              stands 1 true s.ready end 0 out' (areas c' w' r' m') _ _ opening_line o.laid
              ∙ ap (λ (b : Bool). record { number = 1; held = []; stopped = not b; areas = areas_opened (take file_record_width (drop from bytes)) (areas c w r m); lines = take s.at out ++ refusal_line 0 (open_refusal (take file_record_width (drop from bytes)) (areas c w r m)); words = 0 })
              (sym no);
          few = omega arith;
          total = omega arith;
          kept = p.kept;
          near = p.near;
          order = same_order s.ready c w r m c' w' r' m' h.order (o.laid ∙ rw no refl);
        }

    pub accepted_opening_taken : n ≡ 0
        → RecordTaken (opening_taken (stands_at s out (areas c w r m)) (take file_record_width (drop from bytes))) s out (record { number = 1; stopped = false; ready = true; at = end; words = 0 }) out' c' w' r' m'
    unfolding opening_taken stands_at
    accepted_opening_taken z =
        let yes : eqb (open_refusal (take file_record_width (drop from bytes)) (areas c w r m)) 0 ≡ true = eq-eqb _ 0 (sym o.refusal ∙ z) in
        record {
          is =
              stands 1 false true end 0 out' (areas c' w' r' m') _ _ opening_line o.laid
              ∙ ap (λ (b : Bool). record { number = 1; held = []; stopped = not b; areas = areas_opened (take file_record_width (drop from bytes)) (areas c w r m); lines = take s.at out ++ refusal_line 0 (open_refusal (take file_record_width (drop from bytes)) (areas c w r m)); words = 0 })
              (sym yes);
          few = omega arith;
          total = omega arith;
          kept = p.kept;
          near = p.near;
          order = ready_order c' w' r' m' (opened_ready (take file_record_width (drop from bytes)) c w r m c' w' r' m' (sym o.refusal ∙ z) o.laid);
        }

  -- what the ways ask
  pub room_for_line : Takeable s bytes from out c w r m → Room out s.at line_limit
  room_for_line h = record { room = h.room }

-- the eight bytes of an opening, as a part of the bytes
pub opened_as : (bytes : List ℕ) (from : ℕ) (c w r m : List ℕ) (n : ℕ) (c' w' r' m' : List ℕ)
    → n ≡ open_refusal (take (from + file_record_width - from) (drop from bytes)) (areas c w r m)
    → areas c' w' r' m' ≡ areas_opened (take (from + file_record_width - from) (drop from bytes)) (areas c w r m)
    → OpenedAs (take file_record_width (drop from bytes)) c w r m n c' w' r' m'
opened_as bytes from c w r m n c' w' r' m' e f =
    let k : from + file_record_width - from ≡ file_record_width = omega arith in
    record {
      refusal = e ∙ ap (λ (j : ℕ). open_refusal (take j (drop from bytes)) (areas c w r m)) k;
      laid = f ∙ ap (λ (j : ℕ). areas_opened (take j (drop from bytes)) (areas c w r m)) k;
    }
