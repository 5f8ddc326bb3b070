-- What comes next, and what holds then. Assumes nothing.
use Prim.Native.Nat.{ℕ, ◌<◌, ◌≤◌}
use native.Mathlib.Omega.{arith}
use mathlib.Core.Path.{◌≡◌, refl, sym, ap, subst, ◌∙◌}
use mathlib.Core.Bool.{Bool, true, false, false≢true, cond, ◌||◌}
use mathlib.Core.List.{List, ◌++◌, append-nil}
use lib.Dec.{ltb, leb}
use Rattle.std.specs.Prelude.{Option, None, Some, is_some}
use borrow.Author.Tests.{ltb-true, ltb-false, leb-false, lt-leb}
use Rattle.lists.proofs.Parts.{no_part}
use Rattle.whole_reads.specs.Promises.{FlowBegins, Flows, NextAs, comes_next, left_to_write}
use Rattle.whole_reads.specs.declared.Flow.{Flow}
use Rattle.whole_reads.specs.declared.Failure.{Failure}
use Rattle.whole_reads.specs.declared.Next.{Next}
use Rattle.whole_reads.specs.declared.Next.TheVariants.{Read, Take, Write, Stop}

-- ---- what holds where an action comes next

-- nothing went wrong, all lines are written, and more will be made
pub record MoreDue (f : Flow) : Type 0 where
  pub fine : f.failure ≡ None
  pub none : f.to ≤ f.from
  pub more : f.done ≡ false

-- the input has not ended, and the buffer has room
pub record FlowMayRead (f : Flow) (room : ℕ) : Type 0 where
  pub due : MoreDue f
  pub goes : f.ended ≡ false
  pub fits : f.have < room

-- the input has ended, or the buffer is full
pub record MayTake (f : Flow) (room : ℕ) : Type 0 where
  pub due : MoreDue f
  pub whole : (f.ended || leb room f.have) ≡ true

-- all lines are written, and no more will be made
pub record Over (f : Flow) : Type 0 where
  pub none : f.to ≤ f.from
  pub done : f.done ≡ true

abbrev Holding : Flow → ℕ → Next → Type 0
Holding f room Read = FlowMayRead f room
Holding f room Take = MayTake f room
Holding f room Write = f.from < f.to
Holding f room Stop = f.failure ≡ None → Over f

no_failure : (x : Option Failure) → is_some x ≡ false → x ≡ None
no_failure None e = refl
no_failure (Some x) e = absurd (false≢true (sym e))

holding : (f : Flow) (room : ℕ) → Holding f room (comes_next f room)
unfolding comes_next
holding f room = go (is_some f.failure) (ltb f.from f.to) f.done (f.ended || leb room f.have) refl refl refl refl
  where
    due : is_some f.failure ≡ false → ltb f.from f.to ≡ false → f.done ≡ false → MoreDue f
    due p q r = record { fine = no_failure f.failure p; none = ltb-false f.from f.to q; more = r }

    unfull : (a b : Bool) → f.ended ≡ a → leb room f.have ≡ b → (a || b) ≡ false → MoreDue f → FlowMayRead f room
    unfull true b s t z m = absurd (false≢true (sym z))
    unfull false true s t z m = absurd (false≢true (sym z))
    unfull false false s t z m = record { due = m; goes = s; fits = leb-false room f.have t }

    go : (n l d k : Bool) → is_some f.failure ≡ n → ltb f.from f.to ≡ l → f.done ≡ d → (f.ended || leb room f.have) ≡ k
        → Holding f room (cond n Stop (cond l Write (cond d Stop (cond k Take Read))))
    go true l d k p q r s = λ w. absurd (false≢true (sym (ap is_some w) ∙ p))
    go false true d k p q r s = ltb-true f.from f.to q
    go false false true k p q r s = λ w. record { none = ltb-false f.from f.to q; done = r }
    go false false false true p q r s = record { due = due p q r; whole = s }
    go false false false false p q r s = unfull f.ended (leb room f.have) refl refl s (due p q r)

pub flow_reading : (f : Flow) (room : ℕ) → comes_next f room ≡ Read → FlowMayRead f room
flow_reading f room e = subst (Holding f room) e (holding f room)

pub taking : (f : Flow) (room : ℕ) → comes_next f room ≡ Take → MayTake f room
taking f room e = subst (Holding f room) e (holding f room)

pub stopping : (f : Flow) (room : ℕ) → comes_next f room ≡ Stop → f.failure ≡ None → Over f
stopping f room e = subst (Holding f room) e (holding f room)

-- all lines that were made have been written
pub all_written : (read taken made written : List ℕ) (f : Flow) (buffer out : List ℕ) → Flows read taken made written f buffer out → f.to ≤ f.from → written ≡ made
unfolding left_to_write
all_written read taken made written f buffer out h l =
    sym (append-nil written) ∙ ap (λ (xs : List ℕ). written ++ xs) (sym (no_part f.from f.to out l)) ∙ h.lines

-- ---- the promises

-- nothing has been read or written
pub flow_begins : FlowBegins (record { have = 0; ended = false; from = 0; to = 0; done = false; failure = None })
unfolding comes_next left_to_write
flow_begins =
    record {
      flows = λ buffer out. record { bytes = refl; filled = omega arith; lines = refl; ordered = omega arith; within = omega arith };
      reads = λ room l. rw (lt-leb room 0 (omega arith));
    }

-- what comes next, and that nothing is left undone where the program stops
pub next_is : (f : Flow) (room : ℕ) (x : Next) → x ≡ comes_next f room → NextAs f room x
next_is f room x e =
    record {
      is = e;
      all = λ read taken made written buffer out y w h.
          let o : Over f = stopping f room (sym e ∙ y) w in (o.done, all_written read taken made written f buffer out h o.none);
    }
