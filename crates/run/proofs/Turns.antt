-- From turn to turn: what `run_loop` promises of a read and of a write keeps what holds. `turn_laws`. Assumes nothing.
use Prim.Native.Nat.{ℕ}
use mathlib.Core.Path.{◌≡◌, sym, ◌∙◌}
use mathlib.Core.Bool.{Bool, true, false, cond}
use mathlib.Core.List.{List, [], ◌++◌}
use lib.ListN.{length}
use lib.Dec.{eqb}
use borrow.Author.Rules.{rules}
use Rattle.std.specs.Prelude.{Some, Result, Ok, Err}
use Rattle.layout.specs.Areas.{areas, right_sizes}
use Rattle.layout.proofs.Encoding.{lent_right}
use Rattle.run_loop.specs.Promises.{Begins, GotAs, NextIs, PutAs, failed_run, bytes_moved, pending, put_run, wrote_run}
use Rattle.run_loop.specs.declared.Run.{Run}
use Rattle.run_loop.specs.declared.Fault.TheVariants.{Writing}
use Rattle.run_loop.specs.declared.Action.{Action}
use Rattle.run_loop.specs.declared.Action.TheVariants.{Read}
use Rattle.run_loop.proofs.Coming.{reads_faultless}
use Rattle.run.specs.inner.Going.{Ample, Underway, Keeps, Possible, ReadsNext}

-- ---- faults

-- a failed write is no chunk that was not fed
writing_possible : Possible (Some Writing)
writing_possible = record { fed = λ e. cc }

pub going_possible : (s : Run) (chunk out c w r m : List ℕ) → Underway s chunk out c w r m → Possible s.fault
going_possible s chunk out c w r m g = g.possible

-- ---- the start

pub going_begins : (s : Run) (chunk out c w r m : List ℕ) → Begins s → Ample chunk out c w r m → Underway s chunk out c w r m
unfolding right_sizes areas
going_begins s chunk out c w r m b z =
    record {
      roomy = z.roomy;
      first = areas c w r m;
      read = [];
      written = [];
      runs = b.runs (areas c w r m) out (lent_right c w r m z.lent);
      possible = record { fed = λ e. cc (reads_faultless s b.reads, e) };
    }

-- ---- a read

pub readable : (s : Run) (x : Action) (chunk out c w r m : List ℕ) → NextIs s x → x ≡ Read → Underway s chunk out c w r m → ReadsNext s chunk out c w r m
readable s x chunk out c w r m h e g = record { next = sym h.is ∙ e; going = g }

-- whatever the read left in the chunk
pub readable_still : (s : Run) (chunk chunk' out c w r m : List ℕ) → length chunk' ≡ length chunk → ReadsNext s chunk out c w r m → ReadsNext s chunk' out c w r m
readable_still s chunk chunk' out c w r m e h =
    let g : Underway s chunk out c w r m = h.going in
    record {
      next = h.next;
      going =
          record {
            roomy = record { room = rw e g.roomy.room };
            first = g.first;
            read = g.read;
            written = g.written;
            runs = g.runs;
            possible = g.possible;
          };
    }

pub going_got : (s : Run) (got : Result ℕ Bool) (chunk out c w r m : List ℕ) (s' : Run) (out' c' w' r' m' : List ℕ) → GotAs s got chunk out (areas c w r m) s' out' (areas c' w' r' m')
    → ReadsNext s chunk out c w r m → length out' ≡ length out → Underway s' chunk out' c' w' r' m'
going_got s got chunk out c w r m s' out' c' w' r' m' h y e =
    let g : Underway s chunk out c w r m = y.going in
    record {
      roomy = record { room = rw e g.roomy.room };
      first = g.first;
      read = g.read ++ bytes_moved got chunk;
      written = g.written;
      runs = h.runs g.first g.read g.written y.next g.roomy.room g.runs;
      possible = record { fed = h.fed g.first g.read g.written y.next g.roomy.room g.runs };
    }

-- ---- a write

put_possible : (s : Run) (put : Result ℕ Bool) (out : List ℕ) → Possible s.fault → Possible (put_run s put out).fault
unfolding put_run failed_run wrote_run
put_possible s (Ok n) out p = go (eqb (length (bytes_moved (Ok n) (pending s out))) 0)
  where
    go : (b : Bool) → Possible (cond b (Some Writing) s.fault)
    go true = writing_possible
    go false = p
put_possible s (Err true) out p = p
put_possible s (Err false) out p = writing_possible

pub keeps_put : (s : Run) (put : Result ℕ Bool) (out : List ℕ) (s' : Run) → PutAs s put out s' → Keeps s out s'
keeps_put s put out s' h =
    record {
      on = λ chunk c w r m g.
          record {
            roomy = g.roomy;
            first = g.first;
            read = g.read;
            written = g.written ++ bytes_moved put (pending s out);
            runs = h.runs g.first g.read g.written (areas c w r m) g.runs;
            possible = rw h.run (put_possible s put out g.possible);
          };
    }

pub going_kept : (s : Run) (out : List ℕ) (s' : Run) (chunk c w r m : List ℕ) → Keeps s out s' → Underway s chunk out c w r m → Underway s' chunk out c w r m
going_kept s out s' chunk c w r m k g = k.on chunk c w r m g

pub ruleset turn_laws = (going_possible, going_begins, readable, readable_still, going_got, keeps_put, going_kept, rules)
