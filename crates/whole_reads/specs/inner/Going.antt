-- What holds of a program from turn to turn, whatever it makes of the bytes that it takes. Assumes nothing.
use Rattle.std.specs.Prelude.{ℕ, ◌≤◌, ◌≡◌, Bool, true, false, ◌&&◌, List, ◌++◌, length, take}
use Rattle.whole_reads.specs.Promises.{Flows, comes_next}
use Rattle.whole_reads.specs.declared.Flow.{Flow}
use Rattle.whole_reads.specs.declared.Next.TheVariants.{Take}

-- what a program says of its own memory: with a buffer and room for lines of these lengths, these bytes are taken and these lines made of them; no more
-- will be made or not; and if none will, the input had ended then or not
abbrev pub Standing : Type 1
Standing = ℕ → ℕ → List ℕ → List ℕ → Bool → Bool → Type 0

-- some bytes have been read and some lines written, and the program's memory stands where those taken led; once no more lines will be made all are taken
pub record FlowGoing (S : Standing) (f : Flow) (buffer out : List ℕ) : Type 0 where
  pub read : List ℕ
  pub taken : List ℕ
  pub made : List ℕ
  pub written : List ℕ
  pub flows : Flows read taken made written f buffer out
  pub stands : S (length buffer) (length out) taken made f.done (f.done && f.ended)
  pub emptied : f.done ≡ true → f.have ≡ 0

-- a read: the bytes that came stand behind those read before
pub record ReadOn (f : Flow) (buffer : List ℕ) (f' : Flow) (buffer' : List ℕ) : Type 0 where
  pub came : List ℕ
  pub on : (read taken made written out : List ℕ) → Flows read taken made written f buffer out → Flows (read ++ came) taken made written f' buffer' out
  pub long : length buffer' ≡ length buffer
  pub done : f'.done ≡ f.done

-- the bytes that stand in the buffer, the end of the input and whether more lines will be made are as they were
pub record InputKept (f f' : Flow) : Type 0 where
  pub have : f'.have ≡ f.have
  pub ended : f'.ended ≡ f.ended
  pub done : f'.done ≡ f.done

-- a write: the bytes that went stand behind those written before
pub record WroteOn (f : Flow) (out : List ℕ) (f' : Flow) : Type 0 where
  pub went : List ℕ
  pub on : (read taken made written buffer : List ℕ) → Flows read taken made written f buffer out → Flows read taken made (written ++ went) f' buffer out
  pub input : InputKept f f'

-- the bytes in the buffer are taken next
pub record TakesNext (S : Standing) (f : Flow) (buffer out : List ℕ) : Type 0 where
  pub next : comes_next f (length buffer) ≡ Take
  pub going : FlowGoing S f buffer out

-- they are taken: n bytes of lines are made of them, and the memory stands where they led
pub record Takes (S S' : Standing) (f : Flow) (buffer out' : List ℕ) (n : ℕ) (done : Bool) : Type 0 where
  pub few : n ≤ length out'
  pub on : (taken made : List ℕ) → S (length buffer) (length out') taken made false false
      → S' (length buffer) (length out') (taken ++ take f.have buffer) (made ++ take n out') done (done && f.ended)
