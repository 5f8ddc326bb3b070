-- Document 01, "Where each refusal is checked", rows 1 to 10 for a step, with document 02's rows 17 to 20, and what a step does and answers. Assumes nothing.
use Rattle.std.specs.Prelude.{ℕ, ◌+◌, ◌*◌, Bool, cond, not, ◌&&◌, ◌||◌, leb, ltb, eqb}
use Rattle.lists.specs.Tables.{any}
use Rattle.rules.specs.State.{Limits, dirty_at, State, own, holder, has_arrived}
use Rattle.rules.specs.Lines.{waits}
use Rattle.rules.specs.InOrder.{present, dirty_pages, is_in_order}
use Rattle.rules.specs.Steps.{Effect, silent, page_of_word, read, write, acquire, release, arrive, want, tally_add, tally_read, enqueue, dequeue}

-- a step's four fields, any numbers: kind, processor, object (a word, a lock or a tally) and value
pub record Step : Type 0 where
  pub kind : ℕ
  pub processor : ℕ
  pub object : ℕ
  pub value : ℕ

-- the step of four fields
unfoldable pub step_of : ℕ → ℕ → ℕ → ℕ → Step
step_of kind processor object value = record { kind = kind; processor = processor; object = object; value = value }

-- the kinds of step with the fields that each uses
pub data Action : Type 0 where
  Read : ℕ → Action
  Write : ℕ → ℕ → Action
  Acquire : ℕ → Action
  Release : ℕ → Action
  Arrive : Action
  Want : Action
  TallyAdd : ℕ → ℕ → Action
  TallyRead : ℕ → Action
  Enqueue : ℕ → Action
  Dequeue : Action
  Unknown : Action

-- what a step asks for, by its kind
unfoldable pub action_of : Step → Action
action_of t =
    cond (eqb t.kind 1) (Read t.object)
    (cond (eqb t.kind 2) (Write t.object t.value)
    (cond (eqb t.kind 3) (Acquire t.object)
    (cond (eqb t.kind 4) (Release t.object)
    (cond (eqb t.kind 5) Arrive
    (cond (eqb t.kind 6) Want
    (cond (eqb t.kind 8) (TallyAdd t.object t.value)
    (cond (eqb t.kind 9) (TallyRead t.object)
    (cond (eqb t.kind 10) (Enqueue t.value)
    (cond (eqb t.kind 11) Dequeue
    Unknown)))))))))

-- 3: "kind not 1 to 6"; L4: "kinds 8 and 9 leave the reach of 3"; L9: "kinds 10 and 11 leave the reach of 3"
unfoldable pub known_kind : ℕ → Bool
known_kind kind = (leb 1 kind && leb kind 6) || (leb 8 kind && leb kind 11)

-- the fields of a kind, a row a kind: the object is below this number, which is 1 where no object is used. L9: "The object of both kinds is 0"
unfoldable pub object_bound : Limits → State → Action → ℕ
object_bound lim s (Read w) = s.counts.pages * lim.words
object_bound lim s (Write w v) = s.counts.pages * lim.words
object_bound lim s (Acquire l) = s.counts.locks
object_bound lim s (Release l) = s.counts.locks
object_bound lim s Arrive = 1
object_bound lim s Want = 1
object_bound lim s (TallyAdd t v) = lim.tallies
object_bound lim s (TallyRead t) = lim.tallies
object_bound lim s (Enqueue v) = 1
object_bound lim s Dequeue = 1
object_bound lim s Unknown = 1

-- "value is used by kind 2 alone", by L4's kind 8 and by L9's kind 10: "kind 11 has no value field in use"
unfoldable pub uses_value : ℕ → Bool
uses_value kind = eqb kind 2 || eqb kind 8 || eqb kind 10

-- 5: "word or lock absent, or an unused field not 0"; L4: "an absent tally is 5"
unfoldable pub fits : Limits → State → Step → Bool
fits lim s t = ltb t.object (object_bound lim s (action_of t)) && (uses_value t.kind || eqb t.value 0)

-- L7: whether processor p holds a lock
unfoldable pub holds_any : Limits → State → ℕ → Bool
holds_any lim s p = any lim.locks (λ l. eqb (holder s l) p)

-- 7: "7 remains for the holder's own acquire" (L1); 8: "this card is not the holder"; for a write to a clean page 9: "own entry is 63" and
-- 10: "records plus dirty pages are 128"; L7: "18, an arrival by a holder, after 17"; L9: "19, enqueue with 32 jobs waiting; 20, dequeue with none";
-- e is the own entry of processor p
unfoldable pub late_refusal : Limits → State → ℕ → ℕ → Action → ℕ
late_refusal lim s e p (Read w) = 0
late_refusal lim s e p (Write w v) =
    cond (dirty_at s.pages p (page_of_word lim w)) 0
    (cond (eqb e lim.intervals) 9
    (cond (eqb (s.records.standing + dirty_pages s) lim.records) 10
    0))
late_refusal lim s e p (Acquire l) = cond (eqb (holder s l) p) 7 0
late_refusal lim s e p (Release l) = cond (eqb (holder s l) p) 0 8
late_refusal lim s e p Arrive = cond (holds_any lim s p) 18 0
late_refusal lim s e p Want = 0
late_refusal lim s e p (TallyAdd t v) = 0
late_refusal lim s e p (TallyRead t) = 0
late_refusal lim s e p (Enqueue v) = cond (eqb s.marks.jobs lim.jobs) 19 0
late_refusal lim s e p Dequeue = cond (eqb s.marks.jobs 0) 20 0
late_refusal lim s e p Unknown = 0

-- the rows 3 to 10 and 17 to 20, for a state in order whose processor has the own entry e; 6: "card has arrived, round not complete"; L1: "17, a step by a
-- waiting card, after 6"
unfoldable pub refusal_by : Limits → State → ℕ → Step → ℕ
refusal_by lim s e t =
    cond (not (known_kind t.kind)) 3
    (cond (not (present s t.processor)) 4
    (cond (not (fits lim s t)) 5
    (cond (has_arrived s t.processor) 6
    (cond (waits s.marks t.processor) 17
    (late_refusal lim s e t.processor (action_of t))))))

-- the same with the own entry of the step's processor
unfoldable pub refusal_in_order : Limits → State → Step → ℕ
refusal_in_order lim s t = refusal_by lim s (own s t.processor) t

-- what an accepted step does
unfoldable pub effect : Limits → State → ℕ → Action → Effect
effect lim s p (Read w) = read lim s p w
effect lim s p (Write w v) = write lim s p w v
effect lim s p (Acquire l) = silent (acquire s p l)
effect lim s p (Release l) = silent (release s p l)
effect lim s p Arrive = record { after = (arrive lim s p).after; value = 0; count = (arrive lim s p).count; words = (arrive lim s p).words }
effect lim s p Want = silent (want s)
effect lim s p (TallyAdd t v) = silent (tally_add s p t v)
effect lim s p (TallyRead t) = tally_read s p t
effect lim s p (Enqueue v) = silent (enqueue lim s p v)
effect lim s p Dequeue = dequeue lim s p
effect lim s p Unknown = silent s

-- what a step answers
pub record Answer : Type 0 where
  pub refusal : ℕ
  pub value : ℕ
  pub count : ℕ
  pub words : ℕ

-- an accepted step
abbrev pub accepted_as : Effect → Answer
accepted_as e = record { refusal = 0; value = e.value; count = e.count; words = e.words }

-- a refusal: "Value 0, count 0", and no words
unfoldable pub refused_with : ℕ → Answer
refused_with n = record { refusal = n; value = 0; count = 0; words = 0 }

-- what a step answers and leaves where the state is in order; on a refusal "every lent area untouched"
unfoldable pub answer_in_order : Limits → State → Step → Answer
answer_in_order lim s t =
    cond (eqb (refusal_in_order lim s t) 0)
    (accepted_as (effect lim s t.processor (action_of t)))
    (refused_with (refusal_in_order lim s t))

-- the state that a step leaves there
unfoldable pub next_in_order : Limits → State → Step → State
next_in_order lim s t = cond (eqb (refusal_in_order lim s t) 0) (effect lim s t.processor (action_of t)).after s

-- the same in any state; 1: "not in order"
unfoldable pub refusal : Limits → State → Step → ℕ
refusal lim s t = cond (is_in_order lim s) (refusal_in_order lim s t) 1

-- what a step answers in any state
unfoldable pub answer : Limits → State → Step → Answer
answer lim s t = cond (is_in_order lim s) (answer_in_order lim s t) (refused_with 1)

-- the state that it leaves
unfoldable pub next : Limits → State → Step → State
next lim s t = cond (is_in_order lim s) (next_in_order lim s t) s
