-- The kinds of step by name and by number (document 01, "Steps"; L4, L9). Assumes nothing.
use Rattle.std.specs.Prelude.{ℕ, ◌≡◌, true, false, Result, Ok, Err}
use Rattle.limits.specs.declared.Refusal.{Refusal}
use Rattle.limits.specs.declared.Refusal.TheVariants.{UnknownKind}
use Rattle.rules.specs.Refusals.{known_kind}
use Rattle.step_fields.specs.declared.kinds.Kind.{Kind}
use Rattle.step_fields.specs.declared.kinds.Kind.TheVariants.{Read, Write, Acquire, Release, Arrive, Want, TallyAdd, TallyRead, Enqueue, Dequeue}

-- the number that stands for a kind in the field of a step
abbrev pub number_of_kind : Kind → ℕ
number_of_kind Read = 1
number_of_kind Write = 2
number_of_kind Acquire = 3
number_of_kind Release = 4
number_of_kind Arrive = 5
number_of_kind Want = 6
number_of_kind TallyAdd = 8
number_of_kind TallyRead = 9
number_of_kind Enqueue = 10
number_of_kind Dequeue = 11

-- the kind of a number that row 3 does not refuse, else row 3's refusal
abbrev pub Decodes : ℕ → Result Kind Refusal → Type 0
Decodes n (Ok kind) = (number_of_kind kind ≡ n) × (known_kind n ≡ true)
Decodes n (Err refusal) = (refusal ≡ UnknownKind) × (known_kind n ≡ false)
