-- Refusals have numbers from 1 on, and no two have the same. Assumes nothing.
use Prim.Native.Nat.{ℕ, suc}
use native.Mathlib.Omega.{arith}
use mathlib.Core.Path.{◌≡◌, refl, sym}
use borrow.Author.Tests.{ne_eqb}
use denote.Enum.Bare.{tag_one}
use denote.Enum.Declared.{tag_of}
use Rattle.std.specs.Prelude.{Result, Ok, Err, is_ok, eqb}
use Rattle.limits.specs.contracts.Refusal.{the_type}
use Rattle.limits.specs.declared.Refusal.{Refusal}
use Rattle.limits.specs.declared.Refusal.TheVariants.{NotInOrder, BadOpening, UnknownKind, AbsentProcessor, BadField, HasArrived, HoldsAlready, NotHolder, NoIntervalLeft, NoRecordLeft, BadLength, BadPair, NoRoom, BadPage, EndsShort, TooManySteps, Waits, ArrivesHolding, QueueFull, QueueEmpty}
use Rattle.limits.specs.Refused.{number_of, refusal_in}

-- the rows are numbered in their order
number_in_order : (r : Refusal) → number_of r ≡ suc (tag_of the_type r)
number_in_order NotInOrder = refl
number_in_order BadOpening = refl
number_in_order UnknownKind = refl
number_in_order AbsentProcessor = refl
number_in_order BadField = refl
number_in_order HasArrived = refl
number_in_order HoldsAlready = refl
number_in_order NotHolder = refl
number_in_order NoIntervalLeft = refl
number_in_order NoRecordLeft = refl
number_in_order BadLength = refl
number_in_order BadPair = refl
number_in_order NoRoom = refl
number_in_order BadPage = refl
number_in_order EndsShort = refl
number_in_order TooManySteps = refl
number_in_order Waits = refl
number_in_order ArrivesHolding = refl
number_in_order QueueFull = refl
number_in_order QueueEmpty = refl

-- no refusal has the number 0
pub number_of_pos : (r : Refusal) → number_of r ≡ 0 → ⊥
number_of_pos r e = omega (arith, number_in_order r, e)

-- refusals with one number are one
pub number_of_inj : (r q : Refusal) → number_of r ≡ number_of q → r ≡ q
number_of_inj r q e = tag_one the_type tt r q (omega (arith, number_in_order r, number_in_order q, e))

-- nothing is refused where the number is 0
pub ok_is_0 : {T : Type 0} (r : Result T Refusal) → is_ok r ≡ eqb (refusal_in r) 0
ok_is_0 (Ok x) = refl
ok_is_0 (Err u) = sym (ne_eqb (number_of u) 0 (number_of_pos u))
