-- What `fields_at` promises. Assumes nothing.
use Rattle.std.specs.Prelude.{ℕ, ◌≡◌, List, drop}
use Rattle.rules.specs.Refusals.{step_of}
use Rattle.step_fields.specs.Records.{step_from}

-- the four fields are those of the record from a place on
pub record FieldsAre (bytes : List ℕ) (at kind processor object value : ℕ) : Type 0 where
  pub is : step_of kind processor object value ≡ step_from (drop at bytes)
