-- One word of what a byte string sets. Assumes nothing.
use Rattle.std.specs.Prelude.{ℕ, List, get_or}
use Rattle.std.proofs.Math.Option.{Option, none}
use Rattle.diff.specs.Reading.{settings}

-- what a byte string does to one word of a page
unfoldable pub setting_at : ℕ → List ℕ → ℕ → Option ℕ
setting_at w bytes i = get_or (settings w bytes) i none
