-- The number that digits say when they are read back. Assumes nothing.
use Rattle.std.specs.Prelude.{ℕ, ◌+◌, ◌-◌, ◌*◌, List, [], ◌∷◌}

-- the number that digits say, where those before them say `before`
unfoldable pub value_after : ℕ → List ℕ → ℕ
value_after before [] = before
value_after before (b ∷ bs) = value_after (10 * before + (b - 48)) bs

-- the number that digits say
unfoldable pub value_of : List ℕ → ℕ
value_of bs = value_after 0 bs
