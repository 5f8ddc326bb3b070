-- Document 01, "Records of eight bytes": the steps that a byte string holds. Assumes nothing.
use Rattle.std.specs.Prelude.{ℕ, zero, suc, ◌+◌, ◌-◌, ◌*◌, ◌/◌, min, List, [], ◌∷◌, length, get_or, drop}
use Rattle.limits.specs.Files.{file_record_width, step_limit}
use Rattle.rules.specs.Refusals.{Step}

-- "kind, card, object (two bytes, low first), value (four, low first)": the step in the first eight bytes
unfoldable pub step_from : List ℕ → Step
step_from bytes =
    record {
      kind = get_or bytes 0 0;
      processor = get_or bytes 1 0;
      object = get_or bytes 2 0 + 256 * get_or bytes 3 0;
      value = get_or bytes 4 0 + 256 * get_or bytes 5 0 + 65536 * get_or bytes 6 0 + 16777216 * get_or bytes 7 0;
    }

-- the steps in the first n records
unfoldable pub steps_in : ℕ → List ℕ → List Step
steps_in zero bytes = []
steps_in (suc n) bytes = step_from bytes ∷ steps_in n (drop file_record_width bytes)

-- how many whole records stand behind the opening of a file
unfoldable pub step_count : List ℕ → ℕ
step_count bytes = (length bytes - file_record_width) / file_record_width

-- the steps of a file: its records behind the opening, up to the 1,000,000th
abbrev pub file_steps : List ℕ → List Step
file_steps bytes = steps_in (min (step_count bytes) step_limit) (drop file_record_width bytes)
