-- What an opening answers and leaves in lent memory, for every input. Assumes nothing.
use Rattle.std.specs.Prelude.{ℕ, ◌+◌, ◌*◌, cond, not, List, length, get_or, eqb}
use Rattle.limits.specs.Files.{file_record_width}
use Rattle.rules.specs.Opening.{Opening, opening_refusal, opened}
use Rattle.rules.specs.State.{mainframe}
use Rattle.layout.specs.Areas.{Areas, holding, right_sizes}

-- "The opening record holds 0, cards, pages, locks, four zeros"
unfoldable pub opening_of : List ℕ → Opening
opening_of bytes =
    record {
      first = get_or bytes 0 0;
      counts = record { processors = get_or bytes 1 0; pages = get_or bytes 2 0; locks = get_or bytes 3 0 };
      rest = get_or bytes 4 0 + 256 * get_or bytes 5 0 + 65536 * get_or bytes 6 0 + 16777216 * get_or bytes 7 0;
    }

-- the refusal of an opening: 1 for areas of a wrong size; 2 also for a record that is not eight bytes
unfoldable pub open_refusal : List ℕ → Areas → ℕ
open_refusal bytes a =
    cond (not (right_sizes a)) 1
    (cond (not (eqb (length bytes) file_record_width)) 2
    (opening_refusal mainframe (opening_of bytes)))

-- the areas after an opening: exactly the opened state, whatever they held
unfoldable pub areas_opened : List ℕ → Areas → Areas
areas_opened bytes a = cond (eqb (open_refusal bytes a) 0) (holding (opened mainframe (opening_of bytes).counts)) a
