-- One record of a step file: what stands before it and after it, and its line. Assumes nothing.
use Rattle.std.specs.Prelude.{ℕ, suc, ◌+◌, Bool, true, false, cond, not, List, [], ◌++◌, leb, eqb}
use Rattle.limits.specs.Files.{step_limit}
use Rattle.layout.specs.Areas.{Areas}
use Rattle.opening.specs.Promises.{open_refusal, areas_opened}
use Rattle.engine.specs.Promises.{answer_of, areas_after}
use Rattle.step_fields.specs.Records.{step_from}
use Rattle.lines.specs.Lines.{line_bytes, refusal_line}

-- what stands after some bytes of a file
pub record Feed : Type 0 where
  -- the number of the next record
  pub number : ℕ
  -- the bytes of a record that has begun
  pub held : List ℕ
  -- whether the run has stopped
  pub stopped : Bool
  -- the lent areas
  pub areas : Areas
  -- the lines so far
  pub lines : List ℕ
  -- L6: the words moved so far
  pub words : ℕ

-- the first record: the opening; a refused one ends the run
unfoldable pub opening_taken : Feed → List ℕ → Feed
opening_taken f bytes =
    record {
      number = 1;
      held = [];
      stopped = not (eqb (open_refusal bytes f.areas) 0);
      areas = areas_opened bytes f.areas;
      lines = f.lines ++ refusal_line 0 (open_refusal bytes f.areas);
      words = 0;
    }

-- a step's record
unfoldable pub step_taken : Feed → List ℕ → Feed
step_taken f bytes =
    let a = answer_of f.areas (step_from bytes) in
    record {
      number = suc f.number;
      held = [];
      stopped = false;
      areas = areas_after f.areas (step_from bytes);
      lines = f.lines ++ line_bytes f.number a.refusal a.value a.count;
      words = f.words + a.words;
    }

-- 16: "a whole record follows the 1,000,000th step record"
unfoldable pub too_many_taken : Feed → Feed
too_many_taken f = record { number = f.number; held = []; stopped = true; areas = f.areas; lines = f.lines ++ refusal_line f.number 16; words = f.words }

-- a whole record
unfoldable pub record_taken : Feed → List ℕ → Feed
record_taken f bytes =
    cond (eqb f.number 0) (opening_taken f bytes)
    (cond (leb f.number step_limit) (step_taken f bytes)
    (too_many_taken f))
