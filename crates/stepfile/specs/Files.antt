-- Document 01, "The step file and run program": the lines that are printed for a whole file. Assumes nothing.
use Rattle.std.specs.Prelude.{ℕ, suc, ◌+◌, ◌%◌, cond, List, [], ◌∷◌, ◌++◌, length, take, ltb, eqb}
use Rattle.limits.specs.Files.{file_record_width, step_limit}
use Rattle.rules.specs.Opening.{opening_refusal, opened}
use Rattle.rules.specs.Refusals.{Answer}
use Rattle.rules.specs.Runs.{answers, words_moved}
use Rattle.rules.specs.State.{mainframe, State}
use Rattle.opening.specs.Promises.{opening_of}
use Rattle.step_fields.specs.Records.{step_count, file_steps}
use Rattle.lines.specs.Lines.{line_bytes, words_line, refusal_line}

-- "a line a record": the lines of answers, numbered from n on
unfoldable pub answer_lines : ℕ → List Answer → List ℕ
answer_lines n [] = []
answer_lines n (a ∷ rest) = line_bytes n a.refusal a.value a.count ++ answer_lines (suc n) rest

-- how a file ends: 16 where "a whole record follows the 1,000,000th step record", 15 where "it ends within a record"; "The 15 or 16 line has
-- the number the next record would have had". L6: "A run that did not stop at 2, 15 or 16 ends with one extra line", the words moved
unfoldable pub end_line : List ℕ → ℕ → List ℕ
end_line bytes words =
    cond (ltb step_limit (step_count bytes)) (refusal_line (step_limit + 1) 16)
    (cond (eqb (length bytes % file_record_width) 0) (words_line words)
    (refusal_line (step_count bytes + 1) 15))

-- the state that the opening leaves
unfoldable pub opened_by : List ℕ → State
opened_by bytes = opened mainframe (opening_of (take file_record_width bytes)).counts

-- the answers of its steps
unfoldable pub step_answers : List ℕ → List Answer
step_answers bytes = answers mainframe (opened_by bytes) (file_steps bytes)

-- the lines of the steps and the end, behind an accepted opening
unfoldable pub step_lines : List ℕ → List ℕ
step_lines bytes = answer_lines 1 (step_answers bytes) ++ end_line bytes (words_moved (step_answers bytes))

-- the lines of a file: 15 where it ends "before the opening" or within it; "After 2, 15 or 16 it stops"
unfoldable pub file_lines : List ℕ → List ℕ
file_lines bytes =
    cond (ltb (length bytes) file_record_width) (refusal_line 0 15)
    (cond (eqb (opening_refusal mainframe (opening_of (take file_record_width bytes))) 0) (refusal_line 0 0 ++ step_lines bytes)
    (refusal_line 0 2))
