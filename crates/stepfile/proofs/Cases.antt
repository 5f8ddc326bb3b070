-- Small files and Listing A, computed: the lines of the whole file, and those that feeding it byte by byte prints. Rests on Whole. Assumes
-- nothing.
use Prim.Native.Nat.{ℕ, min}
use mathlib.Core.Path.{◌≡◌, refl, sym, ap, ◌∙◌}
use mathlib.Core.Bool.{true}
use mathlib.Core.List.{List, [], ◌∷◌, ◌++◌}
use lib.ListN.{drop, replicate}
use Rattle.limits.specs.Files.{file_record_width, step_limit}
use Rattle.limits.specs.inner.Sizes.{clock_area, mark_area, record_area, word_area}
use Rattle.rules.specs.InOrder.{slot_size, in_range, counts_in_range}
use Rattle.rules.specs.Opening.{opening_refusal}
use Rattle.rules.specs.Refusals.{Step, Answer}
use Rattle.rules.specs.Runs.{answers, words_moved}
use Rattle.rules.specs.State.{mainframe, State}
use Rattle.rules.specs.Bench.{listing, listing_answers}
use Rattle.rules.proofs.runs.Listing.{start}
use Rattle.rules.proofs.runs.FromStart.{listing_a_lem}
use Rattle.layout.specs.Areas.{clock_rows, word_places, word_rows, first_place, jobs_place, mark_places, sizes_right, Areas, areas, right_sizes}
use Rattle.opening.specs.Promises.{opening_of, open_refusal, areas_opened}
use Rattle.step_fields.specs.Records.{step_from, steps_in, step_count}
use Rattle.lines.specs.Decimal.{digits_within, digits}
use Rattle.lines.specs.Lines.{line_bytes, words_line, refusal_line}
use Rattle.file_record.specs.Records.{opening_taken, record_taken}
use Rattle.file_chunk.specs.Bytes.{held_on, byte_taken, bytes_taken}
use Rattle.stepfile.specs.Files.{answer_lines, end_line, opened_by, step_answers, step_lines, file_lines}
use Rattle.stepfile.specs.ListingA.{listing_bytes, listing_lines}
use Rattle.stepfile.specs.Feeding.{begun, after, last_line_of}
use Rattle.stepfile.specs.Promises.{progress_of, finish_line}
use Rattle.stepfile.proofs.Whole.{whole_lines}

-- areas of the fixed sizes, all 0
unfoldable blank : Areas
blank = areas (replicate clock_area 0) (replicate word_area 0) (replicate record_area 0) (replicate mark_area 0)

blank_sizes : right_sizes blank ≡ true
unfolding right_sizes blank areas sizes_right clock_rows word_places word_rows first_place jobs_place mark_places slot_size mainframe
blank_sizes = refl

-- all lines that feeding prints; who unfolds it unfolds what feeding computes with, but no step
unfoldable fed : List ℕ → List ℕ
unfolding blank areas after bytes_taken byte_taken held_on record_taken opening_taken open_refusal areas_opened right_sizes sizes_right clock_rows word_places word_rows first_place jobs_place mark_places slot_size begun progress_of finish_line last_line_of opening_refusal counts_in_range in_range mainframe opening_of refusal_line line_bytes words_line digits digits_within
fed bytes = (after blank bytes).lines ++ finish_line (progress_of (after blank bytes))

-- ---- a file that ends before its opening, or within it: "0 15 0 0"

unfoldable line_15 : List ℕ
line_15 = 48 ∷ 32 ∷ 49 ∷ 53 ∷ 32 ∷ 48 ∷ 32 ∷ 48 ∷ 10 ∷ []

empty_file : file_lines [] ≡ line_15
unfolding file_lines refusal_line line_bytes digits digits_within line_15
empty_file = refl

empty_fed : fed [] ≡ line_15
unfolding fed line_15
empty_fed = refl

three_bytes : file_lines (0 ∷ 2 ∷ 1 ∷ []) ≡ line_15
unfolding file_lines refusal_line line_bytes digits digits_within line_15
three_bytes = refl

three_fed : fed (0 ∷ 2 ∷ 1 ∷ []) ≡ line_15
unfolding fed line_15
three_fed = refl

-- ---- an opening with nine processors, and two bytes behind it: "0 2 0 0", and nothing more

unfoldable bad_opening : List ℕ
bad_opening = 0 ∷ 9 ∷ 1 ∷ 1 ∷ 0 ∷ 0 ∷ 0 ∷ 0 ∷ 1 ∷ 1 ∷ []

unfoldable line_2 : List ℕ
line_2 = 48 ∷ 32 ∷ 50 ∷ 32 ∷ 48 ∷ 32 ∷ 48 ∷ 10 ∷ []

bad_opening_lem : file_lines bad_opening ≡ line_2
unfolding bad_opening file_lines opening_refusal counts_in_range in_range mainframe opening_of refusal_line line_bytes digits digits_within line_2
bad_opening_lem = refl

bad_opening_fed : fed bad_opening ≡ line_2
unfolding bad_opening fed line_2
bad_opening_fed = refl

-- ---- an opening and a record cut after three bytes: "0 0 0 0", "1 15 0 0"

unfoldable bytes_cut_short : List ℕ
bytes_cut_short = 0 ∷ 2 ∷ 1 ∷ 1 ∷ 0 ∷ 0 ∷ 0 ∷ 0 ∷ 3 ∷ 1 ∷ 0 ∷ []

unfoldable lines_0_15 : List ℕ
lines_0_15 = 48 ∷ 32 ∷ 48 ∷ 32 ∷ 48 ∷ 32 ∷ 48 ∷ 10 ∷ 49 ∷ 32 ∷ 49 ∷ 53 ∷ 32 ∷ 48 ∷ 32 ∷ 48 ∷ 10 ∷ []

cut_record : file_lines bytes_cut_short ≡ lines_0_15
unfolding bytes_cut_short file_lines step_lines step_answers step_count end_line steps_in answers answer_lines words_moved opening_refusal counts_in_range in_range mainframe opening_of refusal_line line_bytes digits digits_within lines_0_15
cut_record = refl

cut_record_fed : fed bytes_cut_short ≡ lines_0_15
unfolding bytes_cut_short fed lines_0_15
cut_record_fed = refl

-- ---- an opening alone: "0 0 0 0", "words 0"

unfoldable opening_alone : List ℕ
opening_alone = 0 ∷ 3 ∷ 1 ∷ 1 ∷ 0 ∷ 0 ∷ 0 ∷ 0 ∷ []

unfoldable lines_0_words : List ℕ
lines_0_words = 48 ∷ 32 ∷ 48 ∷ 32 ∷ 48 ∷ 32 ∷ 48 ∷ 10 ∷ 119 ∷ 111 ∷ 114 ∷ 100 ∷ 115 ∷ 32 ∷ 48 ∷ 10 ∷ []

opening_alone_lem : file_lines opening_alone ≡ lines_0_words
unfolding opening_alone file_lines step_lines step_answers step_count end_line steps_in answers answer_lines words_moved opening_refusal counts_in_range in_range mainframe opening_of refusal_line line_bytes words_line digits digits_within lines_0_words
opening_alone_lem = refl

opening_alone_fed : fed opening_alone ≡ lines_0_words
unfolding opening_alone fed lines_0_words
opening_alone_fed = refl

-- ---- Listing A

listing_state : opened_by listing_bytes ≡ start 2 1 1
unfolding opened_by opening_of listing_bytes start
listing_state = refl

pub listing_steps : steps_in (min (step_count listing_bytes) step_limit) (drop file_record_width listing_bytes) ≡ listing
unfolding steps_in step_from step_count listing_bytes listing
listing_steps = refl

listing_answers_lem : step_answers listing_bytes ≡ listing_answers
unfolding step_answers
listing_answers_lem =
    ap (λ (s : State). answers mainframe s (steps_in (min (step_count listing_bytes) step_limit) (drop file_record_width listing_bytes))) listing_state
    ∙ ap (λ (ts : List Step). answers mainframe (start 2 1 1) ts) listing_steps
    ∙ listing_a_lem

-- the lines of the answers that the rules give (rules/proofs/FromStart.antt)
pub listing_file : file_lines listing_bytes ≡ listing_lines
unfolding listing_answers file_lines step_lines step_answers step_count end_line answer_lines words_moved opening_refusal counts_in_range in_range mainframe opening_of refusal_line line_bytes words_line digits digits_within listing_bytes listing_lines
listing_file = ap (λ (xs : List Answer). refusal_line 0 0 ++ (answer_lines 1 xs ++ end_line listing_bytes (words_moved xs))) listing_answers_lem

-- and feeding its bytes prints them
listing_fed : fed listing_bytes ≡ listing_lines
unfolding fed
listing_fed =
    sym (whole_lines blank (after blank listing_bytes).areas listing_bytes (progress_of (after blank listing_bytes)) blank_sizes (record { progress = refl; areas = refl }))
    ∙ listing_file
