-- Names for the steps and answers of a run, and the runs that documents 01 and 02 tell by name. Assumes nothing.
use Rattle.std.specs.Prelude.{ℕ, zero, suc, ◌<◌, ◌≡◌, List, [], ◌∷◌, ◌++◌, replicate}
use Rattle.limits.specs.Limits.{word_values, interval_limit}
use Rattle.rules.specs.State.{Counts}
use Rattle.rules.specs.Refusals.{Step, Answer}
use Rattle.rules.specs.Forecast.{Figures}

-- ---- steps: a processor, then the word, lock or tally, then the value

abbrev pub reads : ℕ → ℕ → Step
reads p w = record { kind = 1; processor = p; object = w; value = 0 }

abbrev pub writes : ℕ → ℕ → ℕ → Step
writes p w v = record { kind = 2; processor = p; object = w; value = v }

abbrev pub acquires : ℕ → ℕ → Step
acquires p l = record { kind = 3; processor = p; object = l; value = 0 }

abbrev pub releases : ℕ → ℕ → Step
releases p l = record { kind = 4; processor = p; object = l; value = 0 }

abbrev pub arrives : ℕ → Step
arrives p = record { kind = 5; processor = p; object = 0; value = 0 }

abbrev pub wants : ℕ → Step
wants p = record { kind = 6; processor = p; object = 0; value = 0 }

abbrev pub adds : ℕ → ℕ → ℕ → Step
adds p t v = record { kind = 8; processor = p; object = t; value = v }

abbrev pub totals : ℕ → ℕ → Step
totals p t = record { kind = 9; processor = p; object = t; value = 0 }

abbrev pub enqueues : ℕ → ℕ → Step
enqueues p v = record { kind = 10; processor = p; object = 0; value = v }

abbrev pub dequeues : ℕ → Step
dequeues p = record { kind = 11; processor = p; object = 0; value = 0 }

-- ---- openings and answers

-- so many processors, pages and locks
abbrev pub mainframe_with : ℕ → ℕ → ℕ → Counts
mainframe_with p g l = record { processors = p; pages = g; locks = l }

-- an answer: refusal, value, the count of the records applied, and the number of words that they set
abbrev pub moving : ℕ → ℕ → ℕ → ℕ → Answer
moving r v n k = record { refusal = r; value = v; count = n; words = k }

-- the same where each of the records sets one word
abbrev pub answering : ℕ → ℕ → ℕ → Answer
answering r v n = moving r v n n

-- an accepted step with no value and no count, and no words
abbrev pub accepted : Answer
accepted = answering 0 0 0

-- ---- Listing A

-- "two cards, one page, one lock; 1 acquires lock 0; 1 writes 700 to word 3; 2 reads word 3; 2 acquires; 1 releases; 2 acquires; 2 reads
-- word 3 twice; 1 arrives; 1 reads word 3; 2 wants collection; 2 arrives"
unfoldable pub listing : List Step
listing =
    acquires 1 0 ∷ writes 1 3 700 ∷ reads 2 3 ∷ acquires 2 0 ∷ releases 1 0 ∷ acquires 2 0 ∷ reads 2 3 ∷ reads 2 3 ∷ arrives 1 ∷ reads 1 3 ∷ wants 2 ∷ arrives 2
    ∷ []

-- refusal, value and count of its lines 1 to 12. L1: "In listing A line 4 now shows 0 and line 6 shows 7"; L7: "line 12 of listing A becomes 12 18 0 0"
unfoldable pub listing_answers : List Answer
listing_answers =
    accepted ∷ accepted ∷ accepted ∷ accepted ∷ accepted ∷ answering 7 0 0 ∷ answering 0 700 1 ∷ answering 0 700 0 ∷ accepted ∷ answering 6 0 0 ∷ accepted
    ∷ answering 18 0 0 ∷ []

-- L8: refusal, records standing and dirty pages
abbrev pub figures : ℕ → ℕ → ℕ → Figures
figures r n d = record { refusal = r; standing = n; dirty = d }

-- those of lines 1 to 12
unfoldable pub listing_figures : List Figures
listing_figures =
    figures 0 0 0 ∷ figures 0 0 1 ∷ figures 0 0 1 ∷ figures 0 0 1 ∷ figures 0 1 0 ∷ figures 7 1 0 ∷ figures 0 1 0 ∷ figures 0 1 0 ∷ figures 0 1 0 ∷ figures 6 1 0
    ∷ figures 0 1 0 ∷ figures 18 1 0 ∷ []

-- ---- bench cases

-- steps n times over
unfoldable pub repeated : ℕ → List Step → List Step
repeated zero ts = []
repeated (suc n) ts = ts ++ repeated n ts

-- D, and with the processors exchanged E: under lock 0 processor p stores x in word 0, then q stores y there; then 3 takes the lock and reads the word
unfoldable pub steps_under_lock : ℕ → ℕ → ℕ → ℕ → List Step
steps_under_lock p x q y = acquires p 0 ∷ writes p 0 x ∷ releases p 0 ∷ acquires q 0 ∷ writes q 0 y ∷ releases q 0 ∷ acquires 3 0 ∷ reads 3 0 ∷ []

-- all are accepted; the second write has count 1, and the read answers the second value, count 1: its record replaces the first (L5)
unfoldable pub answers_under_lock : ℕ → List Answer
answers_under_lock y = accepted ∷ accepted ∷ accepted ∷ accepted ∷ answering 0 0 1 ∷ accepted ∷ accepted ∷ answering 0 y 1 ∷ []

-- "Stored values in B, D and E are neither 0 nor equal"; a value field has four bytes
pub record StoredValues (u v : ℕ) : Type 0 where
  pub first_not_0 : u ≡ 0 → ⊥
  pub second_not_0 : v ≡ 0 → ⊥
  pub not_equal : u ≡ v → ⊥
  pub first_fits : u < word_values
  pub second_fits : v < word_values

-- F: "storing 0 over 0 and releasing"
unfoldable pub steps_f : List Step
steps_f = acquires 1 0 ∷ writes 1 0 0 ∷ releases 1 0 ∷ []

-- L2, "so 9 and 10 can come sooner": F as often as a processor has intervals, and the store once more
unfoldable pub equal_stores : List Step
unfolding repeated steps_f
equal_stores = repeated interval_limit steps_f ++ acquires 1 0 ∷ writes 1 0 0 ∷ []

-- L6, "A word that is set to the value it had counts": 1 and 3 store equal values in a race, so each sets the other's word to the value it had
unfoldable pub set_to_what_it_was : List Step
set_to_what_it_was = writes 1 0 7 ∷ writes 3 0 7 ∷ arrives 1 ∷ arrives 2 ∷ arrives 3 ∷ reads 3 0 ∷ reads 1 0 ∷ reads 2 0 ∷ []

-- L8: two processors, two pages and a lock; 2 takes the lock before 1, which waits with two dirty pages and later collects
unfoldable pub two_pages : List Step
two_pages =
    writes 1 0 0 ∷ writes 1 1 0 ∷ writes 1 32 9 ∷ acquires 2 0 ∷ acquires 1 0 ∷ writes 1 0 3 ∷ releases 2 0 ∷ wants 1 ∷ writes 1 5 1 ∷ releases 1 0 ∷ arrives 1
    ∷ writes 1 0 1 ∷ arrives 2 ∷ writes 2 0 1 ∷ []

unfoldable pub two_pages_figures : List Figures
two_pages_figures =
    figures 0 0 1 ∷ figures 0 0 1 ∷ figures 0 0 2 ∷ figures 0 0 2 ∷ figures 0 2 0 ∷ figures 17 2 0 ∷ figures 0 2 0 ∷ figures 0 2 0 ∷ figures 0 2 1 ∷ figures 0 3 0
    ∷ figures 0 3 0 ∷ figures 6 3 0 ∷ figures 0 0 0 ∷ figures 0 0 1 ∷ []

-- ---- L9: the queue

-- "An enqueue precedes .. the dequeue that returns its job": with 1's job its store comes to 2, and not to 3; a second dequeue finds no job
unfoldable pub one_job : List Step
one_job = writes 1 0 5 ∷ enqueues 1 77 ∷ dequeues 2 ∷ reads 2 0 ∷ reads 3 0 ∷ dequeues 2 ∷ []

unfoldable pub one_job_answers : List Answer
one_job_answers = accepted ∷ accepted ∷ answering 0 77 0 ∷ answering 0 5 1 ∷ accepted ∷ answering 20 0 0 ∷ []

-- "and of itself no other": 3 removes 1's job, and 2 the one that 3 added before; 2 hears nothing of 1's store
unfoldable pub no_other_job : List Step
no_other_job = writes 1 0 5 ∷ enqueues 1 1 ∷ enqueues 3 2 ∷ dequeues 3 ∷ dequeues 2 ∷ reads 2 0 ∷ []

unfoldable pub no_other_job_answers : List Answer
no_other_job_answers = accepted ∷ accepted ∷ accepted ∷ answering 0 1 0 ∷ answering 0 2 0 ∷ accepted ∷ []

-- "A collecting round sets the clocks of queued jobs to zeros": 2 stores after the round and dequeues the job; its record is not lost on 1
unfoldable pub collected_job : List Step
collected_job =
    writes 1 0 5 ∷ enqueues 1 1 ∷ wants 1 ∷ arrives 1 ∷ arrives 2 ∷ writes 2 0 6 ∷ dequeues 2 ∷ acquires 2 0 ∷ releases 2 0 ∷ acquires 1 0 ∷ reads 1 0 ∷ dequeues 1 ∷ []

unfoldable pub collected_job_answers : List Answer
collected_job_answers =
    accepted ∷ accepted ∷ accepted ∷ accepted ∷ answering 0 0 1 ∷ accepted ∷ answering 0 1 0 ∷ accepted ∷ accepted ∷ accepted ∷ answering 0 6 1 ∷ answering 20 0 0 ∷ []

-- n jobs of processor p, with the values from v on
unfoldable pub jobs_from : ℕ → ℕ → ℕ → List Step
jobs_from p v zero = []
jobs_from p v (suc n) = enqueues p v ∷ jobs_from p (suc v) n

-- the answers of n dequeues that return these values
unfoldable pub values_from : ℕ → ℕ → List Answer
values_from v zero = []
values_from v (suc n) = answering 0 v 0 ∷ values_from (suc v) n

-- "One queue holds up to 32 jobs, first in first out, and space is used again after each removal": 1 adds 32 jobs, and one more; 2 removes two; 1 adds two,
-- and one more; 2 removes them all, and one more
unfoldable pub full_twice : List Step
unfolding repeated jobs_from
full_twice = jobs_from 1 100 33 ++ repeated 2 (dequeues 2 ∷ []) ++ jobs_from 1 132 3 ++ repeated 33 (dequeues 2 ∷ [])

unfoldable pub full_twice_answers : List Answer
unfolding values_from
full_twice_answers =
    replicate 32 accepted ++ answering 19 0 0 ∷ values_from 100 2 ++ accepted ∷ accepted ∷ answering 19 0 0 ∷ values_from 102 32 ++ answering 20 0 0 ∷ []

-- "The forecast covers both kinds": both close, and a refused one changes nothing
unfoldable pub jobs_forecast : List Step
jobs_forecast = writes 1 0 5 ∷ enqueues 1 77 ∷ writes 2 1 5 ∷ dequeues 2 ∷ dequeues 2 ∷ arrives 1 ∷ enqueues 1 1 ∷ []

unfoldable pub jobs_figures : List Figures
jobs_figures = figures 0 0 1 ∷ figures 0 1 0 ∷ figures 0 1 1 ∷ figures 0 2 0 ∷ figures 20 2 0 ∷ figures 0 2 0 ∷ figures 6 2 0 ∷ []
