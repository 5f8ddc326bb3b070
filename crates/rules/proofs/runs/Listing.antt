-- Document 01, Listing A, computed from the rules, and the start of a run that is computed. Assumes nothing.
use Prim.Native.Nat.{ℕ}
use mathlib.Core.Path.{◌≡◌, refl}
use Rattle.lists.specs.Tables.{tabulate, put, put_cell, every, any, total, first_of, select, insert_by, sort_by}
use Rattle.clock.specs.Clocks.{zeros, joined, entry_of, sum_of}
use Rattle.diff.specs.Format.{setting, difference, ended, runs_from, runs, set_words, pair_bytes, word_bytes, words_bytes, bytes_of, written}
use Rattle.diff.specs.Reading.{run_count, runs_at, runs_in, words_place, word_at, words_at, word_count, words_set, settings_of, settings, overlay, applied}
use Rattle.rules.specs.State.{mainframe, clock_of, with_clock, cleared, copy_of, twin_of, dirty_at, slot_bytes, record_in, records_of, laid_over, appended, State, clock, own, standing, holder, has_arrived, with_holder, posted_of, adds_of}
use Rattle.rules.specs.Lines.{waits, waits_for, turn_of, in_line, waiter_at, first_in_line, with_waiter, lock_asked, moved_up, without_waiter, lock_handed}
use Rattle.rules.specs.InOrder.{present, slot_size, dirty_pages}
use Rattle.rules.specs.Opening.{rows, zero_clocks, zero_pages, zero_marks, zero_shared, opened}
use Rattle.rules.specs.Close.{any_dirty, raised, ticked, new_record, recorded, cleaned, closed}
use Rattle.rules.specs.Fetch.{is_pending, sum_at, earlier, due, applied_all, is_set, any_sets, replaced, unreplaced, words_in, applying, with_copy, fetched, fetch_count, fetch_words}
use Rattle.rules.specs.Steps.{page_of_word, offset_of_word, word_of, read, new_twin, twin_taken, stored, write, learned, acquire, lock_told, waiter_told, release, at_barrier, all_arrived, all_learned, round_done, pages_fetched, all_fetched, all_cleared, emptied, collected, wants_collection, arrive, want, place_behind, free_place, enqueue, dequeue}
use Rattle.rules.specs.Tallies.{tally_added, tally_total, total_after, posting}
use Rattle.rules.specs.Refusals.{action_of, known_kind, object_bound, uses_value, fits, holds_any, late_refusal, refusal_by, refusal_in_order, effect, refused_with, answer_in_order, next_in_order}
use Rattle.rules.specs.Runs.{answers_in_order, state_in_order}
use Rattle.rules.specs.Bench.{listing, listing_answers}
-- the names of steps and answers go with it
pub use Rattle.rules.specs.Bench.{reads, writes, acquires, releases, arrives, wants, adds, totals, enqueues, dequeues, moving, answering}

-- the mainframe opened with so many processors, pages and locks; who unfolds it unfolds the rules that a run computes with
unfoldable pub start : ℕ → ℕ → ℕ → State
unfolding mainframe zeros joined entry_of sum_of setting difference ended runs_from runs set_words pair_bytes word_bytes words_bytes bytes_of written run_count runs_at runs_in words_place word_at words_at word_count words_set settings_of settings overlay applied any_dirty raised ticked new_record recorded cleaned closed is_pending sum_at earlier due applied_all is_set any_sets replaced unreplaced words_in applying with_copy fetched fetch_count fetch_words present slot_size dirty_pages rows zero_clocks zero_pages zero_marks zero_shared opened action_of known_kind object_bound uses_value fits holds_any late_refusal refusal_by refusal_in_order effect refused_with answer_in_order next_in_order answers_in_order state_in_order clock_of with_clock cleared copy_of twin_of dirty_at slot_bytes record_in records_of laid_over appended clock own standing holder has_arrived page_of_word offset_of_word word_of read new_twin twin_taken stored write with_holder waits waits_for turn_of in_line waiter_at first_in_line with_waiter lock_asked moved_up without_waiter lock_handed learned acquire lock_told waiter_told release at_barrier all_arrived all_learned round_done pages_fetched all_fetched all_cleared emptied collected wants_collection arrive want place_behind free_place enqueue dequeue posted_of adds_of tally_added tally_total total_after posting tabulate put put_cell every any total first_of select insert_by sort_by
start processors pages locks = opened mainframe (record { processors = processors; pages = pages; locks = locks })

-- the lines 1 to 12 of the listing: refusal, value and count of each step, and the words that it moves
pub computed_listing : answers_in_order mainframe (start 2 1 1) listing ≡ listing_answers
unfolding listing listing_answers start
computed_listing = refl
