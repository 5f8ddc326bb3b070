-- Document 02, L5 and L6: what a fetch skips, and what an answer tells of a step's fetches: the records applied, and the number of words that they
-- set. Assumes nothing.
use Rattle.std.specs.Prelude.{ℕ, suc, ◌+◌, ◌<◌, ◌≡◌, true, false, cond, ◌↔◌, List, [], ◌∷◌, length, get_or, take}
use Rattle.std.proofs.Math.Option.{none}
use Rattle.lists.specs.Tables.{total}
use Rattle.diff.specs.Reading.{settings, words_set}
use Rattle.rules.specs.State.{Limits, mainframe, Counts, Record, State}
use Rattle.rules.specs.Opening.{opened}
use Rattle.rules.specs.Fetch.{applied_all, is_set, any_sets, replaced, unreplaced, skipped, fetch_count, fetch_words}
use Rattle.rules.specs.Steps.{Effect, page_of_word, at_barrier, all_arrived, round_done, pages_fetched, all_fetched, wants_collection}
use Rattle.rules.specs.Refusals.{Step, Action, Read, Write, Acquire, Release, Arrive, Want, TallyAdd, TallyRead, Enqueue, Dequeue, Answer, accepted_as, refused_with, effect}
use Rattle.rules.specs.Runs.{state_after}
use Rattle.rules.specs.Order.{events, event_at, Took}

-- ---- L5: what is skipped

-- the records not skipped where only later ones that are not skipped themselves count
unfoldable pub unreplaced_by : ℕ → List Record → List Record
unreplaced_by w [] = []
unreplaced_by w (r ∷ rs) = cond (replaced w r (unreplaced_by w rs)) (unreplaced_by w rs) (r ∷ unreplaced_by w rs)

-- what holds of skipping on pages of w words, for any records and pages
pub record Skips (w : ℕ) : Type 0 where
  -- "a record each of whose words is set again by later records of that fetch is skipped"
  pub exactly : (r : Record) (rs : List Record)
      → replaced w r rs ≡ true ↔ ((o : ℕ) → o < w → is_set (get_or (settings w r.diff) o none) ≡ true → any_sets w o rs ≡ true)
  -- "a record with no words is always skipped"
  pub no_words : (r : Record) (rs : List Record) → words_set r.diff ≡ 0 → replaced w r rs ≡ true
  -- whether skipped records count among the later ones or not
  pub readings_agree : (rs : List Record) → unreplaced_by w rs ≡ unreplaced w rs
  -- applied and skipped are all, each once
  pub all_of_them : (rs : List Record) → length (unreplaced w rs) + length (skipped w rs) ≡ length rs
  -- "The copy afterwards must equal the one that applying all would give, races or not"
  pub same_copy : (rs : List Record) (page : List ℕ) → length page ≡ w → applied_all w (unreplaced w rs) page ≡ applied_all w rs page

-- ---- what a step brings: a count and a number of words

-- the fetch of one page
pub record FetchBrings (lim : Limits) (s : State) (p g : ℕ) (e : Effect) : Type 0 where
  pub count : e.count ≡ fetch_count lim s p g
  pub words : e.words ≡ fetch_words lim s p g

-- nothing
pub record BringsNothing (e : Effect) : Type 0 where
  pub count : e.count ≡ 0
  pub words : e.words ≡ 0

-- the fetches of a collection from the state s: "each card upwards fetches each page upwards", and the sums over them
pub record CollectionBrings (lim : Limits) (s : State) (e : Effect) : Type 0 where
  pub count : e.count
      ≡ total s.counts.processors (λ k. total s.counts.pages (λ g. fetch_count lim (pages_fetched lim (all_fetched lim s k).after (suc k) g).after (suc k) g))
  pub words : e.words
      ≡ total s.counts.processors (λ k. total s.counts.pages (λ g. fetch_words lim (pages_fetched lim (all_fetched lim s k).after (suc k) g).after (suc k) g))

-- an arrival: what the collection brings that it makes, else nothing
pub record ArrivalBrings (lim : Limits) (s : State) (p : ℕ) (e : Effect) : Type 0 where
  pub collecting : all_arrived (at_barrier s p) ≡ true → wants_collection (at_barrier s p) ≡ true → CollectionBrings lim (round_done (at_barrier s p)) e
  pub not_wanted : wants_collection (at_barrier s p) ≡ false → BringsNothing e
  pub not_last : all_arrived (at_barrier s p) ≡ false → BringsNothing e

-- "fetch, read, write and the collecting arrival hand on their sums", and no other step brings anything
pub record StepsMove (lim : Limits) (s : State) (p : ℕ) : Type 0 where
  pub by_read : (w : ℕ) → FetchBrings lim s p (page_of_word lim w) (effect lim s p (Read w))
  pub by_write : (w v : ℕ) → FetchBrings lim s p (page_of_word lim w) (effect lim s p (Write w v))
  pub by_acquire : (l : ℕ) → BringsNothing (effect lim s p (Acquire l))
  pub by_release : (l : ℕ) → BringsNothing (effect lim s p (Release l))
  pub by_arrival : ArrivalBrings lim s p (effect lim s p Arrive)
  pub by_want : BringsNothing (effect lim s p Want)
  pub by_add : (t v : ℕ) → BringsNothing (effect lim s p (TallyAdd t v))
  pub by_total : (t : ℕ) → BringsNothing (effect lim s p (TallyRead t))
  pub by_enqueue : (v : ℕ) → BringsNothing (effect lim s p (Enqueue v))
  pub by_dequeue : BringsNothing (effect lim s p Dequeue)

-- ---- what answers tell of it

-- each accepted step answers the value, count and words of its effect on the state that the steps before it left, a refused one none
pub record EffectsTold (c : Counts) (ts : List Step) (answered : List Answer) : Type 0 where
  pub taken : (j p : ℕ) (a : Action) → Took (events ts answered) j p a
      → get_or answered j (refused_with 3) ≡ accepted_as (effect mainframe (state_after mainframe (opened mainframe c) (take j ts)) p a)
  pub refused : (j : ℕ) → (event_at (events ts answered) j).accepted ≡ false → get_or answered j (refused_with 3) ≡ refused_with (get_or answered j (refused_with 3)).refusal
