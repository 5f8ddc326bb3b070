-- Document 02, L2: "Storing the same value counts as a store". What it leaves untouched: the value of an ordered read, and that no refusal depends on a
-- stored value; closing keeps records and dirty pages together; and runs in which an equal store is noted. One interval and one record for each store and
-- release: case F (`Cases.antt`). Rests on KeptClose, Outlines. Assumes nothing.
use Prim.Native.Nat.{ℕ, ◌+◌, ◌≤◌}
use native.Mathlib.Omega.{arith}
use mathlib.Core.Path.{◌≡◌, refl, sym, ap, ap₂, ◌∙◌}
use mathlib.Core.Bool.{Bool, true, false, cond}
use mathlib.Core.List.{List, [], ◌∷◌, map}
use Rattle.clock.specs.Clocks.{entry_of}
use Rattle.diff.specs.Format.{written}
use Rattle.diff.proofs.Theorems.{equal_pages}
use Rattle.rules.specs.State.{Limits, mainframe, Processor, clock_of, copy_of, dirty_at, State, clock, own, standing}
use Rattle.rules.specs.InOrder.{present, dirty_pages, in_range, counts_in_range, is_in_order}
use Rattle.rules.specs.Close.{any_dirty, ticked, new_record, closed}
use Rattle.rules.specs.Fetch.{fetched}
use Rattle.rules.specs.Steps.{page_of_word, write}
use Rattle.rules.specs.Refusals.{Step, Read, Write, Answer, effect, next_in_order}
use Rattle.rules.specs.Runs.{answers, answers_in_order}
use Rattle.rules.specs.Order.{events, Took}
use Rattle.rules.specs.Waiting.{refusal_at}
use Rattle.rules.specs.Bench.{equal_stores}
use Rattle.rules.specs.Noted.{ClosingNotes, outline, without_value, refusals_of}
use Rattle.rules.specs.Demand.{last_written, Synchronized, value_at, ReadsJudged}
use Rattle.rules.proofs.state.Outlines.{refused_alike, next_alike, value_refused, value_alike}
use Rattle.rules.proofs.state.Slots.{records_recorded}
use Rattle.rules.proofs.inorder.Facts.{slots_enough}
use Rattle.rules.proofs.inorder.Accepted.{present_says}
use Rattle.rules.proofs.inorder.KeptRounds.{own_ticked_same}
use Rattle.rules.proofs.inorder.KeptParts.{own_in, parts_of}
use Rattle.rules.proofs.inorder.InOrderSays.{in_order_says}
use Rattle.rules.proofs.inorder.KeptNewRecords.{recorded_below}
use Rattle.rules.proofs.inorder.KeptPages.{dirty_pages_cleaned}
use Rattle.rules.proofs.inorder.KeptClose.{closing_ready}
use Rattle.rules.proofs.invariant.InvStore.{stored_dirty}
use Rattle.rules.proofs.InOrderRuns.{answers_in_order_lem}
use Rattle.rules.proofs.demand.ListRuns.{answer_refusal}
use Rattle.rules.proofs.runs.Listing.{reads, writes, acquires, releases, start, answering}
use Rattle.rules.proofs.runs.StoredCases.{accepted}
use Rattle.rules.proofs.runs.FromStart.{answers_from_start}

-- ---- "over the same accepted steps the value of a read that meets demand 3's premise, though not always its count, is untouched"

-- two lists of answers to the same steps, with the same ones accepted, each judged by demand 3
pub ordered_reads_by_events : (n : ℕ) (ts : List Step) (a b : List Answer) → ReadsJudged n ts a → ReadsJudged n ts b → events ts a ≡ events ts b
    → (j p w : ℕ) → Took (events ts a) j p (Read w) → Synchronized n (events ts a) w j → value_at a j ≡ value_at b j
ordered_reads_by_events n ts a b x y same j p w took s =
    let took_b : Took (events ts b) j p (Read w) = rw same at took in
    let s_b : Synchronized n (events ts b) w j = rw same at s in
    (x.reads j p w took).last s ∙ ap (λ es. last_written es w j) same ∙ sym ((y.reads j p w took_b).last s_b)

-- ---- "each dirty page now gets a record at closing"

-- closing turns each dirty page into a record: together they stay as many
closing_keeps_sum : (lim : Limits) (s : State) (p : ℕ) → is_in_order lim s ≡ true → present s p ≡ true
    → (closed s p).records.standing + dirty_pages (closed s p) ≡ s.records.standing + dirty_pages s
unfolding closed present dirty_pages
closing_keeps_sum lim s p e a =
    let f = parts_of lim s (in_order_says lim s e) in
    let r = recorded_below lim s p (own_in (ticked s p)) s.counts.pages (closing_ready lim s p f a) (omega arith) in
    omega (arith, r.standing_grown, dirty_pages_cleaned s.counts s.pages p a)

-- the own entry rises where a page is dirty
closing_raises : (s : State) (p : ℕ) → 1 ≤ p → own (closed s p) p ≡ own s p + cond (any_dirty s p) 1 0
unfolding closed own clock
closing_raises s p from = go (any_dirty s p)
  where
    go : (b : Bool) → entry_of (clock_of (cond b (ticked s p) s.clocks) (Processor p)) p ≡ own s p + cond b 1 0
    go true = own_ticked_same s p from
    go false = omega arith

pub closing_notes : (lim : Limits) (s : State) (p : ℕ) → is_in_order lim s ≡ true → present s p ≡ true → ClosingNotes s p
unfolding closed standing new_record
closing_notes lim s p e a =
    record {
      records = records_recorded s p s.counts.pages (slots_enough lim s (in_order_says lim s e));
      equal = λ g same. ap (λ (l : List ℕ). written l (copy_of s.pages p g)) same ∙ equal_pages (copy_of s.pages p g);
      interval = closing_raises s p (present_says s p a).0;
      room = closing_keeps_sum lim s p e a;
    }

-- a page that is written is dirty after it
pub written_is_dirty : (lim : Limits) (s : State) (p w v : ℕ) → dirty_at (effect lim s p (Write w v)).after.pages p (page_of_word lim w) ≡ true
unfolding effect write
written_is_dirty lim s p w v = stored_dirty lim (fetched lim s p (page_of_word lim w)).pages p w v

-- ---- "no refusal depends on a stored value"

-- the same steps without their values, from a state alike
refusals_without : (lim : Limits) (s s' : State) (ts : List Step) → outline s ≡ outline s' → refusals_of (answers_in_order lim s ts) ≡ refusals_of (answers_in_order lim s' (map without_value ts))
unfolding answers_in_order refusals_of
refusals_without lim s s' [] e = refl
refusals_without lim s s' (t ∷ ts) e =
    ap₂ ◌∷◌ (answer_refusal lim s t ∙ refused_alike lim s s' t e ∙ value_refused lim s' t ∙ sym (answer_refusal lim s' (without_value t)))
    (refusals_without lim (next_in_order lim s t) (next_in_order lim s' (without_value t)) ts (next_alike lim s s' t e ∙ value_alike lim s' t))

-- two states in order, alike but for words, twins and diffs, and two lists of steps, alike but for what they store: every step is refused alike
pub refusals_alike : (lim : Limits) (s s' : State) (ts ts' : List Step) → is_in_order lim s ≡ true → is_in_order lim s' ≡ true → outline s ≡ outline s'
    → map without_value ts ≡ map without_value ts' → refusals_of (answers lim s ts) ≡ refusals_of (answers lim s' ts')
refusals_alike lim s s' ts ts' o o' e same =
    rw (answers_in_order_lem lim s ts (in_order_says lim s o), answers_in_order_lem lim s' ts' (in_order_says lim s' o'))
    (refusals_without lim s s' ts e ∙ ap (λ (l : List Step). refusals_of (answers_in_order lim s' l)) same ∙ sym (refusals_without lim s' s' ts' refl))

-- ---- runs

-- 1 stores the 0 that a word has, under a lock; 2 takes the lock and reads the word twice: the notice brings no words, so its record is skipped (L5)
unfoldable pub steps_equal : List Step
steps_equal = acquires 1 0 ∷ writes 1 0 0 ∷ releases 1 0 ∷ acquires 2 0 ∷ reads 2 0 ∷ reads 2 0 ∷ []

-- 1 stores a value under a lock, 2 the same value again, 3 reads it: both records follow, and the one with no words is skipped (L5)
unfoldable pub steps_confirmed : List Step
steps_confirmed =
    acquires 1 0 ∷ writes 1 5 9 ∷ releases 1 0 ∷ acquires 2 0 ∷ writes 2 5 9 ∷ releases 2 0 ∷ acquires 3 0 ∷ reads 3 5 ∷ []

computed_equal : answers_in_order mainframe (start 2 1 1) steps_equal ≡ accepted ∷ accepted ∷ accepted ∷ accepted ∷ answering 0 0 0 ∷ answering 0 0 0 ∷ []
unfolding start steps_equal
computed_equal = refl

computed_confirmed : answers_in_order mainframe (start 3 1 1) steps_confirmed
    ≡ accepted ∷ accepted ∷ accepted ∷ accepted ∷ answering 0 0 1 ∷ accepted ∷ accepted ∷ answering 0 9 1 ∷ []
unfolding start steps_confirmed
computed_confirmed = refl

pub record StoringCases : Type 0 where
  pub equal : answers mainframe (start 2 1 1) steps_equal ≡ accepted ∷ accepted ∷ accepted ∷ accepted ∷ answering 0 0 0 ∷ answering 0 0 0 ∷ []
  pub confirmed : answers mainframe (start 3 1 1) steps_confirmed
      ≡ accepted ∷ accepted ∷ accepted ∷ accepted ∷ answering 0 0 1 ∷ accepted ∷ accepted ∷ answering 0 9 1 ∷ []

pub storing_cases : StoringCases
unfolding counts_in_range in_range mainframe
storing_cases =
    record { equal = answers_from_start 2 1 1 refl steps_equal ∙ computed_equal; confirmed = answers_from_start 3 1 1 refl steps_confirmed ∙ computed_confirmed }

-- "so 9 and 10 can come sooner"
computed_sooner : refusal_at (answers_in_order mainframe (start 1 1 1) equal_stores) 190 ≡ 9
unfolding start equal_stores refusal_at
computed_sooner = refl

pub nine_sooner : refusal_at (answers mainframe (start 1 1 1) equal_stores) 190 ≡ 9
unfolding counts_in_range in_range mainframe
nine_sooner = ap (λ (l : List Answer). refusal_at l 190) (answers_from_start 1 1 1 refl equal_stores) ∙ computed_sooner
