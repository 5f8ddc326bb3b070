-- Runs of the mainframe with stored values that are any numbers: a step that closes an interval answers as it does after the close, where
-- one word of the only page has changed. Assumes nothing.
use Prim.Native.Nat.{ℕ, ◌+◌, ◌%◌, ◌<◌}
use native.Mathlib.Omega.{arith}
use mathlib.Core.Path.{◌≡◌, refl, sym, ap, ap₂, ◌∙◌}
use mathlib.Core.Bool.{Bool, true, false, cond, false≢true}
use mathlib.Core.List.{List, [], ◌∷◌}
use lib.ListN.{get_or, replicate}
use lib.Dec.{lit<}
use borrow.Author.Tests.{ne_eqb}
use Rattle.lists.specs.Tables.{any}
use Rattle.limits.specs.Limits.{word_values}
use Rattle.diff.specs.Format.{word_bytes, words_bytes, written}
use Rattle.diff.specs.Reading.{word_at, words_at}
use Rattle.diff.proofs.Words.{words_read, below_cons}
use Rattle.rules.specs.State.{mainframe, Clocks, copy_of, twin_of, dirty_at, Records, appended, State, with_clocks, with_pages, with_records, own}
use Rattle.rules.specs.Close.{any_dirty, ticked, new_record, recorded, cleaned, closed}
use Rattle.rules.specs.Steps.{acquire, release, at_barrier, arrive, enqueue, dequeue}
use Rattle.rules.specs.Refusals.{Step, Action, Read, Write, Acquire, Release, Arrive, Want, TallyAdd, TallyRead, Enqueue, Dequeue, Unknown, action_of, fits, refusal_in_order, effect, answer_in_order, next_in_order}
use Rattle.rules.specs.Runs.{answers_in_order}
use Rattle.rules.specs.Demand.{value_field}
use Rattle.rules.proofs.runs.Listing.{start}

-- ---- pages of which one word has changed

-- twin and copy differ in word k alone, which is now x
pub record OneWord (twin copy : List ℕ) (k x : ℕ) : Type 0 where
  pub diff : written twin copy ≡ 1 ∷ k ∷ 1 ∷ word_bytes x

-- word 0 was a and is b, the others are 0
pub first_word : (a b : ℕ) → (a ≡ b → ⊥) → OneWord (a ∷ replicate 31 0) (b ∷ replicate 31 0) 0 b
unfolding start
first_word a b h = record { diff = rw (ne_eqb a b h) }

-- word 1 was 0 and is b, the others are 0
pub second_word : (b : ℕ) → (b ≡ 0 → ⊥) → OneWord (replicate 32 0) (0 ∷ b ∷ replicate 30 0) 1 b
unfolding start
second_word b h = record { diff = rw (ne_eqb 0 b (λ e. h (sym e))) }

-- a stored value is read back from the four bytes of its word
pub read_back : (v : ℕ) → v < word_values → word_at (word_bytes (value_field v)) 0 ≡ v
unfolding value_field word_at words_at word_bytes words_bytes
read_back v fits =
    let kept : v % word_values ≡ v = omega arith in
    rw (kept)
    (ap (λ (l : List ℕ). get_or l 0 0) (words_read (word_bytes v) 0 (v ∷ []) [] (below_cons word_values v [] fits (record { at = λ i. lit< tt })) refl))

-- ---- the close

-- what a close by processor p finds: the number of pages, and of page 0 whether it is dirty, its twin and its copy
pub record Found : Type 0 where
  pub pages : ℕ
  pub dirty : Bool
  pub twin : List ℕ
  pub copy : List ℕ

unfoldable pub found : State → ℕ → Found
found s p = record { pages = s.counts.pages; dirty = dirty_at s.pages p 0; twin = twin_of s.pages p 0; copy = copy_of s.pages p 0 }

-- one page, and it is dirty
abbrev pub one_page : List ℕ → List ℕ → Found
one_page twin copy = record { pages = 1; dirty = true; twin = twin; copy = copy }

-- a state of one page after processor p's close, where word k has changed to x
unfoldable pub closed_with : State → ℕ → ℕ → ℕ → State
closed_with s p k x =
    let s₁ = with_clocks (with_pages s (cleaned s.pages p)) (ticked s p) in
    with_records s₁ (appended s.records (record { processor = p; interval = own s p + 1; page = 0; diff = 1 ∷ k ∷ 1 ∷ word_bytes x }))

close_of_one_word : (s : State) (p k x : ℕ) (twin copy : List ℕ) → found s p ≡ one_page twin copy → OneWord twin copy k x → closed s p ≡ closed_with s p k x
unfolding closed closed_with recorded new_record any_dirty any found
close_of_one_word s p k x twin copy f h =
    let one : s.counts.pages ≡ 1 = ap (λ (y : Found). y.pages) f in
    let test : dirty_at s.pages p 0 ≡ true = ap (λ (y : Found). y.dirty) f in
    let bytes : written (twin_of s.pages p 0) (copy_of s.pages p 0) ≡ 1 ∷ k ∷ 1 ∷ word_bytes x = ap (λ (y : Found). written y.twin y.copy) f ∙ h.diff in
    ap₂ (λ (c : Clocks) (r : Records). with_records (with_clocks (with_pages s (cleaned s.pages p)) c) r)
    (ap (λ (n : ℕ). cond (any n (dirty_at s.pages p)) (ticked s p) s.clocks) one ∙ ap (λ (b : Bool). cond b (ticked s p) s.clocks) test)
    (ap (recorded s p) one
    ∙ ap₂ (λ (b : Bool) (d : List ℕ). cond b (appended s.records (record { processor = p; interval = own s p + 1; page = 0; diff = d })) s.records) test bytes)

-- ---- the steps that close

-- "Close (part of other steps)": acquire, release, arrive, and L9's enqueue and dequeue
unfoldable pub closes : Action → Bool
closes (Read w) = false
closes (Write w v) = false
closes (Acquire l) = true
closes (Release l) = true
closes Arrive = true
closes Want = false
closes (TallyAdd j x) = false
closes (TallyRead j) = false
closes (Enqueue j) = true
closes Dequeue = true
closes Unknown = false

-- their effect comes from the closed state
effect_of_closed : (s s' : State) (p : ℕ) (a : Action) → closes a ≡ true → closed s p ≡ closed s' p → effect mainframe s p a ≡ effect mainframe s' p a
unfolding closes effect acquire release arrive at_barrier enqueue dequeue
effect_of_closed s s' p (Read w) c e = absurd (false≢true c)
effect_of_closed s s' p (Write w v) c e = absurd (false≢true c)
effect_of_closed s s' p (Acquire l) c e = rw e
effect_of_closed s s' p (Release l) c e = rw e
effect_of_closed s s' p Arrive c e = rw e
effect_of_closed s s' p Want c e = absurd (false≢true c)
effect_of_closed s s' p (TallyAdd j x) c e = absurd (false≢true c)
effect_of_closed s s' p (TallyRead j) c e = absurd (false≢true c)
effect_of_closed s s' p (Enqueue j) c e = rw e
effect_of_closed s s' p Dequeue c e = rw e
effect_of_closed s s' p Unknown c e = absurd (false≢true c)

-- a step that closes answers, and the steps after it too, as if the processor had closed before it; that the step is accepted and that a
-- second close does nothing is computed for each state
pub closing_first : (s : State) (t : Step) (ts : List Step) (k x : ℕ) (twin copy : List ℕ)
    → OneWord twin copy k x
    → found s t.processor ≡ one_page twin copy
    → closes (action_of t) ≡ true
    → refusal_in_order mainframe s t ≡ 0
    → refusal_in_order mainframe (closed_with s t.processor k x) t ≡ 0
    → closed (closed_with s t.processor k x) t.processor ≡ closed_with s t.processor k x
    → answers_in_order mainframe s (t ∷ ts) ≡ answers_in_order mainframe (closed_with s t.processor k x) (t ∷ ts)
unfolding answers_in_order answer_in_order next_in_order
closing_first s t ts k x twin copy h f c fine fine-closed clean =
    rw (
      fine,
      fine-closed,
      effect_of_closed s (closed_with s t.processor k x) t.processor (action_of t) c (close_of_one_word s t.processor k x twin copy f h ∙ sym clean),
    )
