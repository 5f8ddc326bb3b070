-- Document 01, the bench cases B, D and E, for all values that can be stored. Assumes nothing.
use Prim.Native.Nat.{ℕ, ◌<◌}
use native.Mathlib.Omega.{arith}
use mathlib.Core.Path.{◌≡◌, refl, sym, ap, ap₂, ◌∙◌}
use mathlib.Core.List.{List, [], ◌∷◌}
use lib.ListN.{replicate}
use Rattle.limits.specs.Limits.{word_values}
use Rattle.diff.specs.Format.{word_bytes}
use Rattle.diff.specs.Reading.{word_at}
use Rattle.rules.specs.State.{mainframe}
use Rattle.rules.specs.Refusals.{Step, fits, Answer}
use Rattle.rules.specs.Runs.{answers_in_order, state_in_order}
use Rattle.rules.specs.Demand.{value_field}
use Rattle.rules.specs.Bench.{StoredValues, steps_under_lock, answers_under_lock}
use Rattle.rules.proofs.runs.Listing.{reads, writes, acquires, releases, arrives, start, answering}
use Rattle.rules.proofs.runs.ClosingFirst.{first_word, second_word, read_back, found, closed_with, closes, closing_first}
-- the name of the answer that most steps of these runs have goes with them
pub use Rattle.rules.specs.Bench.{accepted}

-- what is stored is the value itself, so it is not 0, and not equal to what is read back of the other
not_zero : (v : ℕ) → v < word_values → (v ≡ 0 → ⊥) → value_field v ≡ 0 → ⊥
unfolding value_field
not_zero v fits h e = h (omega arith)

other_word : (u v : ℕ) → u < word_values → v < word_values → (u ≡ v → ⊥) → word_at (word_bytes (value_field u)) 0 ≡ value_field v → ⊥
unfolding value_field
other_word u v u-fits v-fits h e = h (omega (arith, read_back u u-fits, e))

-- ---- B

-- "cards 1 and 2 write words 0 and 1, both arrive; card 1 reads word 1, then word 0"
unfoldable pub steps_b : ℕ → ℕ → List Step
steps_b u v = writes 1 0 u ∷ writes 2 1 v ∷ arrives 1 ∷ arrives 2 ∷ reads 1 1 ∷ reads 1 0 ∷ []

-- as the rules compute it: the value read in word 1 is put together from the bytes of a diff
computed_b : (u v : ℕ) → (value_field u ≡ 0 → ⊥) → (value_field v ≡ 0 → ⊥)
    → answers_in_order mainframe (start 2 1 1) (steps_b u v)
    ≡ accepted ∷ accepted ∷ accepted ∷ accepted ∷ answering 0 (word_at (word_bytes (value_field v)) 0) 1 ∷ answering 0 (value_field u) 0 ∷ []
unfolding start value_field steps_b closed_with found closes
computed_b u v u≢0 v≢0 =
    let s₂ = state_in_order mainframe (start 2 1 1) (writes 1 0 u ∷ writes 2 1 v ∷ []) in
    let s₃ = state_in_order mainframe (closed_with s₂ 1 0 (value_field u)) (arrives 1 ∷ []) in
    ap (λ (l : List Answer). accepted ∷ accepted ∷ l)
    (closing_first s₂ (arrives 1) (arrives 2 ∷ reads 1 1 ∷ reads 1 0 ∷ []) 0 (value_field u) (replicate 32 0) (value_field u ∷ replicate 31 0)
    (first_word 0 (value_field u) (λ e. u≢0 (sym e))) refl refl refl refl refl)
    ∙ ap (λ (l : List Answer). accepted ∷ accepted ∷ accepted ∷ l)
    (closing_first s₃ (arrives 2) (reads 1 1 ∷ reads 1 0 ∷ []) 1 (value_field v) (replicate 32 0) (0 ∷ value_field v ∷ replicate 30 0)
    (second_word (value_field v) v≢0) refl refl refl refl refl)

-- "card 1 reads word 1: card 2's value, count 1; then word 0, its own, count 0"
pub case_b : (u v : ℕ) → StoredValues u v
    → answers_in_order mainframe (start 2 1 1) (steps_b u v) ≡ accepted ∷ accepted ∷ accepted ∷ accepted ∷ answering 0 v 1 ∷ answering 0 u 0 ∷ []
unfolding value_field
case_b u v h =
    computed_b u v (not_zero u h.first_fits h.first_not_0) (not_zero v h.second_fits h.second_not_0)
    ∙ ap₂ (λ (y x : ℕ). accepted ∷ accepted ∷ accepted ∷ accepted ∷ answering 0 y 1 ∷ answering 0 x 0 ∷ []) (read_back v h.second_fits) (omega arith)

-- ---- D and E

-- as the rules compute it, where the second value is stored over the first as it was read back from a diff
computed_d : (x y : ℕ) → (value_field x ≡ 0 → ⊥) → (word_at (word_bytes (value_field x)) 0 ≡ value_field y → ⊥)
    → answers_in_order mainframe (start 3 1 1) (steps_under_lock 1 x 2 y) ≡ answers_under_lock (word_at (word_bytes (value_field y)) 0)
unfolding start value_field steps_under_lock answers_under_lock closed_with found closes
computed_d x y x≢0 x≢y =
    let s₂ = state_in_order mainframe (start 3 1 1) (acquires 1 0 ∷ writes 1 0 x ∷ []) in
    let s₅ = state_in_order mainframe (closed_with s₂ 1 0 (value_field x)) (releases 1 0 ∷ acquires 2 0 ∷ writes 2 0 y ∷ []) in
    ap (λ (l : List Answer). accepted ∷ accepted ∷ l)
    (closing_first s₂ (releases 1 0) (acquires 2 0 ∷ writes 2 0 y ∷ releases 2 0 ∷ acquires 3 0 ∷ reads 3 0 ∷ []) 0 (value_field x) (replicate 32 0) (value_field x ∷ replicate 31 0)
    (first_word 0 (value_field x) (λ e. x≢0 (sym e))) refl refl refl refl refl)
    ∙ ap (λ (l : List Answer). accepted ∷ accepted ∷ accepted ∷ accepted ∷ answering 0 0 1 ∷ l)
    (closing_first s₅ (releases 2 0) (acquires 3 0 ∷ reads 3 0 ∷ []) 0 (value_field y) (word_at (word_bytes (value_field x)) 0 ∷ replicate 31 0) (value_field y ∷ replicate 31 0)
    (first_word (word_at (word_bytes (value_field x)) 0) (value_field y) x≢y) refl refl refl refl refl)

-- the same with 2 before 1
computed_e : (x y : ℕ) → (value_field x ≡ 0 → ⊥) → (word_at (word_bytes (value_field x)) 0 ≡ value_field y → ⊥)
    → answers_in_order mainframe (start 3 1 1) (steps_under_lock 2 x 1 y) ≡ answers_under_lock (word_at (word_bytes (value_field y)) 0)
unfolding start value_field steps_under_lock answers_under_lock closed_with found closes
computed_e x y x≢0 x≢y =
    let s₂ = state_in_order mainframe (start 3 1 1) (acquires 2 0 ∷ writes 2 0 x ∷ []) in
    let s₅ = state_in_order mainframe (closed_with s₂ 2 0 (value_field x)) (releases 2 0 ∷ acquires 1 0 ∷ writes 1 0 y ∷ []) in
    ap (λ (l : List Answer). accepted ∷ accepted ∷ l)
    (closing_first s₂ (releases 2 0) (acquires 1 0 ∷ writes 1 0 y ∷ releases 1 0 ∷ acquires 3 0 ∷ reads 3 0 ∷ []) 0 (value_field x) (replicate 32 0) (value_field x ∷ replicate 31 0)
    (first_word 0 (value_field x) (λ e. x≢0 (sym e))) refl refl refl refl refl)
    ∙ ap (λ (l : List Answer). accepted ∷ accepted ∷ accepted ∷ accepted ∷ answering 0 0 1 ∷ l)
    (closing_first s₅ (releases 1 0) (acquires 3 0 ∷ reads 3 0 ∷ []) 0 (value_field y) (word_at (word_bytes (value_field x)) 0 ∷ replicate 31 0) (value_field y ∷ replicate 31 0)
    (first_word (word_at (word_bytes (value_field x)) 0) (value_field y) x≢y) refl refl refl refl refl)

-- "under one lock 1 writes word 0, then 2 does (count 1); 3 takes it and reads 2's value, count 2"; L5: "card 3 counts 1"
pub case_d : (u v : ℕ) → StoredValues u v → answers_in_order mainframe (start 3 1 1) (steps_under_lock 1 u 2 v) ≡ answers_under_lock v
case_d u v h =
    computed_d u v (not_zero u h.first_fits h.first_not_0) (other_word u v h.first_fits h.second_fits h.not_equal)
    ∙ ap answers_under_lock (read_back v h.second_fits)

-- "as D, 2 before 1; the value is 1's"
pub case_e : (u v : ℕ) → StoredValues u v → answers_in_order mainframe (start 3 1 1) (steps_under_lock 2 v 1 u) ≡ answers_under_lock u
case_e u v h =
    computed_e v u (not_zero v h.second_fits h.second_not_0) (other_word v u h.second_fits h.first_fits (λ e. h.not_equal (sym e)))
    ∙ ap answers_under_lock (read_back u h.first_fits)
