-- The posting of a round: the new totals, then the adds cleared. One law for each way of the code, and `posting_laws`. Assumes nothing.
use Rattle.std.proofs.Common.{◌≡◌, ℕ, suc, ◌+◌, ◌*◌, ◌%◌, ◌-◌, ◌^◌, ◌<◌, ◌≤◌, List, ◌++◌, length, take, drop, get_or, set, replicate, Fits, w32, sym, refl, ap, ◌∙◌, add-one, arith, length-set, get_or-set_other, get_or-set_same, rules}
use Rattle.std.proofs.lemmas.List.{length-replicate, get_or-replicate}
use lib.Seq.{sets, length-sets}
use native.Mathlib.Decide.{ℕ_discrete}
use Rattle.lists.specs.Tables.{total}
use Rattle.lists.proofs.Tables.{total_same}
use Rattle.limits.specs.Limits.{processor_limit, tally_limit, word_values}
use Rattle.limits.specs.inner.Sizes.{first_job_value, first_tally, word_area}
use Rattle.rules.specs.State.{mainframe, posted_of, adds_of}
use Rattle.rules.specs.Tallies.{total_after, posting}
use Rattle.layout.specs.Areas.{tally_place, value_place, shared_in}
use Rattle.layout.proofs.MarkFunctions.{part_cleared}
use Rattle.layout.proofs.Stores.{get_sets_before, get_sets_behind, get_sets_same}
use Rattle.layout.proofs.TallyLaws.{tally_at, value_at_lem, posted_read, adds_read, shared_written, posting_done}
use Rattle.step_tally.specs.inner.Needed.{OnTally, RoundReady, SumReady}
use Rattle.step_tally.specs.inner.Effects.{TotalsPosted, AddsCleared, Posted}

-- ---- the sum of one tally

-- the sum of the posted total and of the adds of the first k processors
pub record SummedTo (w : List ℕ) (n t k sum : ℕ) : Type 0 where
  pub ready : SumReady w n t
  pub first : 1 ≤ k
  pub upto : k ≤ n
  pub is : sum ≡ total_after (shared_in mainframe w) k t

module _ (w : List ℕ) (n t : ℕ) (ready : SumReady w n t) where
  -- the first processor's add has its place
  pub first_on_tally : OnTally 1 t
  first_on_tally = record { from = omega arith; to = omega arith; tally = ready.tally }

  -- so has the posted total
  pub posted_place : first_tally + t < length w
  posted_place = omega (arith, ready.words, ready.tally)

  -- a word within the area
  pub sum_place : (at : ℕ) → at < word_area → at < length w
  sum_place at h = omega (arith, ready.words)

  posted_is : get_or w (first_tally + t) 0 ≡ posted_of (shared_in mainframe w) t
  posted_is = let first : tally_place mainframe 0 t ≡ first_tally + t = omega (arith, tally_at 0 t) in ap (λ (j : ℕ). get_or w j 0) (sym first) ∙ sym (posted_read w t ready.tally)

  added_is : (p at : ℕ) → 1 ≤ p → p ≤ processor_limit → at ≡ tally_place mainframe p t → get_or w at 0 ≡ adds_of (shared_in mainframe w) p t
  added_is p at h k e = ap (λ (j : ℕ). get_or w j 0) e ∙ sym (adds_read w p t h k ready.tally)

  -- the first two
  pub summing_begins : (at x : ℕ) → at ≡ tally_place mainframe 1 t → x ≡ (get_or w (first_tally + t) 0 + get_or w at 0) % 2 ^ 32 → SummedTo w n t 1 x
  unfolding total_after total
  summing_begins at x is e =
      record {
        ready = ready;
        first = omega arith;
        upto = ready.some;
        is = omega (arith, e, posted_is, added_is 1 at (omega arith) (omega arith) is);
      }

module _ (w : List ℕ) (n t k sum : ℕ) (now : SummedTo w n t k sum) where
  -- the next processor's add has its place
  pub next_on_tally : k < n → OnTally (k + 1) t
  next_on_tally more = record { from = omega arith; to = omega (arith, now.ready.few); tally = now.ready.tally }

  -- one more
  pub summing_more : k < n → (at x : ℕ) → at ≡ tally_place mainframe (k + 1) t → x ≡ (sum + get_or w at 0) % 2 ^ 32 → SummedTo w n t (k + 1) x
  unfolding total_after total
  summing_more more at x is e =
      let added = added_is w n t now.ready (k + 1) at (omega arith) (omega (arith, now.ready.few)) is in
      let one : adds_of (shared_in mainframe w) (k + 1) t ≡ adds_of (shared_in mainframe w) (suc k) t = ap (λ (j : ℕ). adds_of (shared_in mainframe w) j t) (add-one k) in
      record { ready = now.ready; first = omega arith; upto = omega arith; is = e ∙ rw (add-one k) (omega (arith, now.is, added, one)) }

  -- all
  pub summing_ends : n ≤ k → sum ≡ total_after (shared_in mainframe w) n t
  summing_ends done = let all : k ≡ n = omega (arith, now.upto) in now.is ∙ ap (λ (j : ℕ). total_after (shared_in mainframe w) j t) all

-- the sum stored
pub total_stored : (w : List ℕ) (n t x : ℕ) → x ≡ total_after (shared_in mainframe w) n t → set w (first_tally + t) x ≡ set w (tally_place mainframe 0 t) (total_after (shared_in mainframe w) n t)
total_stored w n t x e = let at : first_tally + t ≡ tally_place mainframe 0 t = omega (arith, tally_at 0 t) in rw (at, e)

-- ---- all totals

-- the totals of the tallies below t are posted, all else is as it was
pub record PostedTo (w₀ w : List ℕ) (n t : ℕ) : Type 0 where
  pub ready : RoundReady w₀ n
  pub words : length w ≡ word_area
  pub upto : t ≤ tally_limit
  pub done : (u : ℕ) → u < t → get_or w (tally_place mainframe 0 u) 0 ≡ total_after (shared_in mainframe w₀) n u
  pub kept : (i : ℕ) → ((u : ℕ) → u < t → i ≡ tally_place mainframe 0 u → ⊥) → get_or w i 0 ≡ get_or w₀ i 0

-- before the first
pub posting_begins : (w : List ℕ) (n : ℕ) → RoundReady w n → PostedTo w w n 0
posting_begins w n h = record { ready = h; words = h.words; upto = omega arith; done = λ u l. absurd (omega arith); kept = λ i e. refl }

module _ (w₀ w : List ℕ) (n t : ℕ) (now : PostedTo w₀ w n t) where
  -- the next tally can be posted
  pub posting_ready : t < tally_limit → SumReady w n t
  posting_ready more = record { words = now.words; some = now.ready.some; few = now.ready.few; tally = more }

  same_total : t < tally_limit → total_after (shared_in mainframe w) n t ≡ total_after (shared_in mainframe w₀) n t
  unfolding total_after
  same_total more = λ i. (posted i + adds i) % word_values
    where
      posted : posted_of (shared_in mainframe w) t ≡ posted_of (shared_in mainframe w₀) t
      posted = posted_read w t more ∙ now.kept (tally_place mainframe 0 t) (λ u l e. omega (arith, l, e, tally_at 0 t, tally_at 0 u)) ∙ sym (posted_read w₀ t more)

      adds : total n (λ k. adds_of (shared_in mainframe w) (suc k) t) ≡ total n (λ k. adds_of (shared_in mainframe w₀) (suc k) t)
      adds =
          total_same n (λ k. adds_of (shared_in mainframe w) (suc k) t) (λ k. adds_of (shared_in mainframe w₀) (suc k) t)
          (λ k b.
          adds_read w (suc k) t (omega arith) (omega (arith, b, now.ready.few)) more
          ∙ now.kept (tally_place mainframe (suc k) t) (λ u l e. omega (arith, l, e, more, tally_at (suc k) t, tally_at 0 u, now.upto))
          ∙ sym (adds_read w₀ (suc k) t (omega arith) (omega (arith, b, now.ready.few)) more))

  -- one more
  pub posting_more : t < tally_limit → (w' : List ℕ) → w' ≡ set w (tally_place mainframe 0 t) (total_after (shared_in mainframe w) n t) → PostedTo w₀ w' n (t + 1)
  posting_more more w' e =
      record {
        ready = now.ready;
        words = ap length e ∙ length-set w (tally_place mainframe 0 t) (total_after (shared_in mainframe w) n t) ∙ now.words;
        upto = omega arith;
        done = λ u l. rw e (at u l (ℕ_discrete u t));
        kept = λ i h. rw e (get_or-set_other w (tally_place mainframe 0 t) i (total_after (shared_in mainframe w) n t) 0 (λ k. h t (omega arith) k) ∙ now.kept i (λ u l k. h u (omega arith) k));
      }
    where
      at : (u : ℕ) → u < t + 1 → Dec (u ≡ t) → get_or (set w (tally_place mainframe 0 t) (total_after (shared_in mainframe w) n t)) (tally_place mainframe 0 u) 0 ≡ total_after (shared_in mainframe w₀) n u
      at u l (yes d) = rw d (get_or-set_same w (tally_place mainframe 0 t) (total_after (shared_in mainframe w) n t) 0 (omega (arith, now.words, tally_at 0 t, more)) ∙ same_total more)
      at u l (no d) =
          get_or-set_other w (tally_place mainframe 0 t) (tally_place mainframe 0 u) (total_after (shared_in mainframe w) n t) 0 (λ k. d (omega (arith, k, tally_at 0 t, tally_at 0 u)))
          ∙ now.done u (omega (arith, l, d))

  -- all are posted
  pub posting_ends : tally_limit ≤ t → TotalsPosted w₀ w n
  posting_ends end =
      record {
        words = now.words;
        posted = λ u l. now.done u (omega (arith, l, end));
        pages = λ i l. now.kept i (λ u m e. omega (arith, l, e, tally_at 0 u));
        values = λ i l. now.kept i (λ u m e. omega (arith, l, e, m, now.upto, tally_at 0 u));
      }

-- ---- the adds

-- the place of the first add, and how many words the adds take
abbrev first_add : ℕ
first_add = first_tally + tally_limit

abbrev adds_length : ℕ
adds_length = first_job_value - first_add

-- the part from the first add up to the first job's value is 0, all else is as it was
pub adds_cleared : (w part : List ℕ) → length w ≡ word_area → part ≡ replicate (length (take adds_length (drop first_add w))) 0
    → AddsCleared w (take first_add w ++ (part ++ drop adds_length (drop first_add w)))
adds_cleared w part h e =
    rw (part_cleared w part first_add adds_length (omega (arith, h)) e)
    (record {
      words = length-sets w first_add zeros ∙ h;
      clear = λ j a b.
          let at : first_add + (j - first_add) ≡ j = omega arith in
          ap (λ (x : ℕ). get_or (sets w first_add zeros) x 0) (sym at)
          ∙ get_sets_same zeros w first_add (j - first_add) 0 (omega (arith, long)) (omega (arith, long, h))
          ∙ get_or-replicate {A = ℕ} adds_length (j - first_add) 0 0 (omega arith);
      kept = λ j a. get_sets_before zeros w first_add j 0 a;
      values = λ j a. get_sets_behind zeros w first_add j 0 (omega (arith, long));
    })
  where
    zeros : List ℕ
    zeros = replicate adds_length 0

    long : length zeros ≡ adds_length
    long = length-replicate {A = ℕ} adds_length 0

-- ---- both

module _ (w : List ℕ) (n : ℕ) (ready : RoundReady w n) (w₁ : List ℕ) (totals : TotalsPosted w w₁ n) where
  pub posted_long : length w₁ ≡ word_area
  posted_long = totals.words

  -- the round is posted
  pub round_posted : (w₂ : List ℕ) → AddsCleared w₁ w₂ → Posted w w₂ n
  round_posted w₂ cleared =
      record {
        words = cleared.words;
        is = λ c r m.
            shared_written c w w₂ r m (posting (shared_in mainframe w) n) ready.words cleared.words (λ i a b. cleared.kept i (omega arith) ∙ totals.pages i b)
            (posting_done w w₂ n
            (record {
              posted = λ t l. cleared.kept (tally_place mainframe 0 t) (omega (arith, l, tally_at 0 t)) ∙ totals.posted t l;
              adds = λ p t h k l. cleared.clear (tally_place mainframe p t) (omega (arith, h, tally_at p t)) (omega (arith, k, l, tally_at p t));
              values = λ k l. cleared.values (value_place mainframe k) (omega (arith, value_at_lem k)) ∙ totals.values (value_place mainframe k) (omega (arith, value_at_lem k));
            }));
      }

pub ruleset posting_laws = (first_on_tally, posted_place, sum_place, summing_begins, next_on_tally, summing_more, summing_ends, total_stored, posting_begins, posting_ready, posting_more, posting_ends, adds_cleared, posted_long, round_posted, rules)
