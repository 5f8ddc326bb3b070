-- Reading and writing a word, put together from fetching and their own parts: one law for each way of the code, and `access_laws`.
-- Rests on Storing. Assumes nothing.
use Prim.Native.Nat.{ℕ, ◌/◌, ◌%◌}
use native.Mathlib.Omega.{arith}
use mathlib.Core.Path.{◌≡◌, refl, sym, ap, ◌∙◌}
use mathlib.Core.List.{List}
use lib.ListN.{length, get_or}
use borrow.Author.Rules.{rules}
use Rattle.limits.specs.Limits.{page_width}
use Rattle.limits.specs.inner.Sizes.{mark_area, word_area}
use Rattle.rules.specs.State.{mainframe, copy_of, State}
use Rattle.rules.specs.Steps.{page_of_word, offset_of_word, word_of, read, write}
use Rattle.layout.specs.Areas.{copy_row, records_in, state_in, standing_count}
use Rattle.layout.proofs.PageLaws.{copy_read}
use Rattle.layout.proofs.RowLaws.{get_row}
use Rattle.fetch_index.specs.inner.Index.{IndexKept}
use Rattle.fetch_index.proofs.Kept.{bounds_stay}
use Rattle.fetch.specs.inner.Needed.{FetchableKept, Brought, BroughtKept}
use Rattle.step_access.specs.inner.Needed.{ActsOnWord, AccessesKept, OnWord}
use Rattle.step_access.specs.inner.Effects.{AnsweredKept, word_stored, word_place, Stored}

-- a store keeps the index
kept_by_store : (c r w m w' m' x : List ℕ) (p a v : ℕ) → IndexKept c r m x → Stored w m w' m' p a v → IndexKept c r m' x
unfolding state_in records_in word_stored
kept_by_store c r w m w' m' x p a v k t =
    let same : standing_count m' ≡ standing_count m = ap (λ (s : State). s.records.standing) (t.is c r) in
    record { upto = rw same k.upto; ranked = k.ranked; bounds = k.bounds ∙ sym (bounds_stay c w r m c w' r m' (ap (λ (s : State). s.counts) (t.is c r))) }

module _ (c w r m : List ℕ) (p a : ℕ) (x : List ℕ) (q : AccessesKept c w r m p a x) where
  abbrev h : ActsOnWord c w r m p a
  h = q.word

  -- the word has a place
  pub word_within : OnWord p a
  unfolding mainframe
  word_within =
      let t = h.acts in
      record { from = t.from; to = omega (arith, t.to, t.in_order.processors_fit); word = omega (arith, h.word, t.in_order.pages_fit) }

  -- the marks have their size
  pub marks_long : length m ≡ mark_area
  marks_long = h.acts.lent.marks

  -- the page of the word can be fetched
  pub word_fetchable : FetchableKept c w r m p (a / page_width) x
  word_fetchable =
      let t = h.acts in
      record {
        fetchable = record { lent = t.lent; in_order = t.in_order; some_processor = t.from; processor_present = t.to; page_present = omega (arith, h.word) };
        kept = q.kept;
      }

  module _ (c₁ w₁ : List ℕ) (k : ℕ) (x₁ : List ℕ) (skips moved : ℕ) (f : BroughtKept c w r m p (a / page_width) c₁ w₁ k x₁ skips moved) where
    abbrev b : Brought c w r m p (a / page_width) c₁ w₁ k
    b = f.brought

    -- the word answered, and the state that a read leaves
    pub read_done : (v : ℕ) → v ≡ get_or w₁ (word_place p a) 0 → AnsweredKept (read mainframe (state_in mainframe c w r m) p a) v k moved c₁ w₁ r m x₁
    unfolding read word_of page_of_word offset_of_word word_place mainframe state_in
    read_done v is =
        let o : OnWord p a = word_within in
        record {
          answered =
              record {
                answer =
                    is ∙ sym (get_row page_width w₁ (copy_row mainframe p (a / page_width)) (a % page_width) 0 (omega arith))
                    ∙ ap (λ (page : List ℕ). get_or page (a % page_width) 0) (sym (copy_read w₁ m p (a / page_width) o.from o.to (omega (arith, o.word))))
                    ∙ ap (λ (s : State). get_or (copy_of s.pages p (a / page_width)) (a % page_width) 0) b.holds;
                applied = b.counted;
                moved_is = f.moved_is;
                areas = record { lent = b.lent; is = b.holds };
              };
          kept = f.kept;
        }

    -- the count answered, and the state that a write leaves
    pub write_done : (w₂ m₂ : List ℕ) (v : ℕ) → Stored w₁ m w₂ m₂ p a v → AnsweredKept (write mainframe (state_in mainframe c w r m) p a v) 0 k moved c₁ w₂ r m₂ x₁
    unfolding write word_stored page_of_word mainframe
    write_done w₂ m₂ v t =
        record {
          answered =
              record {
                answer = refl;
                applied = b.counted;
                moved_is = f.moved_is;
                areas =
                    record {
                      lent = record { clocks = b.lent.clocks; words = t.words; records = b.lent.records; marks = t.marks };
                      is = t.is c₁ r ∙ ap (λ (s : State). word_stored s p a v) b.holds;
                    };
              };
          kept = kept_by_store c₁ r w₁ m w₂ m₂ x₁ p a v f.kept t;
        }

-- the words have their size after the fetch
pub fetched_words : (c w r m : List ℕ) (p g : ℕ) (c₁ w₁ : List ℕ) (k : ℕ) (x₁ : List ℕ) (skips moved : ℕ) → BroughtKept c w r m p g c₁ w₁ k x₁ skips moved → length w₁ ≡ word_area
fetched_words c w r m p g c₁ w₁ k x₁ skips moved f = f.brought.lent.words

pub ruleset access_laws = (word_fetchable, word_within, marks_long, fetched_words, read_done, write_done, rules)
