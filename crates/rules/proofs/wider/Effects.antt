-- An accepted step leaves states of two limits alike, with the same value, count and words. Rests on Like, Closing and Fetches. Assumes nothing.
use Prim.Native.Nat.{ℕ, ◌/◌, ◌%◌, ◌<◌}
use mathlib.Core.Path.{◌≡◌, refl, ap}
use mathlib.Core.List.{List}
use lib.ListN.{get_or}
use Rattle.rules.specs.State.{Limits, copy_of, State, with_pages}
use Rattle.rules.specs.Fetch.{fetched}
use Rattle.rules.specs.Close.{closed}
use Rattle.rules.specs.Steps.{Effect, page_of_word, offset_of_word, word_of, read, twin_taken, stored, write, want, wants_collection, dequeue}
use Rattle.rules.specs.Refusals.{Step, Action, Read, Write, Acquire, Release, Arrive, Want, TallyAdd, TallyRead, Enqueue, Dequeue, Unknown, action_of, effect}
use Rattle.rules.specs.WiderLimits.{wider}
use Rattle.rules.proofs.inorder.Accepted.{Accepted, read_on_page, write_on_page}
use Rattle.rules.proofs.wider.Like.{Tables, other, Fits, Like, goes_on, count_same, words_same, fetched_like, stored_like}
use Rattle.rules.proofs.wider.Closing.{acquire_like, release_like, enqueue_like, dequeue_like}
use Rattle.rules.proofs.wider.Fetches.{arrive_like}

-- the same effect: states alike, the same value, count and words
pub record SameEffect (e h : Effect) : Type 0 where
  pub after : Like e.after h.after
  pub value : h.value ≡ e.value
  pub count : h.count ≡ e.count
  pub words : h.words ≡ e.words

module _ (lim : Limits) (pages records : ℕ) where
  abbrev big : Limits
  big = wider lim pages records

  read_like : (s : State) (x : Tables) → Fits s x → (p w : ℕ) → page_of_word lim w < s.counts.pages → SameEffect (read lim s p w) (read big (other s x) p w)
  unfolding read word_of page_of_word offset_of_word
  read_like s x f p w there =
      record {
        after = k;
        value = ap (λ (page : List ℕ). get_or page (w % lim.words) 0) copy;
        count = count_same lim pages records s x f p (w / lim.words) there;
        words = words_same lim pages records s x f p (w / lim.words) there;
      }
    where
      k : Like (fetched lim s p (w / lim.words)) (fetched big (other s x) p (w / lim.words))
      k = fetched_like lim pages records s x f p (w / lim.words) there

      copy : copy_of (fetched big (other s x) p (w / lim.words)).pages p (w / lim.words) ≡ copy_of (fetched lim s p (w / lim.words)).pages p (w / lim.words)
      copy = unfold copy_of fetched in k.agrees.copies p (w / lim.words) there

  write_like : (s : State) (x : Tables) → Fits s x → (p w v : ℕ) → page_of_word lim w < s.counts.pages → SameEffect (write lim s p w v) (write big (other s x) p w v)
  unfolding write page_of_word
  write_like s x f p w v there =
      record {
        after =
            goes_on a (with_pages a (stored lim (twin_taken a.pages p g) p w v)) (fetched big (other s x) p g) (λ y. with_pages y (stored big (twin_taken y.pages p g) p w v)) (fetched_like lim pages records s x f p g there)
            (λ y h. stored_like lim pages records a y h p w v (unfold fetched in there));
        value = refl;
        count = count_same lim pages records s x f p g there;
        words = words_same lim pages records s x f p g there;
      }
    where
      g : ℕ
      g = w / lim.words

      a : State
      a = fetched lim s p (w / lim.words)

  pub effect_like : (s : State) (x : Tables) → Fits s x → (t : Step) (a : Action) → action_of t ≡ a → Accepted lim s t → SameEffect (effect lim s t.processor a) (effect big (other s x) t.processor a)
  unfolding effect
  effect_like s x f t (Read w) e acc = read_like s x f t.processor w (read_on_page lim s t w e acc)
  effect_like s x f t (Write w v) e acc = write_like s x f t.processor w v (write_on_page lim s t w v e acc)
  effect_like s x f t (Acquire l) e acc = record { after = acquire_like s x f t.processor l; value = refl; count = refl; words = refl }
  effect_like s x f t (Release l) e acc = record { after = release_like s x f t.processor l; value = refl; count = refl; words = refl }
  effect_like s x f t Arrive e acc = let k = arrive_like lim pages records s x f t.processor in record { after = k.after; value = refl; count = k.count; words = k.words }
  effect_like s x f t Want e acc = unfold want wants_collection in record { after = record { same = refl; agrees = f }; value = refl; count = refl; words = refl }
  effect_like s x f t (TallyAdd j v) e acc = record { after = record { same = refl; agrees = f }; value = refl; count = refl; words = refl }
  effect_like s x f t (TallyRead j) e acc = record { after = record { same = refl; agrees = f }; value = refl; count = refl; words = refl }
  effect_like s x f t (Enqueue v) e acc = record { after = enqueue_like lim pages records s x f t.processor v; value = refl; count = refl; words = refl }
  effect_like s x f t Dequeue e acc =
      record { after = dequeue_like lim pages records s x f t.processor; value = unfold dequeue closed in refl; count = unfold dequeue in refl; words = unfold dequeue in refl }
  effect_like s x f t Unknown e acc = record { after = record { same = refl; agrees = f }; value = refl; count = refl; words = refl }
