-- Several fetches, collection and an arrival leave states of two limits alike, with the same counts and words. Rests on Like and Closing. Assumes nothing.
use Prim.Native.Nat.{ℕ, zero, suc, ◌+◌, ◌≤◌, ◌<◌}
use native.Mathlib.Omega.{arith}
use mathlib.Core.Path.{◌≡◌, refl, sym, ap, ap₂, ◌∙◌, subst}
use mathlib.Core.Bool.{Bool, true, false, cond}
use mathlib.Core.List.{List, [], map}
use lib.ListN.{get_or}
use Rattle.lists.specs.Tables.{cell}
use Rattle.lists.proofs.Tables.{get_map}
use Rattle.rules.specs.State.{Limits, Counts, cleared, State, has_arrived}
use Rattle.rules.specs.Fetch.{fetched, fetch_count, fetch_words}
use Rattle.rules.specs.Steps.{at_barrier, all_arrived, round_done, Fetches, none_fetched, pages_fetched, all_fetched, all_cleared, emptied, collected, wants_collection, arrive}
use Rattle.rules.specs.WiderLimits.{wider}
use Rattle.rules.proofs.wider.Like.{Tables, tables_of, other, Fits, Like, goes_on, count_same, words_same, fetched_like}
use Rattle.rules.proofs.wider.Closing.{barrier_like, round_like}

-- the same fetches: states alike, the same counts and words
pub record SameFetches (f h : Fetches) : Type 0 where
  pub after : Like f.after h.after
  pub count : h.count ≡ f.count
  pub words : h.words ≡ f.words

module _ (lim : Limits) (pages records : ℕ) where
  abbrev big : Limits
  big = wider lim pages records

  -- ---- one fetch

  count_like : (s u : State) → Like s u → (p g : ℕ) → g < s.counts.pages → fetch_count big u p g ≡ fetch_count lim s p g
  count_like s u k p g l = ap (λ (y : State). fetch_count big y p g) k.same ∙ count_same lim pages records s (tables_of u) k.agrees p g l

  words_like : (s u : State) → Like s u → (p g : ℕ) → g < s.counts.pages → fetch_words big u p g ≡ fetch_words lim s p g
  words_like s u k p g l = ap (λ (y : State). fetch_words big y p g) k.same ∙ words_same lim pages records s (tables_of u) k.agrees p g l

  fetch_like : (s u : State) → Like s u → (p g : ℕ) → g < s.counts.pages → Like (fetched lim s p g) (fetched big u p g)
  fetch_like s u k p g l = goes_on s (fetched lim s p g) u (λ y. fetched big y p g) k (λ y f. fetched_like lim pages records s y f p g l)

  -- ---- those of one processor, and of all

  pages_counts : (s : State) (p n : ℕ) → (pages_fetched lim s p n).after.counts ≡ s.counts
  unfolding pages_fetched fetched
  pages_counts s p zero = refl
  pages_counts s p (suc g) = pages_counts s p g

  all_counts : (s : State) (n : ℕ) → (all_fetched lim s n).after.counts ≡ s.counts
  unfolding all_fetched
  all_counts s zero = refl
  all_counts s (suc k) = pages_counts (all_fetched lim s k).after (suc k) s.counts.pages ∙ all_counts s k

  pages_like : (s u : State) → Like s u → (p n : ℕ) → n ≤ s.counts.pages → SameFetches (pages_fetched lim s p n) (pages_fetched big u p n)
  unfolding pages_fetched
  pages_like s u k p zero l = record { after = k; count = refl; words = refl }
  pages_like s u k p (suc g) l = go (pages_like s u k p g (omega arith))
    where
      a : State
      a = (pages_fetched lim s p g).after

      b : State
      b = (pages_fetched big u p g).after

      there : g < a.counts.pages
      there = subst (λ (c : Counts). g < c.pages) (sym (pages_counts s p g)) l

      go : SameFetches (pages_fetched lim s p g) (pages_fetched big u p g) → SameFetches
          (record { after = fetched lim a p g; count = (pages_fetched lim s p g).count + fetch_count lim a p g; words = (pages_fetched lim s p g).words + fetch_words lim a p g })
          (record { after = fetched big b p g; count = (pages_fetched big u p g).count + fetch_count big b p g; words = (pages_fetched big u p g).words + fetch_words big b p g })
      go h =
          record {
            after = fetch_like a b h.after p g there;
            count = ap₂ ◌+◌ h.count (count_like a b h.after p g there);
            words = ap₂ ◌+◌ h.words (words_like a b h.after p g there);
          }

  -- fetches, and behind them those of processor q below page n
  abbrev behind : Limits → Fetches → ℕ → ℕ → Fetches
  behind l f q n =
      let h = pages_fetched l f.after q n in
      record { after = h.after; count = f.count + h.count; words = f.words + h.words }

  behind_like : (f h : Fetches) → SameFetches f h → (q n : ℕ) → n ≤ f.after.counts.pages → SameFetches (behind lim f q n) (behind big h q n)
  behind_like f h e q n l =
      let d = pages_like f.after h.after e.after q n l in
      record { after = d.after; count = ap₂ ◌+◌ e.count d.count; words = ap₂ ◌+◌ e.words d.words }

  all_like : (s u : State) → Like s u → (n : ℕ) → SameFetches (all_fetched lim s n) (all_fetched big u n)
  unfolding all_fetched
  all_like s u k zero = record { after = k; count = refl; words = refl }
  all_like s u k (suc m) =
      subst (λ (j : ℕ). SameFetches (behind lim (all_fetched lim s m) (suc m) s.counts.pages) (behind big (all_fetched big u m) (suc m) j)) (sym (ap (λ (y : State). y.counts.pages) k.same))
      (behind_like (all_fetched lim s m) (all_fetched big u m) (all_like s u k m) (suc m) s.counts.pages (omega (arith, ap (λ (c : Counts). c.pages) (all_counts s m))))

  -- ---- collection

  cleared_cell : (t : List (List (List ℕ))) (p g : ℕ) → cell [] (map (map cleared) t) p g ≡ cleared (cell [] t p g)
  unfolding cleared
  cleared_cell t p g = ap (λ (r : List (List ℕ)). get_or r g []) (get_map (map cleared) [] t p) ∙ get_map cleared [] (get_or t p []) g

  emptied_like : (s : State) (x : Tables) → Fits s x → Like (emptied s) (emptied (other s x))
  unfolding emptied all_cleared
  emptied_like s x f =
      record {
        same = refl;
        agrees =
            record {
              applied = λ p g l. cleared_cell x.applied p g ∙ ap cleared (f.applied p g l) ∙ sym (cleared_cell s.clocks.applied p g);
              copies = f.copies;
              twins = f.twins;
              dirty = f.dirty;
              room = omega arith;
              room_there = omega arith;
              records = refl;
            };
      }

  -- fetches, and then all that a collection clears
  abbrev emptying : Fetches → Fetches
  emptying f = record { after = emptied f.after; count = f.count; words = f.words }

  emptying_like : (f h : Fetches) → SameFetches f h → SameFetches (emptying f) (emptying h)
  emptying_like f h e = record { after = goes_on f.after (emptied f.after) h.after emptied e.after (λ y k. emptied_like f.after y k); count = e.count; words = e.words }

  collected_like : (s u : State) → Like s u → SameFetches (collected lim s) (collected big u)
  unfolding collected
  collected_like s u k =
      subst (λ (n : ℕ). SameFetches (emptying (all_fetched lim s s.counts.processors)) (emptying (all_fetched big u n))) (sym (ap (λ (y : State). y.counts.processors) k.same))
      (emptying_like (all_fetched lim s s.counts.processors) (all_fetched big u s.counts.processors) (all_like s u k s.counts.processors))

  -- ---- an arrival

  pub arrive_like : (s : State) (x : Tables) → Fits s x → (p : ℕ) → SameFetches (arrive lim s p) (arrive big (other s x) p)
  unfolding arrive
  arrive_like s x f p = rw (all, wanted) (at (all_arrived b) (wants_collection b))
    where
      b : State
      b = at_barrier s p

      c : State
      c = at_barrier (other s x) p

      k : Like b c
      k = barrier_like s x f p

      all : all_arrived (at_barrier (other s x) p) ≡ all_arrived (at_barrier s p)
      all = unfold all_arrived has_arrived in ap (λ (y : State). all_arrived y) k.same

      wanted : wants_collection (at_barrier (other s x) p) ≡ wants_collection (at_barrier s p)
      wanted = unfold wants_collection in ap (λ (y : State). wants_collection y) k.same

      r : Like (round_done b) (round_done c)
      r = goes_on b (round_done b) c round_done k (λ y h. round_like b y h)

      at : (v w : Bool) → SameFetches (cond v (cond w (collected lim (round_done b)) (none_fetched (round_done b))) (none_fetched b)) (cond v (cond w (collected big (round_done c)) (none_fetched (round_done c))) (none_fetched c))
      at true true = collected_like (round_done b) (round_done c) r
      at true false = record { after = r; count = refl; words = refl }
      at false w = record { after = k; count = refl; words = refl }
