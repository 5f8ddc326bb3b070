-- The laws by which `write` and its helpers meet their contracts: what each way through their code says. Assumes nothing.
use Prim.Native.Nat.{ℕ, suc, ◌+◌, ◌-◌, ◌*◌, ◌/◌, ◌%◌, ◌^◌, ◌≤◌, ◌<◌, min}
use native.Mathlib.Nat.{zero-mul, one-mul, lt_of_lt_of_le, pow-suc}
use native.Mathlib.Omega.{arith}
use mathlib.Core.Path.{◌≡◌, refl, sym, ap, ap₂, ◌∙◌}
use mathlib.Core.Bool.{Bool, true, false, cond, not, ◌&&◌}
use mathlib.Core.Logic.{◌⊎◌, inl, inr}
use mathlib.Core.Option.{Option}
use mathlib.Core.List.{List, [], ◌∷◌, ◌++◌}
use lib.ListN.{length, get_or, set, drop, take, length-set, length-append, length-drop, length-take}
use lib.Seq.{sets, length-sets, drop-drop, take_all}
use lib.Dec.{eqb}
use lib.Count.{count_trailing_zeros, trailing_le}
use lib.Bits.{bit_and, and_le_r}
use lib.Pow.{pow_mono, shl_exact}
use Rattle.std.specs.Int.{w32, w64, bit_not, trailing_ones}
use mir.Val.{Fits, bool_byte}
use borrow.Author.Rules.{rules}
use borrow.Author.Tests.{eq-eqb, ne_eqb, lt-ltb, le-ltb}
use Rattle.lists.proofs.Stores.{sets_append, sets_apart}
use Rattle.limits.specs.Limits.{page_width}
use Rattle.diff.specs.Format.{Run, difference, ended, runs_from, runs, set_words, pair_bytes, word_bytes, words_bytes, bytes_of, written}
use Rattle.diff.proofs.Words.{length_pair_bytes}
use Rattle.diff.proofs.Legal.{length_bytes}
use Rattle.diff.proofs.Theorems.{length_difference}
use Rattle.std.specs.Prelude.{Ok, Err}
use Rattle.diff_writer.specs.Answers.{write_refusal, write_answer, Says, out_after}
use Rattle.limits.specs.declared.Refusal.TheVariants.{BadPage, NoRoom}
use Rattle.diff.specs.inner.Mask.{mask_of}
use Rattle.diff_writer.specs.inner.Masks.{kept_first, set_first, without_first, picked}
use Rattle.diff_writer.specs.inner.Needed.{PagesWhole, RoomForDiff, RoomForWords, MaskFits, RoomForPair}
use Rattle.diff_writer.proofs.Saying.{length_said, refusal_said}
use Rattle.diff.proofs.Masking.{mask_below}
use Rattle.diff_writer.proofs.Masks.{zeros_below, zeros_of_mask, ones_of_mask, mask_shifted, lowest_cleared, runs_after_kept, runs_after_set, words_picked, first_picked, length_without, none_picked, no_runs, kept_then_set, kept_few, kept_below, set_few, mask_of_more}
use Rattle.diff_writer.proofs.Writing.{no_pair, room_for_length, pair_stored, pair_bytes_append, length_ended, runs_fit, word_bytes_put}
use Rattle.diff_writer.proofs.Measuring.{flag_unlike, at_most_1, measuring_begins, measuring_more, runs_measured, words_measured, runs_few, words_few}

-- ---- the mask of two pages

-- the mask of the first i words
pub record Masking (old new : List ℕ) (mask i : ℕ) : Type 0 where
  pub whole : PagesWhole old new
  pub upto : i ≤ page_width
  pub is : mask ≡ mask_of (take i (difference old new))

pub masking_begins : (old new : List ℕ) → PagesWhole old new → Masking old new 0 0
unfolding mask_of
masking_begins old new whole = record { whole = whole; upto = omega arith; is = refl }

-- the digit of a word, and those below it, fit into the digits of a page
digit_small : (b : Bool) (n : ℕ) → cond b 0 1 * n ≤ n
digit_small true n = omega (arith, zero-mul n)
digit_small false n = omega (arith, one-mul n)

-- the flag of a word shifted to its place
digit_shifted : (old new u i : ℕ) → i < page_width → u ≡ bool_byte (not (eqb old new)) → u * 2 ^ i % 2 ^ 32 ≡ cond (eqb old new) 0 1 * 2 ^ i
digit_shifted old new u i h e =
    rw (← flag_unlike old new u e) (shl_exact 1 i 32 (omega (arith, at_most_1 _ u e)) (omega (arith, h)))

module _ (old new : List ℕ) (mask i : ℕ) (m : Masking old new mask i) where
  abbrev d : List (Option ℕ)
  d = difference old new

  page_long : length d ≡ page_width
  page_long = length_difference old new (m.whole.old_whole ∙ sym m.whole.new_whole) ∙ m.whole.old_whole

  below : mask < 2 ^ i
  below = rw m.is (lt_of_lt_of_le (mask_below (take i d)) (pow_mono (omega (arith, length-take i d))))

  module _ (u : ℕ) (h : i < page_width) (e : u ≡ bool_byte (not (eqb (get_or old i 0) (get_or new i 0)))) where
    pub mask_has_room : Fits w32 (mask + u * 2 ^ i % 2 ^ 32)
    mask_has_room =
        let small : u * 2 ^ i % 2 ^ 32 ≤ 2 ^ i = rw (digit_shifted _ _ u i h e) (digit_small (eqb (get_or old i 0) (get_or new i 0)) (2 ^ i)) in
        let digits : 2 ^ suc i ≤ 2 ^ 32 = pow_mono h in
        omega (arith, below, small, pow-suc 2 i, digits)

    pub masking_more : Masking old new (mask + u * 2 ^ i % 2 ^ 32) (i + 1)
    masking_more =
        record {
          whole = m.whole;
          upto = omega (arith, h);
          is = rw (m.is, digit_shifted _ _ u i h e) (sym (mask_of_more i old new (omega (arith, h, m.whole.old_whole)) (m.whole.old_whole ∙ sym m.whole.new_whole)));
        }

  pub masking_ends : page_width ≤ i → mask ≡ mask_of (difference old new)
  masking_ends h = m.is ∙ ap mask_of (take_all i d (omega (arith, page_long, h)))

-- ---- the first run of a mask

pub kept_fewer : (mask : ℕ) → MaskFits mask → 0 < mask → count_trailing_zeros 64 mask < 64
kept_fewer mask fit some = zeros_below 64 mask some (omega (arith, fit.below))

-- ---- the pairs

-- the first i words are done: the pairs of the runs that are left belong at `at`
pub record PuttingPairs (old new out₀ out : List ℕ) (left i at : ℕ) : Type 0 where
  pub whole : PagesWhole old new
  pub is : left ≡ mask_of (drop i (difference old new))
  pub on_page_lem : i ≤ page_width
  pub counted : at + 2 * length (runs_from i 0 (drop i (difference old new))) ≡ 1 + 2 * length (runs (difference old new))
  pub room : 1 + 2 * length (runs (difference old new)) ≤ length out
  pub as_long : length out ≡ length out₀
  pub same : sets out₀ 1 (pair_bytes (runs (difference old new))) ≡ sets out at (pair_bytes (runs_from i 0 (drop i (difference old new))))

pub pairs_begin : (old new : List ℕ) (mask : ℕ) (out : List ℕ) → RoomForDiff old new mask out → PuttingPairs old new out out mask 0 1
unfolding runs written
pairs_begin old new mask out p =
    record {
      whole = p.whole;
      is = p.is;
      on_page_lem = omega arith;
      counted = refl;
      room = omega (arith, p.room, length_bytes (difference old new));
      as_long = refl;
      same = refl;
    }

-- what is left of a page's words
left_long : (old new : List ℕ) (i : ℕ) → PagesWhole old new → i ≤ page_width → length (drop i (difference old new)) ≡ page_width - i
left_long old new i whole h = length-drop i (difference old new) ∙ ap (λ (n : ℕ). n - i) (length_difference old new (whole.old_whole ∙ sym whole.new_whole) ∙ whole.old_whole)

module _ (old new out₀ out : List ℕ) (left i at : ℕ) (p : PuttingPairs old new out₀ out left i at) where
  abbrev e : List (Option ℕ)
  e = drop i (difference old new)

  rest_long : length e ≡ page_width - i
  rest_long = left_long old new i p.whole p.on_page_lem

  pub left_fits : MaskFits left
  left_fits =
      let digits : 2 ^ length e ≤ 2 ^ page_width = pow_mono {i = length e} {j = page_width} (omega (arith, rest_long)) in
      record { below = rw p.is (lt_of_lt_of_le (mask_below e) digits) }

  pub start_fits : (kept : ℕ) → kept ≡ count_trailing_zeros 64 left → Fits w64 (i + kept)
  start_fits kept ek = omega (arith, ek, trailing_le 64 left, p.on_page_lem)

  pub end_fits : (kept len : ℕ) → kept ≡ count_trailing_zeros 64 left → len ≡ trailing_ones w64 (left / 2 ^ kept) → Fits w64 (i + kept + len)
  end_fits kept len ek el = omega (arith, ek, el, trailing_le 64 left, trailing_le 64 (bit_not w64 (left / 2 ^ kept)), p.on_page_lem)

  module _ (some_left : left ≡ 0 → ⊥) (kept len : ℕ) (ek : kept ≡ count_trailing_zeros 64 left) (el : len ≡ trailing_ones w64 (left / 2 ^ kept)) where
    any : mask_of e ≡ 0 → ⊥
    any z = some_left (p.is ∙ z)

    kept_is : kept ≡ kept_first e
    kept_is = ek ∙ rw p.is (zeros_of_mask 64 e (omega (arith, rest_long)) any)

    rest_is : left / 2 ^ kept ≡ mask_of (drop kept e)
    rest_is = rw p.is (mask_shifted kept e)

    len_is : len ≡ set_first (drop kept e)
    len_is = el ∙ rw rest_is (ones_of_mask 64 (drop kept e) (omega (arith, rest_long, length-drop kept e)))

    few : kept + len ≤ length e
    few = omega (arith, kept_is, len_is, kept_few e, set_few (drop kept e), length-drop kept e)

    one : 0 < len
    one = rw (len_is, kept_is) (kept_then_set e any)

    rest_dropped : drop len (drop kept e) ≡ drop (i + kept + len) (difference old new)
    rest_dropped =
        let place : i + (kept + len) ≡ i + kept + len = omega arith in
        drop-drop len kept e ∙ drop-drop (kept + len) i (difference old new) ∙ ap (λ (n : ℕ). drop n (difference old new)) place

    runs_are : runs_from i 0 e ≡ ended (i + kept) len ++ runs_from (i + kept + len) 0 (drop (i + kept + len) (difference old new))
    runs_are =
        let place : i + kept + 0 + len ≡ i + kept + len = omega arith in
        runs_after_kept i e
        ∙ ap (λ (k : ℕ). runs_from (i + k) 0 (drop k e)) (sym kept_is)
        ∙ runs_after_set (i + kept) 0 (drop kept e)
        ∙ ap (λ (n : ℕ). ended (i + kept) (0 + n) ++ runs_from (i + kept + 0 + n) 0 (drop n (drop kept e))) (sym len_is)
        ∙ ap₂ (λ (n m : ℕ). ended (i + kept) n ++ runs_from m 0 (drop len (drop kept e))) (omega arith) place
        ∙ ap (λ (l : List (Option ℕ)). ended (i + kept) len ++ runs_from (i + kept + len) 0 l) rest_dropped

    rest_left : mask_of (drop len (drop kept e)) ≡ mask_of (drop (i + kept + len) (difference old new))
    rest_left = ap mask_of rest_dropped

    pub pair_has_room : RoomForPair out at (i + kept) len
    pair_has_room =
        record {
          on_page_lem = omega (arith, few, rest_long, p.on_page_lem);
          room = omega (arith, p.counted, p.room, ap length runs_are, length-append (ended (i + kept) len) (runs_from (i + kept + len) 0 (drop (i + kept + len) (difference old new))), length_ended (i + kept) len);
        }

    pub pairs_nearer : page_width - (i + (kept + len)) < page_width - i
    pairs_nearer = omega (arith, few, one, rest_long, p.on_page_lem)

    pub pairs_more : (left' at' : ℕ) (out' : List ℕ) → left' ≡ left / 2 ^ kept / 2 ^ len
        → at' ≡ at + 2 * min len 1 → out' ≡ sets out at (pair_bytes (ended (i + kept) len)) → PuttingPairs old new out₀ out' left' (i + (kept + len)) at'
    pairs_more left' at' out' eleft eat eout =
        let rest : List Run = runs_from (i + kept + len) 0 (drop (i + kept + len) (difference old new)) in
        let counts : length (runs_from i 0 e) ≡ min len 1 + length rest = ap length runs_are ∙ length-append (ended (i + kept) len) rest ∙ ap (λ (n : ℕ). n + length rest) (length_ended (i + kept) len) in
        let place : at + length (pair_bytes (ended (i + kept) len)) ≡ at' = omega (arith, eat, length_pair_bytes (ended (i + kept) len), length_ended (i + kept) len) in
        let size : length out' ≡ length out = ap length eout ∙ length-sets out at (pair_bytes (ended (i + kept) len)) in
        let next : i + (kept + len) ≡ i + kept + len = omega arith in
        rw next
        (record {
          whole = p.whole;
          is = eleft ∙ ap (λ (a : ℕ). a / 2 ^ len) rest_is ∙ mask_shifted len (drop kept e) ∙ rest_left;
          on_page_lem = omega (arith, few, rest_long, p.on_page_lem);
          counted = omega (arith, p.counted, counts, eat);
          room = omega (arith, p.room, size);
          as_long = size ∙ p.as_long;
          same =
              p.same
              ∙ ap (λ (rs : List Run). sets out at (pair_bytes rs)) runs_are
              ∙ ap (λ (l : List ℕ). sets out at l) (pair_bytes_append (ended (i + kept) len) rest)
              ∙ sets_append out at (pair_bytes (ended (i + kept) len)) (pair_bytes rest)
              ∙ rw (place, eout);
        })

  module _ (done : left ≡ 0) where
    none_left : runs_from i 0 e ≡ []
    none_left = no_runs i e (sym p.is ∙ done)

    pub pairs_counted : at / 2 ≡ length (runs (difference old new))
    pairs_counted = omega (arith, p.counted, ap length none_left)

    pub pairs_end : out ≡ sets out₀ 1 (pair_bytes (runs (difference old new)))
    unfolding pair_bytes
    pairs_end = sym (p.same ∙ ap (λ (rs : List Run). sets out at (pair_bytes rs)) none_left)

-- ---- the words

-- the words of the settings d are left, from the place `to` on
pub record PuttingWords (old new out₀ out : List ℕ) (left from to : ℕ) : Type 0 where
  pub d : List (Option ℕ)
  pub whole : PagesWhole old new
  pub is : left ≡ mask_of d
  pub long : length d ≡ page_width
  pub counted : to + 4 * length (picked d new) ≡ from + 4 * length (set_words (difference old new))
  pub room : from + 4 * length (set_words (difference old new)) ≤ length out
  pub as_long : length out ≡ length out₀
  pub same : sets out₀ from (words_bytes (set_words (difference old new))) ≡ sets out to (words_bytes (picked d new))

pub fewer_left : (left : ℕ) → (left ≡ 0 → ⊥) → bit_and left (left - 1) < left
fewer_left left h = omega (arith, and_le_r left (left - 1), h)

pub words_begin : (old new : List ℕ) (mask : ℕ) (out : List ℕ) (from : ℕ) → RoomForWords old new mask out from → PuttingWords old new out out mask from from
words_begin old new mask out from p =
    record {
      d = difference old new;
      whole = p.whole;
      is = p.is;
      long = length_difference old new (p.whole.old_whole ∙ sym p.whole.new_whole) ∙ p.whole.old_whole;
      counted = ap (λ (l : List ℕ). from + 4 * length l) (sym (words_picked old new));
      room = p.room;
      as_long = refl;
      same = ap (λ (l : List ℕ). sets out from (words_bytes l)) (words_picked old new);
    }

module _ (old new out₀ out : List ℕ) (left from to : ℕ) (p : PuttingWords old new out₀ out left from to) where
  module _ (some_left : left ≡ 0 → ⊥) where
    some_set : mask_of p.d ≡ 0 → ⊥
    some_set z = some_left (p.is ∙ z)

    first_is : picked p.d new ≡ get_or new (kept_first p.d) 0 ∷ picked (without_first p.d) new
    first_is = first_picked p.d new (omega (arith, p.long, p.whole.new_whole)) some_set

    place_is : count_trailing_zeros 32 left ≡ kept_first p.d
    place_is = rw p.is (zeros_of_mask 32 p.d (omega (arith, p.long)) some_set)

    pub picked_on_page : count_trailing_zeros 32 left < length new
    picked_on_page = omega (arith, place_is, kept_below p.d some_set, p.long, p.whole.new_whole)

    pub word_has_room : to + 4 ≤ length out
    word_has_room = omega (arith, p.counted, p.room, ap length first_is)

    pub words_more : (out' : List ℕ) (left' : ℕ) → out' ≡ sets out to (word_bytes (get_or new (count_trailing_zeros 32 left) 0)) → left' ≡ bit_and left (left - 1)
        → PuttingWords old new out₀ out' left' from (to + 4)
    unfolding words_bytes word_bytes
    words_more out' left' eout eleft =
        let word : ℕ = get_or new (kept_first p.d) 0 in
        let rest : List ℕ = picked (without_first p.d) new in
        let put : out' ≡ sets out to (word_bytes word) = rw (sym place_is) eout in
        let size : length out' ≡ length out = ap length put ∙ length-sets out to (word_bytes word) in
        record {
          d = without_first p.d;
          whole = p.whole;
          is = eleft ∙ rw p.is (lowest_cleared p.d some_set);
          long = length_without p.d ∙ p.long;
          counted = omega (arith, p.counted, ap length first_is);
          room = omega (arith, p.room, size);
          as_long = size ∙ p.as_long;
          same =
              p.same
              ∙ ap (λ (l : List ℕ). sets out to (words_bytes l)) first_is
              ∙ sets_append out to (word_bytes word) (words_bytes rest)
              ∙ ap (λ (l : List ℕ). sets l (to + 4) (words_bytes rest)) (sym put);
        }

  module _ (done : left ≡ 0) where
    nothing_left : picked p.d new ≡ []
    nothing_left = none_picked p.d new (sym p.is ∙ done)

    pub picked_counted : to ≡ from + 4 * length (set_words (difference old new))
    picked_counted = omega (arith, p.counted, ap length nothing_left)

    pub picked_end : out ≡ sets out₀ from (words_bytes (set_words (difference old new)))
    unfolding words_bytes
    picked_end = sym (p.same ∙ ap (λ (l : List ℕ). sets out to (words_bytes l)) nothing_left)

-- ---- the whole diff

runs_at_most : (old new : List ℕ) → PagesWhole old new → length (runs (difference old new)) ≤ page_width
unfolding runs
runs_at_most old new whole = omega (arith, runs_fit 0 0 (difference old new), left_long old new 0 whole (omega arith))

module _ (old new : List ℕ) (mask : ℕ) (out : List ℕ) (p : RoomForDiff old new mask out) (count : ℕ) (counted : count ≡ length (runs (difference old new))) where
  pub few_pairs : count ≤ page_width
  few_pairs = omega (arith, counted, runs_at_most old new p.whole)

module _ (old new : List ℕ) (mask : ℕ) (out : List ℕ) (p : RoomForDiff old new mask out) (count : ℕ) (counted : count ≡ length (runs (difference old new))) (out' : List ℕ) (paired : out' ≡ sets out 1 (pair_bytes (runs (difference old new)))) where
  sized : length out' ≡ length out
  sized = ap length paired ∙ length-sets out 1 (pair_bytes (runs (difference old new)))

  spans : length (written old new) ≡ 1 + 2 * length (runs (difference old new)) + 4 * length (set_words (difference old new))
  unfolding written
  spans = length_bytes (difference old new)

  pub room_for_count : 0 < length out'
  room_for_count = omega (arith, p.room, spans, sized)

  pub room_for_words : (v : ℕ) → RoomForWords old new mask (set out' 0 v) (1 + 2 * count)
  room_for_words v =
      record {
        whole = p.whole;
        is = p.is;
        room = simp length-set (omega (arith, p.room, spans, sized, counted));
      }

  pub diff_long : (r : ℕ) → r ≡ 1 + 2 * count + 4 * length (set_words (difference old new)) → r ≡ length (written old new)
  diff_long r e = omega (arith, e, spans, counted)

  pub diff_written : (out'' : List ℕ) → out'' ≡ sets (set out' 0 count) (1 + 2 * count) (words_bytes (set_words (difference old new))) → out'' ≡ sets out 0 (written old new)
  unfolding written bytes_of
  diff_written out'' e =
      let d = difference old new in
      let place : 1 + 2 * count ≡ 1 + length (pair_bytes (runs d)) = omega (arith, counted, length_pair_bytes (runs d)) in
      let pairs : set out' 0 (length (runs d)) ≡ sets (set out 0 (length (runs d))) 1 (pair_bytes (runs d)) =
      ap (λ (l : List ℕ). set l 0 (length (runs d))) paired ∙ sym (sets_apart out 0 (length (runs d) ∷ []) 1 (pair_bytes (runs d)) (omega arith)) in
      e
      ∙ ap₂ (λ (b n : ℕ). sets (set out' 0 b) n (words_bytes (set_words d))) counted place
      ∙ ap (λ (l : List ℕ). sets l (1 + length (pair_bytes (runs d))) (words_bytes (set_words d))) pairs
      ∙ sym (sets_append (set out 0 (length (runs d))) 1 (pair_bytes (runs d)) (words_bytes (set_words d)))

-- ---- the refusals of `write`

module _ (old new out : List ℕ) where
  -- one of the pages is not as long as a page
  module _ (short : (length old ≡ page_width → ⊥) ⊎ (length new ≡ page_width → ⊥)) where
    unlike_pages : (eqb (length old) page_width && eqb (length new) page_width) ≡ false
    unlike_pages = elim short [ inl h ↦ rw (ne_eqb _ _ h) | inr h ↦ rw (ne_eqb _ _ h) (go (eqb (length old) page_width)) ]
      where
        go : (b : Bool) → (b && false) ≡ false
        go true = refl
        go false = refl

    pub page_length_refused : Says (Err BadPage) (write_answer page_width old new out)
    unfolding write_answer write_refusal
    page_length_refused = rw unlike_pages (refusal_said BadPage)

    pub page_length_untouched : out ≡ out_after page_width old new out
    unfolding out_after write_refusal
    page_length_untouched = rw unlike_pages

  module _ (old_whole : length old ≡ page_width) (new_whole : length new ≡ page_width) where
    pub pages_whole : PagesWhole old new
    pages_whole = record { old_whole = old_whole; new_whole = new_whole }

    module _ (count words : ℕ) (counted : count ≡ length (runs (difference old new))) (worded : words ≡ length (set_words (difference old new))) where
      long : length (written old new) ≡ 1 + 2 * count + 4 * words
      unfolding written
      long = length_bytes (difference old new) ∙ rw (counted, worded)

      pub out_too_short : length out < 1 + 2 * count + 4 * words → Says (Err NoRoom) (write_answer page_width old new out)
      unfolding write_answer write_refusal
      out_too_short h = rw (eq-eqb _ _ old_whole, eq-eqb _ _ new_whole, long, lt-ltb _ _ h) (refusal_said NoRoom)

      pub out_untouched : length out < 1 + 2 * count + 4 * words → out ≡ out_after page_width old new out
      unfolding out_after write_refusal
      out_untouched h = rw (eq-eqb _ _ old_whole, eq-eqb _ _ new_whole, long, lt-ltb _ _ h)

      module _ (room : 1 + 2 * count + 4 * words ≤ length out) where
        pub room_for_diff : (mask : ℕ) → mask ≡ mask_of (difference old new) → RoomForDiff old new mask out
        room_for_diff mask e = record { whole = pages_whole; is = e; room = omega (arith, long) }

        pub length_answered : (n : ℕ) → n ≡ length (written old new) → Says (Ok n) (write_answer page_width old new out)
        unfolding write_answer write_refusal
        length_answered n e = rw (eq-eqb _ _ old_whole, eq-eqb _ _ new_whole, e, long, le-ltb _ _ room) (length_said (1 + 2 * count + 4 * words))

        pub diff_left : (out' : List ℕ) → out' ≡ sets out 0 (written old new) → out' ≡ out_after page_width old new out
        unfolding out_after write_refusal
        diff_left out' e = e ∙ rw (eq-eqb _ _ old_whole, eq-eqb _ _ new_whole, long, le-ltb _ _ room)

pub ruleset write_laws = (no_pair, room_for_length, pair_stored, word_bytes_put, masking_begins, runs_few, words_few, kept_fewer, start_fits, end_fits, pairs_counted, pairs_end, fewer_left, words_begin, picked_on_page, words_more, page_length_refused, page_length_untouched, out_too_short, out_untouched, diff_left, rules)
