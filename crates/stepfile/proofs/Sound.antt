-- What a chunk that is fed has. Assumes nothing.
use Prim.Native.Nat.{◌*◌, ◌+◌, ◌/◌, ◌<◌, ◌≤◌, ℕ}
use native.Mathlib.Omega.{arith}
use mathlib.Core.Path.{◌≡◌}
use mathlib.Core.Bool.{◌&&◌, and-eq-true_iff, true}
use lib.ListN.{drop, length}
use lib.Dec.{leb, ltb}
use borrow.Author.Tests.{leb-true, ltb-true}
use Rattle.limits.specs.Files.{file_record_width, line_limit, step_limit}
use Rattle.limits.specs.Limits.{word_values}
use Rattle.limits.specs.inner.Sizes.{file_record_limit}
use Rattle.rules.specs.InOrder.{all_zero}
use Rattle.stepfile.specs.Promises.{feedable, sound}
use Rattle.stepfile.specs.declared.Progress.{Progress}
use Rattle.file_held.specs.inner.Needed.{Holding}
use Rattle.file_held.proofs.HeldBytes.{holding_of}

module _ (p : Progress) (chunk room : ℕ) where
  module _ (e : feedable p chunk room ≡ true) where
    is_sound : sound p ≡ true
    unfolding feedable
    is_sound = ((and-eq-true_iff (sound p) (ltb (chunk / file_record_width) (room / line_limit))).0 e).0

    sound_both : ((leb p.number (step_limit + 1) && leb p.words (word_values * p.number)) ≡ true) × ((ltb p.held file_record_width && all_zero (drop p.held p.bytes)) ≡ true)
    unfolding sound
    sound_both =
        (and-eq-true_iff (leb p.number (step_limit + 1) && leb p.words (word_values * p.number)) (ltb p.held file_record_width && all_zero (drop p.held p.bytes))).0 is_sound

    numbers_both : (leb p.number (step_limit + 1) ≡ true) × (leb p.words (word_values * p.number) ≡ true)
    numbers_both = (and-eq-true_iff (leb p.number (step_limit + 1)) (leb p.words (word_values * p.number))).0 sound_both.0

    held_both : (ltb p.held file_record_width ≡ true) × (all_zero (drop p.held p.bytes) ≡ true)
    held_both = (and-eq-true_iff (ltb p.held file_record_width) (all_zero (drop p.held p.bytes))).0 sound_both.1

    pub few_records : p.number ≤ file_record_limit
    few_records = leb-true p.number file_record_limit numbers_both.0

    pub few_words : p.words ≤ word_values * p.number
    few_words = leb-true p.words (word_values * p.number) numbers_both.1

    pub few_held : p.held < file_record_width
    few_held = ltb-true p.held file_record_width held_both.0

    pub holding_there : length p.bytes ≡ file_record_width → Holding p.held p.bytes
    holding_there long = holding_of p.held p.bytes long (omega (arith, few_held)) held_both.1

    pub room_there : line_limit * (chunk / file_record_width) + line_limit ≤ room
    unfolding feedable
    room_there =
        let l : chunk / file_record_width < room / line_limit = ltb-true (chunk / file_record_width) (room / line_limit) ((and-eq-true_iff (sound p) (ltb (chunk / file_record_width) (room / line_limit))).0 e).1 in
        omega (arith, l)
