-- What a diff does to a page: each word on its own, and, run by run, the words laid into the page one run after the other. Assumes nothing.
use Prim.Native.Nat.{ℕ, zero, suc, ◌+◌, ◌-◌, ◌*◌, ◌≤◌, ◌<◌}
use native.Mathlib.Omega.{arith}
use mathlib.Core.Path.{◌≡◌, refl, sym, ap, ap₂, ◌∙◌}
use mathlib.Core.Bool.{true}
use mathlib.Core.Option
use mathlib.Core.Option.{Option, none, some}
use mathlib.Core.List.{List, [], ◌∷◌, ◌++◌, map, append_assoc, append-nil}
use lib.ListN.{length, get_or, take, drop, replicate, length-append, length-drop, take-append-drop}
use lib.Seq.{sets, sets-eq, length-sets, take_at, drop_at, take-add, drop-drop, length-take-le}
use Rattle.diff.specs.Format.{Run}
use Rattle.diff.specs.Reading.{runs_in, words_place, words_at, word_count, orderly, settings_of, settings, overlay, applied}
use Rattle.diff.proofs.Runs.{orderly_parts, orderly_earlier}
use Rattle.diff.proofs.Words.{length_words, words_split}

-- ---- one word

-- a word of the page is the value set there, or the word as it was
pub overlay_word : (d : List (Option ℕ)) (page : List ℕ) (i : ℕ) → i < length page
    → get_or (overlay d page) i 0 ≡ Option.get_or (get_or d i none) (get_or page i 0)
unfolding overlay
overlay_word [] page i h = refl
overlay_word (s ∷ d) [] i h = absurd (omega arith)
overlay_word (none ∷ d) (x ∷ page) zero h = refl
overlay_word (some v ∷ d) (x ∷ page) zero h = refl
overlay_word (none ∷ d) (x ∷ page) (suc i) h = overlay_word d page i (omega arith)
overlay_word (some v ∷ d) (x ∷ page) (suc i) h = overlay_word d page i (omega arith)

pub length_overlay : (d : List (Option ℕ)) (page : List ℕ) → length (overlay d page) ≡ length page
unfolding overlay
length_overlay [] page = refl
length_overlay (s ∷ d) [] = refl
length_overlay (none ∷ d) (x ∷ page) = ap suc (length_overlay d page)
length_overlay (some v ∷ d) (x ∷ page) = ap suc (length_overlay d page)

-- ---- run by run

overlay_nothing : (d : List (Option ℕ)) → overlay d [] ≡ []
unfolding overlay
overlay_nothing [] = refl
overlay_nothing (s ∷ d) = refl

-- words that are kept stay
overlay_gap : (g : ℕ) (d : List (Option ℕ)) (page : List ℕ) → overlay (replicate g none ++ d) page ≡ take g page ++ overlay d (drop g page)
unfolding overlay
overlay_gap zero d page = refl
overlay_gap (suc g) d [] = sym (overlay_nothing d)
overlay_gap (suc g) d (x ∷ page) = ap (λ (l : List ℕ). x ∷ l) (overlay_gap g d page)

-- words that are set take the place of the page's
overlay_run : (vs : List ℕ) (d : List (Option ℕ)) (page : List ℕ) → length vs ≤ length page → overlay (map some vs ++ d) page ≡ vs ++ overlay d (drop (length vs) page)
unfolding overlay
overlay_run [] d page h = refl
overlay_run (v ∷ vs) d [] h = absurd (omega arith)
overlay_run (v ∷ vs) d (x ∷ page) h = ap (λ (l : List ℕ). v ∷ l) (overlay_run vs d page (omega arith))

-- the words of runs that stand from a place on, laid into the page one run after the other
unfoldable pub lay : List ℕ → List Run → ℕ → List ℕ → List ℕ
lay bytes [] words page = page
lay bytes (r ∷ rs) words page = lay bytes rs (words + 4 * r.len) (sets page r.offset (words_at bytes words r.len))

-- the settings of a run and of those behind it: before the run the page stays, then come its words
overlay_step : (w from o k : ℕ) (rs : List Run) (vs rest page : List ℕ) → from ≤ o → o + k ≤ length page → length vs ≡ k
    → take from page ++ overlay (settings_of w from (record { offset = o; len = k } ∷ rs) (vs ++ rest)) (drop from page)
    ≡ take o page ++ vs ++ overlay (settings_of w (o + k) rs rest) (drop (o + k) page)
unfolding settings_of
overlay_step w from o k rs vs rest page h fits long =
    let g : ℕ = o - from in
    let later : List (Option ℕ) = settings_of w (o + k) rs rest in
    let there : from + g ≡ o = omega arith in
    let at_run : drop g (drop from page) ≡ drop o page = drop-drop g from page ∙ ap (λ (n : ℕ). drop n page) there in
    let behind : drop (length vs) (drop o page) ≡ drop (o + k) page = drop-drop (length vs) o page ∙ ap (λ (n : ℕ). drop (o + n) page) long in
    let room : length vs ≤ length (drop o page) = simp length-drop (omega (arith, long)) in
    rw (
      take_at vs rest k long,
      drop_at vs rest k long,
      append_assoc (replicate g none) (map some vs) later,
      overlay_gap g (map some vs ++ later) (drop from page),
      at_run,
      overlay_run vs later (drop o page) room,
      behind,
    )
    (sym (append_assoc (take from page) (take g (drop from page)) (vs ++ overlay later (drop (o + k) page)))
    ∙ ap (λ (l : List ℕ). l ++ (vs ++ overlay later (drop (o + k) page))) (sym (take-add from g page) ∙ ap (λ (n : ℕ). take n page) there)
    ∙ sym (append_assoc (take o page) vs (overlay later (drop (o + k) page))))

lay_overlay : (w : ℕ) (bytes : List ℕ) (from : ℕ) (rs : List Run) (words : ℕ) (page : List ℕ) → from ≤ w → orderly w from rs ≡ true → length page ≡ w
    → lay bytes rs words page ≡ take from page ++ overlay (settings_of w from rs (words_at bytes words (word_count rs))) (drop from page)
unfolding lay settings_of word_count overlay
lay_overlay w bytes from [] words page h o l =
    let rest : List ℕ = drop from page in
    sym (ap (λ (d : List (Option ℕ)). take from page ++ overlay d rest) (sym (append-nil (replicate (w - from) none)))
    ∙ ap (λ (t : List ℕ). take from page ++ t) (overlay_gap (w - from) [] rest ∙ take-append-drop (w - from) rest)
    ∙ take-append-drop from page)
lay_overlay w bytes from (r ∷ rs) words page h o l =
    let p = orderly_parts w from r rs o in
    let k : ℕ = r.len in
    let vs : List ℕ = words_at bytes words k in
    let rest : List ℕ = words_at bytes (words + 4 * k) (word_count rs) in
    let long : length vs ≡ k = length_words bytes words k in
    let after : List ℕ = sets page r.offset vs in
    let cut : after ≡ take r.offset page ++ vs ++ drop (r.offset + k) page =
    sets-eq vs page r.offset (omega (arith, long, p.within)) ∙ ap (λ (n : ℕ). take r.offset page ++ vs ++ drop (r.offset + n) page) long in
    let front : length (take r.offset page ++ vs) ≡ r.offset + k =
    length-append (take r.offset page) vs ∙ ap₂ ◌+◌ (length-take-le r.offset page (omega (arith, p.within))) long in
    let taken : take (r.offset + k) after ≡ take r.offset page ++ vs =
    ap (λ (q : List ℕ). take (r.offset + k) q) cut ∙ take_at (take r.offset page ++ vs) (drop (r.offset + k) page) (r.offset + k) front in
    let dropped : drop (r.offset + k) after ≡ drop (r.offset + k) page =
    ap (λ (q : List ℕ). drop (r.offset + k) q) cut ∙ drop_at (take r.offset page ++ vs) (drop (r.offset + k) page) (r.offset + k) front in
    lay_overlay w bytes (r.offset + k) rs (words + 4 * k) after p.within (orderly_earlier w (r.offset + k) rs p.rest) (length-sets page r.offset vs ∙ l)
    ∙ rw (taken, dropped, words_split bytes words k (word_count rs))
    (sym (overlay_step w from r.offset k rs vs rest page p.above (omega (arith, p.within)) long))

-- laying the runs of a diff one after the other is carrying out its settings
pub lay_applies : (w : ℕ) (bytes page : List ℕ) → orderly w 0 (runs_in bytes) ≡ true → length page ≡ w
    → applied w bytes page ≡ lay bytes (runs_in bytes) (words_place bytes) page
unfolding applied settings
lay_applies w bytes page o l = sym (lay_overlay w bytes 0 (runs_in bytes) (words_place bytes) page (omega arith) o l)
