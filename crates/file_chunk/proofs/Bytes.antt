-- Bytes of a file taken: two parts one after the other are the parts together, and eight bytes at once are a record. Assumes nothing.
use Prim.Native.Nat.{ℕ, ◌+◌, ◌≤◌, ◌<◌}
use native.Mathlib.Omega.{arith}
use mathlib.Core.Path.{◌≡◌, refl, sym, ap, ◌∙◌}
use mathlib.Core.Bool.{Bool, true, false, cond}
use mathlib.Core.List.{List, [], ◌∷◌, ◌++◌, append_assoc, append-nil}
use lib.ListN.{length, take, drop, length-append, take-append-drop}
use lib.Seq.{drop-drop, length-take-le}
use lib.Dec.{eqb}
use borrow.Author.Tests.{ne_eqb, eq-eqb}
use Rattle.limits.specs.Files.{file_record_width}
use Rattle.file_record.specs.Records.{Feed, opening_taken, step_taken, too_many_taken, record_taken}
use Rattle.file_chunk.specs.Bytes.{held_on, byte_taken, bytes_taken}

-- ---- parts of a file, one after the other

-- two parts together are one after the other
pub taken_together : (f : Feed) (xs ys : List ℕ) → bytes_taken f (xs ++ ys) ≡ bytes_taken (bytes_taken f xs) ys
unfolding bytes_taken
taken_together f [] ys = refl
taken_together f (x ∷ xs) ys = taken_together (byte_taken f x) xs ys

-- after 2 or 16 nothing changes any more
pub taken_stopped : (f : Feed) (xs : List ℕ) → f.stopped ≡ true → bytes_taken f xs ≡ f
unfolding bytes_taken byte_taken
taken_stopped f [] e = refl
taken_stopped f (x ∷ xs) e =
    ap (λ (b : Bool). bytes_taken (cond b f (cond (eqb (length f.held) 7) (record_taken f (f.held ++ x ∷ [])) (held_on f (f.held ++ x ∷ [])))) xs) e
    ∙ taken_stopped f xs e

-- ---- bytes of one record

-- what was held does not matter for a whole record
record_of_held : (f : Feed) (h bytes : List ℕ) → record_taken (held_on f h) bytes ≡ record_taken f bytes
unfolding record_taken held_on opening_taken step_taken too_many_taken
record_of_held f h bytes = refl

module _ (f : Feed) (b : ℕ) (e : f.stopped ≡ false) where
  pub byte_held : (length f.held ≡ 7 → ⊥) → byte_taken f b ≡ held_on f (f.held ++ b ∷ [])
  unfolding byte_taken
  byte_held n =
      ap (λ (t : Bool). cond t f (cond (eqb (length f.held) 7) (record_taken f (f.held ++ b ∷ [])) (held_on f (f.held ++ b ∷ [])))) e
      ∙ ap (λ (t : Bool). cond t (record_taken f (f.held ++ b ∷ [])) (held_on f (f.held ++ b ∷ []))) (ne_eqb (length f.held) 7 n)

  pub byte_completes : length f.held ≡ 7 → byte_taken f b ≡ record_taken f (f.held ++ b ∷ [])
  unfolding byte_taken
  byte_completes n =
      ap (λ (t : Bool). cond t f (cond (eqb (length f.held) 7) (record_taken f (f.held ++ b ∷ [])) (held_on f (f.held ++ b ∷ [])))) e
      ∙ ap (λ (t : Bool). cond t (record_taken f (f.held ++ b ∷ [])) (held_on f (f.held ++ b ∷ []))) (eq-eqb (length f.held) 7 n)

-- too few bytes for a record are held
pub taken_held : (f : Feed) (xs : List ℕ) → f.stopped ≡ false → length f.held + length xs < file_record_width → bytes_taken f xs ≡ held_on f (f.held ++ xs)
unfolding bytes_taken held_on
taken_held f [] e h = rw (append-nil f.held, ← e)
taken_held f (x ∷ xs) e h =
    ap (λ (g : Feed). bytes_taken g xs) (byte_held f x e (omega (arith, h)))
    ∙ taken_held (held_on f (f.held ++ x ∷ [])) xs refl (omega (arith, h, length-append f.held (x ∷ [])))
    ∙ ap (λ (y : List ℕ). held_on f y) (append_assoc f.held (x ∷ []) xs)

-- the bytes that complete a record
pub taken_record : (f : Feed) (xs : List ℕ) → f.stopped ≡ false → length f.held < file_record_width → length f.held + length xs ≡ file_record_width
    → bytes_taken f xs ≡ record_taken f (f.held ++ xs)
unfolding bytes_taken held_on
taken_record f [] e h n = absurd (omega (arith, h, n))
taken_record f (x ∷ []) e h n = byte_completes f x e (omega (arith, n))
taken_record f (x ∷ y ∷ xs) e h n =
    ap (λ (g : Feed). bytes_taken g (y ∷ xs)) (byte_held f x e (omega (arith, n)))
    ∙ taken_record (held_on f (f.held ++ x ∷ [])) (y ∷ xs) refl (omega (arith, n, length-append f.held (x ∷ []))) (omega (arith, n, length-append f.held (x ∷ [])))
    ∙ record_of_held f (f.held ++ x ∷ []) (f.held ++ x ∷ [] ++ y ∷ xs)
    ∙ ap (λ (z : List ℕ). record_taken f z) (append_assoc f.held (x ∷ []) (y ∷ xs))

-- eight bytes at once, where none is held
pub eight_first : (f : Feed) (xs : List ℕ) → f.held ≡ [] → f.stopped ≡ false → file_record_width ≤ length xs → bytes_taken f xs ≡ bytes_taken (record_taken f (take file_record_width xs)) (drop file_record_width xs)
eight_first f xs e s h =
    ap (λ (ys : List ℕ). bytes_taken f ys) (sym (take-append-drop file_record_width xs))
    ∙ taken_together f (take file_record_width xs) (drop file_record_width xs)
    ∙ ap (λ (g : Feed). bytes_taken g (drop file_record_width xs))
    (taken_record f (take file_record_width xs) s (omega (arith, ap length e)) (omega (arith, ap length e, length-take-le file_record_width xs h))
    ∙ ap (λ (l : List ℕ). record_taken f (l ++ take file_record_width xs)) e)

-- the same from a place of a chunk on
pub eight_taken : (f : Feed) (chunk : List ℕ) (i : ℕ) → f.held ≡ [] → f.stopped ≡ false → file_record_width ≤ length (drop i chunk)
    → bytes_taken f (drop i chunk) ≡ bytes_taken (record_taken f (take file_record_width (drop i chunk))) (drop (i + file_record_width) chunk)
eight_taken f chunk i e s h =
    eight_first f (drop i chunk) e s h ∙ ap (λ (xs : List ℕ). bytes_taken (record_taken f (take file_record_width (drop i chunk))) xs) (drop-drop file_record_width i chunk)
