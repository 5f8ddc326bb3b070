-- Whole records of a file taken one after the other: parts of them, and the steps among them by their figures. Rests on rules' Foretold. Assumes nothing.
use Prim.Native.Nat.{ℕ, zero, suc, ◌+◌, ◌*◌, ◌/◌, ◌%◌, ◌≤◌, max}
use native.Mathlib.Omega.{arith}
use native.Mathlib.Nat.{add-zero, zero-add, suc-add}
use mathlib.Core.Path.{◌≡◌, refl, sym, ap, ap₂, ◌∙◌}
use mathlib.Core.Bool.{Bool, true, false, cond}
use mathlib.Core.List.{List, [], ◌∷◌, ◌++◌, append_assoc, append-nil}
use lib.ListN.{length, take, drop, length-append, length-drop}
use lib.Seq.{drop-drop, drop_at, take-append-le, drop-append-le}
use borrow.Author.Tests.{ne_eqb, le-leb}
use Rattle.limits.specs.Files.{file_record_width, step_limit}
use Rattle.rules.specs.State.{mainframe}
use Rattle.rules.specs.Refusals.{Step}
use Rattle.rules.specs.Forecast.{Forecast, forecast_refusal, dirty_for, forecast_next, Figures, forecast_figures, most_of}
use Rattle.step_fields.specs.Records.{step_from, steps_in}
use Rattle.step_fields.proofs.Reading.{step_of_eight}
use Rattle.lines.specs.Lines.{line_bytes}
use Rattle.forecast_file.specs.Files.{figure_lines, last_figures}
use Rattle.forecast_file.specs.Standing.{Foresight, nothing_foreseen, step_foreseen, record_foreseen, records_foreseen, foreseen}

-- ---- records one after the other

-- after 2 or 16 nothing changes any more
pub foreseen_stopped : (f : Foresight) (n : ℕ) (bytes : List ℕ) → f.stopped ≡ true → records_foreseen f n bytes ≡ f
unfolding records_foreseen
foreseen_stopped f zero bytes e = refl
foreseen_stopped f (suc n) bytes e = rw e

-- one record more
pub foreseen_one : (f : Foresight) (n : ℕ) (bytes : List ℕ) → f.stopped ≡ false
    → records_foreseen f (suc n) bytes ≡ records_foreseen (record_foreseen f (take file_record_width bytes)) n (drop file_record_width bytes)
unfolding records_foreseen
foreseen_one f n bytes e = rw e

-- some records, and those behind them
pub foreseen_together : (f : Foresight) (n m : ℕ) (bytes : List ℕ) → records_foreseen f (n + m) bytes ≡ records_foreseen (records_foreseen f n bytes) m (drop (file_record_width * n) bytes)
unfolding records_foreseen
foreseen_together f zero m bytes = ap (λ (k : ℕ). records_foreseen f k bytes) (zero-add m)
foreseen_together f (suc n) m bytes =
    ap (λ (k : ℕ). records_foreseen f k bytes) (suc-add n m)
    ∙ go f.stopped refl (foreseen_together (record_foreseen f (take file_record_width bytes)) n m (drop file_record_width bytes))
  where
    further : file_record_width + file_record_width * n ≡ file_record_width * suc n
    further = omega arith

    go : (b : Bool) → f.stopped ≡ b
        → records_foreseen (record_foreseen f (take file_record_width bytes)) (n + m) (drop file_record_width bytes)
        ≡ records_foreseen (records_foreseen (record_foreseen f (take file_record_width bytes)) n (drop file_record_width bytes)) m (drop (file_record_width * n) (drop file_record_width bytes))
        → cond b f (records_foreseen (record_foreseen f (take file_record_width bytes)) (n + m) (drop file_record_width bytes))
        ≡ records_foreseen (cond b f (records_foreseen (record_foreseen f (take file_record_width bytes)) n (drop file_record_width bytes))) m (drop (file_record_width * suc n) bytes)
    go true e ih = sym (foreseen_stopped f m (drop (file_record_width * suc n) bytes) e)
    go false e ih =
        ih
        ∙ ap (records_foreseen (records_foreseen (record_foreseen f (take file_record_width bytes)) n (drop file_record_width bytes)) m)
        (drop-drop (file_record_width * n) file_record_width bytes ∙ ap (λ (k : ℕ). drop k bytes) further)

-- only the bytes of the records count
pub foreseen_of : (f : Foresight) (n : ℕ) (xs ys : List ℕ) → file_record_width * n ≤ length xs → records_foreseen f n (xs ++ ys) ≡ records_foreseen f n xs
unfolding records_foreseen
foreseen_of f zero xs ys h = refl
foreseen_of f (suc n) xs ys h =
    ap₂ (λ (a b : List ℕ). cond f.stopped f (records_foreseen (record_foreseen f a) n b)) (take-append-le file_record_width xs ys (omega (arith, h))) (drop-append-le file_record_width xs ys (omega (arith, h)))
    ∙ ap (λ (g : Foresight). cond f.stopped f g) (foreseen_of (record_foreseen f (take file_record_width xs)) n (drop file_record_width xs) ys (omega (arith, h, length-drop file_record_width xs)))

-- bytes taken in two parts, of which the first are whole records
pub foreseen_cut : (k : Forecast) (xs ys : List ℕ) → length xs % file_record_width ≡ 0
    → foreseen k (xs ++ ys) ≡ records_foreseen (foreseen k xs) (length ys / file_record_width) ys
unfolding foreseen
foreseen_cut k xs ys whole =
    let n : ℕ = length xs / file_record_width in
    let long : file_record_width * n ≡ length xs = omega (arith, whole) in
    ap (λ (j : ℕ). records_foreseen (nothing_foreseen k) j (xs ++ ys)) (omega (arith, length-append xs ys, whole))
    ∙ foreseen_together (nothing_foreseen k) n (length ys / file_record_width) (xs ++ ys)
    ∙ ap₂ (λ (f : Foresight) (bytes : List ℕ). records_foreseen f (length ys / file_record_width) bytes) (foreseen_of (nothing_foreseen k) n xs ys (omega (arith, long)))
    (ap (λ (j : ℕ). drop j (xs ++ ys)) long ∙ drop_at xs ys (length xs) refl)

-- ---- steps

-- what a forecast keeps after some steps
unfoldable pub after_steps : Forecast → List Step → Forecast
after_steps f [] = f
after_steps f (t ∷ ts) = after_steps (forecast_next mainframe f t) ts

-- the figures of the last step are those of what is kept then
pub last_kept : (f : Forecast) (ts : List Step) (x : Figures) → x.standing ≡ f.standing → x.dirty ≡ dirty_for f
    → ((last_figures x (forecast_figures mainframe f ts)).standing ≡ (after_steps f ts).standing) × ((last_figures x (forecast_figures mainframe f ts)).dirty ≡ dirty_for (after_steps f ts))
unfolding last_figures forecast_figures after_steps
last_kept f [] x s d = (s, d)
last_kept f (t ∷ ts) x s d =
    last_kept (forecast_next mainframe f t) ts (record { refusal = forecast_refusal mainframe f t; standing = (forecast_next mainframe f t).standing; dirty = dirty_for (forecast_next mainframe f t) }) refl refl

-- a record that is a step
pub one_step : (f : Foresight) (bytes : List ℕ) → 1 ≤ f.number → f.number ≤ step_limit → record_foreseen f (take file_record_width bytes) ≡ step_foreseen f bytes
unfolding record_foreseen step_foreseen
one_step f bytes from few =
    rw (ne_eqb f.number 0 (λ z. omega (arith, z, from)), le-leb f.number step_limit few, step_of_eight bytes)

-- where a forecast that goes on stands, by its parts
stands_equal : (n n' : ℕ) (k : Forecast) (m m' : ℕ) (l l' : List ℕ) → n ≡ n' → m ≡ m' → l ≡ l'
    → ◌≡◌ {A = Foresight} (record { number = n; stopped = false; forecast = k; most = m; lines = l }) (record { number = n'; stopped = false; forecast = k; most = m'; lines = l' })
stands_equal n n' k m m' l l' a b c = λ i. record { number = a i; stopped = false; forecast = k; most = b i; lines = c i }

-- the steps of n records, taken from a number on that leaves room for them
pub steps_foreseen : (f : Foresight) (n : ℕ) (bytes : List ℕ) → f.stopped ≡ false → 1 ≤ f.number → f.number + n ≤ step_limit + 1
    → records_foreseen f n bytes
    ≡ record {
      number = f.number + n;
      stopped = false;
      forecast = after_steps f.forecast (steps_in n bytes);
      most = max f.most (most_of (forecast_figures mainframe f.forecast (steps_in n bytes)));
      lines = f.lines ++ figure_lines f.number (forecast_figures mainframe f.forecast (steps_in n bytes));
    }
unfolding records_foreseen steps_in after_steps forecast_figures most_of figure_lines
steps_foreseen f zero bytes e from few = rw (add-zero f.number, append-nil f.lines, ← e, max_zero) refl
  where
    max_zero : max f.most 0 ≡ f.most
    max_zero = omega arith
steps_foreseen f (suc n) bytes e from few =
    ap (λ (b : Bool). cond b f (records_foreseen (record_foreseen f (take file_record_width bytes)) n (drop file_record_width bytes))) e
    ∙ ap (λ (g : Foresight). records_foreseen g n (drop file_record_width bytes)) (one_step f bytes from (omega (arith, few)))
    ∙ steps_foreseen (step_foreseen f bytes) n (drop file_record_width bytes) (unfold step_foreseen in refl) (unfold step_foreseen in omega arith) (unfold step_foreseen in omega (arith, few))
    ∙ (unfold step_foreseen in
    stands_equal (suc f.number + n) (f.number + suc n) (after_steps g (steps_in n (drop file_record_width bytes))) (max (max f.most (g.standing + dirty_for g)) (most_of rest))
    (max f.most (max (g.standing + dirty_for g) (most_of rest))) (f.lines ++ line ++ figure_lines (suc f.number) rest) (f.lines ++ (line ++ figure_lines (suc f.number) rest))
    (omega arith) (omega arith) (append_assoc f.lines line (figure_lines (suc f.number) rest)))
  where
    g : Forecast
    g = forecast_next mainframe f.forecast (step_from bytes)

    rest : List Figures
    rest = forecast_figures mainframe (forecast_next mainframe f.forecast (step_from bytes)) (steps_in n (drop file_record_width bytes))

    line : List ℕ
    line = line_bytes f.number (forecast_refusal mainframe f.forecast (step_from bytes)) (forecast_next mainframe f.forecast (step_from bytes)).standing (dirty_for (forecast_next mainframe f.forecast (step_from bytes)))
