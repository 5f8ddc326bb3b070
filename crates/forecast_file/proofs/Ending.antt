-- The lines of a stop and the last lines: one law for each way of the code, `figure_laws`, `end_laws` and `finish_laws`. Assumes nothing.
use Prim.Native.Nat.{ℕ, ◌-◌, ◌≤◌}
use native.Mathlib.Omega.{arith}
use mathlib.Core.Path.{◌≡◌, refl, sym, ap, ap₂, subst, ◌∙◌}
use mathlib.Core.Bool.{Bool, true, false, true≢false}
use mathlib.Core.Logic.{◌⊎◌, inl, inr}
use mathlib.Core.List.{List, [], ◌++◌, append-nil, append_assoc}
use lib.ListN.{length, take}
use borrow.Author.Tests.{eq-eqb, ne_eqb}
use borrow.Author.Rules.{rules}
use Rattle.limits.specs.Files.{line_limit}
use Rattle.lines.specs.Lines.{line_bytes, refusal_line, most_line}
use Rattle.lines.specs.inner.Needed.{Room}
use Rattle.file_lines.specs.inner.Needed.{LinePut}
use Rattle.file_lines.proofs.Placing.{rest_kept_all, rest_kept_again}
use Rattle.forecast_step.specs.inner.Needed.{MarksForeseen, FiguresShown}
use Rattle.forecast_file.specs.declared.PartWay.{PartWay}
use Rattle.forecast_file.specs.inner.Needed.{cut_line, last_lines, way_at, Finishable, FiguresPut, EndPut, Finished}

-- ---- a line with figures

pub figures_put : (out : List ℕ) (at number refusal : ℕ) (m : List ℕ) (n d : ℕ) (out' : List ℕ) (end : ℕ) → FiguresShown m n d → LinePut out at (line_bytes number refusal n d) out' end
    → FiguresPut out at number refusal m out' end
figures_put out at number refusal m n d out' end f h =
    record { is = λ own. subst (λ (line : List ℕ). LinePut out at line out' end) (ap₂ (λ (a b : ℕ). line_bytes number refusal a b) (f.is_standing own) (f.is_dirty own)) h }

pub ruleset figure_laws = (figures_put, rules)

-- ---- the end of a file

-- where there is no line nothing is written
no_line : (out : List ℕ) (at : ℕ) → at ≤ length out → LinePut out at [] out at
no_line out at h = record { kept = rest_kept_all out at h; near = omega arith; lines = sym (append-nil (take at out)) }

module _ (p : PartWay) (part out m : List ℕ) (h : Finishable p part out m) where
  -- the forecast has stopped
  pub end_stopped : p.stopped ≡ true → EndPut p part out m p.at out
  unfolding cut_line way_at
  end_stopped z = record { is = λ own. rw z (no_line out p.at (omega (arith, h.able.room))) }

  module _ (going : p.stopped ≡ false) where
    -- there is no opening
    pub end_unopened : (out' : List ℕ) (end : ℕ) → p.reach.number ≡ 0 → LinePut out p.at (line_bytes 0 15 0 0) out' end → EndPut p part out m end out'
    unfolding cut_line way_at refusal_line
    end_unopened out' end z l = record { is = λ own. rw (going, eq-eqb p.reach.number 0 z) l }

    module _ (opened : p.reach.number ≡ 0 → ⊥) where
      -- the marks have figures
      pub end_foreseen : MarksForeseen m
      end_foreseen = record { own = h.own; foreseen = h.able.sound.foreseen going (omega (arith, opened)) }

      -- the file ends behind a whole record
      pub end_whole : length part ≡ p.next → EndPut p part out m p.at out
      unfolding cut_line way_at
      end_whole e = record { is = λ own. rw (going, ne_eqb p.reach.number 0 opened, eq-eqb (length part - p.next) 0 (omega (arith, e))) (no_line out p.at (omega (arith, h.able.room))) }

      -- it ends within a record
      pub end_within : (out' : List ℕ) (end : ℕ) → (length part ≡ p.next → ⊥) → FiguresPut out p.at p.reach.number 15 m out' end → EndPut p part out m end out'
      unfolding cut_line way_at
      end_within out' end z l =
          record { is = λ own. rw (going, ne_eqb p.reach.number 0 opened, ne_eqb (length part - p.next) 0 (λ e. z (omega (arith, e, h.able.within)))) (l.is own) }

pub ruleset end_laws = (end_stopped, end_unopened, end_foreseen, end_whole, end_within, rules)

-- ---- the last lines

module _ (p : PartWay) (part : List ℕ) (ended : Bool) (out m : List ℕ) (h : Finishable p part out m) where
  -- more is to come
  pub not_finished : p.stopped ≡ false → ended ≡ false → Finished p part ended out m (record { reach = p.reach; made = p.at; done = false }) out
  not_finished going more =
      record {
        reach = refl;
        kept = rest_kept_all out p.at (omega (arith, h.able.room));
        on = λ d. (going, (more, refl));
        all = λ d. absurd (true≢false (sym d));
        stopped = λ d. absurd (true≢false (sym d));
        ends = λ d. absurd (true≢false (sym d ∙ more));
      }

  module _ (end : ℕ) (out₁ : List ℕ) (k : EndPut p part out m end out₁) where
    -- there is room for the last line
    pub most_room : Room out₁ end line_limit
    most_room = let l = k.is h.own in record { room = omega (arith, h.able.room, l.near, l.kept.long) }

    last_lines_put : (out₂ : List ℕ) (made : ℕ) → LinePut out₁ end (most_line p.reach.most) out₂ made → (own : List ℕ)
        → take made out₂ ≡ take p.at out ++ last_lines (way_at p out own m) (length part - p.next)
    unfolding last_lines way_at
    last_lines_put out₂ made l own =
        l.lines ∙ ap (λ (x : List ℕ). x ++ most_line p.reach.most) (k.is own).lines
        ∙ append_assoc (take p.at out) (cut_line (way_at p out own m) (length part - p.next)) (most_line p.reach.most)

    -- all is done
    pub finished : (p.stopped ≡ true) ⊎ ((p.stopped ≡ false) × (ended ≡ true)) → (out₂ : List ℕ) (made : ℕ) → LinePut out₁ end (most_line p.reach.most) out₂ made
        → Finished p part ended out m (record { reach = p.reach; made = made; done = true }) out₂
    finished over out₂ made l =
        record {
          reach = refl;
          kept = rest_kept_again out p.at out₁ end out₂ made (k.is h.own).kept l.kept;
          on = λ d. absurd (true≢false d);
          all = λ d own. last_lines_put out₂ made l own;
          stopped = λ d u. by_stop over u;
          ends = λ d. refl;
        }
      where
        by_stop : (p.stopped ≡ true) ⊎ ((p.stopped ≡ false) × (ended ≡ true)) → ended ≡ false → p.stopped ≡ true
        by_stop (inl z) u = z
        by_stop (inr z) u = absurd (true≢false (sym z.1 ∙ u))

pub ruleset finish_laws = (not_finished, most_room, finished, rules)
