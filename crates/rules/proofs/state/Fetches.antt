-- Fetching every page for every processor: what each fetch keeps is kept, the counts, the marks and the tallies among it. Rests on the definitions
-- alone. Assumes nothing.
use Prim.Native.Nat.{ℕ, zero, suc, ◌≤◌, ◌<◌}
use native.Mathlib.Omega.{arith}
use mathlib.Core.Path.{◌≡◌, refl}
use Rattle.rules.specs.State.{Limits, Counts, State}
use Rattle.rules.specs.Fetch.{fetched}
use Rattle.rules.specs.Steps.{pages_fetched, all_fetched}

module _ (lim : Limits) (n : Counts) (P : State → Type 0)
    (keeps : (s : State) (p g : ℕ) → 1 ≤ p → p ≤ n.processors → g < n.pages → P s → P (fetched lim s p g)) where
  pages_fetched_keep : (s : State) (p m : ℕ) → 1 ≤ p → p ≤ n.processors → m ≤ n.pages → P s → P (pages_fetched lim s p m).after
  unfolding pages_fetched
  pages_fetched_keep s p zero h k l f = f
  pages_fetched_keep s p (suc g) h k l f = keeps (pages_fetched lim s p g).after p g h k l (pages_fetched_keep s p g h k (omega arith) f)

  first_fetched_keep : (s : State) (m : ℕ) → s.counts.pages ≤ n.pages → m ≤ n.processors → P s → P (all_fetched lim s m).after
  unfolding all_fetched
  first_fetched_keep s zero l h f = f
  first_fetched_keep s (suc m) l h f =
      pages_fetched_keep (all_fetched lim s m).after (suc m) s.counts.pages (omega arith) h l (first_fetched_keep s m l (omega arith) f)

-- what every fetch by a present processor of a present page keeps
pub all_fetched_keep : (lim : Limits) (s : State) (P : State → Type 0)
    → ((u : State) (p g : ℕ) → 1 ≤ p → p ≤ s.counts.processors → g < s.counts.pages → P u → P (fetched lim u p g))
    → P s → P (all_fetched lim s s.counts.processors).after
all_fetched_keep lim s P keeps f = first_fetched_keep lim s.counts P keeps s s.counts.processors (omega arith) (omega arith) f

-- the counts of the opening
pub all_fetched_counts : (lim : Limits) (s : State) → (all_fetched lim s s.counts.processors).after.counts ≡ s.counts
unfolding fetched
all_fetched_counts lim s = all_fetched_keep lim s (λ u. u.counts ≡ s.counts) (λ u p g h k l e. e) refl

-- the marks
pub all_fetched_marks : (lim : Limits) (s : State) → (all_fetched lim s s.counts.processors).after.marks ≡ s.marks
unfolding fetched
all_fetched_marks lim s = all_fetched_keep lim s (λ u. u.marks ≡ s.marks) (λ u p g h k l e. e) refl

-- the tallies
pub all_fetched_shared : (lim : Limits) (s : State) → (all_fetched lim s s.counts.processors).after.shared ≡ s.shared
unfolding fetched
all_fetched_shared lim s = all_fetched_keep lim s (λ u. u.shared ≡ s.shared) (λ u p g h k l e. e) refl
