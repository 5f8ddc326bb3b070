-- Lists stored in a list, one part after the other. Assumes nothing.
use Prim.Native.Nat.{ℕ, suc, ◌+◌, ◌≤◌, ◌<◌}
use native.Mathlib.Omega.{arith}
use native.Mathlib.Nat.{add-zero}
use mathlib.Core.Path.{◌≡◌, refl, sym, ap, ◌∙◌}
use mathlib.Core.List.{List, [], ◌∷◌, ◌++◌}
use lib.ListN.{length, set}
use lib.Seq.{set_comm, set-set, sets}

-- two lists in a row are stored one behind the other
pub sets_append : (l : List ℕ) (i : ℕ) (vs ws : List ℕ) → sets l i (vs ++ ws) ≡ sets (sets l i vs) (i + length vs) ws
sets_append l i [] ws = ap (λ (n : ℕ). sets l n ws) (sym (add-zero i))
sets_append l i (v ∷ vs) ws =
    sets_append (set l i v) (suc i) vs ws ∙ ap (λ (n : ℕ). sets (sets (set l i v) (suc i) vs) n ws) (omega arith)

-- a byte before others may be stored after them
set_after : (l : List ℕ) (i k v : ℕ) (ws : List ℕ) → i < k → sets (set l i v) k ws ≡ set (sets l k ws) i v
set_after l i k v [] h = refl
set_after l i k v (w ∷ ws) h =
    ap (λ (m : List ℕ). sets m (suc k) ws) (set_comm l i k v w (λ e. omega arith)) ∙ set_after (set l k w) i (suc k) v ws (omega arith)

-- of two lists in a row, the last may be stored first
pub sets_last_first : (l : List ℕ) (i : ℕ) (vs ws : List ℕ) → sets l i (vs ++ ws) ≡ sets (sets l (i + length vs) ws) i vs
sets_last_first l i [] ws = ap (λ (n : ℕ). sets l n ws) (sym (add-zero i))
sets_last_first l i (x ∷ vs) ws =
    let place : suc i + length vs ≡ i + length (x ∷ vs) = omega arith in
    sets_last_first (set l i x) (suc i) vs ws
    ∙ ap (λ (n : ℕ). sets (sets (set l i x) n ws) (suc i) vs) place
    ∙ ap (λ (m : List ℕ). sets m (suc i) vs) (set_after l i (i + length (x ∷ vs)) x ws (omega arith))

-- what is stored over others, as many at least, leaves nothing of them
pub sets_over : (l : List ℕ) (i : ℕ) (vs ws : List ℕ) → length vs ≤ length ws → sets (sets l i vs) i ws ≡ sets l i ws
sets_over l i [] ws h = refl
sets_over l i (v ∷ vs) [] h = absurd (omega arith)
sets_over l i (v ∷ vs) (w ∷ ws) h =
    ap (λ (m : List ℕ). sets (set m i w) (suc i) ws) (set_after l i (suc i) v vs (omega arith))
    ∙ ap (λ (m : List ℕ). sets m (suc i) ws) (set-set (sets l (suc i) vs) i v w ∙ sym (set_after l i (suc i) w vs (omega arith)))
    ∙ sets_over (set l i w) (suc i) vs ws (omega arith)

-- two lists at places that are apart may be stored in either order
pub sets_apart : (l : List ℕ) (i : ℕ) (vs : List ℕ) (j : ℕ) (ws : List ℕ) → i + length vs ≤ j → sets (sets l i vs) j ws ≡ sets (sets l j ws) i vs
sets_apart l i [] j ws h = refl
sets_apart l i (v ∷ vs) j ws h =
    sets_apart (set l i v) (suc i) vs j ws (omega arith) ∙ ap (λ (m : List ℕ). sets m (suc i) vs) (set_after l i j v ws (omega arith))
