-- The test of an opening as one conjunction of tests of bytes and of its length. Assumes nothing.
use Prim.Native.Nat.{ℕ, ◌+◌, ◌*◌, ◌≤◌}
use native.Mathlib.Omega.{arith}
use native.Mathlib.Decide.{ℕ_discrete}
use mathlib.Core.Path.{◌≡◌, refl, sym, ap, ◌∙◌}
use mathlib.Core.Bool.{Bool, true, false, cond, ◌&&◌}
use mathlib.Core.List.{List}
use lib.ListN.{length, get_or}
use lib.Dec.{eqb, leb}
use borrow.Author.Tests.{eq-eqb, ne_eqb, le-leb}
use Rattle.limits.specs.Limits.{lock_limit, page_limit, processor_limit}
use Rattle.limits.specs.Files.{file_record_width}
use Rattle.rules.specs.InOrder.{in_range, counts_in_range}
use Rattle.rules.specs.Opening.{opening_refusal}
use Rattle.rules.specs.State.{mainframe}
use Rattle.opening.specs.Promises.{opening_of}
use Rattle.opening.specs.inner.Openings.{opening_fits, OpeningIs}

-- four bytes are 0 where the number that they make is
rest_is : (a b c d : ℕ) → eqb (a + 256 * b + 65536 * c + 16777216 * d) 0 ≡ (eqb a 0 && eqb b 0 && eqb c 0 && eqb d 0)
rest_is a b c d = go (ℕ_discrete a 0) (ℕ_discrete b 0) (ℕ_discrete c 0) (ℕ_discrete d 0)
  where
    go : Dec (a ≡ 0) → Dec (b ≡ 0) → Dec (c ≡ 0) → Dec (d ≡ 0) → eqb (a + 256 * b + 65536 * c + 16777216 * d) 0 ≡ (eqb a 0 && eqb b 0 && eqb c 0 && eqb d 0)
    go (yes p) (yes q) (yes r) (yes s) = rw (p, q, r, s)
    go (yes p) (yes q) (yes r) (no s) = ne_eqb (a + 256 * b + 65536 * c + 16777216 * d) 0 (λ e. s (omega (arith, e))) ∙ sym (rw (eq-eqb a 0 p, eq-eqb b 0 q, eq-eqb c 0 r, ne_eqb d 0 s))
    go (yes p) (yes q) (no r) s = ne_eqb (a + 256 * b + 65536 * c + 16777216 * d) 0 (λ e. r (omega (arith, e))) ∙ sym (rw (eq-eqb a 0 p, eq-eqb b 0 q, ne_eqb c 0 r))
    go (yes p) (no q) r s = ne_eqb (a + 256 * b + 65536 * c + 16777216 * d) 0 (λ e. q (omega (arith, e))) ∙ sym (rw (eq-eqb a 0 p, ne_eqb b 0 q))
    go (no p) q r s = ne_eqb (a + 256 * b + 65536 * c + 16777216 * d) 0 (λ e. p (omega (arith, e))) ∙ sym (rw (ne_eqb a 0 p))

-- the eight bytes
pub opening_fits_is : (bs : List ℕ)
    → opening_fits bs ≡ (eqb (length bs) file_record_width && (eqb (get_or bs 0 0) 0
    && ((leb 1 (get_or bs 1 0) && leb (get_or bs 1 0) processor_limit) && (leb 1 (get_or bs 2 0) && leb (get_or bs 2 0) page_limit) && (leb 1 (get_or bs 3 0) && leb (get_or bs 3 0) lock_limit))
    && (eqb (get_or bs 4 0) 0 && eqb (get_or bs 5 0) 0 && eqb (get_or bs 6 0) 0 && eqb (get_or bs 7 0) 0)))
unfolding opening_fits opening_refusal opening_of counts_in_range in_range mainframe
opening_fits_is bs =
    ap (λ (x : Bool). eqb (length bs) file_record_width && x)
    (accepted (eqb (get_or bs 0 0) 0 && counts && eqb (get_or bs 4 0 + 256 * get_or bs 5 0 + 65536 * get_or bs 6 0 + 16777216 * get_or bs 7 0) 0)
    ∙ ap (λ (x : Bool). eqb (get_or bs 0 0) 0 && counts && x) (rest_is (get_or bs 4 0) (get_or bs 5 0) (get_or bs 6 0) (get_or bs 7 0)))
  where
    counts : Bool
    counts = (leb 1 (get_or bs 1 0) && leb (get_or bs 1 0) processor_limit) && (leb 1 (get_or bs 2 0) && leb (get_or bs 2 0) page_limit) && (leb 1 (get_or bs 3 0) && leb (get_or bs 3 0) lock_limit)

    accepted : (b : Bool) → eqb (cond b 0 2) 0 ≡ b
    accepted true = refl
    accepted false = refl

-- the opening that fits
pub opening_accepts : (bs : List ℕ) → length bs ≡ file_record_width → get_or bs 0 0 ≡ 0
    → 1 ≤ get_or bs 1 0 → get_or bs 1 0 ≤ processor_limit → 1 ≤ get_or bs 2 0 → get_or bs 2 0 ≤ page_limit → 1 ≤ get_or bs 3 0 → get_or bs 3 0 ≤ lock_limit
    → get_or bs 4 0 ≡ 0 → get_or bs 5 0 ≡ 0 → get_or bs 6 0 ≡ 0 → get_or bs 7 0 ≡ 0 → OpeningIs true bs
opening_accepts bs long first a b c d e f fourth fifth sixth seventh =
    record {
      is =
          sym
          (opening_fits_is bs
          ∙ rw (
            eq-eqb _ _ long,
            eq-eqb _ _ first,
            le-leb _ _ a,
            le-leb _ _ b,
            le-leb _ _ c,
            le-leb _ _ d,
            le-leb _ _ e,
            le-leb _ _ f,
            eq-eqb _ _ fourth,
            eq-eqb _ _ fifth,
            eq-eqb _ _ sixth,
            eq-eqb _ _ seventh,
          ));
    }
