-- The digits of a number counted on by one: `count_laws`. Rests on Digits. Assumes nothing.
use Prim.Native.Nat.{ℕ, zero, suc, ◌+◌, ◌-◌, ◌/◌, ◌%◌, ◌≤◌, ◌<◌}
use native.Mathlib.Numerals.{add-one}
use native.Mathlib.Omega.{arith}
use mathlib.Core.Path.{◌≡◌, refl, sym, ap, ◌∙◌}
use mathlib.Core.Bool.{cond}
use mathlib.Core.List.{List, [], ◌∷◌, ◌++◌, append_assoc, append-nil}
use lib.ListN.{length, take, drop, get_or, set, replicate, length-append, length-set, length-replicate, take-append-drop}
use lib.Seq.{append_snoc, drop-cons, get_or_at, length-sets, set_at, sets, sets-eq, take_at}
use lib.Dec.{ltb}
use borrow.Author.Tests.{lt-ltb, le-ltb}
use borrow.Author.Rules.{rules}
use Rattle.lines.specs.Decimal.{digits}
use Rattle.lines.specs.inner.Needed.{DigitsFit, Eight, Counted, Countable}
use Rattle.lines.proofs.Digits.{by_digits, digits_one, digits_more, digits_at_most, some_digit}

-- ---- the digits of a number and of the next

-- the digits before the last: none, or those of the tenth
unfoldable above : ℕ → List ℕ
above m = cond (ltb m 10) [] (digits (m / 10))

above_one : (m : ℕ) → m < 10 → above m ≡ []
unfolding above
above_one m h = rw (lt-ltb m 10 h)

above_more : (m : ℕ) → 10 ≤ m → above m ≡ digits (m / 10)
unfolding above
above_more m h = rw (le-ltb m 10 h)

-- where there are some, they are those of the tenth; where there are none, the tenth is 0
above_some : (m : ℕ) → 1 ≤ length (above m) → above m ≡ digits (m / 10)
above_some =
    by_digits (λ m. 1 ≤ length (above m) → above m ≡ digits (m / 10)) (λ m h k. absurd (omega (arith, ap length (above_one m h)))) (λ m h before k. above_more m h)

above_none : (m : ℕ) → length (above m) ≡ 0 → m / 10 ≡ 0
above_none =
    by_digits (λ m. length (above m) ≡ 0 → m / 10 ≡ 0) (λ m h k. omega arith)
    (λ m h before k. absurd (omega (arith, ap length (above_more m h), some_digit (m / 10))))

-- the last digit stands behind them
digits_last : (m : ℕ) → digits m ≡ above m ++ (48 + m % 10) ∷ []
digits_last =
    by_digits (λ m. digits m ≡ above m ++ (48 + m % 10) ∷ [])
    (λ m h. digits_one m h ∙ ap (λ (k : ℕ). (48 + k) ∷ []) (omega arith) ∙ ap (λ (l : List ℕ). l ++ (48 + m % 10) ∷ []) (sym (above_one m h)))
    (λ m h before. digits_more m h ∙ ap (λ (l : List ℕ). l ++ (48 + m % 10) ∷ []) (sym (above_more m h)))

-- a last digit that is no 9 rises
digits_risen : (m : ℕ) → m % 10 < 9 → digits (m + 1) ≡ above m ++ (48 + m % 10 + 1) ∷ []
digits_risen =
    by_digits (λ m. m % 10 < 9 → digits (m + 1) ≡ above m ++ (48 + m % 10 + 1) ∷ [])
    (λ m h k.
    let next : 48 + (m + 1) ≡ 48 + m % 10 + 1 = omega arith in
    digits_one (m + 1) (omega arith) ∙ ap (λ (b : ℕ). b ∷ []) next ∙ ap (λ (l : List ℕ). l ++ (48 + m % 10 + 1) ∷ []) (sym (above_one m h)))
    (λ m h before k.
    let next : 48 + (m + 1) % 10 ≡ 48 + m % 10 + 1 = omega arith in
    let same : (m + 1) / 10 ≡ m / 10 = omega arith in
    digits_more (m + 1) (omega arith)
    ∙ ap (λ (b : ℕ). digits ((m + 1) / 10) ++ b ∷ []) next
    ∙ ap (λ (l : List ℕ). l ++ (48 + m % 10 + 1) ∷ []) (ap digits same ∙ sym (above_more m h)))

-- behind a 9 the tenth rises, and a zero is last
digits_carried : (m : ℕ) → m % 10 ≡ 9 → digits (m + 1) ≡ digits (m / 10 + 1) ++ 48 ∷ []
digits_carried m h =
    let next : 48 + (m + 1) % 10 ≡ 48 = omega arith in
    let tenth : (m + 1) / 10 ≡ m / 10 + 1 = omega arith in
    digits_more (m + 1) (omega arith)
    ∙ ap (λ (b : ℕ). digits ((m + 1) / 10) ++ b ∷ []) next
    ∙ ap (λ (k : ℕ). digits k ++ 48 ∷ []) tenth

-- ---- eight bytes

-- digits laid over the first bytes leave those behind
laid_front : (d₀ : List ℕ) (len n : ℕ) → len ≡ length (digits n) → len ≤ length d₀ → sets d₀ 0 (digits n) ≡ digits n ++ drop len d₀
laid_front d₀ len n c few =
    let place : 0 + length (digits n) ≡ len = omega (arith, c) in
    sets-eq (digits n) d₀ 0 (omega (arith, c, few)) ∙ ap (λ (k : ℕ). digits n ++ drop k d₀) place

-- digits laid over the first of eight bytes are counted
counted_laid : (d₀ d : List ℕ) (len n : ℕ) → length d₀ ≡ 8 → len ≤ 8 → len ≡ length (digits n) → d ≡ sets d₀ 0 (digits n) → Counted d len n
counted_laid d₀ d len n l few c e =
    record {
      long = ap length e ∙ length-sets d₀ 0 (digits n) ∙ l;
      few = few;
      said =
          ap (λ (x : List ℕ). take len x) (e ∙ laid_front d₀ len n c (omega (arith, l, few))) ∙ take_at (digits n) (drop len d₀) len (sym c);
      counted = c;
    }

-- the first digits
module _ (d : List ℕ) (len n : ℕ) (p : Eight d n) (c : len ≡ length (digits n)) where
  pub eight_fit : DigitsFit d 0 len n
  eight_fit = record { counted = c; room = omega (arith, p.long, p.few, digits_at_most 6 n (omega (arith, p.few))) }

  pub counted_first : (d' : List ℕ) → d' ≡ sets d 0 (digits n) → Counted d' len n
  counted_first d' e = counted_laid d d' len n p.long (omega (arith, p.long, eight_fit.room)) c e

-- ---- counting on

-- so many zeros in ASCII
abbrev zeros : ℕ → List ℕ
zeros k = replicate k 48

-- from place i on the digits are zeros, the carry goes on to those of rest, which stand before it, and the bytes behind the digits are
-- those of d₀, in which the counting began
pub record Carrying (d₀ d : List ℕ) (len n i : ℕ) : Type 0 where
  pub rest : ℕ
  pub front : List ℕ
  pub all : d ≡ front ++ (zeros (len - i) ++ drop len d₀)
  pub place : length front ≡ i
  pub lent : length d₀ ≡ 8
  pub long : length d ≡ 8
  pub few : len < 8
  pub on : i ≤ len
  pub some : 1 ≤ i → front ≡ digits rest
  pub none : i ≡ 0 → rest ≡ 0
  pub carried : digits (n + 1) ≡ digits (rest + 1) ++ zeros (len - i)

-- before the loop
pub carrying_begins : (d : List ℕ) (len n : ℕ) → Countable d len n → Carrying d d len n len
carrying_begins d len n p =
    let q = p.now_counted in
    let no_zeros : 0 ≡ len - len = omega arith in
    record {
      rest = n;
      front = take len d;
      all = sym (take-append-drop len d) ∙ ap (λ (k : ℕ). take len d ++ (zeros k ++ drop len d)) no_zeros;
      place = ap length q.said ∙ sym q.counted;
      lent = q.long;
      long = q.long;
      few = omega (arith, q.counted, digits_at_most 6 n (omega (arith, p.few)));
      on = omega arith;
      some = λ h. q.said;
      none = λ z. absurd (omega (arith, q.counted, some_digit n));
      carried = sym (append-nil (digits (n + 1))) ∙ ap (λ (k : ℕ). digits (n + 1) ++ zeros k) no_zeros;
    }

module _ (d₀ d : List ℕ) (len n i : ℕ) (p : Carrying d₀ d len n i) where
  -- in a turn
  module _ (h : 0 < i) where
    -- the last digit of the rest stands before place i: what is read there, and what a store leaves
    opened : d ≡ above p.rest ++ (48 + p.rest % 10) ∷ (zeros (len - i) ++ drop len d₀)
    opened =
        p.all
        ∙ ap (λ (f : List ℕ). f ++ (zeros (len - i) ++ drop len d₀)) (p.some h ∙ digits_last p.rest)
        ∙ append_snoc (above p.rest) (48 + p.rest % 10) (zeros (len - i) ++ drop len d₀)

    before_last : length (above p.rest) ≡ i - 1
    before_last = omega (arith, p.place, ap length (p.some h ∙ digits_last p.rest), length-append (above p.rest) ((48 + p.rest % 10) ∷ []))

    last_is : get_or d (i - 1) 0 ≡ 48 + p.rest % 10
    last_is =
        ap (λ (l : List ℕ). get_or l (i - 1) 0) opened
        ∙ get_or_at (above p.rest) (48 + p.rest % 10) (zeros (len - i) ++ drop len d₀) 0 (i - 1) before_last

    last_stored : (v : ℕ) → set d (i - 1) v ≡ above p.rest ++ v ∷ (zeros (len - i) ++ drop len d₀)
    last_stored v =
        ap (λ (l : List ℕ). set l (i - 1) v) opened
        ∙ set_at (above p.rest) (48 + p.rest % 10) (zeros (len - i) ++ drop len d₀) v (i - 1) before_last

    -- no 9: it rises, and all is done
    module _ (low : get_or d (i - 1) 0 < 57) where
      -- the digits of the rest, counted on
      risen : digits (p.rest + 1) ≡ above p.rest ++ (get_or d (i - 1) 0 + 1) ∷ []
      risen =
          let value : 48 + p.rest % 10 + 1 ≡ get_or d (i - 1) 0 + 1 = omega (arith, last_is) in
          digits_risen p.rest (omega (arith, last_is)) ∙ ap (λ (v : ℕ). above p.rest ++ v ∷ []) value

      -- there are as many digits as before
      as_many : len ≡ length (digits (n + 1))
      as_many =
          omega (arith, ap length p.carried, length-append (digits (p.rest + 1)) (zeros (len - i)), length-replicate {A = ℕ} (len - i) 48, ap length risen, length-append (above p.rest) ((get_or d (i - 1) 0 + 1) ∷ []), before_last, p.on)

      -- the digits of the next number stand over the first bytes lent
      pub last_rises : set d (i - 1) (get_or d (i - 1) 0 + 1) ≡ sets d₀ 0 (digits (n + 1))
      last_rises =
          last_stored (get_or d (i - 1) 0 + 1)
          ∙ sym (append_snoc (above p.rest) (get_or d (i - 1) 0 + 1) (zeros (len - i) ++ drop len d₀))
          ∙ ap (λ (l : List ℕ). l ++ (zeros (len - i) ++ drop len d₀)) (sym risen)
          ∙ sym (append_assoc (digits (p.rest + 1)) (zeros (len - i)) (drop len d₀))
          ∙ ap (λ (l : List ℕ). l ++ drop len d₀) (sym p.carried)
          ∙ sym (laid_front d₀ len (n + 1) as_many (omega (arith, p.lent, p.few)))

      pub risen_counted : Counted (set d (i - 1) (get_or d (i - 1) 0 + 1)) len (n + 1)
      risen_counted = counted_laid d₀ (set d (i - 1) (get_or d (i - 1) 0 + 1)) len (n + 1) p.lent (omega (arith, p.few)) as_many last_rises

    -- a 9 becomes a zero, and the carry goes on
    pub carrying_more : 57 ≤ get_or d (i - 1) 0 → Carrying d₀ (set d (i - 1) 48) len n (i - 1)
    carrying_more high =
        let one_more : suc (len - i) ≡ len - (i - 1) = omega (arith, p.on) in
        record {
          rest = p.rest / 10;
          front = above p.rest;
          all = last_stored 48 ∙ ap (λ (k : ℕ). above p.rest ++ (zeros k ++ drop len d₀)) one_more;
          place = before_last;
          lent = p.lent;
          long = length-set d (i - 1) 48 ∙ p.long;
          few = p.few;
          on = omega (arith, p.on);
          some = λ k. above_some p.rest (omega (arith, before_last));
          none = λ z. above_none p.rest (before_last ∙ z);
          carried =
              p.carried
              ∙ ap (λ (l : List ℕ). l ++ zeros (len - i)) (digits_carried p.rest (omega (arith, last_is)))
              ∙ append_snoc (digits (p.rest / 10 + 1)) 48 (zeros (len - i))
              ∙ ap (λ (k : ℕ). digits (p.rest / 10 + 1) ++ zeros k) one_more;
        }

  -- behind the loop
  -- all were nines: a 1, and zeros behind it
  module _ (z : i ≤ 0) where
    none_before : i ≡ 0
    none_before = omega arith

    all_zeros : len - i ≡ len
    all_zeros = omega arith

    -- nothing but zeros stands before the bytes behind
    d_is : d ≡ zeros len ++ drop len d₀
    d_is =
        p.all
        ∙ ap (λ (f : List ℕ). f ++ (zeros (len - i) ++ drop len d₀)) (empty p.front (p.place ∙ none_before))
        ∙ ap (λ (k : ℕ). zeros k ++ drop len d₀) all_zeros
      where
        empty : (l : List ℕ) → length l ≡ 0 → l ≡ []
        empty [] e = refl
        empty (x ∷ l) e = absurd (omega arith)

    -- the digits of the next number, one more than before
    one_and_zeros : digits (n + 1) ≡ 49 ∷ zeros len
    one_and_zeros =
        p.carried
        ∙ ap (λ (k : ℕ). digits (k + 1) ++ zeros (len - i)) (p.none none_before)
        ∙ ap (λ (l : List ℕ). l ++ zeros (len - i)) (digits_one 1 (omega arith))
        ∙ ap (λ (k : ℕ). 49 ∷ zeros k) all_zeros

    one_longer : len + 1 ≡ length (digits (n + 1))
    one_longer = omega (arith, ap length one_and_zeros, length-replicate {A = ℕ} len 48)

    -- a zero stored behind the zeros is the same as one before them
    zero_behind : set d len 48 ≡ 48 ∷ (zeros len ++ drop (len + 1) d₀)
    zero_behind =
        ap (λ (l : List ℕ). set l len 48) (d_is ∙ ap (λ (l : List ℕ). zeros len ++ l) (drop-cons d₀ len 0 (omega (arith, p.lent, p.few))))
        ∙ set_at (zeros len) (get_or d₀ len 0) (drop (suc len) d₀) 48 len (length-replicate {A = ℕ} len 48)
        ∙ one_behind len (drop (suc len) d₀)
        ∙ ap (λ (k : ℕ). 48 ∷ (zeros len ++ drop k d₀)) (sym (add-one len))
      where
        one_behind : (k : ℕ) (bs : List ℕ) → zeros k ++ 48 ∷ bs ≡ 48 ∷ (zeros k ++ bs)
        one_behind zero bs = refl
        one_behind (suc k) bs = ap (λ (l : List ℕ). 48 ∷ l) (one_behind k bs)

    -- the digits of the next number stand over the first bytes lent
    pub all_nines : set (set d len 48) 0 49 ≡ sets d₀ 0 (digits (n + 1))
    all_nines =
        ap (λ (l : List ℕ). set l 0 49) zero_behind
        ∙ ap (λ (l : List ℕ). l ++ drop (len + 1) d₀) (sym one_and_zeros)
        ∙ sym (laid_front d₀ (len + 1) (n + 1) one_longer (omega (arith, p.lent, p.few)))

    pub nines_counted : Counted (set (set d len 48) 0 49) (len + 1) (n + 1)
    nines_counted = counted_laid d₀ (set (set d len 48) 0 49) (len + 1) (n + 1) p.lent (omega (arith, p.few)) one_longer all_nines

pub ruleset count_laws = (eight_fit, counted_first, carrying_begins, last_rises, risen_counted, carrying_more, all_nines, nines_counted, rules)
