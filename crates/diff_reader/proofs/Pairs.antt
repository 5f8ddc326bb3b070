-- The laws by which `pair_at`, its helper, `words_at` and a reader's `next` meet their contracts: what each way through their code says. Assumes nothing.
use Prim.Native.Nat.{ℕ, ◌+◌, ◌-◌, ◌*◌, ◌≤◌, ◌<◌}
use native.Mathlib.Omega.{arith}
use mathlib.Core.Path.{◌≡◌, refl, sym, ◌∙◌}
use mathlib.Core.Bool.{Bool, true, false, cond}
use mathlib.Core.Option.{Option, none, some}
use mathlib.Core.List.{List, [], ◌∷◌}
use lib.ListN.{length, get_or, take, drop}
use lib.Dec.{eqb}
use borrow.Author.Rules.{rules}
use borrow.Author.Tests.{eq-eqb, ne_eqb, eqb-true}
use Rattle.limits.specs.Limits.{page_width}
use Rattle.limits.specs.Refused.{number_of}
use Rattle.limits.specs.declared.Refusal.{Refusal}
use Rattle.diff.specs.Format.{Run}
use Rattle.diff.specs.Reading.{run_count, runs_at, runs_in, words_place, word_count, read_refusal}
use Rattle.diff.proofs.Legal.{legal_when_read}
use Rattle.diff.proofs.Checking.{pair_left}
use Rattle.diff_reader.specs.Pairs.{PairThere, said, pair_among, pair_at, words_of, place_after, moved, Readable}
use Rattle.diff_reader.specs.declared.Pair.{Pair}
use Rattle.diff_reader.specs.declared.Reader.{Reader}
use Rattle.std.specs.Prelude
use Rattle.std.specs.Prelude.{Some, None}

-- after k of n pairs: the place looked for is none of theirs, and the words of those behind them stand from the place `words` on
pub record Finding (bytes : List ℕ) (at n k words : ℕ) : Type 0 where
  pub pairs_whole : 1 + 2 * n ≤ length bytes
  pub exact : length bytes ≡ words + 4 * word_count (runs_at bytes (1 + 2 * k) (n - k))
  pub same : pair_among (runs_in bytes) 1 (words_place bytes) at ≡ pair_among (runs_at bytes (1 + 2 * k) (n - k)) (1 + 2 * k) words at

pub finding_begins : (bytes : List ℕ) (at n : ℕ) → Readable bytes → n ≡ get_or bytes 0 0 → Finding bytes at n 0 (1 + 2 * n)
unfolding run_count runs_in words_place
finding_begins bytes at n a e =
    let p = legal_when_read page_width bytes a.accepted in
    let all : n - 0 ≡ n = omega arith in
    record { pairs_whole = omega (arith, p.pairs_whole); exact = rw (all, e) p.exact; same = rw (all, e) }

pub has_first_byte : (bytes : List ℕ) → Readable bytes → 0 < length bytes
has_first_byte bytes a = omega (arith, (legal_when_read page_width bytes a.accepted).not_empty)

module _ (bytes : List ℕ) (at n k words offset len : ℕ) (p : Finding bytes at n k words) (more : k < n) (o : offset ≡ get_or bytes (1 + 2 * k) 0) (l : len ≡ get_or bytes (1 + 2 * k + 1) 0) where
  -- what the pairs that are left say, the first of them told apart
  record Next : Type 0 where
    pub count : word_count (runs_at bytes (1 + 2 * k) (n - k)) ≡ len + word_count (runs_at bytes (1 + 2 * (k + 1)) (n - (k + 1)))
    pub among : pair_among (runs_at bytes (1 + 2 * k) (n - k)) (1 + 2 * k) words at
        ≡ cond (eqb at (1 + 2 * k)) (said (Some (record { offset = offset; len = len; words = words; next = 1 + 2 * k + 2 })))
        (pair_among (runs_at bytes (1 + 2 * (k + 1)) (n - (k + 1))) (1 + 2 * (k + 1)) (words + 4 * len) at)

  next : Next
  unfolding word_count pair_among said
  next =
      let second : 1 + 2 * k + 1 ≡ 2 + 2 * k = omega arith in
      let behind : 1 + 2 * k + 2 ≡ 1 + 2 * (k + 1) = omega arith in
      record { count = rw (pair_left bytes n k more, l, second); among = rw (pair_left bytes n k more, o, l, second, behind) }

  -- the words of the next run lie within the bytes
  pub words_there : words + 4 * len ≤ length bytes
  words_there = omega (arith, p.exact, next.count)

  pub pair_found : at ≡ 1 + 2 * k → said (Some (record { offset = offset; len = len; words = words; next = 1 + 2 * k + 2 })) ≡ pair_among (runs_in bytes) 1 (words_place bytes) at
  pair_found e = sym (p.same ∙ next.among ∙ rw (eq-eqb at (1 + 2 * k) e))

  pub finding_more : (at ≡ 1 + 2 * k → ⊥) → Finding bytes at n (k + 1) (words + 4 * len)
  finding_more e =
      record {
        pairs_whole = p.pairs_whole;
        exact = omega (arith, p.exact, next.count);
        same = p.same ∙ next.among ∙ rw (ne_eqb at (1 + 2 * k) e);
      }

pub no_pair_left : (bytes : List ℕ) (at n k words : ℕ) → Finding bytes at n k words → n ≤ k → said None ≡ pair_among (runs_in bytes) 1 (words_place bytes) at
unfolding pair_among runs_at said
no_pair_left bytes at n k words p all = let none_left : n - k ≡ 0 = omega arith in sym (p.same ∙ rw none_left)

-- ---- the pair at a place of any byte string

pub no_diff_no_pair : (bytes : List ℕ) (at : ℕ) (r : Refusal) → number_of r ≡ read_refusal page_width bytes → said None ≡ pair_at page_width bytes at
unfolding pair_at said
no_diff_no_pair bytes at r is =
    let refused : number_of r ≡ 0 → ⊥ = grind arith in
    rw (ne_eqb (read_refusal page_width bytes) 0 (rw is at refused))

module _ (bytes : List ℕ) (accepted : 0 ≡ read_refusal page_width bytes) where
  pub readable : Readable bytes
  readable = record { accepted = sym accepted }

  pub pair_of_diff : (at : ℕ) (p : Prelude.Option Pair) → said p ≡ pair_among (runs_in bytes) 1 (words_place bytes) at → said p ≡ pair_at page_width bytes at
  unfolding pair_at
  pair_of_diff at p e = e ∙ rw (eq-eqb (read_refusal page_width bytes) 0 (sym accepted))

-- ---- the words of the run at a place

-- where the words of a pair end, if it has any
abbrev last_word : Option PairThere → ℕ
last_word (some p) = p.words + 4 * p.len
last_word none = 0

pick_below : (t : Bool) (p q : Option PairThere) (m : ℕ) → last_word p ≤ m → last_word q ≤ m → last_word (cond t p q) ≤ m
pick_below true p q m h k = h
pick_below false p q m h k = k

among_within : (rs : List Run) (first words at m : ℕ) → words + 4 * word_count rs ≤ m → last_word (pair_among rs first words at) ≤ m
unfolding pair_among word_count
among_within [] first words at m h = omega arith
among_within (r ∷ rs) first words at m h =
    pick_below (eqb at first) _ _ m (omega arith) (among_within rs (first + 2) (words + 4 * r.len) at m (omega arith))

pair_within : (bytes : List ℕ) (at : ℕ) → last_word (pair_at page_width bytes at) ≤ length bytes
unfolding pair_at
pair_within bytes at = go (eqb (read_refusal page_width bytes) 0) refl
  where
    go : (t : Bool) → eqb (read_refusal page_width bytes) 0 ≡ t → last_word (cond t (pair_among (runs_in bytes) 1 (words_place bytes) at) none) ≤ length bytes
    go true e = among_within (runs_in bytes) 1 (words_place bytes) at (length bytes) (omega (arith, (legal_when_read page_width bytes (eqb-true _ _ e)).exact))
    go false e = omega arith

module _ (bytes : List ℕ) (at : ℕ) where
  pub nothing_handed_out : said None ≡ pair_at page_width bytes at → [] ≡ words_of (pair_at page_width bytes at) bytes
  unfolding words_of said
  nothing_handed_out is = rw (← is)

  module _ (p : Pair) (is : said (Some p) ≡ pair_at page_width bytes at) where
    pub run_within : p.words + 4 * p.len ≤ length bytes
    unfolding said
    run_within = rw (← is) at (pair_within bytes at)

    pub run_handed_out : take (p.words + 4 * p.len - p.words) (drop p.words bytes) ≡ words_of (pair_at page_width bytes at) bytes
    unfolding words_of said
    run_handed_out = let long : p.words + 4 * p.len - p.words ≡ 4 * p.len = omega arith in rw (← is, long)

-- ---- a reader moves on

module _ (r : Reader) where
  pub moved_on : (p : Pair) → said (Some p) ≡ pair_at page_width r.bytes.now r.at → record { bytes = r.bytes; at = p.next } ≡ moved r
  unfolding moved place_after said
  moved_on p is = rw (← is)

  pub stays : said None ≡ pair_at page_width r.bytes.now r.at → r ≡ moved r
  unfolding moved place_after said
  stays is = rw (← is)

pub ruleset pair_laws = (has_first_byte, words_there, pair_found, no_pair_left, readable, pair_of_diff, nothing_handed_out, run_within, run_handed_out, moved_on, stays, rules)
