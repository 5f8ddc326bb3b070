-- The words of the parts below `part` are 0.
use Rattle.std.proofs.Common.{◌≡◌, ◌*◌, take, replicate}
use Rattle.limits.specs.inner.Sizes.{word_limit}
use Rattle.opening.proofs.lay_words.Given as goal

abbrev pub invariant-loop-part : goal.invariant-loop-part
invariant-loop-part l = take (word_limit * l.part) l.words ≡ replicate (word_limit * l.part) 0
