use Rattle.std.proofs.Common.{◌≡◌, ◌-◌, length, arith, rules}
use Rattle.limits.specs.inner.Sizes.{first_tally, part_limit, word_limit}
use Rattle.opening.proofs.Copies.{zeros_behind, all_zeros}
use Rattle.opening.proofs.lay_words.Goals as goal

pub loop-part-preserved : goal.loop-part-preserved
loop-part-preserved c = zeros_behind _ word_limit _ _ _ _ (omega arith) (omega arith) (search rules) (search rules) c.loop-part.invariant

pub returns : goal.returns
returns c =
    let parts : c.loop-part.part ≡ part_limit = omega (arith, c.loop-part-test.false, c.loop-part.auto.part-end) in
    all_zeros first_tally (length c.loop-part.words - first_tally) (length c.args.words.now) c.loop-part.words _ c.loop-part.auto.words (omega (arith, c.requires, c.loop-part.auto.words)) (c.fill.ensures.after (λ y e. e))
    (rw parts at c.loop-part.invariant)
