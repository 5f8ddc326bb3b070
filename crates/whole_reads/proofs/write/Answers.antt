-- Where the flow stands after a write, which may have taken nothing. Assumes nothing.
use Rattle.std.proofs.Common.{ℕ, arith, min, ◌≤◌, ◌≡◌, sym, eq-eqb, ne_eqb}
use Rattle.whole_reads.specs.Promises.{wrote_flow}
use Rattle.whole_reads.proofs.Writing.{wrote_as}
use Rattle.whole_reads.proofs.write.Goals as goal

all : (n left : ℕ) → n ≤ left → min n left ≡ n
all n left l = omega arith

pub returns-then-n-eq0 : goal.returns-then-n-eq0
unfolding wrote_flow
returns-then-n-eq0 c = wrote_as _ _ c.requires _ (sym (rw (eq-eqb c.args.n 0 c.if-n-eq0.true, all _ _ c.requires)))

pub returns-else-n-eq0 : goal.returns-else-n-eq0
unfolding wrote_flow
returns-else-n-eq0 c = wrote_as _ _ c.requires _ (sym (rw (ne_eqb c.args.n 0 c.if-n-eq0.false, all _ _ c.requires)))
