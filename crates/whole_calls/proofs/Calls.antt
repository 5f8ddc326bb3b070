-- When nothing is left to do. Assumes nothing.
use mathlib.Core.Path.{◌≡◌, refl}
use mathlib.Core.Bool.{true, false≢true}
use Rattle.whole_reads.specs.declared.Next.{Next}
use Rattle.whole_reads.specs.declared.Next.TheVariants.{Read, Take, Write, Stop}
use Rattle.whole_calls.specs.Promises.{is_stop}

-- nothing comes next where `is_over` says so
pub nothing_next : (x : Next) → is_stop x ≡ true → x ≡ Stop
nothing_next Read e = absurd (false≢true e)
nothing_next Take e = absurd (false≢true e)
nothing_next Write e = absurd (false≢true e)
nothing_next Stop e = refl
