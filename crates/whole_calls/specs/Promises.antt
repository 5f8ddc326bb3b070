-- When a program stops. Assumes nothing.
use Rattle.std.specs.Prelude.{Bool, true, false}
use Rattle.whole_reads.specs.declared.Next.{Next}
use Rattle.whole_reads.specs.declared.Next.TheVariants.{Read, Take, Write, Stop}

-- whether nothing comes next
abbrev pub is_stop : Next → Bool
is_stop Read = false
is_stop Take = false
is_stop Write = false
is_stop Stop = true
