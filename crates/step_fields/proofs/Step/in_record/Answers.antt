use Rattle.std.proofs.Common.{rules}
use Rattle.step_fields.proofs.Reading.{fields_read}
use Rattle.step_fields.proofs.Step.in_record.Goals as goal

pub returns : goal.returns
returns c = fields_read _ _ _ _ _ _ (search rules) (search rules) (search rules) (search rules)
