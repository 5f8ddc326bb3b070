use Rattle.std.proofs.Common.{◌∙◌, refl}
use Rattle.limits.proofs.Refused.{number_of_pos}
use Rattle.file_record.proofs.Taking.{accepted_opening_taken, refused_opening_taken}
use Rattle.file_record.proofs.take_opening.Goals as goal
use Rattle.file_record.proofs.take_opening.Goals.{in-Ok, in-Err}

pub returns : goal.returns
returns c =
    elim c.match-open_at.branch [
      | in-Ok w ↦
          rw w.refusal-is
          (accepted_opening_taken _ _ _ _ _ _ _ _ _ _ _ _ _ _ _ _ c.requires (rw w.in-Ok.is at c.open_at.ensures) refl (rw w.refusal-is at c.put_record_line-at.ensures) refl)
      | in-Err w ↦
          rw w.refusal-is
          (refused_opening_taken _ _ _ _ _ _ _ _ _ _ _ _ _ _ _ _ c.requires (rw w.in-Err.is at c.open_at.ensures) (w.from.ensures ∙ w.number.ensures)
          (rw w.refusal-is at c.put_record_line-at.ensures) (number_of_pos w.in-Err.refusal))
    ]
