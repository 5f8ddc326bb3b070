use Rattle.std.proofs.Common.{arith, rules, eqb, drop, length-drop, ◌-◌, ◌∙◌}
use Rattle.std.proofs.lemmas.Iterator.{YieldsList-from_slice}
use Rattle.std.proofs.lemmas.Iterator.Search.{all_from_yields_List}
use lib.Seq.{take_all}
use borrow.Author.Tests.{tests}
use Rattle.file_held.proofs.HeldBytes.{zeros_tested}
use Rattle.file_held.proofs.zeros_behind.Goals as goal

-- The bytes that are tested are all that stand behind those held.
pub returns-then-held-lt-FILE_RECORD_WIDTH : goal.returns-then-held-lt-FILE_RECORD_WIDTH
returns-then-held-lt-FILE_RECORD_WIDTH c =
    let behind = drop c.args.held c.args.bytes in
    let all = c.iter.ensures.rest ∙ take_all (8 - c.args.held) behind (omega (arith, length-drop c.args.held c.args.bytes)) in
    zeros_tested c.args.held c.args.bytes c.all.result c.if-held-lt-FILE_RECORD_WIDTH.true
    (all_from_yields_List (λ x. eqb x 0) _ _ c.all.result c.all.ensures.ran (YieldsList-from_slice behind all) (λ x b q k. search (rules, tests)))
