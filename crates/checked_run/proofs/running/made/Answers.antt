use Rattle.std.proofs.Common.{subst}
use Rattle.checked_tree.specs.StatementViews.{program}
use Rattle.image_code.specs.Code.{IfCause}
use Rattle.made_code.specs.Ranks.{IsRankedProgram}
use Rattle.checked_run.proofs.Laws.{ranked}
use Rattle.checked_run.proofs.running.made.Goals as goal

pub unreachable-requires : goal.unreachable-requires
unreachable-requires c =
    let p = program c.args.checked.now in
    let refused = subst (λ r. IfCause r (λ bad. IsRankedProgram p → ⊥)) c.in-Err-Cause.field-0-is c.in-Err-Cause.ensures.refused in
    refused (ranked p c.requires.accepted)
