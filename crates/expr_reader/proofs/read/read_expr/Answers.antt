use Rattle.std.proofs.Common.{◌-◌, subst, ◌∙◌}
use Rattle.caf_base.specs.declared.limits.TheConstants.{NESTING}
use Rattle.fortran_tree.specs.ExpressionViews as view
use Rattle.expr_reader.specs.Full.{full}
use Rattle.expr_reader.specs.Results.{Fails}
use Rattle.expr_reader.specs.Words.{tokens_of}
use Rattle.expr_reader.proofs.Told.{told_read, told_short, told_fault}
use Rattle.expr_reader.proofs.read.read_expr.Goals as goal

pub place_of_last-at-requires : goal.place_of_last-at-requires
place_of_last-at-requires c =
    let fails = subst (λ e. Fails e ((full (NESTING - c.args.level)).expression (tokens_of c.args.words.now))) c.in-Err-Stopped.field-0-is c.in-Err-Stopped.ensures in
    told_short c.args.level c.requires c.args.end c.args.words.now c.in-Err-Stopped.stop fails

pub returns-in-Ok : goal.returns-in-Ok
returns-in-Ok c = told_read c.args.level c.requires c.args.end c.args.words.now (λ r. (view.expression r.0, tokens_of r.1.now)) c.in-Ok.read c.in-Ok.ensures

pub returns-in-Err-Stopped : goal.returns-in-Err-Stopped
returns-in-Err-Stopped c =
    let fails = subst (λ e. Fails e ((full (NESTING - c.args.level)).expression (tokens_of c.args.words.now))) c.in-Err-Stopped.field-0-is c.in-Err-Stopped.ensures in
    told_fault c.args.level c.requires c.args.end c.args.words.now c.expression.result (λ r. (view.expression r.0, tokens_of r.1.now)) c.in-Err-Stopped.stop c.fault_at.result fails c.fault_at.ensures.cause (c.fault_at.ensures.place ∙ c.place_of_last-at.ensures)
