use Rattle.std.proofs.Common.{refl}
use Rattle.fortran_tree.specs.DeclarationViews.{declaration}
use Rattle.unit_scopes.proofs.Folds.{head_told, head_type_told}
use Rattle.unit_scopes.proofs.declare.judge_head_in.Goals as goal

pub returns-clause-told : goal.returns-clause-told
returns-clause-told c =
    head_told c.args.setting.now c.scope-scope.result c.args.grown.now (record { first = c.judge_head.new.first; own = c.args.grown.now.own; constants = c.args.grown.now.constants }) c.as_slice.result.now
    (declaration c.args.declaration.now) c.scope-scope.ensures c.as_slice.ensures.value c.in_ok-of_type.ensures.first refl refl

pub returns-clause-of_type : goal.returns-clause-of_type
returns-clause-of_type c =
    head_type_told c.args.setting.now c.scope-scope.result c.args.grown.now c.as_slice.result.now (declaration c.args.declaration.now) c.in_ok-of_type.of_type c.scope-scope.ensures c.as_slice.ensures.value c.in_ok-of_type.ensures.of_type
