use Rattle.std.proofs.Common.{◌∙◌, ap, length, map}
use Rattle.fortran_tree.specs.DeclarationViews.{declaration}
use Rattle.fortran_tree.specs.UnitViews.{procedure}
use Rattle.declaration_rules.specs.Entities.{unit}
use Rattle.rule_definitions.specs.Units.{headed, typed_answer}
use Rattle.scope_table.specs.Pending.{declared_names, maybe_name, pending_names}
use Rattle.scope_table.specs.Scopes.{answer_names}
use Rattle.unit_scopes.specs.Openings.{host_scope}
use Rattle.unit_scopes.specs.Telling.{behind, of_all, told}
use Rattle.unit_scopes.proofs.Chains.{inside_told}
use Rattle.unit_scopes.proofs.procedure.declare_inside.Goals as goal

pub returns : goal.returns
returns c = λ cs h.
    inside_told c.args.setting.now c.inside-inside.result c.args.host.now cs (procedure c.args.procedure.now) (unit c.args.of.now) c.args.grown.now c.declare_all.new.grown
    c.in_ok-pending.pending (answer_names c.lent.result) c.inside-inside.ensures
    (c.in_ok-pending.ensures ∙ ap (λ z. pending_names z c.dummies_in.result.now (maybe_name c.untyped_answer.result)) c.as_slice-declarations.ensures.value
    ∙ ap (λ z. pending_names c.args.procedure.now.body.declarations.items z (maybe_name c.untyped_answer.result)) c.dummies_in.ensures
    ∙ ap (pending_names c.args.procedure.now.body.declarations.items (headed (procedure c.args.procedure.now).heading).dummies) c.untyped_answer.ensures)
    (c.lent.ensures ∙ c.in_ok-answer.ensures (host_scope c.args.setting.now c.args.host.now cs) h
    ∙ ap (typed_answer (host_scope c.args.setting.now c.args.host.now cs) (headed (procedure c.args.procedure.now).heading)) (c.in_ok-number.ensures ∙ ap (λ z. length (declared_names z)) c.as_slice-declarations.ensures.value))
    (c.in_ok-declare_all.ensures ∙ ap (λ z. behind (of_all (unit c.args.of.now) (map declaration z)) (told c.inside-inside.result c.args.grown.now)) c.as_slice-declarations.ensures.value)
