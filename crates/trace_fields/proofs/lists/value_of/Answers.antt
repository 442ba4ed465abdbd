use Rattle.std.proofs.Common.{sym, ◌∙◌}
use Rattle.std.proofs.lemmas.Slice.Eq.{bytes_eq-Decides}
use Rattle.caf_base.specs.declared.value.Value.TheVariants as values
use Rattle.std.specs.Prelude.{true, false}
use Rattle.trace_forms.proofs.Pieces.{value_same}
use Rattle.trace_fields.proofs.lists.value_of.Goals as goal

pub returns-then-eq : goal.returns-then-eq
returns-then-eq c value h e =
    let is = (bytes_eq-Decides c.args.field.now _).0 (sym c.eq.ensures ∙ c.if-eq.true) in
    value_same (values.Bool true) value tt h (sym (is ∙ c.as_slice.ensures) ∙ e)

pub returns-then-eq-2 : goal.returns-then-eq-2
returns-then-eq-2 c value h e =
    let is = (bytes_eq-Decides c.args.field.now _).0 (sym c.eq-else-eq.ensures ∙ c.if-eq-2.true) in
    value_same (values.Bool false) value tt h (sym (is ∙ c.as_slice-else-eq.ensures) ∙ e)
