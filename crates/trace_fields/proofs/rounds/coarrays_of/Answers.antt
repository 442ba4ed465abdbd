use Rattle.std.proofs.Common.{ap, ◌++◌, sym}
use Rattle.trace_text.specs.TraceText.{name_text}
use Rattle.trace_forms.specs.Ranges.{HasName}
use Rattle.trace_fields.proofs.Cut.{shorter}
use Rattle.trace_fields.proofs.Rows.{begun, ended, next}
use Rattle.trace_fields.proofs.Arrivals.{name_fields}
use Rattle.trace_fields.proofs.rounds.coarrays_of.Goals as goal

pub loop-list-init : goal.loop-list-init
loop-list-init c list more each e =
    record { left = list; sum = ap (λ z. z ++ list) c.new-list.ensures; each = each; is = e }

pub loop-list-preserved : goal.loop-list-preserved
loop-list-preserved c list more each e =
    let names = c.args.names.now in
    next (HasName names) (name_text names) (name_fields names c.requires) _ _ list more
    (sym c.loop-list-test.ensures) (c.loop-list.invariant list more each e) _ _ c.next_field.ensures _
    (λ x h is. c.coarray_of.ensures x h is) _ c.in_ok-push.ensures.pushed

pub returns : goal.returns
returns c list more each e =
    let names = c.args.names.now in
    ended (HasName names) (name_text names) (name_fields names c.requires) _ _ list more
    (sym c.loop-list-test.ensures) (c.loop-list.invariant list more each e)

pub loop-list-smaller : goal.loop-list-smaller
loop-list-smaller c = shorter 32 _ _ _ c.next_field.ensures (begun _ (sym c.loop-list-test.ensures))
