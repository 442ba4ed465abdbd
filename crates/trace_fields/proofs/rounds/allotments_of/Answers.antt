use Rattle.std.proofs.Common.{ap, ◌∷◌, ◌++◌, sym}
use Rattle.trace_forms.specs.Ranges.{AllottedHasText}
use Rattle.trace_fields.proofs.Cut.{shorter}
use Rattle.trace_fields.proofs.Rows.{begun, ended, next}
use Rattle.trace_fields.proofs.Shapes.{item_text, allotted_fields}
use Rattle.trace_fields.proofs.rounds.allotments_of.Goals as goal

pub loop-alloc-init : goal.loop-alloc-init
loop-alloc-init c list more each e =
    record { left = list; sum = ap (λ z. z ++ list) c.new-list.ensures; each = each; is = e }

pub loop-alloc-preserved : goal.loop-alloc-preserved
loop-alloc-preserved c list more each e =
    let names = c.args.names.now in
    next (AllottedHasText names) (item_text names) (allotted_fields names c.requires) _ _ list more
    (sym c.loop-alloc-test.ensures) (c.loop-alloc.invariant list more each e) _ _ c.next_field.ensures _
    (λ x h is. c.in_ok-allotted_of.ensures x h (ap (λ z. 32 ∷ z) is)) _ c.in_ok-push.ensures.pushed

pub returns : goal.returns
returns c list more each e =
    let names = c.args.names.now in
    ended (AllottedHasText names) (item_text names) (allotted_fields names c.requires) _ _ list more
    (sym c.loop-alloc-test.ensures) (c.loop-alloc.invariant list more each e)

pub loop-alloc-smaller : goal.loop-alloc-smaller
loop-alloc-smaller c = shorter 32 _ _ _ c.next_field.ensures (begun _ (sym c.loop-alloc-test.ensures))
