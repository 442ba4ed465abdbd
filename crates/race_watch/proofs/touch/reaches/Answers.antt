use Rattle.std.proofs.Common.{◌∙◌, [], cond, refl, ap, sym}
use Rattle.caf_base.specs.Spans.{offsets_of}
use Rattle.order_axioms.specs.Touching.{cells_at}
use Rattle.race_watch.proofs.Reached.{cells_at_map}
use Rattle.race_watch.proofs.touch.reaches.Goals as goal

pub returns : goal.returns
returns c = record {
  class_is = refl;
  cells_are =
      ap (λ b. cond b (cells_at c.args.owner.0 c.args.span.now.coarray (offsets_of c.args.span.now)) []) (sym c.is_reached.ensures ∙ c.if-not-is_reached.false)
      ∙ ap (cells_at c.args.owner.0 c.args.span.now.coarray) (sym c.in_ok-section_cells.ensures)
      ∙ cells_at_map c.args.owner.0 c.args.span.now.coarray c.in_ok-section_cells.field-0.items;
  first = c.requires.0;
  last = c.requires.1;
}
