use Rattle.std.proofs.Common.{◌+◌, ◌∙◌, length, take, arith, ap, sym, subst, map}
use Rattle.std.proofs.lemmas.List.{take_all}
use Rattle.order_theory.specs.Clocks.{Covers}
use Rattle.order_theory.specs.Stored.{present}
use Rattle.segment_clock.specs.Counts.{count_of}
use Rattle.segment_clock.proofs.Joins.{length_joined}
use Rattle.order_axioms.specs.Views.{view, edges}
use Rattle.race_search.proofs.JoinedClocks.{within_at, joined_next}
use Rattle.race_search.proofs.told.joined.Goals as goal

pub clock-requires-clause-image : goal.clock-requires-clause-image
clock-requires-clause-image c = c.requires.known _ (within_at c.args.images.now c.loop-image.image-index (omega arith))

pub loop-image-preserved : goal.loop-image-preserved
loop-image-preserved c =
    let i = c.loop-image.invariant in
    let own = c.clock.ensures in record {
      size = ap length c.join.ensures ∙ length_joined c.loop-image.clock c.clock.result.now ∙ i.size;
      covers = subst (λ z. Covers (edges c.args.n) c.args.before.now (map (present (view c.args.n) c.args.before.now) (take (c.loop-image.image-index + 1) c.args.images.now)) (count_of z)) (sym c.join.ensures)
          (joined_next c.args.n c.args.before.now c.loop-image.clock c.clock.result.now c.args.images.now c.loop-image.image-index (omega arith) (own.size ∙ sym i.size) i.covers own.covers);
    }

pub returns-clause-covers : goal.returns-clause-covers
returns-clause-covers c =
    subst (λ z. Covers (edges c.args.n) c.args.before.now (map (present (view c.args.n) c.args.before.now) z) (count_of c.loop-image.clock)) (take_all c.loop-image.image-index c.args.images.now (omega arith)) c.loop-image.invariant.covers
