use Rattle.std.proofs.Common.{[], ◌∷◌, sym, subst}
use Rattle.order_theory.specs.Clocks.{Covers}
use Rattle.order_theory.specs.Stored.{present}
use Rattle.segment_clock.specs.Counts.{count_of}
use Rattle.order_axioms.specs.Views.{view, edges}
use Rattle.race_watch.proofs.recorder.Recorder.clock.Goals as goal

pub returns-clause-covers : goal.returns-clause-covers
returns-clause-covers c =
    subst (λ z. Covers (edges c.args._n) c.args._before.now (present (view c.args._n) c.args._before.now c.args.image.0 ∷ []) (count_of z)) (sym c.clock.ensures) (c.requires.recorded.ordered.clocks c.args.image.0 c.requires.image.0 c.requires.image.1)
