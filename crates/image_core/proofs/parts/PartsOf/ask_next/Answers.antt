use Rattle.std.proofs.Common.{sym, subst}
use Rattle.core_runs.specs.Moments.{rules}
use Rattle.image_core.specs.NextAsks.{AsksNextAt}
use Rattle.image_core.specs.Parts.{moment}
use Rattle.image_core.proofs.Looking.{place_kept}
use Rattle.image_core.proofs.parts.PartsOf.ask_next.Goals as goal

pub returns-in-Some-clause-place : goal.returns-in-Some-clause-place
returns-in-Some-clause-place g c =
    let r = rules g.M.Walker g.O.Object g.B.Object in
    let m = moment g.M.Walker g.O.Object g.B.Object c.args.self.now in
    subst (AsksNextAt r m c.args.image.0) (sym c.place.ensures)
    (place_kept r m c.args.image.0 c.in-Some.ask.now (c.requires.asked.each c.args.image.0 c.in-Some.ask.now c.in-Some.ensures))

pub returns-in-Some-clause-kept : goal.returns-in-Some-clause-kept
returns-in-Some-clause-kept g c none = let there = c.in-Some.ensures in absurd (cc)
