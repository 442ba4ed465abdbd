use Rattle.std.proofs.Common.{◌≤◌, ◌∙◌, ap, sym, subst}
use Rattle.std.specs.Prelude.{Some}
use Rattle.caf_base.specs.declared.place.Place.TheVariants as places
use Rattle.core_runs.specs.Moments.{item_at, rules}
use Rattle.image_core.specs.NextAsks.{AreNextAsks}
use Rattle.image_core.specs.Parts.{moment}
use Rattle.image_core.proofs.Looking.{asked_at, asked_next, ended_at, ended_can}
use Rattle.image_core.proofs.NextAsks.{item_same, one_kept}
use Rattle.run_outlook.proofs.Slices.{map_length}
use Rattle.image_core.proofs.parts.PartsOf.ask_anew.Goals as goal

pub returns-in-Ended-clause-place : goal.returns-in-Ended-clause-place
returns-in-Ended-clause-place g c =
    ended_at g.M.Walker g.O.Object g.B.Object c.args.self.now c.args.image.0 c.requires.image.0 c.requires.image.1 c.index.result.now c.index.ensures places.Own c.in-Ended.ensures

pub returns-in-Ended-clause-kept : goal.returns-in-Ended-clause-kept
returns-in-Ended-clause-kept g c none =
    sym (ended_can g.M.Walker g.O.Object g.B.Object c.args.self.now c.args.image.0 c.requires.image.0 c.requires.image.1 c.index.result.now c.index.ensures c.in-Ended.ensures)

pub returns-in-Ok-clause-asked : goal.returns-in-Ok-clause-asked
returns-in-Ok-clause-asked g c =
    subst (AreNextAsks (rules g.M.Walker g.O.Object g.B.Object) (moment g.M.Walker g.O.Object g.B.Object c.args.self.now)) (sym c.keep.ensures)
    (one_kept (rules g.M.Walker g.O.Object g.B.Object) (moment g.M.Walker g.O.Object g.B.Object c.args.self.now) c.args.asks.now.kept.items c.requires.asked c.args.image.0 c.in-Ok.ask
    (asked_next g.M.Walker g.O.Object g.B.Object c.args.self.now c.args.image.0 c.requires.image.0 c.requires.image.1 c.index.result.now c.index.ensures c.in-Ok.ask c.in-Ok.ensures))

pub returns-in-Ok-clause-place : goal.returns-in-Ok-clause-place
returns-in-Ok-clause-place g c =
    asked_at g.M.Walker g.O.Object g.B.Object c.args.self.now c.args.image.0 c.requires.image.0 c.requires.image.1 c.index.result.now c.index.ensures c.in-Ask.place c.in-Ask.ensures

pub returns-in-Ok-clause-kept : goal.returns-in-Ok-clause-kept
returns-in-Ok-clause-kept g c none =
    let kept = c.args.asks.now.kept.items in
    let high = subst (λ n. c.args.image.0 ≤ n) (sym (c.requires.asked.count ∙ map_length (λ r. g.M.Walker.config r.machine) c.args.self.now.images.items)) c.requires.image.1 in
    let there = ap (λ xs. item_at xs c.args.image.0) c.keep.ensures ∙ item_same kept c.args.image.0 (Some c.in-Ok.ask) c.requires.image.0 high in
    absurd (cc)
