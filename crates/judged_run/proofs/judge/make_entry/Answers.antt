use Rattle.std.proofs.Common.{◌<◌, ◌≤◌, length, sym, ◌∙◌, arith, true≢false}
use Rattle.core_runs.specs.Lists.{image_of, list_at}
use Rattle.core_runs.specs.Moments.{rules}
use Rattle.image_core.specs.Parts.{moment, event_lists}
use Rattle.judged_run.proofs.Judged.{is_made, not_made, made_event, stepped}
use Rattle.judged_run.proofs.judge.make_entry.Goals as goal

pub returns-clause-yes : goal.returns-clause-yes
returns-clause-yes g c t =
    let e = c.args.entry.now in
    let low : 0 < image_of e = omega arith in
    let high : image_of e ≤ length c.args.parts.now.images.items = omega arith in
    let end = made_event g.M.Walker g.O.Object g.B.Object c.args.parts.now c.prepare.new.self c.commit.new.self
    (image_of e) c.prepare.ensures.sound c.prepare.ensures.same c.commit.ensures.step c.index.result.now
    c.index.ensures low high in
    let s = stepped g.M.Walker g.O.Object g.B.Object c.args.parts.now c.prepare.new.self c.commit.new.self
    (image_of e) c.prepare.ensures.sound c.prepare.ensures.same c.commit.ensures.step c.index.result.now
    c.index.ensures low high in
    let d = c.made_is.ensures (list_at (event_lists c.prepare.new.self.images.items) (image_of e))
    c.commit.ensures.step.0 end in
    is_made (rules g.M.Walker g.O.Object g.B.Object) (moment g.M.Walker g.O.Object g.B.Object c.args.parts.now)
    (moment g.M.Walker g.O.Object g.B.Object c.commit.new.self) e c.commit.ensures.step.0 s (d.0 t)

pub returns-clause-no : goal.returns-clause-no
returns-clause-no g c f =
    let e = c.args.entry.now in
    let low : 0 < image_of e = omega arith in
    let high : image_of e ≤ length c.args.parts.now.images.items = omega arith in
    let end = made_event g.M.Walker g.O.Object g.B.Object c.args.parts.now c.prepare.new.self c.commit.new.self
    (image_of e) c.prepare.ensures.sound c.prepare.ensures.same c.commit.ensures.step c.index.result.now
    c.index.ensures low high in
    let s = stepped g.M.Walker g.O.Object g.B.Object c.args.parts.now c.prepare.new.self c.commit.new.self
    (image_of e) c.prepare.ensures.sound c.prepare.ensures.same c.commit.ensures.step c.index.result.now
    c.index.ensures low high in
    let d = c.made_is.ensures (list_at (event_lists c.prepare.new.self.images.items) (image_of e))
    c.commit.ensures.step.0 end in
    not_made (rules g.M.Walker g.O.Object g.B.Object) (moment g.M.Walker g.O.Object g.B.Object c.args.parts.now)
    (moment g.M.Walker g.O.Object g.B.Object c.commit.new.self) e c.commit.ensures.step.0 s
    (λ same. true≢false (sym (d.1 same) ∙ f))
