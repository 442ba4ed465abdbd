use Rattle.std.proofs.Common.{refl, ap, ◌∙◌}
use Rattle.std.specs.Vec.{with_item}
use Rattle.image_core.proofs.Others.{others_alone}
use Rattle.image_core.proofs.Readiness.{same_moment, own_can}
use Rattle.image_core.proofs.parts.PartsOf.set_aside_alone.Goals as goal

pub returns-in_err-ask-clause-same : goal.returns-in_err-ask-clause-same
returns-in_err-ask-clause-same g c =
    same_moment g.M.Walker g.O.Object g.B.Object
    c.args.self.now c.args.k c.index_mut-run.result.now c.requires.image c.index_mut-run.ensures.value (record { images = with_item c.args.self.now.images c.args.k c.next_ask.new.run; memories = c.args.self.now.memories; board = c.args.self.now.board }) c.next_ask.new.run refl c.next_ask.ensures.machine c.next_ask.ensures.events refl refl refl refl

pub returns-in_err-prepare_alone-clause-same : goal.returns-in_err-prepare_alone-clause-same
returns-in_err-prepare_alone-clause-same g c =
    same_moment g.M.Walker g.O.Object g.B.Object
    c.args.self.now c.args.k c.index_mut-run.result.now c.requires.image c.index_mut-run.ensures.value (record { images = with_item c.args.self.now.images c.args.k c.prepare_alone.new.run; memories = c.args.self.now.memories; board = c.args.self.now.board }) c.prepare_alone.new.run refl
    (ap g.M.Walker.config c.prepare_alone.ensures.machine ∙ c.next_ask.ensures.machine) (ap (λ v. v.items) c.prepare_alone.ensures.events ∙ c.next_ask.ensures.events) refl refl refl refl

pub returns-clause-same : goal.returns-clause-same
returns-clause-same g c =
    same_moment g.M.Walker g.O.Object g.B.Object
    c.args.self.now c.args.k c.index_mut-run.result.now c.requires.image c.index_mut-run.ensures.value (record { images = with_item c.args.self.now.images c.args.k c.prepare_alone.new.run; memories = c.args.self.now.memories; board = c.args.self.now.board }) c.prepare_alone.new.run refl
    (ap g.M.Walker.config c.prepare_alone.ensures.machine ∙ c.next_ask.ensures.machine) (ap (λ v. v.items) c.prepare_alone.ensures.events ∙ c.next_ask.ensures.events) refl refl refl refl

pub returns-clause-answer : goal.returns-clause-answer
returns-clause-answer g c =
    own_can g.M.Walker g.O.Object g.B.Object
    c.args.self.now c.args.k c.index_mut-run.result.now c.requires.image c.index_mut-run.ensures.value c.in_ok-ask.ask (c.requires.place c.index_mut-run.result.now c.index_mut-run.ensures.value) c.in_ok-ask.ensures.asked

pub returns-in_err-ask-clause-others : goal.returns-in_err-ask-clause-others
returns-in_err-ask-clause-others g c = others_alone g.M.Walker g.O.Object g.B.Object c.args.self.now (record { images = with_item c.args.self.now.images c.args.k c.next_ask.new.run; memories = c.args.self.now.memories; board = c.args.self.now.board }) c.args.k c.next_ask.new.run refl refl refl

pub returns-in_err-prepare_alone-clause-others : goal.returns-in_err-prepare_alone-clause-others
returns-in_err-prepare_alone-clause-others g c = others_alone g.M.Walker g.O.Object g.B.Object c.args.self.now (record { images = with_item c.args.self.now.images c.args.k c.prepare_alone.new.run; memories = c.args.self.now.memories; board = c.args.self.now.board }) c.args.k c.prepare_alone.new.run refl refl refl

pub returns-clause-others : goal.returns-clause-others
returns-clause-others g c = others_alone g.M.Walker g.O.Object g.B.Object c.args.self.now (record { images = with_item c.args.self.now.images c.args.k c.prepare_alone.new.run; memories = c.args.self.now.memories; board = c.args.self.now.board }) c.args.k c.prepare_alone.new.run refl refl refl
