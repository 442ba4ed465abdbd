use Rattle.std.proofs.Common.{◌∙◌, ap, sym, refl}
use Rattle.order_axioms.specs.Touching.{made_by}
use Rattle.race_watch.proofs.Made.{made_same, made_new, made_none}
use Rattle.race_watch.proofs.recorder.keep_made.Goals as goal

pub returns-in_ok-reach-in-Create : goal.returns-in_ok-reach-in-Create
returns-in_ok-reach-in-Create c =
    let m = c.requires.memory in
    let r = (rw c.in-Create.is at m) in
    made_new c.args.n c.args._before.now c.args._e.now c.in-Create.owner c.in-Create.coarray c.in-Create.cells c.line_of-line.result c.args.made.now.items c.reach.new.made.items _ (sym c.requires.ask ∙ c.in-Create.is) r.0 r.1
    c.line_of-line.ensures c.requires.made c.in_ok-reach-in-Create.ensures.same c.in_ok-reach-in-Create.ensures.far refl

pub returns-in_default : goal.returns-in_default
returns-in_default c =
    made_same c.args.n c.args._before.now c.args._e.now c.args.made.now.items
    (λ o k m. ap (λ a. made_by o k a m) (sym c.requires.ask) ∙ made_none c.args.ask.now c.in_default.not-Create o k m) c.requires.made
