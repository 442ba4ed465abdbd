use Rattle.std.proofs.Common.{◌≡◌, ◌+◌, take, ap, sym, ◌∙◌, subst}
use Rattle.std.specs.Global.{Vec}
use Rattle.team_tree.specs.declared.arg.FormArg.{FormArg}
use Rattle.control_board.specs.Boards.{args_in}
use Rattle.control_board.proofs.Forms.{args_then, args_else}
use Rattle.control_board.proofs.forming.args_for.Goals as goal
use Rattle.control_board.proofs.forming.args_for.Goals.{then-is_of+in_ok-push, else-is_of}

pub loop-given-preserved : goal.loop-given-preserved
loop-given-preserved c =
    let gs = c.deref-given-items.result.now in
    let was = c.loop-given.invariant ∙ ap (λ l. args_in (take c.loop-given.given-index l) c.args.team.0 c.args.round) (sym c.deref-given-items.ensures.value) in
    subst (λ l. c.if-is_of.args.items ≡ args_in (take (c.loop-given.given-index + 1) l) c.args.team.0 c.args.round) c.deref-given-items.ensures.value
    (elim c.if-is_of.branch [
      | then-is_of+in_ok-push w ↦ args_then gs c.loop-given.given-index _ c.args.team.0 c.args.round c.loop-given.args.items c.if-is_of.args.items c.is_of.result c.loop-given-test.true was c.is_of.ensures w.if-is_of.true
          (ap (λ (v : Vec FormArg). v.items) w.args-is ∙ w.in_ok-push.ensures.items)
      | else-is_of w ↦ args_else gs c.loop-given.given-index _ c.args.team.0 c.args.round c.loop-given.args.items c.if-is_of.args.items c.is_of.result c.loop-given-test.true was c.is_of.ensures w.if-is_of.false
          (ap (λ (v : Vec FormArg). v.items) w.args-is)
    ])
