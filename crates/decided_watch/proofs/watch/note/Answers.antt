use Rattle.std.proofs.Common.{sym, ap, ◌∙◌, subst}
use Rattle.race_watch.specs.ActParts.{as_act, as_cell}
use Rattle.decided_watch.proofs.Noting.{Quiet, if_ok3, note_post, note_creating, note_deleting, note_quiet, quiet_of}
use Rattle.decided_watch.proofs.watch.note.Goals as goal

pub returns-in-Posts : goal.returns-in-Posts
returns-in-Posts c = if_ok3 _ _ _ _ c.post.result
    (note_post c.args.table.now c.post.new.self c.args._before.now c.args._e.now c.requires.tells (as_cell c.in-Posts.cell) (sym c.requires.act.1 ∙ ap as_act c.in-Posts.is))
    (rw c.requires.act.0 at c.post.ensures.posters) c.post.ensures.posted c.post.ensures.made

pub returns-in-Creates : goal.returns-in-Creates
returns-in-Creates c = if_ok3 _ _ _ _ c.make.result
    (note_creating c.args.table.now c.make.new.self c.args._before.now c.args._e.now c.requires.tells c.in-Creates.owner.0 c.in-Creates.coarray (sym c.requires.act.1 ∙ ap as_act c.in-Creates.is))
    c.make.ensures.posters c.make.ensures.posted c.make.ensures.made

pub returns-in-Deletes : goal.returns-in-Deletes
returns-in-Deletes c = if_ok3 _ _ _ _ c.make-in-Deletes.result
    (note_deleting c.args.table.now c.make-in-Deletes.new.self c.args._before.now c.args._e.now c.requires.tells c.in-Deletes.owner.0 c.in-Deletes.coarray (sym c.requires.act.1 ∙ ap as_act c.in-Deletes.is))
    c.make-in-Deletes.ensures.posters c.make-in-Deletes.ensures.posted c.make-in-Deletes.ensures.made

pub returns-in_default : goal.returns-in_default
returns-in_default c = note_quiet c.args.table.now c.args._before.now c.args._e.now c.requires.tells (subst Quiet c.requires.act.1 (quiet_of c.args.act.now (λ x. c.in_default.not-Posts x) (λ o k. c.in_default.not-Creates o k) (λ o k. c.in_default.not-Deletes o k)))
