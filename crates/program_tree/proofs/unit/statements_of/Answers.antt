use Rattle.std.proofs.Common.{[], ap, sym, ◌∙◌, subst, map}
use Rattle.fortran_tree.specs.StatementViews.{statement_list}
use Rattle.part_reader.specs.Views.{part}
use Rattle.program_reader.specs.Nesting.{statements_parts}
use Rattle.program_reader.specs.Sequence as q
use Rattle.program_tree.specs.Following.{MayFollow}
use Rattle.program_tree.specs.Rests as view
use Rattle.program_tree.proofs.Stages.{finished, finished_front, finished_place}
use Rattle.program_tree.proofs.unit.statements_of.Goals as goal

pub returns-clause-front : goal.returns-clause-front
returns-clause-front c =
    let x = c.loop-part.block in
    let es = view.parts c.loop-part.rest in
    let (k, stands) = c.requires in
    let clear = finished (q.staged q.in_statements k) x es c.in_default.ensures.1 (c.loop-part.invariant.1 k stands) in
    c.loop-part.invariant.0
    ∙ (finished_front x es clear
    ∙ (ap (λ z. statements_parts (statement_list z.items) es) (sym c.finish.ensures)
    ∙ ap (λ z. statements_parts (statement_list c.finish.result.items) (map part z)) (sym c.in_default.ensures.0)))

pub returns-clause-follow : goal.returns-clause-follow
returns-clause-follow c = λ k stands.
    let x = c.loop-part.block in
    let es = view.parts c.loop-part.rest in
    let may = c.loop-part.invariant.1 k stands in
    let clear = finished (q.staged q.in_statements k) x es c.in_default.ensures.1 may in
    subst (λ z. MayFollow (record { scope = q.staged q.in_statements k; blocks = []; conditions = 0 }) (map part z)) (sym c.in_default.ensures.0) (finished_place (q.staged q.in_statements k) x es clear may)
