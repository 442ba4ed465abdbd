use Rattle.program_tree.proofs.Units.{implicit_stands}
use Rattle.program_tree.proofs.unit.body_of.Goals as goal

pub statements_of-requires : goal.statements_of-requires
statements_of-requires c =
    let none = c.implicit_none-implicit_none in
    let (k, stands) = c.requires in
    (k, c.in_ok-declarations.ensures.follow k (implicit_stands none.result c.args.rest.now none.new.self none.ensures k stands))

pub returns-clause-follow : goal.returns-clause-follow
returns-clause-follow c = λ k stands.
    let none = c.implicit_none-implicit_none in
    c.in_ok-statements.ensures.follow k (c.in_ok-declarations.ensures.follow k (implicit_stands none.result c.args.rest.now none.new.self none.ensures k stands))
