use Rattle.std.proofs.Common.{subst, sym, map}
use Rattle.expr_reader.specs.Results.{Gives}
use Rattle.expr_reader.specs.Tests.{list_of}
use Rattle.expr_reader.specs.Words.{tokens_of}
use Rattle.fortran_tree.specs.DeclarationViews.{entity}
use Rattle.statement_reader.specs.Declarations.{an_entity}
use Rattle.declaration_reader.proofs.entity.entities.Goals as goal

pub returns-then-colons : goal.returns-then-colons
returns-then-colons c = subst (λ b. Gives (λ r. (map entity r.0.items, tokens_of r.1.now)) c.list.result (list_of (an_entity b c.args.left) (tokens_of c.args.words.now))) (sym c.if-colons.true) c.list.ensures

pub returns-else-colons : goal.returns-else-colons
returns-else-colons c = subst (λ b. Gives (λ r. (map entity r.0.items, tokens_of r.1.now)) c.list-else-colons.result (list_of (an_entity b c.args.left) (tokens_of c.args.words.now))) (sym c.if-colons.false) c.list-else-colons.ensures
