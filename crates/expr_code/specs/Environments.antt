-- The surroundings of a statement in memory, and what they are to its meaning.
use Rattle.checked_tree.specs.StatementViews.{program}
use Rattle.image_code.specs.Table.{scope_of}
use Rattle.tree_meaning.specs.Environment.{Environment}
use Rattle.expr_code.specs.declared.env.Env.{Env}

unfoldable pub environment : Env → Environment
environment e = record { program = program e.checked.now; main = scope_of e.main; hidden = e.hidden }
