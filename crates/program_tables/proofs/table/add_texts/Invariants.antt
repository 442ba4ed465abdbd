use Rattle.std.proofs.Common.{◌≡◌, ◌++◌, take}
use Rattle.program_tables.proofs.table.add_texts.Given as goal

abbrev pub invariant-loop-literal : goal.invariant-loop-literal
invariant-loop-literal l = l.code ≡ record l.initial.code { tables = record l.initial.code.tables { texts = l.initial.code.tables.texts ++ take l.literal-index l.literals } }
