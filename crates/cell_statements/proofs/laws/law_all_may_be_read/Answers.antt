use Rattle.cell_statements.proofs.AllReads.{program_reads}
use Rattle.cell_statements.proofs.laws.law_all_may_be_read.Goals as goal

pub returns : goal.returns
returns c readable h p = program_reads readable h p
