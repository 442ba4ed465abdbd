use Rattle.told_programs.proofs.ProgramAllocates.{program_allocates}
use Rattle.told_programs.proofs.laws.law_program_allocates.Goals as goal

pub returns : goal.returns
returns c f p h = program_allocates f p h
