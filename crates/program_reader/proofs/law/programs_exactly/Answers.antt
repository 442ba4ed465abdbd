use Rattle.program_reader.proofs.Files.{file_answered}
use Rattle.program_reader.proofs.FlatUnits.{flat_program}
use Rattle.program_reader.proofs.NestedUnits.{nested_program}
use Rattle.program_reader.proofs.SameParts.{program_same}
use Rattle.program_reader.proofs.Programs.{found_read, fault_refused, one_program}
use Rattle.program_reader.proofs.law.programs_exactly.Goals as goal

pub returns-clause-parts : goal.returns-clause-parts
returns-clause-parts c = λ limit. (flat_program limit, nested_program limit)

pub returns-clause-one : goal.returns-clause-one
returns-clause-one c = program_same

pub returns-clause-rests : goal.returns-clause-rests
returns-clause-rests c = file_answered

pub returns-clause-found : goal.returns-clause-found
returns-clause-found c = found_read

pub returns-clause-refused : goal.returns-clause-refused
returns-clause-refused c = fault_refused

pub returns-clause-once : goal.returns-clause-once
returns-clause-once c = one_program
