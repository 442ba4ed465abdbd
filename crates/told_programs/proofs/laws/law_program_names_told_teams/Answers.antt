use Rattle.told_programs.proofs.Programs.{program_names}
use Rattle.told_programs.proofs.laws.law_program_names_told_teams.Goals as goal

pub returns : goal.returns
returns c p limit me n = program_names p limit me n
