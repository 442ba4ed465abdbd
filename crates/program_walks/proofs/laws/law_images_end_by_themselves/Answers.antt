use Rattle.program_walks.proofs.LaneProgramEnds.{program_image_ends, code_image_ends}
use Rattle.program_walks.proofs.laws.law_images_end_by_themselves.Goals as goal

pub returns-clause-program : goal.returns-clause-program
returns-clause-program c = program_image_ends

pub returns-clause-code : goal.returns-clause-code
returns-clause-code c = code_image_ends
