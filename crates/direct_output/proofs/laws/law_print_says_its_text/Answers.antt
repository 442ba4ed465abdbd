use Rattle.direct_output.proofs.Printing.{print_law}
use Rattle.direct_output.proofs.laws.law_print_says_its_text.Goals as goal

pub returns : goal.returns
returns c = print_law
