use Rattle.print_again.proofs.PrintAgain.{print_is_cut, print_is_read, print_is_read_as_it, print_has_no_places, print_is_fixed}
use Rattle.print_again.proofs.law.print_is_read_again.Goals as goal

pub returns-clause-words : goal.returns-clause-words
returns-clause-words c = print_is_cut

pub returns-clause-read : goal.returns-clause-read
returns-clause-read c = print_is_read

pub returns-clause-once : goal.returns-clause-once
returns-clause-once c = print_is_read_as_it

pub returns-clause-placeless : goal.returns-clause-placeless
returns-clause-placeless c = print_has_no_places

pub returns-clause-fixed : goal.returns-clause-fixed
returns-clause-fixed c = print_is_fixed
