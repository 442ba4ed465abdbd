use Rattle.fortran_tokens.proofs.Longest.{none_clause, some_clause, positive_clause}
use Rattle.fortran_tokens.proofs.scan.longest_form.Goals as goal

pub returns-clause-none : goal.returns-clause-none
returns-clause-none c = none_clause c.args.text.now _ c.form_found.ensures

pub returns-clause-some : goal.returns-clause-some
returns-clause-some c = some_clause c.args.text.now _ c.form_found.ensures

pub returns-clause-positive : goal.returns-clause-positive
returns-clause-positive c = positive_clause c.args.text.now _ c.form_found.ensures
