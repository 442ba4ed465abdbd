use Rattle.fit_laws.proofs.Declaring.{tables_declare}
use Rattle.fit_laws.proofs.laws.law_tables_declare.Goals as goal

pub returns : goal.returns
returns c made alike wide p = tables_declare made alike wide p
