use Rattle.tree_meaning.proofs.Settling.{goes_on_with, ends_with_status}
use Rattle.tree_meaning.proofs.laws.law_status_without_stat.Goals as goal

pub returns-clause-accepted : goal.returns-clause-accepted
returns-clause-accepted c procedures limit accepted status core l n depth ts h = goes_on_with procedures limit accepted status core l n ts h

pub returns-clause-other : goal.returns-clause-other
returns-clause-other c procedures limit accepted status core l n depth ts h = ends_with_status procedures limit accepted status core l n ts h
