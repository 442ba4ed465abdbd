use Rattle.direct_forming.proofs.Forming.{forming_law}
use Rattle.direct_forming.proofs.laws.law_form_team_does_what_it_means.Goals as goal

pub returns : goal.returns
returns c = forming_law
