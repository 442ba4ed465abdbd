use Rattle.std.proofs.Common.{refl}
use Rattle.team_tables.proofs.laws.law_table_says_what_a_core_says.Goals as goal

pub returns : goal.returns
returns c = record { current = λ t d. refl; of_team = λ t d n. refl; numbered = λ t d v. refl; established = λ t d made n. refl }
