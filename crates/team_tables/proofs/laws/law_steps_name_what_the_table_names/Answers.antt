use Rattle.std.proofs.Common.{refl, pos}
use Rattle.team_tables.specs.Tables.{numbered_here}
use Rattle.team_tables.specs.Steps.{core_of}
use Rattle.team_tables.proofs.StepLaws.{at_level, counted, found_of}
use Rattle.team_tables.proofs.laws.law_steps_name_what_the_table_names.Goals as goal

pub returns : goal.returns
returns c = record {
  this_team = λ t d. refl;
  team_value = λ t d v vs. refl;
  sibling_team = λ t d v vs. found_of (λ k. pos k.team) (numbered_here t v) (core_of t vs d);
  get_team = at_level;
  team_number = λ t d v vs. found_of (λ k. k.number) _ (core_of t vs d);
  own_index = λ t d v vs. refl;
  image_count = λ t d v vs. refl;
  image_count_of_number = counted;
  is_root = λ t d v vs. refl;
}
