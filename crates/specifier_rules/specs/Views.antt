-- What the checker holds of specifiers, as the rules see it.
use Rattle.std.specs.Option.{option_map}
use Rattle.checked_tree.specs.ExpressionViews.{expression, maybe_expression, maybe_result, optional_result, result_variable, selected_team}
use Rattle.rule_definitions.specs.Specifiers as s
use Rattle.part_rules.specs.Views.{placed}
use Rattle.specifier_rules.specs.Meanings as m
use Rattle.specifier_rules.specs.Values as v
use Rattle.specifier_rules.specs.declared.specifier.Specified.{Specified}
use Rattle.specifier_rules.specs.declared.selector.TeamAndStat.{TeamAndStat}
use Rattle.specifier_rules.specs.declared.statement.NumberAndStat.{NumberAndStat}
use Rattle.specifier_rules.specs.declared.statement.AcquiredAndStat.{AcquiredAndStat}
use Rattle.specifier_rules.specs.declared.value.Values.{Values}

abbrev pub written : Specified → s.Written
written x = record { name = x.name; value = placed x.value }

abbrev pub team_and_stat_seen : TeamAndStat → m.TeamAndStat
team_and_stat_seen x = record { team = selected_team x.team; stat = optional_result x.stat }

abbrev pub number_and_stat_seen : NumberAndStat → m.NumberAndStat
number_and_stat_seen x = record { number = maybe_expression x.number; stat = maybe_result x.stat; order = x.order }

abbrev pub acquired_and_stat_seen : AcquiredAndStat → m.AcquiredAndStat
acquired_and_stat_seen x = record { acquired = maybe_result x.acquired; stat = maybe_result x.stat; order = x.order }

abbrev pub values_seen : Values → v.Values
values_seen x = record {
  stat = option_map (option_map result_variable) x.stat;
  acquired_lock = option_map (option_map result_variable) x.acquired_lock;
  team = option_map (option_map expression) x.team;
  team_number = option_map (option_map expression) x.team_number;
  new_index = option_map (option_map expression) x.new_index;
  until_count = option_map (option_map expression) x.until_count;
}
