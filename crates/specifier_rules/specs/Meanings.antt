-- What the specifiers of an image selector or of a statement stand for together, and all that breaks in them.
use Rattle.std.specs.Prelude.{ℕ, List, ◌∷◌, codes}
use Rattle.checked_tree.specs.Expressions as t
use Rattle.checked_tree.specs.declared.expr.WrittenOrder.{WrittenOrder}
use Rattle.rule_definitions.specs.Judgements.{Judgement, ruled, made_of_both}
use Rattle.rule_definitions.specs.Specifiers.{Written, all_breaks, selector_specifiers, selected_team, stat_variable, acquired_variable, number_named, order_written}
use Rattle.rule_definitions.specs.Actions.{stat_name}

-- TEAM= or TEAM_NUMBER=, and STAT=
pub record TeamAndStat : Type 0 where
  pub team : t.SelectedTeam
  pub stat : t.OptionalResult

abbrev pub team_with : t.SelectedTeam → t.OptionalResult → TeamAndStat
team_with m r = record { team = m; stat = r }

-- of an image selector (9.6)
abbrev pub team_and_stat : List Written → Judgement TeamAndStat
team_and_stat ws = ruled (made_of_both team_with (selected_team ws) (stat_variable ws)) (selector_specifiers ws)

-- a number and STAT=, and the order in which they are written
pub record NumberAndStat : Type 0 where
  pub number : t.OptionalExpression
  pub stat : t.OptionalResult
  pub order : WrittenOrder

abbrev pub number_with : WrittenOrder → t.OptionalExpression → t.OptionalResult → NumberAndStat
number_with o n r = record { number = n; stat = r; order = o }

-- of FORM TEAM (11.6.9: NEW_INDEX=) and of EVENT WAIT (11.6.8: UNTIL_COUNT=): the number has this name
abbrev pub number_and_stat : List ℕ → List Written → Judgement NumberAndStat
number_and_stat n ws = ruled (made_of_both (number_with (order_written n (codes "stat") ws)) (number_named n ws) (stat_variable ws)) (all_breaks (n ∷ stat_name) ws)

-- ACQUIRED_LOCK= and STAT=, and the order in which they are written
pub record AcquiredAndStat : Type 0 where
  pub acquired : t.OptionalResult
  pub stat : t.OptionalResult
  pub order : WrittenOrder

abbrev pub acquired_with : WrittenOrder → t.OptionalResult → t.OptionalResult → AcquiredAndStat
acquired_with o a r = record { acquired = a; stat = r; order = o }

-- of LOCK (11.6.10)
abbrev pub acquired_and_stat : List Written → Judgement AcquiredAndStat
acquired_and_stat ws = ruled (made_of_both (acquired_with (order_written (codes "acquired_lock") (codes "stat") ws)) (acquired_variable ws) (stat_variable ws)) (all_breaks (codes "acquired_lock" ∷ stat_name) ws)
