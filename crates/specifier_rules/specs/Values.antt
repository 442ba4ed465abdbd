-- The values of specifiers by their names, each under the rule of its name.
use Rattle.std.specs.Prelude.{ℕ, cond, bytes_eq, codes, List, [], ◌∷◌, Option, Some, None}
use Rattle.std.specs.Borrow.{Bor}
use Rattle.checked_tree.specs.Expressions as t
use Rattle.rule_definitions.specs.Judgements.{Judgement, made}
use Rattle.rule_definitions.specs.Parts.{Placed, integer, team, result_variable}
use Rattle.rule_definitions.specs.Specifiers.{Written, value_named}
use Rattle.rule_definitions.specs.declared.taken.Taken.TheVariants.{Integers as integers, Logicals as logicals}
use Rattle.specifier_rules.specs.declared.keyword.Keyword.{Keyword}
use Rattle.specifier_rules.specs.declared.keyword.Keyword.TheVariants as words

abbrev pub text : Bor (List ℕ) → List ℕ
text b = b.now

-- the specifier with this name
abbrev pub keyword_of : List ℕ → Option Keyword
keyword_of n =
    cond (bytes_eq n (codes "stat")) (Some words.Stat)
    (cond (bytes_eq n (codes "acquired_lock")) (Some words.AcquiredLock)
    (cond (bytes_eq n (codes "team")) (Some words.Team)
    (cond (bytes_eq n (codes "team_number")) (Some words.TeamNumber)
    (cond (bytes_eq n (codes "new_index")) (Some words.NewIndex)
    (cond (bytes_eq n (codes "until_count")) (Some words.UntilCount) None)))))

-- the names of specifiers, the last one first
abbrev pub seen_behind : List (List ℕ) → List Written → List (List ℕ)
seen_behind seen [] = seen
seen_behind seen (w ∷ ws) = seen_behind (w.name.text ∷ seen) ws

-- what a specifier stands for: nothing in it where it isn't written, nothing where its value breaks a rule
abbrev pub Slot : Type 0 → Type 0
Slot T = Option (Option T)

abbrev pub slot_of : {T : Type 0} → (Placed → Judgement T) → Option Placed → Slot T
slot_of rule None = Some None
slot_of rule (Some e) = made Some (rule e).meaning

-- the value of the specifier with this name, under a rule
abbrev pub slot : {T : Type 0} → (Placed → Judgement T) → List ℕ → List Written → Slot T
slot rule n ws = slot_of rule (value_named n ws)

-- a further value of a specifier: the first one stands
abbrev pub put : {T : Type 0} → Slot T → Option T → Slot T
put (Some None) m = made Some m
put s m = s

pub record Values : Type 0 where
  pub stat : Slot t.ResultVariable
  pub acquired_lock : Slot t.ResultVariable
  pub team : Slot t.Expression
  pub team_number : Slot t.Expression
  pub new_index : Slot t.Expression
  pub until_count : Slot t.Expression

abbrev pub values_named : List Written → Values
values_named ws = record {
  stat = slot (result_variable integers) (codes "stat") ws;
  acquired_lock = slot (result_variable logicals) (codes "acquired_lock") ws;
  team = slot team (codes "team") ws;
  team_number = slot (integer 39) (codes "team_number") ws;
  new_index = slot (integer 39) (codes "new_index") ws;
  until_count = slot (integer 39) (codes "until_count") ws;
}

-- a further specifier
abbrev pub with_keyword : Option Keyword → Values → Placed → Values
with_keyword None v e = v
with_keyword (Some words.Stat) v e = record { stat = put v.stat (result_variable integers e).meaning; acquired_lock = v.acquired_lock; team = v.team; team_number = v.team_number; new_index = v.new_index; until_count = v.until_count }
with_keyword (Some words.AcquiredLock) v e = record { stat = v.stat; acquired_lock = put v.acquired_lock (result_variable logicals e).meaning; team = v.team; team_number = v.team_number; new_index = v.new_index; until_count = v.until_count }
with_keyword (Some words.Team) v e = record { stat = v.stat; acquired_lock = v.acquired_lock; team = put v.team (team e).meaning; team_number = v.team_number; new_index = v.new_index; until_count = v.until_count }
with_keyword (Some words.TeamNumber) v e = record { stat = v.stat; acquired_lock = v.acquired_lock; team = v.team; team_number = put v.team_number (integer 39 e).meaning; new_index = v.new_index; until_count = v.until_count }
with_keyword (Some words.NewIndex) v e = record { stat = v.stat; acquired_lock = v.acquired_lock; team = v.team; team_number = v.team_number; new_index = put v.new_index (integer 39 e).meaning; until_count = v.until_count }
with_keyword (Some words.UntilCount) v e = record { stat = v.stat; acquired_lock = v.acquired_lock; team = v.team; team_number = v.team_number; new_index = v.new_index; until_count = put v.until_count (integer 39 e).meaning }

abbrev pub with_value : Values → Written → Values
with_value v w = with_keyword (keyword_of w.name.text) v w.value

-- as parts of the checked tree
abbrev pub result_in : Option t.ResultVariable → t.OptionalResult
result_in None = t.no_result
result_in (Some x) = t.result x

abbrev pub expression_in : Option t.Expression → t.OptionalExpression
expression_in None = t.missing
expression_in (Some x) = t.given x

abbrev pub number_in : Option t.Expression → t.SelectedTeam
number_in None = t.current
number_in (Some x) = t.team_number x

abbrev pub team_in : Slot t.Expression → Slot t.Expression → Option t.SelectedTeam
team_in None n = None
team_in (Some None) n = made number_in n
team_in (Some (Some x)) n = Some (t.team x)
