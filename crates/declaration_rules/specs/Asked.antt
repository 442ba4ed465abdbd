-- What declarations ask of expressions.
use Rattle.std.specs.Prelude.{ℕ, Bool, false, not, cond, Option, Some, None}
use Rattle.std.specs.Option.{option_map}
use Rattle.caf_base.specs.declared.place.Pos.{Pos}
use Rattle.fortran_tree.specs.Expressions as f
use Rattle.checked_tree.specs.Expressions as t
use Rattle.checked_tree.specs.declared.data.DataType.{DataType}
use Rattle.rule_definitions.specs.Judgements.{Judgement, breaks, unless, formed, under, made_of}
use Rattle.rule_definitions.specs.Names.{Scope}
use Rattle.rule_definitions.specs.Constants.{Constancy, value_of}
use Rattle.rule_definitions.specs.Parts.{place_of, type_of, is_listed}
use Rattle.rule_definitions.specs.Expressions.{judged}
use Rattle.rule_definitions.specs.Declarations.{lacks_value, without_meaning}
use Rattle.constant_values.specs.Views.{constancy}
use Rattle.declaration_rules.specs.declared.asked.Valued.{Valued}
use Rattle.declaration_rules.specs.declared.asked.Asked.{Asked as AskedInMemory}

-- of an expression in which nothing is broken: its type, whether it is a list of images, what it stands for before the
-- run
pub record Worth : Type 0 where
  pub of_type : DataType
  pub is_list : Bool
  pub constancy : Constancy

-- of any expression
pub record Asked : Type 0 where
  pub judged : Judgement Worth
  pub lacks_value : Bool
  pub at : Pos

abbrev pub worth : Valued → Worth
worth v = record { of_type = v.of_type; is_list = v.is_list; constancy = constancy v.constancy }

abbrev pub asked : AskedInMemory → Asked
asked a = record { judged = record { breaks = a.breaks.items; meaning = option_map worth a.value }; lacks_value = a.lacks_value; at = a.at }

-- what is asked of an expression in a scope
abbrev pub worth_of : Scope → t.Expression → Worth
worth_of s x = record { of_type = type_of x; is_list = is_listed x; constancy = value_of s x }

unfoldable pub asked_of : Scope → f.Expression → Asked
asked_of s e = record { judged = made_of (worth_of s) (judged s e); lacks_value = lacks_value s e; at = place_of e }

abbrev pub is_list_known : Option Worth → Bool
is_list_known None = false
is_list_known (Some w) = w.is_list

-- Rule 56: a list of images
abbrev pub plain_worth : Asked → Judgement Worth
plain_worth a = under a.judged (λ w. unless (not w.is_list) 56 a.at)

-- an expression that must be constant, before the rule on its value: this rule where it has none
abbrev pub constant_worth : ℕ → Asked → Judgement Worth
constant_worth r a = cond a.lacks_value (formed (without_meaning a.judged) (breaks r a.at)) (plain_worth a)
