-- What specifiers stand for, by their values.
use Rattle.std.proofs.Common.{◌≡◌, refl, ap, sym, ◌∙◌}
use Rattle.std.specs.Prelude.{ℕ, Bool, cond, codes, List, [], ◌∷◌, ◌++◌, Option, Some, None}
use Rattle.std.specs.Option.{option_map}
use Rattle.checked_tree.specs.Expressions as t
use Rattle.checked_tree.specs.ExpressionViews.{expression, maybe_expression, maybe_result, result_variable as result_seen}
use Rattle.checked_tree.specs.declared.expr.ResultVariable.{ResultVariable}
use Rattle.checked_tree.specs.declared.expr.TypedExpr.{TypedExpr}
use Rattle.checked_tree.specs.declared.expr.WrittenOrder.{WrittenOrder}
use Rattle.rule_definitions.specs.declared.broken.Broken.{Broken}
use Rattle.rule_definitions.specs.declared.taken.Taken.TheVariants.{Integers as integers, Logicals as logicals}
use Rattle.rule_definitions.specs.Judgements.{Judgement, is_nothing, fine, ruled, made, made_of, both, made_of_both}
use Rattle.rule_definitions.specs.Parts.{Placed, integer, team, result_variable}
use Rattle.rule_definitions.specs.Specifiers.{Written, all_breaks, selector_specifiers, selected_team, stat_variable, acquired_variable, number_named, order_written, value_named, meant}
use Rattle.rule_definitions.specs.Actions.{stat_name, with_stat}
use Rattle.specifier_rules.specs.Meanings.{TeamAndStat, NumberAndStat, AcquiredAndStat, team_and_stat, team_with, number_and_stat, number_with, acquired_and_stat, acquired_with}
use Rattle.specifier_rules.specs.Values.{Values, Slot, slot_of, slot, values_named, result_in, expression_in, number_in, team_in}

-- what is held, as it is seen

pub result_seen_in : (o : Option ResultVariable) → maybe_result o ≡ result_in (option_map result_seen o)
result_seen_in None = refl
result_seen_in (Some x) = refl

pub expression_seen_in : (o : Option TypedExpr) → maybe_expression o ≡ expression_in (option_map expression o)
expression_seen_in None = refl
expression_seen_in (Some x) = refl

pub stat_seen : (s : Slot ResultVariable) → option_map maybe_result s ≡ option_map result_in (option_map (option_map result_seen) s)
stat_seen None = refl
stat_seen (Some None) = refl
stat_seen (Some (Some x)) = refl

-- one specifier

abbrev variable_at : (Placed → Judgement t.ResultVariable) → Option Placed → Judgement t.OptionalResult
variable_at rule o = elim o [ None ↦ fine t.no_result | Some e ↦ meant (made_of t.result (rule e)) ]

abbrev number_at : Option Placed → Judgement t.OptionalExpression
number_at o = elim o [ None ↦ fine t.missing | Some e ↦ meant (made_of t.given (integer 39 e)) ]

abbrev numbered_at : Option Placed → Judgement t.SelectedTeam
numbered_at o = elim o [ None ↦ fine t.current | Some e ↦ meant (made_of t.team_number (integer 39 e)) ]

abbrev team_at : Option Placed → Option Placed → Judgement t.SelectedTeam
team_at o p = elim o [ None ↦ numbered_at p | Some e ↦ meant (made_of t.team (team e)) ]

variable_says : (rule : Placed → Judgement t.ResultVariable) (o : Option Placed) → (variable_at rule o).breaks ≡ []
variable_says rule None = refl
variable_says rule (Some e) = refl

number_says : (o : Option Placed) → (number_at o).breaks ≡ []
number_says None = refl
number_says (Some e) = refl

numbered_says : (o : Option Placed) → (numbered_at o).breaks ≡ []
numbered_says None = refl
numbered_says (Some e) = refl

team_says : (o p : Option Placed) → (team_at o p).breaks ≡ []
team_says None p = numbered_says p
team_says (Some e) p = refl

made_result : (m : Option t.ResultVariable) → made t.result m ≡ option_map result_in (made Some m)
made_result None = refl
made_result (Some x) = refl

made_number : (m : Option t.Expression) → made t.given m ≡ option_map expression_in (made Some m)
made_number None = refl
made_number (Some x) = refl

made_numbered : (m : Option t.Expression) → made t.team_number m ≡ made number_in (made Some m)
made_numbered None = refl
made_numbered (Some x) = refl

made_team : (m : Option t.Expression) (n : Slot t.Expression) → made t.team m ≡ team_in (made Some m) n
made_team None n = refl
made_team (Some x) n = refl

variable_means : (rule : Placed → Judgement t.ResultVariable) (o : Option Placed) → (variable_at rule o).meaning ≡ option_map result_in (slot_of rule o)
variable_means rule None = refl
variable_means rule (Some e) = made_result (rule e).meaning

number_means : (o : Option Placed) → (number_at o).meaning ≡ option_map expression_in (slot_of (integer 39) o)
number_means None = refl
number_means (Some e) = made_number (integer 39 e).meaning

numbered_means : (o : Option Placed) → (numbered_at o).meaning ≡ made number_in (slot_of (integer 39) o)
numbered_means None = refl
numbered_means (Some e) = made_numbered (integer 39 e).meaning

team_means : (o p : Option Placed) → (team_at o p).meaning ≡ team_in (slot_of team o) (slot_of (integer 39) p)
team_means None p = numbered_means p
team_means (Some e) p = made_team (team e).meaning (slot_of (integer 39) p)

-- all of them

module _ {A B C : Type 0} (f : A → B → C) (a : Judgement A) (b : Judgement B) (bs : List Broken) where
  pair_says : a.breaks ≡ [] → b.breaks ≡ [] → (ruled (made_of_both f a b) bs).breaks ≡ bs
  pair_says p q = ap (λ x. (x ++ b.breaks) ++ bs) p ∙ ap (λ x. x ++ bs) q

  pair_means : (x : Option A) (y : Option B) → a.meaning ≡ x → b.meaning ≡ y → (ruled (made_of_both f a b) bs).meaning ≡ cond (is_nothing bs) (both f x y) None
  pair_means x y p q = ap (λ z. cond (is_nothing bs) (both f z b.meaning) None) p ∙ ap (λ z. cond (is_nothing bs) (both f x z) None) q

pub selector_says : (ws : List Written) → (team_and_stat ws).breaks ≡ selector_specifiers ws
selector_says ws =
    pair_says team_with (selected_team ws) (stat_variable ws) (selector_specifiers ws)
    (team_says (value_named (codes "team") ws) (value_named (codes "team_number") ws)) (variable_says (result_variable integers) (value_named (codes "stat") ws))

pub selector_means : (ws : List Written) → (team_and_stat ws).meaning ≡ cond (is_nothing (selector_specifiers ws)) (both team_with (team_in (values_named ws).team (values_named ws).team_number) (option_map result_in (values_named ws).stat)) None
selector_means ws =
    pair_means team_with (selected_team ws) (stat_variable ws) (selector_specifiers ws)
    (team_in (values_named ws).team (values_named ws).team_number) (option_map result_in (values_named ws).stat)
    (team_means (value_named (codes "team") ws) (value_named (codes "team_number") ws)) (variable_means (result_variable integers) (value_named (codes "stat") ws))

pub stat_says : (ws : List Written) → (with_stat ws).breaks ≡ all_breaks stat_name ws
stat_says ws = ap (λ x. x ++ all_breaks stat_name ws) (variable_says (result_variable integers) (value_named (codes "stat") ws))

pub stat_means : (ws : List Written) → (with_stat ws).meaning ≡ cond (is_nothing (all_breaks stat_name ws)) (option_map result_in (values_named ws).stat) None
stat_means ws = ap (λ x. cond (is_nothing (all_breaks stat_name ws)) x None) (variable_means (result_variable integers) (value_named (codes "stat") ws))

pub number_and_stat_says : (n : List ℕ) (ws : List Written) → (number_and_stat n ws).breaks ≡ all_breaks (n ∷ stat_name) ws
number_and_stat_says n ws =
    pair_says (number_with (order_written n (codes "stat") ws)) (number_named n ws) (stat_variable ws) (all_breaks (n ∷ stat_name) ws)
    (number_says (value_named n ws)) (variable_says (result_variable integers) (value_named (codes "stat") ws))

pub number_and_stat_means : (n : List ℕ) (ws : List Written) → (number_and_stat n ws).meaning ≡ cond (is_nothing (all_breaks (n ∷ stat_name) ws)) (both (number_with (order_written n (codes "stat") ws)) (option_map expression_in (slot (integer 39) n ws)) (option_map result_in (values_named ws).stat)) None
number_and_stat_means n ws =
    pair_means (number_with (order_written n (codes "stat") ws)) (number_named n ws) (stat_variable ws) (all_breaks (n ∷ stat_name) ws)
    (option_map expression_in (slot (integer 39) n ws)) (option_map result_in (values_named ws).stat)
    (number_means (value_named n ws)) (variable_means (result_variable integers) (value_named (codes "stat") ws))

pub acquired_and_stat_says : (ws : List Written) → (acquired_and_stat ws).breaks ≡ all_breaks (codes "acquired_lock" ∷ stat_name) ws
acquired_and_stat_says ws =
    pair_says (acquired_with (order_written (codes "acquired_lock") (codes "stat") ws)) (acquired_variable ws) (stat_variable ws) (all_breaks (codes "acquired_lock" ∷ stat_name) ws)
    (variable_says (result_variable logicals) (value_named (codes "acquired_lock") ws)) (variable_says (result_variable integers) (value_named (codes "stat") ws))

pub acquired_and_stat_means : (ws : List Written) → (acquired_and_stat ws).meaning ≡ cond (is_nothing (all_breaks (codes "acquired_lock" ∷ stat_name) ws)) (both (acquired_with (order_written (codes "acquired_lock") (codes "stat") ws)) (option_map result_in (values_named ws).acquired_lock) (option_map result_in (values_named ws).stat)) None
acquired_and_stat_means ws =
    pair_means (acquired_with (order_written (codes "acquired_lock") (codes "stat") ws)) (acquired_variable ws) (stat_variable ws) (all_breaks (codes "acquired_lock" ∷ stat_name) ws)
    (option_map result_in (values_named ws).acquired_lock) (option_map result_in (values_named ws).stat)
    (variable_means (result_variable logicals) (value_named (codes "acquired_lock") ws)) (variable_means (result_variable integers) (value_named (codes "stat") ws))

-- what is found, as the definitions say it

pub selector_found : (ws : List Written) (o : Option TeamAndStat) (h : Bool) (bs : List Broken) (v : Values)
    → o ≡ cond h (both team_with (team_in v.team v.team_number) (option_map result_in v.stat)) None → h ≡ is_nothing bs → bs ≡ selector_specifiers ws → v ≡ values_named ws
    → o ≡ (team_and_stat ws).meaning
selector_found ws o h bs v e f g k =
    e
    ∙ ap (λ b. cond b (both team_with (team_in v.team v.team_number) (option_map result_in v.stat)) None) (f ∙ ap is_nothing g)
    ∙ ap (λ (x : Values). cond (is_nothing (selector_specifiers ws)) (both team_with (team_in x.team x.team_number) (option_map result_in x.stat)) None) k
    ∙ sym (selector_means ws)

pub stat_found : (ws : List Written) (o : Option t.OptionalResult) (h : Bool) (bs : List Broken) (v : Values)
    → o ≡ cond h (option_map result_in v.stat) None → h ≡ is_nothing bs → bs ≡ all_breaks stat_name ws → v ≡ values_named ws
    → o ≡ (with_stat ws).meaning
stat_found ws o h bs v e f g k =
    e
    ∙ ap (λ b. cond b (option_map result_in v.stat) None) (f ∙ ap is_nothing g)
    ∙ ap (λ (x : Values). cond (is_nothing (all_breaks stat_name ws)) (option_map result_in x.stat) None) k
    ∙ sym (stat_means ws)

-- a number under its name, of which the values say this
pub number_found : (n : List ℕ) (at : Values → Slot t.Expression) (ws : List Written) (o : Option NumberAndStat) (h : Bool) (bs : List Broken) (v : Values) (w : WrittenOrder)
    → o ≡ cond h (both (number_with w) (option_map expression_in (at v)) (option_map result_in v.stat)) None → h ≡ is_nothing bs → bs ≡ all_breaks (n ∷ stat_name) ws → v ≡ values_named ws
    → w ≡ order_written n (codes "stat") ws → at (values_named ws) ≡ slot (integer 39) n ws
    → o ≡ (number_and_stat n ws).meaning
number_found n at ws o h bs v w e f g k q r =
    e
    ∙ ap (λ b. cond b (both (number_with w) (option_map expression_in (at v)) (option_map result_in v.stat)) None) (f ∙ ap is_nothing g)
    ∙ ap (λ (x : Values). cond (is_nothing (all_breaks (n ∷ stat_name) ws)) (both (number_with w) (option_map expression_in (at x)) (option_map result_in x.stat)) None) k
    ∙ ap (λ x. cond (is_nothing (all_breaks (n ∷ stat_name) ws)) (both (number_with x) (option_map expression_in (at (values_named ws))) (option_map result_in (values_named ws).stat)) None) q
    ∙ ap (λ x. cond (is_nothing (all_breaks (n ∷ stat_name) ws)) (both (number_with (order_written n (codes "stat") ws)) (option_map expression_in x) (option_map result_in (values_named ws).stat)) None) r
    ∙ sym (number_and_stat_means n ws)

pub acquired_found : (ws : List Written) (o : Option AcquiredAndStat) (h : Bool) (bs : List Broken) (v : Values) (w : WrittenOrder)
    → o ≡ cond h (both (acquired_with w) (option_map result_in v.acquired_lock) (option_map result_in v.stat)) None → h ≡ is_nothing bs → bs ≡ all_breaks (codes "acquired_lock" ∷ stat_name) ws → v ≡ values_named ws
    → w ≡ order_written (codes "acquired_lock") (codes "stat") ws
    → o ≡ (acquired_and_stat ws).meaning
acquired_found ws o h bs v w e f g k q =
    e
    ∙ ap (λ b. cond b (both (acquired_with w) (option_map result_in v.acquired_lock) (option_map result_in v.stat)) None) (f ∙ ap is_nothing g)
    ∙ ap (λ (x : Values). cond (is_nothing (all_breaks (codes "acquired_lock" ∷ stat_name) ws)) (both (acquired_with w) (option_map result_in x.acquired_lock) (option_map result_in x.stat)) None) k
    ∙ ap (λ x. cond (is_nothing (all_breaks (codes "acquired_lock" ∷ stat_name) ws)) (both (acquired_with x) (option_map result_in (values_named ws).acquired_lock) (option_map result_in (values_named ws).stat)) None) q
    ∙ sym (acquired_and_stat_means ws)
