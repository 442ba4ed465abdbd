-- Image selectors, as the rules see them.
use Rattle.std.specs.Prelude.{Bool, not, cond, ◌&&◌, List, [], None}
use Rattle.caf_base.specs.declared.place.Pos.{Pos}
use Rattle.checked_tree.specs.Expressions as t
use Rattle.checked_tree.specs.ExpressionViews.{maybe_selector}
use Rattle.rule_definitions.specs.declared.broken.Broken.{Broken}
use Rattle.rule_definitions.specs.Arguments.{Actual, breaks_in_all}
use Rattle.rule_definitions.specs.Expressions.{WrittenSelector}
use Rattle.rule_definitions.specs.Judgements.{Judgement, breaks, fine, is_nothing, is_there, made_of_both, ruled, unless}
use Rattle.part_rules.specs.Views.{judgement}
use Rattle.part_rules.specs.declared.designator.Selection.{Selection}
use Rattle.specifier_rules.specs.Meanings.{TeamAndStat}

abbrev pub selection : Selection → WrittenSelector
selection s = record { count = s.count; judged = judgement maybe_selector s.judged }

-- no selector
abbrev pub no_selection : WrittenSelector
no_selection = record { count = None; judged = fine t.no_selector }

abbrev pub selector_with : t.Expressions → TeamAndStat → t.Selector
selector_with es x = t.selector es x.team x.stat

-- Rule 34: a selector behind what is no variable, where nothing is broken in it, and nothing before it as the flag says
abbrev pub selector_breaks : Bool → WrittenSelector → Pos → List Broken
selector_breaks plain c p = cond (plain && is_nothing c.judged.breaks) (unless (not (is_there c.count)) 34 p) []

-- what is no variable, with its selector
abbrev pub unselected_by : Bool → Judgement t.Expression → WrittenSelector → Pos → Judgement t.Expression
unselected_by plain j c p = made_of_both (λ x k. x) (ruled j (selector_breaks plain c p)) c.judged

-- Rule 47 (15.5.1): what breaks in a subroutine as a value, before its selector
abbrev pub breaks_of_subroutine : Pos → List Actual → WrittenSelector → List Broken
breaks_of_subroutine p ss c = cond (is_nothing (breaks_in_all ss) && is_nothing c.judged.breaks) (breaks 47 p) (breaks_in_all ss)
