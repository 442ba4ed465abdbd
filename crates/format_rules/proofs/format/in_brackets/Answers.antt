use Rattle.std.proofs.Common.{rules, Bool, map, ap, sym, ◌∙◌}
use Rattle.std.specs.Prelude.{cond, Some, None}
use Rattle.format_rules.specs.Views.{seen}
use Rattle.format_rules.proofs.Cuts.{in_bracket_list}
use Rattle.format_rules.proofs.format.in_brackets.Goals as goal

pub returns-then-not-is_sign-2 : goal.returns-then-not-is_sign-2
returns-then-not-is_sign-2 c =
    sym (in_bracket_list c.args.pieces.now c.in_ok-first.behind.now c.in_ok-last.inside.now c.in_ok-first.first.now c.in_ok-last.last.now
    (search rules) c.in_ok-last.ensures.cases.0 (sym c.is_sign.ensures ∙ c.if-not-is_sign.false)
    ∙ ap (λ (t : Bool). cond t (Some (map seen c.in_ok-last.inside.now)) None) (sym c.is_sign-2.ensures ∙ c.if-not-is_sign-2.true))

pub returns : goal.returns
returns c =
    sym (in_bracket_list c.args.pieces.now c.in_ok-first.behind.now c.in_ok-last.inside.now c.in_ok-first.first.now c.in_ok-last.last.now
    (search rules) c.in_ok-last.ensures.cases.0 (sym c.is_sign.ensures ∙ c.if-not-is_sign.false)
    ∙ ap (λ (t : Bool). cond t (Some (map seen c.in_ok-last.inside.now)) None) (sym c.is_sign-2.ensures ∙ c.if-not-is_sign-2.false))
