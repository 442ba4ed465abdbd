use Rattle.std.proofs.Common.{◌≡◌, ◌∷◌, ◌++◌, [], ◌∙◌, ap, sym}
use Rattle.std.specs.Prelude.{not}
use Rattle.rule_definitions.specs.Judgements.{is_there, made_of_both, ruled, unless}
use Rattle.rule_definitions.specs.Statements.{with_default}
use Rattle.part_rules.specs.Views.{judgement}
use Rattle.case_rules.specs.Blocks.{backwards, block, joined_cases, whole}
use Rattle.case_rules.proofs.Blocks.{alike, joined_none, otherwise_none, second_breaks}
use Rattle.case_rules.proofs.selection.CaseList.add_default.Goals as goal

pub returns-then-is_some-clause-whole : goal.returns-then-is_some-clause-whole
returns-then-is_some-clause-whole c = λ r.
    let x = c.args.self.now in
    let body = c.args.body.breaks.items in
    let has = sym c.is_some.ensures ∙ c.if-is_some.true in
    alike _ _ _ _
    (ap (λ y. (y ++ r.breaks) ++ backwards c.push.new.self.items) c.in_ok-add_all.ensures
    ∙ ap (λ y. ((x.breaks.items ++ body) ++ r.breaks) ++ backwards y) c.in_ok-push.ensures.items
    ∙ second_breaks x.breaks.items body r.breaks x.repeated.items (record { rule = 44; at = c.args.at }))
    (sym (ap (joined_cases x.cases) (otherwise_none x.otherwise) ∙ joined_none x.cases))
    ∙ ap (λ b. whole x (ruled (made_of_both with_default (judgement block c.args.body) r) (unless (not b) 44 c.args.at))) (sym has)
