use Rattle.std.proofs.Common.{◌∷◌, [], ◌∙◌, ap, sym}
use Rattle.std.proofs.lemmas.Result.{on_ok_weaker}
use Rattle.rule_definitions.specs.Statements.{with_case}
use Rattle.case_rules.specs.Blocks.{block, joined_cases, with_cases}
use Rattle.case_rules.proofs.Blocks.{made_alike, three_made}
use Rattle.case_rules.proofs.selection.add_case.Goals as goal

pub returns : goal.returns
returns c =
    let rs = c.in-Some.ranges.items in
    let body = block c.in-Some-body.body in
    rw (c.in-Some.is, c.in-Some-body.is)
    (on_ok_weaker c.push_case.result
    (λ h r. h r ∙ ap (joined_cases c.args.cases.now) (made_alike (with_cases (c.case_made.result ∷ [])) (with_case c.args.at.line rs body) r c.case_made.ensures ∙ sym (three_made (with_case c.args.at.line) rs body r)))
    c.push_case.ensures)
