use Rattle.std.proofs.Common.{cond, ◌++◌, refl, ap, sym, ◌∙◌, true≢false}
use Rattle.std.proofs.lemmas.Result.{IfOk-equal, on_ok_weaker}
use Rattle.trace_text.specs.TraceText.{number_text, entry_line}
use Rattle.trace_text.specs.Forms.{team_by_table}
use Rattle.trace_reader.proofs.teams.Teams.push.Goals as goal

pub returns-then-self-clause-text : goal.returns-then-self-clause-text
returns-then-self-clause-text c = IfOk-equal c.push_entry.result _ _ _ c.push_entry.ensures.text
    (ap (λ b. c.args.out.now.items ++ entry_line (cond b (team_by_table c.args.self.now.numbers) number_text)
    c.args.names.now c.args.entry.now) (sym c.if-self.true))

pub returns-then-self-clause-taken : goal.returns-then-self-clause-taken
returns-then-self-clause-taken c = on_ok_weaker c.push_entry.result (λ g. record { form = refl; gains = λ yes. g })
    c.push_entry.ensures.numbers

pub returns-else-self-clause-text : goal.returns-else-self-clause-text
returns-else-self-clause-text c = IfOk-equal c.push_first_entry.result _ _ _ c.push_first_entry.ensures
    (ap (λ b. c.args.out.now.items ++ entry_line (cond b (team_by_table c.args.self.now.numbers) number_text)
    c.args.names.now c.args.entry.now) (sym c.if-self.false))

pub returns-else-self-clause-taken : goal.returns-else-self-clause-taken
returns-else-self-clause-taken c = on_ok_weaker c.push_first_entry.result (λ g. record {
  form = refl;
  gains = λ yes. absurd (true≢false (sym yes ∙ c.if-self.false));
}) c.push_first_entry.ensures
