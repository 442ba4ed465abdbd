use Rattle.std.proofs.Common.{◌≡◌, ℕ, Bool, true, false, List, ◌++◌, ap, sym, ◌∙◌, bytes_eq}
use Rattle.std.proofs.Common.{true≢false}
use Rattle.std.proofs.lemmas.Slice.Eq.{bytes_eq-Decides}
use Rattle.caf_events.specs.declared.event.Entry.{Entry}
use Rattle.trace_text.specs.TraceText.{entry_line}
use Rattle.trace_reader.specs.Tables.{team_text_by, TakesNumbers, Prints}
use Rattle.trace_reader.specs.declared.teams.Teams.{Teams}
use Rattle.trace_reader.proofs.entry.prints.Goals as goal

told : (yes : Bool) (old new : Teams) (names : List (List ℕ)) (e : Entry) (line printed : List ℕ)
    → printed ≡ entry_line (team_text_by old) names e → yes ≡ bytes_eq printed line
    → TakesNumbers old e.event.reply new → Prints yes old names e line new
told true old new names e line printed is same takes = (
  sym is ∙ (bytes_eq-Decides printed line).0 (sym same),
  takes,
)
told false old new names e line printed is same takes = λ all.
    true≢false (sym ((bytes_eq-Decides printed line).1 (is ∙ all)) ∙ sym same)

pub returns : goal.returns
returns c = told _ c.args.teams.now _ c.args.names.now c.args.entry.now c.args.line.now _
    (c.as_slice.ensures.value ∙ c.in_ok-push.ensures.text ∙ ap (λ z. z ++ entry_line (team_text_by c.args.teams.now)
    c.args.names.now c.args.entry.now) c.clear.ensures.items) c.eq.ensures c.in_ok-push.ensures.taken
