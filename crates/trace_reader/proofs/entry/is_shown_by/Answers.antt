use Rattle.std.proofs.Common.{◌≡◌, ℕ, Bool, true, false, List, sym, ◌∙◌, true≢false}
use Rattle.std.proofs.lemmas.Bool.{and_parts}
use Rattle.std.proofs.lemmas.Result.{IfOk-weaker}
use Rattle.caf_events.specs.declared.event.Entry.{Entry}
use Rattle.trace_forms.proofs.Cuts.{and_both}
use Rattle.trace_reader.specs.Checks.{shows_entry}
use Rattle.trace_reader.specs.Tables.{shows_team_of, Prints, Shows}
use Rattle.trace_reader.specs.declared.teams.Teams.{Teams}
use Rattle.trace_reader.proofs.Tests.{entry}
use Rattle.trace_reader.proofs.entry.is_shown_by.Goals as goal

printed : (yes : Bool) (old new : Teams) (names : List (List ℕ)) (e : Entry) (line : List ℕ)
    → shows_entry names e ≡ true → shows_team_of old e.event.ask ≡ true → Prints yes old names e line new
    → Shows yes old names e line new
printed true old new names e line has team p = (
  record { has_text = (entry names e).0 has; numbered = team; printed = p.0 },
  p.1,
)
printed false old new names e line has team p = λ is. p is.printed

pub returns-then-not-can_show : goal.returns-then-not-can_show
returns-then-not-can_show c is =
    let names = c.args.names.now in
    let e = c.args.entry.now in
    true≢false (sym (and_both (shows_entry names e) (shows_team_of c.args.teams.now e.event.ask)
    ((entry names e).1 is.has_text) is.numbered) ∙ sym c.can_show.ensures ∙ c.if-not-can_show.true)

pub returns : goal.returns
returns c =
    let both = and_parts _ _ (sym c.can_show.ensures ∙ c.if-not-can_show.false) in
    IfOk-weaker c.prints.result _ _ (λ yes p. printed yes c.args.teams.now c.prints.new.teams c.args.names.now
    c.args.entry.now c.args.line.now both.0 both.1 p) c.prints.ensures
