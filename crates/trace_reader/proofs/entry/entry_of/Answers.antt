use Rattle.std.proofs.Common.{ap, sym, ◌∙◌, subst}
use Rattle.trace_text.specs.TraceText.{entry_line}
use Rattle.trace_forms.specs.Names.{AreNames}
use Rattle.trace_forms.specs.Ranges.{HasText}
use Rattle.trace_reader.specs.Tables.{team_text_by, IsLineOf, Shows}
use Rattle.trace_reader.proofs.entry.entry_of.Goals as goal

pub read_entry-requires : goal.read_entry-requires
read_entry-requires c = subst AreNames (sym c.requires.table) c.requires.names

pub returns-then-shown : goal.returns-then-shown
returns-then-shown c shows = subst (λ yes. Shows yes c.args.teams.now c.args.names.now c.in_ok-entry.entry
    c.args.line.now c.is_shown_by.new.teams) c.if-shown.true c.in_ok-shown.ensures

pub returns-else-shown : goal.returns-else-shown
returns-else-shown c shows e is =
    let names = c.args.names.now in
    let teams = c.args.teams.now in
    let line = c.args.line.now in
    let same = c.in_ok-entry.ensures (team_text_by teams) e shows
    (subst (λ n. HasText n e) (sym c.requires.table) is.has_text)
    (sym is.printed ∙ ap (λ n. entry_line (team_text_by teams) n e) (sym c.requires.table)) in
    let none = subst (λ yes. Shows yes teams names c.in_ok-entry.entry line c.is_shown_by.new.teams)
    c.if-shown.false c.in_ok-shown.ensures in
    none (subst (λ x. IsLineOf teams names x line) (sym same) is)
