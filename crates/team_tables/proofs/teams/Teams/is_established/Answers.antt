use Rattle.std.proofs.Common.{◌≡◌, ◌<◌, ◌∙◌, [], length, ap, sym, arith}
use Rattle.std.specs.Prelude.{reverse}
use Rattle.std.proofs.lemmas.Bool.Decides.{nat_tests}
use Rattle.std.proofs.lemmas.List.{length-reverse}
use Rattle.image_acts.specs.Teams.{is_in, from_team, behind_first}
use Rattle.team_tables.specs.Tables.{Table, is_established_here}
use Rattle.team_tables.proofs.NamedLaws.{established_above, established_from, none_there}
use Rattle.team_tables.proofs.teams.Teams.is_established.Goals as goal

pub returns-then-is_empty : goal.returns-then-is_empty
returns-then-is_empty c =
    let none : length c.up_to-within.result.now ≡ 0 = grind (arith, nat_tests) in
    let gone : from_team c.args.team (reverse c.self.inside.current.items) ≡ [] =
    ap (λ ts. from_team c.args.team (reverse ts)) (sym c.deref.ensures.value) ∙ sym c.up_to-within.ensures ∙ ap reverse (none_there c.up_to-within.result.now none) in
    c.holds.ensures ∙ ap (is_in c.args.made) c.older.ensures.value ∙ ap (λ ts. is_in c.args.made (behind_first (reverse ts))) c.deref-then-is_empty.ensures.value
    ∙ established_above c.args.made c.args.team (reverse c.self.inside.current.items) gone
    ∙ ap (λ (t : Table). is_established_here t c.args.made c.args.team) c.self.view_is

pub returns-else-is_empty : goal.returns-else-is_empty
returns-else-is_empty c =
    let some : 0 < length c.up_to-within.result.now = grind (arith, nat_tests) in
    let from = c.up_to-within.ensures ∙ ap (λ ts. from_team c.args.team (reverse ts)) c.deref.ensures.value in
    let long = sym (length-reverse c.up_to-within.result.now) ∙ ap length from in
    c.holds-else-is_empty.ensures ∙ ap (is_in c.args.made) from
    ∙ established_from c.args.made c.args.team (reverse c.self.inside.current.items) (omega arith)
    ∙ ap (λ (t : Table). is_established_here t c.args.made c.args.team) c.self.view_is
