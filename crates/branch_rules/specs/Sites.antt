-- Where a statement stands, as the rules see it.
use Rattle.std.specs.Prelude.{map, Option, Some, None}
use Rattle.std.specs.Borrow.{Bor}
use Rattle.fortran_tree.specs.declared.name.Name.{Name}
use Rattle.rule_definitions.specs.Actions as a
use Rattle.branch_rules.specs.declared.site.Around.{Around}
use Rattle.branch_rules.specs.declared.site.Around.TheVariants as arounds
use Rattle.branch_rules.specs.declared.site.Site.{Site}

abbrev pub maybe_name : Option (Bor Name) → Option Name
maybe_name None = None
maybe_name (Some n) = Some n.now

abbrev pub around : Around → a.Around
around (arounds.Loop n v) = a.loop (maybe_name n) v
around arounds.Selection = a.selection
around arounds.Critical = a.critical
around arounds.TeamChange = a.team_change

abbrev pub site : Site → a.Site
site x = record { scope = x.scope.now; around = map around x.around.now; literals = x.literals }
