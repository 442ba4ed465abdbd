use Rattle.program_tree.proofs.Wholes.{team_whole}
use Rattle.program_tree.proofs.construct.whole_team.Goals as goal

pub returns : goal.returns
returns c = λ es. team_whole c.args.construct c.in-Team.team c.in-Team.specifiers c.in-Team.at c.args.body c.args.end_specifier c.args.end es c.in-Team.is
