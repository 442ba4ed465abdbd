use Rattle.std.proofs.Common.{arith}
use Rattle.std.specs.Prelude.{option_to_list}
use Rattle.team_tables.proofs.CurrentLaws.{small_at, small_front}
use Rattle.team_tables.proofs.teams.Teams.leave_team.Goals as goal

pub invariant_of-self : goal.invariant_of-self
invariant_of-self c = record {
  small = small_front c.pop.new.self.items (option_to_list c.pop.result) (small_at _ _ c.pop.ensures.items c.self.invariant.small);
  deep = (let d = c.self.invariant.deep in let e = c.pop.ensures.capacity in omega arith);
  known_packed = c.self.invariant.known_packed;
  formed_packed = c.self.invariant.formed_packed;
  known_roomy = c.self.invariant.known_roomy;
  formed_roomy = c.self.invariant.formed_roomy;
  few = c.self.invariant.few;
}
