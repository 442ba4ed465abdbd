use Rattle.std.proofs.Common.{arith, sym}
use Rattle.team_tables.proofs.CurrentLaws.{small_at, small_more}
use Rattle.team_tables.proofs.teams.Teams.make_current.Goals as goal

pub invariant_of-self : goal.invariant_of-self
invariant_of-self c = record {
  small = small_at _ _ (sym c.push_reserved.ensures.items) (small_more c.self.inside.current.items c.args.team c.self.invariant.small c.requires.small);
  deep = (let d = c.self.invariant.deep in let e = c.push_reserved.ensures.capacity in omega arith);
  known_packed = c.self.invariant.known_packed;
  formed_packed = c.self.invariant.formed_packed;
  known_roomy = c.self.invariant.known_roomy;
  formed_roomy = c.self.invariant.formed_roomy;
  few = c.self.invariant.few;
}
