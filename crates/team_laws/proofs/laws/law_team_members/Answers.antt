use Rattle.team_laws.proofs.Times.{all_differ_by}
use Rattle.team_laws.proofs.OnceMembers.{members_once}
use Rattle.team_laws.proofs.Parents.{some_member, parent_before, members_of_parent}
use Rattle.team_laws.proofs.laws.law_team_members.Goals as goal

pub returns-clause-once : goal.returns-clause-once
returns-clause-once c n h k x e = all_differ_by x.members (λ m. members_once m n h k x e)

pub returns-clause-some : goal.returns-clause-some
returns-clause-some c n h k x e = some_member n h k x e

pub returns-clause-parent : goal.returns-clause-parent
returns-clause-parent c n h k x e = parent_before n h k x e

pub returns-clause-members : goal.returns-clause-members
returns-clause-members c n h k x e = members_of_parent n h k x e
