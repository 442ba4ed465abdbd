use Rattle.std.proofs.Common.{inl, inr}
use Rattle.team_laws.proofs.ToldTeams.{made_at_close}
use Rattle.team_laws.proofs.laws.law_made_at_close.Goals as goal

pub returns : goal.returns
returns c n h team round low = elim (made_at_close n h team round low) [
  | inl nil ↦ inl nil
  | inr a ↦ inr (a.front, a.closed, a.made)
]
