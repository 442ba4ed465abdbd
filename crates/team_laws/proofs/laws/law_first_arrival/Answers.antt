use Rattle.team_laws.proofs.Rounds.{opening_stays}
use Rattle.team_laws.proofs.Openings.{closed_opens}
use Rattle.team_laws.proofs.laws.law_first_arrival.Goals as goal

pub returns-clause-stays : goal.returns-clause-stays
returns-clause-stays c team round hs more o e = opening_stays hs more team round o e

pub returns-clause-there : goal.returns-clause-there
returns-clause-there c members team round hs low closed = closed_opens members team round hs low closed
