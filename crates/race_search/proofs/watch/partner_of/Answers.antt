use Rattle.race_search.proofs.Whole.{no_partner}
use Rattle.race_search.proofs.watch.partner_of.Goals as goal

pub returns-else-clash : goal.returns-else-clash
returns-else-clash c = let z = c.clash.ensures in no_partner c.args.n c.args.before.now c.args.e.now (rw c.if-clash.false at z)
