use Rattle.race_watch.proofs.Marking.{first_marked}
use Rattle.race_watch.proofs.marks.Marks.new.Goals as goal

pub returns : goal.returns
returns c = first_marked c.args._n _ c.new.ensures.items
