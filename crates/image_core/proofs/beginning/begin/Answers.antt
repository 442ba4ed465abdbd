use Rattle.image_core.proofs.FirstMoments.{count_is, stands_first, sound_first}
use Rattle.image_core.proofs.beginning.begin.Goals as goal

pub returns-clause-stands : goal.returns-clause-stands
returns-clause-stands g c =
    stands_first g.M.Walker g.O.Object g.B.Object (record { images = c.in_ok-images.images; memories = c.args.memories; board = c.args.board }) c.args.machines.items c.in_ok-images.ensures.machines c.in_ok-images.ensures.events c.requires.memories c.requires.board

pub returns-clause-sound : goal.returns-clause-sound
returns-clause-sound g c b kept =
    sound_first g.M.Walker g.O.Object g.B.Object (record { images = c.in_ok-images.images; memories = c.args.memories; board = c.args.board }) c.args.machines.items c.in_ok-images.ensures.machines c.in_ok-images.ensures.events c.requires.memories c.requires.board c.requires.images c.in_ok-images.ensures.numbered c.requires.few b kept

pub returns-clause-count : goal.returns-clause-count
returns-clause-count g c = count_is g.M.Walker g.O.Object g.B.Object (record { images = c.in_ok-images.images; memories = c.args.memories; board = c.args.board }) c.args.machines.items c.in_ok-images.ensures.machines
