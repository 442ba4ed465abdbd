use Rattle.reader_theory.proofs.Best.{first_decides, later_decides}
use Rattle.reader_theory.proofs.reader_laws.read_part_decides.Goals as goal

pub returns : goal.returns
returns g c = λ f a v c s l. (first_decides f a c s v l, later_decides f a c s v l)
