use Rattle.core_runs.specs.Moments.{rules}
use Rattle.worker_laws.proofs.Together.{few_images, few_objects}
use Rattle.worker_laws.proofs.laws.law_linked_few.Goals as goal

pub returns-clause-images : goal.returns-clause-images
returns-clause-images g c b m h i = few_images (rules g.M.Walker g.O.Object g.B.Object) b m h i

pub returns-clause-objects : goal.returns-clause-objects
returns-clause-objects g c b m h o = few_objects (rules g.M.Walker g.O.Object g.B.Object) b m h o
