use Rattle.reader_theory.proofs.Single.{exact_mapped}
use Rattle.reader_theory.proofs.Fronts.{exact_image}
use Rattle.reader_theory.proofs.reader_laws.other_trees.Goals as goal

pub returns-clause-exact : goal.returns-clause-exact
returns-clause-exact g c = λ f p more also x into from wider. exact_mapped f g.L.Language.words g.M.Language.words p more also x into from wider

pub returns-clause-whole : goal.returns-clause-whole
returns-clause-whole g c = λ f. exact_image f g.L.Language.words
