use Rattle.walk_theory.specs.Syntax.{body_of}
use Rattle.walk_theory.proofs.Ends.{ends}
use Rattle.image_acts.specs.Meaning.{image_language}
use Rattle.tree_meaning.specs.Forms.{bodies}
use Rattle.tree_meaning.proofs.laws.law_walk_comes_to_an_ask_or_ends.Goals as goal

pub returns : goal.returns
returns c p limit = ends image_language (body_of (bodies p)) limit
