use Rattle.declaration_rules.proofs.Definitions.{raw_dimensions_are, dimensions_are, known_dimensions_are}
use Rattle.declaration_rules.proofs.law.law_dimensions.Goals as goal

pub returns : goal.returns
returns c = record {
  raw = λ s ds. raw_dimensions_are s ds;
  breaks = λ s a ds. dimensions_are s a ds;
  known = λ s a ds. known_dimensions_are s a ds;
}
