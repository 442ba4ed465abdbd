use Rattle.std.specs.Prelude.{[]}
use Rattle.lawful_texts.proofs.Entries.{entries_shown}
use Rattle.lawful_texts.proofs.laws.law_lawful_has_texts.Goals as goal

pub returns : goal.returns
returns c names coarrays n t many lawful told ranges short = entries_shown names coarrays n many [] t lawful told ranges short
