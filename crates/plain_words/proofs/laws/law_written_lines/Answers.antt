use Rattle.plain_words.proofs.Lines.{written}
use Rattle.plain_words.proofs.laws.law_written_lines.Goals as goal

pub returns : goal.returns
returns c = written
