use Rattle.caf_words.specs.Words.{IsValid}
use Rattle.caf_words.proofs.Usages.{usage_once, usage_invalid}
use Rattle.caf_words.proofs.Meanings.{one_meaning}
use Rattle.caf_words.proofs.words.law_one_usage.Goals as goal

pub returns : goal.returns
returns c = record { one = usage_once IsValid; none = usage_invalid IsValid; meaning = one_meaning }
