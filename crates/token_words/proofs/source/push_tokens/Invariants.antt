use Rattle.std.proofs.Common.{◌≡◌, ◌++◌, length, map}
use Rattle.std.specs.List.{AllByRecursion}
use Rattle.expr_reader.specs.Plain.{plain}
use Rattle.expr_reader.specs.Words.{tokens_of}
use Rattle.token_words.specs.Words.{Fits}
use Rattle.token_words.proofs.source.push_tokens.Given as goal

-- what is done, and what is left
abbrev pub invariant-loop-token : goal.invariant-loop-token
invariant-loop-token l = record {
  same : tokens_of l.words.items ++ map (plain l.text) l.left ≡ tokens_of l.initial.words.items ++ map (plain l.text) l.tokens;
  fit : AllByRecursion (Fits l.text) l.left;
}

abbrev pub decreases-loop-token : goal.decreases-loop-token
decreases-loop-token l = length l.left
