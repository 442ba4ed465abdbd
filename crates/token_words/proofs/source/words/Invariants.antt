use Rattle.std.proofs.Common.{take}
use Rattle.expr_reader.specs.Words.{tokens_of}
use Rattle.token_words.specs.Words.{AreWords}
use Rattle.token_words.proofs.source.words.Given as goal

-- the words of the statements so far
abbrev pub invariant-loop-stmt : goal.invariant-loop-stmt
invariant-loop-stmt l = AreWords (take l.stmt-index l.stmts) (tokens_of l.words.items)
