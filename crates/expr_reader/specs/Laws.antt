-- What is proved of the readers of expressions.
use Rattle.std.specs.Prelude.{ℕ, ◌≡◌, ◌+◌, ◌≤◌, List}
use Rattle.reader_theory.specs.Words.{Mark}
use Rattle.reader_theory.specs.Readers.{ended}
use Rattle.reader_theory.specs.Laws.{AnswersAll, OneReading}
use Rattle.fortran_tree.specs.Expressions.{Expression}
use Rattle.fortran_grammar.specs.Tokens.{Token}
use Rattle.fortran_grammar.specs.Phrases.{Words}
use Rattle.fortran_grammar.specs.ExpressionGrammar.{expr}
use Rattle.expr_reader.specs.Full.{full}
use Rattle.expr_reader.specs.Longest.{LongestOfAll, OneLongest}

-- the grammar's expressions, where so many levels may be open and so many are
abbrev pub Expressions_at : ℕ → ℕ → Expression → List (Mark Token) → Type 0
Expressions_at limit level e w = Words (expr e) limit level w

-- each text of tokens gets the answer that is due: its expression, or the first token with which none goes on and why
abbrev pub ExpressionsAnswered : Type 0
ExpressionsAnswered = (limit left level : ℕ) → level + left ≡ limit → AnswersAll (Expressions_at limit level) (ended (full left).expression)

-- no text is two expressions
abbrev pub ExpressionsOnce : Type 0
ExpressionsOnce = (limit level : ℕ) → level ≤ limit → OneReading (Expressions_at limit level)

-- each text of tokens gets the longest expression that begins it, or where and why there is none
abbrev pub LongestAnswered : Type 0
LongestAnswered = (limit left level : ℕ) → level + left ≡ limit → LongestOfAll (Expressions_at limit level) (full left).expression

-- each text has one such answer
abbrev pub LongestOnce : Type 0
LongestOnce = (limit level : ℕ) → level ≤ limit → OneLongest (Expressions_at limit level)
