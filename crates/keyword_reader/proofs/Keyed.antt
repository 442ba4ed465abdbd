-- Actions behind their keywords, and the end of their statement.
use Rattle.std.proofs.Common.{◌≡◌, ℕ, List, refl}
use Rattle.caf_base.specs.declared.place.Pos.{Pos}
use Rattle.reader_theory.specs.Words.{Verdict, found, fault}
use Rattle.reader_theory.specs.Readers.{then_by, joined, first, pair, token, turned}
use Rattle.fortran_tree.specs.Statements.{ActionStatement}
use Rattle.fortran_grammar.specs.Tokens.{Token}
use Rattle.expr_reader.specs.Tests.{placed}
use Rattle.statement_reader.specs.Heads.{is_over}
use Rattle.statement_reader.specs.Keywords.{a_keyword_action}
use Rattle.statement_reader.specs.Lines.{keyword_line}
use Rattle.action_reader.specs.Beginnings.{one}
use Rattle.action_reader.proofs.Acts.{act_laws}

-- an action and the end of its statement
ended_so : {A : Type 0} (a : A) (v : Verdict Token Token) → joined first a v ≡ joined first a (turned {B = Unit {0}} (λ z. tt) v)
ended_so a (found x rest) = refl
ended_so a (fault c rest) = refl

pub line_is : (left : ℕ) (ts : List Token) → keyword_line left ts ≡ then_by first (λ _. one is_over) (placed pair (a_keyword_action left) ts)
line_is left ts = by_verdict (placed pair (a_keyword_action left) ts)
  where
    by_verdict : (v : Verdict Token (Pos × ActionStatement)) → then_by first (λ _. token is_over) v ≡ then_by first (λ _. one is_over) v
    by_verdict (found a rest) = ended_so a (token is_over rest)
    by_verdict (fault c rest) = refl

pub ruleset keyed_laws = (act_laws, line_is)
