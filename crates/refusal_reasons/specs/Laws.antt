-- What is proved of the reason of a refusal.
use Rattle.std.specs.Prelude.{ℕ, suc, ◌≡◌, ◌≤◌, ◌+◌, ◌-◌, true, List, [], ◌∷◌, ◌++◌, length}
use Rattle.reader_theory.specs.Words.{Mark, bare, Shallow, Cause}
use Rattle.reader_theory.specs.Refusals.{Refused}
use Rattle.reader_theory.specs.Limits.{FirstSunk, RefusedFor, reason, shifted}
use Rattle.reader_theory.specs.TextLaws.{OneRefusal}
use Rattle.fortran_grammar.specs.Tokens.{Token}
use Rattle.fortran_grammar.specs.ProgramGrammar.{Programs}
use Rattle.expr_reader.specs.Slack.{slack}
use Rattle.statement_reader.specs.Parts.{Part, Form, formed}
use Rattle.program_reader.specs.Sequence.{State, allowed, start, Rest_of_file}
use Rattle.program_reader.specs.Unfinished.{Parts_from, behind}
use Rattle.refusal_reasons.specs.Reasons.{levels_at, place_at}
use Rattle.refusal_reasons.specs.Statements.{one_statement, statement_place, before}

-- the first token of a part stands at most one level further in than its place and the conditions that it stands
-- behind, and each further token at most one more
abbrev pub PartsAreFlat : Type 0
PartsAreFlat = (i : Form) (conditions : ℕ) (b : Part) → slack (formed i conditions b) ≤ suc conditions

-- from each place on, the first token that is too deep among all words that begin with some tokens, is that of
-- `place_at`
abbrev pub RestsSinkThere : Type 0
RestsSinkThere = (limit : ℕ) (s : State) (us : List Token) → FirstSunk (λ es w. Rest_of_file limit s es w) us (place_at limit s us)

-- Where a file is refused at a token, behind whole statements that are read, the reason is told by what stands behind
-- these, up to and with the token.
abbrev pub LastStatementTells : Type 0
LastStatementTells = (limit : ℕ) (es : List Part) (w : List (Mark Token)) (ts us : List Token) (c : Cause) (x : Token) (rest : List Token)
    → Parts_from limit start es w → Shallow w → (behind start es).conditions ≡ 0 → ts ≡ bare w ++ (us ++ x ∷ rest) → Refused (Programs limit) ts c (x ∷ rest)
    → RefusedFor (Programs limit) ts (reason (shifted (length w) (place_at limit (behind start es) (us ++ x ∷ [])))) (x ∷ rest)

-- for the tokens of one statement the readers of the forms that its place allows and the number of levels that are left
-- there are enough
abbrev pub StatementsAlone : Type 0
StatementsAlone = (limit left : ℕ) (s : State) (us : List Token) → one_statement us ≡ true → levels_at s + left ≡ limit → place_at limit s us ≡ before (length us) (statement_place left (allowed s) us)

-- and so they tell the reason of the file's refusal
abbrev pub StatementTells : Type 0
StatementTells = (limit left : ℕ) (es : List Part) (w : List (Mark Token)) (ts us : List Token) (c : Cause) (x : Token) (rest : List Token)
    → Parts_from limit start es w → Shallow w → (behind start es).conditions ≡ 0 → one_statement (us ++ x ∷ []) ≡ true → length (behind start es).blocks + left ≡ limit
    → ts ≡ bare w ++ (us ++ x ∷ rest) → Refused (Programs limit) ts c (x ∷ rest)
    → RefusedFor (Programs limit) ts (reason (before (length ts - length rest) (statement_place left (allowed (behind start es)) (us ++ x ∷ [])))) (x ∷ rest)

-- no file is refused at two places or for two reasons
abbrev pub OneReason : Type 0
OneReason = (limit : ℕ) → OneRefusal (Programs limit)
