-- Statements from which on one level more is open.
use Rattle.std.proofs.Common.{◌≡◌, ℕ, zero, suc, ◌-◌, ◌<◌, Bool, true, false, cond, codes, List, [], ◌∷◌, refl, ap, ◌∙◌, arith}
use Rattle.reader_theory.specs.Words.{Verdict, found, fault, expected, too_deep}
use Rattle.reader_theory.specs.Readers.{then_by, joined, behind, both, first, second, pair, sunk, token, turned}
use Rattle.caf_base.specs.declared.place.Pos.{Pos}
use Rattle.fortran_tree.specs.Statements.{ActionStatement}
use Rattle.fortran_grammar.specs.Tokens.{Token}
use Rattle.expr_reader.specs.Reading.{Reader}
use Rattle.expr_reader.specs.Tests.{a_name, is_key, is_word, placed}
use Rattle.statement_reader.specs.Actions.{a_team}
use Rattle.statement_reader.specs.Families.{Family, is_one_of, rounded}
use Rattle.statement_reader.specs.Heads as heads
use Rattle.statement_reader.specs.Heads.{deepened, is_over, a_condition, with, an_end, then_end, a_select_case, a_control, a_joined}
use Rattle.statement_reader.specs.Forms.{a_do, a_named_do}
use Rattle.statement_reader.specs.Lines.{an_assignment, assignment_line}
use Rattle.action_reader.specs.Beginnings.{begins, one}
use Rattle.action_reader.specs.Views.{a_name_at}
use Rattle.action_reader.proofs.Enclosed.{bracket_laws}
use Rattle.action_reader.proofs.Keys.{behind_is}
use Rattle.action_reader.proofs.Specifiers.{specifier_laws}
use Rattle.part_reader.specs.Levels.{deep_name, deep_one, deep_select, named_control, select_key}

sunk_then : {A B C : Type 0} (test : Token → Bool) (f : A → B → C) (q : Reader B) (ts : List Token) → sunk test ts ≡ then_by f (λ _. q) (sunk test ts)
sunk_then test f q [] = refl
sunk_then test f q (x ∷ ts) = by_test (test x)
  where
    by_test : (b : Bool) → cond b (fault too_deep (x ∷ ts)) (fault expected (x ∷ ts)) ≡ then_by f (λ _. q) (cond b (fault too_deep (x ∷ ts)) (fault expected (x ∷ ts)))
    by_test true = refl
    by_test false = refl

back : (left : ℕ) → left ≡ suc left - 1
back left = omega arith

-- a first part, and behind it one with a level less
deepened_both : {A B C : Type 0} (test : Token → Bool) (f : A → B → C) (p : Family A) (q : Family B) (left : ℕ) (ts : List Token)
    → deepened test (λ l. both f (p l) (q l)) left ts ≡ then_by f (λ _. q (left - 1)) (deepened test p left ts)
deepened_both test f p q zero ts = sunk_then test f (q (zero - 1)) ts
deepened_both test f p q (suc left) ts = ap (λ n. then_by f (λ _. q n) (p left ts)) (back left)

deepened_key : {A : Type 0} (test : Token → Bool) (r : Family A) (left : ℕ) (ts : List Token) → deepened test (λ l. behind test (r l)) left ts ≡ then_by second (λ _. r (left - 1)) (deep_one test left ts)
deepened_key test r zero ts = sunk_then test second (r (zero - 1)) ts
deepened_key test r (suc left) ts = behind_is test (r left) ts ∙ ap (λ n. then_by second (λ _. r n) (one test ts)) (back left)

-- where no level is left, and where one is
sunk_some : {A : Type 0} (test : Token → Bool) (ts : List Token) → begins test ts ≡ true → sunk {A = A} test ts ≡ fault too_deep ts
sunk_some test [] e = absurd (cc)
sunk_some test (x ∷ ts) e = ap (λ b. cond b (fault too_deep (x ∷ ts)) (fault expected (x ∷ ts))) e

sunk_none : {A : Type 0} (test : Token → Bool) (ts : List Token) → begins test ts ≡ false → sunk {A = A} test ts ≡ fault expected ts
sunk_none test [] e = refl
sunk_none test (x ∷ ts) e = ap (λ b. cond b (fault too_deep (x ∷ ts)) (fault expected (x ∷ ts))) e

deep_some : {A : Type 0} (test : Token → Bool) (r : Family A) (left : ℕ) (ts : List Token) → 0 < left → deepened test r left ts ≡ r (left - 1) ts
deep_some test r zero ts h = absurd (omega arith)
deep_some test r (suc left) ts h = ap (λ n. r n ts) (back left)

deep_sunk : {A : Type 0} (test : Token → Bool) (r : Family A) (left : ℕ) (ts : List Token) → left ≡ 0 → begins test ts ≡ true → deepened test r left ts ≡ fault too_deep ts
deep_sunk test r zero ts h e = sunk_some test ts e
deep_sunk test r (suc left) ts h e = absurd (omega arith)

deep_other : {A : Type 0} (test : Token → Bool) (r : Family A) (left : ℕ) (ts : List Token) → left ≡ 0 → begins test ts ≡ false → deepened test r left ts ≡ fault expected ts
deep_other test r zero ts h e = sunk_none test ts e
deep_other test r (suc left) ts h e = absurd (omega arith)

pub one_some : (test : Token → Bool) (left : ℕ) (ts : List Token) → 0 < left → deep_one test left ts ≡ one test ts
one_some test left ts h = deep_some test (λ left. one test) left ts h

pub one_sunk : (test : Token → Bool) (left : ℕ) (ts : List Token) → left ≡ 0 → begins test ts ≡ true → deep_one test left ts ≡ fault too_deep ts
one_sunk test left ts h e = deep_sunk test (λ left. one test) left ts h e

pub one_other : (test : Token → Bool) (left : ℕ) (ts : List Token) → left ≡ 0 → begins test ts ≡ false → deep_one test left ts ≡ fault expected ts
one_other test left ts h e = deep_other test (λ left. one test) left ts h e

pub select_some : (left : ℕ) (ts : List Token) → 0 < left → deep_select left ts ≡ a_joined (codes "select") (codes "case") 0 ts
select_some left ts h = deep_some select_key (a_joined (codes "select") (codes "case")) left ts h

pub select_sunk : (left : ℕ) (ts : List Token) → left ≡ 0 → begins select_key ts ≡ true → deep_select left ts ≡ fault too_deep ts
select_sunk left ts h e = deep_sunk select_key (a_joined (codes "select") (codes "case")) left ts h e

pub select_other : (left : ℕ) (ts : List Token) → left ≡ 0 → begins select_key ts ≡ false → deep_select left ts ≡ fault expected ts
select_other left ts h e = deep_other select_key (a_joined (codes "select") (codes "case")) left ts h e

pub name_some : (left : ℕ) (ts : List Token) → 0 < left → deep_name left ts ≡ a_name ts
name_some left ts h = deep_some is_word a_name_at left ts h

pub name_sunk : (left : ℕ) (ts : List Token) → left ≡ 0 → begins is_word ts ≡ true → deep_name left ts ≡ fault too_deep ts
name_sunk left ts h e = deep_sunk is_word a_name_at left ts h e

pub name_other : (left : ℕ) (ts : List Token) → left ≡ 0 → begins is_word ts ≡ false → deep_name left ts ≡ fault expected ts
name_other left ts h e = deep_other is_word a_name_at left ts h e

pub if_is : (left : ℕ) (ts : List Token) → heads.an_if left ts ≡ then_by second (λ _. a_condition (left - 1)) (deep_one (is_key (codes "if")) left ts)
if_is left ts = deepened_key (is_key (codes "if")) a_condition left ts

pub if_then_is : (left : ℕ) (ts : List Token) → deepened (is_key (codes "if")) (heads.behind_key (codes "if") (with a_condition then_end)) left ts ≡ then_by second (λ _. with a_condition then_end (left - 1)) (deep_one (is_key (codes "if")) left ts)
if_then_is left ts = deepened_key (is_key (codes "if")) (with a_condition then_end) left ts

pub select_is : (left : ℕ) (ts : List Token) → deepened (is_one_of (codes "selectcase" ∷ codes "select" ∷ [])) a_select_case left ts ≡ then_by pair (λ _. with a_condition an_end (left - 1)) (deep_select left ts)
select_is left ts = deepened_both (is_one_of (codes "selectcase" ∷ codes "select" ∷ [])) pair (a_joined (codes "select") (codes "case")) (with a_condition an_end) left ts

pub do_is : (left : ℕ) (ts : List Token) → deepened (is_key (codes "do")) a_do left ts ≡ then_by second (λ _. with a_control an_end (left - 1)) (deep_one (is_key (codes "do")) left ts)
do_is left ts = deepened_key (is_key (codes "do")) (with a_control an_end) left ts

pub critical_is : (left : ℕ) (ts : List Token) → deepened (is_key (codes "critical")) (heads.behind_key (codes "critical") (with heads.a_bracketed_specifier an_end)) left ts ≡ then_by second (λ _. with heads.a_bracketed_specifier an_end (left - 1)) (deep_one (is_key (codes "critical")) left ts)
critical_is left ts = deepened_key (is_key (codes "critical")) (with heads.a_bracketed_specifier an_end) left ts

pub change_is : (left : ℕ) (ts : List Token) → deepened (is_key (codes "change")) (heads.behind_key (codes "change") (heads.behind_key (codes "team") (with (rounded a_team) an_end))) left ts ≡ then_by second (λ _. heads.behind_key (codes "team") (with (rounded a_team) an_end) (left - 1)) (deep_one (is_key (codes "change")) left ts)
change_is left ts = deepened_key (is_key (codes "change")) (heads.behind_key (codes "team") (with (rounded a_team) an_end)) left ts

pub named_is : (left : ℕ) (ts : List Token) → deepened is_word a_named_do left ts ≡ then_by pair (λ _. named_control (left - 1)) (deep_name left ts)
named_is left ts = deepened_both is_word pair a_name_at named_control left ts

-- an action and the end of its statement
ended_so : {A : Type 0} (a : A) (v : Verdict Token Token) → joined first a v ≡ joined first a (turned {B = Unit {0}} (λ z. tt) v)
ended_so a (found x rest) = refl
ended_so a (fault c rest) = refl

pub assignment_is : (left : ℕ) (ts : List Token) → assignment_line left ts ≡ then_by first (λ _. one is_over) (placed pair (an_assignment left) ts)
assignment_is left ts = by_verdict (placed pair (an_assignment left) ts)
  where
    by_verdict : (v : Verdict Token (Pos × ActionStatement)) → then_by first (λ _. token is_over) v ≡ then_by first (λ _. one is_over) v
    by_verdict (found a rest) = ended_so a (token is_over rest)
    by_verdict (fault c rest) = refl

pub ruleset deep_laws = (bracket_laws, specifier_laws, if_is, if_then_is, select_is, do_is, critical_is, change_is, named_is, assignment_is, one_some, one_sunk, one_other, select_some, select_sunk, select_other, name_some, name_sunk, name_other)
