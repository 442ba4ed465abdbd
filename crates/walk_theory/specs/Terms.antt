-- Expressions of operators and operands, and their values.
use Rattle.std.specs.Prelude.{ℕ, suc, ◌≡◌, List, [], ◌∷◌, length}
use Rattle.trace_theory.specs.Machines.{goes, asks, Comes}
use Rattle.walk_theory.specs.Language.{Effect, goes_to, faults, Language}
use Rattle.walk_theory.specs.Syntax.{Parts, end_parts, value, act, Steps}
use Rattle.walk_theory.specs.Walks.{Task, Config, to, step}

mutual
  -- an operator and its operands; a variable or a constant has none
  pub data Term (A : Type 0) : Type 0 where
    term : A → Terms A → Term A

  -- operands, the left one first
  pub data Terms (A : Type 0) : Type 0 where
    no_terms : Terms A
    more_terms : Term A → Terms A → Terms A

-- a value, or a fault
pub data Found (V : Type 0) : Type 0 where
  found : V → Found V
  at_fault : ℕ → Found V

-- a value, and then what is made of it
abbrev pub with_found : {V W : Type 0} → Found V → (V → Found W) → Found W
with_found (found v) f = f v
with_found (at_fault k) f = at_fault k

module _ {A C V : Type 0} (meaning : A → List V → C → Found V) where
  -- the value of an expression: its operands' values, the left one's first, and then what the operator makes of them
  abbrev mutual
    pub term_value : Term A → C → Found V
    term_value (term a ts) c = with_found (terms_values ts c) (λ vs. meaning a vs c)

    pub terms_values : Terms A → C → Found (List V)
    terms_values no_terms c = found []
    terms_values (more_terms t ts) c = with_found (term_value t c) (λ v. with_found (terms_values ts c) (λ vs. found (v ∷ vs)))

-- how many operands there are
abbrev pub operands : {A : Type 0} → Terms A → ℕ
operands no_terms = 0
operands (more_terms t ts) = suc (operands ts)

-- the parts of an expression: its operands, the left one first, and then the act of the operator
abbrev mutual
  pub term_parts : {A : Type 0} → Term A → Parts A
  term_parts (term a ts) = terms_parts ts (act a end_parts)

  pub terms_parts : {A : Type 0} → Terms A → Parts A → Parts A
  terms_parts no_terms q = q
  terms_parts (more_terms t ts) q = value (term_parts t) (terms_parts ts q)

-- values that are put down one after another
abbrev pub put_all : {C V : Type 0} → (V → C → C) → List V → C → C
put_all put [] c = c
put_all put (v ∷ vs) c = put_all put vs (put v c)

-- what an operator does that takes values from where they were put down, and puts down its own
abbrev pub found_effect : {C Q R V : Type 0} → (V → C → C) → C → Found V → Effect C Q R
found_effect put c (found v) = goes_to (put v c)
found_effect put c (at_fault k) = faults k

module _ {A C Q R V : Type 0} (L : Language A C Q R) (put : V → C → C) (meaning : A → List V → C → Found V) where
  -- The act takes so many values and puts down what the operator means; what is put down under them changes nothing of
  -- it.
  pub record ActsAs (a : A) (n : ℕ) : Type 0 where
    pub takes : (vs : List V) (c : C) → length vs ≡ n → L.operate a (put_all put vs c) ≡ found_effect put c (meaning a vs c)
    pub beneath : (vs : List V) (v : V) (c : C) → meaning a vs (put v c) ≡ meaning a vs c

  -- each act of the expression does so
  abbrev mutual
    pub TermActs : Term A → Type 0
    TermActs (term a ts) = ActsAs a (operands ts) × TermsAct ts

    pub TermsAct : Terms A → Type 0
    TermsAct no_terms = Unit {0}
    TermsAct (more_terms t ts) = TermActs t × TermsAct ts

  module _ (procedures : ℕ → Steps A) (limit : ℕ) where
    -- the walk that evaluates at this line comes without an ask to the value, put down, or to the ask of the fault,
    -- after which nothing is done
    abbrev pub ValueComes : Found V → (line : ℕ) → List (Task A) → C → (count : ℕ) → Config A C → Type 0
    ValueComes (found v) l ts c n e = Comes (step L procedures limit) e (goes (to ts (put v c) n))
    ValueComes (at_fault k) l ts c n e = Comes (step L procedures limit) e (asks (L.fault k) l (λ r. to [] (L.forget c) n))
