-- The walk of an expression leaves its value.
use Rattle.std.proofs.Common.{◌≡◌, ℕ, suc, List, [], ◌∷◌, length, refl, ap, ◌∙◌, subst}
use Rattle.trace_theory.specs.Machines.{asks, Comes}
use Rattle.walk_theory.specs.Language.{Language}
use Rattle.walk_theory.specs.Syntax.{Parts, end_parts, act, Steps}
use Rattle.walk_theory.specs.Walks.{Task, eval, Config, to, step}
use Rattle.walk_theory.specs.Evaluation.{Outcome, leaves, faulted, and_then, of_effect, outcome, ComesTo}
use Rattle.walk_theory.specs.Terms.{Term, term, Terms, no_terms, more_terms, Found, found, at_fault, with_found, term_value, terms_values, operands, term_parts, terms_parts, put_all, found_effect, ActsAs, TermActs, TermsAct, ValueComes}
use Rattle.walk_theory.proofs.Evaluation.{parts_come}

with_same : {V W : Type 0} (x : Found V) (f g : V → Found W) → ((v : V) → f v ≡ g v) → with_found x f ≡ with_found x g
with_same (found v) f g h = h v
with_same (at_fault k) f g h = refl

module _ {A C Q R V : Type 0} (L : Language A C Q R) (put : V → C → C) (meaning : A → List V → C → Found V) (forgets : (v : V) (c : C) → L.forget (put v c) ≡ L.forget c) where
  abbrev value_of : Term A → C → Found V
  value_of = term_value meaning

  abbrev values_of : Terms A → C → Found (List V)
  values_of = terms_values meaning

  -- what is put down beneath an expression changes nothing of its value
  mutual
    beneath_term : (t : Term A) → TermActs L put meaning t → (v : V) (c : C) → value_of t (put v c) ≡ value_of t c
    beneath_term (term a ts) h v c = ap (λ x. with_found x (λ vs. meaning a vs (put v c))) (beneath_terms ts h.1 v c) ∙ with_same (values_of ts c) (λ vs. meaning a vs (put v c)) (λ vs. meaning a vs c) (λ vs. h.0.beneath vs v c)

    beneath_terms : (ts : Terms A) → TermsAct L put meaning ts → (v : V) (c : C) → values_of ts (put v c) ≡ values_of ts c
    beneath_terms no_terms h v c = refl
    beneath_terms (more_terms t ts) h v c =
        ap (λ x. with_found x (λ w. with_found (values_of ts (put v c)) (λ vs. found (w ∷ vs)))) (beneath_term t h.0 v c)
        ∙ ap (λ y. with_found (value_of t c) (λ w. with_found y (λ vs. found (w ∷ vs)))) (beneath_terms ts h.1 v c)

  forgets_all : (vs : List V) (c : C) → L.forget (put_all put vs c) ≡ L.forget c
  forgets_all [] c = refl
  forgets_all (v ∷ vs) c = forgets_all vs (put v c) ∙ forgets v c

  -- the evaluation comes to this value
  abbrev Gives : Found V → C → Outcome C → Type 0
  Gives (found v) c o = o ≡ leaves (put v c)
  Gives (at_fault k) c o = (d : C) × (o ≡ faulted k d) × (L.forget d ≡ L.forget c)

  -- the evaluation comes to what follows with these values put down
  abbrev GivesAll : Found (List V) → ℕ → Parts A → C → Outcome C → Type 0
  GivesAll (found vs) n q c o = (o ≡ outcome L q (put_all put vs c)) × (length vs ≡ n)
  GivesAll (at_fault k) n q c o = (d : C) × (o ≡ faulted k d) × (L.forget d ≡ L.forget c)

  cons_gives : (y : Found (List V)) (v : V) (n : ℕ) (q : Parts A) (c : C) (o : Outcome C) → GivesAll y n q (put v c) o → GivesAll (with_found y (λ vs. found (v ∷ vs))) (suc n) q c o
  cons_gives (found vs) v n q c o h = (h.0, ap suc h.1)
  cons_gives (at_fault k) v n q c o h = (h.0, h.1, h.2 ∙ forgets v c)

  more_gives : (x : Found V) (y : Found (List V)) (n : ℕ) (p q : Parts A) (c : C) (o : Outcome C) → Gives x c o → ((v : V) → GivesAll y n q (put v c) (outcome L p (put v c))) → GivesAll (with_found x (λ v. with_found y (λ vs. found (v ∷ vs)))) (suc n) q c (and_then o (outcome L p))
  more_gives (found v) y n p q c o h more = rw h (cons_gives y v n q c (outcome L p (put v c)) (more v))
  more_gives (at_fault k) y n p q c o h more = (h.0, rw h.1 refl, h.2)

  found_gives : (x : Found V) (c d : C) → L.forget d ≡ L.forget c → Gives x c (and_then (of_effect {C = C} {Q = Q} {R = R} d (found_effect put c x)) leaves)
  found_gives (found v) c d h = refl
  found_gives (at_fault k) c d h = (d, refl, h)

  act_gives : (a : A) (y : Found (List V)) (n : ℕ) (c : C) (o : Outcome C) → ActsAs L put meaning a n → GivesAll y n (act a end_parts) c o → Gives (with_found y (λ vs. meaning a vs c)) c o
  act_gives a (found vs) n c o h g = rw (g.0, h.takes vs c g.1) (found_gives (meaning a vs c) c (put_all put vs c) (forgets_all vs c))
  act_gives a (at_fault k) n c o h g = g

  mutual
    term_gives : (t : Term A) → TermActs L put meaning t → (c : C) → Gives (value_of t c) c (outcome L (term_parts t) c)
    term_gives (term a ts) h c = act_gives a (values_of ts c) (operands ts) c (outcome L (terms_parts ts (act a end_parts)) c) h.0 (terms_give ts h.1 (act a end_parts) c)

    terms_give : (ts : Terms A) → TermsAct L put meaning ts → (q : Parts A) (c : C) → GivesAll (values_of ts c) (operands ts) q c (outcome L (terms_parts ts q) c)
    terms_give no_terms h q c = (refl, refl)
    terms_give (more_terms t ts) h q c =
        more_gives (value_of t c) (values_of ts c) (operands ts) (terms_parts ts q) q c (outcome L (term_parts t) c) (term_gives t h.0 c)
        (λ v. subst (λ y. GivesAll y (operands ts) q (put v c) (outcome L (terms_parts ts q) (put v c))) (beneath_terms ts h.1 v c) (terms_give ts h.1 q (put v c)))

  module _ (procedures : ℕ → Steps A) (limit : ℕ) where
    gives_comes : (x : Found V) (o : Outcome C) (l : ℕ) (ts : List (Task A)) (c : C) (n : ℕ) (e : Config A C) → Gives x c o → ComesTo L procedures limit o l ts n e → ValueComes L put meaning procedures limit x l ts c n e
    gives_comes (found v) o l ts c n e h m = (rw h at m)
    gives_comes (at_fault k) o l ts c n e h m = (let i = rw h.1 at m in subst (λ f. Comes (step L procedures limit) e (asks (L.fault k) l (λ r. to [] f n))) h.2 i)

    -- the walk of an expression leaves its value, or comes to its first fault, the left operands' before the right
    -- ones'
    pub value_comes : (t : Term A) → TermActs L put meaning t → (l : ℕ) (ts : List (Task A)) (c : C) (n : ℕ) → ValueComes L put meaning procedures limit (term_value meaning t c) l ts c n (to (eval l (term_parts t) ∷ ts) c n)
    value_comes t h l ts c n = gives_comes (value_of t c) (outcome L (term_parts t) c) l ts c n _ (term_gives t h c) (parts_come L procedures limit (term_parts t) l ts c n)
