-- No fault of a part stands just past whole statements.
use Rattle.std.proofs.Common.{◌≡◌, ℕ, zero, suc, ◌<◌, true, List, [], ◌∷◌, ◌++◌, length, refl, ap, sym, ◌∙◌, subst, arith, append-nil}
use Rattle.reader_theory.specs.Words.{bare, Cause, expected, too_deep, found, fault}
use Rattle.reader_theory.specs.Exactness.{Misses, Sinks, Tells}
use Rattle.reader_theory.proofs.Marks.{bare_length, judge_all}
use Rattle.fortran_grammar.specs.Tokens.{Token}
use Rattle.expr_reader.specs.Results.{cause_of}
use Rattle.expr_reader.specs.declared.error.Stop.{Stop}
use Rattle.statement_reader.specs.Parts as f
use Rattle.statement_reader.specs.Parts.{Part, is_of}
use Rattle.statement_reader.specs.Forms.{Place, part_reader}
use Rattle.statement_reader.specs.Laws.{Part_at}
use Rattle.statement_reader.proofs.Places.{exact_part}
use Rattle.sequence_reader.specs.Answers.{Answer, read, stopped, stop_of, better}
use Rattle.sequence_reader.specs.Statements.{whole_statements}
use Rattle.sequence_reader.proofs.Better.{late_stop, late_better, late_loses_first}
use Rattle.sequence_reader.proofs.Closed.{part_over, condition_open}
use Rattle.sequence_reader.proofs.Together.{found_word}

abbrev left_of : Answer → ℕ
left_of (read es) = 0
left_of (stopped c m) = m

-- the further of two faults
pub further_late : (e stop new : Stop) → stop_of new ≡ better (stop_of e) (stop_of stop) → 0 < e.left → 0 < stop.left → 0 < new.left
further_late e stop new h i j =
    let k = late_better 0 (stop_of e) (stop_of stop) (late_stop 0 (cause_of e.cause) e.left i) (late_stop 0 (cause_of stop.cause) stop.left j) in
    subst (λ n. 0 < n) (sym (ap left_of (h ∙ k.is))) k.late

-- a fault just past the last token is the furthest
best_at_end : (c : Cause) (m : ℕ) → left_of (better (stopped c m) (stopped expected 0)) ≡ 0
best_at_end c zero = refl
best_at_end c (suc m) = ap left_of (late_loses_first 0 (stopped expected 0) (stopped c (suc m)) (omega arith) (late_stop 0 c (suc m) (omega arith)))

pub at_the_end : (e new : Stop) → stop_of new ≡ better (stop_of e) (stopped expected 0) → new.left ≡ 0
at_the_end e new h = ap left_of h ∙ best_at_end (cause_of e.cause) e.left

whole_tail : (y : Token) (ts : List Token) → whole_statements (y ∷ ts) ≡ true → whole_statements ts ≡ true
whole_tail y [] h = refl
whole_tail y (z ∷ ts) h = h

pub whole_rest : (u r : List Token) → whole_statements (u ++ r) ≡ true → whole_statements r ≡ true
whole_rest [] r h = h
whole_rest (y ∷ u) r h = whole_rest u r (whole_tail y (u ++ r) h)

module _ (limit : ℕ) (i : Place) (ts : List Token) (whole : whole_statements ts ≡ true) (some : 0 < length ts) where
  missed_late : (r : List Token) → part_reader limit i ts ≡ fault expected r → 0 < length r
  missed_late (y ∷ r) e = omega arith
  missed_late [] e =
      let m : Misses (Part_at limit i) (part_reader limit i) ts [] = subst (Tells (Part_at limit i) (part_reader limit i) ts) e ((exact_part limit i).tells ts) in
      let same : ts ≡ bare m.front = m.split ∙ append-nil (bare m.front) in
      let size : 0 < length m.front = subst (λ n. 0 < n) (ap length same ∙ bare_length m.front) some in
      let none : m.back ≡ [] = part_over i.form i.conditions limit i.level m.tree m.front m.back m.is_word (subst (λ z. whole_statements z ≡ true) same whole) size in
      let word : Part_at limit i m.tree m.front = subst (Part_at limit i m.tree) (ap (λ v. m.front ++ v) none ∙ append-nil m.front) m.is_word in
      let reads : part_reader limit i ts ≡ found m.tree [] = ap (part_reader limit i) m.split ∙ ((exact_part limit i).given m.tree m.front [] word tt ∙ judge_all m.tree m.front [] m.shallow) in
      absurd (let both : found m.tree [] ≡ fault expected [] = sym reads ∙ e in cc)

  sunk_late : (r : List Token) → part_reader limit i ts ≡ fault too_deep r → 0 < length r
  sunk_late (y ∷ r) e = omega arith
  sunk_late [] e =
      let m : Sinks (Part_at limit i) (part_reader limit i) ts [] = subst (Tells (Part_at limit i) (part_reader limit i) ts) e ((exact_part limit i).tells ts) in
      absurd (let none = m.is_rest in cc)

  pub fault_late : (c : Cause) (r : List Token) → part_reader limit i ts ≡ fault c r → 0 < length r
  fault_late expected r e = missed_late r e
  fault_late too_deep r e = sunk_late r e

  -- and something stands behind the condition of a one-line IF
  pub condition_late : (b : Part) (r : List Token) → part_reader limit i ts ≡ found b r → is_of f.condition_form b ≡ true → 0 < length r
  condition_late b (y ∷ r) e c = omega arith
  condition_late b [] e c =
      let k = found_word limit i ts b [] e in
      let same : ts ≡ bare k.word = k.split ∙ append-nil (bare k.word) in
      absurd (condition_open i.form i.conditions limit i.level b k.word c k.is_word (subst (λ z. whole_statements z ≡ true) same whole) (subst (λ n. 0 < n) (ap length same ∙ bare_length k.word) some))
