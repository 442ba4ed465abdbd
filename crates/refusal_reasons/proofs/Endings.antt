-- Each part but the condition of a one-line IF ends its statement.
use Rattle.std.proofs.Common.{◌≡◌, ℕ, zero, suc, Bool, true, false, cond, ◌&&◌, List, [], ◌∷◌, ◌++◌, inl, inr, refl, ap, sym, ◌∙◌, subst, append_assoc}
use Rattle.std.proofs.lemmas.Bool.{cases_Bool, and_parts, false≢true, true≢false}
use Rattle.reader_theory.specs.Words.{Mark, bare, found}
use Rattle.reader_theory.specs.Exactness.{Finds, Tells}
use Rattle.reader_theory.proofs.Marks.{bare_append}
use Rattle.fortran_grammar.specs.Tokens.{Token}
use Rattle.fortran_grammar.specs.Phrases as p
use Rattle.fortran_grammar.specs.Phrases.{Phrase, Words, ◌▸◌, ◌∪◌}
use Rattle.statement_reader.specs.Heads.{is_over_tok, is_over}
use Rattle.statement_reader.specs.Parts as f
use Rattle.statement_reader.specs.Parts.{Part, Form, is_of, whole, within, line, formed}
use Rattle.statement_reader.specs.Forms.{Place, part_reader}
use Rattle.statement_reader.specs.Laws.{Part_at}
use Rattle.statement_reader.proofs.Places.{exact_part}
use Rattle.refusal_reasons.specs.Statements.{one_statement}

-- the last token of each word ends a statement
abbrev ends : Phrase → Bool
ends p.nothing = false
ends (p.token x) = is_over_tok x
ends (p.token_at at x) = is_over_tok x
ends (P ▸ Q) = ends Q
ends (P ∪ Q) = ends P && ends Q
ends (p.only b P) = ends P
ends (p.deeper P) = ends P
ends (p.from at P) = ends P

record Ended (w : List (Mark Token)) : Type 0 where
  front : List (Mark Token)
  last : Mark Token
  joins : w ≡ front ++ last ∷ []
  over : is_over last.token ≡ true

ended : (P : Phrase) (l d : ℕ) (w : List (Mark Token)) → ends P ≡ true → Words P l d w → Ended w
ended p.nothing l d w e h = absurd (false≢true e)
ended (p.token x) l d w e (at, h) = record { front = []; last = _; joins = h; over = e }
ended (p.token_at at x) l d w e h = record { front = []; last = _; joins = h; over = e }
ended (P ▸ Q) l d w e (u, v, h, k, split) = let z = ended Q l d v e k in
    record { front = u ++ z.front; last = z.last; joins = split ∙ (ap (λ y. u ++ y) z.joins ∙ sym (append_assoc u z.front (z.last ∷ []))); over = z.over }
ended (P ∪ Q) l d w e (inl h) = ended P l d w (and_parts _ _ e).0 h
ended (P ∪ Q) l d w e (inr h) = ended Q l d w (and_parts _ _ e).1 h
ended (p.only b P) l d w e (is, h) = ended P l d w e h
ended (p.deeper P) l d w e h = ended P l (suc d) w e h
ended (p.from at P) l d w e (first, h) = ended P l d w e h

ends_within : (n : ℕ) (P : Phrase) → ends P ≡ true → ends (within n P) ≡ true
ends_within zero P e = e
ends_within (suc n) P e = ends_within n P e

ends_whole : (b : Part) → is_of f.condition_form b ≡ false → ends (whole b) ≡ true
ends_whole (f.condition_part x at) e = absurd (true≢false e)
ends_whole b e = refl

part_ended : (i : Form) (n l d : ℕ) (b : Part) (w : List (Mark Token)) → is_of f.condition_form b ≡ false → Words (formed i n b) l d w → Ended w
part_ended f.assignment_form n l d (f.action_part x at) w e (is, h) = ended (line n (f.action_part x at)) l d w refl h
part_ended f.assignment_form n l d b w e (is, h) = absurd (false≢true is)
part_ended f.keyword_form n l d (f.action_part x at) w e (is, h) = ended (line n (f.action_part x at)) l d w refl h
part_ended f.keyword_form n l d b w e (is, h) = absurd (false≢true is)
part_ended i n l d b w e (is, h) = ended (within n (whole b)) l d w (ends_within n (whole b) (ends_whole b e)) h

-- what stands behind the first tokens of a statement is of the statement
behind_first : (y : Token) (ts : List Token) → one_statement (y ∷ ts) ≡ true → one_statement ts ≡ true
behind_first y [] e = refl
behind_first y (z ∷ ts) e = by_test (is_over y) e
  where
    by_test : (b : Bool) → cond b false (one_statement (z ∷ ts)) ≡ true → one_statement (z ∷ ts) ≡ true
    by_test true e = absurd (false≢true e)
    by_test false e = e

pub behind_front : (f r : List Token) → one_statement (f ++ r) ≡ true → one_statement r ≡ true
behind_front [] r e = e
behind_front (y ∷ f) r e = behind_front f r (behind_first y (f ++ r) e)

-- and where its last token stands inside, it is none
not_inside : (f : List Token) (x y : Token) (r : List Token) → is_over x ≡ true → one_statement (f ++ x ∷ y ∷ r) ≡ true → ⊥
not_inside f x y r o e = false≢true (sym (ap (λ b. cond b false (one_statement (y ∷ r))) o) ∙ behind_front f (x ∷ y ∷ r) e)

module _ (limit : ℕ) (i : Place) (us : List Token) (b : Part) (y : Token) (r : List Token) (e : part_reader limit i us ≡ found b (y ∷ r)) (one : one_statement us ≡ true) where
  pub found_there : Finds (Part_at limit i) (part_reader limit i) us b (y ∷ r)
  found_there = subst (Tells (Part_at limit i) (part_reader limit i) us) e ((exact_part limit i).tells us)

  -- so what leaves something of its statement is a condition
  pub is_condition : is_of f.condition_form b ≡ true
  is_condition = elim (cases_Bool (is_of f.condition_form b)) [
    | inl t ↦ t
    | inr n ↦ (let z = part_ended i.form i.conditions limit i.level b found_there.word n found_there.is_word in
        let split : us ≡ bare z.front ++ z.last.token ∷ y ∷ r = found_there.split ∙ (ap (λ w. bare w ++ y ∷ r) z.joins ∙ (ap (λ w. w ++ y ∷ r) (bare_append z.front (z.last ∷ [])) ∙ append_assoc (bare z.front) (z.last.token ∷ []) (y ∷ r))) in
        absurd (not_inside (bare z.front) z.last.token y r z.over (subst (λ w. one_statement w ≡ true) split one)))
  ]

  pub left_of_statement : one_statement (y ∷ r) ≡ true
  left_of_statement = behind_front (bare found_there.word) (y ∷ r) (subst (λ w. one_statement w ≡ true) found_there.split one)
