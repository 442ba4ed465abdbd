-- Behind the condition of a one-line IF an action stands; where IF with THEN is read from the same tokens, none does.
use Rattle.std.proofs.Common.{◌≡◌, ℕ, zero, suc, ◌+◌, ◌-◌, ◌≤◌, Bool, true, false, cond, nat_lt, codes, List, [], ◌∷◌, length, inl, inr, refl, ap, sym, ◌∙◌, subst, arith}
use Rattle.std.proofs.lemmas.Bool.{cases_Bool, true≢false, false≢true}
use Rattle.caf_base.specs.declared.place.Pos.{Pos}
use Rattle.reader_theory.specs.Words.{Mark, expected, too_deep, found, fault}
use Rattle.reader_theory.specs.Readers.{sunk}
use Rattle.fortran_grammar.specs.Tokens as t
use Rattle.fortran_grammar.specs.Tokens.{Tok, Token}
use Rattle.fortran_grammar.specs.Phrases.{Words}
use Rattle.expr_reader.specs.Reading.{tier}
use Rattle.expr_reader.specs.Tests.{is_word}
use Rattle.statement_reader.specs.Parts as f
use Rattle.statement_reader.specs.Parts.{Part, Form, is_of, formed}
use Rattle.statement_reader.specs.Forms.{form_reader, first_keys, begins_form, part_reader}
use Rattle.statement_reader.proofs.Eaten.{by_keys}
use Rattle.action_reader.specs.Beginnings.{begins}
use Rattle.program_reader.specs.Sequence as q
use Rattle.program_reader.specs.Sequence.{State, action_forms, allowed, next, rest_reader}
use Rattle.program_reader.proofs.Steps.{In}
use Rattle.sequence_reader.specs.Answers.{Answer, stopped, answer_of, better, behind_part, placed, goes, follow, Among, Came}
use Rattle.sequence_reader.proofs.Better.{Late, late_stop, late_better, late_part, late_loses, late_loses_first, better_same, Within, part_within}
use Rattle.sequence_reader.proofs.Together.{is_condition, then_behind, found_word, Beside, same, then_first, condition_first, beside}
use Rattle.sequence_reader.proofs.Gathering.{not_begun, place_gathered, end_answered, rest_within, shorter}

-- an action begins with a word
no_action : (i : Form) (y : Token) → Among i action_forms → is_word y ≡ false → begins_form i y ≡ false
no_action f.assignment_form y m e = e
no_action i y (inl k) e = subst (λ z. begins_form z y ≡ false) (sym k) e
no_action i y (inr (inl k)) e = subst (λ z. begins_form z y ≡ false) (sym k) (no_key (begins_form f.keyword_form y) refl)
  where
    no_key : (b : Bool) → begins_form f.keyword_form y ≡ b → begins_form f.keyword_form y ≡ false
    no_key false h = h
    no_key true h = absurd (true≢false (sym (by_keys (first_keys f.keyword_form) (λ k. is_word (record { tok = k; at = y.at }) ≡ true) (refl, (refl, (refl, (refl, (refl, (refl, (refl, (refl, (refl, (refl, (refl, (refl, (refl, (refl, (refl, (refl, tt)))))))))))))))) y h) ∙ e))
no_action i y (inr (inr (inl k))) e = subst (λ z. begins_form z y ≡ false) (sym k) (no_key (begins_form f.condition_form y) refl)
  where
    no_key : (b : Bool) → begins_form f.condition_form y ≡ b → begins_form f.condition_form y ≡ false
    no_key false h = h
    no_key true h = absurd (true≢false (sym (by_keys (first_keys f.condition_form) (λ k. is_word (record { tok = k; at = y.at }) ≡ true) (refl, tt) y h) ∙ e))
no_action i y (inr (inr (inr m))) e = absurd m

-- three equal answers
all_same : (v a b c : Answer) → a ≡ v → b ≡ v → c ≡ v → better (better (better v a) b) c ≡ v
all_same v a b c h i j =
    ap (λ z. better (better (better v z) b) c) h ∙ (ap (λ z. better (better z b) c) (better_same v) ∙ (ap (λ z. better (better v z) c) i ∙ (ap (λ z. better z c) (better_same v) ∙ (ap (better v) j ∙ better_same v))))

module _ (limit : ℕ) where
  -- where no word stands, reading stops there
  action_stops : (n : ℕ) (s : State) (i : Form) (y : Token) (ts : List Token) → Among i action_forms → is_word y ≡ false → follow limit n s (part_reader limit (placed s i) (y ∷ ts)) ≡ stopped expected (length (y ∷ ts))
  action_stops n s i y ts m e = ap (follow limit n s) (not_begun limit (placed s i) y ts (no_action i y m e))

  behind_condition : (n k : ℕ) (u : q.Scope) (os : List q.Open) (y : Token) (ts : List Token) → length (y ∷ ts) ≤ suc n → is_word y ≡ false → answer_of (rest_reader limit (suc n) (record { scope = u; blocks = os; conditions = suc k }) (y ∷ ts)) ≡ stopped expected (length (y ∷ ts))
  behind_condition n k u os y ts l e =
      let s : State = record { scope = u; blocks = os; conditions = suc k } in
      place_gathered limit n s y ts l
      ∙ all_same (stopped expected (length (y ∷ ts))) (follow limit n s (part_reader limit (placed s f.assignment_form) (y ∷ ts))) (follow limit n s (part_reader limit (placed s f.keyword_form) (y ∷ ts))) (follow limit n s (part_reader limit (placed s f.condition_form) (y ∷ ts)))
      (action_stops n s f.assignment_form y ts (inl refl) e) (action_stops n s f.keyword_form y ts (inr (inl refl)) e) (action_stops n s f.condition_form y ts (inr (inr (inl refl))) e)

  pub condition_stops : (n : ℕ) (s : State) (b : Part) (r : List Token) → is_of f.condition_form b ≡ true → begins is_word r ≡ false → length r ≤ n → goes limit n s b r ≡ stopped expected (length r)
  condition_stops n s (f.condition_part e at) [] h k l = ap (behind_part (f.condition_part e at)) (end_answered limit n (next s (f.condition_part e at)))
  condition_stops zero s (f.condition_part e at) (y ∷ r) h k l = absurd (omega arith)
  condition_stops (suc n) s (f.condition_part e at) (y ∷ r) h k l = ap (behind_part (f.condition_part e at)) (behind_condition n s.conditions (q.staged q.in_statements s.scope) s.blocks y r l k)
  condition_stops n s b r h k l = absurd (false≢true h)

-- THEN and the end of a statement are no action
abbrev then_at : Pos → Token
then_at at = record { tok = t.word (codes "then"); at = at }

abbrev over_at : Pos → Token
over_at at = record { tok = t.over; at = at }

then_assigned : (left : ℕ) (at there : Pos) (x : List Token) → form_reader f.assignment_form left (then_at at ∷ over_at there ∷ x) ≡ fault expected (over_at there ∷ x)
unfolding tier
then_assigned zero at there x = refl
then_assigned (suc zero) at there x = refl
then_assigned (suc (suc left)) at there x = refl

module _ (limit : ℕ) where
  then_late : (n : ℕ) (s : State) (at there : Pos) (x : List Token) → Late (length x) (follow limit n s (part_reader limit (placed s f.assignment_form) (then_at at ∷ over_at there ∷ x)))
  then_late n s at there x = elim (cases_Bool (nat_lt limit (s.conditions + length s.blocks))) [
    | inl k ↦ subst (λ b. Late (length x) (follow limit n s (cond b (sunk is_word) (form_reader f.assignment_form (limit - (s.conditions + length s.blocks))) (then_at at ∷ over_at there ∷ x)))) (sym k)
        (late_stop (length x) too_deep (length (then_at at ∷ over_at there ∷ x)) (omega arith))
    | inr k ↦ subst (λ b. Late (length x) (follow limit n s (cond b (sunk is_word) (form_reader f.assignment_form (limit - (s.conditions + length s.blocks))) (then_at at ∷ over_at there ∷ x)))) (sym k)
        (subst (λ v. Late (length x) (follow limit n s v)) (sym (then_assigned (limit - (s.conditions + length s.blocks)) at there x)) (late_stop (length x) expected (length (over_at there ∷ x)) (omega arith)))
  ]

  other_late : (n : ℕ) (s : State) (i : Form) (at there : Pos) (x : List Token) → begins_form i (then_at at) ≡ false → Late (length x) (follow limit n s (part_reader limit (placed s i) (then_at at ∷ over_at there ∷ x)))
  other_late n s i at there x e = subst (λ v. Late (length x) (follow limit n s v)) (sym (not_begun limit (placed s i) (then_at at) (over_at there ∷ x) e)) (late_stop (length x) expected (length (then_at at ∷ over_at there ∷ x)) (omega arith))

  rest_late : (n k : ℕ) (u : q.Scope) (os : List q.Open) (at there : Pos) (x : List Token) → length (then_at at ∷ over_at there ∷ x) ≤ suc n → Late (length x) (answer_of (rest_reader limit (suc n) (record { scope = u; blocks = os; conditions = suc k }) (then_at at ∷ over_at there ∷ x)))
  rest_late n k u os at there x l =
      let s : State = record { scope = u; blocks = os; conditions = suc k } in
      let ts : List Token = then_at at ∷ over_at there ∷ x in
      subst (Late (length x)) (sym (place_gathered limit n s (then_at at) (over_at there ∷ x) l))
      (late_better (length x) (better (better (stopped expected (length ts)) (follow limit n s (part_reader limit (placed s f.assignment_form) ts))) (follow limit n s (part_reader limit (placed s f.keyword_form) ts))) (follow limit n s (part_reader limit (placed s f.condition_form) ts))
      (late_better (length x) (better (stopped expected (length ts)) (follow limit n s (part_reader limit (placed s f.assignment_form) ts))) (follow limit n s (part_reader limit (placed s f.keyword_form) ts))
      (late_better (length x) (stopped expected (length ts)) (follow limit n s (part_reader limit (placed s f.assignment_form) ts))
      (late_stop (length x) expected (length ts) (omega arith)) (then_late n s at there x)) (other_late n s f.keyword_form at there x refl)) (other_late n s f.condition_form at there x refl))

  goes_late : (n : ℕ) (s : State) (b : Part) (at there : Pos) (x : List Token) → is_of f.condition_form b ≡ true → length (then_at at ∷ over_at there ∷ x) ≤ n → Late (length x) (goes limit n s b (then_at at ∷ over_at there ∷ x))
  goes_late zero s b at there x e l = absurd (omega arith)
  goes_late (suc n) s (f.condition_part e at2) at there x h l = late_part (length x) (f.condition_part e at2) (answer_of (rest_reader limit (suc n) (next s (f.condition_part e at2)) (then_at at ∷ over_at there ∷ x))) (rest_late n s.conditions (q.staged q.in_statements s.scope) s.blocks at there x l)
  goes_late (suc n) s b at there x h l = absurd (false≢true h)

  among_in : (i : Form) (is : List Form) → Among i is → In i is
  among_in i [] m = m
  among_in i (j ∷ is) (inl e) = inl e
  among_in i (j ∷ is) (inr m) = inr (among_in i is m)

  goes_within : (n : ℕ) (s : State) (b : Part) (r : List Token) → length r ≤ n → Within (length r) (goes limit n s b r)
  goes_within n s b r l = part_within (length r) b (answer_of (rest_reader limit n (next s b) r)) (rest_within limit n (next s b) r l)

  -- of which form a part is
  pub has_form : (s : State) (i : Form) (ts : List Token) (b : Part) (r : List Token) → part_reader limit (placed s i) ts ≡ found b r → is_of i b ≡ true
  has_form s i ts b r e = let h = found_word limit (placed s i) ts b r e in by_form i h.word h.is_word
    where
      by_form : (j : Form) (w : List (Mark Token)) → Words (formed j s.conditions b) limit (length s.blocks) w → is_of j b ≡ true
      by_form f.assignment_form w o = o.0
      by_form f.keyword_form w o = o.0
      by_form j w o = o.0

  condition_is : (i : Form) (b : Part) → is_of i b ≡ true → is_condition i ≡ true → is_of f.condition_form b ≡ true
  condition_is f.condition_form b h e = h
  condition_is i b h e = absurd (false≢true e)

  word_behind : (s : State) (ts : List Token) (b : Part) (r : List Token) (k : Came limit s ts b r) → is_condition k.form ≡ true → begins is_word r ≡ true
  word_behind s ts b r k e = k.word (condition_is k.form b (has_form s k.form ts b r k.reads) e)

  -- IF with THEN has the better answer than its condition before an action
  module _ (n : ℕ) (s : State) (ts : List Token) (enough : length ts ≤ suc n) (b c : Part) (x y : List Token) (one : part_reader limit (placed s f.if_form) ts ≡ found b x) (two : part_reader limit (placed s f.condition_form) ts ≡ found c y) (word : begins is_word y ≡ true) where
    condition_late : Late (length x) (goes limit n s c y)
    condition_late =
        let h = found_word limit (placed s f.if_form) ts b x one in
        let k = found_word limit (placed s f.condition_form) ts c y two in
        let z = then_behind limit s b c h.word k.word x y h.is_word k.is_word word (sym h.split ∙ k.split) in
        let short = shorter limit (placed s f.condition_form) ts c y two in
        let fits : length (then_at z.0 ∷ over_at z.1 ∷ x) ≤ n = (let e = ap length z.2 in omega arith) in
        subst (λ r. Late (length x) (goes limit n s c r)) (sym z.2) (goes_late n s c z.0 z.1 x (has_form s f.condition_form ts c y two) fits)

    pub then_wins : better (goes limit n s b x) (goes limit n s c y) ≡ goes limit n s b x
    then_wins = let short = shorter limit (placed s f.if_form) ts b x one in late_loses (length x) (goes limit n s b x) (goes limit n s c y) (goes_within n s b x (omega arith)) condition_late

    pub then_wins_first : better (goes limit n s c y) (goes limit n s b x) ≡ goes limit n s b x
    then_wins_first = let short = shorter limit (placed s f.if_form) ts b x one in late_loses_first (length x) (goes limit n s b x) (goes limit n s c y) (goes_within n s b x (omega arith)) condition_late

  -- two parts that a place allows and that are read from one text: the one that is no condition of a one-line IF has
  -- the better answer
  module _ (n : ℕ) (s : State) (ts : List Token) (enough : length ts ≤ suc n) (b c : Part) (x y : List Token) (h : Came limit s ts b x) (k : Came limit s ts c y) where
    beside_both : Beside h.form k.form
    beside_both = beside limit s ts h.form k.form (among_in h.form (allowed s) h.may) (among_in k.form (allowed s) k.may) b c x y h.reads k.reads (word_behind s ts b x h) (word_behind s ts c y k)

    same_goes : h.form ≡ k.form → goes limit n s c y ≡ goes limit n s b x
    same_goes e = ap (follow limit n s) (sym k.reads ∙ (ap (λ i. part_reader limit (placed s i) ts) (sym e) ∙ h.reads))

    not_condition : (i : Form) → is_of f.condition_form b ≡ false → is_of i b ≡ true → i ≡ f.condition_form → ⊥
    not_condition i e g is = true≢false (sym (subst (λ z. is_of z b ≡ true) is g) ∙ e)

    not_if : (i : Form) (d : Part) → is_of f.condition_form d ≡ true → is_of i d ≡ true → i ≡ f.if_form → ⊥
    not_if i d e g is = by_part d e (subst (λ z. is_of z d ≡ true) is g)
      where
        by_part : (d : Part) → is_of f.condition_form d ≡ true → is_of f.if_form d ≡ true → ⊥
        by_part (f.condition_part z at) e g = false≢true g
        by_part d e g = false≢true e

    -- the first is kept
    pub first_kept : is_of f.condition_form b ≡ false → better (goes limit n s b x) (goes limit n s c y) ≡ goes limit n s b x
    first_kept un = by_beside beside_both
      where
        by_beside : Beside h.form k.form → better (goes limit n s b x) (goes limit n s c y) ≡ goes limit n s b x
        by_beside (same e) = ap (better (goes limit n s b x)) (same_goes e) ∙ better_same (goes limit n s b x)
        by_beside (then_first e g) =
            let two : part_reader limit (placed s f.condition_form) ts ≡ found c y = subst (λ i. part_reader limit (placed s i) ts ≡ found c y) g k.reads in
            then_wins n s ts enough b c x y (subst (λ i. part_reader limit (placed s i) ts ≡ found b x) e h.reads) two (k.word (has_form s f.condition_form ts c y two))
        by_beside (condition_first e g) = absurd (not_condition h.form un (has_form s h.form ts b x h.reads) e)

    -- the second takes its place
    pub second_taken : is_of f.condition_form b ≡ true → better (goes limit n s b x) (goes limit n s c y) ≡ goes limit n s c y
    second_taken is_c = by_beside beside_both
      where
        by_beside : Beside h.form k.form → better (goes limit n s b x) (goes limit n s c y) ≡ goes limit n s c y
        by_beside (same e) = ap (λ z. better z (goes limit n s c y)) (sym (same_goes e)) ∙ better_same (goes limit n s c y)
        by_beside (then_first e g) = absurd (not_if h.form b is_c (has_form s h.form ts b x h.reads) e)
        by_beside (condition_first e g) =
            let one : part_reader limit (placed s f.if_form) ts ≡ found c y = subst (λ i. part_reader limit (placed s i) ts ≡ found c y) g k.reads in
            let two : part_reader limit (placed s f.condition_form) ts ≡ found b x = subst (λ i. part_reader limit (placed s i) ts ≡ found b x) e h.reads in
            then_wins_first n s ts enough c b y x one two (h.word is_c)
