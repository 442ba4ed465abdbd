-- The place told by the levels that are left.
use Rattle.std.proofs.Common.{◌≡◌, ℕ, zero, suc, ◌+◌, ◌-◌, ◌≤◌, true, cond, ◌||◌, List, [], ◌∷◌, length, nat_lt, codes, Some, None, inl, inr, refl, ap, sym, ◌∙◌, subst, arith}
use Rattle.std.proofs.lemmas.Bool.{cases_Bool, false≢true, true≢false, le-ltb, ltb-true, ltb-false}
use Rattle.reader_theory.specs.Words.{Mark, Shallow, expected, too_deep, Verdict, found, fault}
use Rattle.reader_theory.specs.Limits.{place_by, nearer, shifted}
use Rattle.reader_theory.specs.Readers.{sunk}
use Rattle.fortran_grammar.specs.Tokens.{Token}
use Rattle.fortran_grammar.specs.Phrases as p
use Rattle.fortran_grammar.specs.Phrases.{Words, ◌▸◌}
use Rattle.fortran_grammar.specs.ExpressionGrammar as g
use Rattle.statement_reader.specs.Parts as f
use Rattle.statement_reader.specs.Parts.{Part, Form, is_of, whole, within, formed}
use Rattle.statement_reader.specs.Forms.{Place, form_reader, begins_form, part_reader}
use Rattle.statement_reader.proofs.Forms.{within_out}
use Rattle.statement_reader.proofs.Beyond.{AllDeep, deep_words}
use Rattle.program_reader.proofs.Files.{part_longer}
use Rattle.reader_theory.proofs.Marks.{bare_length}
use Rattle.program_reader.specs.Sequence.{State, placed_at, allowed, action_forms}
use Rattle.refusal_reasons.specs.Reasons.{through, levels_before, place_at}
use Rattle.refusal_reasons.specs.Statements.{one_statement}
use Rattle.refusal_reasons.proofs.Behind.{one_goes, action_goes, statement_goes, nearest, place_behind, place_in, form_before, nearest_form, action_before, statement_before}
use Rattle.refusal_reasons.specs.Statements.{forms_go, action_goes_on, form_goes}
use Rattle.refusal_reasons.proofs.Through.{shorter}
use Rattle.refusal_reasons.proofs.Endings.{found_there, is_condition, left_of_statement}
use Rattle.refusal_reasons.proofs.Statements.{nothing_read, none_behind, place_of_statement}

-- a condition is read only where a level is left for it
not_deep : (w : List (Mark Token)) → 1 ≤ length w → AllDeep w → Shallow w → ⊥
not_deep [] l d s = absurd (omega arith)
not_deep (m ∷ w) l d s = true≢false (sym d.0 ∙ s.0)

condition_deep : (i : Form) (n l d : ℕ) (b : Part) (w : List (Mark Token)) → is_of f.condition_form b ≡ true → l ≤ n + d → Words (formed i n b) l d w → AllDeep w
condition_deep f.condition_form n l d (f.condition_part x at) w e le (is, h) = beyond (within_out n (whole (f.condition_part x at)) l d w h)
  where
    beyond : Words (whole (f.condition_part x at)) l (n + d) w → AllDeep w
    beyond (first, k) = deep_words (p.key (codes "if") ▸ p.round (g.expr x)) l (suc (n + d)) w (omega arith) k
condition_deep i n l d (f.condition_part x at) w e le h = absurd (false≢true h.0)
condition_deep i n l d b w e le h = absurd (false≢true e)

level_left : (limit : ℕ) (i : Place) (us : List Token) (b : Part) (y : Token) (r : List Token) → part_reader limit i us ≡ found b (y ∷ r) → one_statement us ≡ true → suc (levels_before i) ≤ limit
level_left limit i us b y r e one = elim (cases_Bool (nat_lt (levels_before i) limit)) [
  | inl t ↦ ltb-true (levels_before i) limit t
  | inr n ↦ (let z = found_there limit i us b y r e one in
      let deep = condition_deep i.form i.conditions limit i.level b z.word (is_condition limit i us b y r e one) (ltb-false (levels_before i) limit n) z.is_word in
      absurd (not_deep z.word (subst (λ k. 1 ≤ k) (bare_length z.word) (part_longer limit i b z.word z.is_word)) deep z.shallow))
]

-- the reader of a form by the levels that are left at its place
pub reader_left : (limit left : ℕ) (i : Place) (us : List Token) → levels_before i + left ≡ limit → part_reader limit i us ≡ form_reader i.form left us
reader_left limit left i us e = ap (λ b. cond b (sunk (begins_form i.form)) (form_reader i.form (limit - levels_before i)) us) (le-ltb limit (levels_before i) (omega arith)) ∙ ap (λ n. form_reader i.form n us) (let k : limit - levels_before i ≡ left = omega arith in k)

abbrev pub placed : ℕ → ℕ → Form → Place
placed level c i = record { form = i; level = level; conditions = c }

-- Whether an action goes through.
abbrev Same : ℕ → Type 0
Same left = (limit level c n : ℕ) (us : List Token) → (c + level) + left ≡ limit → 1 ≤ length us → length us ≤ n → one_statement us ≡ true → action_goes limit level n c us ≡ action_goes_on (suc left) us

abbrev Earlier : (ℕ → Type 0) → ℕ → Type 0
Earlier Q left = (l : ℕ) → left ≡ suc l → Q l

through_left : (left : ℕ) → Earlier Same left → (limit level c n : ℕ) (i : Form) (us : List Token) → (c + level) + left ≡ limit → length us ≤ suc n → one_statement us ≡ true
    → through (λ b. action_goes limit level n (suc c)) (part_reader limit (placed level c i) us) ≡ through (λ b. action_goes_on left) (form_reader i left us)
through_left left earlier limit level c n i us e size one = by_answer (part_reader limit (placed level c i) us) refl ∙ ap (through (λ b. action_goes_on left)) (reader_left limit left (placed level c i) us e)
  where
    by_left : (k : ℕ) → left ≡ k → (b : Part) (y : Token) (r : List Token) → part_reader limit (placed level c i) us ≡ found b (y ∷ r) → action_goes limit level n (suc c) (y ∷ r) ≡ action_goes_on k (y ∷ r)
    by_left zero is b y r h = absurd (let z = level_left limit (placed level c i) us b y r h one in omega arith)
    by_left (suc l) is b y r h = earlier l is limit level (suc c) n (y ∷ r) (omega arith) (omega arith) (let z = shorter limit (placed level c i) us (y ∷ r) b h in omega arith) (left_of_statement limit (placed level c i) us b y r h one)

    by_answer : (v : Verdict Token Part) → part_reader limit (placed level c i) us ≡ v → through (λ b. action_goes limit level n (suc c)) v ≡ through (λ b. action_goes_on left) v
    by_answer (found b []) h = refl
    by_answer (found b (y ∷ r)) h = by_left left refl b y r h
    by_answer (fault k r) h = refl

all_go : (left : ℕ) → Earlier Same left → (limit level c n : ℕ) (us : List Token) → (c + level) + left ≡ limit → length us ≤ suc n → one_statement us ≡ true → (is : List Form)
    → one_goes (action_goes limit level n (suc c)) limit (placed_at level c is) us ≡ forms_go (action_goes_on left) left is us
all_go left earlier limit level c n us e size one [] = refl
all_go left earlier limit level c n us e size one (i ∷ is) = ap (λ z. z || one_goes (action_goes limit level n (suc c)) limit (placed_at level c is) us) (through_left left earlier limit level c n i us e size one)
    ∙ ap (λ z. through (λ b. action_goes_on left) (form_reader i left us) || z) (all_go left earlier limit level c n us e size one is)

action_same : (left : ℕ) → Earlier Same left → Same left
action_same left earlier limit level c zero us e some size one = absurd (omega arith)
action_same left earlier limit level c (suc n) us e some size one = all_go left earlier limit level c n us e size one action_forms

none_earlier : (Q : ℕ → Type 0) → Earlier Q 0
none_earlier Q l e = absurd (cc)

one_earlier : (Q : ℕ → Type 0) (left : ℕ) → Q left → Earlier Q (suc left)
one_earlier Q left q l e = subst Q (let k : left ≡ l = omega arith in k) q

same : (left : ℕ) → Same left
same zero = action_same 0 (none_earlier Same)
same (suc left) = action_same (suc left) (one_earlier Same left (same left))

goes_left : (level c : ℕ) (i : Form) (us : List Token) → one_statement us ≡ true → statement_goes (placed level c i) us ≡ form_goes (length us) i us
goes_left level c i us one = through_left (length us) (λ l e. same l) ((c + level) + length us) level c (length us) i us refl (omega arith) one

-- The place.
none_left : (left : ℕ) → action_before left [] ≡ None
none_left zero = refl
none_left (suc left) = by_list action_forms
  where
    by_list : (is : List Form) → nearest_form (action_before left) left is [] ≡ None
    by_list [] = refl
    by_list (i ∷ is) = ap (λ z. nearer z (nearest_form (action_before left) left is []))
        (ap (place_by (form_goes 0 i []) [] (λ b. action_before left)) (sym (reader_left left left (placed 0 0 i) [] (omega arith))) ∙ nothing_read left (form_goes 0 i []) (λ b. action_before left) (placed 0 0 i)) ∙ by_list is

none_of_forms : (left : ℕ) (is : List Form) → statement_before left is [] ≡ None
none_of_forms left [] = refl
none_of_forms left (i ∷ is) = ap (λ z. nearer z (statement_before left is []))
    (ap (place_by (form_goes 0 i []) [] (λ b. action_before left)) (sym (reader_left left left (placed 0 0 i) [] (omega arith))) ∙ nothing_read left (form_goes 0 i []) (λ b. action_before left) (placed 0 0 i)) ∙ none_of_forms left is

abbrev Placed : ℕ → Type 0
Placed left = (limit level c n : ℕ) (us : List Token) → (c + level) + left ≡ limit → 1 ≤ length us → length us ≤ n → one_statement us ≡ true → place_behind limit level n c us ≡ action_before (suc left) us

place_left : (left : ℕ) → Earlier Placed left → (limit level c n : ℕ) (i : Form) (us : List Token) → (c + level) + left ≡ limit → length us ≤ suc n → one_statement us ≡ true
    → place_by (statement_goes (placed level c i) us) us (λ b. place_behind limit level n (suc c)) (part_reader limit (placed level c i) us) ≡ form_before (action_before left) left i us
place_left left earlier limit level c n i us e size one = by_answer (part_reader limit (placed level c i) us) refl ∙ ap (place_by (form_goes (length us) i us) us (λ b. action_before left)) (reader_left limit left (placed level c i) us e)
  where
    by_left : (k : ℕ) → left ≡ k → (b : Part) (y : Token) (r : List Token) → part_reader limit (placed level c i) us ≡ found b (y ∷ r) → place_behind limit level n (suc c) (y ∷ r) ≡ action_before k (y ∷ r)
    by_left zero is b y r h = absurd (let z = level_left limit (placed level c i) us b y r h one in omega arith)
    by_left (suc l) is b y r h = earlier l is limit level (suc c) n (y ∷ r) (omega arith) (omega arith) (let z = shorter limit (placed level c i) us (y ∷ r) b h in omega arith) (left_of_statement limit (placed level c i) us b y r h one)

    by_answer : (v : Verdict Token Part) → part_reader limit (placed level c i) us ≡ v → place_by (statement_goes (placed level c i) us) us (λ b. place_behind limit level n (suc c)) v ≡ place_by (form_goes (length us) i us) us (λ b. action_before left) v
    by_answer (found b []) h = ap (shifted (length us - 0)) (none_behind limit level n (suc c) ∙ sym (none_left left))
    by_answer (found b (y ∷ r)) h = ap (shifted (length us - length (y ∷ r))) (by_left left refl b y r h)
    by_answer (fault expected r) h = refl
    by_answer (fault too_deep r) h = ap (λ z. cond z (Some (length us - length r)) None) (goes_left level c i us one)

all_placed : (left : ℕ) → Earlier Placed left → (limit level c n : ℕ) (us : List Token) → (c + level) + left ≡ limit → length us ≤ suc n → one_statement us ≡ true → (is : List Form)
    → nearest (place_behind limit level n (suc c)) limit (placed_at level c is) us ≡ nearest_form (action_before left) left is us
all_placed left earlier limit level c n us e size one [] = refl
all_placed left earlier limit level c n us e size one (i ∷ is) = ap (λ z. nearer z (nearest (place_behind limit level n (suc c)) limit (placed_at level c is) us)) (place_left left earlier limit level c n i us e size one)
    ∙ ap (nearer (form_before (action_before left) left i us)) (all_placed left earlier limit level c n us e size one is)

action_befored : (left : ℕ) → Earlier Placed left → Placed left
action_befored left earlier limit level c zero us e some size one = absurd (omega arith)
action_befored left earlier limit level c (suc n) us e some size one = all_placed left earlier limit level c n us e size one action_forms

placed_same : (left : ℕ) → Placed left
placed_same zero = action_befored 0 (none_earlier Placed)
placed_same (suc left) = action_befored (suc left) (one_earlier Placed left (placed_same left))

place_in_left : (limit left : ℕ) (s : State) (us : List Token) → one_statement us ≡ true → (s.conditions + length s.blocks) + left ≡ limit → place_in limit s us ≡ statement_before left (allowed s) us
place_in_left limit left s [] one e = sym (none_of_forms left (allowed s))
place_in_left limit left s (y ∷ us) one e = all_placed left (λ l k. placed_same l) limit (length s.blocks) s.conditions (length us) (y ∷ us) e (omega arith) one (allowed s)

pub place_by_left : (limit left : ℕ) (s : State) (us : List Token) → one_statement us ≡ true → (s.conditions + length s.blocks) + left ≡ limit → place_at limit s us ≡ statement_before left (allowed s) us
place_by_left limit left s us one e = place_of_statement limit s us one ∙ place_in_left limit left s us one e
