-- The place told for the tokens of one statement is that which is told for the rest of a file.
use Rattle.std.proofs.Common.{◌≡◌, ℕ, zero, suc, ◌+◌, ◌-◌, Bool, true, cond, ◌||◌, max, List, [], ◌∷◌, ◌++◌, length, Option, Some, None, refl, ap, sym, ◌∙◌, subst, arith}
use Rattle.std.proofs.lemmas.Bool.{false≢true}
use Rattle.std.proofs.lemmas.List.{length-append}
use Rattle.reader_theory.specs.Words.{bare, expected, too_deep, Verdict, found, fault}
use Rattle.reader_theory.specs.Limits.{place_by, nearer, shifted}
use Rattle.reader_theory.specs.Exactness.{Tells, Sinks}
use Rattle.reader_theory.specs.Texts.{places, place_here}
use Rattle.fortran_grammar.specs.Tokens.{Token}
use Rattle.statement_reader.specs.Parts as f
use Rattle.statement_reader.specs.Parts.{Part, Form, is_of}
use Rattle.statement_reader.specs.Forms.{Place, part_reader}
use Rattle.statement_reader.specs.Laws.{Part_at}
use Rattle.statement_reader.proofs.Places.{exact_part}
use Rattle.program_reader.specs.Sequence as q
use Rattle.program_reader.specs.Sequence.{State, Scope, Open, forms, placed_at, allowed, action_forms, next}
use Rattle.refusal_reasons.specs.Reasons.{through, some_through, goes_from, levels_at, levels_before, out_of_reach, goes, place_at}
use Rattle.refusal_reasons.specs.Statements.{one_statement}
use Rattle.refusal_reasons.proofs.Behind.{actions_behind, one_goes, action_goes, statement_goes, nearest, place_behind, place_in}
use Rattle.refusal_reasons.proofs.Through.{shorter}
use Rattle.refusal_reasons.proofs.Endings.{is_condition, left_of_statement}

abbrev conditional : ℕ → Scope → List Open → State
conditional c k os = record { scope = k; blocks = os; conditions = suc c }

-- behind the condition of a one-line IF
behind_condition : (Q : State → Type 0) (s : State) (b : Part) → is_of f.condition_form b ≡ true → Q (conditional s.conditions (q.staged q.in_statements s.scope) s.blocks) → Q (next s b)
behind_condition Q s (f.condition_part x at) e h = h
behind_condition Q s b e h = absurd (false≢true e)

module _ (far : ℕ) where
  abbrev Same : ℕ → Type 0
  Same n = (c : ℕ) (k : Scope) (os : List Open) (us : List Token) → one_statement us ≡ true → goes_from far n (conditional c k os) us ≡ action_goes far (length os) n (suc c) us

  through_same : (n : ℕ) → Same n → (s : State) (i : Place) (us : List Token) → one_statement us ≡ true → through (λ b. goes_from far n (next s b)) (part_reader far i us) ≡ through (λ b. action_goes far (length s.blocks) n (suc s.conditions)) (part_reader far i us)
  through_same n same s i us one = by_answer (part_reader far i us) refl
    where
      by_answer : (v : Verdict Token Part) → part_reader far i us ≡ v → through (λ b. goes_from far n (next s b)) v ≡ through (λ b. action_goes far (length s.blocks) n (suc s.conditions)) v
      by_answer (found b []) e = refl
      by_answer (found b (y ∷ r)) e = behind_condition (λ t. goes_from far n t (y ∷ r) ≡ action_goes far (length s.blocks) n (suc s.conditions) (y ∷ r)) s b (is_condition far i us b y r e one)
          (same s.conditions (q.staged q.in_statements s.scope) s.blocks (y ∷ r) (left_of_statement far i us b y r e one))
      by_answer (fault c r) e = refl

  some_same : (n : ℕ) → Same n → (s : State) (us : List Token) → one_statement us ≡ true → (is : List Place) → some_through (goes_from far n) far s is us ≡ one_goes (action_goes far (length s.blocks) n (suc s.conditions)) far is us
  some_same n same s us one [] = refl
  some_same n same s us one (i ∷ is) = ap (λ z. z || some_through (goes_from far n) far s is us) (through_same n same s i us one) ∙ ap (λ z. through (λ b. action_goes far (length s.blocks) n (suc s.conditions)) (part_reader far i us) || z) (some_same n same s us one is)

  goes_same : (n : ℕ) → Same n
  goes_same zero c k os us one = refl
  goes_same (suc n) c k os us one = some_same n (goes_same n) (conditional c k os) us one (actions_behind (length os) (suc c))

abbrev placed : State → Form → Place
placed s i = record { form = i; level = length s.blocks; conditions = s.conditions }

same_goes : (s : State) (i : Form) (us : List Token) → one_statement us ≡ true → goes s (placed s i) us ≡ statement_goes (placed s i) us
same_goes s i us one =
    let far : out_of_reach s (placed s i) (length us) ≡ levels_before (placed s i) + length us = (let m : max (levels_before (placed s i)) (levels_at s) ≡ levels_before (placed s i) = omega arith in ap (λ n. n + length us) m) in
    ap (λ n. through (λ b. goes_from n (length us) (next s b)) (part_reader n (placed s i) us)) far ∙ through_same (levels_before (placed s i) + length us) (length us) (goes_same (levels_before (placed s i) + length us) (length us)) s (placed s i) us one

module _ (limit : ℕ) where
  abbrev here : ℕ → State → List Token → Option ℕ
  here n s us = place_here (part_reader limit) forms next goes n s us

  -- where there is no token none is too deep
  pub nothing_read : (g : Bool) (later : Part → List Token → Option ℕ) (i : Place) → place_by g [] later (part_reader limit i []) ≡ None
  nothing_read g later i = by_answer (part_reader limit i []) refl
    where
      no_sink : (r : List Token) → Sinks (Part_at limit i) (part_reader limit i) [] r → ⊥
      no_sink r t = absurd (let k = ap length (t.split ∙ ap (λ z. bare t.front ++ z) t.is_rest) ∙ length-append (bare t.front) (t.at.token ∷ t.behind) in omega arith)

      by_answer : (v : Verdict Token Part) → part_reader limit i [] ≡ v → place_by g [] later v ≡ None
      by_answer (found b r) e = absurd (let k = shorter limit i [] r b e in omega arith)
      by_answer (fault expected r) e = refl
      by_answer (fault too_deep r) e = absurd (no_sink r (subst (Tells (Part_at limit i) (part_reader limit i) []) e ((exact_part limit i).tells [])))

  none_here : (n : ℕ) (s : State) → here n s [] ≡ None
  none_here zero s = refl
  none_here (suc n) s = by_list (forms s)
    where
      by_list : (is : List Place) → places (part_reader limit) next goes (here n) s is [] ≡ None
      by_list [] = refl
      by_list (i ∷ is) = ap (λ z. nearer z (places (part_reader limit) next goes (here n) s is [])) (nothing_read (goes s i []) (λ b. here n (next s b)) i) ∙ by_list is

  pub none_behind : (level n c : ℕ) → place_behind limit level n c [] ≡ None
  none_behind level zero c = refl
  none_behind level (suc n) c = by_list (actions_behind level c)
    where
      by_list : (is : List Place) → nearest (place_behind limit level n (suc c)) limit is [] ≡ None
      by_list [] = refl
      by_list (i ∷ is) = ap (λ z. nearer z (nearest (place_behind limit level n (suc c)) limit is [])) (nothing_read (statement_goes i []) (λ b. place_behind limit level n (suc c)) i) ∙ by_list is

  abbrev Same_place : ℕ → Type 0
  Same_place n = (c : ℕ) (k : Scope) (os : List Open) (us : List Token) → one_statement us ≡ true → here n (conditional c k os) us ≡ place_behind limit (length os) n (suc c) us

  one_same : (n : ℕ) → Same_place n → (s : State) (i : Form) (us : List Token) → one_statement us ≡ true
      → place_by (goes s (placed s i) us) us (λ b. here n (next s b)) (part_reader limit (placed s i) us) ≡ place_by (statement_goes (placed s i) us) us (λ b. place_behind limit (length s.blocks) n (suc s.conditions)) (part_reader limit (placed s i) us)
  one_same n same s i us one = by_answer (part_reader limit (placed s i) us) refl
    where
      by_answer : (v : Verdict Token Part) → part_reader limit (placed s i) us ≡ v → place_by (goes s (placed s i) us) us (λ b. here n (next s b)) v ≡ place_by (statement_goes (placed s i) us) us (λ b. place_behind limit (length s.blocks) n (suc s.conditions)) v
      by_answer (found b []) e = ap (shifted (length us - 0)) (none_here n (next s b) ∙ sym (none_behind (length s.blocks) n (suc s.conditions)))
      by_answer (found b (y ∷ r)) e = ap (shifted (length us - length (y ∷ r))) (behind_condition (λ t. here n t (y ∷ r) ≡ place_behind limit (length s.blocks) n (suc s.conditions) (y ∷ r)) s b (is_condition limit (placed s i) us b y r e one)
          (same s.conditions (q.staged q.in_statements s.scope) s.blocks (y ∷ r) (left_of_statement limit (placed s i) us b y r e one)))
      by_answer (fault expected r) e = refl
      by_answer (fault too_deep r) e = ap (λ g. cond g (Some (length us - length r)) None) (same_goes s i us one)

  all_same : (n : ℕ) → Same_place n → (s : State) (us : List Token) → one_statement us ≡ true → (is : List Form)
      → places (part_reader limit) next goes (here n) s (placed_at (length s.blocks) s.conditions is) us ≡ nearest (place_behind limit (length s.blocks) n (suc s.conditions)) limit (placed_at (length s.blocks) s.conditions is) us
  all_same n same s us one [] = refl
  all_same n same s us one (i ∷ is) = ap (λ z. nearer z (places (part_reader limit) next goes (here n) s (placed_at (length s.blocks) s.conditions is) us)) (one_same n same s i us one)
      ∙ ap (λ z. nearer (place_by (statement_goes (placed s i) us) us (λ b. place_behind limit (length s.blocks) n (suc s.conditions)) (part_reader limit (placed s i) us)) z) (all_same n same s us one is)

  same_place : (n : ℕ) → Same_place n
  same_place zero c k os us one = refl
  same_place (suc n) c k os us one = all_same n (same_place n) (conditional c k os) us one action_forms

  pub place_of_statement : (s : State) (us : List Token) → one_statement us ≡ true → place_at limit s us ≡ place_in limit s us
  place_of_statement s [] one = refl
  place_of_statement s (y ∷ us) one = all_same (length us) (same_place (length us)) s (y ∷ us) one (allowed s)
