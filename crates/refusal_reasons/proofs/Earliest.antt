-- The place of a statement, told from its end.
use Rattle.std.proofs.Common.{◌≡◌, ℕ, zero, suc, ◌+◌, ◌-◌, ◌≤◌, min, max, Bool, true, false, cond, List, [], ◌∷◌, length, Option, Some, None, refl, ap, ◌∙◌, subst, arith}
use Rattle.std.proofs.lemmas.List.{length-append}
use Rattle.reader_theory.specs.Words.{bare, expected, too_deep, Verdict, found, fault}
use Rattle.reader_theory.specs.Limits.{place_by, nearer, shifted}
use Rattle.reader_theory.specs.Readers.{rest_of}
use Rattle.reader_theory.specs.Exactness.{Tells}
use Rattle.fortran_grammar.specs.Tokens.{Token}
use Rattle.statement_reader.specs.Parts.{Part, Form}
use Rattle.statement_reader.specs.Forms.{form_reader, part_reader}
use Rattle.statement_reader.specs.Laws.{Part_at}
use Rattle.statement_reader.proofs.Places.{exact_part}
use Rattle.program_reader.specs.Sequence.{State, allowed, action_forms}
use Rattle.refusal_reasons.specs.Reasons.{levels_at, place_at}
use Rattle.refusal_reasons.specs.Statements.{one_statement, form_goes, place_from, form_place, earlier, earliest, action_place, statement_place, before}
use Rattle.refusal_reasons.proofs.Behind.{form_before, nearest_form, action_before}
use Rattle.refusal_reasons.proofs.Left.{placed, reader_left, place_by_left}

-- no answer leaves more than there was
pub no_more : (i : Form) (left : ℕ) (us : List Token) (v : Verdict Token Part) → form_reader i left us ≡ v → length (rest_of v) ≤ length us
no_more i left us v e = by_answer v (subst (λ z. Tells (Part_at left (placed 0 0 i)) (part_reader left (placed 0 0 i)) us z) (reader_left left left (placed 0 0 i) us (omega arith) ∙ e) ((exact_part left (placed 0 0 i)).tells us))
  where
    by_answer : (v : Verdict Token Part) → Tells (Part_at left (placed 0 0 i)) (part_reader left (placed 0 0 i)) us v → length (rest_of v) ≤ length us
    by_answer (found b r) t = let l = ap length t.split ∙ length-append (bare t.word) r in omega arith
    by_answer (fault expected r) t = let l = ap length t.split ∙ length-append (bare t.front) r in omega arith
    by_answer (fault too_deep r) t = let l = ap length t.split ∙ length-append (bare t.front) r in omega arith

-- the place is one of these tokens, or just behind them
abbrev pub Within : ℕ → Option ℕ → Type 0
Within n None = Unit {0}
Within n (Some k) = k ≤ n

within_more : (n m : ℕ) (o : Option ℕ) → n ≤ m → Within n o → Within m o
within_more n m None l h = tt
within_more n m (Some k) l h = omega arith

within_earlier : (n : ℕ) (o q : Option ℕ) → Within n o → Within n q → Within n (earlier o q)
within_earlier n None q h k = k
within_earlier n (Some d) None h k = h
within_earlier n (Some d) (Some e) h k = omega arith

nearer_before : (n : ℕ) (o q : Option ℕ) → nearer (before n o) (before n q) ≡ before n (earlier o q)
nearer_before n None q = refl
nearer_before n (Some d) None = refl
nearer_before n (Some d) (Some e) = ap Some (let k : min (n - d) (n - e) ≡ n - max d e = omega arith in k)

shifted_before : (n m : ℕ) (o : Option ℕ) → n ≤ m → Within n o → shifted (m - n) (before n o) ≡ before m o
shifted_before n m None l h = refl
shifted_before n m (Some k) l h = ap Some (omega arith)

record Same (old new : Option ℕ) (n : ℕ) : Type 0 where
  is : old ≡ before n new
  within : Within n new

abbrev Behind_same : ℕ → Type 0
Behind_same left = (us : List Token) → Same (action_before left us) (action_place left us) (length us)

form_same : (left : ℕ) → Behind_same left → (i : Form) (us : List Token) → Same (form_before (action_before left) left i us) (form_place (action_place left) left i us) (length us)
form_same left same i us = by_answer (form_reader i left us) (no_more i left us (form_reader i left us) refl)
  where
    by_goes : (b : Bool) (r : List Token) → length r ≤ length us → Same (cond b (Some (length us - length r)) None) (cond b (Some (length r)) None) (length us)
    by_goes true r l = record { is = refl; within = l }
    by_goes false r l = record { is = refl; within = tt }

    by_answer : (v : Verdict Token Part) → length (rest_of v) ≤ length us → Same (place_by (form_goes (length us) i us) us (λ b. action_before left) v) (place_from (form_goes (length us) i us) (action_place left) v) (length us)
    by_answer (found b r) l = let k = same r in record {
      is = ap (shifted (length us - length r)) k.is ∙ shifted_before (length r) (length us) (action_place left r) l k.within;
      within = within_more (length r) (length us) (action_place left r) l k.within;
    }
    by_answer (fault expected r) l = record { is = refl; within = tt }
    by_answer (fault too_deep r) l = by_goes (form_goes (length us) i us) r l

all_same : (left : ℕ) → Behind_same left → (us : List Token) (is : List Form) → Same (nearest_form (action_before left) left is us) (earliest (action_place left) left is us) (length us)
all_same left same us [] = record { is = refl; within = tt }
all_same left same us (i ∷ is) =
    let x = form_same left same i us in
    let y = all_same left same us is in
    record {
      is = ap (λ z. nearer z (nearest_form (action_before left) left is us)) x.is ∙ (ap (nearer (before (length us) (form_place (action_place left) left i us))) y.is ∙ nearer_before (length us) (form_place (action_place left) left i us) (earliest (action_place left) left is us));
      within = within_earlier (length us) (form_place (action_place left) left i us) (earliest (action_place left) left is us) x.within y.within;
    }

behind_same : (left : ℕ) → Behind_same left
behind_same zero us = record { is = refl; within = tt }
behind_same (suc left) us = all_same left (behind_same left) us action_forms

pub place_from_end : (limit left : ℕ) (s : State) (us : List Token) → one_statement us ≡ true → levels_at s + left ≡ limit → place_at limit s us ≡ before (length us) (statement_place left (allowed s) us)
place_from_end limit left s us one e = place_by_left limit left s us one e ∙ (all_same left (behind_same left) us (allowed s)).is

pub place_within : (left : ℕ) (is : List Form) (us : List Token) → Within (length us) (statement_place left is us)
place_within left is us = (all_same left (behind_same left) us is).within

pub shifted_from : (m n : ℕ) (o : Option ℕ) → Within n o → shifted m (before n o) ≡ before (m + n) o
shifted_from m n None h = refl
shifted_from m n (Some k) h = ap Some (omega arith)
