-- What the end of a part tells.
use Rattle.std.proofs.Common.{◌≡◌, ℕ, zero, suc, ◌-◌, ◌<◌, ◌≤◌, Bool, true, false, cond, ◌||◌, List, [], ◌∷◌, map, length, nat_eq, Option, Some, None, Result, Ok, Err, refl, ap, sym, ◌∙◌, subst, arith}
use Rattle.std.proofs.lemmas.Bool.{eqb-false, ne_eqb}
use Rattle.reader_theory.specs.Words.{found, fault}
use Rattle.reader_theory.specs.Limits.{is_empty}
use Rattle.fortran_grammar.specs.Tokens.{Token}
use Rattle.expr_reader.specs.Results.{cause_of, Stands}
use Rattle.expr_reader.specs.Words.{tokens_of}
use Rattle.expr_reader.specs.declared.error.Cause.TheVariants as causes
use Rattle.expr_reader.specs.declared.word.Word.{Word}
use Rattle.expr_reader.specs.declared.error.Stop.{Stop}
use Rattle.statement_reader.specs.Parts as f
use Rattle.statement_reader.specs.Parts.{Part, Form}
use Rattle.statement_reader.specs.Forms.{form_reader}
use Rattle.refusal_reasons.specs.Reasons.{through}
use Rattle.refusal_reasons.specs.Statements.{form_goes, action_goes_on, place_from, form_place, earlier, action_place, statement_place}
use Rattle.refusal_reasons.proofs.Earliest.{no_more}
use Rattle.reason_reader.specs.Ends.{Leaves, goes_behind}

pub nonzero : (n : ℕ) → nat_eq n 0 ≡ false → 0 < n
nonzero zero e = absurd (eqb-false 0 0 e refl)
nonzero (suc n) e = omega arith

-- what a part leaves
pub goes_found : (left : ℕ) (i : Form) (us r : List Token) (b : Part) → form_reader i left us ≡ found b r → form_goes left i us ≡ goes_behind left r
goes_found left i us [] b e = ap (through (λ b. action_goes_on left)) e
goes_found left i us (y ∷ r) b e = ap (through (λ b. action_goes_on left)) e

pub none_behind : (left : ℕ) (ws : List Word) → length ws ≡ 0 → goes_behind left (tokens_of ws) ≡ true
none_behind left [] e = refl
none_behind left (x ∷ xs) e = absurd (omega arith)

pub no_level_behind : (left : ℕ) (ws : List Word) → 0 < length ws → left ≡ 0 → goes_behind left (tokens_of ws) ≡ false
no_level_behind left [] l e = absurd (omega arith)
no_level_behind zero (x ∷ xs) l e = refl
no_level_behind (suc left) (x ∷ xs) l e = absurd (omega arith)

empty_left : (r : List Token) (n : ℕ) → length r ≡ n → is_empty r ≡ nat_eq n 0
empty_left [] zero e = refl
empty_left [] (suc n) e = absurd (omega arith)
empty_left (y ∷ r) zero e = absurd (omega arith)
empty_left (y ∷ r) (suc n) e = sym (ne_eqb (suc n) 0 (λ h. absurd (omega arith)))

pub goes_stopped : (left : ℕ) (i : Form) (us : List Token) (s : Stop) → Stands s (form_reader i left us) → form_goes left i us ≡ nat_eq s.left 0
goes_stopped left i us s (r, e, l) = ap (through (λ b. action_goes_on left)) e ∙ empty_left r s.left l

-- an action behind a condition
or_false : (b : Bool) → (b || false) ≡ b
or_false true = refl
or_false false = refl

action_by : (left : ℕ) (us : List Token) → action_goes_on (suc left) us ≡ (form_goes left f.assignment_form us || (form_goes left f.keyword_form us || form_goes left f.condition_form us))
action_by left us = ap (λ z. form_goes left f.assignment_form us || (form_goes left f.keyword_form us || z)) (or_false (form_goes left f.condition_form us))

pub action_behind : (left : ℕ) (ws : List Word) → 0 < length ws → 0 < left
    → goes_behind left (tokens_of ws) ≡ (form_goes (left - 1) f.assignment_form (tokens_of ws) || (form_goes (left - 1) f.keyword_form (tokens_of ws) || form_goes (left - 1) f.condition_form (tokens_of ws)))
action_behind left [] l m = absurd (omega arith)
action_behind zero (x ∷ xs) l m = absurd (omega arith)
action_behind (suc left) (x ∷ xs) l m =
    let us = tokens_of (x ∷ xs) in
    action_by left us ∙ ap (λ n. form_goes n f.assignment_form us || (form_goes n f.keyword_form us || form_goes n f.condition_form us)) (let e : left ≡ suc left - 1 = omega arith in e)

second_true : (a b : Bool) → (a || (true || b)) ≡ true
second_true true b = refl
second_true false b = refl

pub second_goes : (left : ℕ) (ws : List Word) (j : Form) (b : Bool) → 0 < length ws → 0 < left → j ≡ f.keyword_form → b ≡ form_goes (left - 1) j (tokens_of ws) → b ≡ true → true ≡ goes_behind left (tokens_of ws)
second_goes left ws j b some level is e t =
    let us = tokens_of ws in
    let goes : form_goes (left - 1) f.keyword_form us ≡ true = ap (λ i. form_goes (left - 1) i us) (sym is) ∙ (sym e ∙ t) in
    sym (action_behind left ws some level ∙ (ap (λ z. form_goes (left - 1) f.assignment_form us || (z || form_goes (left - 1) f.condition_form us)) goes ∙ second_true (form_goes (left - 1) f.assignment_form us) (form_goes (left - 1) f.condition_form us)))

-- the same for places
pub place_found : (left : ℕ) (i : Form) (us r : List Token) (b : Part) → form_reader i left us ≡ found b r → form_place (action_place left) left i us ≡ action_place left r
place_found left i us r b e = ap (place_from (form_goes (length us) i us) (action_place left)) e

pub place_expected : (left : ℕ) (i : Form) (us : List Token) (s : Stop) → Stands s (form_reader i left us) → s.cause ≡ causes.Expected → form_place (action_place left) left i us ≡ None
place_expected left i us s (r, e, l) c = ap (place_from (form_goes (length us) i us) (action_place left)) (e ∙ ap (λ z. fault (cause_of z) r) c)

pub place_sunk : (left : ℕ) (i : Form) (us : List Token) (s : Stop) → Stands s (form_reader i left us) → s.cause ≡ causes.TooDeep → form_goes (length us) i us ≡ true → form_place (action_place left) left i us ≡ Some s.left
place_sunk left i us s (r, e, l) c g = ap (place_from (form_goes (length us) i us) (action_place left)) (e ∙ ap (λ z. fault (cause_of z) r) c) ∙ (ap (λ b. cond b (Some (length r)) None) g ∙ ap Some l)

pub place_not : (left : ℕ) (i : Form) (us : List Token) (s : Stop) → Stands s (form_reader i left us) → s.cause ≡ causes.TooDeep → form_goes (length us) i us ≡ false → form_place (action_place left) left i us ≡ None
place_not left i us s (r, e, l) c g = ap (place_from (form_goes (length us) i us) (action_place left)) (e ∙ ap (λ z. fault (cause_of z) r) c) ∙ ap (λ b. cond b (Some (length r)) None) g

-- so many words stand for so many tokens
pub as_many : (ws : List Word) → length (tokens_of ws) ≡ length ws
as_many [] = refl
as_many (x ∷ xs) = ap suc (as_many xs)

-- the rest of the words are no more
pub leaves_fits : {X : Type 0} (z : Result X Stop) (x : X) (look : X → List Token) (left : ℕ) (i : Form) (us : List Token) → z ≡ Ok x → Leaves look z (form_reader i left us) → length (look x) ≤ length us
leaves_fits (Ok y) x look left i us e (b, h) = let same : y ≡ x = cc in subst (λ w. length (look w) ≤ length us) same (no_more i left us (found b (look y)) h)
leaves_fits (Err s) x look left i us e h = absurd (cc)

pub no_action_place : (left : ℕ) (us : List Token) → left ≡ 0 → action_place left us ≡ None
no_action_place zero us e = refl
no_action_place (suc left) us e = absurd (omega arith)

earlier_none : (o : Option ℕ) → earlier o None ≡ o
earlier_none None = refl
earlier_none (Some d) = refl

action_place_suc : (left : ℕ) (us : List Token) → action_place (suc left) us ≡ earlier (form_place (action_place left) left f.assignment_form us) (earlier (form_place (action_place left) left f.keyword_form us) (form_place (action_place left) left f.condition_form us))
action_place_suc left us = ap (λ z. earlier (form_place (action_place left) left f.assignment_form us) (earlier (form_place (action_place left) left f.keyword_form us) z)) (earlier_none (form_place (action_place left) left f.condition_form us))

pub action_place_by : (left : ℕ) (us : List Token) (i j k : Form) (a b c x y : Option ℕ) → 0 < left → i ≡ f.assignment_form → j ≡ f.keyword_form → k ≡ f.condition_form
    → a ≡ form_place (action_place (left - 1)) (left - 1) i us → b ≡ form_place (action_place (left - 1)) (left - 1) j us → c ≡ form_place (action_place (left - 1)) (left - 1) k us
    → x ≡ earlier b c → y ≡ earlier a x → y ≡ action_place left us
action_place_by zero us i j k a b c x y l ei ej ek ea eb ec ex ey = absurd (omega arith)
action_place_by (suc left) us i j k a b c x y l ei ej ek ea eb ec ex ey =
    let n : suc left - 1 ≡ left = omega arith in
    ey ∙ (ap (earlier a) ex ∙ (ap (λ z. earlier z (earlier b c)) (ea ∙ (ap (λ z. form_place (action_place z) z i us) n ∙ ap (λ z. form_place (action_place left) left z us) ei))
    ∙ (ap (λ z. earlier (form_place (action_place left) left f.assignment_form us) (earlier z c)) (eb ∙ (ap (λ z. form_place (action_place z) z j us) n ∙ ap (λ z. form_place (action_place left) left z us) ej))
    ∙ (ap (λ z. earlier (form_place (action_place left) left f.assignment_form us) (earlier (form_place (action_place left) left f.keyword_form us) z)) (ec ∙ (ap (λ z. form_place (action_place z) z k us) n ∙ ap (λ z. form_place (action_place left) left z us) ek))
    ∙ sym (action_place_suc left us)))))

-- of several forms
pub places_by : {X : Type 0} (look : X → Form) (left : ℕ) (us : List Token) (n : X) (xs more : List X) (a b x : Option ℕ) → xs ≡ n ∷ more
    → a ≡ form_place (action_place left) left (look n) us → b ≡ statement_place left (map look more) us → x ≡ earlier a b → x ≡ statement_place left (map look xs) us
places_by look left us n xs more a b x e ea eb ex = ex ∙ (ap (λ z. earlier z b) ea ∙ (ap (earlier (form_place (action_place left) left (look n) us)) eb ∙ ap (λ z. statement_place left (map look z) us) (sym e)))

pub no_places : {X : Type 0} (look : X → Form) (left : ℕ) (us : List Token) (xs : List X) → xs ≡ [] → statement_place left (map look xs) us ≡ None
no_places look left us xs e = ap (λ z. statement_place left (map look z) us) e

pub ruleset end_laws = (goes_found, goes_stopped, none_behind, no_level_behind, action_behind)

pub ruleset place_laws = (place_found, place_expected, place_sunk, place_not, no_action_place, action_place_by, places_by, no_places, as_many)
