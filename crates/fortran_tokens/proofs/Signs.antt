-- The longest spelling that begins a text.
use Rattle.std.proofs.Common.{◌≡◌, ℕ, zero, suc, ◌≤◌, Bool, true, false, cond, not, ◌&&◌, nat_eq, nat_lt, List, [], ◌∷◌, length, take, Option, Some, None, ◌⊎◌, inl, inr, refl, ap, sym, ◌∙◌, subst, arith}
use Rattle.std.specs.List.{list_all}
use Rattle.std.specs.Char.{to_ascii_lowercase}
use Rattle.std.specs.Str.{str_to_ascii_lowercase}
use Rattle.std.proofs.lemmas.Bool.{and_parts, and_from, eqb-true, eq-eqb, ltb-true, ltb-false}
use Rattle.std.proofs.lemmas.Bool.Decides.{nat_tests}
use Rattle.std.proofs.lemmas.List.{length-map, length-take-le}
use Rattle.fortran_tokens.specs.declared.token.Sign.{Sign}
use Rattle.fortran_tokens.specs.declared.byte.Sort.TheVariants.{Letter, Digit, Quote, Other}
use Rattle.fortran_tokens.specs.Bytes.{is_letter, is_digit, is_quote, sort_of}
use Rattle.fortran_tokens.specs.Forms.{spellings, Spells}
use Rattle.fortran_tokens.specs.Tokens.{is_colons_sign}
use Rattle.fortran_tokens.specs.Scans.{begins, is_longer, better, best_of, sign_found}

-- what begins with a spelling has it as its front
pub front_begins : (xs text : List ℕ) → begins xs text ≡ true → (length xs ≤ length text) × (str_to_ascii_lowercase (take (length xs) text) ≡ xs)
front_begins [] text e = (omega arith, refl)
front_begins (x ∷ xs) [] e = absurd (cc)
front_begins (x ∷ xs) (b ∷ text) e =
    let parts = and_parts (nat_eq (to_ascii_lowercase b) x) (begins xs text) e in
    let next = front_begins xs text parts.1 in
    let fits = next.0 in
    let same = eqb-true (to_ascii_lowercase b) x parts.0 in
    (omega arith, ap (λ y. y ∷ str_to_ascii_lowercase (take (length xs) text)) same ∙ ap (λ ys. x ∷ ys) next.1)

-- and the other way round
pub begins_front : (xs text : List ℕ) (m : ℕ) → m ≤ length text → str_to_ascii_lowercase (take m text) ≡ xs → begins xs text ≡ true
begins_front [] text m h e = refl
begins_front (x ∷ xs) text zero h e = absurd (cc)
begins_front (x ∷ xs) [] (suc m) h e = absurd (omega arith)
begins_front (x ∷ xs) (b ∷ text) (suc m) h e =
    let same : to_ascii_lowercase b ≡ x = cc in
    let rest : str_to_ascii_lowercase (take m text) ≡ xs = cc in
    and_from (nat_eq (to_ascii_lowercase b) x) (begins xs text) (eq-eqb (to_ascii_lowercase b) x same) (begins_front xs text m (omega arith) rest)

-- a front in lower case is as long as the front
pub front_length : (xs text : List ℕ) (m : ℕ) → m ≤ length text → str_to_ascii_lowercase (take m text) ≡ xs → length xs ≡ m
front_length xs text m h e = sym (ap length e) ∙ (length-map (take m text) to_ascii_lowercase ∙ length-take-le m text h)

-- a row of at least m bytes has been found
AtLeast : ℕ → Option (Sign × ℕ) → Type 0
AtLeast m None = ⊥
AtLeast m (Some r) = m ≤ r.1

better_keeps : (m : ℕ) (best : Option (Sign × ℕ)) (s : Sign) (n : ℕ) (starts : Bool) → AtLeast m best → AtLeast m (cond (starts && is_longer best n) (Some (s, n)) best)
unfolding AtLeast
better_keeps m None s n starts h = absurd h
better_keeps m (Some r) s n false h = h
better_keeps m (Some r) s n true h = by_case (nat_lt r.1 n) refl
  where
    by_case : (b : Bool) → b ≡ nat_lt r.1 n → AtLeast m (cond b (Some (s, n)) (Some r))
    by_case true e = let l = ltb-true r.1 n (sym e) in omega arith
    by_case false e = h

better_takes : (best : Option (Sign × ℕ)) (s : Sign) (n : ℕ) → AtLeast n (cond (is_longer best n) (Some (s, n)) best)
unfolding AtLeast
better_takes None s n = omega arith
better_takes (Some r) s n = by_case (nat_lt r.1 n) refl
  where
    by_case : (b : Bool) → b ≡ nat_lt r.1 n → AtLeast n (cond b (Some (s, n)) (Some r))
    by_case true e = omega arith
    by_case false e = let l = ltb-false r.1 n (sym e) in omega arith

best_most : (rows : List (List ℕ × Sign)) (best : Option (Sign × ℕ)) (text : List ℕ) (j : Sign) (m : ℕ) → m ≤ length text
    → Spells rows j (take m text) ⊎ AtLeast m best → AtLeast m (best_of best rows text)
best_most [] best text j m h (inl e) = absurd e
best_most [] best text j m h (inr e) = e
best_most (row ∷ rows) best text j m h (inl (inl (_, e))) =
    let starts = begins_front row.0 text m h e in
    let long = front_length row.0 text m h e in
    best_most rows (better best row text) text j m h
    (inr (subst (λ b. AtLeast m (cond (b && is_longer best (length row.0)) (Some (row.1, length row.0)) best)) (sym starts) (subst (λ n. AtLeast n (cond (is_longer best (length row.0)) (Some (row.1, length row.0)) best)) long (better_takes best row.1 (length row.0)))))
best_most (row ∷ rows) best text j m h (inl (inr e)) = best_most rows (better best row text) text j m h (inl e)
best_most (row ∷ rows) best text j m h (inr e) = best_most rows (better best row text) text j m h (inr (better_keeps m best row.1 (length row.0) (begins row.0 text) e))

-- what is found is a row's spelling, or the best before
better_form : (best : Option (Sign × ℕ)) (row : List ℕ × Sign) (text : List ℕ) (s : Sign) (n : ℕ) (starts longer : Bool) → starts ≡ begins row.0 text
    → cond (starts && longer) (Some (row.1, length row.0)) best ≡ Some (s, n) → (best ≡ Some (s, n)) ⊎ ((row.1 ≡ s) × (str_to_ascii_lowercase (take n text) ≡ row.0) × (n ≤ length text))
better_form best row text s n false longer b e = inl e
better_form best row text s n true false b e = inl e
better_form best row text s n true true b e =
    let front = front_begins row.0 text (sym b) in
    let pair : (row.1, length row.0) ≡ (s, n) = cc in
    let which : row.1 ≡ s = ap (λ (p : Sign × ℕ). p.0) pair in
    let long : length row.0 ≡ n = ap (λ (p : Sign × ℕ). p.1) pair in
    inr (which, subst (λ k. str_to_ascii_lowercase (take k text) ≡ row.0) long front.1, subst (λ k. k ≤ length text) long front.0)

best_form : (rows : List (List ℕ × Sign)) (best : Option (Sign × ℕ)) (text : List ℕ) (s : Sign) (n : ℕ) → best_of best rows text ≡ Some (s, n)
    → (best ≡ Some (s, n)) ⊎ (Spells rows s (take n text) × (n ≤ length text))
best_form [] best text s n e = inl e
best_form (row ∷ rows) best text s n e = by_case (best_form rows (better best row text) text s n e)
  where
    here : (best ≡ Some (s, n)) ⊎ ((row.1 ≡ s) × (str_to_ascii_lowercase (take n text) ≡ row.0) × (n ≤ length text)) → (best ≡ Some (s, n)) ⊎ (Spells (row ∷ rows) s (take n text) × (n ≤ length text))
    here (inl k) = inl k
    here (inr (a, b, c)) = inr (inl (a, b), c)

    by_case : (better best row text ≡ Some (s, n)) ⊎ (Spells rows s (take n text) × (n ≤ length text)) → (best ≡ Some (s, n)) ⊎ (Spells (row ∷ rows) s (take n text) × (n ≤ length text))
    by_case (inl k) = here (better_form best row text s n (begins row.0 text) (is_longer best (length row.0)) refl k)
    by_case (inr (a, b)) = inr (inr a, b)

pub sign_most : (text : List ℕ) (s : Sign) (n : ℕ) → sign_found text ≡ Some (s, n) → (j : Sign) (m : ℕ) → m ≤ length text → Spells spellings j (take m text) → m ≤ n
unfolding AtLeast sign_found
sign_most text s n e j m h f = let k = subst (AtLeast m) e (best_most spellings None text j m h (inl f)) in k

pub sign_none : (text : List ℕ) → sign_found text ≡ None → (j : Sign) (m : ℕ) → m ≤ length text → Spells spellings j (take m text) → ⊥
unfolding AtLeast sign_found
sign_none text e j m h f = subst (AtLeast m) e (best_most spellings None text j m h (inl f))

pub sign_form : (text : List ℕ) (s : Sign) (n : ℕ) → sign_found text ≡ Some (s, n) → Spells spellings s (take n text) × (n ≤ length text)
unfolding sign_found
sign_form text s n e = elim (best_form spellings None text s n e) [ inl k ↦ absurd (cc) | inr k ↦ k ]

-- a spelling begins with a byte that begins nothing else
abbrev starts_other : List ℕ → Bool
starts_other [] = false
starts_other (x ∷ xs) = not (is_letter x) && (not (is_digit x) && not (is_quote x))

all_other : list_all (λ row. starts_other row.0) spellings ≡ true
all_other = refl

same_byte : (b x : ℕ) → to_ascii_lowercase b ≡ x → not (is_letter x) ≡ true → b ≡ x
same_byte b x e h = grind (arith, nat_tests)

sort_other : (x : ℕ) → (not (is_letter x) && (not (is_digit x) && not (is_quote x))) ≡ true → sort_of x ≡ Other
sort_other x e = by_case (is_letter x) (is_digit x) (is_quote x) e
  where
    by_case : (l d q : Bool) → (not l && (not d && not q)) ≡ true → cond l Letter (cond d Digit (cond q Quote Other)) ≡ Other
    by_case true d q e = absurd (cc)
    by_case false true q e = absurd (cc)
    by_case false false true e = absurd (cc)
    by_case false false false e = refl

row_begins : (row : List ℕ) (b : ℕ) (w : List ℕ) → starts_other row ≡ true → str_to_ascii_lowercase (b ∷ w) ≡ row → sort_of b ≡ Other
row_begins [] b w o e = absurd (cc)
row_begins (x ∷ xs) b w o e =
    let first : to_ascii_lowercase b ≡ x = cc in
    let parts = and_parts (not (is_letter x)) (not (is_digit x) && not (is_quote x)) o in
    ap sort_of (same_byte b x first parts.0) ∙ sort_other x o

rows_begin : (rows : List (List ℕ × Sign)) (s : Sign) (b : ℕ) (w : List ℕ) → list_all (λ row. starts_other row.0) rows ≡ true → Spells rows s (b ∷ w) → sort_of b ≡ Other
rows_begin [] s b w o h = absurd h
rows_begin (row ∷ rows) s b w o (inl (_, e)) = row_begins row.0 b w (and_parts (starts_other row.0) (list_all (λ r. starts_other r.0) rows) o).0 e
rows_begin (row ∷ rows) s b w o (inr h) = rows_begin rows s b w (and_parts (starts_other row.0) (list_all (λ r. starts_other r.0) rows) o).1 h

pub sign_begins : (s : Sign) (b : ℕ) (w : List ℕ) → Spells spellings s (b ∷ w) → sort_of b ≡ Other
sign_begins s b w h = rows_begin spellings s b w all_other h

row_some : (row : List ℕ) → starts_other row ≡ true → [] ≡ row → ⊥
row_some [] o e = cc
row_some (x ∷ xs) o e = cc

rows_some : (rows : List (List ℕ × Sign)) (s : Sign) → list_all (λ row. starts_other row.0) rows ≡ true → Spells rows s [] → ⊥
rows_some [] s o h = h
rows_some (row ∷ rows) s o (inl (_, e)) = row_some row.0 (and_parts (starts_other row.0) (list_all (λ r. starts_other r.0) rows) o).0 e
rows_some (row ∷ rows) s o (inr h) = rows_some rows s (and_parts (starts_other row.0) (list_all (λ r. starts_other r.0) rows) o).1 h

-- no sign is empty
pub sign_some : (s : Sign) → Spells spellings s [] → ⊥
sign_some s h = rows_some spellings s all_other h

-- `::` has two bytes
abbrev two_if_colons : List ℕ × Sign → Bool
two_if_colons row = cond (is_colons_sign row.1) (nat_eq (length row.0) 2) true

all_two : list_all two_if_colons spellings ≡ true
all_two = refl

colons_rows : (rows : List (List ℕ × Sign)) (s : Sign) (w : List ℕ) → list_all two_if_colons rows ≡ true → is_colons_sign s ≡ true → Spells rows s w → length w ≡ 2
colons_rows [] s w o c h = absurd h
colons_rows (row ∷ rows) s w o c (inl (k, e)) =
    let here = (and_parts (two_if_colons row) (list_all two_if_colons rows) o).0 in
    let two : nat_eq (length row.0) 2 ≡ true = subst (λ b. cond b (nat_eq (length row.0) 2) true ≡ true) (ap is_colons_sign k ∙ c) here in
    sym (length-map w to_ascii_lowercase) ∙ (ap length e ∙ eqb-true (length row.0) 2 two)
colons_rows (row ∷ rows) s w o c (inr h) = colons_rows rows s w (and_parts (two_if_colons row) (list_all two_if_colons rows) o).1 c h

pub colons_two : (s : Sign) (w : List ℕ) → is_colons_sign s ≡ true → Spells spellings s w → length w ≡ 2
colons_two s w c h = colons_rows spellings s w all_two c h
