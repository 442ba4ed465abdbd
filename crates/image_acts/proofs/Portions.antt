-- The items of a text, from its portions.
use Rattle.std.proofs.Common.{◌≡◌, ◌∙◌, refl, ap, sym, ℕ, ◌+◌, Bool, true, false, cond, List, [], ◌∷◌, ◌++◌, map, reverse, length, arith, append_assoc}
use Rattle.std.specs.Prelude.{nat_eq}
use Rattle.std.proofs.lemmas.Bool.Decides.{nat_tests}
use Rattle.std.proofs.lemmas.List.{append-nil, reverse-append, reverse-reverse, map_push}
use Rattle.image_acts.specs.Core.{Item, Portion, value, literals, literal}
use Rattle.image_acts.specs.Operate.Printing.{items_of, spread, with_values_behind, with_literal_behind}

spread_append : (ps qs : List Portion) → spread (ps ++ qs) ≡ spread ps ++ spread qs
spread_append [] qs = refl
spread_append (p ∷ ps) qs = ap (λ (xs : List Item). items_of p ++ xs) (spread_append ps qs) ∙ sym (append_assoc (items_of p) (spread ps) (spread qs))

-- a portion more
spread_more : (p : Portion) (ps : List Portion) → spread (reverse (p ∷ ps)) ≡ spread (reverse ps) ++ items_of p
spread_more p ps =
    ap spread (reverse-append (p ∷ []) ps)
    ∙ spread_append (reverse ps) (p ∷ [])
    ∙ ap (λ (xs : List Item). spread (reverse ps) ++ xs) (append-nil (items_of p))

-- the literals of a portion with one more
one_more : (text : List ℕ) (back : List (List ℕ)) → map literal (reverse (text ∷ back)) ≡ map literal (reverse back) ++ literal text ∷ []
one_more text back = ap (map literal) (reverse-append (text ∷ []) back) ∙ map_push literal (reverse back) text

joined : (b : Bool) (n m : ℕ) (text : List ℕ) (back : List (List ℕ)) (ps : List Portion)
    → spread (reverse (cond b (literals n (text ∷ back) ∷ ps) (literals n (text ∷ []) ∷ literals m back ∷ ps))) ≡ spread (reverse (literals m back ∷ ps)) ++ literal text ∷ []
joined true n m text back ps =
    spread_more (literals n (text ∷ back)) ps
    ∙ ap (λ (xs : List Item). spread (reverse ps) ++ xs) (one_more text back)
    ∙ sym (append_assoc (spread (reverse ps)) (map literal (reverse back)) (literal text ∷ []))
    ∙ ap (λ (xs : List Item). xs ++ literal text ∷ []) (sym (spread_more (literals m back) ps))
joined false n m text back ps = spread_more (literals n (text ∷ [])) (literals m back ∷ ps)

pub literal_printed : (n : ℕ) (text : List ℕ) (ps : List Portion) → spread (reverse (with_literal_behind n text ps)) ≡ spread (reverse ps) ++ literal text ∷ []
literal_printed n text [] = refl
literal_printed n text (value x ∷ ps) = spread_more (literals n (text ∷ [])) (value x ∷ ps)
literal_printed n text (literals m back ∷ ps) = joined (nat_eq n (m + 1)) n m text back ps

values_spread : (xs : List Item) → spread (map value xs) ≡ xs
values_spread [] = refl
values_spread (x ∷ xs) = ap (λ (ys : List Item). x ∷ ys) (values_spread xs)

pub values_printed : (xs : List Item) (ps : List Portion) → spread (reverse (with_values_behind xs ps)) ≡ spread (reverse ps) ++ xs
values_printed xs ps =
    ap spread (reverse-append (reverse (map value xs)) ps)
    ∙ spread_append (reverse ps) (reverse (reverse (map value xs)))
    ∙ ap (λ (ys : List Portion). spread (reverse ps) ++ spread ys) (reverse-reverse (map value xs))
    ∙ ap (λ (ys : List Item). spread (reverse ps) ++ ys) (values_spread xs)

same : (n m : ℕ) → n ≡ m → nat_eq n m ≡ true
same n m e = grind (arith, nat_tests)

pub next_takes_none : (n : ℕ) (text : List ℕ) (back : List (List ℕ)) (ps : List Portion) → length (with_literal_behind (n + 1) text (literals n back ∷ ps)) ≡ length (literals n back ∷ ps)
next_takes_none n text back ps = ap (λ (b : Bool). length (cond b (literals (n + 1) (text ∷ back) ∷ ps) (literals (n + 1) (text ∷ []) ∷ literals n back ∷ ps))) (same (n + 1) (n + 1) refl)
