-- The items of portions, as the core has them.
use Rattle.std.proofs.Common.{◌≡◌, ◌∙◌, refl, ap, sym, ℕ, zero, suc, ◌+◌, ◌-◌, ◌<◌, ◌≤◌, List, [], ◌∷◌, ◌++◌, map, reverse, arith}
use Rattle.std.specs.Prelude.{Some, None}
use Rattle.std.proofs.lemmas.List.{reverse-append, reverse-reverse, map_push, map-append}
use Rattle.image_acts.specs.Core as core
use Rattle.image_acts.specs.Operate.Printing.{spread}
use Rattle.image_acts.specs.Operate.Printing.{items_of as items_in_core}
use Rattle.print_text.specs.declared.item.Item.{Item}
use Rattle.print_text.specs.declared.item.Item.TheVariants.{Literal}
use Rattle.print_text.specs.declared.item.Portion.{Portion}
use Rattle.print_text.specs.declared.item.Portion.TheVariants as portions
use Rattle.print_text.specs.declared.items.Run.{Run}
use Rattle.print_text.specs.Items.{text_at, item_of, items_of, literals_from, in_portion, in_portions, in_run, texts_back, portion_of, portions_of}

-- literals from a number, with the last one apart
last_apart : (n more : ℕ) → literals_from n (suc more) ≡ literals_from n more ++ Literal (n + suc more) ∷ []
last_apart n zero = refl
last_apart n (suc more) =
    let e : (n + 1) + suc more ≡ n + suc (suc more) = omega arith in
    ap (λ (xs : List Item). Literal n ∷ xs) (last_apart (n + 1) more ∙ ap (λ (k : ℕ). literals_from (n + 1) more ++ Literal k ∷ []) e)

literals_in_order : (texts : List (List ℕ)) (n more : ℕ) → map core.literal (reverse (texts_back texts n more)) ≡ items_of texts (literals_from n more)
literals_in_order texts n zero = refl
literals_in_order texts n (suc more) =
    ap (map core.literal) (reverse-append (text_at texts (n + suc more) ∷ []) (texts_back texts n more))
    ∙ map_push core.literal (reverse (texts_back texts n more)) (text_at texts (n + suc more))
    ∙ ap (λ (xs : List core.Item). xs ++ core.literal (text_at texts (n + suc more)) ∷ []) (literals_in_order texts n more)
    ∙ sym (map_push (item_of texts) (literals_from n more) (Literal (n + suc more)))
    ∙ ap (items_of texts) (sym (last_apart n more))

portion_in_order : (texts : List (List ℕ)) (p : Portion) → items_in_core (portion_of texts p) ≡ items_of texts (in_portion p)
portion_in_order texts (portions.Integer v) = refl
portion_in_order texts (portions.Logical b) = refl
portion_in_order texts (portions.Literals n more) = literals_in_order texts n more

portions_in_order : (texts : List (List ℕ)) (ps : List Portion) → spread (portions_of texts ps) ≡ items_of texts (in_portions ps)
portions_in_order texts [] = refl
portions_in_order texts (p ∷ ps) =
    ap (λ (xs : List core.Item). xs ++ spread (portions_of texts ps)) (portion_in_order texts p)
    ∙ ap (λ (xs : List core.Item). items_of texts (in_portion p) ++ xs) (portions_in_order texts ps)
    ∙ sym (map-append (item_of texts) (in_portion p) (in_portions ps))

pub spread_in_order : (texts : List (List ℕ)) (ps : List Portion) → spread (reverse (reverse (portions_of texts ps))) ≡ items_of texts (in_portions ps)
spread_in_order texts ps = ap spread (reverse-reverse (portions_of texts ps)) ∙ portions_in_order texts ps

-- literals of a run that are left
pub last_of_run : (r : Run) → r.more ≤ r.gone → in_run (Some r) ≡ Literal (r.first + r.gone) ∷ in_run None
last_of_run r h = (let e : r.more - r.gone ≡ 0 = omega arith in ap (literals_from (r.first + r.gone)) e)

pub first_of_run : (r s : Run) → r.gone < r.more → s.first ≡ r.first → s.gone ≡ r.gone + 1 → s.more ≡ r.more → in_run (Some r) ≡ Literal (r.first + r.gone) ∷ in_run (Some s)
first_of_run r s h a b c =
    let e : r.more - r.gone ≡ suc (s.more - s.gone) = omega arith in
    let f : (r.first + r.gone) + 1 ≡ s.first + s.gone = omega arith in
    ap (literals_from (r.first + r.gone)) e ∙ ap (λ (k : ℕ). Literal (r.first + r.gone) ∷ literals_from k (s.more - s.gone)) f
