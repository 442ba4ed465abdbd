-- Items of a list-directed text, one after another.
use Rattle.std.proofs.Common.{◌≡◌, ◌∙◌, ℕ, Bool, true, false, cond, List, [], ◌∷◌, ◌++◌, refl, sym, ap, append_assoc}
use Rattle.std.specs.Prelude.{◌&&◌}
use Rattle.std.proofs.lemmas.List.{append-nil}
use Rattle.caf_text.specs.Numbers.{decimal_text, logical_text}
use Rattle.image_acts.specs.Core as core
use Rattle.image_acts.specs.Formats.{listed}
use Rattle.print_text.specs.declared.item.Item.{Item}
use Rattle.print_text.specs.declared.item.Item.TheVariants.{Integer, Logical, Literal}
use Rattle.print_text.specs.Items.{item_of, items_of}
use Rattle.print_text.specs.Passes.{is_literal}

abbrev plain : core.Item → List ℕ
plain (core.integer v) = decimal_text v
plain (core.logical b) = logical_text b
plain (core.literal text) = text

abbrev pub of_text : core.Item → Bool
of_text (core.integer v) = false
of_text (core.logical b) = false
of_text (core.literal text) = true

-- what is put out behind an item, which was a literal or not
abbrev pub further : Bool → List core.Item → List ℕ
further was_literal [] = []
further was_literal (x ∷ xs) = cond (was_literal && of_text x) [] (32 ∷ []) ++ (plain x ++ further (of_text x) xs)

listed_alone : (x : core.Item) (xs : List core.Item) → listed (x ∷ xs) ≡ listed (x ∷ []) ++ further (of_text x) xs
listed_alone x xs = ap (λ (l : List ℕ). l ++ further (of_text x) xs) (sym (append-nil (plain x)))

of_item : (texts : List (List ℕ)) (x : Item) → of_text (item_of texts x) ≡ is_literal x
of_item texts (Integer v) = refl
of_item texts (Logical b) = refl
of_item texts (Literal n) = refl

pub first_listed : (texts : List (List ℕ)) (x : Item) (left items : List Item) (out new : List ℕ) (b : Bool) → items ≡ x ∷ left → new ≡ out ++ listed (item_of texts x ∷ []) → b ≡ is_literal x
    → new ++ further b (items_of texts left) ≡ out ++ listed (items_of texts items)
first_listed texts x left items out new b e h g =
    ap (λ (l : List ℕ). l ++ further b (items_of texts left)) h
    ∙ append_assoc out (listed (item_of texts x ∷ [])) (further b (items_of texts left))
    ∙ ap (λ (t : Bool). out ++ (listed (item_of texts x ∷ []) ++ further t (items_of texts left))) (g ∙ sym (of_item texts x))
    ∙ ap (λ (l : List ℕ). out ++ l) (sym (listed_alone (item_of texts x) (items_of texts left)))
    ∙ ap (λ (l : List Item). out ++ listed (items_of texts l)) (sym e)
