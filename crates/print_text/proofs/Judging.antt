-- What is judged of a format, said of the whole text.
use Rattle.std.proofs.Common.{◌≡◌, ◌∙◌, ℕ, Bool, true, false, not, cond, List, [], ◌++◌, IsTrue, IsFalse, refl, sym, ap, subst}
use Rattle.std.specs.Prelude.{Option, Some, None}
use Rattle.walk_theory.specs.Terms.{Found, found, at_fault}
use Rattle.image_acts.specs.Faults.{format_fault}
use Rattle.image_acts.specs.Formats.{formatted, listed}
use Rattle.image_acts.specs.Operate.Printing.{text_of}
use Rattle.print_text.specs.declared.item.Item.{Item}
use Rattle.print_text.specs.declared.item.Portion.{Portion}
use Rattle.print_text.specs.Items.{IsFound, items_of, in_portions, printing_of, text_at}
use Rattle.print_text.specs.Passes.{is_found, upon}
use Rattle.print_text.proofs.Passing.{format_faults}
use Rattle.print_text.proofs.Portions.{spread_in_order}

is_right : (f : Found (List ℕ)) → is_found f ≡ true → IsFound f
is_right (found v) e = tt
is_right (at_fault k) e = absurd (cc)

module _ (texts : List (List ℕ)) (number : ℕ) (portions : List Portion) (format : Option ℕ) (text : List ℕ) (e : format ≡ Some number) (t : text ≡ text_at texts number) where
  by_format : text_of (printing_of texts format portions) ≡ formatted text (items_of texts (in_portions portions))
  by_format =
      ap (λ (f : Option ℕ). text_of (printing_of texts f portions)) e
      ∙ ap (formatted (text_at texts number)) (spread_in_order texts portions)
      ∙ ap (λ (f : List ℕ). formatted f (items_of texts (in_portions portions))) (sym t)

  module _ (items : List Item) (i : items ≡ in_portions portions) where
    judged_items : text_of (printing_of texts format portions) ≡ formatted text (items_of texts items)
    judged_items = by_format ∙ ap (λ (l : List Item). formatted text (items_of texts l)) (sym i)

    pub judged_fault : (r : Bool) → is_found (formatted text (items_of texts items)) ≡ r → IsTrue (not r) → text_of (printing_of texts format portions) ≡ at_fault format_fault
    judged_fault true h g = absurd (cc)
    judged_fault false h g = judged_items ∙ format_faults text (items_of texts items) h

    pub judged_right : (r : Bool) → is_found (formatted text (items_of texts items)) ≡ r → IsFalse (not r) → IsFound (text_of (printing_of texts format portions))
    judged_right true h g = subst IsFound (sym judged_items) (is_right (formatted text (items_of texts items)) h)
    judged_right false h g = absurd (cc)

-- the text that is found
pub listed_found : (texts : List (List ℕ)) (portions : List Portion) (items : List Item) (out : List ℕ) → items ≡ in_portions portions → out ≡ [] ++ listed (items_of texts items)
    → text_of (printing_of texts None portions) ≡ found out
listed_found texts portions items out i e =
    ap (λ (l : List _). found (listed l)) (spread_in_order texts portions)
    ∙ ap (λ (l : List Item). found (listed (items_of texts l))) (sym i)
    ∙ ap found (sym e)

upon_found : (f : Found (List ℕ)) (out : List ℕ) (b : Bool) → IsFound f → upon [] f ≡ cond b (found out) (at_fault format_fault) → f ≡ found out
upon_found (found text) out true h e = e
upon_found (found text) out false h e = absurd (cc)
upon_found (at_fault k) out b h e = absurd h

pub formatted_found : (texts : List (List ℕ)) (number : ℕ) (portions : List Portion) (items : List Item) (text out : List ℕ) (b : Bool) → items ≡ in_portions portions → text ≡ text_at texts number
    → IsFound (text_of (printing_of texts (Some number) portions)) → upon [] (formatted text (items_of texts items)) ≡ cond b (found out) (at_fault format_fault)
    → text_of (printing_of texts (Some number) portions) ≡ found out
formatted_found texts number portions items text out b i t h e =
    let j = judged_items texts number portions (Some number) text refl t items i in
    j ∙ upon_found (formatted text (items_of texts items)) out b (subst IsFound j h) e
