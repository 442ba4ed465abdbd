-- What is to be printed, as the core has it.
use Rattle.std.specs.Prelude.{ℕ, zero, suc, ◌+◌, ◌-◌, List, [], ◌∷◌, ◌++◌, Option, Some, None, map, length, reverse, slice_get, unwrap_or}
use Rattle.std.specs.Option.{option_map}
use Rattle.walk_theory.specs.Terms.{Found, found, at_fault}
use Rattle.image_acts.specs.Core.{Printing}
use Rattle.image_acts.specs.Core as core
use Rattle.print_text.specs.declared.item.Item.{Item}
use Rattle.print_text.specs.declared.item.Item.TheVariants.{Integer, Logical, Literal}
use Rattle.print_text.specs.declared.item.Portion.{Portion}
use Rattle.print_text.specs.declared.item.Portion.TheVariants as portions
use Rattle.print_text.specs.declared.items.Run.{Run}
use Rattle.print_text.specs.declared.items.Items.{Items}

-- the text with this number; where there is none, an empty one
abbrev pub text_at : List (List ℕ) → ℕ → List ℕ
text_at texts n = unwrap_or (slice_get texts n) []

abbrev pub item_of : List (List ℕ) → Item → core.Item
item_of texts (Integer v) = core.integer v
item_of texts (Logical b) = core.logical b
item_of texts (Literal n) = core.literal (text_at texts n)

abbrev pub items_of : List (List ℕ) → List Item → List core.Item
items_of texts items = map (item_of texts) items

-- the literal with this number and so many behind it
abbrev pub literals_from : (n more : ℕ) → List Item
literals_from n zero = Literal n ∷ []
literals_from n (suc more) = Literal n ∷ literals_from (n + 1) more

-- the items of portions
abbrev pub in_portion : Portion → List Item
in_portion (portions.Integer v) = Integer v ∷ []
in_portion (portions.Logical b) = Logical b ∷ []
in_portion (portions.Literals n more) = literals_from n more

abbrev pub in_portions : List Portion → List Item
in_portions [] = []
in_portions (p ∷ ps) = in_portion p ++ in_portions ps

-- the items that are left
abbrev pub in_run : Option Run → List Item
in_run None = []
in_run (Some r) = literals_from (r.first + r.gone) (r.more - r.gone)

abbrev pub items_left : Items → List Item
items_left x = in_run x.run ++ in_portions x.portions.now

-- how many passes over a format may come: none, or one more than there are items
abbrev pub passes_left : Option Items → ℕ
passes_left None = 0
passes_left (Some x) = suc (length (items_left x))

-- the texts of literals, the last first
abbrev pub texts_back : List (List ℕ) → (n more : ℕ) → List (List ℕ)
texts_back texts n zero = text_at texts n ∷ []
texts_back texts n (suc more) = text_at texts (n + suc more) ∷ texts_back texts n more

abbrev pub portion_of : List (List ℕ) → Portion → core.Portion
portion_of texts (portions.Integer v) = core.value (core.integer v)
portion_of texts (portions.Logical b) = core.value (core.logical b)
portion_of texts (portions.Literals n more) = core.literals (n + more) (texts_back texts n more)

abbrev pub portions_of : List (List ℕ) → List Portion → List core.Portion
portions_of texts ps = map (portion_of texts) ps

-- a text that was begun, with these portions in the order in which they are printed
abbrev pub printing_of : List (List ℕ) → Option ℕ → List Portion → Printing
printing_of texts format ps = record { format = option_map (text_at texts) format; portions = reverse (portions_of texts ps) }

-- whether there is no fault
abbrev pub IsFound : {V : Type 0} → Found V → Type 0
IsFound (found v) = Unit {0}
IsFound (at_fault k) = ⊥
