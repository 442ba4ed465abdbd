-- What passes over a format come to (ISO/IEC 1539-1:2018, 13.4).
use Rattle.std.specs.Prelude.{ℕ, suc, Bool, true, false, cond, List, [], ◌∷◌, ◌++◌}
use Rattle.walk_theory.specs.Terms.{Found, found, at_fault}
use Rattle.image_acts.specs.Core as core
use Rattle.image_acts.specs.Formats.{Pass, wrong, ended, passed}
use Rattle.print_text.specs.Items.{items_of, items_left}
use Rattle.print_text.specs.declared.item.Item.{Item}
use Rattle.print_text.specs.declared.item.Item.TheVariants.{Integer, Logical, Literal}
use Rattle.print_text.specs.declared.item.Outcome.{Outcome}
use Rattle.print_text.specs.declared.item.Outcome.TheVariants.{Wrong, Ended, Left}

-- a text before what a pass puts out
abbrev pub behind : List ℕ → Pass → Pass
behind text wrong = wrong
behind text (ended more) = ended (text ++ more)
behind text (passed more items) = passed (text ++ more) items

-- a pass without its text
abbrev pub bare : Pass → Pass
bare wrong = wrong
bare (ended more) = ended []
bare (passed more items) = passed [] items

-- the pass that came so far with this text, and goes on with the items that are left
abbrev pub after : List (List ℕ) → List ℕ → Outcome → (List core.Item → Pass) → Pass
after texts text Wrong f = wrong
after texts text Ended f = ended text
after texts text (Left items) f = behind text (f (items_of texts (items_left items)))

-- whether there is no fault
abbrev pub is_found : {V : Type 0} → Found V → Bool
is_found (found v) = true
is_found (at_fault k) = false

-- a text before what is found
abbrev pub upon : List ℕ → Found (List ℕ) → Found (List ℕ)
upon text (found more) = found (text ++ more)
upon text (at_fault k) = at_fault k

abbrev pub is_literal : Item → Bool
is_literal (Integer v) = false
is_literal (Logical b) = false
is_literal (Literal n) = true

-- how many values stand before the first literal
abbrev pub values_ahead : List Item → ℕ
values_ahead [] = 0
values_ahead (x ∷ xs) = cond (is_literal x) 0 (suc (values_ahead xs))
