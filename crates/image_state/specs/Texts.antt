-- The texts of a core that were begun.
use Rattle.std.specs.Prelude.{ℕ, ◌+◌, ◌≡◌, ◌≤◌, ◌<◌, nat_eq, cond, ℤ, List, [], ◌∷◌, ◌++◌, reverse, Option, Some, None}
use Rattle.caf_base.specs.declared.value.Kind.{Kind}
use Rattle.caf_base.specs.declared.value.Kind.TheVariants as kinds
use Rattle.caf_base.specs.Arithmetic.{is_true}
use Rattle.image_stores.specs.Piles.{Pile, Piled, pile, items_in}
use Rattle.print_text.specs.Items.{text_at}
use Rattle.print_text.specs.declared.item.Portion as kept
use Rattle.print_text.specs.declared.item.Portion.TheVariants.{Integer, Logical, Literals}
use Rattle.image_acts.specs.Core.{Core, Item, Portion, Printing, with_values}
use Rattle.image_acts.specs.Taking.{Acted, using}
use Rattle.image_acts.specs.Operate.Printing.{open_portions, renewed, with_values_behind, with_literal_behind}
use Rattle.image_state.specs.Kept.{printings_in}

abbrev pub with_texts : Core → List Printing → Core
with_texts c ps = record c { printing = ps }

-- one without a portion on top
abbrev pub begun : Option (List ℕ) → List Printing → List Printing
begun f ps = record { format = f; portions = [] } ∷ ps

-- the innermost one; and with other portions in it
abbrev pub innermost : List Printing → Printing
innermost [] = record { format = None; portions = [] }
innermost (p ∷ ps) = p

abbrev pub renewed_in : (List Portion → List Portion) → List Printing → List Printing
renewed_in f [] = []
renewed_in f (p ∷ ps) = record p { portions = f p.portions } ∷ ps

-- with one portion more, with a literal, and with values
abbrev pub with_portion : Portion → List Printing → List Printing
with_portion x ps = renewed_in (λ xs. x ∷ xs) ps

abbrev pub with_literal : ℕ → List ℕ → List Printing → List Printing
with_literal n text ps = renewed_in (with_literal_behind n text) ps

abbrev pub with_items : List Item → List Printing → List Printing
with_items xs ps = renewed_in (with_values_behind xs) ps

-- a value is printed in the place of the number on top, beneath which these stand
abbrev pub value_printed : Portion → List ℤ → Core → Acted
value_printed x vs c = using 1 (with_values c vs) (renewed (λ xs. x ∷ xs))

-- an element of an array of this kind as it is kept
abbrev pub element_portion : Kind → ℤ → kept.Portion
element_portion kinds.I4 v = Integer v
element_portion kinds.I8 v = Integer v
element_portion kinds.L4 v = Logical (is_true v)

-- items on top of those of the newest pile
abbrev pub heaped_all : {H T : Type 0} → List T → List (Pile H T) → List (Pile H T)
heaped_all xs [] = []
heaped_all xs (p ∷ ps) = pile p.head (reverse xs ++ p.items) ∷ ps

-- the first one of a list, where it has one
abbrev pub first_of : {X : Type 0} → List X → Option X
first_of xs = elim xs [ [] ↦ None | x ∷ ys ↦ Some x ]

-- literals with the one that has this number, where it comes next behind them in the program
abbrev pub with_next : Option kept.Portion → ℕ → Option kept.Portion
with_next None n = None
with_next (Some (Integer v)) n = None
with_next (Some (Logical b)) n = None
with_next (Some (Literals first more)) n = cond (nat_eq n ((first + more) + 1)) (Some (Literals first (more + 1))) None

-- the literal with this number was put into the newest text, in the room for portions; or there is no room for it
pub record IsPut (n : ℕ) (old new : Piled (Option ℕ) kept.Portion) : Type 0 where
  pub printings : (texts : List (List ℕ)) → printings_in texts new.piles ≡ with_literal n (text_at texts n) (printings_in texts old.piles)
  pub within : items_in new.piles ≤ 131329

pub record HasNoRoom (n : ℕ) (old new : Piled (Option ℕ) kept.Portion) : Type 0 where
  pub same : new ≡ old
  pub crowded : (texts : List (List ℕ)) → 131329 < open_portions (with_literal n (text_at texts n) (printings_in texts old.piles))
