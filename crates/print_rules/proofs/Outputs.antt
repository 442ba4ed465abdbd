-- Formats by their descriptors, and items one by one.
use Rattle.std.proofs.Common.{◌≡◌, ◌∙◌, ℕ, Bool, true, false, List, [], ◌∷◌, refl, sym, ap}
use Rattle.std.specs.Prelude.{Option, Some, None, cond, map}
use Rattle.checked_tree.specs.Statements as ts
use Rattle.checked_tree.specs.declared.format.Descriptor.{Descriptor}
use Rattle.fortran_tree.specs.ActionViews.{item}
use Rattle.fortran_tree.specs.Statements as fs
use Rattle.fortran_tree.specs.declared.action.Item.{Item}
use Rattle.rule_definitions.specs.Actions.{format_of, printed_all}
use Rattle.rule_definitions.specs.Judgements.{made_of_both}
use Rattle.rule_definitions.specs.Names.{Scope}
use Rattle.print_rules.specs.Outputs.{number_behind, printed_item}

pub format_breaks_alone : (n : ℕ) (o : Option (List Descriptor)) → (format_of n o).breaks ≡ []
format_breaks_alone n None = refl
format_breaks_alone n (Some ds) = refl

pub format_where : (n : ℕ) (b : Bool) (o : Option (List Descriptor)) → (format_of n (cond b o None)).meaning ≡ cond b (format_of n o).meaning None
format_where n true o = refl
format_where n false o = refl

pub ruleset format_laws = (format_breaks_alone, format_where)

printed_first : (s : Scope) (n : ℕ) (x : fs.Item) (rest : List fs.Item)
    → printed_all s n (x ∷ rest) ≡ made_of_both (λ y ys. y ∷ ys) (printed_item s n x) (printed_all s (number_behind n x) rest)
printed_first s n (fs.quoted l) rest = refl
printed_first s n (fs.value e) rest = refl

-- a turn of the loop over the items: of those to come, one more is judged, and the next literal has this number
pub printed_turn : (s : Scope) (n k : ℕ) (xs ys : List Item) (x : Item) → xs ≡ x ∷ ys → k ≡ number_behind n (item x)
    → printed_all s n (map item xs) ≡ made_of_both (λ y zs. y ∷ zs) (printed_item s n (item x)) (printed_all s k (map item ys))
printed_turn s n k xs ys x d e =
    ap (λ zs. printed_all s n (map item zs)) d
    ∙ printed_first s n (item x) (map item ys)
    ∙ ap (λ m. made_of_both {B = List ts.Item} (λ y zs. y ∷ zs) (printed_item s n (item x)) (printed_all s m (map item ys))) (sym e)
