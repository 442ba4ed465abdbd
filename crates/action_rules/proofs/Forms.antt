-- A one-line IF around its action.
use Rattle.std.proofs.Common.{◌≡◌, ◌∙◌, refl, ap}
use Rattle.std.specs.Prelude.{Option, Some, None}
use Rattle.std.specs.Option.{option_map}
use Rattle.rule_definitions.specs.Judgements.{both, made}

-- two parts, of which the second is made of another
pub both_made : {A B C D : Type 0} (f : A → B → C) (g : D → B) (x : Option A) (y : Option D) → both f x (made g y) ≡ both (λ a d. f a (g d)) x y
both_made f g None y = refl
both_made f g (Some x) None = refl
both_made f g (Some x) (Some y) = refl
