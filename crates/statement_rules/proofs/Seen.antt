-- What is known of a variable that is seen from a scope.
use Rattle.std.proofs.Common.{◌≡◌, refl}
use Rattle.checked_tree.specs.declared.data.Home.{Home}
use Rattle.checked_tree.specs.declared.data.Home.TheVariants.{Own, Host}
use Rattle.rule_definitions.specs.Names as n
use Rattle.scope_table.specs.Scopes.{object_seen}
use Rattle.scope_table.specs.Symbols.{seen_from}

pub seen_object : (h : Home) (x : n.Symbol) → (seen_from h x).object ≡ object_seen h x.object
seen_object Own x = refl
seen_object Host x = refl

pub seen_type : (h : Home) (x : n.Symbol) → (seen_from h x).of_type ≡ x.of_type
seen_type Own x = refl
seen_type Host x = refl

pub seen_bounds : (h : Home) (x : n.Symbol) → (seen_from h x).bounds ≡ x.bounds
seen_bounds Own x = refl
seen_bounds Host x = refl

pub ruleset seen_laws = (seen_object, seen_type, seen_bounds)
