-- Numbers of what stands in statements, and literals.
use Rattle.std.proofs.Common.{◌≡◌, ℕ, refl, arith}
use Rattle.std.proofs.lemmas.List.{append-nil}
use Rattle.fortran_tree.specs.ActionViews.{action_forms}
use Rattle.rule_definitions.specs.Statements.{greater}

pub greater_of_three : (a b c : ℕ) → greater (greater a b) c ≡ greater a (greater b c)
greater_of_three a b c = grind arith

pub greater_alone : (a : ℕ) → greater a 0 ≡ a
greater_alone a = grind arith

pub ruleset greater_laws = (greater_of_three, greater_alone)

pub ruleset literal_laws = (action_forms, append-nil)
