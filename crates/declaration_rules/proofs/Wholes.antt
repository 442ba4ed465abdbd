-- The rules on an entity as a whole, noted one behind the other.
use Rattle.std.proofs.Common.{◌≡◌, ◌∙◌, ℕ, List, [], ◌∷◌, length, refl, ap, arith}
use Rattle.std.specs.Prelude.{Option, map}
use Rattle.fortran_tree.specs.Statements as d
use Rattle.checked_tree.specs.declared.data.DataType.{DataType}
use Rattle.rule_definitions.specs.declared.broken.Broken.{Broken}
use Rattle.rule_definitions.specs.Judgements.{first_of}
use Rattle.rule_definitions.specs.Declarations.{Unit', Attributes, rank_breaks, corank_of, deferred_breaks, special_type_breaks, procedure_variable_breaks, intent_breaks, parameter_breaks, whole_breaks}
use Rattle.declaration_rules.proofs.Shapes.{noted_six}

pub length_mapped : {A B : Type 0} (f : A → B) (xs : List A) → length xs ≡ length (map f xs)
length_mapped f [] = refl
length_mapped f (x ∷ xs) = let e = length_mapped f xs in omega (arith, e)

pub whole_noted : (u : Unit') (a : Attributes) (y : Option DataType) (e : d.Entity) (ds : List d.Dimension) (c : Option d.CoarraySpec) (n k : ℕ) → n ≡ length ds → k ≡ corank_of c
    → (o o1 o2 o3 o4 o5 o6 : Option Broken) → o1 ≡ first_of o (rank_breaks n k e.name.at) → o2 ≡ first_of o1 (deferred_breaks a.is_allocatable ds c e.name.at)
    → o3 ≡ first_of o2 (special_type_breaks y n k e.name.at) → o4 ≡ first_of o3 (procedure_variable_breaks u a k e.name.at) → o5 ≡ first_of o4 (intent_breaks u a e.name)
    → o6 ≡ first_of o5 (parameter_breaks a e.initial e.name.at) → o6 ≡ first_of o (whole_breaks u a y e ds c)
whole_noted u a y e ds c n k en ek o o1 o2 o3 o4 o5 o6 p1 p2 p3 p4 p5 p6 =
    let q1 : o1 ≡ first_of o (rank_breaks (length ds) (corank_of c) e.name.at) = p1 ∙ ap (λ m. first_of o (rank_breaks m k e.name.at)) en ∙ ap (λ m. first_of o (rank_breaks (length ds) m e.name.at)) ek in
    let q3 : o3 ≡ first_of o2 (special_type_breaks y (length ds) (corank_of c) e.name.at) = p3 ∙ ap (λ m. first_of o2 (special_type_breaks y m k e.name.at)) en ∙ ap (λ m. first_of o2 (special_type_breaks y (length ds) m e.name.at)) ek in
    let q4 : o4 ≡ first_of o3 (procedure_variable_breaks u a (corank_of c) e.name.at) = p4 ∙ ap (λ m. first_of o3 (procedure_variable_breaks u a m e.name.at)) ek in
    noted_six o o1 o2 o3 o4 o5 o6 (rank_breaks (length ds) (corank_of c) e.name.at) (deferred_breaks a.is_allocatable ds c e.name.at) (special_type_breaks y (length ds) (corank_of c) e.name.at)
    (procedure_variable_breaks u a (corank_of c) e.name.at) (intent_breaks u a e.name) (parameter_breaks a e.initial e.name.at) q1 p2 q3 q4 p5 p6
