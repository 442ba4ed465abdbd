-- What the declaration of a made program declares.
use Rattle.std.proofs.Common.{◌≡◌, ℕ, ◌+◌, ◌≤◌, true, false, cond, nat_le, pos, List, [], ◌∷◌, codes, Some, refl, ap}
use Rattle.std.proofs.lemmas.Bool.{le-leb}
use Rattle.caf_base.specs.declared.place.Pos.{Pos}
use Rattle.caf_base.specs.declared.value.Kind.TheVariants.{I4}
use Rattle.checked_tree.specs.Expressions as t
use Rattle.checked_tree.specs.declared.data.DataType.TheVariants.{Intrinsic}
use Rattle.checked_tree.specs.declared.data.Home.TheVariants.{Own}
use Rattle.checked_tree.specs.declared.data.Object.{Object}
use Rattle.checked_tree.specs.declared.data.Object.TheVariants as objects
use Rattle.checked_tree.specs.declared.data.Codimensions.{Codimensions}
use Rattle.checked_tree.specs.declared.data.Codimensions.TheVariants as coshapes
use Rattle.checked_tree.specs.declared.data.Initial.TheVariants as initials
use Rattle.rule_definitions.specs.Judgements.{breaks, fine, ruled, behind_breaks}
use Rattle.rule_definitions.specs.Names
use Rattle.rule_definitions.specs.Names.{Scope, Named, named, KnownBounds}
use Rattle.rule_definitions.specs.Expressions.{judged}
use Rattle.rule_definitions.specs.Declarations.{no_attributes, declared_entity, declared_entities, behind_declared, and_then, declared_all}
use Rattle.rule_definitions.specs.Units.{main_unit, main_declared}
use Rattle.made_tree.specs.MadeTree.{here, width, number, array, others, made_tree}

-- kind 4 holds a number
pub held : (n : ℕ) → n ≤ 2147483647 → nat_le n 2147483647 ≡ true
held n h = le-leb n 2147483647 h

-- a literal that it holds
abbrev pub literal : ℕ → t.Expression
literal n = t.typed (t.number (pos n)) (Intrinsic I4) 0

pub number_fine : (s : Scope) (n : ℕ) (p : Pos) → n ≤ 2147483647 → judged s (number n p) ≡ fine (literal n)
number_fine s n p h = ap (λ b. behind_breaks [] (ruled (fine (literal n)) (cond b [] (breaks 23 p)))) (held n h)

-- an integer variable of kind 4
abbrev entry : List ℕ → Pos → Object → List KnownBounds → Codimensions → ℕ → Named
entry x p o bs c k = named x (Names.variable (record
    { name = x; at = p; object = o; of_type = Some (Intrinsic I4); bounds = bs; coshape = c; corank = k; is_allocatable = false; role = Names.plain; initial = initials.Unstated }))

abbrev local : List ℕ → Pos → ℕ → Named
local x p v = entry x p (objects.Local (record { home = Own; variable = v })) [] coshapes.Absent 0

-- what the names of a made program stand for
abbrev pub array_name : ℕ → Named
array_name size = entry (codes "u") (here 2 12) (objects.Local (record { home = Own; variable = 0 })) (Some (pos 1, pos size) ∷ []) coshapes.Absent 0

abbrev pub own_names : ℕ → List Named
own_names size =
    array_name size
    ∷ entry (codes "edge") (here 2 (width size + 17)) (objects.Coarray 0) [] (coshapes.Explicit (record { lower = pos 1 ∷ []; extent = [] })) 1
    ∷ local (codes "me") (here 2 (width size + 26)) 2
    ∷ local (codes "left") (here 2 (width size + 30)) 3
    ∷ local (codes "k") (here 2 (width size + 36)) 4
    ∷ local (codes "i") (here 2 (width size + 39)) 5
    ∷ local (codes "s") (here 2 (width size + 42)) 6
    ∷ local (codes "t") (here 2 (width size + 45)) 7
    ∷ []

abbrev pub scope_with : List Named → List (List ℕ) → Scope
scope_with own pending = record { own = own; pending = pending; host = []; procedures = []; accessible = []; interfaces = []; constants = [] }

abbrev pub all_names : List (List ℕ)
all_names = codes "u" ∷ codes "edge" ∷ codes "me" ∷ codes "left" ∷ codes "k" ∷ codes "i" ∷ codes "s" ∷ codes "t" ∷ []

-- u(SIZE)
array_declared : (size : ℕ) → size ≤ 2147483647
    → declared_entity (scope_with [] all_names) main_unit no_attributes (Some (Intrinsic I4)) (array (here 2) size) ≡ record { breaks = []; scope = scope_with (array_name size ∷ []) all_names }
array_declared size h = rw (held size h, held size h) refl

-- and all
abbrev pub main_scope : ℕ → Scope
main_scope size = scope_with (own_names size) all_names

pub names_declared : (value : ℕ → ℕ) (size : ℕ) → size ≤ 2147483647 → main_declared (made_tree value size) [] ≡ record { breaks = []; scope = main_scope size }
names_declared value size h = ap
    (λ d. and_then (behind_declared [] (and_then d (declared_entities main_unit no_attributes (Some (Intrinsic I4)) (others (λ c. here 2 (width size + c)))))) (declared_all main_unit []))
    (array_declared size h)
