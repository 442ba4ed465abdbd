-- Coshapes of entities, by what is asked of their expressions: the words of the definitions of declarations (8.5.6),
-- without the scope.
use Rattle.std.specs.Prelude.{ℕ, Bool, true, false, List, [], ◌∷◌, ◌++◌, Option, Some, None, map}
use Rattle.std.specs.Option.{option_map}
use Rattle.fortran_tree.specs.Statements as d
use Rattle.checked_tree.specs.declared.data.Codimensions.{Codimensions}
use Rattle.checked_tree.specs.declared.data.Codimensions.TheVariants as codimensions
use Rattle.rule_definitions.specs.declared.broken.Broken.{Broken}
use Rattle.rule_definitions.specs.Judgements.{breaks_of, made}
use Rattle.rule_definitions.specs.Names.{KnownBounds, Scope}
use Rattle.rule_definitions.specs.Constants.{all_bounds}
use Rattle.rule_definitions.specs.Declarations.{coshape_of_bounds}
use Rattle.declaration_rules.specs.Asked.{Asked}
use Rattle.declaration_rules.specs.Bounds.{AskedBounds, asked_bounds, bounds_asked_of, cobounds_asked, lower_asked, maybe_asked, maybe_asked_of}
use Rattle.declaration_rules.specs.Shapes.{raw_asked, raw_bounds_asked}
use Rattle.unit_scopes.specs.declared.coshape.AskedCoshape.{AskedCoshape as CoshapeInMemory}
use Rattle.unit_scopes.specs.declared.coshape.AskedCoshape.TheVariants as coshapes

pub data AskedCoshape : Type 0 where
  colons : ℕ → AskedCoshape
  -- the cobounds before the last, and the lower cobound before the asterisk
  explicit : List AskedBounds → Option Asked → AskedCoshape

abbrev pub asked_coshape : CoshapeInMemory → AskedCoshape
asked_coshape (coshapes.Deferred n) = colons n
asked_coshape (coshapes.Explicit bs l) = explicit (map asked_bounds bs.items) (maybe_asked l)

abbrev pub maybe_coshape : Option CoshapeInMemory → Option AskedCoshape
maybe_coshape o = option_map asked_coshape o

-- what breaks in the expressions alone
abbrev pub raw_all_asked : List AskedBounds → List Broken
raw_all_asked [] = []
raw_all_asked (b ∷ bs) = raw_bounds_asked b ++ raw_all_asked bs

abbrev pub raw_coshape_asked : Option AskedCoshape → List Broken
raw_coshape_asked None = []
raw_coshape_asked (Some (colons n)) = []
raw_coshape_asked (Some (explicit bs l)) = raw_all_asked bs ++ raw_asked l

abbrev pub known_cobounds : AskedBounds → KnownBounds
known_cobounds b = (cobounds_asked b).meaning

abbrev pub cobounds_breaks : List AskedBounds → List Broken
cobounds_breaks [] = []
cobounds_breaks (b ∷ bs) = (cobounds_asked b).breaks ++ cobounds_breaks bs

-- the rules; of an allocatable what breaks in the expressions alone
abbrev pub coshape_asked_breaks : Bool → Option AskedCoshape → List Broken
coshape_asked_breaks true c = raw_coshape_asked c
coshape_asked_breaks false None = []
coshape_asked_breaks false (Some (colons n)) = []
coshape_asked_breaks false (Some (explicit bs l)) = cobounds_breaks bs ++ (lower_asked l).breaks

abbrev pub explicit_known : List AskedBounds → Option Asked → Codimensions
explicit_known bs l = coshape_of_bounds (all_bounds (map known_cobounds bs)) (lower_asked l).meaning

abbrev pub coshape_asked_known : Option AskedCoshape → Codimensions
coshape_asked_known None = codimensions.Absent
coshape_asked_known (Some (colons n)) = codimensions.Deferred n
coshape_asked_known (Some (explicit bs l)) = explicit_known bs l

-- what is asked of a coshape in a scope
abbrev pub coshape_asked_of : Scope → d.CoarraySpec → AskedCoshape
coshape_asked_of s (d.deferred_coshape n) = colons n
coshape_asked_of s (d.explicit_coshape bs l) = explicit (map (bounds_asked_of s) bs) (maybe_asked_of s l)

abbrev pub maybe_coshape_of : Scope → Option d.CoarraySpec → Option AskedCoshape
maybe_coshape_of s o = made (coshape_asked_of s) o
