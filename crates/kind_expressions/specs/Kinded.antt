-- Expressions whose parts are of the types and kinds that their places want (ISO/IEC 1539-1:2018, 7.4, 9.4, 9.5, 10.1.9,
-- 15.5.2, 16.9).
use Rattle.std.specs.Prelude.{ℕ, zero, suc, ◌+◌, ◌≡◌, Bool, true, false, List, [], ◌∷◌, ◌++◌, map, length, Option, None, Some, slice_get, slice_index_or}
use Rattle.caf_base.specs.declared.value.Kind.{Kind}
use Rattle.caf_base.specs.declared.value.Kind.TheVariants as kinds
use Rattle.checked_tree.specs.declared.data.DataType.{DataType}
use Rattle.checked_tree.specs.declared.data.DataType.TheVariants as types
use Rattle.checked_tree.specs.declared.data.Home.{Home}
use Rattle.checked_tree.specs.declared.data.Home.TheVariants as homes
use Rattle.checked_tree.specs.declared.data.Local.{Local}
use Rattle.checked_tree.specs.declared.data.Object.TheVariants as objects
use Rattle.checked_tree.specs.declared.data.Variable.{Variable}
use Rattle.checked_tree.specs.declared.data.Constant.{Constant}
use Rattle.checked_tree.specs.declared.program.Dummy.{Dummy}
use Rattle.checked_tree.specs.Expressions as t
use Rattle.checked_tree.specs.Statements as s
use Rattle.object_rules.specs.Kinds.{same_value_kind}
use Rattle.object_rules.specs.Cells.{Content, of_kind, Declared}
use Rattle.object_rules.specs.MemoryRules.{holds}
use Rattle.tree_meaning.specs.Environment as meaning
use Rattle.tree_meaning.specs.Environment.{empty_procedure}
use Rattle.kind_walks.specs.Kinds.{IsOf, Widens, Layout}

-- values of this kind
abbrev pub is_of : Kind → Content → Bool
is_of k (of_kind j) = same_value_kind k j
is_of k content = false

-- the kind of a type; teams, events and locks have none
abbrev pub kind_of : DataType → Option Kind
kind_of (types.Intrinsic k) = Some k
kind_of types.Team = None
kind_of types.Event = None
kind_of types.Lock = None

-- the kinds of the variables of a unit, by their numbers, and that of one of them
abbrev pub kinds_of : List Variable → List (Option Kind)
kinds_of vs = map (λ (v : Variable). kind_of v.of_type) vs

abbrev pub kind_in : List Variable → ℕ → Option Kind
kind_in [] x = None
kind_in (v ∷ vs) zero = kind_of v.of_type
kind_in (v ∷ vs) (suc x) = kind_in vs x

-- those of a procedure, and those of the main program, whose arrays of constants stand behind its arrays
abbrev pub unit_layout : s.Unit' → Layout
unit_layout u = record { scalars = kinds_of u.variables; arrays = kinds_of u.variables }

abbrev pub main_layout : s.Program → Layout
main_layout p = record { scalars = kinds_of p.main.variables; arrays = kinds_of p.main.variables ++ map (λ (c : Constant). Some c.kind) p.constants }

abbrev pub procedure_at : List s.Procedure → ℕ → s.Procedure
procedure_at qs n = slice_index_or qs n empty_procedure

-- by the number of the body, of which the first is the main program's
abbrev pub layouts : s.Program → ℕ → Layout
layouts p zero = main_layout p
layouts p (suc n) = unit_layout (procedure_at p.procedures n).unit

-- a function has a result of this kind
abbrev pub GivesKind : List Variable → Option ℕ → Option Kind → Type 0
GivesKind vs None k = ⊥
GivesKind vs (Some x) k = slice_get (kinds_of vs) x ≡ Some k

-- in a unit with these variables, of a program whose main program has those
module _ (p : s.Program) (coarrays : List Declared) (own main : Layout) where
  abbrev pub layout_at : Home → Layout
  layout_at homes.Own = own
  layout_at homes.Host = main

  -- a variable of this kind, a scalar or an array
  abbrev pub HasKind : Local → Option Kind → Type 0
  HasKind v k = (slice_get (layout_at v.home).scalars v.variable ≡ Some k) × (slice_get (layout_at v.home).arrays v.variable ≡ Some k)

  -- a declared coarray with values of this kind
  abbrev pub IsCoarray : ℕ → Option Kind → Type 0
  IsCoarray c None = ⊥
  IsCoarray c (Some k) = holds (is_of k) (slice_get coarrays c) ≡ true

  abbrev mutual
    pub IsKinded : t.Expression → Type 0
    IsKinded (t.typed f y r) = IsForm f y

    -- each number of its value is one of this kind
    pub IsOfKind : t.Expression → Option Kind → Type 0
    IsOfKind (t.typed f y r) k = Widens (kind_of y) k × IsForm f y

    pub IsForm : t.Form → DataType → Type 0
    IsForm (t.number z) y = IsOf (kind_of y) z
    IsForm (t.logical b) y = Widens (Some kinds.L4) (kind_of y)
    IsForm (t.designator d) y = IsPart d (kind_of y)
    IsForm (t.call n es) y =
        GivesKind (procedure_at p.procedures n).unit.variables (procedure_at p.procedures n).answer (kind_of y) × ArePassed (procedure_at p.procedures n).unit.variables (procedure_at p.procedures n).dummies es
    IsForm (t.intrinsic i) y = IsFunction i y
    IsForm (t.parenthesized x) y = IsOfKind x (kind_of y)
    IsForm (t.array_constructor es) y = AreOfKind es (kind_of y)
    IsForm (t.plus x) y = IsOfKind x (kind_of y)
    IsForm (t.minus x) y = IsKinded x
    IsForm (t.not x) y = IsKinded x × Widens (Some kinds.L4) (kind_of y)
    IsForm (t.arithmetic o x z) y = IsKinded x × IsKinded z
    IsForm (t.relation o x z) y = IsKinded x × IsKinded z × Widens (Some kinds.L4) (kind_of y)
    IsForm (t.logic o x z) y = IsKinded x × IsKinded z × Widens (Some kinds.L4) (kind_of y)

    pub AreKinded : t.Expressions → Type 0
    AreKinded t.no_expressions = Unit {0}
    AreKinded (t.more_expressions x es) = IsKinded x × AreKinded es

    pub AreOfKind : t.Expressions → Option Kind → Type 0
    AreOfKind t.no_expressions k = Unit {0}
    AreOfKind (t.more_expressions x es) k = IsOfKind x k × AreOfKind es k

    pub IsOptional : t.OptionalExpression → Type 0
    IsOptional t.missing = Unit {0}
    IsOptional (t.given x) = IsKinded x

    pub AreSubscripts : t.Subscripts → Type 0
    AreSubscripts t.no_subscripts = Unit {0}
    AreSubscripts (t.more_subscripts x ss) = IsSubscript x × AreSubscripts ss

    pub IsSubscript : t.Subscript → Type 0
    IsSubscript (t.element x) = IsKinded x
    IsSubscript (t.triplet l u x) = IsOptional l × IsOptional u × IsOptional x

    -- an object, or a part of one, of this kind
    pub IsPart : t.Designator → Option Kind → Type 0
    IsPart (t.part (objects.Local v) ss sel) k = HasKind v k × AreSubscripts ss
    IsPart (t.part (objects.Constant c) ss sel) k = (slice_get main.arrays (length p.main.variables + c) ≡ Some k) × AreSubscripts ss
    IsPart (t.part (objects.Coarray c) ss sel) k = IsCoarray c k × AreSubscripts ss × IsSelector sel

    pub IsSelector : t.Selector → Type 0
    IsSelector t.no_selector = Unit {0}
    IsSelector (t.selector cs which stat) = AreKinded cs × IsTeam which × IsOptionalResult stat (Some kinds.I4)

    pub IsTeam : t.SelectedTeam → Type 0
    IsTeam t.current = Unit {0}
    IsTeam (t.team x) = IsKinded x
    IsTeam (t.team_number x) = IsKinded x

    -- a variable for numbers of this kind
    pub IsResult : t.ResultVariable → Option Kind → Type 0
    IsResult (t.result_variable v es j) k = HasKind v (Some j) × Widens k (Some j) × AreKinded es

    pub IsOptionalResult : t.OptionalResult → Option Kind → Type 0
    IsOptionalResult t.no_result k = Unit {0}
    IsOptionalResult (t.result r) k = IsResult r k

    -- each actual argument is of its dummy's kind (15.5.2.4)
    pub ArePassed : List Variable → List Dummy → t.Arguments → Type 0
    ArePassed vs ds t.no_arguments = Unit {0}
    ArePassed vs [] (t.more_arguments x es) = Unit {0}
    ArePassed vs (d ∷ ds) (t.more_arguments x es) = IsPassed x (kind_in vs d.variable) × ArePassed vs ds es

    pub IsPassed : t.Argument → Option Kind → Type 0
    IsPassed (t.value x) k = IsOfKind x k
    IsPassed (t.variable d) k = IsVariable d k

    -- a local variable or a part of one
    pub IsVariable : t.Designator → Option Kind → Type 0
    IsVariable (t.part (objects.Local v) ss sel) k = HasKind v k × AreSubscripts ss
    IsVariable (t.part (objects.Constant c) ss sel) k = ⊥
    IsVariable (t.part (objects.Coarray c) ss sel) k = ⊥

    -- an array whose bounds are asked for, of any type
    pub IsInquired : t.Expression → Type 0
    IsInquired (t.typed (t.designator d) y r) = IsBounded d
    IsInquired (t.typed f y r) = IsForm f y

    pub IsBounded : t.Designator → Type 0
    IsBounded (t.part o ss sel) = AreSubscripts ss × IsSelector sel

    -- the intrinsic functions (16.9): most are of default kind
    pub IsFunction : t.Intrinsic → DataType → Type 0
    IsFunction (t.abs x) y = IsKinded x
    IsFunction (t.remainder x z o) y = IsOfKind x (Some (meaning.kind_of y)) × IsOfKind z (Some (meaning.kind_of y))
    IsFunction (t.modulo x z o) y = IsOfKind x (Some (meaning.kind_of y)) × IsOfKind z (Some (meaning.kind_of y))
    IsFunction (t.min es) y = AreOfKind es (Some (meaning.kind_of y))
    IsFunction (t.max es) y = AreOfKind es (Some (meaning.kind_of y))
    IsFunction t.huge y = Unit {0}
    IsFunction (t.int x) y = IsKinded x
    IsFunction (t.size x d o) y = IsInquired x × IsOptional d × Widens (Some kinds.I4) (kind_of y)
    IsFunction (t.lbound x d o) y = IsInquired x × IsKinded d × Widens (Some kinds.I4) (kind_of y)
    IsFunction (t.ubound x d o) y = IsInquired x × IsKinded d × Widens (Some kinds.I4) (kind_of y)
    IsFunction (t.allocated x) y = Widens (Some kinds.L4) (kind_of y)
    IsFunction (t.this_image which) y = IsOptional which × Widens (Some kinds.I4) (kind_of y)
    IsFunction (t.this_cosubscript c d which o) y = IsKinded d × IsOptional which × Widens (Some kinds.I4) (kind_of y)
    IsFunction (t.num_images which) y = IsOptional which × Widens (Some kinds.I4) (kind_of y)
    IsFunction (t.num_images_of_number x) y = IsKinded x × Widens (Some kinds.I4) (kind_of y)
    IsFunction (t.image_index c sub which o) y = IsKinded sub × IsOptional which × Widens (Some kinds.I4) (kind_of y)
    IsFunction (t.image_status i which o) y = IsKinded i × IsOptional which × Widens (Some kinds.I4) (kind_of y)
    IsFunction (t.failed_images which) y = IsOptional which × Widens (Some kinds.I4) (kind_of y)
    IsFunction (t.stopped_images which) y = IsOptional which × Widens (Some kinds.I4) (kind_of y)
    IsFunction (t.number_of_team which) y = IsOptional which
    IsFunction (t.get_team level) y = IsOptional level × Widens None (kind_of y)
