-- Statements whose parts are of the types and kinds that their places want (ISO/IEC 1539-1:2018, 9.7, 10.2.1, 11.1,
-- 11.6, 12.6, 16.5, 16.6, 16.9).
use Rattle.std.specs.Prelude.{◌≡◌, ◌⊎◌, true, List, [], ◌∷◌, Option, None, Some}
use Rattle.caf_base.specs.declared.value.Kind.{Kind}
use Rattle.caf_base.specs.declared.value.Kind.TheVariants as kinds
use Rattle.checked_tree.specs.declared.data.DataType.{DataType}
use Rattle.checked_tree.specs.declared.data.Local.{Local}
use Rattle.checked_tree.specs.declared.data.Object.TheVariants as objects
use Rattle.checked_tree.specs.Expressions as t
use Rattle.checked_tree.specs.Statements as s
use Rattle.object_rules.specs.Cells.{Declared}
use Rattle.tree_meaning.specs.Environment as meaning
use Rattle.tree_meaning.specs.Assignments.{narrows}
use Rattle.kind_walks.specs.Kinds.{Widens, Layout}
use Rattle.kind_expressions.specs.Kinded as kinded
use Rattle.kind_expressions.specs.Kinded.{kind_of, main_layout}

-- a value of the one type goes into a variable of the other: each number of the one is one of the other, or it is tested
-- (10.2.1.3)
abbrev pub Converts : DataType → DataType → Type 0
Converts from to = (narrows (meaning.kind_of from) (meaning.kind_of to) ≡ true) ⊎ Widens (kind_of from) (kind_of to)

abbrev pub a_status : Option Kind
a_status = Some kinds.I4

module _ (p : s.Program) (coarrays : List Declared) (own main : Layout) where
  abbrev pub IsKinded : t.Expression → Type 0
  IsKinded x = kinded.IsKinded p coarrays own main x

  abbrev pub IsOptional : t.OptionalExpression → Type 0
  IsOptional x = kinded.IsOptional p coarrays own main x

  abbrev pub AreSubscripts : t.Subscripts → Type 0
  AreSubscripts ss = kinded.AreSubscripts p coarrays own main ss

  abbrev pub IsSelector : t.Selector → Type 0
  IsSelector x = kinded.IsSelector p coarrays own main x

  abbrev pub IsResult : t.ResultVariable → Option Kind → Type 0
  IsResult r k = kinded.IsResult p coarrays own main r k

  abbrev pub IsOptionalResult : t.OptionalResult → Option Kind → Type 0
  IsOptionalResult r k = kinded.IsOptionalResult p coarrays own main r k

  -- the variable and the value of an assignment
  abbrev pub IsAssigned : t.Designator → DataType → t.Expression → Type 0
  IsAssigned (t.part (objects.Local v) ss sel) y (t.typed f z q) = kinded.HasKind p coarrays own main v (kind_of y) × AreSubscripts ss × Converts z y × kinded.IsForm p coarrays own main f z
  IsAssigned (t.part (objects.Coarray c) ss sel) y (t.typed f z q) = kinded.IsCoarray p coarrays own main c (kind_of y) × AreSubscripts ss × IsSelector sel × Converts z y × kinded.IsForm p coarrays own main f z
  IsAssigned (t.part (objects.Constant c) ss sel) y x = ⊥

  abbrev pub IsItem : s.Item → Type 0
  IsItem (s.literal n) = Unit {0}
  IsItem (s.value x) = IsKinded x

  abbrev pub AreItems : List s.Item → Type 0
  AreItems [] = Unit {0}
  AreItems (x ∷ xs) = IsItem x × AreItems xs

  abbrev pub AreBounds : List s.AllocatedBounds → Type 0
  AreBounds [] = Unit {0}
  AreBounds (b ∷ bs) = IsOptional b.lower × IsKinded b.upper × AreBounds bs

  abbrev pub IsAllocation : s.Allocation → Type 0
  IsAllocation (s.allocate_local v type bs) = AreBounds bs
  IsAllocation (s.allocate_coarray c bs cs l) = AreBounds bs × AreBounds cs × IsOptional l

  abbrev pub AreAllocations : List s.Allocation → Type 0
  AreAllocations [] = Unit {0}
  AreAllocations (x ∷ xs) = IsAllocation x × AreAllocations xs

  abbrev pub AreImages : s.ImageSet → Type 0
  AreImages s.all_images = Unit {0}
  AreImages (s.images x) = IsKinded x

  -- a lock, an event or an atom
  abbrev pub IsCell : t.Designator → Type 0
  IsCell (t.part o ss sel) = AreSubscripts ss × IsSelector sel

  -- an atom of this kind
  abbrev pub IsAtom : t.Designator → Kind → Type 0
  IsAtom (t.part (objects.Coarray c) ss sel) k = kinded.IsCoarray p coarrays own main c (Some k) × AreSubscripts ss × IsSelector sel
  IsAtom (t.part o ss sel) k = ⊥

  -- the argument of a collective
  abbrev pub IsCollected : t.Designator → Kind → Type 0
  IsCollected (t.part (objects.Local v) ss sel) k = kinded.HasKind p coarrays own main v (Some k) × AreSubscripts ss
  IsCollected (t.part (objects.Coarray c) ss sel) k = kinded.IsCoarray p coarrays own main c (Some k) × AreSubscripts ss
  IsCollected (t.part (objects.Constant c) ss sel) k = ⊥

  abbrev pub IsSubroutine : s.IntrinsicSubroutine → Type 0
  IsSubroutine (s.atomic_define d k x stat) = IsAtom d k × IsKinded x × IsOptionalResult stat a_status
  IsSubroutine (s.atomic_ref r d k stat) = IsResult r (Some k) × IsAtom d k × IsOptionalResult stat a_status
  IsSubroutine (s.atomic_change c d x stat) = IsAtom d kinds.I4 × IsKinded x × IsOptionalResult stat a_status
  IsSubroutine (s.atomic_fetch c d x old stat) = IsAtom d kinds.I4 × IsKinded x × IsResult old (Some kinds.I4) × IsOptionalResult stat a_status
  IsSubroutine (s.atomic_cas d k old x y stat) = IsAtom d k × IsResult old (Some k) × IsKinded x × IsKinded y × IsOptionalResult stat a_status
  IsSubroutine (s.event_query d count stat) = IsCell d × IsResult count (Some kinds.I4) × IsOptionalResult stat a_status
  IsSubroutine (s.combine c x root stat) = IsCollected x.variable x.kind × IsOptional root × IsOptionalResult stat a_status
  IsSubroutine (s.broadcast x root stat) = IsCollected x.variable x.kind × IsKinded root × IsOptionalResult stat a_status

  -- a variable of TEAM_TYPE
  abbrev pub IsTeamVariable : Local → Type 0
  IsTeamVariable v = kinded.HasKind p coarrays own main v None

  abbrev mutual
    pub IsStatement : s.StatementForm → Type 0
    IsStatement (s.assign d y r x) = IsAssigned d y x
    IsStatement (s.assign_images v k images which) = kinded.HasKind p coarrays own main v (Some k) × Widens (Some kinds.I4) (Some k) × IsOptional which
    IsStatement (s.call n es) = kinded.ArePassed p coarrays own main (kinded.procedure_at p.procedures n).unit.variables (kinded.procedure_at p.procedures n).dummies es
    IsStatement (s.call_intrinsic i w) = IsSubroutine i
    IsStatement (s.print f items) = AreItems items
    IsStatement (s.exit n) = Unit {0}
    IsStatement (s.cycle n) = Unit {0}
    IsStatement s.return = Unit {0}
    IsStatement (s.stop code) = IsOptional code
    IsStatement (s.error_stop code) = IsOptional code
    IsStatement s.fail_image = Unit {0}
    IsStatement (s.allocate xs stat) = AreAllocations xs × IsOptionalResult stat a_status
    IsStatement (s.deallocate xs stat) = IsOptionalResult stat a_status
    IsStatement (s.sync_all stat) = IsOptionalResult stat a_status
    IsStatement (s.sync_memory stat) = IsOptionalResult stat a_status
    IsStatement (s.sync_images is stat) = AreImages is × IsOptionalResult stat a_status
    IsStatement (s.sync_team x stat) = IsKinded x × IsOptionalResult stat a_status
    IsStatement (s.form_team x v index stat order) = IsKinded x × IsTeamVariable v × IsOptional index × IsOptionalResult stat a_status
    IsStatement (s.lock d acquired stat order) = IsCell d × IsOptionalResult acquired (Some kinds.L4) × IsOptionalResult stat a_status
    IsStatement (s.unlock d stat) = IsCell d × IsOptionalResult stat a_status
    IsStatement (s.event_post d stat) = IsCell d × IsOptionalResult stat a_status
    IsStatement (s.event_wait d until stat order) = IsCell d × IsOptional until × IsOptionalResult stat a_status
    IsStatement (s.if x body others none) = IsKinded x × AreStatements body × AreElseIfs others × AreStatements none
    IsStatement (s.do_counted v k first last step n body) = kinded.HasKind p coarrays own main v (Some k) × IsKinded first × IsKinded last × IsOptional step × AreStatements body
    IsStatement (s.do_while x body) = IsKinded x × AreStatements body
    IsStatement (s.do_forever body) = AreStatements body
    IsStatement (s.select x n cs none) = IsKinded x × AreCases cs × AreStatements none
    IsStatement (s.critical n stat body m) = IsOptionalResult stat a_status × AreStatements body
    IsStatement (s.change_team x stat body end_stat m) = IsKinded x × IsOptionalResult stat a_status × AreStatements body × IsOptionalResult end_stat a_status

    pub AreStatements : s.Statements → Type 0
    AreStatements s.no_statements = Unit {0}
    AreStatements (s.more_statements (s.on_line f l) ss) = IsStatement f × AreStatements ss

    pub AreElseIfs : s.ElseIfs → Type 0
    AreElseIfs s.no_else_ifs = Unit {0}
    AreElseIfs (s.more_else_ifs x body l others) = IsKinded x × AreStatements body × AreElseIfs others

    pub AreCases : s.Cases → Type 0
    AreCases s.no_cases = Unit {0}
    AreCases (s.more_cases rs body l others) = AreStatements body × AreCases others

-- each statement of a program, and of each of its procedures
abbrev pub AreProcedures : (p : s.Program) → List Declared → List s.Procedure → Type 0
AreProcedures p coarrays [] = Unit {0}
AreProcedures p coarrays (q ∷ qs) = AreStatements p coarrays (kinded.unit_layout q.unit) (main_layout p) q.unit.statements × AreProcedures p coarrays qs

abbrev pub IsKindedProgram : List Declared → s.Program → Type 0
IsKindedProgram coarrays p = AreStatements p coarrays (main_layout p) (main_layout p) p.main.statements × AreProcedures p coarrays p.procedures
