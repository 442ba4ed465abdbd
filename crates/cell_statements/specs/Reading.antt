-- That a program reads those coarrays alone that may be read (ISO/IEC 1539-1:2018, 9.6). Of an array whose bounds alone
-- are wanted nothing is read, where it is a variable or a part of one (16.9.109, 16.9.179, 16.9.196).
use Rattle.std.specs.Prelude.{◌≡◌, ℕ, Bool, true, List, [], ◌∷◌}
use Rattle.checked_tree.specs.declared.data.Object.{Object}
use Rattle.checked_tree.specs.declared.data.Object.TheVariants as objects
use Rattle.checked_tree.specs.Expressions as t
use Rattle.checked_tree.specs.Statements as s

module _ (readable : ℕ → Bool) where
  -- no coarray, or one that may be read
  abbrev pub MayBeRead : Object → Type 0
  MayBeRead (objects.Coarray c) = readable c ≡ true
  MayBeRead (objects.Local v) = Unit {0}
  MayBeRead (objects.Constant n) = Unit {0}

  abbrev mutual
    -- each coarray that the expression reads may be read
    pub ExpressionReads : t.Expression → Type 0
    ExpressionReads (t.typed f type r) = FormReads f

    pub FormReads : t.Form → Type 0
    FormReads (t.number z) = Unit {0}
    FormReads (t.logical b) = Unit {0}
    FormReads (t.designator d) = PartReads d
    FormReads (t.call n es) = ArgumentsRead es
    FormReads (t.intrinsic i) = IntrinsicReads i
    FormReads (t.parenthesized x) = ExpressionReads x
    FormReads (t.array_constructor es) = AllRead es
    FormReads (t.plus x) = ExpressionReads x
    FormReads (t.minus x) = ExpressionReads x
    FormReads (t.not x) = ExpressionReads x
    FormReads (t.arithmetic o x y) = ExpressionReads x × ExpressionReads y
    FormReads (t.relation o x y) = ExpressionReads x × ExpressionReads y
    FormReads (t.logic o x y) = ExpressionReads x × ExpressionReads y

    pub AllRead : t.Expressions → Type 0
    AllRead t.no_expressions = Unit {0}
    AllRead (t.more_expressions x es) = ExpressionReads x × AllRead es

    pub OptionalReads : t.OptionalExpression → Type 0
    OptionalReads t.missing = Unit {0}
    OptionalReads (t.given x) = ExpressionReads x

    pub SubscriptsRead : t.Subscripts → Type 0
    SubscriptsRead t.no_subscripts = Unit {0}
    SubscriptsRead (t.more_subscripts x ss) = SubscriptReads x × SubscriptsRead ss

    pub SubscriptReads : t.Subscript → Type 0
    SubscriptReads (t.element x) = ExpressionReads x
    SubscriptReads (t.triplet l u x) = OptionalReads l × OptionalReads u × OptionalReads x

    -- a variable that is read, and one whose place alone is wanted
    pub PartReads : t.Designator → Type 0
    PartReads (t.part o ss sel) = MayBeRead o × SubscriptsRead ss × SelectorReads sel

    pub PlaceReads : t.Designator → Type 0
    PlaceReads (t.part o ss sel) = SubscriptsRead ss × SelectorReads sel

    pub SelectorReads : t.Selector → Type 0
    SelectorReads t.no_selector = Unit {0}
    SelectorReads (t.selector cs which stat) = AllRead cs × TeamReads which × StatReads stat

    pub TeamReads : t.SelectedTeam → Type 0
    TeamReads t.current = Unit {0}
    TeamReads (t.team x) = ExpressionReads x
    TeamReads (t.team_number x) = ExpressionReads x

    pub ResultReads : t.ResultVariable → Type 0
    ResultReads (t.result_variable v es k) = AllRead es

    pub StatReads : t.OptionalResult → Type 0
    StatReads t.no_result = Unit {0}
    StatReads (t.result x) = ResultReads x

    pub ArgumentsRead : t.Arguments → Type 0
    ArgumentsRead t.no_arguments = Unit {0}
    ArgumentsRead (t.more_arguments x es) = ArgumentReads x × ArgumentsRead es

    pub ArgumentReads : t.Argument → Type 0
    ArgumentReads (t.value x) = ExpressionReads x
    ArgumentReads (t.variable d) = PlaceReads d

    -- an array whose bounds are wanted
    pub BoundsRead : t.Expression → Type 0
    BoundsRead (t.typed (t.designator d) type r) = PlaceReads d
    BoundsRead (t.typed f type r) = FormReads f

    pub IntrinsicReads : t.Intrinsic → Type 0
    IntrinsicReads (t.abs x) = ExpressionReads x
    IntrinsicReads (t.remainder x y o) = ExpressionReads x × ExpressionReads y
    IntrinsicReads (t.modulo x y o) = ExpressionReads x × ExpressionReads y
    IntrinsicReads (t.min es) = AllRead es
    IntrinsicReads (t.max es) = AllRead es
    IntrinsicReads t.huge = Unit {0}
    IntrinsicReads (t.int x) = ExpressionReads x
    IntrinsicReads (t.size x d o) = BoundsRead x × OptionalReads d
    IntrinsicReads (t.lbound x d o) = BoundsRead x × ExpressionReads d
    IntrinsicReads (t.ubound x d o) = BoundsRead x × ExpressionReads d
    IntrinsicReads (t.allocated x) = Unit {0}
    IntrinsicReads (t.this_image which) = OptionalReads which
    IntrinsicReads (t.this_cosubscript c d which o) = ExpressionReads d × OptionalReads which
    IntrinsicReads (t.num_images which) = OptionalReads which
    IntrinsicReads (t.num_images_of_number n) = ExpressionReads n
    IntrinsicReads (t.image_index c sub which o) = ExpressionReads sub × OptionalReads which
    IntrinsicReads (t.image_status i which o) = ExpressionReads i × OptionalReads which
    IntrinsicReads (t.failed_images which) = OptionalReads which
    IntrinsicReads (t.stopped_images which) = OptionalReads which
    IntrinsicReads (t.number_of_team which) = OptionalReads which
    IntrinsicReads (t.get_team level) = OptionalReads level

  -- ---- statements
  abbrev pub ItemsRead : List s.Item → Type 0
  ItemsRead [] = Unit {0}
  ItemsRead (s.literal n ∷ xs) = ItemsRead xs
  ItemsRead (s.value x ∷ xs) = ExpressionReads x × ItemsRead xs

  abbrev pub AllBoundsRead : List s.AllocatedBounds → Type 0
  AllBoundsRead [] = Unit {0}
  AllBoundsRead (b ∷ bs) = OptionalReads b.lower × ExpressionReads b.upper × AllBoundsRead bs

  abbrev pub AllocationReads : s.Allocation → Type 0
  AllocationReads (s.allocate_local v type bs) = AllBoundsRead bs
  AllocationReads (s.allocate_coarray c bs cs l) = AllBoundsRead bs × AllBoundsRead cs × OptionalReads l

  abbrev pub AllocationsRead : List s.Allocation → Type 0
  AllocationsRead [] = Unit {0}
  AllocationsRead (x ∷ xs) = AllocationReads x × AllocationsRead xs

  abbrev pub ImagesRead : s.ImageSet → Type 0
  ImagesRead s.all_images = Unit {0}
  ImagesRead (s.images x) = ExpressionReads x

  -- the argument of a collective is read
  abbrev pub SubroutineReads : s.IntrinsicSubroutine → Type 0
  SubroutineReads (s.atomic_define d k x stat) = PlaceReads d × ExpressionReads x × StatReads stat
  SubroutineReads (s.atomic_ref r d k stat) = ResultReads r × PlaceReads d × StatReads stat
  SubroutineReads (s.atomic_change c d x stat) = PlaceReads d × ExpressionReads x × StatReads stat
  SubroutineReads (s.atomic_fetch c d x old stat) = PlaceReads d × ExpressionReads x × ResultReads old × StatReads stat
  SubroutineReads (s.atomic_cas d k old x y stat) = PlaceReads d × ResultReads old × ExpressionReads x × ExpressionReads y × StatReads stat
  SubroutineReads (s.event_query d count stat) = PlaceReads d × ResultReads count × StatReads stat
  SubroutineReads (s.combine c x root stat) = PartReads x.variable × OptionalReads root × StatReads stat
  SubroutineReads (s.broadcast x root stat) = PartReads x.variable × ExpressionReads root × StatReads stat

  abbrev mutual
    pub StatementReads : s.StatementForm → Type 0
    StatementReads (s.assign d type r x) = PlaceReads d × ExpressionReads x
    StatementReads (s.assign_images v k images which) = OptionalReads which
    StatementReads (s.call n es) = ArgumentsRead es
    StatementReads (s.call_intrinsic i w) = SubroutineReads i
    StatementReads (s.print f items) = ItemsRead items
    StatementReads (s.exit n) = Unit {0}
    StatementReads (s.cycle n) = Unit {0}
    StatementReads s.return = Unit {0}
    StatementReads (s.stop code) = OptionalReads code
    StatementReads (s.error_stop code) = OptionalReads code
    StatementReads s.fail_image = Unit {0}
    StatementReads (s.allocate xs stat) = AllocationsRead xs × StatReads stat
    StatementReads (s.deallocate xs stat) = StatReads stat
    StatementReads (s.sync_all stat) = StatReads stat
    StatementReads (s.sync_memory stat) = StatReads stat
    StatementReads (s.sync_images is stat) = ImagesRead is × StatReads stat
    StatementReads (s.sync_team x stat) = ExpressionReads x × StatReads stat
    StatementReads (s.form_team x v index stat order) = ExpressionReads x × OptionalReads index × StatReads stat
    StatementReads (s.lock d acquired stat order) = PlaceReads d × StatReads acquired × StatReads stat
    StatementReads (s.unlock d stat) = PlaceReads d × StatReads stat
    StatementReads (s.event_post d stat) = PlaceReads d × StatReads stat
    StatementReads (s.event_wait d until stat order) = PlaceReads d × OptionalReads until × StatReads stat
    StatementReads (s.if x body others none) = ExpressionReads x × StatementsRead body × ElseIfsRead others × StatementsRead none
    StatementReads (s.do_counted v k first last step n body) = ExpressionReads first × ExpressionReads last × OptionalReads step × StatementsRead body
    StatementReads (s.do_while x body) = ExpressionReads x × StatementsRead body
    StatementReads (s.do_forever body) = StatementsRead body
    StatementReads (s.select x n cs none) = ExpressionReads x × CasesRead cs × StatementsRead none
    StatementReads (s.critical n stat body m) = StatReads stat × StatementsRead body
    StatementReads (s.change_team x stat body end_stat m) = ExpressionReads x × StatReads stat × StatementsRead body × StatReads end_stat

    pub StatementsRead : s.Statements → Type 0
    StatementsRead s.no_statements = Unit {0}
    StatementsRead (s.more_statements (s.on_line f l) ss) = StatementReads f × StatementsRead ss

    pub ElseIfsRead : s.ElseIfs → Type 0
    ElseIfsRead s.no_else_ifs = Unit {0}
    ElseIfsRead (s.more_else_ifs x body l others) = ExpressionReads x × StatementsRead body × ElseIfsRead others

    pub CasesRead : s.Cases → Type 0
    CasesRead s.no_cases = Unit {0}
    CasesRead (s.more_cases rs body l others) = StatementsRead body × CasesRead others

  abbrev pub ProceduresRead : List s.Procedure → Type 0
  ProceduresRead [] = Unit {0}
  ProceduresRead (q ∷ qs) = StatementsRead q.unit.statements × ProceduresRead qs

  -- each statement of the program, and of each of its procedures
  abbrev pub ProgramReads : s.Program → Type 0
  ProgramReads p = StatementsRead p.main.statements × ProceduresRead p.procedures
