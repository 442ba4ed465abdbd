-- Where each coarray may be read, each program reads those alone.
use Rattle.std.proofs.Common.{◌≡◌, ℕ, Bool, true, List, [], ◌∷◌}
use Rattle.checked_tree.specs.declared.data.Object.{Object}
use Rattle.checked_tree.specs.declared.data.Object.TheVariants as objects
use Rattle.checked_tree.specs.Expressions as t
use Rattle.checked_tree.specs.Statements as s
use Rattle.cell_statements.specs.Reading.{MayBeRead, ExpressionReads, FormReads, AllRead, OptionalReads, SubscriptsRead, SubscriptReads, PartReads, PlaceReads, SelectorReads, TeamReads, ResultReads, StatReads, ArgumentsRead, ArgumentReads, BoundsRead, IntrinsicReads, ItemsRead, AllBoundsRead, AllocationReads, AllocationsRead, ImagesRead, SubroutineReads, StatementReads, StatementsRead, ElseIfsRead, CasesRead, ProceduresRead, ProgramReads}

module _ (readable : ℕ → Bool) (all : (k : ℕ) → readable k ≡ true) where
  object : (o : Object) → MayBeRead readable o
  object (objects.Coarray c) = all c
  object (objects.Local v) = tt
  object (objects.Constant n) = tt

  mutual
    expression : (x : t.Expression) → ExpressionReads readable x
    expression (t.typed f type r) = form f

    form : (f : t.Form) → FormReads readable f
    form (t.number z) = tt
    form (t.logical b) = tt
    form (t.designator d) = part d
    form (t.call n es) = arguments es
    form (t.intrinsic i) = intrinsic i
    form (t.parenthesized x) = expression x
    form (t.array_constructor es) = expressions es
    form (t.plus x) = expression x
    form (t.minus x) = expression x
    form (t.not x) = expression x
    form (t.arithmetic o x y) = (expression x, expression y)
    form (t.relation o x y) = (expression x, expression y)
    form (t.logic o x y) = (expression x, expression y)

    expressions : (es : t.Expressions) → AllRead readable es
    expressions t.no_expressions = tt
    expressions (t.more_expressions x es) = (expression x, expressions es)

    optional : (x : t.OptionalExpression) → OptionalReads readable x
    optional t.missing = tt
    optional (t.given x) = expression x

    subscripts : (ss : t.Subscripts) → SubscriptsRead readable ss
    subscripts t.no_subscripts = tt
    subscripts (t.more_subscripts x ss) = (subscript x, subscripts ss)

    subscript : (x : t.Subscript) → SubscriptReads readable x
    subscript (t.element x) = expression x
    subscript (t.triplet l u x) = (optional l, optional u, optional x)

    part : (d : t.Designator) → PartReads readable d
    part (t.part o ss sel) = (object o, subscripts ss, selector sel)

    place : (d : t.Designator) → PlaceReads readable d
    place (t.part o ss sel) = (subscripts ss, selector sel)

    selector : (sel : t.Selector) → SelectorReads readable sel
    selector t.no_selector = tt
    selector (t.selector cs which stat) = (expressions cs, team which, status stat)

    team : (w : t.SelectedTeam) → TeamReads readable w
    team t.current = tt
    team (t.team x) = expression x
    team (t.team_number x) = expression x

    result : (x : t.ResultVariable) → ResultReads readable x
    result (t.result_variable v es k) = expressions es

    status : (x : t.OptionalResult) → StatReads readable x
    status t.no_result = tt
    status (t.result x) = result x

    arguments : (es : t.Arguments) → ArgumentsRead readable es
    arguments t.no_arguments = tt
    arguments (t.more_arguments x es) = (argument x, arguments es)

    argument : (x : t.Argument) → ArgumentReads readable x
    argument (t.value x) = expression x
    argument (t.variable d) = place d

    bounds : (x : t.Expression) → BoundsRead readable x
    bounds (t.typed (t.designator d) type r) = place d
    bounds (t.typed f type r) = form f

    intrinsic : (i : t.Intrinsic) → IntrinsicReads readable i
    intrinsic (t.abs x) = expression x
    intrinsic (t.remainder x y o) = (expression x, expression y)
    intrinsic (t.modulo x y o) = (expression x, expression y)
    intrinsic (t.min es) = expressions es
    intrinsic (t.max es) = expressions es
    intrinsic t.huge = tt
    intrinsic (t.int x) = expression x
    intrinsic (t.size x d o) = (bounds x, optional d)
    intrinsic (t.lbound x d o) = (bounds x, expression d)
    intrinsic (t.ubound x d o) = (bounds x, expression d)
    intrinsic (t.allocated x) = tt
    intrinsic (t.this_image which) = optional which
    intrinsic (t.this_cosubscript c d which o) = (expression d, optional which)
    intrinsic (t.num_images which) = optional which
    intrinsic (t.num_images_of_number n) = expression n
    intrinsic (t.image_index c sub which o) = (expression sub, optional which)
    intrinsic (t.image_status i which o) = (expression i, optional which)
    intrinsic (t.failed_images which) = optional which
    intrinsic (t.stopped_images which) = optional which
    intrinsic (t.number_of_team which) = optional which
    intrinsic (t.get_team level) = optional level

  -- ---- statements
  items : (xs : List s.Item) → ItemsRead readable xs
  items [] = tt
  items (s.literal n ∷ xs) = items xs
  items (s.value x ∷ xs) = (expression x, items xs)

  all_bounds : (bs : List s.AllocatedBounds) → AllBoundsRead readable bs
  all_bounds [] = tt
  all_bounds (b ∷ bs) = (optional b.lower, expression b.upper, all_bounds bs)

  allocation : (x : s.Allocation) → AllocationReads readable x
  allocation (s.allocate_local v type bs) = all_bounds bs
  allocation (s.allocate_coarray c bs cs l) = (all_bounds bs, all_bounds cs, optional l)

  allocations : (xs : List s.Allocation) → AllocationsRead readable xs
  allocations [] = tt
  allocations (x ∷ xs) = (allocation x, allocations xs)

  image_set : (x : s.ImageSet) → ImagesRead readable x
  image_set s.all_images = tt
  image_set (s.images x) = expression x

  subroutine : (i : s.IntrinsicSubroutine) → SubroutineReads readable i
  subroutine (s.atomic_define d k x stat) = (place d, expression x, status stat)
  subroutine (s.atomic_ref r d k stat) = (result r, place d, status stat)
  subroutine (s.atomic_change c d x stat) = (place d, expression x, status stat)
  subroutine (s.atomic_fetch c d x old stat) = (place d, expression x, result old, status stat)
  subroutine (s.atomic_cas d k old x y stat) = (place d, result old, expression x, expression y, status stat)
  subroutine (s.event_query d count stat) = (place d, result count, status stat)
  subroutine (s.combine c x root stat) = (part x.variable, optional root, status stat)
  subroutine (s.broadcast x root stat) = (part x.variable, expression root, status stat)

  mutual
    statement : (f : s.StatementForm) → StatementReads readable f
    statement (s.assign d type r x) = (place d, expression x)
    statement (s.assign_images v k images which) = optional which
    statement (s.call n es) = arguments es
    statement (s.call_intrinsic i w) = subroutine i
    statement (s.print f xs) = items xs
    statement (s.exit n) = tt
    statement (s.cycle n) = tt
    statement s.return = tt
    statement (s.stop code) = optional code
    statement (s.error_stop code) = optional code
    statement s.fail_image = tt
    statement (s.allocate xs stat) = (allocations xs, status stat)
    statement (s.deallocate xs stat) = status stat
    statement (s.sync_all stat) = status stat
    statement (s.sync_memory stat) = status stat
    statement (s.sync_images is stat) = (image_set is, status stat)
    statement (s.sync_team x stat) = (expression x, status stat)
    statement (s.form_team x v index stat order) = (expression x, optional index, status stat)
    statement (s.lock d acquired stat order) = (place d, status acquired, status stat)
    statement (s.unlock d stat) = (place d, status stat)
    statement (s.event_post d stat) = (place d, status stat)
    statement (s.event_wait d until stat order) = (place d, optional until, status stat)
    statement (s.if x body others none') = (expression x, statements body, else_ifs others, statements none')
    statement (s.do_counted v k first last step n body) = (expression first, expression last, optional step, statements body)
    statement (s.do_while x body) = (expression x, statements body)
    statement (s.do_forever body) = statements body
    statement (s.select x n cs none') = (expression x, cases cs, statements none')
    statement (s.critical n stat body m) = (status stat, statements body)
    statement (s.change_team x stat body end_stat m) = (expression x, status stat, statements body, status end_stat)

    statements : (ss : s.Statements) → StatementsRead readable ss
    statements s.no_statements = tt
    statements (s.more_statements (s.on_line f l) ss) = (statement f, statements ss)

    else_ifs : (xs : s.ElseIfs) → ElseIfsRead readable xs
    else_ifs s.no_else_ifs = tt
    else_ifs (s.more_else_ifs x body l others) = (expression x, statements body, else_ifs others)

    cases : (cs : s.Cases) → CasesRead readable cs
    cases s.no_cases = tt
    cases (s.more_cases rs body l others) = (statements body, cases others)

  procedures : (qs : List s.Procedure) → ProceduresRead readable qs
  procedures [] = tt
  procedures (q ∷ qs) = (statements q.unit.statements, procedures qs)

  pub program_reads : (p : s.Program) → ProgramReads readable p
  program_reads p = (statements p.main.statements, procedures p.procedures)
