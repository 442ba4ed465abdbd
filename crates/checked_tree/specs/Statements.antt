-- Typed statements and programs as plain data: the checked tree without its memory (ISO/IEC 1539-1:2018).
use Rattle.std.specs.Prelude.{ℕ, List, Option}
use Rattle.caf_base.specs.declared.value.Kind.{Kind}
use Rattle.checked_tree.specs.Expressions.{Expression, OptionalExpression, Designator, OptionalResult, ResultVariable, Arguments}
use Rattle.checked_tree.specs.declared.data.DataType.{DataType}
use Rattle.checked_tree.specs.declared.data.Local.{Local}
use Rattle.checked_tree.specs.declared.data.Object.{Object}
use Rattle.checked_tree.specs.declared.data.Variable.{Variable}
use Rattle.checked_tree.specs.declared.data.Constant.{Constant}
use Rattle.checked_tree.specs.declared.expr.WrittenOrder.{WrittenOrder}
use Rattle.checked_tree.specs.declared.action.WrittenArguments.{WrittenArguments}
use Rattle.checked_tree.specs.declared.action.AtomicChange.{AtomicChange}
use Rattle.checked_tree.specs.declared.action.Combination.{Combination}
use Rattle.checked_tree.specs.declared.format.Descriptor.{Descriptor}
use Rattle.checked_tree.specs.declared.statement.ListedImages.{ListedImages}
use Rattle.checked_tree.specs.declared.statement.CaseRange.{CaseRange}
use Rattle.checked_tree.specs.declared.program.Dummy.{Dummy}

-- the argument of a collective: its kind and rank
pub record Collected : Type 0 where
  pub variable : Designator
  pub kind : Kind
  pub rank : ℕ

-- a call of an intrinsic subroutine, its arguments bound (16.9)
pub data IntrinsicSubroutine : Type 0 where
  atomic_define : Designator → Kind → Expression → OptionalResult → IntrinsicSubroutine
  atomic_ref : ResultVariable → Designator → Kind → OptionalResult → IntrinsicSubroutine
  atomic_change : AtomicChange → Designator → Expression → OptionalResult → IntrinsicSubroutine
  atomic_fetch : AtomicChange → Designator → Expression → ResultVariable → OptionalResult → IntrinsicSubroutine
  atomic_cas : Designator → Kind → ResultVariable → Expression → Expression → OptionalResult → IntrinsicSubroutine
  event_query : Designator → ResultVariable → OptionalResult → IntrinsicSubroutine
  combine : Combination → Collected → OptionalExpression → OptionalResult → IntrinsicSubroutine
  broadcast : Collected → Expression → OptionalResult → IntrinsicSubroutine

-- bounds in ALLOCATE (9.7.1.1), with the lower one where it is written
pub record AllocatedBounds : Type 0 where
  pub lower : OptionalExpression
  pub upper : Expression

-- an object of ALLOCATE (9.7.1.1)
pub data Allocation : Type 0 where
  allocate_local : Local → DataType → List AllocatedBounds → Allocation
  allocate_coarray : ℕ → List AllocatedBounds → List AllocatedBounds → OptionalExpression → Allocation

-- the images of SYNC IMAGES (R1167)
pub data ImageSet : Type 0 where
  all_images : ImageSet
  images : Expression → ImageSet

-- the format of a PRINT statement: free, or the number of its literal with its items
pub data Format : Type 0 where
  free : Format
  written : ℕ → List Descriptor → Format

-- an output item: a literal by its number, or a value
pub data Item : Type 0 where
  literal : ℕ → Item
  value : Expression → Item

mutual
  -- a statement (5.1) or construct (11.1), with its line
  pub data Statement : Type 0 where
    on_line : StatementForm → ℕ → Statement

  pub data StatementForm : Type 0 where
    assign : Designator → DataType → ℕ → Expression → StatementForm
    assign_images : Local → Kind → ListedImages → OptionalExpression → StatementForm
    call : ℕ → Arguments → StatementForm
    call_intrinsic : IntrinsicSubroutine → WrittenArguments → StatementForm
    print : Format → List Item → StatementForm
    exit : ℕ → StatementForm
    cycle : ℕ → StatementForm
    return : StatementForm
    stop : OptionalExpression → StatementForm
    error_stop : OptionalExpression → StatementForm
    fail_image : StatementForm
    allocate : List Allocation → OptionalResult → StatementForm
    deallocate : List Object → OptionalResult → StatementForm
    sync_all : OptionalResult → StatementForm
    sync_memory : OptionalResult → StatementForm
    sync_images : ImageSet → OptionalResult → StatementForm
    sync_team : Expression → OptionalResult → StatementForm
    form_team : Expression → Local → OptionalExpression → OptionalResult → WrittenOrder → StatementForm
    lock : Designator → OptionalResult → OptionalResult → WrittenOrder → StatementForm
    unlock : Designator → OptionalResult → StatementForm
    event_post : Designator → OptionalResult → StatementForm
    event_wait : Designator → OptionalExpression → OptionalResult → WrittenOrder → StatementForm
    if : Expression → Statements → ElseIfs → Statements → StatementForm
    do_counted : Local → Kind → Expression → Expression → OptionalExpression → ℕ → Statements → StatementForm
    do_while : Expression → Statements → StatementForm
    do_forever : Statements → StatementForm
    select : Expression → ℕ → Cases → Statements → StatementForm
    critical : ℕ → OptionalResult → Statements → ℕ → StatementForm
    change_team : Expression → OptionalResult → Statements → OptionalResult → ℕ → StatementForm

  pub data Statements : Type 0 where
    no_statements : Statements
    more_statements : Statement → Statements → Statements

  -- ELSE IF blocks, each with its line
  pub data ElseIfs : Type 0 where
    no_else_ifs : ElseIfs
    more_else_ifs : Expression → Statements → ℕ → ElseIfs → ElseIfs

  -- CASE blocks, each with its ranges and its line
  pub data Cases : Type 0 where
    no_cases : Cases
    more_cases : List CaseRange → Statements → ℕ → Cases → Cases

-- the main program or a procedure
pub record Unit' : Type 0 where
  pub variables : List Variable
  pub hidden : ℕ
  pub statements : Statements

pub record Procedure : Type 0 where
  pub name : List ℕ
  pub dummies : List Dummy
  pub answer : Option ℕ
  pub unit : Unit'

pub record Program : Type 0 where
  pub main : Unit'
  pub end_line : ℕ
  pub procedures : List Procedure
  pub coarrays : List ℕ
  pub constants : List Constant
  pub literals : List (List ℕ)
  pub criticals : ℕ
