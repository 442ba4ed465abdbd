-- What blocks that are being read stand for: the parts of what has been read, and a place.
use Rattle.std.specs.Prelude.{ℕ, ◌≡◌, true, List, [], ◌∷◌, length}
use Rattle.fortran_tree.specs.declared.action.Action.{Action}
use Rattle.fortran_tree.specs.ExpressionViews.{expression, specifiers}
use Rattle.fortran_tree.specs.ActionViews.{action_statement}
use Rattle.fortran_tree.specs.StatementViews.{loop_control, case_selector, bracketed_specifier, statement_list, else_ifs, case_blocks}
use Rattle.statement_reader.specs.Parts as f
use Rattle.statement_reader.specs.Parts.{Part}
use Rattle.program_reader.specs.Sequence as q
use Rattle.program_reader.specs.Sequence.{Scope, Open, State, allowed, staged, next}
use Rattle.program_reader.specs.Nesting.{action_parts, statements_parts, else_if_parts, case_parts}
use Rattle.program_tree.specs.declared.construct.IfPart.{IfPart}
use Rattle.program_tree.specs.declared.construct.Cases.{Cases}
use Rattle.program_tree.specs.declared.construct.Construct.{Construct}
use Rattle.program_tree.specs.declared.construct.Construct.TheVariants as c
use Rattle.program_tree.specs.declared.block.Condition.{Condition}
use Rattle.program_tree.specs.declared.block.Begun.{Begun}
use Rattle.program_tree.specs.declared.block.Begun.TheVariants as begun
use Rattle.program_tree.specs.declared.block.Frame.{Frame}
use Rattle.program_tree.specs.declared.block.Block.{Block}
use Rattle.program_tree.specs.Following.{has_form}

-- The parts of what has been read, with those that stand behind it.

abbrev pub if_front : IfPart → List Part → List Part
if_front p es = f.if_part (expression p.condition) p.at ∷ statements_parts (statement_list p.body.items) (else_if_parts (else_ifs p.else_ifs.items) es)

abbrev pub cases_front : Cases → List Part → List Part
cases_front x es = f.select_part (expression x.expression) x.at ∷ case_parts (case_blocks x.cases.items) es

abbrev pub construct_front : Construct → List Part → List Part
construct_front (c.If e at) es = f.if_part (expression e) at ∷ es
construct_front (c.ElseIf p e at) es = if_front p (f.else_if_part (expression e) at ∷ es)
construct_front (c.Else p at) es = if_front p (f.else_part at ∷ es)
construct_front (c.Do n k at) es = f.do_part n (loop_control k) at ∷ es
construct_front (c.Case e at cases x there) es = f.select_part (expression e) at ∷ case_parts (case_blocks cases.items) (f.case_part (case_selector x) there ∷ es)
construct_front (c.Critical x at) es = f.critical_part (bracketed_specifier x) at ∷ es
construct_front (c.Team e ps at) es = f.team_part (expression e) (specifiers ps.items) at ∷ es

abbrev pub frames_front : List Frame → List Part → List Part
frames_front [] es = es
frames_front (x ∷ xs) es = statements_parts (statement_list x.before.items) (construct_front x.construct (frames_front xs es))

abbrev pub conditions_front : List Condition → List Part → List Part
conditions_front [] es = es
conditions_front (x ∷ xs) es = f.condition_part (expression x.condition) x.at ∷ conditions_front xs es

abbrev pub begun_front : Begun → List Part → List Part
begun_front (begun.Line cs) es = conditions_front cs.items es
begun_front (begun.Select e at) es = f.select_part (expression e) at ∷ es

abbrev pub block_front : Block → List Part → List Part
block_front b es = frames_front b.frames.items (statements_parts (statement_list b.statements.items) (begun_front b.begun es))

abbrev pub action_front : Action → List Part → List Part
action_front a es = action_parts (action_statement a.form) a.at es

-- The place behind it.

abbrev pub open_of : Construct → Open
open_of (c.If e at) = q.if_open at
open_of (c.ElseIf p e at) = q.if_open p.at
open_of (c.Else p at) = q.else_open p.at
open_of (c.Do n k at) = q.do_open at
open_of (c.Case e at cases x there) = q.case_open at
open_of (c.Critical x at) = q.critical_open at
open_of (c.Team e ps at) = q.team_open at

-- what is open within what is open already, the innermost first
abbrev pub opens : List Frame → List Open → List Open
opens [] os = os
opens (x ∷ xs) os = opens xs (open_of x.construct ∷ os)

abbrev pub begun_opens : Begun → List Open → List Open
begun_opens (begun.Line cs) os = os
begun_opens (begun.Select e at) os = q.select_open at ∷ os

abbrev pub begun_conditions : Begun → ℕ
begun_conditions (begun.Line cs) = length cs.items
begun_conditions (begun.Select e at) = 0

-- in this unit
abbrev pub place : Scope → Block → State
place k b = record { scope = k; blocks = begun_opens b.begun (opens b.frames.items []); conditions = begun_conditions b.begun }

-- a statement of which nothing has been read
abbrev pub IsClear : Begun → Type 0
IsClear (begun.Line cs) = cs.items ≡ []
IsClear (begun.Select e at) = ⊥

-- a line of which conditions have been read, or nothing
abbrev pub IsLine : Begun → Type 0
IsLine (begun.Line cs) = Unit {0}
IsLine (begun.Select e at) = ⊥

-- behind THEN or ELSE IF
abbrev pub IsThen : Construct → Type 0
IsThen (c.If e at) = Unit {0}
IsThen (c.ElseIf p e at) = Unit {0}
IsThen x = ⊥

abbrev pub IsIf : Construct → Type 0
IsIf (c.If e at) = Unit {0}
IsIf (c.ElseIf p e at) = Unit {0}
IsIf (c.Else p at) = Unit {0}
IsIf x = ⊥

abbrev pub IsDo : Construct → Type 0
IsDo (c.Do n k at) = Unit {0}
IsDo x = ⊥

abbrev pub IsCase : Construct → Type 0
IsCase (c.Case e at cases x there) = Unit {0}
IsCase x = ⊥

abbrev pub IsCritical : Construct → Type 0
IsCritical (c.Critical x at) = Unit {0}
IsCritical x = ⊥

abbrev pub IsTeam : Construct → Type 0
IsTeam (c.Team e ps at) = Unit {0}
IsTeam x = ⊥

-- a construct of which its first statement has been read, and that statement
abbrev pub IsFresh : Construct → Part → Type 0
IsFresh (c.If e at) p = p ≡ f.if_part (expression e) at
IsFresh (c.Do n k at) p = p ≡ f.do_part n (loop_control k) at
IsFresh (c.Critical x at) p = p ≡ f.critical_part (bracketed_specifier x) at
IsFresh (c.Team e ps at) p = p ≡ f.team_part (expression e) (specifiers ps.items) at
IsFresh x p = ⊥

-- the part may stand there
abbrev pub May : Block → Part → Type 0
May b p = (k : Scope) × (has_form (allowed (place k b)) p ≡ true)

-- the part has been read
pub record Takes (old new : Block) (p : Part) : Type 0 where
  pub front : (es : List Part) → block_front old (p ∷ es) ≡ block_front new es
  pub moved : (k : Scope) → next (place (staged q.in_statements k) old) p ≡ place (staged q.in_statements k) new
