-- Which construct is open where a source ends too early: in each program to which its words go on, the innermost one
-- that begins among the words and ends behind them (ISO/IEC 1539-1:2018, 11.1; a procedure, 15.6.2; the main program,
-- 14.1).
use Rattle.std.specs.Prelude.{◌≡◌, Bool, false, not, cond, nat_eq, ◌&&◌, ◌||◌, List, [], ◌∷◌, ◌++◌, Option, Some, None}
use Rattle.caf_base.specs.declared.place.Pos.{Pos}
use Rattle.reader_theory.specs.Refusals.{Reads}
use Rattle.fortran_tree.specs.Statements as s
use Rattle.fortran_tree.specs.Statements.{Statement, Statements, ElseIfBlocks, ElseBlock, CaseBlocks}
use Rattle.fortran_tree.specs.Units.{Procedure, Program}
use Rattle.fortran_grammar.specs.Tokens.{Token}
use Rattle.fortran_grammar.specs.ProgramGrammar.{Sources}
use Rattle.program_reader.specs.Unfinished.{first_place}

-- a construct or a procedure: the place of its first token, and that of the first token of its END statement
pub record Extent : Type 0 where
  pub from : Pos
  pub to : Pos

-- those of a tree, in the order in which they begin
abbrev mutual
  pub statement_extents : Statement → List Extent
  statement_extents (s.action x at) = []
  statement_extents (s.if_construct e body others o at end) =
      record { from = at; to = end } ∷ (statements_extents body ++ (else_if_extents others ++ else_extents o))
  statement_extents (s.do_construct n k body at end) = record { from = at; to = end.at } ∷ statements_extents body
  statement_extents (s.case_construct e blocks at end) = record { from = at; to = end } ∷ case_extents blocks
  statement_extents (s.critical_construct x body at end) = record { from = at; to = end } ∷ statements_extents body
  statement_extents (s.change_team_construct e ps body x at end) = record { from = at; to = end } ∷ statements_extents body

  pub statements_extents : Statements → List Extent
  statements_extents s.no_statements = []
  statements_extents (s.more_statements a more) = statement_extents a ++ statements_extents more

  pub else_if_extents : ElseIfBlocks → List Extent
  else_if_extents s.no_else_ifs = []
  else_if_extents (s.more_else_ifs e body at more) = statements_extents body ++ else_if_extents more

  pub else_extents : ElseBlock → List Extent
  else_extents s.no_else_block = []
  else_extents (s.else_block body at) = statements_extents body

  pub case_extents : CaseBlocks → List Extent
  case_extents s.no_case_blocks = []
  case_extents (s.more_case_blocks x body at more) = statements_extents body ++ case_extents more

abbrev pub procedure_extents : List Procedure → List Extent
procedure_extents [] = []
procedure_extents (x ∷ xs) = record { from = x.at; to = x.end.at } ∷ (statements_extents x.body.statements ++ procedure_extents xs)

abbrev pub contained_extents : Option (List Procedure) → List Extent
contained_extents None = []
contained_extents (Some xs) = procedure_extents xs

abbrev pub extents : Program → List Extent
extents x = statements_extents x.body.statements ++ contained_extents x.procedures

-- one of the tokens stands at this place
abbrev pub is_at : Pos → Token → Bool
is_at p y = nat_eq y.at.line p.line && nat_eq y.at.col p.col

abbrev pub stands : List Token → Pos → Bool
stands [] p = false
stands (y ∷ ts) p = is_at p y || stands ts p

-- it begins among these tokens, and its END statement doesn't
abbrev pub is_open : List Token → Extent → Bool
is_open ts e = stands ts e.from && not (stands ts e.to)

-- where the last one that is open begins, else the place that is given: the others that are open go on behind the
-- tokens too, and so they are around it
abbrev pub innermost : List Token → List Extent → Pos → Pos
innermost ts [] outer = outer
innermost ts (e ∷ es) outer = innermost ts es (cond (is_open ts e) e.from outer)

-- none of the second tokens stands at the place of one of the first
abbrev pub AreElsewhere : List Token → List Token → Type 0
AreElsewhere ts [] = Unit {0}
AreElsewhere ts (y ∷ more) = (stands ts y.at ≡ false) × AreElsewhere ts more

-- with further words, which have places of their own, the words are this program
pub record GoesOnTo (ts : List Token) (x : Program) : Type 0 where
  pub more : List Token
  pub elsewhere : AreElsewhere ts more
  pub reads : Reads Sources (ts ++ more) x

-- The words go on to programs. In each of them the innermost construct that the words begin and don't end begins at
-- this place; where there is none, it is that of the first word, at which the main program begins.
pub record IsInnermostOpen (ts : List Token) (at : Pos) : Type 0 where
  pub some : (x : Program) × GoesOnTo ts x
  pub place : (x : Program) → GoesOnTo ts x → at ≡ innermost ts (extents x) (first_place ts)
