-- Which tokens spell which statement or construct (ISO/IEC 1539-1:2018, 11.1). A construct is a level from its first
-- token on.
use Rattle.std.specs.Prelude.{codes}
use Rattle.fortran_tokens.specs.declared.token.Sign.TheVariants.{Assign, Colon, Comma}
use Rattle.fortran_tree.specs.declared.name.Name.{Name}
use Rattle.fortran_tree.specs.Expressions.{Expression}
use Rattle.fortran_tree.specs.Statements as s
use Rattle.fortran_tree.specs.Statements.{LoopControl, CaseRange, CaseSelector, BracketedSpecifier, Statement, Statements, ElseIfBlocks, ElseBlock, CaseBlocks}
use Rattle.fortran_grammar.specs.Phrases.{Phrase, nothing, ◌▸◌, deeper, from, name, key, sign, over, joined, round, optional, listed}
use Rattle.fortran_grammar.specs.ExpressionGrammar.{expr}
use Rattle.fortran_grammar.specs.ActionGrammar.{action, team}

-- NAME ":"
abbrev pub construct_name : Name → Phrase
construct_name n = name n ▸ sign Colon

-- "," expr
abbrev pub step : Expression → Phrase
step e = sign Comma ▸ expr e

-- [ NAME "=" expr "," expr [ "," expr ] | "while" "(" expr ")" ]
abbrev pub loop_control : LoopControl → Phrase
loop_control s.unlimited = nothing
loop_control (s.counted n a z d) = name n ▸ sign Assign ▸ expr a ▸ sign Comma ▸ expr z ▸ optional step d
loop_control (s.while e) = key (codes "while") ▸ round (expr e)

-- expr [ ":" [ expr ] ] | ":" expr
abbrev pub case_range : CaseRange → Phrase
case_range (s.single e) = expr e
case_range (s.at_least e) = expr e ▸ sign Colon
case_range (s.at_most e at) = from at (sign Colon ▸ expr e)
case_range (s.between a z) = expr a ▸ sign Colon ▸ expr z

-- "default" | "(" case_range { "," case_range } ")"
abbrev pub case_selector : CaseSelector → Phrase
case_selector s.default = key (codes "default")
case_selector (s.ranges rs) = round (listed case_range rs)

-- [ "(" [ specifier ] ")" ]
abbrev pub bracketed_specifier : BracketedSpecifier → Phrase
bracketed_specifier s.absent = nothing
bracketed_specifier s.empty = round nothing
bracketed_specifier (s.present n e) = round (name n ▸ sign Assign ▸ expr e)

abbrev mutual
  pub statement : Statement → Phrase
  statement (s.action f at) = action f at ▸ over
  statement (s.if_construct e body others o at end) = from at (deeper (key (codes "if") ▸ round (expr e) ▸ key (codes "then") ▸ over ▸ statements body ▸ else_ifs others ▸ else_block o
      ▸ from end (joined (codes "end") (codes "if")) ▸ over))
  statement (s.do_construct n k body at end) = from at (deeper (optional construct_name n ▸ key (codes "do") ▸ loop_control k ▸ over ▸ statements body
      ▸ from end.at (joined (codes "end") (codes "do")) ▸ optional name end.name ▸ over))
  statement (s.case_construct e blocks at end) = from at (deeper (joined (codes "select") (codes "case") ▸ round (expr e) ▸ over ▸ case_blocks blocks
      ▸ from end (joined (codes "end") (codes "select")) ▸ over))
  statement (s.critical_construct p body at end) = from at (deeper (key (codes "critical") ▸ bracketed_specifier p ▸ over ▸ statements body
      ▸ from end (joined (codes "end") (codes "critical")) ▸ over))
  statement (s.change_team_construct e ps body q at end) = from at (deeper (key (codes "change") ▸ key (codes "team") ▸ team e ps ▸ over ▸ statements body
      ▸ from end (joined (codes "end") (codes "team")) ▸ bracketed_specifier q ▸ over))

  -- { statement }
  pub statements : Statements → Phrase
  statements s.no_statements = nothing
  statements (s.more_statements a more) = statement a ▸ statements more

  -- { "else" "if" "(" expr ")" "then" { statement } }
  pub else_ifs : ElseIfBlocks → Phrase
  else_ifs s.no_else_ifs = nothing
  else_ifs (s.more_else_ifs e body at more) = from at (joined (codes "else") (codes "if")) ▸ round (expr e) ▸ key (codes "then") ▸ over ▸ statements body ▸ else_ifs more

  -- [ "else" { statement } ]
  pub else_block : ElseBlock → Phrase
  else_block s.no_else_block = nothing
  else_block (s.else_block body at) = from at (key (codes "else")) ▸ over ▸ statements body

  -- { "case" ( "default" | "(" case_range { "," case_range } ")" ) { statement } }
  pub case_blocks : CaseBlocks → Phrase
  case_blocks s.no_case_blocks = nothing
  case_blocks (s.more_case_blocks c body at more) = from at (key (codes "case")) ▸ case_selector c ▸ over ▸ statements body ▸ case_blocks more
