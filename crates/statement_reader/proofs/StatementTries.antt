-- Some statements, with their answers worked out by hand; `;` ends a statement.
use Rattle.std.proofs.Common.{◌≡◌, refl, codes}
use Rattle.reader_theory.specs.Words.{expected, too_deep, fault}
use Rattle.fortran_grammar.proofs.Trying.{cut}
use Rattle.expr_reader.specs.Reading.{tier}
use Rattle.statement_reader.specs.Declarations.{a_declaration}
use Rattle.statement_reader.specs.Lines.{keyword_line}
use Rattle.statement_reader.specs.Heads.{an_if_then}
use Rattle.statement_reader.specs.Units.{use_line}

-- an initial value only behind `::`
no_value : a_declaration 2 (cut (codes "integer x = 1 ;")) ≡ fault expected (cut (codes "          = 1 ;"))
unfolding tier
no_value = refl

-- `::` is wanted behind an attribute
no_colons : a_declaration 2 (cut (codes "integer , save x ;")) ≡ fault expected (cut (codes "               x ;"))
unfolding tier
no_colons = refl

-- no object behind a specifier
no_object : keyword_line 2 (cut (codes "allocate ( a , stat = s , b ) ;")) ≡ fault expected (cut (codes "                            ) ;"))
unfolding tier
no_object = refl

-- an asterisk ends the codimensions
no_more : a_declaration 2 (cut (codes "integer x [ * , 2 ] ;")) ≡ fault expected (cut (codes "              , 2 ] ;"))
unfolding tier
no_more = refl

-- with no level left IF is too deep, with one its bracket
no_block : an_if_then 0 (cut (codes "if ( a ) then ;")) ≡ fault too_deep (cut (codes "if ( a ) then ;"))
unfolding tier
no_block = refl

no_bracket : an_if_then 1 (cut (codes "if ( a ) then ;")) ≡ fault too_deep (cut (codes "   ( a ) then ;"))
unfolding tier
no_bracket = refl

-- SYNC and a word that it hasn't
no_word : keyword_line 2 (cut (codes "sync teams ( a ) ;")) ≡ fault expected (cut (codes "     teams ( a ) ;"))
unfolding tier
no_word = refl

-- INTRINSIC wants `::`
no_double : use_line 2 (cut (codes "use , intrinsic m ;")) ≡ fault expected (cut (codes "                m ;"))
unfolding tier
no_double = refl
