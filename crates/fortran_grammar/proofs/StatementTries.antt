-- Actions and constructs that the grammar reads, and trees that it doesn't have for them, worked out by hand; `;` ends
-- a statement.
use Rattle.std.proofs.Common.{◌≡◌, true, false, [], ◌∷◌, refl, codes, Some, None}
use Rattle.fortran_tree.specs.Expressions as e
use Rattle.fortran_tree.specs.Statements as s
use Rattle.fortran_grammar.specs.ActionGrammar.{action}
use Rattle.fortran_grammar.specs.StatementGrammar.{statement}
use Rattle.fortran_grammar.specs.Acceptance.{spelled}
use Rattle.fortran_grammar.proofs.SmallTrees.{here, n, d, l, v, i}
use Rattle.fortran_grammar.proofs.Trying.{cut}

-- an assignment
assignment : spelled (action (s.assignment (e.part_ref (n (codes "x") 1) (e.more_section_subscripts (e.subscript (i 2 5)) e.no_section_subscripts) (e.image_selector (e.more_expressions (i 3 11) e.no_expressions) e.no_specifiers)) (i 4 17)) (here 1)) 64 (cut (codes "x ( 2 ) [ 3 ] = 4")) ≡ true
assignment = refl

-- keywords are names too
keyword_as_name : spelled (action (s.assignment (e.part_ref (n (codes "if") 1) (e.more_section_subscripts (e.subscript (i 1 6)) e.no_section_subscripts) e.no_image_selector) (i 5 12)) (here 1)) 64 (cut (codes "if ( 1 ) = 5")) ≡ true
keyword_as_name = refl

-- a call without brackets
call : spelled (action (s.call (n (codes "p") 6) None) (here 1)) 64 (cut (codes "call p")) ≡ true
call = refl

-- with empty ones
call_of_nothing : spelled (action (s.call (n (codes "p") 6) (Some e.no_arguments)) (here 1)) 64 (cut (codes "call p ( )")) ≡ true
call_of_nothing = refl

-- which the tree keeps
call_kept : spelled (action (s.call (n (codes "p") 6) None) (here 1)) 64 (cut (codes "call p ( )")) ≡ false
call_kept = refl

-- with arguments
call_by_keyword : spelled (action (s.call (n (codes "p") 6) (Some (e.more_arguments None (v (codes "a") 10) (e.more_arguments (Some (n (codes "k") 14)) (v (codes "b") 18) e.no_arguments)))) (here 1)) 64 (cut (codes "call p ( a , k = b )")) ≡ true
call_by_keyword = refl

-- an empty line
print_nothing : spelled (action (s.print s.free []) (here 1)) 64 (cut (codes "print *")) ≡ true
print_nothing = refl

-- values and literals
print_items : spelled (action (s.print s.free (s.value (v (codes "a") 11) ∷ s.quoted (l (codes "b") 15) ∷ [])) (here 1)) 64 (cut (codes "print * , a , 'b'")) ≡ true
print_items = refl

-- a written format
print_by_format : spelled (action (s.print (s.written (l (codes "i") 7)) (s.value (v (codes "a") 13) ∷ [])) (here 1)) 64 (cut (codes "print 'i' , a")) ≡ true
print_by_format = refl

-- WRITE is another spelling of PRINT
write_items : spelled (action (s.print s.free (s.value (v (codes "a") 17) ∷ s.value (v (codes "b") 21) ∷ [])) (here 1)) 64 (cut (codes "write ( * , * ) a , b")) ≡ true
write_items = refl

-- also of an empty line
write_nothing : spelled (action (s.print (s.written (l (codes "i") 13)) []) (here 1)) 64 (cut (codes "write ( * , 'i' )")) ≡ true
write_nothing = refl

-- no comma stands before its first item
write_with_comma : spelled (action (s.print s.free (s.value (v (codes "a") 19) ∷ [])) (here 1)) 64 (cut (codes "write ( * , * ) , a")) ≡ false
write_with_comma = refl

-- EXIT
exits : spelled (action (s.exit None) (here 1)) 64 (cut (codes "exit")) ≡ true
exits = refl

-- EXIT of a named construct
exits_by_name : spelled (action (s.exit (Some (n (codes "l") 6))) (here 1)) 64 (cut (codes "exit l")) ≡ true
exits_by_name = refl

-- CYCLE
cycles : spelled (action (s.cycle (Some (n (codes "l") 7))) (here 1)) 64 (cut (codes "cycle l")) ≡ true
cycles = refl

-- RETURN
returns : spelled (action (s.return) (here 1)) 64 (cut (codes "return")) ≡ true
returns = refl

-- STOP
stops : spelled (action (s.stop None) (here 1)) 64 (cut (codes "stop")) ≡ true
stops = refl

-- STOP with a code
stops_with_code : spelled (action (s.stop (Some (i 3 6))) (here 1)) 64 (cut (codes "stop 3")) ≡ true
stops_with_code = refl

-- ERROR STOP
error_stops : spelled (action (s.error_stop (Some (i 3 12))) (here 1)) 64 (cut (codes "error stop 3")) ≡ true
error_stops = refl

-- which isn't written as one word
error_stop_in_one : spelled (action (s.error_stop None) (here 1)) 64 (cut (codes "errorstop")) ≡ false
error_stop_in_one = refl

-- FAIL IMAGE
fails : spelled (action (s.fail_image) (here 1)) 64 (cut (codes "fail image")) ≡ true
fails = refl

-- ALLOCATE
allocates : spelled (action (s.allocate (record { name = (n (codes "a") 12); bounds = s.explicit (record { lower = None; upper = (i 2 16) }) ∷ []; cobounds = None } ∷ record { name = (n (codes "x") 22); bounds = []; cobounds = Some (s.explicit_coshape [] None) } ∷ []) (e.more_specifiers (n (codes "stat") 32) (v (codes "e") 39) e.no_specifiers)) (here 1)) 64 (cut (codes "allocate ( a ( 2 ) , x [ * ] , stat = e )")) ≡ true
allocates = refl

-- DEALLOCATE
deallocates : spelled (action (s.deallocate ((n (codes "a") 14) ∷ (n (codes "x") 18) ∷ []) e.no_specifiers) (here 1)) 64 (cut (codes "deallocate ( a , x )")) ≡ true
deallocates = refl

-- of one thing at least
deallocates_something : spelled (action (s.deallocate [] (e.more_specifiers (n (codes "stat") 14) (v (codes "e") 21) e.no_specifiers)) (here 1)) 64 (cut (codes "deallocate ( stat = e )")) ≡ false
deallocates_something = refl

-- SYNC ALL
sync_all_bare : spelled (action (s.sync_all None) (here 1)) 64 (cut (codes "sync all")) ≡ true
sync_all_bare = refl

-- with empty brackets
sync_all_empty : spelled (action (s.sync_all (Some e.no_specifiers)) (here 1)) 64 (cut (codes "sync all ( )")) ≡ true
sync_all_empty = refl

-- with a specifier
sync_all_stat : spelled (action (s.sync_all (Some (e.more_specifiers (n (codes "stat") 12) (v (codes "e") 19) e.no_specifiers))) (here 1)) 64 (cut (codes "sync all ( stat = e )")) ≡ true
sync_all_stat = refl

-- SYNC MEMORY
sync_memory : spelled (action (s.sync_memory None) (here 1)) 64 (cut (codes "sync memory")) ≡ true
sync_memory = refl

-- SYNC IMAGES
sync_images_all : spelled (action (s.sync_images s.all_images e.no_specifiers) (here 1)) 64 (cut (codes "sync images ( * )")) ≡ true
sync_images_all = refl

-- with a set and a specifier
sync_images_some : spelled (action (s.sync_images (s.images (i 2 15)) (e.more_specifiers (n (codes "stat") 19) (v (codes "e") 26) e.no_specifiers)) (here 1)) 64 (cut (codes "sync images ( 2 , stat = e )")) ≡ true
sync_images_some = refl

-- SYNC TEAM
sync_team : spelled (action (s.sync_team (v (codes "t") 13) e.no_specifiers) (here 1)) 64 (cut (codes "sync team ( t )")) ≡ true
sync_team = refl

-- FORM TEAM
form_team : spelled (action (s.form_team (i 1 13) (n (codes "t") 17) (e.more_specifiers (n (codes "new_index") 21) (i 2 33) e.no_specifiers)) (here 1)) 64 (cut (codes "form team ( 1 , t , new_index = 2 )")) ≡ true
form_team = refl

-- LOCK
lock : spelled (action (s.lock (e.part_ref (n (codes "l") 8) e.no_section_subscripts (e.image_selector (e.more_expressions (i 1 12) e.no_expressions) e.no_specifiers)) (e.more_specifiers (n (codes "stat") 18) (v (codes "e") 25) e.no_specifiers)) (here 1)) 64 (cut (codes "lock ( l [ 1 ] , stat = e )")) ≡ true
lock = refl

-- UNLOCK
unlock : spelled (action (s.unlock (d (codes "l") 10) e.no_specifiers) (here 1)) 64 (cut (codes "unlock ( l )")) ≡ true
unlock = refl

-- EVENT POST
event_post : spelled (action (s.event_post (d (codes "e") 14) e.no_specifiers) (here 1)) 64 (cut (codes "event post ( e )")) ≡ true
event_post = refl

-- EVENT WAIT
event_wait : spelled (action (s.event_wait (d (codes "e") 14) (e.more_specifiers (n (codes "until_count") 18) (i 2 32) e.no_specifiers)) (here 1)) 64 (cut (codes "event wait ( e , until_count = 2 )")) ≡ true
event_wait = refl

-- one-line IFs nest
one_line_ifs : spelled (action (s.if_statement (v (codes "a") 6) (s.if_statement (v (codes "b") 15) (s.assignment (d (codes "x") 19) (i 1 23)) (here 19)) (here 10)) (here 1)) 64 (cut (codes "if ( a ) if ( b ) x = 1")) ≡ true
one_line_ifs = refl

-- each is a level, its bracket one more
one_line_if_levels : spelled (action (s.if_statement (v (codes "a") 6) s.return (here 10)) (here 1)) 2 (cut (codes "if ( a ) return")) ≡ true
one_line_if_levels = refl

-- which one isn't enough for
one_line_if_too_deep : spelled (action (s.if_statement (v (codes "a") 6) s.return (here 10)) (here 1)) 1 (cut (codes "if ( a ) return")) ≡ false
one_line_if_too_deep = refl

-- the action's place is that of its own first token
action_elsewhere : spelled (action (s.if_statement (v (codes "a") 6) s.return (here 1)) (here 1)) 64 (cut (codes "if ( a ) return")) ≡ false
action_elsewhere = refl

-- an IF block
if_block : spelled (statement (s.if_construct (v (codes "a") 6) (s.more_statements (s.action s.return (here 17)) s.no_statements) s.no_else_ifs s.no_else_block (here 1) (here 26))) 64 (cut (codes "if ( a ) then ; return ; end if ;")) ≡ true
if_block = refl

-- its END in one word
if_in_one_word : spelled (statement (s.if_construct (v (codes "a") 6) s.no_statements s.no_else_ifs s.no_else_block (here 1) (here 17))) 64 (cut (codes "if ( a ) then ; endif ;")) ≡ true
if_in_one_word = refl

-- ELSE IF and ELSE
else_if : spelled (statement (s.if_construct (v (codes "a") 6) s.no_statements (s.more_else_ifs (v (codes "b") 27) (s.more_statements (s.action s.return (here 38)) s.no_statements) (here 17) s.no_else_ifs) (s.else_block (s.more_statements (s.action s.return (here 54)) s.no_statements) (here 47)) (here 1) (here 63))) 64 (cut (codes "if ( a ) then ; else if ( b ) then ; return ; else ; return ; end if ;")) ≡ true
else_if = refl

-- in one word
else_if_in_one : spelled (statement (s.if_construct (v (codes "a") 6) s.no_statements (s.more_else_ifs (v (codes "b") 26) s.no_statements (here 17) s.no_else_ifs) s.no_else_block (here 1) (here 37))) 64 (cut (codes "if ( a ) then ; elseif ( b ) then ; end if ;")) ≡ true
else_if_in_one = refl

-- ELSE IF is no IF in an ELSE
else_if_isnt_else : spelled (statement (s.if_construct (v (codes "a") 6) s.no_statements s.no_else_ifs (s.else_block (s.more_statements (s.if_construct (v (codes "b") 27) s.no_statements s.no_else_ifs s.no_else_block (here 22) (here 38)) s.no_statements) (here 17)) (here 1) (here 38))) 64 (cut (codes "if ( a ) then ; else if ( b ) then ; end if ;")) ≡ false
else_if_isnt_else = refl

-- DO without control
loops : spelled (statement (s.do_construct None s.unlimited (s.more_statements (s.action s.return (here 6)) s.no_statements) (here 1) (record { name = None; at = (here 15) }))) 64 (cut (codes "do ; return ; end do ;")) ≡ true
loops = refl

-- DO with a count and a name
counted : spelled (statement (s.do_construct (Some (n (codes "l") 1)) (s.counted (n (codes "i") 8) (i 1 12) (i 9 16) (Some (i 2 20))) s.no_statements (here 1) (record { name = Some (n (codes "l") 31); at = (here 24) }))) 64 (cut (codes "l : do i = 1 , 9 , 2 ; end do l ;")) ≡ true
counted = refl

-- DO WHILE
while_loop : spelled (statement (s.do_construct None (s.while (v (codes "a") 12)) s.no_statements (here 1) (record { name = Some (n (codes "l") 24); at = (here 18) }))) 64 (cut (codes "do while ( a ) ; enddo l ;")) ≡ true
while_loop = refl

-- a name behind END isn't lost
name_lost : spelled (statement (s.do_construct None s.unlimited s.no_statements (here 1) (record { name = None; at = (here 6) }))) 64 (cut (codes "do ; end do l ;")) ≡ false
name_lost = refl

-- SELECT CASE
selects : spelled (statement (s.case_construct (v (codes "a") 15) (s.more_case_blocks (s.ranges (s.single (i 1 28) ∷ s.at_least (i 2 32) ∷ s.at_most (i 3 40) (here 38) ∷ s.between (i 4 44) (i 5 48) ∷ [])) (s.more_statements (s.action s.return (here 54)) s.no_statements) (here 21) (s.more_case_blocks s.default s.no_statements (here 63) s.no_case_blocks)) (here 1) (here 78))) 64 (cut (codes "select case ( a ) ; case ( 1 , 2 : , : 3 , 4 : 5 ) ; return ; case default ; end select ;")) ≡ true
selects = refl

-- in one word
selects_in_one : spelled (statement (s.case_construct (v (codes "a") 14) s.no_case_blocks (here 1) (here 20))) 64 (cut (codes "selectcase ( a ) ; endselect ;")) ≡ true
selects_in_one = refl

-- a CASE selects something
case_needs_range : spelled (statement (s.case_construct (v (codes "a") 15) (s.more_case_blocks (s.ranges []) s.no_statements (here 21) s.no_case_blocks) (here 1) (here 32))) 64 (cut (codes "select case ( a ) ; case ( ) ; end select ;")) ≡ false
case_needs_range = refl

-- CRITICAL
critical_bare : spelled (statement (s.critical_construct s.absent (s.more_statements (s.action s.return (here 12)) s.no_statements) (here 1) (here 21))) 64 (cut (codes "critical ; return ; end critical ;")) ≡ true
critical_bare = refl

-- with empty brackets
critical_empty : spelled (statement (s.critical_construct s.empty s.no_statements (here 1) (here 16))) 64 (cut (codes "critical ( ) ; endcritical ;")) ≡ true
critical_empty = refl

-- with a specifier
critical_stat : spelled (statement (s.critical_construct (s.present (n (codes "stat") 12) (v (codes "e") 19)) s.no_statements (here 1) (here 25))) 64 (cut (codes "critical ( stat = e ) ; end critical ;")) ≡ true
critical_stat = refl

-- CHANGE TEAM
changes_team : spelled (statement (s.change_team_construct (v (codes "t") 15) (e.more_specifiers (n (codes "stat") 19) (v (codes "e") 26) e.no_specifiers) (s.more_statements (s.action s.return (here 32)) s.no_statements) (s.present (n (codes "stat") 52) (v (codes "e") 59)) (here 1) (here 41))) 64 (cut (codes "change team ( t , stat = e ) ; return ; end team ( stat = e ) ;")) ≡ true
changes_team = refl

-- its END in one word
changes_team_in_one : spelled (statement (s.change_team_construct (v (codes "t") 15) e.no_specifiers s.no_statements s.absent (here 1) (here 21))) 64 (cut (codes "change team ( t ) ; endteam ;")) ≡ true
changes_team_in_one = refl

-- a block is a level, and its bracket one more
block_levels : spelled (statement (s.if_construct (v (codes "a") 6) s.no_statements s.no_else_ifs s.no_else_block (here 1) (here 17))) 2 (cut (codes "if ( a ) then ; end if ;")) ≡ true
block_levels = refl

-- which one isn't enough for
block_too_deep : spelled (statement (s.if_construct (v (codes "a") 6) s.no_statements s.no_else_ifs s.no_else_block (here 1) (here 17))) 1 (cut (codes "if ( a ) then ; end if ;")) ≡ false
block_too_deep = refl

-- a block in a block
blocks_nest : spelled (statement (s.do_construct None s.unlimited (s.more_statements (s.do_construct None s.unlimited (s.more_statements (s.action s.return (here 11)) s.no_statements) (here 6) (record { name = None; at = (here 20) })) s.no_statements) (here 1) (record { name = None; at = (here 29) }))) 2 (cut (codes "do ; do ; return ; end do ; end do ;")) ≡ true
blocks_nest = refl

-- is one more level
blocks_too_deep : spelled (statement (s.do_construct None s.unlimited (s.more_statements (s.do_construct None s.unlimited (s.more_statements (s.action s.return (here 11)) s.no_statements) (here 6) (record { name = None; at = (here 20) })) s.no_statements) (here 1) (record { name = None; at = (here 29) }))) 1 (cut (codes "do ; do ; return ; end do ; end do ;")) ≡ false
blocks_too_deep = refl
