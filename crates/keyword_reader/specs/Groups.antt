-- The choice among actions by their first keywords, from behind: each group tries its own keywords, and then the group
-- before it.
use Rattle.std.specs.Prelude.{codes}
use Rattle.fortran_tree.specs.Statements as s
use Rattle.fortran_tree.specs.Statements.{ActionStatement}
use Rattle.expr_reader.specs.Tests.{a_name}
use Rattle.statement_reader.specs.Actions.{an_object, a_new_team, a_key, maybe_expression, maybe_name, of_none, of_three, of_two}
use Rattle.statement_reader.specs.Dimensions.{an_allocation}
use Rattle.statement_reader.specs.Families.{Family, rounded}
use Rattle.statement_reader.specs.Keywords.{after, an_event, a_sync, made, or_else}
use Rattle.statement_reader.specs.Objects.{some_objects}

-- SYNC, EVENT or RETURN
abbrev pub synchronizing : Family ActionStatement
synchronizing = or_else (codes "sync") a_sync (or_else (codes "event") an_event (made (of_none s.return) (a_key (codes "return"))))

-- FORM TEAM, LOCK or UNLOCK
abbrev pub locking : Family ActionStatement
locking = or_else (codes "form") (after (codes "team") (made (of_three s.form_team) (rounded a_new_team))) (or_else (codes "lock") (made (of_two s.lock) (rounded an_object))
    (or_else (codes "unlock") (made (of_two s.unlock) (rounded an_object)) synchronizing))

-- ALLOCATE or DEALLOCATE
abbrev pub allocating : Family ActionStatement
allocating = or_else (codes "allocate") (made (of_two s.allocate) (rounded (some_objects an_allocation))) (or_else (codes "deallocate") (made (of_two s.deallocate) (rounded (some_objects (λ left. a_name)))) locking)

-- ERROR STOP or FAIL IMAGE
abbrev pub ending : Family ActionStatement
ending = or_else (codes "error") (after (codes "stop") (made s.error_stop maybe_expression)) (or_else (codes "fail") (made (of_none s.fail_image) (a_key (codes "image"))) allocating)

-- EXIT, CYCLE or STOP
abbrev pub leaving : Family ActionStatement
leaving = or_else (codes "exit") (made s.exit maybe_name) (or_else (codes "cycle") (made s.cycle maybe_name) (or_else (codes "stop") (made s.stop maybe_expression) ending))
