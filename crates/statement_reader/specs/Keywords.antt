-- The reader of an action that begins with a keyword: all but assignments and one-line IFs (ISO/IEC 1539-1:2018, R515).
use Rattle.std.specs.Prelude.{ℕ, Bool, true, false, codes, List}
use Rattle.reader_theory.specs.Readers.{mapped, pick, behind}
use Rattle.fortran_tree.specs.Statements as s
use Rattle.fortran_tree.specs.Statements.{ActionStatement}
use Rattle.expr_reader.specs.Tests.{is_key, a_name}
use Rattle.statement_reader.specs.Families.{Family, rounded}
use Rattle.statement_reader.specs.Actions.{an_object, a_team, a_new_team, some_images, maybe_specifiers, a_call, a_write, a_print, maybe_name, maybe_expression, of_two, of_three, of_none, a_key}
use Rattle.statement_reader.specs.Dimensions.{an_allocation}
use Rattle.statement_reader.specs.Objects.{some_objects}

-- an action made of what a reader reads
abbrev pub made : {A : Type 0} → (A → ActionStatement) → Family A → Family ActionStatement
made f r left = mapped f (r left)

abbrev pub after : List ℕ → Family ActionStatement → Family ActionStatement
after k r left = behind (is_key k) (r left)

-- one action behind its keyword, or else another
abbrev pub or_else : List ℕ → Family ActionStatement → Family ActionStatement → Family ActionStatement
or_else k r q left = pick (is_key k) (after k r left) (q left)

-- what stands behind SYNC, and behind EVENT
abbrev pub a_sync : Family ActionStatement
a_sync = or_else (codes "all") (made s.sync_all maybe_specifiers) (or_else (codes "memory") (made s.sync_memory maybe_specifiers)
    (or_else (codes "images") (made (of_two s.sync_images) (rounded some_images)) (after (codes "team") (made (of_two s.sync_team) (rounded a_team)))))

abbrev pub an_event : Family ActionStatement
an_event = or_else (codes "post") (made (of_two s.event_post) (rounded an_object)) (after (codes "wait") (made (of_two s.event_wait) (rounded an_object)))

abbrev pub a_keyword_action : Family ActionStatement
a_keyword_action = or_else (codes "call") (made (of_two s.call) a_call) (or_else (codes "print") (made (of_two s.print) a_print) (or_else (codes "write") (made (of_two s.print) a_write)
    (or_else (codes "exit") (made s.exit maybe_name) (or_else (codes "cycle") (made s.cycle maybe_name) (or_else (codes "stop") (made s.stop maybe_expression)
    (or_else (codes "error") (after (codes "stop") (made s.error_stop maybe_expression)) (or_else (codes "fail") (made (of_none s.fail_image) (a_key (codes "image")))
    (or_else (codes "allocate") (made (of_two s.allocate) (rounded (some_objects an_allocation))) (or_else (codes "deallocate") (made (of_two s.deallocate) (rounded (some_objects (λ left. a_name))))
    (or_else (codes "form") (after (codes "team") (made (of_three s.form_team) (rounded a_new_team))) (or_else (codes "lock") (made (of_two s.lock) (rounded an_object))
    (or_else (codes "unlock") (made (of_two s.unlock) (rounded an_object)) (or_else (codes "sync") a_sync (or_else (codes "event") an_event (made (of_none s.return) (a_key (codes "return")))))))))))))))))

-- the action begins with a keyword, and isn't a one-line IF
abbrev pub is_keyword_action : ActionStatement → Bool
is_keyword_action (s.assignment d e) = false
is_keyword_action (s.if_statement e f at) = false
is_keyword_action f = true
