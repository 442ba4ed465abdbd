-- Parts that name what was told are closed so.
use Rattle.std.proofs.Common.{ℕ, zero, suc, List, [], ◌∷◌, refl}
use Rattle.checked_tree.specs.declared.data.Object.{Object}
use Rattle.checked_tree.specs.declared.data.Variable.{Variable}
use Rattle.checked_tree.specs.Statements as s
use Rattle.walk_theory.specs.Syntax.{Parts, Form, simple, choose, loop, around, exit, cycle, return, Branches, otherwise, branch, Steps, stop, also, act, body_of}
use Rattle.image_acts.specs.Acts as a
use Rattle.image_acts.specs.Acts.{Act, selector}
use Rattle.tree_meaning.specs.Sequences.{◌▸◌, doing}
use Rattle.tree_meaning.specs.Forms.{bodies}
use Rattle.told_walks.specs.Asked.{IsKnown, PartsName, FormNames, BranchesName, StepsName}
use Rattle.told_walks.proofs.Acts.{IsFree}
use Rattle.told_walks.proofs.Parts as told
use Rattle.told_walks.proofs.Parts.{Safe}
use Rattle.told_parts.proofs.Rounds as rounds
use Rattle.told_parts.proofs.Allocations as allocations
use Rattle.told_programs.specs.Allowed.{IsAllowed, AreAllowed, AreAllowedElseIfs, AreAllowedCases, AreAllowedProcedures, AreEnded, IsAllowedProgram}
use Rattle.told_programs.proofs.Closed.{Closed, IsListing, listing}
use Rattle.told_programs.proofs.Statements.{FormSafe, BranchesSafe, StepsSafe, BodiesSafe, bodies_safe}

-- ---- every ALLOCATE, DEALLOCATE and END TEAM is allowed
abbrev AnyMade : List s.Allocation → Type 0
AnyMade xs = Unit {0}

abbrev AnyFreed : List Object → Type 0
AnyFreed xs = Unit {0}

abbrev AnyEnded : ℕ → Type 0
AnyEnded c = Unit {0}

mutual
  any_form : (f : s.StatementForm) → IsAllowed AnyMade AnyFreed f
  any_form (s.if x body others other) = (any_statements body, any_else_ifs others, any_statements other)
  any_form (s.do_counted v k first last step n body) = any_statements body
  any_form (s.do_while x body) = any_statements body
  any_form (s.do_forever body) = any_statements body
  any_form (s.select x n cs other) = (any_cases cs, any_statements other)
  any_form (s.critical n stat body m) = any_statements body
  any_form (s.change_team x stat body end_stat m) = any_statements body
  any_form f = tt

  any_statements : (ss : s.Statements) → AreAllowed AnyMade AnyFreed ss
  any_statements s.no_statements = tt
  any_statements (s.more_statements (s.on_line f l) ss) = (any_form f, any_statements ss)

  any_else_ifs : (os : s.ElseIfs) → AreAllowedElseIfs AnyMade AnyFreed os
  any_else_ifs s.no_else_ifs = tt
  any_else_ifs (s.more_else_ifs x body l others) = (any_statements body, any_else_ifs others)

  any_cases : (cs : s.Cases) → AreAllowedCases AnyMade AnyFreed cs
  any_cases s.no_cases = tt
  any_cases (s.more_cases rs body l others) = (any_statements body, any_cases others)

any_procedures : (qs : List s.Procedure) → AreAllowedProcedures AnyMade AnyFreed qs
any_procedures [] = tt
any_procedures (q ∷ qs) = (any_statements q.unit.statements, any_procedures qs)

any_ended : (vs : List Variable) (ns : List ℕ) (c : ℕ) → AreEnded AnyEnded vs ns c
any_ended vs [] c = tt
any_ended vs (n ∷ ns) c = (λ h. tt, any_ended vs ns (suc c))

any_program : (p : s.Program) → IsAllowedProgram AnyMade AnyFreed AnyEnded p
any_program p = (any_statements p.main.statements, any_procedures p.procedures, any_ended p.main.variables p.coarrays 0)

-- ---- FAILED_IMAGES and STOPPED_IMAGES
told_acts : {x : Act} {q : Parts Act} → IsFree x → Safe q → Safe (act x q)
told_acts f h = told.acts f refl h

listed_here : (x : a.AskAct) → IsListing x → Safe (doing (selector a.this_team ∷ []) ▸ listing x)
listed_here a.failed h = record { names = rounds.this_team_then (PartsName (listing a.failed) IsKnown) rounds.failed_then }
listed_here a.stopped h = record { names = rounds.this_team_then (PartsName (listing a.stopped) IsKnown) rounds.stopped_then }
listed_here x h = absurd h

listed_there : (x : a.AskAct) → IsListing x → (p : Parts Act) → Safe p → Safe ((p ▸ doing (selector a.team_value ∷ [])) ▸ listing x)
listed_there a.failed h p g = record { names = rounds.team_value_safe p (PartsName (listing a.failed) IsKnown) g rounds.failed_then }
listed_there a.stopped h p g = record { names = rounds.team_value_safe p (PartsName (listing a.stopped) IsKnown) g rounds.stopped_then }
listed_there x h p g = absurd h

listed_here_then : (x : a.AskAct) → IsListing x → (q : Parts Act) → Safe q → Safe (doing (selector a.this_team ∷ []) ▸ listing x ▸ q)
listed_here_then a.failed h q g = record { names = rounds.this_team_then (PartsName (listing a.failed) (PartsName q IsKnown)) (rounds.then_more (listing a.failed) q rounds.failed_then g) }
listed_here_then a.stopped h q g = record { names = rounds.this_team_then (PartsName (listing a.stopped) (PartsName q IsKnown)) (rounds.then_more (listing a.stopped) q rounds.stopped_then g) }
listed_here_then x h q g = absurd h

listed_there_then : (x : a.AskAct) → IsListing x → (p q : Parts Act) → Safe p → Safe q → Safe ((p ▸ doing (selector a.team_value ∷ [])) ▸ listing x ▸ q)
listed_there_then a.failed h p q g j = record { names = rounds.team_value_safe p (PartsName (listing a.failed) (PartsName q IsKnown)) g (rounds.then_more (listing a.failed) q rounds.failed_then j) }
listed_there_then a.stopped h p q g j = record { names = rounds.team_value_safe p (PartsName (listing a.stopped) (PartsName q IsKnown)) g (rounds.then_more (listing a.stopped) q rounds.stopped_then j) }
listed_there_then x h p q g j = absurd h

told_closed : Closed Safe AnyMade AnyFreed AnyEnded
told_closed = record {
  no_parts = told.no_parts;
  acts = told_acts;
  both = told.both;
  fork = told.fork;
  entering = told.entering;
  sync_round = rounds.sync_round;
  end_round = rounds.end_round;
  form_round = rounds.form_round;
  sync_arrives = rounds.sync_arrives;
  change_safe = rounds.change_safe;
  status_asked = rounds.status_asked;
  listed_here = listed_here;
  listed_there = listed_there;
  listed_here_then = listed_here_then;
  listed_there_then = listed_there_then;
  pairs_safe = rounds.pairs_safe;
  allocating_safe = λ xs n rest made h. allocations.allocating_safe xs n rest h;
  deallocating_safe = λ xs rest freed h. allocations.deallocating_safe xs rest h;
  deleting_safe = λ y ended. allocations.deleting_safe y;
}

-- ---- so each body of a program names what was told
abbrev FormTold : Form Act → Type 0
FormTold f = FormSafe Safe AnyMade AnyFreed AnyEnded told_closed f

abbrev BranchesTold : Branches Act → Type 0
BranchesTold bs = BranchesSafe Safe AnyMade AnyFreed AnyEnded told_closed bs

abbrev StepsTold : Steps Act → Type 0
StepsTold ss = StepsSafe Safe AnyMade AnyFreed AnyEnded told_closed ss

mutual
  form_names : (f : Form Act) → FormTold f → FormNames f
  form_names (simple p) h = h.names
  form_names (choose p bs) h = (h.0.names, branches_name bs h.1)
  form_names (loop s n t b) h = (h.0.names, h.1.names, h.2.names, steps_name b h.3)
  form_names (around p b m q) h = (h.0.names, steps_name b h.1, h.2.names)
  form_names (exit n) h = tt
  form_names (cycle n) h = tt
  form_names return h = tt

  branches_name : (bs : Branches Act) → BranchesTold bs → BranchesName bs
  branches_name (otherwise b) h = steps_name b h
  branches_name (branch l p x rest) h = (h.0.names, steps_name x h.1, branches_name rest h.2)

  steps_name : (ss : Steps Act) → StepsTold ss → StepsName ss
  steps_name stop h = tt
  steps_name (also l f rest) h = (form_names f h.0, steps_name rest h.1)

body_names : (bs : List (Steps Act)) → BodiesSafe Safe AnyMade AnyFreed AnyEnded told_closed bs → (k : ℕ) → StepsName (body_of bs k)
body_names [] h k = tt
body_names (b ∷ bs) h zero = steps_name b h.0
body_names (b ∷ bs) h (suc k) = body_names bs h.1 k

pub program_bodies : (p : s.Program) (k : ℕ) → StepsName (body_of (bodies p) k)
program_bodies p k = body_names (bodies p) (bodies_safe Safe AnyMade AnyFreed AnyEnded told_closed p (any_program p)) k
