-- Each statement suits, wherever its body runs, where calls of intrinsic subroutines do.
use Rattle.std.proofs.Common.{◌≡◌, ℕ, suc, ◌*◌, ◌≤◌, length, refl}
use Rattle.std.specs.Prelude.{pos, Some}
use Rattle.caf_base.specs.declared.value.Kind.TheVariants as kinds
use Rattle.checked_tree.specs.declared.action.WrittenArguments.{WrittenArguments}
use Rattle.checked_tree.specs.Expressions as t
use Rattle.checked_tree.specs.Statements as s
use Rattle.walk_theory.specs.Syntax.{Steps}
use Rattle.image_acts.specs.Acts.{Act, constant}
use Rattle.tree_meaning.specs.Environment.{Environment, hidden_cell, procedure_in}
use Rattle.tree_meaning.specs.Forms.{form, steps, else_ifs, cases}
use Rattle.tree_meaning.specs.Pieces.{written_dummies}
use Rattle.tree_meaning.specs.Subroutines.{intrinsic_call}
use Rattle.made_code.specs.Ranks as ranks
use Rattle.kind_walks.specs.Kinds.{Layout, Typing, with_number}
use Rattle.kind_walks.specs.Suiting.{FormSuits, BranchesSuit, StepsSuit}
use Rattle.kind_walks.proofs.StackActs as acts
use Rattle.kind_expressions.specs.Kinded.{unit_layout}
use Rattle.kind_expressions.proofs.Goes.{Setting, Goes, idle, one_act}
use Rattle.kind_expressions.proofs.Expressions.{IsThere}
use Rattle.kind_statements.specs.Kinded as kinded
use Rattle.kind_statements.proofs.Settled.{goes_released}
use Rattle.kind_statements.proofs.Plain as plain
use Rattle.kind_statements.proofs.Constructs as constructs
use Rattle.kind_statements.proofs.Cells as cells
use Rattle.kind_statements.proofs.Ordered as ordered
use Rattle.kind_statements.proofs.Allocating as allocating
use Rattle.kind_statements.proofs.Assignments.{goes_assignment}

module _ (w : Setting) (few : 2 * w.images ≤ 2147483647) (e : Environment) (own main : Layout) (main_is : main ≡ w.layouts 0) (units : (n : ℕ) → w.layouts (suc n) ≡ unit_layout (procedure_in e n).unit)
    (hidden : length own.scalars ≤ e.hidden) where
  abbrev Here : Typing → Type 0
  Here z = IsThere w few e own main main_is units z

  abbrev Subroutines : Type 0
  Subroutines = (i : s.IntrinsicSubroutine) (a : WrittenArguments) (z : Typing) → Here z → ranks.IsSubroutine e.program.procedures i (written_dummies a) → kinded.IsSubroutine e.program w.coarrays own main i → Goes w z (intrinsic_call e i a) z

  module _ (subroutines : Subroutines) where
    abbrev Suits : Typing → s.StatementForm → ℕ → Type 0
    Suits z f l = FormSuits w.coarrays w.images w.layouts z (form e l f)

    abbrev Blocks : Typing → Steps Act → Type 0
    Blocks z b = StepsSuit w.coarrays w.images w.layouts z b

    mutual
      pub form_suits : (f : s.StatementForm) (l : ℕ) (z : Typing) → Here z → ranks.IsStatement e.program.procedures f → kinded.IsStatement e.program w.coarrays own main f → Suits z f l
      form_suits (s.assign d y r x) l z i h k = (goes_released w (goes_assignment w few e own main main_is units d y r x z i h k)).leads
      form_suits (s.assign_images v j which x) l z i h k = (goes_released w (plain.goes_images w few e own main main_is units v j which x z i h k.0 k.1 k.2)).leads
      form_suits (s.call n es) l z i h k = (goes_released w (constructs.goes_call w few e own main main_is units n es z i h.0 h.1 k)).leads
      form_suits (s.call_intrinsic f a) l z i h k = (goes_released w (subroutines f a z i h k)).leads
      form_suits (s.print f xs) l z i h k = (goes_released w (plain.goes_output w few e own main main_is units f xs z i h k)).leads
      form_suits (s.exit n) l z i h k = tt
      form_suits (s.cycle n) l z i h k = tt
      form_suits s.return l z i h k = tt
      form_suits (s.stop x) l z i h k = (plain.goes_stop w few e own main main_is units x z i h k).leads
      form_suits (s.error_stop x) l z i h k = (plain.goes_error_stop w few e own main main_is units x z i h k).leads
      form_suits s.fail_image l z i h k = (plain.goes_fail w few e own main main_is units z).leads
      form_suits (s.allocate xs r) l z i h k = (goes_released w (allocating.goes_allocate w few e own main main_is units xs r z i h.0 h.1 k.0 k.1)).leads
      form_suits (s.deallocate xs r) l z i h k = (goes_released w (allocating.goes_deallocate w few e own main main_is units xs r z i h k)).leads
      form_suits (s.sync_all r) l z i h k = (goes_released w (plain.goes_sync_all w few e own main main_is units r z i h k)).leads
      form_suits (s.sync_memory r) l z i h k = (goes_released w (plain.goes_sync_memory w few e own main main_is units r z i h k)).leads
      form_suits (s.sync_images x r) l z i h k = (goes_released w (plain.goes_sync_images w few e own main main_is units x r z i h.0 h.1 k.0 k.1)).leads
      form_suits (s.sync_team x r) l z i h k = (goes_released w (plain.goes_sync_team w few e own main main_is units x r z i h.0 h.1 k.0 k.1)).leads
      form_suits (s.form_team x v index r order) l z i h k = (goes_released w (ordered.goes_form_team w few e own main main_is units x v index r order z i h.0 h.1 h.2 k.0 k.1 k.2 k.3)).leads
      form_suits (s.lock d t.no_result r order) l z i h k = (goes_released w (cells.goes_plain_lock w few e own main main_is units d r z i h.0 h.2 k.0 k.2)).leads
      form_suits (s.lock d (t.result x) r order) l z i h k = (goes_released w (ordered.goes_tried_lock w few e own main main_is units d x r order z i h.0 h.1 h.2 k.0 k.1 k.2)).leads
      form_suits (s.unlock d r) l z i h k = (goes_released w (cells.goes_unlock w few e own main main_is units d r z i h.0 h.1 k.0 k.1)).leads
      form_suits (s.event_post d r) l z i h k = (goes_released w (cells.goes_event_post w few e own main main_is units d r z i h.0 h.1 k.0 k.1)).leads
      form_suits (s.event_wait d until r order) l z i h k = (goes_released w (ordered.goes_event_wait w few e own main main_is units d until r order z i h.0 h.1 h.2 k.0 k.1 k.2)).leads
      form_suits (s.if x body others none) l z i h k =
          ((idle {w = w} {s = z}).leads, ((plain.goes_condition w few e own main main_is units x z i h.0 k.0).leads, block_suits body z i h.1 k.1, others_suit others (steps e none) z i h.2 k.2 (block_suits none z i h.3 k.3)))
      form_suits (s.do_counted v j first last step n body) l z i h k = (
        (constructs.goes_do_start w few e own main main_is units hidden v j first last step n z i k.0 h.0 h.1 h.2 k.1 k.2 k.3).leads,
        (constructs.goes_do_next w few e own main main_is units hidden v j n z i k.0).leads,
        (constructs.goes_do_test w few e own main main_is units n z).leads,
        block_suits body z i h.3 k.4,
      )
      form_suits (s.do_while x body) l z i h k = ((idle {w = w} {s = z}).leads, (idle {w = w} {s = z}).leads, (plain.goes_condition w few e own main main_is units x z i h.0 k.0).leads, block_suits body z i h.1 k.1)
      form_suits (s.do_forever body) l z i h k = (
        (idle {w = w} {s = z}).leads,
        (idle {w = w} {s = z}).leads,
        (one_act w z (constant (pos 1)) (with_number (Some kinds.L4) z) (acts.acts_constant w.coarrays w.images (pos 1) (Some kinds.L4) refl z)).leads,
        block_suits body z i h k,
      )
      form_suits (s.select x n cs none) l z i h k =
          ((constructs.goes_selected_value w few e own main main_is units hidden x n z i h.0 k.0).leads, cases_suit (hidden_cell e n) cs (steps e none) z i h.1 k.1 (block_suits none z i h.2 k.2))
      form_suits (s.critical n r body m) l z i h k =
          ((goes_released w (plain.goes_critical w few e own main main_is units n r z i h.0 k.0)).leads, block_suits body z i h.1 k.1, (plain.goes_end_critical w few e own main main_is units n z).leads)
      form_suits (s.change_team x r body end m) l z i h k =
          ((goes_released w (plain.goes_change_team w few e own main main_is units x r z i h.0 h.1 k.0 k.1)).leads, block_suits body z i h.2 k.2, (goes_released w (constructs.goes_end_team w few e own main main_is units end z i h.3 k.3)).leads)

      pub block_suits : (ss : s.Statements) (z : Typing) → Here z → ranks.AreStatements e.program.procedures ss → kinded.AreStatements e.program w.coarrays own main ss → Blocks z (steps e ss)
      block_suits s.no_statements z i h k = tt
      block_suits (s.more_statements (s.on_line f l) ss) z i h k = (form_suits f l z i h.0 k.0, block_suits ss z i h.1 k.1)

      others_suit : (os : s.ElseIfs) (none : Steps Act) (z : Typing) → Here z → ranks.AreElseIfs e.program.procedures os → kinded.AreElseIfs e.program w.coarrays own main os → Blocks z none → BranchesSuit w.coarrays w.images w.layouts z (else_ifs e os none)
      others_suit s.no_else_ifs none z i h k n = n
      others_suit (s.more_else_ifs x body l os) none z i h k n = ((plain.goes_condition w few e own main main_is units x z i h.0 k.0).leads, block_suits body z i h.1 k.1, others_suit os none z i h.2 k.2 n)

      cases_suit : (x : ℕ) (cs : s.Cases) (none : Steps Act) (z : Typing) → Here z → ranks.AreCases e.program.procedures cs → kinded.AreCases e.program w.coarrays own main cs → Blocks z none → BranchesSuit w.coarrays w.images w.layouts z (cases e x cs none)
      cases_suit x s.no_cases none z i h k n = n
      cases_suit x (s.more_cases rs body l cs) none z i h k n = ((constructs.goes_ranges w x rs z).leads, block_suits body z i h.0 k.0, cases_suit x cs none z i h.1 k.1 n)
