-- Programs without calls, from their start on.
use Rattle.std.proofs.Common.{◌≡◌, refl, ap, sym, subst, ◌∙◌, ℕ, ◌+◌, ◌*◌, ◌≤◌, pos, List, [], ◌∷◌, replicate, None, arith}
use Rattle.std.proofs.lemmas.List.{length-map, length-replicate}
use Rattle.caf_events.specs.declared.ask.Ask.TheVariants as asking
use Rattle.walk_theory.specs.Syntax.{end_parts, act, Steps, body_of}
use Rattle.walk_theory.specs.Walks.{Task, Config, run, eval, tally, back, to}
use Rattle.checked_tree.specs.Statements as s
use Rattle.image_acts.specs.Acts.{Act, here, ask, end_program}
use Rattle.image_acts.specs.Core.{Core}
use Rattle.tree_meaning.specs.Environment.{Environment}
use Rattle.tree_meaning.specs.Forms.{steps, environment_of, bodies}
use Rattle.tree_meaning.specs.Start.{cell_of, first_core, start_of}
use Rattle.direct_meaning.specs.States.{State}
use Rattle.direct_meaning.specs.Outcomes.{Outcome, done, and_then}
use Rattle.direct_meaning.specs.Synchronizing.{ending}
use Rattle.direct_meaning.specs.Statements.{Control, onward, exits, cycles, returns, counting, block, whole}
use Rattle.direct_hidden.specs.Laws.{AreBlind}
use Rattle.direct_walks.specs.Walking.{Beside, core_of, behind, Walks}
use Rattle.direct_walks.specs.Ready.{IsReady, GoesOn}
use Rattle.direct_walks.proofs.Walking.{by_step, by_more, walks_before, walks_then, counted_walks}
use Rattle.direct_flow.specs.Laws.{IsPlain, no_calls, first_state, ProgramLaw}
use Rattle.direct_flow.proofs.Blocks.{block_law}

blind_calls : AreBlind no_calls
blind_calls n xs hs l s = tt

-- wherever execution goes on, it goes on at the end of the body
to_back : (q : Control) (ts : List (Task Act)) → behind q (back ∷ ts) ≡ back ∷ ts
to_back onward ts = refl
to_back (exits k) ts = refl
to_back (cycles k) ts = refl
to_back returns ts = refl

module _ (p : s.Program) (me images limit l : ℕ) where
  abbrev E : Environment
  E = environment_of p here p.main

  abbrev P : ℕ → Steps Act
  P = body_of (bodies p)

  abbrev first : Core
  first = first_core p me images

  abbrev beside : Beside
  beside = record { hidden = replicate (2 * p.main.hidden) (pos 0); round = None; formed = [] }

  abbrev none : Control × ℕ → State → Config Act Core → Type 0
  none q z d = ⊥

  abbrev over' : Unit {0} → State → Config Act Core → Type 0
  over' u z d = ⊥

  ready : IsReady E p.main.hidden 65793 first beside (first_state p me images)
  ready =
      let few : 0 ≤ 65536 = omega arith in
      let much : 0 + 6 * 64 ≤ 0 + 458751 = omega arith in
      let enough : 0 + 65793 ≤ 0 + 65793 = omega arith in
      record {
        variables = length-map p.main.variables cell_of;
        hidden = length-replicate (2 * p.main.hidden) (pos 0);
        free = refl;
        cells = few;
        room = much;
        texts = enough;
      }

  abbrev last_tasks : List (Task Act)
  last_tasks = tally p.end_line ∷ eval p.end_line (act (ask end_program) end_parts) ∷ []

  abbrev end_tasks : List (Task Act)
  end_tasks = back ∷ eval p.end_line end_parts ∷ last_tasks

  -- END of the main program
  end_walks : (b : Beside) (z : State) (n : ℕ) → Walks P limit none (counting limit E no_calls (λ k. ending (asking.Stop (pos 0))) n p.end_line z) (to last_tasks (core_of first b z) n)
  end_walks b z n =
      let D : Core = core_of first b z in
      let U : List (Task Act) = eval p.end_line (act (ask end_program) end_parts) ∷ [] in
      counted_walks P limit none (ending (asking.Stop (pos 0))) p.end_line n z b.hidden (to last_tasks D n) U D refl refl refl
      (to U D (n + 1), (0, refl), (b.hidden, refl), (λ r. to [] D (n + 1)), refl, λ r. (to [] D (n + 1), (0, refl), (b.hidden, refl), refl))

  behind_walks : (q : Control × ℕ) (z : State) (d : Config Act Core) → GoesOn E p.main.hidden 65793 0 end_tasks first beside 0 q z d
      → Walks P limit over' (and_then (counting limit E no_calls (λ k. ending (asking.Stop (pos 0))) q.1 p.end_line z) (λ v. done (tt, v.1))) d
  behind_walks q z d (b, at', keeps, later, r) =
      let D : Core = core_of first b z in
      let M : Outcome ((Control × ℕ) × State) = counting limit E no_calls (λ k. ending (asking.Stop (pos 0))) q.1 p.end_line z in
      let A : Config Act Core = to end_tasks D q.1 in
      let B : Config Act Core = to (eval p.end_line end_parts ∷ last_tasks) D q.1 in
      let F : Config Act Core = to last_tasks D q.1 in
      subst (Walks P limit over' (and_then M (λ v. done (tt, v.1)))) (sym (at' ∙ ap (λ us. to us D q.1) (to_back q.0 (eval p.end_line end_parts ∷ last_tasks))))
      (walks_before P limit over' (and_then M (λ v. done (tt, v.1))) A F
      (by_more P limit A B F (by_step P limit A B refl) (by_step P limit B F refl))
      (walks_then P limit none over' M (λ v. done (tt, v.1)) F (end_walks b z q.1) (λ v y c h. elim h [ ])))

  program_walks : IsPlain p → Walks P limit over' (whole limit E no_calls p.main.statements p.end_line l (first_state p me images)) (start_of p me images)
  program_walks plain =
      let S : Config Act Core = start_of p me images in
      let A : Config Act Core = to (run (steps E p.main.statements) ∷ end_tasks) first 0 in
      let Z : State = first_state p me images in
      let N : (Control × ℕ) × State → Outcome (Unit {0} × State) = λ q. and_then
      (counting limit E no_calls (λ k. ending (asking.Stop (pos 0))) q.0.1 p.end_line q.1) (λ v. done (tt, v.1)) in
      walks_before P limit over' (whole limit E no_calls p.main.statements p.end_line l Z) S A (by_step P limit S A refl)
      (walks_then P limit (GoesOn E p.main.hidden 65793 0 end_tasks first beside 0) over' (block limit E no_calls p.main.statements 0 l Z) N A
      (block_law P limit E no_calls blind_calls p.main.hidden 65793 0 p.main.statements plain l 0 end_tasks first beside Z ready)
      behind_walks)

pub program_law : ProgramLaw
program_law p me images limit l plain = program_walks p me images limit l plain
