-- Each body of a program suits, wherever it runs, where calls of intrinsic subroutines do.
use Rattle.std.proofs.Common.{◌≡◌, ℕ, zero, suc, ◌*◌, ◌≤◌, List, [], ◌∷◌, length, refl, arith}
use Rattle.std.proofs.lemmas.List.{length-map}
use Rattle.checked_tree.specs.declared.action.WrittenArguments.{WrittenArguments}
use Rattle.checked_tree.specs.declared.data.Variable.{Variable}
use Rattle.checked_tree.specs.Statements as s
use Rattle.checked_tree.specs.Statements.{Program, Procedure}
use Rattle.walk_theory.specs.Syntax.{body_of}
use Rattle.object_rules.specs.Cells.{Declared}
use Rattle.image_acts.specs.Acts.{here, host}
use Rattle.tree_meaning.specs.Forms.{bodies, procedure_bodies, environment_of}
use Rattle.tree_meaning.specs.Pieces.{written_dummies}
use Rattle.tree_meaning.specs.Subroutines.{intrinsic_call}
use Rattle.made_code.specs.Ranks as ranks
use Rattle.kind_walks.specs.Kinds.{last_layout, Typing}
use Rattle.kind_walks.specs.Suiting.{Leads, StepsSuit, BodiesSuit}
use Rattle.kind_expressions.specs.Kinded.{kind_of, kinds_of, layouts, main_layout, unit_layout, procedure_at}
use Rattle.kind_expressions.proofs.Bodies.{setting}
use Rattle.kind_statements.specs.Kinded as kinded
use Rattle.kind_statements.specs.Laws.{SubroutinesSuit}
use Rattle.kind_statements.proofs.Statements.{block_suits}

-- as many kinds as variables
as_many : (vs : List Variable) → length (kinds_of vs) ≤ length vs
as_many vs = (let e : length (kinds_of vs) ≡ length vs = length-map vs (λ (v : Variable). kind_of v.of_type) in omega arith)

module _ (p : Program) (coarrays : List Declared) (n : ℕ) (few : 2 * n ≤ 2147483647) where
  -- calls of intrinsic subroutines, in a procedure
  abbrev Called : Procedure → Type 0
  Called q = (z : Typing) → (z.running ≡ unit_layout q.unit) → (last_layout z.running z.callers ≡ main_layout p)
      → (i : s.IntrinsicSubroutine) (a : WrittenArguments) → ranks.IsSubroutine p.procedures i (written_dummies a) → kinded.IsSubroutine p coarrays (unit_layout q.unit) (main_layout p) i
      → Leads coarrays n (layouts p) z (intrinsic_call (environment_of p host q.unit) i a) z

  procedures_suit : (qs : List Procedure) (m : ℕ) → ranks.AreProcedures p.procedures qs → kinded.AreProcedures p coarrays qs → Called (procedure_at qs m) → (z : Typing) → z.running ≡ unit_layout (procedure_at qs m).unit
      → last_layout z.running z.callers ≡ main_layout p → StepsSuit coarrays n (layouts p) z (body_of (procedure_bodies p qs) m)
  procedures_suit [] m h k c z f g = tt
  procedures_suit (q ∷ qs) zero h k c z f g =
      block_suits (setting p coarrays n) few (environment_of p host q.unit) (unit_layout q.unit) (main_layout p) refl (λ m. refl) (as_many q.unit.variables) (λ i a y x r d. record { leads = c y x.running x.last i a r d }) q.unit.statements z
      (record { running = f; last = g; constants = g }) h.0 k.0
  procedures_suit (q ∷ qs) (suc m) h k c z f g = procedures_suit qs m h.1 k.1 c z f g

  pub bodies_suit : ranks.IsRankedProgram p → kinded.IsKindedProgram coarrays p → SubroutinesSuit p coarrays n → BodiesSuit coarrays n (layouts p) (body_of (bodies p))
  bodies_suit h k c zero z i =
      block_suits (setting p coarrays n) few (environment_of p here p.main) (main_layout p) (main_layout p) refl (λ m. refl) (as_many p.main.variables) (λ f a y x r d. record { leads = c 0 y (x.running, x.last) f a r d }) p.main.statements z
      (record { running = i.0; last = i.1; constants = i.0 }) h.0 k.0
  bodies_suit h k c (suc m) z i = procedures_suit p.procedures m h.1 k.1 (λ y f g j a r d. c (suc m) y (f, g) j a r d) z i.0 i.1
