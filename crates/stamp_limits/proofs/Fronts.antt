-- Fronts of runs that end at limits of stamps.
use Rattle.std.proofs.Common.{◌≡◌, ℕ, List, [], ◌∷◌, ◌++◌, refl, ap, ◌∙◌, subst, append_assoc}
use Rattle.std.specs.Prelude.{map, not, nat_eq}
use Rattle.std.specs.List.{filter}
use Rattle.std.proofs.lemmas.List.{map-append}
use Rattle.caf_events.specs.declared.event.Entry.{Entry}
use Rattle.trace_theory.specs.Machines.{Move, Said, Walk}
use Rattle.trace_theory.proofs.Filters.{filter_append}
use Rattle.core_runs.specs.Lists.{image_of, said}
use Rattle.core_runs.specs.Moments.{Rules}
use Rattle.core_runs.specs.Beginnings.{Beginning}
use Rattle.core_runs.specs.CoreRuns.{of_image, said_by}
use Rattle.stamp_limits.specs.StampLimits.{is_stamp_limit, said_by_program, IsStampLimitedRun}
use Rattle.stamp_limits.proofs.Recited.{front_lawful, front_nothing_after}

walk_front : {C A R : Type 0} (step : C → Move C A R) (c d : C) (xs ys : List (Said A R)) → Walk step c (xs ++ ys) d → (e : C) × Walk step c xs e
walk_front step c d [] ys w = (c, refl)
walk_front step c d (x ∷ xs) ys (k, comes, w) = let w' = walk_front step (k x.reply) d xs ys w in (w'.0, (k, comes, w'.1))

said_append : (i : ℕ) (xs ys : List Entry) → said_by i (xs ++ ys) ≡ said_by i xs ++ said_by i ys
said_append i xs ys =
    ap (map (λ (x : Entry). said x.event)) (filter_append (λ x. nat_eq (image_of x) i) xs ys) ∙ map-append (λ (x : Entry). said x.event) (of_image i xs) (of_image i ys)

pub program_append : (i : ℕ) (xs ys : List Entry) → said_by_program i (xs ++ ys) ≡ said_by_program i xs ++ said_by_program i ys
program_append i xs ys =
    ap (filter (λ e. not (is_stamp_limit e.ask))) (said_append i xs ys) ∙ filter_append (λ e. not (is_stamp_limit e.ask)) (said_by i xs) (said_by i ys)

pub limited_front : {C M B : Type 0} (r : Rules C M B) (b : Beginning C M B) (front rest : List Entry) → IsStampLimitedRun r b (front ++ rest) → IsStampLimitedRun r b front
limited_front {C} {M} {B} r b front rest run = record {
  lawful = front_lawful r b front rest run.lawful run.nothing_after;
  walks = λ i here. (
      let w = run.walks i here in
      walk_front r.step (b.first i) w.0 (said_by_program i front) (said_by_program i rest) (subst (λ es. Walk r.step (b.first i) es w.0) (program_append i front rest) w.1));
  nothing_after = front_nothing_after r b front rest run.lawful run.nothing_after;
  limits = λ before after x e. run.limits before (after ++ rest) x (ap (λ zs. zs ++ rest) e ∙ append_assoc before (x ∷ after) rest);
}
