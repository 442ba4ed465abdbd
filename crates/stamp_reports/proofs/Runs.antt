-- A core run of lanes has so few entries that no limit of stamps is due in it.
use Rattle.std.proofs.Common.{◌≡◌, ℕ, zero, suc, ◌+◌, ◌-◌, ◌*◌, ◌/◌, ◌^◌, ◌<◌, ◌≤◌, List, [], ◌∷◌, ◌++◌, length, refl, ap, sym, ◌∙◌, subst, arith}
use Rattle.std.specs.Prelude.{map}
use Rattle.std.proofs.Math.Nat.{suc-mul, mul_comm, div-mul-le_self}
use Rattle.caf_events.specs.declared.ask.Ask.{Ask}
use Rattle.caf_events.specs.declared.reply.Reply.{Reply}
use Rattle.caf_events.specs.declared.event.Entry.{Entry}
use Rattle.trace_theory.specs.Entries.{Each}
use Rattle.trace_theory.specs.Machines.{Move}
use Rattle.trace_theory.proofs.Filters.{of_inside}
use Rattle.trace_theory.proofs.Snocs.{each_at}
use Rattle.object_rules.specs.Cells.{Declared}
use Rattle.core_runs.specs.Lists.{image_of, said}
use Rattle.core_runs.specs.Moments.{Rules}
use Rattle.core_runs.specs.Beginnings.{Beginning, IsImage, IsOneOf}
use Rattle.core_runs.specs.CoreRuns.{of_image, said_by, IsCoreRun, IsFit}
use Rattle.core_runs.specs.Lawful.{full_rules}
use Rattle.core_runs.specs.Sequences.{IsStampLimit}
use Rattle.core_runs.proofs.Lawfuls.{answered_by}
use Rattle.image_lanes.specs.Lanes.{OnLane, lane_step, lane_start}
use Rattle.image_lanes.specs.LaneRuns.{lanes_begin}
use Rattle.stamp_limits.specs.StampLimits.{HasNoStampLimit}
use Rattle.stamp_limits.proofs.Few.{each_split}
use Rattle.stamp_reports.proofs.Parts.{few_of_images}
use Rattle.stamp_reports.proofs.Steps.{most, walk_few}

length_said : (xs : List Entry) → length (map (λ (x : Entry). said x.event) xs) ≡ length xs
length_said [] = refl
length_said (x ∷ xs) = ap suc (length_said xs)

-- a run of n images with a limit of so many words has few entries
pub few_entries : {C : Type 0} (step : C → Move C Ask Reply) (hears : OnLane C → Reply → Type 0) (coarrays : List Declared) (n : ℕ) (first : ℕ → C) (fails_at : ℕ → ℕ) (words : ℕ) (t : List Entry)
    → IsCoreRun (full_rules (lane_step step) hears) (lanes_begin coarrays n first fails_at words) t → length t ≤ n * (2 * words + 4)
few_entries {C} step hears coarrays n first fails_at words t core = few_of_images image_of n (2 * words + 4) t core.lawful.images part
  where
    part : (i : ℕ) → IsOneOf n i → length (of_image i t) ≤ 2 * words + 4
    part i here =
        let walk = core.walks i here in
        let begins : OnLane C = lane_start i (fails_at i) words (first i) in
        let few = walk_few step (said_by i t) begins walk.0 walk.1 in
        let at_first : most begins ≡ 2 * words + 4 = omega arith in
        let same : length (said_by i t) ≡ length (of_image i t) = length_said (of_image i t) in
        omega arith

said_map : (xs : List Entry) → Each (λ e. IsStampLimit e.ask → ⊥) (map (λ (x : Entry). said x.event) xs) → Each (λ x. IsStampLimit x.event.ask → ⊥) xs
said_map [] h = tt
said_map (x ∷ xs) h = (h.0, said_map xs h.1)

module _ {C M B : Type 0} (r : Rules C M B) (b : Beginning C M B) (t : List Entry) (fit : IsFit r b) (core : IsCoreRun r b t) where
  none_at : (before after : List Entry) (x : Entry) → t ≡ before ++ x ∷ after → IsStampLimit x.event.ask → ⊥
  none_at before after x e =
      let i = image_of x in
      let here : IsImage b i = each_at (λ y. IsImage b (image_of y)) before after x (subst (Each (λ y. IsImage b (image_of y))) e core.lawful.images) in
      let walk = core.walks i here in
      let none = (fit.orderly i here).no_stamp_limit (said_by i t) walk.0 (answered_by r b t fit core i) walk.1 in
      let split : of_image i t ≡ of_image i before ++ x ∷ of_image i after = ap (of_image i) e ∙ of_inside image_of before after x in
      each_at (λ y. IsStampLimit y.event.ask → ⊥) (of_image i before) (of_image i after) x
      (subst (Each (λ y. IsStampLimit y.event.ask → ⊥)) split (said_map (of_image i t) none))

  -- fit programs ask none
  pub no_limit : HasNoStampLimit t
  no_limit = each_split (λ y. IsStampLimit y.event.ask → ⊥) t none_at

pub below : (a b c : ℕ) → a ≤ b → b < c → a < c
below a b c le lt = omega arith

pub within : (a b c : ℕ) → a ≤ b → b < c → a ≤ c
within a b c le lt = omega arith

times : (n q : ℕ) → n * (2 * q + 4) ≡ 2 * (n * q) + 4 * n
times zero q = omega arith
times (suc n) q = let r = times n q in let a = suc-mul n (2 * q + 4) in let b = suc-mul n q in omega arith

far_below : (n product : ℕ) → n ≤ 256 → product ≤ 16777216 → 2 * product + 4 * n < 2 ^ 62
far_below n product few share = omega arith

-- the numbers of the command
pub shares_below : (n : ℕ) → n ≤ 256 → n * (2 * (16777216 / n) + 4) < 2 ^ 62
shares_below n few =
    let share : n * (16777216 / n) ≤ 16777216 = subst (λ x. x ≤ 16777216) (mul_comm (16777216 / n) n) (div-mul-le_self 16777216 n) in
    subst (λ x. x < 2 ^ 62) (sym (times n (16777216 / n))) (far_below n (n * (16777216 / n)) few share)
