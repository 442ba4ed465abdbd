-- The next allocation or deallocation of an image is of a coarray that the program's acts name.
use Rattle.std.proofs.Common.{◌≡◌, ℕ, zero, suc, Bool, List, [], ◌∷◌, ◌++◌, ◌⊎◌, map, inl, inr, sym, subst}
use Rattle.trace_theory.specs.Entries.{Each}
use Rattle.trace_theory.specs.Machines.{Move, Said}
use Rattle.caf_events.specs.declared.ask.Ask.{Ask}
use Rattle.caf_events.specs.declared.ask.Ask.TheVariants as asks
use Rattle.caf_events.specs.declared.reply.Reply.{Reply}
use Rattle.walk_theory.specs.Syntax.{Steps, body_of}
use Rattle.image_acts.specs.Acts.{Act}
use Rattle.checked_tree.specs.Statements as s
use Rattle.tree_meaning.specs.Forms.{bodies}
use Rattle.tree_meaning.specs.Start.{first_core, start_of, walk_step}
use Rattle.core_runs.specs.Failures.{LockPlace, release_of, failure_steps}
use Rattle.image_lanes.specs.Lanes.{OnLane, lane_step, lane_start}
use Rattle.image_lanes.specs.Courses.{AreAt, lane_past, Fails, IsLimited}
use Rattle.image_lanes.proofs.CourseLaws.{course_of}
use Rattle.team_laws.proofs.Lists.{each_append}
use Rattle.told_parts.specs.Allocating.{IsOfSet, StepsActOn, BodiesActOn, WalksOfSet}
use Rattle.told_parts.proofs.AllocatingWalks.{start_so}
use Rattle.told_programs.specs.Allowed.{AllocatesOf}
use Rattle.told_programs.proofs.ProgramAllocates.{program_allocates}

module _ (f : ℕ → Bool) where
  body_acts : (bs : List (Steps Act)) → BodiesActOn f bs → (k : ℕ) → StepsActOn f (body_of bs k)
  body_acts [] h k = tt
  body_acts (b ∷ bs) h zero = h.0
  body_acts (b ∷ bs) h (suc k) = body_acts bs h.1 k

  program_acts : (p : s.Program) → BodiesActOn f (bodies p) → (limit me n : ℕ) → WalksOfSet f (walk_step p limit) (start_of p me n)
  program_acts p h limit me n = start_so f (body_of (bodies p)) limit (body_acts (bodies p) h) p.end_line (first_core p me n)

  -- neither a failure nor a limit allocates
  abbrev None : List Ask → Type 0
  None as_ = Each (IsOfSet f) as_

  releases : (held : List LockPlace) → None (map release_of held ++ asks.Gone ∷ [])
  releases [] = (tt, tt)
  releases (p ∷ ps) = (tt, releases ps)

  failing : (line : ℕ) (steps : List Ask) (es : List (Said Ask Reply)) → None steps → AreAt line steps es → Each (λ (e : Said Ask Reply). IsOfSet f e.ask) es
  failing line steps [] n h = tt
  failing line [] (e ∷ es) n h = absurd h
  failing line (a ∷ as_) (e ∷ es) n h = (subst (IsOfSet f) (sym h.0) n.0, failing line as_ es n.1 h.2)

  module _ {C : Type 0} (step : C → Move C Ask Reply) (first : C) (walks : WalksOfSet f step first) where
    rest : (l : OnLane C) (es : List (Said Ask Reply)) → ((es ≡ []) ⊎ (Fails step l es ⊎ IsLimited step l es)) → Each (λ (e : Said Ask Reply). IsOfSet f e.ask) es
    rest l es (inl e) = subst (Each (λ (e : Said Ask Reply). IsOfSet f e.ask)) (sym e) tt
    rest l es (inr (inl h)) = subst (Each (λ (e : Said Ask Reply). IsOfSet f e.ask)) (sym h.all) (tt, failing h.line (failure_steps l.image l.held) h.rest (tt, releases l.held) h.steps)
    rest l es (inr (inr h)) = subst (Each (λ (e : Said Ask Reply). IsOfSet f e.ask)) (sym h.all) (tt, tt)

    lane_acts : (image fails_at limit : ℕ) → WalksOfSet f (lane_step step) (lane_start image fails_at limit first)
    lane_acts image fails_at limit es c w =
        let v = course_of step es (lane_start image fails_at limit first) c first w in
        subst (Each (λ (e : Said Ask Reply). IsOfSet f e.ask)) (sym v.all)
        (each_append (λ (e : Said Ask Reply). IsOfSet f e.ask) v.walked v.rest (walks v.walked v.walks.0 v.walks.1) (rest (lane_past (lane_start image fails_at limit first) v.walked v.to) v.rest v.ends))

  pub image_acts : (p : s.Program) → AllocatesOf f p → (limit i n fails_at words : ℕ) → WalksOfSet f (lane_step (walk_step p limit)) (lane_start i fails_at words (start_of p i n))
  image_acts p h limit i n fails_at words = lane_acts (walk_step p limit) (start_of p i n) (program_acts p (program_allocates f p h) limit i n) i fails_at words

pub each_last : (P : Said Ask Reply → Type 0) (xs : List (Said Ask Reply)) (e : Said Ask Reply) → Each P (xs ++ e ∷ []) → P e
each_last P [] e h = h.0
each_last P (x ∷ xs) e h = each_last P xs e h.1
