-- The reads of a lane, and its asks for locks and events, fit, where those of its program do.
use Rattle.std.proofs.Common.{◌≡◌, ℕ, Bool, List, [], ◌∷◌, ◌++◌, ◌⊎◌, inl, inr, sym, subst}
use Rattle.std.specs.Prelude.{map}
use Rattle.trace_theory.specs.Entries.{Each}
use Rattle.trace_theory.specs.Machines.{Move, Said, WalkTo}
use Rattle.caf_events.specs.declared.ask.Ask.{Ask}
use Rattle.caf_events.specs.declared.ask.Ask.TheVariants as asking
use Rattle.caf_events.specs.declared.reply.Reply.{Reply}
use Rattle.object_rules.specs.Cells.{Declared}
use Rattle.core_runs.specs.Failures.{LockPlace, release_of, failure_steps}
use Rattle.image_lanes.specs.Lanes.{OnLane, lane_step, lane_start}
use Rattle.image_lanes.specs.Courses.{AreAt, lane_past, Fails, IsLimited}
use Rattle.image_lanes.proofs.CourseLaws.{course_of}
use Rattle.told_walks.specs.Asked.{Told, told_next, sizes_by}
use Rattle.walk_laws.proofs.Members.{told_by}
use Rattle.cell_walks.specs.Fitting.{Sizes, TellsImages, FitsCell, AllFit}

each_front : (P : Said Ask Reply → Type 0) (xs ys : List (Said Ask Reply)) → Each P (xs ++ ys) → Each P xs
each_front P [] ys h = tt
each_front P (x ∷ xs) ys h = (h.0, each_front P xs ys h.1)

module _ (n me : ℕ) (coarrays : List Declared) (readable : ℕ → Bool) where
  -- the asks of a walk fit, whatever the replies are that tell of images of the run alone
  abbrev pub WalksFit : {C : Type 0} → Sizes → (C → Move C Ask Reply) → C → Type 0
  WalksFit {C} z step first = (es : List (Said Ask Reply)) (c : C) → Each (λ (x : Said Ask Reply). TellsImages n x.reply) es → WalkTo step first es c → AllFit n me coarrays readable z es

  -- ---- asks that aren't for one
  abbrev IsOther : Ask → Type 0
  IsOther a = (z : Sizes) → FitsCell n me coarrays readable z a

  abbrev OthersIn : List Ask → Type 0
  OthersIn [] = Unit {0}
  OthersIn (a ∷ as_) = IsOther a × OthersIn as_

  releases : (held : List LockPlace) → OthersIn (map release_of held ++ asking.Gone ∷ [])
  releases [] = (λ z. tt, tt)
  releases (p ∷ ps) = (λ z. tt, releases ps)

  failing : (line : ℕ) (steps : List Ask) (es : List (Said Ask Reply)) → OthersIn steps → AreAt line steps es → Each (λ (x : Said Ask Reply). IsOther x.ask) es
  failing line steps [] n' h = tt
  failing line [] (e ∷ es) n' h = absurd h
  failing line (a ∷ as_) (e ∷ es) n' h = (λ z. subst (FitsCell n me coarrays readable z) (sym h.0) (n'.0 z), failing line as_ es n'.1 h.2)

  others_fit : (es : List (Said Ask Reply)) (z : Sizes) → Each (λ (x : Said Ask Reply). IsOther x.ask) es → AllFit n me coarrays readable z es
  others_fit [] z h = tt
  others_fit (e ∷ es) z h = (h.0 z, others_fit es (sizes_by z e.ask) h.1)

  fit_append : (xs ys : List (Said Ask Reply)) (z : Sizes) → AllFit n me coarrays readable z xs → Each (λ (x : Said Ask Reply). IsOther x.ask) ys → AllFit n me coarrays readable z (xs ++ ys)
  fit_append [] ys z h g = others_fit ys z g
  fit_append (x ∷ xs) ys z h g = (h.0, fit_append xs ys (sizes_by z x.ask) h.1 g)

  pub fit_last : (xs : List (Said Ask Reply)) (k : Told) (e : Said Ask Reply) → AllFit n me coarrays readable k.sizes (xs ++ e ∷ []) → FitsCell n me coarrays readable (told_by k xs).sizes e.ask
  fit_last [] k e h = h.0
  fit_last (x ∷ xs) k e h = fit_last xs (told_next k x.ask x.reply) e h.1

  -- ---- a lane
  module _ {C : Type 0} (z : Sizes) (step : C → Move C Ask Reply) (first : C) (fit : WalksFit z step first) where
    rest_others : (l : OnLane C) (es : List (Said Ask Reply)) → ((es ≡ []) ⊎ (Fails step l es ⊎ IsLimited step l es)) → Each (λ (x : Said Ask Reply). IsOther x.ask) es
    rest_others l es (inl e) = subst (Each (λ (x : Said Ask Reply). IsOther x.ask)) (sym e) tt
    rest_others l es (inr (inl f)) = subst (Each (λ (x : Said Ask Reply). IsOther x.ask)) (sym f.all) (λ y. tt, failing f.line (failure_steps l.image l.held) f.rest (λ y. tt, releases l.held) f.steps)
    rest_others l es (inr (inr f)) = subst (Each (λ (x : Said Ask Reply). IsOther x.ask)) (sym f.all) (λ y. tt, tt)

    pub lane_fits : (image fails_at limit : ℕ) → WalksFit z (lane_step step) (lane_start image fails_at limit first)
    lane_fits image fails_at limit es c tells w =
        let v = course_of step es (lane_start image fails_at limit first) w.0 first w.1 in
        let fits = fit v.walked v.to (each_front (λ (x : Said Ask Reply). TellsImages n x.reply) v.walked v.rest (subst (Each (λ (x : Said Ask Reply). TellsImages n x.reply)) v.all tells)) v.walks in
        subst (AllFit n me coarrays readable z) (sym v.all) (fit_append v.walked v.rest z fits (rest_others (lane_past (lane_start image fails_at limit first) v.walked v.to) v.rest v.ends))
