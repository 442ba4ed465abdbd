-- Parts that keep the order of arrivals and departures, and the frames.
use Rattle.std.proofs.Common.{◌≡◌, ℕ, zero, suc, Bool, true, false, cond, List, [], ◌∷◌, refl, sym, subst}
use Rattle.std.specs.Prelude.{None}
use Rattle.walk_theory.specs.Syntax.{Parts, end_parts, value, act, enter, either, Form, simple, choose, loop, around, exit, cycle, return, Branches, otherwise, branch, Steps, stop, also, body_of}
use Rattle.image_acts.specs.Acts as a
use Rattle.image_acts.specs.Acts.{Act, call}
use Rattle.image_acts.specs.Meaning.{effect_of}
use Rattle.program_walks.specs.Dues.{owing}
use Rattle.program_walks.specs.Keeping.{IsClear, PartsKeep, KeepsOrder, FormKeeps, BranchesKeep, StepsKeep, BodiesKeep}
use Rattle.program_walks.proofs.FreeActs.{IsFree, free_act}
use Rattle.program_walks.proofs.Walks.{effect_more, kept_then, each_test}
use Rattle.program_walks.proofs.Frames.{FormFits, BranchesFit, StepsFit}
use Rattle.program_walks.proofs.FrameParts.{is_frame, Plain, Steady, steady_call, steady_none, steady_then, steady_both, steady_fork}

-- ---- the order
kept_none : KeepsOrder end_parts
kept_none c = refl

kept_act : (x : Act) (q : Parts Act) → IsFree x → KeepsOrder q → KeepsOrder (act x q)
kept_act x q h k c = effect_more IsClear (PartsKeep q IsClear) (λ d e s. subst (λ y. PartsKeep q IsClear y e) (sym s) (k e)) (effect_of x c) (owing None) (free_act x c h)

kept_both : (p q : Parts Act) → KeepsOrder p → KeepsOrder q → KeepsOrder (value p q)
kept_both p q h k = kept_then p h (PartsKeep q IsClear) k

kept_enter : (n : ℕ) (q : Parts Act) → KeepsOrder q → KeepsOrder (enter n q)
kept_enter n q h c = (refl, h)

kept_fork : (p q r : Parts Act) → KeepsOrder p → KeepsOrder q → KeepsOrder r → KeepsOrder (either p q r)
kept_fork p q r h k l c = each_test c (PartsKeep p (PartsKeep r IsClear) (owing None)) (PartsKeep q (PartsKeep r IsClear) (owing None)) (kept_then p h (PartsKeep r IsClear) l) (kept_then q k (PartsKeep r IsClear) l)

-- ---- both
pub record Ordered (p : Parts Act) : Type 0 where
  pub kept : KeepsOrder p
  pub steady : Steady p

pub no_parts : Ordered end_parts
no_parts = record { kept = kept_none; steady = steady_none }

-- an act that is neither an arrival nor a departure, and neither begins a frame nor ends one
pub acts : {x : Act} {q : Parts Act} → IsFree x → is_frame x ≡ false → Ordered q → Ordered (act x q)
acts {x} {q} h f k = record { kept = kept_act x q h k.kept; steady = steady_then f k.steady }

pub one : {x : Act} → IsFree x → is_frame x ≡ false → Ordered (act x end_parts)
one h f = acts h f no_parts

pub both : {p q : Parts Act} → Ordered p → Ordered q → Ordered (value p q)
both {p} {q} h k = record { kept = kept_both p q h.kept k.kept; steady = steady_both h.steady k.steady }

pub fork : {p q r : Parts Act} → Ordered p → Ordered q → Ordered r → Ordered (either p q r)
fork {p} {q} {r} h k l = record { kept = kept_fork p q r h.kept k.kept l.kept; steady = steady_fork h.steady k.steady l.steady }

pub either_way : (b : Bool) (p q : Parts Act) → Ordered p → Ordered q → Ordered (cond b p q)
either_way true p q h k = h
either_way false p q h k = k

-- a call: the frame is begun, the procedure's body runs, and the frame ends; beside the beginning of the body and its
-- end no procedure is entered
module _ (k cells arrays need : ℕ) (lays copies results goes_out goes_back : Parts Act) where
  pub ordered_call : Ordered lays → Ordered copies → Ordered results → Ordered goes_out → Ordered goes_back → Plain lays → Plain copies → Plain results → Plain goes_out
      → Ordered (value (value (act (call (a.begin_frame cells arrays need)) end_parts) (value lays copies)) (enter k (value results (value goes_out (value (act (call a.end_frame) end_parts) goes_back)))))
  ordered_call hl hc hr ho hb pl pc pr po =
      let begins = act (call (a.begin_frame cells arrays need)) end_parts in
      let ends = act (call a.end_frame) end_parts in
      let end_kept = kept_both ends goes_back (kept_act (call a.end_frame) end_parts tt kept_none) hb.kept in
      let behind = kept_both results (value goes_out (value ends goes_back)) hr.kept (kept_both goes_out (value ends goes_back) ho.kept end_kept) in
      let before = kept_both begins (value lays copies) (kept_act (call (a.begin_frame cells arrays need)) end_parts tt kept_none) (kept_both lays copies hl.kept hc.kept) in
      record {
        kept = kept_both (value begins (value lays copies)) (enter k (value results (value goes_out (value ends goes_back)))) before (kept_enter k (value results (value goes_out (value ends goes_back))) behind);
        steady = steady_call k cells arrays need lays copies results goes_out goes_back pl pc pr po hb.steady;
      }

-- ---- forms of statements
abbrev mutual
  pub FormOrdered : Form Act → Type 0
  FormOrdered (simple p) = Ordered p
  FormOrdered (choose p bs) = Ordered p × BranchesOrdered bs
  FormOrdered (loop s n t b) = Ordered s × Ordered n × Ordered t × StepsOrdered b
  FormOrdered (around p b m q) = Ordered p × StepsOrdered b × Ordered q
  FormOrdered (exit n) = Unit {0}
  FormOrdered (cycle n) = Unit {0}
  FormOrdered return = Unit {0}

  pub BranchesOrdered : Branches Act → Type 0
  BranchesOrdered (otherwise b) = StepsOrdered b
  BranchesOrdered (branch l p x rest) = Ordered p × StepsOrdered x × BranchesOrdered rest

  pub StepsOrdered : Steps Act → Type 0
  StepsOrdered stop = Unit {0}
  StepsOrdered (also l f rest) = FormOrdered f × StepsOrdered rest

mutual
  form_keeps : (f : Form Act) → FormOrdered f → FormKeeps f
  form_keeps (simple p) h = h.kept
  form_keeps (choose p bs) h = (h.0.kept, branches_keep bs h.1)
  form_keeps (loop s n t b) h = (h.0.kept, h.1.kept, h.2.kept, steps_keep b h.3)
  form_keeps (around p b m q) h = (h.0.kept, steps_keep b h.1, h.2.kept)
  form_keeps (exit n) h = tt
  form_keeps (cycle n) h = tt
  form_keeps return h = tt

  branches_keep : (bs : Branches Act) → BranchesOrdered bs → BranchesKeep bs
  branches_keep (otherwise b) h = steps_keep b h
  branches_keep (branch l p x rest) h = (h.0.kept, steps_keep x h.1, branches_keep rest h.2)

  steps_keep : (ss : Steps Act) → StepsOrdered ss → StepsKeep ss
  steps_keep stop h = tt
  steps_keep (also l f rest) h = (form_keeps f h.0, steps_keep rest h.1)

mutual
  form_fits : (f : Form Act) → FormOrdered f → FormFits f
  form_fits (simple p) h = h.steady.fits
  form_fits (choose p bs) h = (h.0.steady.fits, branches_fit bs h.1)
  form_fits (loop s n t b) h = (h.0.steady.fits, h.1.steady.fits, h.2.steady.fits, steps_fit b h.3)
  form_fits (around p b m q) h = (h.0.steady.fits, steps_fit b h.1, h.2.steady.fits)
  form_fits (exit n) h = tt
  form_fits (cycle n) h = tt
  form_fits return h = tt

  branches_fit : (bs : Branches Act) → BranchesOrdered bs → BranchesFit bs
  branches_fit (otherwise b) h = steps_fit b h
  branches_fit (branch l p x rest) h = (h.0.steady.fits, steps_fit x h.1, branches_fit rest h.2)

  steps_fit : (ss : Steps Act) → StepsOrdered ss → StepsFit ss
  steps_fit stop h = tt
  steps_fit (also l f rest) h = (form_fits f h.0, steps_fit rest h.1)

-- ---- the bodies of a program, its main program first
abbrev pub BodiesOrdered : List (Steps Act) → Type 0
BodiesOrdered [] = Unit {0}
BodiesOrdered (b ∷ bs) = StepsOrdered b × BodiesOrdered bs

pub ordered_keep : (bs : List (Steps Act)) → BodiesOrdered bs → BodiesKeep bs
ordered_keep [] h = tt
ordered_keep (b ∷ bs) h = (steps_keep b h.0, ordered_keep bs h.1)

pub body_keeps : (bs : List (Steps Act)) → BodiesOrdered bs → (k : ℕ) → StepsKeep (body_of bs k)
body_keeps [] h k = tt
body_keeps (b ∷ bs) h zero = steps_keep b h.0
body_keeps (b ∷ bs) h (suc k) = body_keeps bs h.1 k

pub body_fits : (bs : List (Steps Act)) → BodiesOrdered bs → (k : ℕ) → StepsFit (body_of bs k)
body_fits [] h k = tt
body_fits (b ∷ bs) h zero = steps_fit b h.0
body_fits (b ∷ bs) h (suc k) = body_fits bs h.1 k
