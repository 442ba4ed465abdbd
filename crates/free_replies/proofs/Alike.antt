-- Entries of a trace and of a run that follows it: they ask and hear the same, so the run is free where the trace is.
use Rattle.std.proofs.Common.{◌≡◌, ℕ, true, false, List, [], ◌∷◌, ◌++◌, inl, refl, ap, subst}
use Rattle.trace_theory.specs.Entries.{Each}
use Rattle.trace_theory.specs.Machines.{Said}
use Rattle.trace_theory.proofs.Filters.{each_filter}
use Rattle.trace_theory.proofs.Snocs.{each_at}
use Rattle.caf_events.specs.declared.ask.Ask.{Ask}
use Rattle.caf_events.specs.declared.ask.Ask.TheVariants as asks
use Rattle.caf_events.specs.declared.reply.Reply.{Reply}
use Rattle.caf_events.specs.declared.event.Entry.{Entry}
use Rattle.object_rules.specs.Cells.{is_mark, is_marked}
use Rattle.core_runs.specs.Lists.{said}
use Rattle.core_runs.specs.Failures.{is_failure_step}
use Rattle.core_runs.specs.CoreRuns.{of_memory}
use Rattle.order_theory.specs.Order.{Within}
use Rattle.order_theory.specs.Races.{Stands}
use Rattle.order_axioms.specs.Views.{view}
use Rattle.order_axioms.specs.OwnLists.{IsQuiet}
use Rattle.order_cuts.specs.Cuts.{Follows, IsSame, NoneSpeaks}
use Rattle.order_cuts.proofs.OwnParts.{same_marks, known}
use Rattle.every_order.specs.Decided.{is_free}
use Rattle.every_order.specs.Likes.{likes}

-- its reply is free
abbrev pub IsFree : Entry → Type 0
IsFree x = is_free x.event.ask x.event.reply ≡ true

-- what holds of each entry where it stands holds of each, and the other way round
pub each_from : (P : Entry → Type 0) (t : List Entry) → ((x : Stands t) → P x.event) → Each P t
each_from P [] h = tt
each_from P (e ∷ t) h = (
  h (record { before = []; event = e; rest = t; split = refl }),
  each_from P t (λ x. h (record { before = e ∷ x.before; event = x.event; rest = x.rest; split = ap (λ z. e ∷ z) x.split })),
)

pub each_stands : (P : Entry → Type 0) (t : List Entry) → Each P t → (x : Stands t) → P x.event
each_stands P t h x = each_at P x.before x.rest x.event (subst (Each P) x.split h)

pub each_front : (P : Entry → Type 0) (xs ys : List Entry) → Each P (xs ++ ys) → Each P xs
each_front P [] ys h = tt
each_front P (x ∷ xs) ys h = (h.0, each_front P xs ys h.1)

-- no free step is one of a failure
pub not_failing : (a : Ask) (r : Reply) → is_free a r ≡ true → is_failure_step a ≡ true → ⊥
not_failing asks.Fail r h f = cc
not_failing (asks.Mark owner) r h f = cc
not_failing (asks.Free owner span) r h f = cc
not_failing asks.Gone r h f = cc
not_failing a r h f = cc

not_mark : (a : Ask) (r : Reply) → is_free a r ≡ true → is_mark a ≡ false
not_mark (asks.Mark owner) r h = absurd (cc)
not_mark a r h = refl

no_mark : (h : List Entry) → Each IsFree h → is_marked h ≡ false
no_mark [] f = refl
no_mark (e ∷ h) f = rw (not_mark e.event.ask e.event.reply f.0, no_mark h f.1) refl

-- no memory is marked
pub unmarked : (owner : ℕ) (g : List Entry) → Each IsFree g → is_marked (of_memory owner g) ≡ false
unmarked owner g f = no_mark (of_memory owner g) (each_filter IsFree _ g f)

nothing_within : {A : Type 0} (xs : List A) → ((a : A) → Within a xs → ⊥) → xs ≡ []
nothing_within [] h = refl
nothing_within (x ∷ xs) h = absurd (h x (inl refl))

-- no status of free entries speaks of a failed image: none has begun to fail
pub none_speaks : (n : ℕ) (g : List Entry) → IsQuiet n g → Each IsFree g → NoneSpeaks (view n) (likes n) g
none_speaks n g quiet f y = nothing_within _ (λ i w. (
    let failed = quiet.spoken y.before y.rest y.event i y.split w in
    let front = each_front IsFree y.before (y.event ∷ y.rest) (subst (Each IsFree) y.split f) in
    let free = each_at IsFree failed.0 failed.2 failed.1 (subst (Each IsFree) failed.3 front) in
    not_failing failed.1.event.ask failed.1.event.reply free failed.5))

module _ (n : ℕ) (t f : List Entry) (fol : Follows (view n) (likes n) t f) where
  -- entries that are the same ask and hear the same at the same line
  pub said_same : (x : Stands t) (y : Stands f) → IsSame (view n) (likes n) x y → said x.event.event ≡ said y.event.event
  said_same x y s = (same_marks Entry (Said Ask Reply) (view n) (likes n) t f fol x y s).1

  -- what holds of all that is said in t holds of all that is said in f
  pub carried : (P : Said Ask Reply → Type 0) → Each (λ x. P (said x.event)) t → Each (λ x. P (said x.event)) f
  carried P h = each_from (λ x. P (said x.event)) f (λ y. (
      let k = known Entry (Said Ask Reply) (view n) (likes n) t f fol y in
      subst P (said_same k.0 y k.1) (each_stands (λ x. P (said x.event)) t h k.0)))
