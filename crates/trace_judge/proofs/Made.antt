-- The event that is due is the one that is made; what is behind the last entry is behind all.
use Rattle.std.proofs.Common.{◌≡◌, ℕ, true, IsTrue, Some, List, [], ◌∷◌, ◌++◌, inl, inr, ap, sym, ◌∙◌, subst, arith}
use Rattle.caf_events.specs.declared.ask.Ask.{Ask}
use Rattle.caf_events.specs.declared.reply.Reply.{Reply}
use Rattle.caf_events.specs.declared.event.Event.{Event}
use Rattle.caf_events.specs.declared.event.Entry.{Entry}
use Rattle.caf_events.specs.Asks.{place_of}
use Rattle.caf_events.specs.Walkers.{AsksNext}
use Rattle.trace_theory.specs.Entries.{Earlier, IsTraceOrder}
use Rattle.trace_theory.specs.Machines.{Move, goes, asks, over}
use Rattle.trace_theory.proofs.Snocs.{each_last}
use Rattle.core_runs.specs.Lists.{image_of, stamp_of}
use Rattle.core_runs.specs.Moments.{Rules, Moment, IsNextEvent, Steps, ready_there, can_move, can_move_from, can_step}
use Rattle.core_runs.proofs.Unique.{one_due}
use Rattle.trace_judge.specs.Verdicts.{IsBehind, IsDueNow}
use Rattle.trace_judge.proofs.Next.{all_behind}

earlier_on : (x y z : Entry) → Earlier image_of stamp_of x y → Earlier image_of stamp_of y z → Earlier image_of stamp_of x z
earlier_on x y z (inl p) (inl q) = inl (omega arith)
earlier_on x y z (inl p) (inr q) = let e = q.0 in inl (omega arith)
earlier_on x y z (inr p) (inl q) = let e = p.0 in inl (omega arith)
earlier_on x y z (inr p) (inr q) = inr (p.0 ∙ q.0, (let a = p.1 in let b = q.1 in omega arith))

each_on : (t : List Entry) (l e : Entry) → IsBehind t l → Earlier image_of stamp_of l e → IsBehind t e
each_on [] l e h p = tt
each_on (x ∷ xs) l e h p = (earlier_on x l e h.0 p, each_on xs l e h.1 p)

pub behind_last : (t : List Entry) (l e : Entry) → IsTraceOrder image_of stamp_of (t ++ l ∷ []) → Earlier image_of stamp_of l e → IsBehind (t ++ l ∷ []) e
behind_last t l e o p = each_last (λ x. Earlier image_of stamp_of x e) t l (each_on t l e (all_behind t l o) p) p

module _ {C M B : Type 0} (r : Rules C M B) (m : Moment C M B) where
  moves : (i : ℕ) (v : Move C Ask Reply) (a : Ask) → AsksNext v a → IsTrue (ready_there r m i a (place_of a)) → can_move r m i v ≡ true
  moves i (goes c) a at t = absurd at
  moves i (asks b l k) a at t = subst (λ x. ready_there r m i x (place_of x) ≡ true) at t
  moves i over a at t = absurd at

  pub can : (e : Entry) → IsDueNow r m e → can_step r m (image_of e) ≡ true
  can e d = ap (can_move_from r m (image_of e)) d.stands ∙ moves (image_of e) (r.step d.config) e.event.ask d.due.asked d.due.ready

  pub made : (m' : Moment C M B) (e : Entry) (f : Event) → IsDueNow r m e → Steps r m (image_of e) f m' → f ≡ e.event
  made m' e f d s =
      let some : Some s.from ≡ Some d.config = sym s.stands ∙ d.stands in
      let from : s.from ≡ d.config = cc in
      one_due C M B r m (image_of e) d.config f e.event (subst (λ c. IsNextEvent r m (image_of e) c f) from s.due) d.due
