-- An image that has said all that it says in t makes no further step: it has ended, or waits for what isn't ready after
-- t.
use Rattle.std.proofs.Common.{◌≡◌, ℕ, ◌+◌, cond, List, [], ◌∷◌, ◌++◌, refl, ap, sym, ◌∙◌, subst, append_assoc}
use Rattle.std.proofs.lemmas.Bool.{eq-eqb}
use Rattle.trace_theory.specs.Machines.{Move, asks, goes, over, go, goes_on, Said, Comes, Walk, OneNextAsk}
use Rattle.trace_theory.proofs.Machines.{go_more}
use Rattle.caf_events.specs.declared.ask.Ask.{Ask}
use Rattle.caf_events.specs.declared.reply.Reply.{Reply}
use Rattle.caf_events.specs.declared.event.Entry.{Entry}
use Rattle.caf_events.specs.Walkers.{AsksNext}
use Rattle.core_runs.specs.Lists.{said}
use Rattle.core_runs.specs.Moments.{Rules}
use Rattle.core_runs.specs.Beginnings.{Beginning}
use Rattle.core_runs.specs.CoreRuns.{IsCoreRun, said_by}
use Rattle.core_runs.specs.Waits.{HasEndedIn, IsWaiting}
use Rattle.every_order.proofs.Induction.{said_more, each_last}

module _ {C M B : Type 0} (r : Rules C M B) (b : Beginning C M B) (one : OneNextAsk r.step) (t : List Entry) where
  more_is : (g : List Entry) (x : Entry) → said_by x.image.0 (g ++ x ∷ []) ≡ said_by x.image.0 g ++ said x.event ∷ []
  more_is g x = said_more x.image.0 g x ∙ ap (λ c. said_by x.image.0 g ++ cond c (said x.event ∷ []) []) (eq-eqb x.image.0 x.image.0 refl)

  -- an image that ended in t makes no further step
  pub ended_stays : (g : List Entry) (x : Entry) → IsCoreRun r b (g ++ x ∷ []) → said_by x.image.0 t ≡ said_by x.image.0 g → HasEndedIn x.image.0 t → ⊥
  ended_stays g x run whole (before, e, is, ends) =
      let all : said_by x.image.0 (g ++ x ∷ []) ≡ before ++ e ∷ said x.event ∷ [] = more_is g x ∙ ap (λ z. z ++ said x.event ∷ []) (sym whole ∙ is) ∙ append_assoc before (e ∷ []) (said x.event ∷ []) in
      let none = run.nothing_after x.image.0 before (said x.event ∷ []) e all ends in
      cc

  -- a walk and one more ask
  walk_splits : (c d : C) (es : List (Said Ask Reply)) (e : Said Ask Reply) → Walk r.step c (es ++ e ∷ []) d → (m : C) × Walk r.step c es m × (k : Reply → C) × Comes r.step m (asks e.ask e.line k)
  walk_splits c d [] e (k, p, w) = (c, refl, k, p)
  walk_splits c d (s ∷ es) e (k, p, w) = let q = walk_splits (k s.reply) d es e w in (q.0, (k, p, q.1), q.2, q.3)

  -- the same words lead to one place
  walk_one : (c d e : C) (es : List (Said Ask Reply)) → Walk r.step c es d → Walk r.step c es e → d ≡ e
  walk_one c d e [] p q = p ∙ sym q
  walk_one c d e (s ∷ es) (k, p, w) (k', p', w') =
      let o = one c s.ask s.ask s.line s.line k k' p p' in
      walk_one (k s.reply) d e es w (subst (λ z. Walk r.step (z s.reply) es e) (sym o.2) w')

  -- what is asked next, as a move that comes
  comes_asking : (m : Move C Ask Reply) (a : Ask) → AsksNext m a → (l : ℕ) × (k : Reply → C) × (m ≡ asks a l k)
  comes_asking (goes c) a p = absurd p
  comes_asking (asks x l k) a p = (l, k, ap (λ z. asks z l k) (sym p))
  comes_asking over a p = absurd p

  -- the next step of an image that waits in t asks for what it waits for
  pub waits_for : (g : List Entry) (x : Entry) (line : ℕ) (ask : Ask) → IsCoreRun r b (g ++ x ∷ []) → said_by x.image.0 t ≡ said_by x.image.0 g → IsWaiting r b t x.image.0 line ask → x.event.ask ≡ ask
  waits_for g x line ask run whole w =
      let here = each_last _ g x run.lawful.images in
      let walk = run.walks x.image.0 here in
      let s = walk_splits (b.first x.image.0) walk.0 (said_by x.image.0 g) (said x.event) (subst (λ z. Walk r.step (b.first x.image.0) z walk.0) (more_is g x) walk.1) in
      let m = w.walks.0 in
      let same : m ≡ s.0 = walk_one (b.first x.image.0) m s.0 (said_by x.image.0 g) (subst (λ z. Walk r.step (b.first x.image.0) z m) whole w.walks.1) s.1 in
      let k = w.walks.2 in
      let c = comes_asking (r.step w.config) ask w.asks in
      let go_k : go r.step k m ≡ goes w.config = w.walks.3 in
      let comes : Comes r.step m (asks ask c.0 c.1) = (k + 1, go_more C Ask Reply r.step k 1 m ∙ ap (λ v. goes_on v (go r.step 1)) go_k ∙ one_step (r.step w.config) ∙ c.2) in
      (one s.0 x.event.ask ask x.event.line c.0 s.2 c.1 s.3 (subst (λ z. Comes r.step z (asks ask c.0 c.1)) same comes)).0
    where
      one_step : (v : Move C Ask Reply) → goes_on v (go r.step 0) ≡ v
      one_step (goes c) = refl
      one_step (asks a l k) = refl
      one_step over = refl
