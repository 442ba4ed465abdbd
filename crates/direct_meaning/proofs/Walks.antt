-- The walk says what the parts come to.
use Rattle.std.proofs.Common.{◌≡◌, ℕ, ◌+◌, List, [], ◌∷◌, refl, ap, ◌∙◌}
use Rattle.trace_theory.specs.Machines.{Move, goes, goes_on, go}
use Rattle.trace_theory.proofs.Machines.{go_more}
use Rattle.caf_events.specs.declared.ask.Ask.{Ask}
use Rattle.caf_events.specs.declared.reply.Reply.{Reply}
use Rattle.walk_theory.specs.Language.{goes_to, faults, asking, ends_with, stuck, Tested, no_value, holds, fails}
use Rattle.walk_theory.specs.Syntax.{Parts, end_parts, value, act, enter, either, Steps, stop}
use Rattle.walk_theory.specs.Walks.{Task, run, eval, Config, to, step}
use Rattle.image_acts.specs.Acts.{Act}
use Rattle.image_acts.specs.Core.{Core}
use Rattle.image_acts.specs.Taking.{Acted, tested}
use Rattle.image_acts.specs.Meaning.{effect_of, image_language}
use Rattle.tree_meaning.specs.Expressions.{expression}
use Rattle.direct_meaning.specs.Outcomes.{Outcome, done, faults as faulty, asks as asked, over, unsaid, and_then}
use Rattle.direct_meaning.specs.Told.{of_effect, of_test, told, Says, WalkLaw}

module _ (procedures : ℕ → Steps Act) (limit : ℕ) where
  abbrev W : Config Act Core → Move (Config Act Core) Ask Reply
  W = step image_language procedures limit

  abbrev To : Outcome Core → List (Task Act) → ℕ → Config Act Core → Type 0
  To = Says procedures limit

  before : (o : Outcome Core) (ts : List (Task Act)) (n i : ℕ) (c d : Config Act Core) → go W i c ≡ goes d → To o ts n d → To o ts n c
  before (done x) ts n i c d p (k, q) = (i + k, go_more (Config Act Core) Ask Reply W i k c ∙ ap (λ v. goes_on v (go W k)) p ∙ q)
  before (faulty f l z) ts n i c d p (e, (k, q), s, x, w) = (e, (i + k, go_more (Config Act Core) Ask Reply W i k c ∙ ap (λ v. goes_on v (go W k)) p ∙ q), s, x, w)
  before (asked a l z f) ts n i c d p (e, (k, q), s, g, w, h) = (e, (i + k, go_more (Config Act Core) Ask Reply W i k c ∙ ap (λ v. goes_on v (go W k)) p ∙ q), s, g, w, h)
  before (over z) ts n i c d p (e, (k, q), s, w) = (e, (i + k, go_more (Config Act Core) Ask Reply W i k c ∙ ap (λ v. goes_on v (go W k)) p ∙ q), s, w)
  before unsaid ts n i c d p h = tt

  after : (o : Outcome Core) (f : Core → Outcome Core) (n : ℕ) (ts us : List (Task Act)) (c : Config Act Core) → To o us n c → ((d : Core) → To (f d) ts n (to us d n)) → To (and_then o f) ts n c
  after (done d) f n ts us c (k, p) more = before (f d) ts n k c (to us d n) p (more d)
  after (faulty k l z) f n ts us c h more = h
  after (asked a l z f') f n ts us c (e, p, s, g, w, h) more = (e, p, s, g, w, λ r. after (f' r) f n ts us (g r) (h r) more)
  after (over z) f n ts us c h more = h
  after unsaid f n ts us c h more = tt

  effect_says : (a : Act) (q : Parts Act) (l n : ℕ) (ts : List (Task Act)) (c : Core) (e : Acted) → effect_of a c ≡ e → To (of_effect l c e) (eval l q ∷ ts) n (to (eval l (act a q) ∷ ts) c n)
  effect_says a q l n ts c (goes_to d) h = (1, rw h refl)
  effect_says a q l n ts c (faults k) h = (to (eval l (act a q) ∷ ts) c n, (0, refl), refl, image_language.forget c, rw h refl)
  effect_says a q l n ts c (asking b f) h = (to (eval l (act a q) ∷ ts) c n, (0, refl), refl, (λ r. to (eval l q ∷ ts) (f r) n), rw h refl, λ r. (0, refl))
  effect_says a q l n ts c (ends_with b) h = (to (eval l (act a q) ∷ ts) c n, (0, refl), refl, (λ r. to [] c n), rw h refl, λ r. (to [] c n, (0, refl), refl, refl))
  effect_says a q l n ts c stuck h = (to (eval l (act a q) ∷ ts) c n, (0, refl), refl, rw h refl)

  past_stop : (o : Outcome Core) (c : Config Act Core) (ts : List (Task Act)) (n : ℕ) → To o (run stop ∷ ts) n c → To o ts n c
  past_stop (done d) c ts n (k, p) = before (done d) ts n k c (to (run stop ∷ ts) d n) p (1, refl)
  past_stop (faulty k l z) c ts n h = h
  past_stop (asked a l z f) c ts n (e, p, s, g, w, h) = (e, p, s, g, w, λ r. past_stop (f r) (g r) ts n (h r))
  past_stop (over z) c ts n h = h
  past_stop unsaid c ts n h = tt

  test_says : (p q r : Parts Act) (l n : ℕ) (ts : List (Task Act)) (c : Core) (f g : Core → Outcome Core) (x : Tested Core) → tested c ≡ x
      → ((d : Core) (us : List (Task Act)) → To (f d) us n (to (eval l p ∷ us) d n)) → ((d : Core) (us : List (Task Act)) → To (g d) us n (to (eval l q ∷ us) d n))
      → To (of_test x f g) (eval l r ∷ ts) n (to (eval l (either p q r) ∷ ts) c n)
  test_says p q r l n ts c f g no_value h so other = tt
  test_says p q r l n ts c f g (fails d) h so other = before (g d) (eval l r ∷ ts) n 1 (to (eval l (either p q r) ∷ ts) c n) (to (eval l q ∷ eval l r ∷ ts) d n) (rw h refl) (other d (eval l r ∷ ts))
  test_says p q r l n ts c f g (holds d) h so other =
      before (f d) (eval l r ∷ ts) n 1 (to (eval l (either p q r) ∷ ts) c n) (to (eval l p ∷ run stop ∷ eval l r ∷ ts) d n) (rw h refl)
      (past_stop (f d) (to (eval l p ∷ run stop ∷ eval l r ∷ ts) d n) (eval l r ∷ ts) n (so d (run stop ∷ eval l r ∷ ts)))

  pub says : (p : Parts Act) (l : ℕ) (ts : List (Task Act)) (n : ℕ) (c : Core) → To (told p l c) ts n (to (eval l p ∷ ts) c n)
  says end_parts l ts n c = (1, refl)
  says (value p q) l ts n c = before (and_then (told p l c) (told q l)) ts n 1 (to (eval l (value p q) ∷ ts) c n) (to (eval l p ∷ eval l q ∷ ts) c n) refl
      (after (told p l c) (told q l) n ts (eval l q ∷ ts) (to (eval l p ∷ eval l q ∷ ts) c n) (says p l (eval l q ∷ ts) n c) (λ d. says q l ts n d))
  says (act a q) l ts n c = after (of_effect l c (effect_of a c)) (told q l) n ts (eval l q ∷ ts) (to (eval l (act a q) ∷ ts) c n) (effect_says a q l n ts c (effect_of a c) refl) (λ d. says q l ts n d)
  says (enter k q) l ts n c = tt
  says (either p q r) l ts n c = after (of_test (tested c) (told p l) (told q l)) (told r l) n ts (eval l r ∷ ts) (to (eval l (either p q r) ∷ ts) c n)
      (test_says p q r l n ts c (told p l) (told q l) (tested c) refl (λ d us. says p l us n d) (λ d us. says q l us n d)) (λ d. says r l ts n d)

pub walk_law : WalkLaw
walk_law procedures limit e x l ts n c = says procedures limit (expression e x) l ts n c
