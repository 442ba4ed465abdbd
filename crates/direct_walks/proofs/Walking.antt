-- Walks that come to what evaluations come to, one after another.
use Rattle.std.proofs.Common.{◌≡◌, refl, ap, subst, ◌∙◌, ℕ, ◌+◌, ℤ, Bool, true, false, cond, nat_lt, List, [], ◌∷◌}
use Rattle.trace_theory.specs.Machines as machine
use Rattle.trace_theory.specs.Machines.{Move, goes, asks, goes_on, go}
use Rattle.trace_theory.proofs.Machines.{go_more}
use Rattle.caf_events.specs.declared.ask.Ask.{Ask}
use Rattle.caf_events.specs.declared.ask.Ask.TheVariants as asking
use Rattle.caf_events.specs.declared.reply.Reply.{Reply}
use Rattle.walk_theory.specs.Language.{by_test, holds, fails}
use Rattle.walk_theory.specs.Syntax.{Parts, Steps}
use Rattle.walk_theory.specs.Walks.{Task, Config, eval, to, step}
use Rattle.image_acts.specs.Acts.{Act}
use Rattle.image_acts.specs.Core.{Core}
use Rattle.image_acts.specs.Meaning.{image_language}
use Rattle.direct_meaning.specs.States.{State, state_of}
use Rattle.direct_meaning.specs.Outcomes.{Outcome, done, faults as faulty, asks as asked, over, unsaid, and_then, Does}
use Rattle.direct_meaning.specs.Told.{told, ComesBy, Says}
use Rattle.direct_meaning.specs.Synchronizing.{ending}
use Rattle.direct_meaning.proofs.Walks.{says}
use Rattle.direct_agreement.specs.Agreeing.{Agrees}
use Rattle.direct_hidden.specs.Hiding.{with_hidden, SameFrame, Alike, IsBlind}
use Rattle.direct_walks.specs.Walking.{Beside, core_of, Walks, PartsLaw}

-- this is known of each value and state that an evaluation comes to
abbrev pub Only : {X : Type 0} → (X → State → Type 0) → Outcome (X × State) → Type 0
Only P (done p) = P p.0 p.1
Only P (faulty k l z) = Unit {0}
Only P (asked a l z f) = (r : Reply) → Only P (f r)
Only P (over z) = Unit {0}
Only P unsaid = Unit {0}

abbrev Any : {X : Type 0} → X → State → Type 0
Any x z = Unit {0}

only_any : {X : Type 0} (m : Outcome (X × State)) → Only Any m
only_any (done p) = tt
only_any (faulty k l z) = tt
only_any (asked a l z f) = λ r. only_any (f r)
only_any (over z) = tt
only_any unsaid = tt

-- behind parts: what is left to do, over a core in which the value was put down, in the same frame as in s
abbrev pub Left : {X : Type 0} → (X → State → Type 0) → (X → State → Core) → List ℤ → State → List (Task Act) → ℕ → X → State → Config Act Core → Type 0
Left P lay hs s ts n x z d = P x z × SameFrame s z × (d ≡ to ts (lay x (with_hidden hs z)) n)

module _ (procedures : ℕ → Steps Act) (limit : ℕ) where
  abbrev pub W : Config Act Core → Move (Config Act Core) Ask Reply
  W = step image_language procedures limit

  abbrev pub By : Config Act Core → Config Act Core → Type 0
  By c d = ComesBy procedures limit c d

  pub by_more : (c d e : Config Act Core) → By c d → By d e → By c e
  by_more c d e (i, p) (k, q) = (i + k, go_more (Config Act Core) Ask Reply W i k c ∙ ap (λ v. goes_on v (go W k)) p ∙ q)

  -- one step that asks nothing
  pub by_step : (c d : Config Act Core) → W c ≡ goes d → By c d
  by_step c d h = (1, ap (λ v. goes_on v (go W 0)) h)

  pub walks_before : {X : Type 0} (ends : X → State → Config Act Core → Type 0) (m : Outcome (X × State)) (c d : Config Act Core) → By c d
      → Walks procedures limit ends m d → Walks procedures limit ends m c
  walks_before ends (done p) c d h (e, k, x) = (e, by_more c d e h k, x)
  walks_before ends (faulty j l z) c d h (e, k, s, n, f, x) = (e, by_more c d e h k, s, n, f, x)
  walks_before ends (asked a l z f) c d h (e, k, s, g, w, x) = (e, by_more c d e h k, s, g, w, x)
  walks_before ends (over z) c d h (e, k, s, x) = (e, by_more c d e h k, s, x)
  walks_before ends unsaid c d h x = tt

  pub walks_then : {X Y : Type 0} (ends : X → State → Config Act Core → Type 0) (later : Y → State → Config Act Core → Type 0)
      (m : Outcome (X × State)) (f : X × State → Outcome (Y × State)) (c : Config Act Core) → Walks procedures limit ends m c
      → ((x : X) (z : State) (d : Config Act Core) → ends x z d → Walks procedures limit later (f (x, z)) d)
      → Walks procedures limit later (and_then m f) c
  walks_then ends later (done p) f c (d, k, x) more = walks_before later (f p) c d k (more p.0 p.1 d x)
  walks_then ends later (faulty j l z) f c h more = h
  walks_then ends later (asked a l z f') f c (d, k, s, g, w, h) more = (d, k, s, g, w, λ r. walks_then ends later (f' r) f (g r) (h r) more)
  walks_then ends later (over z) f c h more = h
  walks_then ends later unsaid f c h more = tt

  -- the same, of which less is said
  pub walks_as : {X : Type 0} (ends later : X → State → Config Act Core → Type 0) (m : Outcome (X × State)) (c : Config Act Core)
      → Walks procedures limit ends m c → ((x : X) (z : State) (d : Config Act Core) → ends x z d → later x z d)
      → Walks procedures limit later m c
  walks_as ends later (done p) c (d, k, x) more = (d, k, more p.0 p.1 d x)
  walks_as ends later (faulty j l z) c h more = h
  walks_as ends later (asked a l z f) c (d, k, s, g, w, h) more = (d, k, s, g, w, λ r. walks_as ends later (f r) (g r) (h r) more)
  walks_as ends later (over z) c h more = h
  walks_as ends later unsaid c h more = tt

  -- where acts agree with an evaluation, the walk says what they come to, whatever stands in hidden cells
  joined : {X : Type 0} (P : X → State → Type 0) (lay : X → State → Core) (hs : List ℤ) (s : State) (m h : Outcome (X × State))
      (o : Outcome Core) (ts : List (Task Act)) (n : ℕ) (c : Config Act Core)
      → Only P m → Alike hs s m h → Agrees lay h o → Says procedures limit o ts n c → Walks procedures limit (Left P lay hs s ts n) m c
  joined P lay hs s (done p) h o ts n c only k a w =
      let e : o ≡ done (lay p.0 (with_hidden hs p.1)) = subst (λ u. Agrees lay u o) k.0 a in
      (to ts (lay p.0 (with_hidden hs p.1)) n, subst (λ u. Says procedures limit u ts n c) e w, (only, k.1, refl))
  joined P lay hs s (faulty j l z) h o ts n c only k a w =
      let e : o ≡ faulty j l (with_hidden hs z) = subst (λ u. Agrees lay u o) k a in
      let v = subst (λ u. Says procedures limit u ts n c) e w in
      (v.0, v.1, (hs, v.2), n, v.3, v.4)
  joined P lay hs s (asked a l z f) h o ts n c only (g, e, k) b w =
      let i = subst (λ u. Agrees lay u o) e b in
      let v = subst (λ u. Says procedures limit u ts n c) i.1 w in
      (v.0, v.1, (hs, v.2), v.3, v.4, λ r. joined P lay hs s (f r) (g r) (i.0 r) ts n (v.3 r) (only r) (k r) (i.2 r) (v.5 r))
  joined P lay hs s (over z) h o ts n c only k a w =
      let e : o ≡ over (with_hidden hs z) = subst (λ u. Agrees lay u o) k a in
      let v = subst (λ u. Says procedures limit u ts n c) e w in
      (v.0, v.1, (hs, v.2), v.3)
  joined P lay hs s unsaid h o ts n c only k a w = tt

  -- parts
  pub parts_walk : {X : Type 0} (P : X → State → Type 0) (lay : X → State → Core) (m : Does X) (p : Parts Act) (l n : ℕ)
      (ts : List (Task Act)) (c : Core) (b : Beside) (z : State)
      → Only P (m l z) → IsBlind m → Agrees lay (m l (with_hidden b.hidden z)) (told p l (core_of c b z))
      → Walks procedures limit (Left P lay b.hidden z ts n) (m l z) (to (eval l p ∷ ts) (core_of c b z) n)
  parts_walk P lay m p l n ts c b z only blind agrees =
      joined P lay b.hidden z (m l z) (m l (with_hidden b.hidden z)) (told p l (core_of c b z)) ts n (to (eval l p ∷ ts) (core_of c b z) n) only
      (blind b.hidden l z) agrees (says procedures limit p l ts n (core_of c b z))

  -- one statement is counted, where the limit leaves one
  pub counted_by : {X : Type 0} (ends : X → State → Config Act Core → Type 0) (t : Bool) (m : Does X) (l n : ℕ) (z : State) (hs : List ℤ)
      (a : Config Act Core) (us : List (Task Act)) (c : Core)
      → W a ≡ cond t (goes (to us c (n + 1))) (asks (asking.LimitStatements (n + 1)) l (λ r. to [] c n))
      → state_of a.core ≡ with_hidden hs z → state_of c ≡ with_hidden hs z → Walks procedures limit ends (m l z) (to us c (n + 1))
      → Walks procedures limit ends (cond t m (ending (asking.LimitStatements (n + 1))) l z) a
  counted_by ends true m l n z hs a us c e s y h = walks_before ends (m l z) a (to us c (n + 1)) (by_step a (to us c (n + 1)) e) h
  counted_by ends false m l n z hs a us c e s y h =
      (a, (0, refl), (hs, s), (λ r. to [] c n), e, λ r. (to [] c n, (0, refl), (hs, y), refl))

  pub counted_walks : {X : Type 0} (ends : X → State → Config Act Core → Type 0) (m : Does X) (l n : ℕ) (z : State) (hs : List ℤ)
      (a : Config Act Core) (us : List (Task Act)) (c : Core)
      → W a ≡ cond (nat_lt n limit) (goes (to us c (n + 1))) (asks (asking.LimitStatements (n + 1)) l (λ r. to [] c n))
      → state_of a.core ≡ with_hidden hs z → state_of c ≡ with_hidden hs z → Walks procedures limit ends (m l z) (to us c (n + 1))
      → Walks procedures limit ends (cond (nat_lt n limit) m (ending (asking.LimitStatements (n + 1))) l z) a
  counted_walks ends m l n z hs a us c e s y h = counted_by ends (nat_lt n limit) m l n z hs a us c e s y h

  -- one or the other, by a truth value
  pub chosen_walks : {X : Type 0} (ends : X → State → Config Act Core → Type 0) (b : Bool) (m k : Does X) (l : ℕ) (z : State)
      (a : Config Act Core) (c : Core) (so other : Core → Config Act Core) → W a ≡ by_test (cond b (holds c) (fails c)) so other
      → Walks procedures limit ends (m l z) (so c) → Walks procedures limit ends (k l z) (other c)
      → Walks procedures limit ends (cond b m k l z) a
  chosen_walks ends true m k l z a c so other e h i = walks_before ends (m l z) a (so c) (by_step a (so c) e) h
  chosen_walks ends false m k l z a c so other e h i = walks_before ends (k l z) a (other c) (by_step a (other c) e) i

pub parts_law : PartsLaw
parts_law procedures limit lay m p l n ts c b z blind agrees =
    walks_as procedures limit (Left Any lay b.hidden z ts n) (λ q y d. SameFrame z y × (d ≡ to ts (lay q (with_hidden b.hidden y)) n)) (m l z)
    (to (eval l p ∷ ts) (core_of c b z) n) (parts_walk procedures limit Any lay m p l n ts c b z (only_any (m l z)) blind agrees)
    (λ q y d w. (w.1, w.2))
