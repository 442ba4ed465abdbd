-- The machine does what its code does.
use Rattle.std.proofs.Common.{◌≡◌, refl, ap, sym, subst}
use Rattle.caf_events.specs.declared.ask.Ask.{Ask}
use Rattle.caf_events.specs.declared.reply.Reply.{Reply}
use Rattle.caf_events.specs.Answers.{Answers}
use Rattle.trace_theory.specs.Machines.{Move, goes, asks, over, go, goes_on, Rests}
use Rattle.trace_theory.specs.Simulations.{Matches, Simulates, SameRest, RestsNear}
use Rattle.trace_theory.specs.Equivalence.{SameWalks}
use Rattle.trace_theory.proofs.Simulations.{simulated}
use Rattle.trace_theory.proofs.Rests.{rests_onward}
use Rattle.walk_theory.specs.Code.{State, code_step}
use Rattle.image_acts.specs.Core.{Core}
use Rattle.image_acts.specs.Meaning.{image_language}
use Rattle.image_code.specs.Code.{code_of}
use Rattle.image_machine.specs.Engine.{Engine, with_state}
use Rattle.image_machine.specs.Walk.{lifted, machine_step}
use Rattle.machine_runs.specs.Runs.{StandsAt}

module _ (m : Engine) where
  abbrev step : State Core → Move (State Core) Ask Reply
  step = code_step image_language (code_of m.code.program) m.limit

  abbrev at : State Core → Engine
  at d = with_state m d

  -- what its code does the machine does
  does_too : (d : State Core) (v : Move (State Core) Ask Reply) → step d ≡ v → Matches (StandsAt m) Answers machine_step v (at d)
  does_too d (goes x) h = (1, at x, ap (λ u. goes_on (lifted (at d) u) (go machine_step 0)) h, refl)
  does_too d (asks a l j) h = (λ r. at (j r), (1, ap (λ u. goes_on (lifted (at d) u) (go machine_step 0)) h), λ r ok. refl)
  does_too d over h = (1, ap (λ u. goes_on (lifted (at d) u) (go machine_step 0)) h)

  onward : Simulates (StandsAt m) Answers step machine_step
  onward d e h = subst (Matches (StandsAt m) Answers machine_step (step d)) (sym h) (does_too d (step d) refl)

  rests_too : (d : State Core) (v : Move (State Core) Ask Reply) → Rests v → SameRest v (lifted (at d) v)
  rests_too d (goes x) s = s
  rests_too d (asks a l j) s = (λ r. at (j r), refl)
  rests_too d over s = refl

  stops : RestsNear (StandsAt m) (StandsAt m) step machine_step
  stops d e h s = (0, e, refl, h, subst (λ x. SameRest (step d) (machine_step x)) (sym h) (rests_too d (step d) s))

  -- and nothing else
  abbrev StoodAt : Engine → State Core → Type 0
  StoodAt e d = StandsAt m d e

  did_too : (d : State Core) (v : Move (State Core) Ask Reply) → step d ≡ v → Matches StoodAt Answers step (lifted (at d) v) d
  did_too d (goes x) h = (1, x, ap (λ u. goes_on u (go step 0)) h, refl)
  did_too d (asks a l j) h = (j, (1, ap (λ u. goes_on u (go step 0)) h), λ r ok. refl)
  did_too d over h = (1, ap (λ u. goes_on u (go step 0)) h)

  backward : Simulates StoodAt Answers machine_step step
  backward e d h = subst (λ x. Matches StoodAt Answers step (machine_step x) d) (sym h) (did_too d (step d) refl)

  rested : (d : State Core) (v : Move (State Core) Ask Reply) → Rests (lifted (at d) v) → SameRest (lifted (at d) v) v
  rested d (goes x) s = s
  rested d (asks a l j) s = (j, refl)
  rested d over s = refl

  stopped : RestsNear StoodAt StoodAt machine_step step
  stopped e d h s = (0, d, refl, h, subst (λ x. SameRest (machine_step x) (step d)) (sym h) (rested d (step d) (subst (λ x. Rests (machine_step x)) h s)))

  same_back : (v : Move Engine Ask Reply) (u : Move (State Core) Ask Reply) → SameRest v u → SameRest u v
  same_back (goes c) u h = absurd h
  same_back (asks a l j) u h = subst (λ x. SameRest x (asks a l j)) (sym h.1) (j, refl)
  same_back over u h = subst (λ x. SameRest {D = Engine} x over) (sym h) refl

  -- the machine has the walks of its code, from any state of it
  pub machine_walks : (d : State Core) → SameWalks Answers (StandsAt m) (StandsAt m) step d machine_step (at d)
  machine_walks d = record {
    onward = λ es e answers w. simulated (State Core) Engine Ask Reply (StandsAt m) Answers step machine_step onward d e (at d) es answers refl w;
    backward = λ es f answers w. simulated Engine (State Core) Ask Reply StoodAt Answers machine_step step backward (at d) f d es answers refl w;
    rests_onward = λ es e answers w s. rests_onward (State Core) Engine Ask Reply (StandsAt m) Answers step machine_step onward (StandsAt m) stops d e (at d) es answers refl w s;
    rests_backward = λ es f answers w s. (
        let r = rests_onward Engine (State Core) Ask Reply StoodAt Answers machine_step step backward StoodAt stopped (at d) f d es answers refl w s in
        (r.0, r.1, r.2, same_back (machine_step f) (step r.0) r.3));
  }
