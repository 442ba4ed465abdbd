-- A round of a team (ISO/IEC 1539-1:2018, 11.6.3): its arrival and its departure.
use Rattle.std.proofs.Common.{◌≡◌, ℕ, ◌*◌, ℤ, pos, Some, List}
use Rattle.caf_events.specs.declared.ask.Ask.TheVariants as asked
use Rattle.caf_events.specs.declared.reply.FormedTeam.{FormedTeam}
use Rattle.caf_events.specs.declared.reply.Reply.{Reply}
use Rattle.caf_events.specs.declared.reply.Reply.TheVariants as replies
use Rattle.caf_events.specs.declared.round.Arriving.{Arriving}
use Rattle.caf_events.specs.declared.round.Arriving.TheVariants as arrivals
use Rattle.walk_theory.specs.Syntax.{end_parts}
use Rattle.image_acts.specs.Acts as a
use Rattle.image_acts.specs.Acts.{ask}
use Rattle.image_acts.specs.Core.{Core, pushed}
use Rattle.image_acts.specs.Replies.{arrival_reply, leave_reply, fitting}
use Rattle.image_acts.specs.Meaning.{effect_of}
use Rattle.direct_meaning.specs.States.{State, state_of}
use Rattle.direct_meaning.specs.Outcomes.{Outcome, asks, and_then, Does, ◌▹◌, asking}
use Rattle.direct_meaning.specs.Told.{of_effect, told}
use Rattle.direct_meaning.specs.Images.{team}
use Rattle.direct_meaning.specs.Synchronizing.{round, round_of, left, left_formed, form_round}
use Rattle.direct_control.specs.Meeting.{Meets}

-- behind a departure: its status over what was there, its round, and the teams that it told
abbrev pub departed : Core → ℤ → ℕ → List FormedTeam → Core
departed d s r fs = record (pushed s d) { round = Some r; formed = fitting (2 * d.images) fs }

-- where the departure is made
abbrev leaving : ℕ → Core → Reply → Core
leaving n d r = pushed (pos n) (arrival_reply d r)

abbrev left_by : ℕ → ℕ → Core → Outcome Core
left_by n l d = and_then (of_effect l d (effect_of (ask a.leave) d)) (told end_parts l)

module _ {Y : Type 0} (holds : Y → State → Core → Type 0) (n l : ℕ) (after k : Core → Outcome Core) (D : Core)
    (leaves : (r : Reply) → after (arrival_reply D r) ≡ and_then (left_by n l (leaving n D r)) k) where
  -- a round whose status alone is heard
  module _ (f : ℤ → Does Y) (goes : (s : ℤ) (r : ℕ) (fs : List FormedTeam) → Meets holds (f s l (state_of D))
      (k (departed D s r fs))) where
    left_meets : (j : ℕ) (q : Reply) → Meets holds ((left q ▹ f) l (state_of D)) (k (leave_reply (arrival_reply D (replies.Round j)) q))
    left_meets j (replies.Left s fs) = goes s j fs
    left_meets j q = tt

    arrived_meets : (r : Reply)
        → Meets holds (((round_of r ▹ (λ j. asking (asked.Leave (team n) j) ▹ left)) ▹ f) l (state_of D)) (after (arrival_reply D r))
    arrived_meets (replies.Round j) =
        ((λ q. k (leave_reply (arrival_reply D (replies.Round j)) q)), leaves (replies.Round j), λ q. left_meets j q)
    arrived_meets (replies.Clash i m) = leaves (replies.Clash i m)
    arrived_meets r = tt

    pub round_meets : (kind : Arriving) (o : Outcome Core) → o ≡ asks (asked.Arrive (team n) kind) l (state_of D)
        (λ r. after (arrival_reply D r))
        → Meets holds ((round n kind ▹ f) l (state_of D)) o
    round_meets kind o e = ((λ r. after (arrival_reply D r)), e, λ r. arrived_meets r)

  -- the round of a FORM TEAM, of which the number and the teams are heard too
  module _ (f : ℤ × ℕ × List FormedTeam → Does Y)
      (goes : (s : ℤ) (r : ℕ) (fs : List FormedTeam) → Meets holds (f (s, r, fitting (2 * D.images) fs) l (state_of D))
      (k (departed D s r fs)))
    where
      left_formed_meets : (j : ℕ) (q : Reply)
          → Meets holds ((left_formed j q ▹ f) l (state_of D)) (k (leave_reply (arrival_reply D (replies.Round j)) q))
      left_formed_meets j (replies.Left s fs) = goes s j fs
      left_formed_meets j q = tt

      arrived_to_form : (r : Reply)
          → Meets holds (((round_of r ▹ (λ j. asking (asked.Leave (team n) j) ▹ left_formed j)) ▹ f) l (state_of D))
          (after (arrival_reply D r))
      arrived_to_form (replies.Round j) =
          ((λ q. k (leave_reply (arrival_reply D (replies.Round j)) q)), leaves (replies.Round j), λ q. left_formed_meets j q)
      arrived_to_form (replies.Clash i m) = leaves (replies.Clash i m)
      arrived_to_form r = tt

      pub form_round_meets : (number index : ℤ) (o : Outcome Core)
          → o ≡ asks (asked.Arrive (team n) (arrivals.Form number index)) l (state_of D) (λ r. after (arrival_reply D r))
          → Meets holds ((form_round n number index ▹ f) l (state_of D)) o
      form_round_meets number index o e = ((λ r. after (arrival_reply D r)), e, λ r. arrived_to_form r)
