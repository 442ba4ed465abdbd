-- The teams that a FORM TEAM formed, as the image knows them from then on (ISO/IEC 1539-1:2018, 11.6.9).
use Rattle.std.proofs.Common.{◌≡◌, refl, ap, sym, subst, ◌∙◌, ℕ, ◌≤◌, ℤ, pos, cond, List, [], ◌∷◌, ◌++◌, map, Option, None, Some}
use Rattle.caf_events.specs.declared.reply.FormedTeam.{FormedTeam}
use Rattle.walk_theory.specs.Syntax.{Parts}
use Rattle.checked_tree.specs.Expressions as t
use Rattle.image_acts.specs.Acts as a
use Rattle.image_acts.specs.Acts.{Act, Scope}
use Rattle.image_acts.specs.Core.{Core, Team, pushed}
use Rattle.image_acts.specs.Frames.{with_cell}
use Rattle.image_acts.specs.Teams.{is_in, current_team}
use Rattle.tree_meaning.specs.Sequences.{◌▸◌, doing}
use Rattle.tree_meaning.specs.Settling.{settling}
use Rattle.direct_meaning.specs.States.{State, with_state, scalar_in, with_scalar}
use Rattle.direct_meaning.specs.Outcomes.{Outcome, done, Does, ◌▹◌, of_some, changing}
use Rattle.direct_meaning.specs.Told.{told}
use Rattle.direct_meaning.specs.Expressions.{Target}
use Rattle.direct_meaning.specs.Synchronizing.{settle, formed_in, team_of_image, set_team}
use Rattle.direct_agreement.proofs.Agreement.{Kept}
use Rattle.direct_access.proofs.Owners.{TargetOf, with_target}
use Rattle.direct_statements.proofs.Defining.{stored}
use Rattle.direct_control.specs.Meeting.{Meets, Lies}
use Rattle.direct_control.proofs.Control.{settle_meets}

-- what goes over the teams as the acts do finds the one that has this image
own_is : (i p r : ℕ) (own : List FormedTeam → Option Team) → own [] ≡ None
    → ((f : FormedTeam) (fs : List FormedTeam) → own (f ∷ fs) ≡ cond (is_in i (formed_in p r f).members) (Some (formed_in p r f)) (own fs))
    → (fs : List FormedTeam) → own fs ≡ team_of_image i (map (formed_in p r) fs)
own_is i p r own none more [] = none
own_is i p r own none more (f ∷ fs) =
    more f fs ∙ ap (λ o. cond (is_in i (formed_in p r f).members) (Some (formed_in p r f)) o) (own_is i p r own none more fs)

-- the team variable gets it
abbrev pub with_team : Scope → ℕ → Option Team → Core → Core
with_team s x None c = c
with_team s x (Some k) c = with_cell s x (pos k.team) c

abbrev pub knowing : List Team → Core → Core
knowing ks c = record c { known = ks ++ c.known; formed = [] }

-- the act, where teams were formed
abbrev formed_here : Core → ℕ → List FormedTeam → Core
formed_here D j fs = record D { round = Some j; formed = fs }

abbrev known_here : Core → ℕ → List FormedTeam → Core
known_here D j fs = knowing (map (formed_in (current_team D) j) fs) (formed_here D j fs)

noted_by : (s : Scope) (x l : ℕ) (D : Core) (j : ℕ) (own : List FormedTeam → Option Team) → own [] ≡ None
    → ((f : FormedTeam) (fs : List FormedTeam)
    → own (f ∷ fs) ≡ cond (is_in D.me (formed_in (current_team D) j f).members) (Some (formed_in (current_team D) j f)) (own fs))
    → ((fs : List FormedTeam)
    → told (doing (Act.team (a.note_teams s x) ∷ [])) l (formed_here D j fs) ≡ done (with_team s x (own fs) (known_here D j fs)))
    → (fs : List FormedTeam) → told (doing (Act.team (a.note_teams s x) ∷ [])) l (formed_here D j fs)
    ≡ done (with_team s x (team_of_image D.me (map (formed_in (current_team D) j) fs)) (known_here D j fs))
noted_by s x l D j own none more acts fs =
    acts fs ∙ ap (λ o. done (with_team s x o (known_here D j fs))) (own_is D.me (current_team D) j own none more fs)

pub noted_told : (s : Scope) (x l : ℕ) (D : Core) (j : ℕ) (fs : List FormedTeam)
    → told (doing (Act.team (a.note_teams s x) ∷ [])) l (formed_here D j fs)
    ≡ done (with_team s x (team_of_image D.me (map (formed_in (current_team D) j) fs)) (known_here D j fs))
noted_told s x l D j = noted_by s x l D j _ refl (λ f fs. refl) (λ fs. refl)

-- and then the status
module _ (stat : t.OptionalResult) (g : Target) (i : TargetOf stat g) (p : Parts Act) (l : ℕ) (s : Scope) (x : ℕ) (c C : Core)
    (r : Option ℕ)
    (fs : List FormedTeam) (drops : (y : State) → told p l (with_state y (with_target C g)) ≡ done (with_state y
    (record c { round = r; formed = fs })))
  where
    set_then : (v : ℤ) (n : ℤ) (q : Option ℤ) (z : State) → Kept c.used z
        → Meets (Lies c) (((of_some q ▹ (λ w. changing (with_scalar s x n))) ▹ (λ u. settle stat g [] v)) l z)
        (told (settling stat 1 [] ▸ p) l (with_cell s x n (with_state z (pushed v (with_target C g)))))
    set_then v n None z k = tt
    set_then v n (Some w) z k =
        let t = stored s x n z (pushed v (with_target C g)) in
        subst (λ d. Meets (Lies c) (settle stat g [] v l (with_scalar s x n z)) (told (settling stat 1 [] ▸ p) l d)) (sym t.0)
        (settle_meets stat g i [] p v l (with_scalar s x n z) c C r fs c.used (subst (λ m. (c.used ≤ m) × (m ≤ 65536)) t.1 k) drops)

    pub team_set : (v : ℤ) (o : Option Team) (z : State) → Kept c.used z
        → Meets (Lies c) ((set_team s x o ▹ (λ u. settle stat g [] v)) l z)
        (told (settling stat 1 [] ▸ p) l (with_team s x o (with_state z (pushed v (with_target C g)))))
    team_set v None z k = settle_meets stat g i [] p v l z c C r fs c.used k drops
    team_set v (Some t) z k = set_then v (pos t.team) (scalar_in s x z) z k
