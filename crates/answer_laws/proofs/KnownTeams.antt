-- The teams that an image was told have the members at the board that the reply named, from then on.
use Rattle.std.proofs.Common.{◌≡◌, ℕ, Bool, true, ◌||◌, List, [], ◌∷◌, ◌++◌, ◌⊎◌, inl, inr, ap, sym, ◌∙◌}
use Rattle.std.specs.Prelude.{nat_eq, slice_get}
use Rattle.std.specs.List.{list_any, range_with_len}
use Rattle.std.proofs.lemmas.Bool.{cases_Bool}
use Rattle.std.proofs.lemmas.Bool.Decides.{eqb_tells}
use Rattle.caf_events.specs.declared.ask.Ask.{Ask}
use Rattle.caf_events.specs.declared.reply.Reply.{Reply}
use Rattle.caf_events.specs.declared.reply.Reply.TheVariants as replies
use Rattle.caf_events.specs.declared.reply.FormedTeam.{FormedTeam}
use Rattle.caf_events.specs.declared.event.Entry.{Entry}
use Rattle.trace_theory.specs.Entries.{Each}
use Rattle.trace_theory.specs.Machines.{Said}
use Rattle.object_rules.specs.Happenings.{numbers_of}
use Rattle.object_rules.specs.BoardTeams.{Team, teams_after, members_at}
use Rattle.object_rules.specs.Answering.{members_in, members_by, members_from, members_told}
use Rattle.team_laws.proofs.Lists.{get_front}
use Rattle.team_laws.specs.Named.{IsNamed}
use Rattle.answer_laws.specs.Told.{names_team, knows_team}
use Rattle.team_laws.proofs.Teams.{members_of_team, teams_stay}

-- all teams of a reply are named as they are
abbrev pub TellsTeams : List Team → Reply → Type 0
TellsTeams ts (replies.Left status teams) = Each (IsNamed ts) teams
TellsTeams ts reply = Unit {0}

-- they stay when teams are added
at_stays : (ts new : List Team) (x : FormedTeam) → IsNamed ts x → IsNamed (ts ++ new) x
at_stays ts new x h = record { place = h.place; own_number = h.own_number; team = h.team; there = get_front ts new h.place h.team h.there; team_number = h.team_number; members = h.members }

all_stay : (ts new : List Team) (xs : List FormedTeam) → Each (IsNamed ts) xs → Each (IsNamed (ts ++ new)) xs
all_stay ts new [] h = tt
all_stay ts new (x ∷ xs) h = (at_stays ts new x h.0, all_stay ts new xs h.1)

pub tells_stays : (ts new : List Team) (r : Reply) → TellsTeams ts r → TellsTeams (ts ++ new) r
tells_stays ts new (replies.Left status teams) h = all_stay ts new teams h
tells_stays ts new r h = tt

module _ (ts : List Team) (t : ℕ) where
  -- the members of the last of them
  in_right : (xs : List FormedTeam) → Each (IsNamed ts) xs → (ms : List ℕ) → (ms ≡ members_at ts t) ⊎ (list_any (λ (x : FormedTeam). nat_eq x.team.0 t) xs ≡ true) → members_in ms t xs ≡ members_at ts t
  in_right [] h ms (inl e) = e
  in_right [] h ms (inr a) = absurd (cc)
  in_right (x ∷ xs) h ms d = elim (eqb_tells x.team.0 t) [
    | inl y ↦ (
        let e : numbers_of x.members ≡ members_at ts t = h.0.members ∙ sym (members_of_team ts h.0.place h.0.team h.0.there) ∙ ap (members_at ts) (sym h.0.own_number ∙ y.1) in
        rw y.0 (in_right xs h.1 (numbers_of x.members) (inl e)))
    | inr f ↦ rw f.0 (in_right xs h.1 ms (rw f.0 at d))
  ]

  by_right : (r : Reply) → TellsTeams ts r → (rest : Bool) (ms : List ℕ) → (ms ≡ members_at ts t) ⊎ ((names_team t r || rest) ≡ true) → (members_by ms t r ≡ members_at ts t) ⊎ (rest ≡ true)
  by_right (replies.Left status teams) h rest ms (inl e) = inl (in_right teams h ms (inl e))
  by_right (replies.Left status teams) h rest ms (inr a) = elim (cases_Bool (list_any (λ (x : FormedTeam). nat_eq x.team.0 t) teams)) [
    | inl y ↦ inl (in_right teams h ms (inr y))
    | inr f ↦ inr (rw f at a)
  ]
  by_right r h rest ms (inl e) = inl e
  by_right r h rest ms (inr a) = inr a

  from_right : (es : List (Said Ask Reply)) → Each (λ e. TellsTeams ts e.reply) es → (ms : List ℕ) → (ms ≡ members_at ts t) ⊎ (list_any (λ (e : Said Ask Reply). names_team t e.reply) es ≡ true) → members_from ms t es ≡ members_at ts t
  from_right [] h ms (inl e) = e
  from_right [] h ms (inr a) = absurd (cc)
  from_right (e ∷ es) h ms d = from_right es h.1 (members_by ms t e.reply) (by_right e.reply h.0 (list_any (λ (x : Said Ask Reply). names_team t x.reply) es) ms d)

-- team 1 holds all images
first_members : (n : ℕ) (h : List Entry) → members_at (teams_after n h) 1 ≡ range_with_len 1 n
first_members n h =
    let r = teams_stay n [] h in
    members_of_team (teams_after n h) 0 _ (ap (λ ts. slice_get ts 0) r.1)

-- the members of a team that the image knows are those at the board
pub told_members : (n : ℕ) (h : List Entry) (es : List (Said Ask Reply)) → Each (λ e. TellsTeams (teams_after n h) e.reply) es → (t : ℕ) → knows_team es t ≡ true → members_told n es t ≡ members_at (teams_after n h) t
told_members n h es told t known = elim (eqb_tells t 1) [
  | inl y ↦ rw y.0 (sym (first_members n h) ∙ ap (members_at (teams_after n h)) (sym y.1))
  | inr f ↦ rw f.0 (from_right (teams_after n h) t es told [] (inr (rw f.0 at known)))
]
