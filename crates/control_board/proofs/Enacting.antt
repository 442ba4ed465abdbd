-- The teams of a plan fit, and their members are images of the run.
use Rattle.std.proofs.Common.{◌≡◌, ℕ, zero, suc, ◌+◌, ◌^◌, ◌<◌, ◌≤◌, true, false, Bool, nat_eq, List, [], ◌∷◌, ◌++◌, length, map, replicate, refl, ap, sym, ◌∙◌, subst, arith}
use Rattle.std.specs.Prelude.{Some, slice_get, vec_len, vec_capacity}
use Rattle.std.specs.List.{list_all}
use Rattle.std.specs.Global.{Vec}
use Rattle.std.proofs.lemmas.Bool.{and_parts, eqb-true}
use Rattle.std.proofs.lemmas.List.{append-nil, nil_from_length}
use Rattle.caf_base.specs.declared.place.ImageNo.{ImageNo}
use Rattle.caf_events.specs.declared.ask.Ask.{Ask}
use Rattle.caf_events.specs.declared.event.Entry.{Entry}
use Rattle.object_rules.specs.Happenings.{numbers_of}
use Rattle.object_rules.specs.BoardTeams.{Team, teams_after}
use Rattle.object_rules.specs.BoardRules.{is_image}
use Rattle.failure_status.specs.Endings.{AreWithin}
use Rattle.team_round.specs.TeamStates.{RoundsState, IsWith, members_in}
use Rattle.team_tree.specs.KnownTeams.{TeamsState, images_from, all_known}
use Rattle.control_board.specs.Values.{BroughtState, no_values}
use Rattle.control_board.specs.declared.forming.Formation.{Formation}
use Rattle.control_board.specs.declared.forming.Plan.{Plan}
use Rattle.control_board.specs.declared.parts.Parts.{Parts}
use Rattle.control_board.specs.Boards.{IsBoard, PlanFits, IsStocked, TeamsRoom, MakesNoTeam, IsEnacted, Planned, all_made, are_images, images_of_teams, due}
use Rattle.control_board.proofs.Members.{numbers_images, set_within}
use Rattle.control_board.proofs.Made.{by_images}

-- the room stays where nothing else of it changes
pub fits_with : (p m : Parts) (plan : Plan) → m.images ≡ p.images → m.control.room ≡ p.control.room → m.control.spare ≡ p.control.spare → m.collective.room ≡ p.collective.room → m.collective.spare ≡ p.collective.spare
    → m.teams ≡ p.teams → m.births ≡ p.births → m.brought ≡ p.brought → PlanFits p plan → PlanFits m plan
fits_with p m plan images a b c d teams births tables fits = record {
  stock = subst (λ k. IsStocked k plan) (sym images) fits.stock;
  few = fits.few;
  room = record {
    control = (let f = fits.room.control.0 in let g = fits.room.control.1 in (omega arith, omega arith));
    collective = (let f = fits.room.collective.0 in let g = fits.room.collective.1 in (omega arith, omega arith));
    teams = subst (λ (s : TeamsState). length (all_made plan.formations.items) ≤ s.room) (sym teams) fits.room.teams;
    births = subst (λ (v : Vec ℕ). vec_len v + length (all_made plan.formations.items) ≤ vec_capacity v) (sym births) fits.room.births;
    tables = subst (λ (v : Vec (List BroughtState)). vec_len v + length (all_made plan.formations.items) ≤ vec_capacity v) (sym tables) fits.room.tables;
    numbers = subst (λ (s : TeamsState). length s.teams + length (all_made plan.formations.items) < 2 ^ 32) (sym teams) fits.room.numbers;
  };
}

within_each : (n : ℕ) (vs : List (Vec ImageNo)) (ts : List Team) (k : ℕ) (x : Vec ImageNo) → map (λ (v : Vec ImageNo). v.items) vs ≡ images_of_teams ts → are_images n ts ≡ true → slice_get vs k ≡ Some x → AreWithin n x.items
within_each n [] ts k x e w at = absurd (cc)
within_each n (v ∷ vs) [] k x e w at = absurd (cc)
within_each n (v ∷ vs) (t ∷ ts) zero x e w at =
    let same : x.items ≡ images_from t.members = cc in
    set_within n n x.items refl (ap (list_all (is_image n)) (ap numbers_of same ∙ numbers_images t.members) ∙ (and_parts (list_all (is_image n) t.members) (are_images n ts) w).0)
within_each n (v ∷ vs) (t ∷ ts) (suc k) x e w at =
    within_each n vs ts k x (let f : map (λ (z : Vec ImageNo). z.items) vs ≡ images_of_teams ts = cc in f) (and_parts (list_all (is_image n) t.members) (are_images n ts) w).1 at

module _ (n : ℕ) (h : List Entry) (p : Parts) (i : ImageNo) (ask : Ask) (b : IsBoard n h p) (planned : Planned n h p.plan i ask) (fits : PlanFits p p.plan) where
  made_images : are_images n (all_made p.plan.formations.items) ≡ true
  made_images = ap (are_images n) (sym (planned.made 0 0)) ∙ by_images n 1 (teams_after n h) h (due n h i ask 0 0) b.within

  pub control_within : (m : ℕ) → m ≡ p.control.images → (k : ℕ) (x : Vec ImageNo) → slice_get p.plan.control.items k ≡ Some x → AreWithin m x.items
  control_within m same k x at = subst (λ q. AreWithin q x.items) (sym (same ∙ b.runs false)) (within_each n p.plan.control.items (all_made p.plan.formations.items) k x fits.stock.control made_images at)

  pub collective_within : (m : ℕ) → m ≡ p.collective.images → (k : ℕ) (x : Vec ImageNo) → slice_get p.plan.collective.items k ≡ Some x → AreWithin m x.items
  collective_within m same k x at = subst (λ q. AreWithin q x.items) (sym (same ∙ b.runs true)) (within_each n p.plan.collective.items (all_made p.plan.formations.items) k x fits.stock.collective made_images at)

-- ---- where no team is made
-- a vector of which is told that it is empty
pub nothing_in : {A : Type 0} (v : Vec A) (told : Bool) → told ≡ nat_eq (vec_len v) 0 → told ≡ true → v.items ≡ []
nothing_in v told e t =
    let o = v.ok.0 in
    let z = eqb-true (vec_len v) 0 (sym e ∙ t) in
    nil_from_length v.items (omega arith)

pub none_stocked : (n : ℕ) (plan : Plan) → MakesNoTeam plan → IsStocked n plan
none_stocked n plan none = record {
  control = ap (map (λ (v : Vec ImageNo). v.items)) none.control ∙ ap (λ (fs : List Formation). images_of_teams (all_made fs)) (sym none.formations);
  collective = ap (map (λ (v : Vec ImageNo). v.items)) none.collective ∙ ap (λ (fs : List Formation). images_of_teams (all_made fs)) (sym none.formations);
  tables = none.tables ∙ ap (λ (fs : List Formation). replicate (length (all_made fs)) (replicate n no_values)) (sym none.formations);
}

pub none_fits : (p : Parts) (plan : Plan) → MakesNoTeam plan → length p.teams.teams < 2 ^ 32 → PlanFits p plan
none_fits p plan none few = record {
  stock = none_stocked p.images plan none;
  few = λ k f at. absurd (let w : slice_get [] k ≡ Some f = ap (λ (fs : List Formation). slice_get fs k) (sym none.formations) ∙ at in cc);
  room = subst (λ (fs : List Formation). TeamsRoom p (length (all_made fs))) (sym none.formations) (record {
    control = (omega arith, omega arith);
    collective = (omega arith, omega arith);
    teams = omega arith;
    births = (let o = p.births.ok.1 in omega arith);
    tables = (let o = p.brought.ok.1 in omega arith);
    numbers = omega (arith, few);
  });
}

no_vectors : (vs : List (Vec ImageNo)) → map (λ (v : Vec ImageNo). v.items) vs ≡ [] → vs ≡ []
no_vectors [] e = refl
no_vectors (v ∷ vs) e = absurd (cc)

with_none : (s : RoundsState) → IsWith s [] s
with_none s = record {
  images = refl;
  members = sym (append-nil (members_in s.teams));
  room = omega arith;
  spare = omega arith;
  told = λ hs t. t;
}

-- nothing changes
pub none_enacted : (p : Parts) → IsStocked p.images p.plan → p.plan.formations.items ≡ [] → IsEnacted p p.plan p
none_enacted p stock none =
    let control : p.plan.control.items ≡ [] = no_vectors p.plan.control.items (stock.control ∙ ap (λ (fs : List Formation). images_of_teams (all_made fs)) none) in
    let collective : p.plan.collective.items ≡ [] = no_vectors p.plan.collective.items (stock.collective ∙ ap (λ (fs : List Formation). images_of_teams (all_made fs)) none) in
    let tables : p.plan.tables.items ≡ [] = stock.tables ∙ ap (λ (fs : List Formation). replicate (length (all_made fs)) (replicate p.images no_values)) none in
    record {
      images = refl;
      teams = sym (append-nil p.teams.teams) ∙ ap (λ (fs : List Formation). p.teams.teams ++ all_known (all_made fs)) (sym none);
      births = sym (append-nil p.births.items) ∙ ap (λ (fs : List Formation). p.births.items ++ map (λ (x : Team). x.round) (all_made fs)) (sym none);
      control = subst (λ vs. IsWith p.control vs p.control) (sym control) (with_none p.control);
      collective = subst (λ vs. IsWith p.collective vs p.collective) (sym collective) (with_none p.collective);
      tables = sym (append-nil p.brought.items) ∙ ap (λ ts. p.brought.items ++ ts) (sym tables);
      forms = refl;
      bad = refl;
      pairs = refl;
      criticals = refl;
    }

-- ---- the plan is taken out of the parts before its teams are added
abbrev pub without : Parts → Plan → Parts
without p nothing = record { images = p.images; teams = p.teams; births = p.births; control = p.control; collective = p.collective; brought = p.brought; forms = p.forms; bad = p.bad; pairs = p.pairs; criticals = p.criticals; plan = nothing }

pub taken_enacted : (p : Parts) (nothing plan : Plan) (q : Parts) → IsEnacted (without p nothing) plan q → IsEnacted p plan q
taken_enacted p nothing plan q e = record {
  images = e.images;
  teams = e.teams;
  births = e.births;
  control = e.control;
  collective = e.collective;
  tables = e.tables;
  forms = e.forms;
  bad = e.bad;
  pairs = e.pairs;
  criticals = e.criticals;
}
