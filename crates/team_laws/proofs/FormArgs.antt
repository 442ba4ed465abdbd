-- Those who give a team number in a round of FORM TEAM are its members, each of them once.
use Rattle.std.proofs.Common.{◌≡◌, ℕ, ◌+◌, ◌≤◌, cond, List, [], ◌∷◌, refl, ◌∙◌, subst, arith}
use Rattle.std.specs.Prelude.{nat_eq, Bool, true, false, ◌||◌, ◌&&◌, not, Option, Some, None, map}
use Rattle.std.specs.List.{cons_option}
use Rattle.caf_events.specs.declared.ask.Ask.{Ask}
use Rattle.caf_events.specs.declared.ask.Ask.TheVariants as asks
use Rattle.caf_events.specs.declared.round.Arriving.TheVariants as arrivings
use Rattle.caf_events.specs.declared.event.Entry.{Entry}
use Rattle.trace_theory.specs.Entries.{Each}
use Rattle.object_rules.specs.Happenings.{control, happened}
use Rattle.object_rules.specs.TeamRounds.{opening_of, missed_by}
use Rattle.object_rules.specs.FormedTeams.{FormArg, Members, formed, numbers_given, teams_of, is_bad_form}
use Rattle.object_rules.specs.BoardTeams.{Team, nth_arrival, round_of, form_arg, form_args, is_form, teams_made}
use Rattle.team_laws.proofs.Lists.{each_mapped}
use Rattle.team_laws.proofs.Times.{times, times_append}
use Rattle.team_laws.proofs.Formed.{givers, images_of, formed_times}
use Rattle.team_laws.proofs.Arrivals.{joined_image, nth_at}

form_image : (i : ℕ) (a : Ask) (x : FormArg) → form_arg i a ≡ Some x → x.image ≡ i
form_image i (asks.Arrive t (arrivings.Form number new_index)) x e = cc
form_image i a x e = absurd (cc)

-- the k-th arrival of an image is its own
nth_image : (team image k : ℕ) (f : List Entry) (e : Entry) → nth_arrival control team image k f ≡ Some e → e.image.0 ≡ image
nth_image team image k f e h = let r = nth_at control team image k f e h in joined_image control team image e.image.0 e.event.line e.event.ask e.event.reply r.joins

module _ (m : ℕ) where
  arg_more : (k bound : ℕ) (rest : List FormArg) (p : Option FormArg) → ((x : FormArg) → p ≡ Some x → x.image ≡ k) → times m (givers rest) ≤ bound → times m (givers (cons_option p rest)) ≤ cond (nat_eq m k) 1 0 + bound
  arg_more k bound rest None own le = omega arith
  arg_more k bound rest (Some x) own le = subst (λ z. cond (nat_eq m x.image) 1 0 + times m (givers rest) ≤ cond (nat_eq m z) 1 0 + bound) (own x refl) (omega arith)

  entry_more : (k bound : ℕ) (es : List Entry) (o : Option Entry) → ((e : Entry) → o ≡ Some e → e.image.0 ≡ k) → times m (givers (form_args es)) ≤ bound → times m (givers (form_args (cons_option o es))) ≤ cond (nat_eq m k) 1 0 + bound
  entry_more k bound es None own le = omega arith
  entry_more k bound es (Some e) own le = arg_more k bound (form_args es) (form_arg e.image.0 e.event.ask) (λ x q. form_image e.image.0 e.event.ask x q ∙ own e refl) le

  args_times : (team round : ℕ) (members : List ℕ) (f : List Entry) → times m (givers (form_args (round_of control team round members f))) ≤ times m members
  args_times team round [] f = omega arith
  args_times team round (k ∷ ks) f = entry_more k (times m ks) (round_of control team round ks f) (nth_arrival control team k round f) (λ e q. nth_image team k round f e q) (args_times team round ks f)

  -- nobody stands oftener in the teams that a round makes than among the members
  pub formed_few : (stopped failed : Bool) (team round : ℕ) (members : List ℕ) (f : List Entry) → times m (images_of (formed stopped failed (form_args (round_of control team round members f)))) ≤ times m members
  formed_few stopped failed team round members f =
      let args = form_args (round_of control team round members f) in
      let a = args_times team round members f in
      let t = formed_times m args in
      elim (stopped || (not failed && is_bad_form args)) as (λ b. times m (images_of (cond b [] (teams_of (numbers_given args) args))) ≤ times m members) [ true ↦ omega arith | false ↦ omega arith ]

  each_few : (bound : ℕ) (xs : List Members) → times m (images_of xs) ≤ bound → Each (λ (x : Members). times m x.images ≤ bound) xs
  each_few bound [] h = tt
  each_few bound (x ∷ xs) h = let a = times_append m x.images (images_of xs) in (omega arith, each_few bound xs (omega arith))

  -- so in none of them either
  pub made_few : (team round : ℕ) (members : List ℕ) (f : List Entry) → Each (λ (x : Team). times m x.members ≤ times m members) (teams_made team round members f)
  made_few team round members f =
      let missed = missed_by members (happened control f) in
      let args = form_args (round_of control team round members f) in
      let few = each_few (times m members) (formed missed.stopped missed.failed args) (formed_few missed.stopped missed.failed team round members f) in
      elim (is_form (opening_of team round (happened control f))) as (λ b. Each (λ (x : Team). times m x.members ≤ times m members) (cond b (map (λ (x : Members). record { parent = team; round = round; number = x.number; members = x.images }) (formed missed.stopped missed.failed args)) [])) [
        | true ↦ each_mapped (λ (x : Team). times m x.members ≤ times m members) (λ (x : Members). record { parent = team; round = round; number = x.number; members = x.images }) (formed missed.stopped missed.failed args) few
        | false ↦ tt
      ]
