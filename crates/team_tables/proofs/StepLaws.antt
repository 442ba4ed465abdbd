-- The steps on teams, step by step.
use Rattle.std.proofs.Common.{◌≡◌, ℕ, ℤ, pos, negsuc, Bool, true, false, cond, List, ◌∷◌, length, refl, ap, ◌∙◌}
use Rattle.std.specs.Prelude.{Option, Some, None}
use Rattle.std.specs.Option.{option_map}
use Rattle.std.specs.Ordering.{int_eq}
use Rattle.walk_theory.specs.Language.{faults, goes_to}
use Rattle.image_acts.specs.Acts as a
use Rattle.image_acts.specs.Core.{Core, Team}
use Rattle.image_acts.specs.Faults.{no_team}
use Rattle.image_acts.specs.Taking.{Acted, given, giving}
use Rattle.image_acts.specs.Frames.{with_cell}
use Rattle.image_acts.specs.Operate.Selecting.{teamed, selector_effect}
use Rattle.image_acts.specs.Operate.Teaming.{team_effect}
use Rattle.team_tables.specs.Tables.{Table, with_teams, current_of, parent_of, image_count_of_number, numbered_here, team_at_level, team_with, newly_known, with_noted}
use Rattle.team_tables.specs.Steps.{core_of, given_or_no_team, own_team, with_team_in}

-- what is found of a team, or nothing
pub found_of : (f : Team → ℤ) (o : Option Team) (c : Core) → teamed o (λ k. giving (f k) c) ≡ given_or_no_team (option_map f o) c
found_of f None c = refl
found_of f (Some k) c = refl

level_of : (b d e : Bool) (i j k : ℤ) (x y z : ℕ) (c : Core) → i ≡ pos x → j ≡ pos y → k ≡ pos z
    → cond b (giving i c) (cond d (giving j c) (cond e (giving k c) (faults no_team))) ≡ given_or_no_team (option_map (λ n. pos n) (cond b (Some x) (cond d (Some y) (cond e (Some z) None)))) c
level_of true d e i j k x y z c h g f = ap (λ v. giving v c) h
level_of false true e i j k x y z c h g f = ap (λ v. giving v c) g
level_of false false true i j k x y z c h g f = ap (λ v. giving v c) f
level_of false false false i j k x y z c h g f = refl

count_of : (b : Bool) (n : ℕ) (o : Option Team) (c : Core) → cond b (giving (pos n) c) (teamed o (λ k. giving (pos (length k.members)) c)) ≡ given_or_no_team (option_map (λ m. pos m) (cond b (Some n) (option_map (λ (k : Team). length k.members) o))) c
count_of true n o c = refl
count_of false n None c = refl
count_of false n (Some k) c = refl

pub counted : (t : Table) (c : Core) (v : ℤ) (vs : List ℤ) → selector_effect a.image_count_of_number (core_of t (v ∷ vs) c) ≡ given_or_no_team (option_map (λ n. pos n) (image_count_of_number t v)) (core_of t vs c)
counted t c v vs = count_of (int_eq v (negsuc 0)) t.images (numbered_here t v) (core_of t vs c)

pub at_level : (t : Table) (c : Core) (v : ℤ) (vs : List ℤ) → selector_effect a.get_team (core_of t (v ∷ vs) c) ≡ given_or_no_team (option_map (λ n. pos n) (team_at_level t v)) (core_of t vs c)
at_level t c v vs = level_of (int_eq v (pos 1)) (int_eq v (pos 2)) (int_eq v (pos 3)) (pos 1) (pos (parent_of t)) (pos (current_of t)) 1 (parent_of t) (current_of t) (core_of t vs c) refl refl refl

-- the scalar that gets the team that has this image
abbrev own_in : a.Scope → ℕ → Option Team → Core → Core
own_in s x None c = c
own_in s x (Some k) c = with_cell s x (pos k.team) c

own_put : (s : a.Scope) (x : ℕ) (o : Option Team) (c : Core) → own_in s x o c ≡ with_team_in s x (option_map (λ (k : Team). k.team) o) c
own_put s x None c = refl
own_put s x (Some k) c = refl

pub notes : (t : Table) (c : Core) (s : a.Scope) (x r : ℕ) → c.round ≡ Some r → team_effect (a.note_teams s x) (with_teams t c) ≡ goes_to (with_team_in s x (own_team r t) (with_teams (with_noted r t) c))
notes t c s x r h =
    let f : ℕ → Acted = λ q. goes_to (own_in s x (team_with t.me (newly_known q t)) (with_teams (with_noted q t) c)) in
    ap (λ o. given o f) h ∙ ap goes_to (own_put s x (team_with t.me (newly_known r t)) (with_teams (with_noted r t) c))
