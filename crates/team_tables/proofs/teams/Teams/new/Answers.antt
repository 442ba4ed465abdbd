use Rattle.std.proofs.Common.{◌≡◌, ◌-◌, ◌∷◌, ◌∙◌, ℕ, List, [], length, take, refl, ap, sym, subst, lit<, arith}
use Rattle.std.specs.Prelude.{vec_capacity, reverse, negsuc}
use Rattle.std.proofs.lemmas.List.{take_all}
use Rattle.image_acts.specs.Core.{Team}
use Rattle.team_tables.specs.Entries.{ArePacked, formed_in, known_in}
use Rattle.team_tables.specs.Tables.{AreSmall, images_from}
use Rattle.team_tables.specs.declared.entries.Entry.{Entry}
use Rattle.team_tables.proofs.KeptLaws.{images_long, same_table, table}
use Rattle.team_tables.proofs.teams.Teams.new.Goals as goal

pub invariant_of-result : goal.invariant_of-result
invariant_of-result c =
    let known = c.in_ok-known.ensures in
    let members = ap length c.in_ok-members.ensures ∙ images_long 1 c.args.images in
    let P : List ℕ → Type 0 = λ ts. AreSmall ts in
    let Q : List Entry → Type 0 = λ es. ArePacked 0 c.args.images es in
    let R : List Entry → Type 0 = λ es. ArePacked c.args.images (length c.in_ok-members.members.items) es in
    let n = c.ranges.images in
    record {
      small = subst P (sym c.in_ok-current.ensures.0) (lit< tt, tt);
      deep = c.in_ok-current.ensures.1;
      known_packed = subst Q (sym known.0) (refl, omega arith, omega arith, refl);
      formed_packed = subst R (sym c.in_ok-formed.ensures.items) (sym members);
      known_roomy = (let a = ap length known.0 in let b = ap length c.in_ok-formed.ensures.items in let d = known.1 in omega arith);
      formed_roomy = (let a = c.in_ok-formed.ensures.exact in omega arith);
      few = omega arith;
    }

pub returns : goal.returns
returns c =
    let ms = c.in_ok-members.members.items in
    let all : take c.args.images ms ≡ images_from 1 c.args.images = take_all c.args.images ms (let l = ap length c.in_ok-members.ensures ∙ images_long 1 c.args.images in omega arith) ∙ c.in_ok-members.ensures in
    let f : List ℕ → List Team = λ ns. record { team = 1; parent = 0; round = 0; number = negsuc 0; members = ns } ∷ [] in
    let known = ap (known_in ms) c.in_ok-known.ensures.0 ∙ ap (λ (k : ℕ). f (take k ms)) (let e : c.args.images - 0 ≡ c.args.images = omega arith in e) ∙ ap f all in
    ap (λ (ts : List ℕ). table (reverse ts) (known_in ms c.in_ok-known.known.items) (formed_in ms c.in_ok-formed.formed.items) c.args.me.0 c.args.images (vec_capacity c.in_ok-known.known) (vec_capacity c.in_ok-members.members)) c.in_ok-current.ensures.0
    ∙ same_table _ _ _ _ _ _ _ _ _ _ _ known (ap (formed_in ms) c.in_ok-formed.ensures.items) refl refl
