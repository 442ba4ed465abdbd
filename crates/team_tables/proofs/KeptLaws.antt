-- The teams of an image in memory.
use Rattle.std.proofs.Common.{◌≡◌, ℕ, zero, suc, ◌+◌, ◌-◌, ◌≤◌, List, [], ◌∷◌, ◌++◌, length, drop, refl, ap, sym, ◌∙◌, subst, true, false, arith}
use Rattle.std.specs.Prelude.{map, reverse, Option, Some}
use Rattle.std.specs.Option.{option_map}
use Rattle.std.proofs.lemmas.List.{reverse-append, map-append, length-drop, length-map, length-reverse, length-take}
use Rattle.std.proofs.lemmas.List.Sums.{sum_by-cons, sum_by_push}
use Rattle.caf_base.specs.declared.place.ImageNo.{ImageNo}
use Rattle.caf_events.specs.declared.reply.FormedTeam.{FormedTeam}
use Rattle.image_acts.specs.Core.{Team}
use Rattle.image_acts.specs.Teams.{is_in}
use Rattle.team_tables.specs.Entries.{AreKept, ArePacked, AreWithin, formed_at, formed_by, formed_in, known_in, members_at, team_at, weight_of}
use Rattle.team_tables.specs.Tables.{Table, images_from, known_as, members_in, team_with}
use Rattle.team_tables.specs.declared.entries.Entry.{Entry}
use Rattle.team_tables.proofs.FormedLaws.{packed_le, within_packed}

pub within_more : (n m : ℕ) (es : List Entry) → n ≤ m → AreWithin n es → AreWithin m es
within_more n m [] l h = tt
within_more n m (e ∷ es) l h = (let a = h.0 in (a.0, (let b = a.1 in omega arith), a.2), within_more n m es l h.1)

pub packed_joined : (s m n : ℕ) (es fs : List Entry) → ArePacked s m es → ArePacked m n fs → ArePacked s n (es ++ fs)
packed_joined s m n [] fs h g = (let P : ℕ → Type 0 = λ k. ArePacked k n fs in subst P (sym h) g)
packed_joined s m n (e ∷ es) fs h g = (h.0, h.1, h.2, packed_joined e.end m n es fs h.3 g)

pub packed_formed : (p r s n : ℕ) (es : List Entry) → ArePacked s n es → ArePacked s n (map (formed_by p r) es)
packed_formed p r s n [] h = h
packed_formed p r s n (e ∷ es) h = (h.0, h.1, h.2, packed_formed p r e.end n es h.3)

pub known_long : (ms : List ℕ) (es : List Entry) → length (known_in ms es) ≡ length es
known_long ms es = length-map (reverse es) (team_at ms) ∙ length-reverse es

pub formed_long : (ms : List ℕ) (es : List Entry) → length (formed_in ms es) ≡ length es
formed_long ms es = length-map (reverse es) (formed_at ms) ∙ length-reverse es

pub weight_long : (ts : List FormedTeam) → length ts ≤ weight_of ts
weight_long [] = omega arith
weight_long (t ∷ ts) = (let e = sum_by-cons (λ (u : FormedTeam). 1 + length u.members) t ts in let r = weight_long ts in omega arith)

-- the members of a packed row
members_long : (ms : List ℕ) (e : Entry) → e.end ≤ length ms → length (members_at ms e) ≡ e.end - e.start
members_long ms e h = (let a = length-take (e.end - e.start) (drop e.start ms) in let b = length-drop e.start ms in omega arith)

pub members_packed : (ms : List ℕ) (s n : ℕ) (es : List Entry) → n ≤ length ms → ArePacked s n es → s + members_in (known_in ms es) ≡ n
members_packed ms s n [] l h = (let e : s + 0 ≡ n = omega arith in e)
members_packed ms s n (e ∷ es) l h =
    let a : known_in ms (e ∷ es) ≡ known_in ms es ++ team_at ms e ∷ [] = ap (map (team_at ms)) (reverse-append (e ∷ []) es) ∙ map-append (team_at ms) (reverse es) (e ∷ []) in
    let b = ap members_in a ∙ sum_by_push (λ (k : Team). length k.members) (known_in ms es) (team_at ms e) in
    let i = packed_le e.end n es h.3 in
    let j = members_long ms e (omega arith) in
    let r = members_packed ms e.end n es l h.3 in
    let f = h.0 in
    let g = h.1 in
    omega arith

-- what is known of teams that are kept
module _ (current : List ℕ) (known formed : List Entry) (members : List ℕ) (placed images current_room known_room formed_room : ℕ) (k : AreKept current known formed members placed images current_room known_room formed_room) where
  pub placed_within : placed ≤ length members
  placed_within = packed_le placed (length members) formed k.formed_packed

  pub known_within : AreWithin (length members) known
  known_within = within_more placed (length members) known placed_within (within_packed 0 placed known k.known_packed)

  pub formed_within : AreWithin (length members) formed
  formed_within = within_packed placed (length members) formed k.formed_packed

  pub members_placed : members_in (known_in members known) ≡ placed
  members_placed = (let e = members_packed members 0 placed known placed_within k.known_packed in omega arith)

-- formed teams that are noted
numbers_back : (ns : List ℕ) → map (λ (i : ImageNo). i.0) (map (λ n. record { 0 = n }) ns) ≡ ns
numbers_back [] = refl
numbers_back (n ∷ ns) = ap (λ ms. n ∷ ms) (numbers_back ns)

team_noted : (ms : List ℕ) (p r : ℕ) (e : Entry) → team_at ms (formed_by p r e) ≡ known_as p r (formed_at ms e)
team_noted ms p r e = (let f : List ℕ → Team = λ ns. record { team = e.team; parent = p; round = r; number = e.number; members = ns } in ap f (sym (numbers_back (members_at ms e))))

teams_noted : (ms : List ℕ) (p r : ℕ) (es : List Entry) → known_in ms (map (formed_by p r) es) ≡ map (known_as p r) (formed_in ms es)
teams_noted ms p r [] = refl
teams_noted ms p r (e ∷ es) =
    let f = formed_by p r in
    let g = known_as p r in
    ap (map (team_at ms)) (reverse-append (f e ∷ []) (map f es)) ∙ map-append (team_at ms) (reverse (map f es)) (f e ∷ [])
    ∙ ap (λ (k : Team). known_in ms (map f es) ++ k ∷ []) (team_noted ms p r e)
    ∙ ap (λ ks. ks ++ g (formed_at ms e) ∷ []) (teams_noted ms p r es)
    ∙ sym (map-append g (formed_in ms es) (formed_at ms e ∷ []))
    ∙ ap (map g) (sym (ap (map (formed_at ms)) (reverse-append (e ∷ []) es) ∙ map-append (formed_at ms) (reverse es) (e ∷ [])))

pub noted_view : (ms : List ℕ) (p r : ℕ) (es fs : List Entry) → known_in ms (es ++ map (formed_by p r) fs) ≡ map (known_as p r) (formed_in ms fs) ++ known_in ms es
noted_view ms p r es fs =
    ap (map (team_at ms)) (reverse-append es (map (formed_by p r) fs)) ∙ map-append (team_at ms) (reverse (map (formed_by p r) fs)) (reverse es)
    ∙ ap (λ ks. ks ++ known_in ms es) (teams_noted ms p r fs)

own_of : (ms : List ℕ) (me p r : ℕ) (xs : List Entry) → option_map (λ (k : Team). k.team) (team_with me (map (team_at ms) xs)) ≡ option_map (λ (k : Team). k.team) (team_with me (map (known_as p r) (map (formed_at ms) xs)))
own_of ms me p r [] = refl
own_of ms me p r (e ∷ es) =
    let t : Team → Option ℕ = λ k. Some k.team in
    elim (is_in me (members_at ms e)) as (λ b. is_in me (members_at ms e) ≡ b → option_map (λ (k : Team). k.team) (team_with me (map (team_at ms) (e ∷ es))) ≡ option_map (λ (k : Team). k.team) (team_with me (map (known_as p r) (map (formed_at ms) (e ∷ es))))) [
      | true ↦ λ h. (let g : is_in me (map (λ (i : ImageNo). i.0) (map (λ n. record { 0 = n }) (members_at ms e))) ≡ true = ap (is_in me) (numbers_back (members_at ms e)) ∙ h in rw (h, g) refl)
      | false ↦ λ h. (let g : is_in me (map (λ (i : ImageNo). i.0) (map (λ n. record { 0 = n }) (members_at ms e))) ≡ false = ap (is_in me) (numbers_back (members_at ms e)) ∙ h in rw (h, g) (own_of ms me p r es))
    ] refl

pub own_same : (ms : List ℕ) (me p r : ℕ) (es : List Entry) → option_map (λ (k : Team). k.team) (team_with me (known_in ms es)) ≡ option_map (λ (k : Team). k.team) (team_with me (map (known_as p r) (formed_in ms es)))
own_same ms me p r es = own_of ms me p r (reverse es)

-- tables with the same parts
abbrev pub table : List ℕ → List Team → List FormedTeam → (me images teams members : ℕ) → Table
table cs ks fs me n a b = record { current = cs; known = ks; formed = fs; me = me; images = n; room = record { teams = a; members = b } }

pub same_table : (cs : List ℕ) (ks ls : List Team) (fs gs : List FormedTeam) (me n a b c d : ℕ) → ks ≡ ls → fs ≡ gs → a ≡ c → b ≡ d → table cs ks fs me n a b ≡ table cs ls gs me n c d
same_table cs ks ls fs gs me n a b c d h i j k = rw (h, i, j, k) refl

-- the images from 1 on
images_on : (i n : ℕ) → images_from i (suc n) ≡ images_from i n ++ (i + n) ∷ []
images_on i zero = (let e : i ≡ i + 0 = omega arith in ap (λ k. k ∷ []) e)
images_on i (suc n) = (let e : suc i + n ≡ i + suc n = omega arith in ap (λ xs. i ∷ xs) (images_on (suc i) n ∙ ap (λ k. images_from (suc i) n ++ k ∷ []) e))

pub images_more : (n : ℕ) → images_from 1 (n + 1) ≡ images_from 1 n ++ (n + 1) ∷ []
images_more n = (let e : n + 1 ≡ suc n = omega arith in let f : 1 + n ≡ n + 1 = omega arith in ap (images_from 1) e ∙ images_on 1 n ∙ ap (λ k. images_from 1 n ++ k ∷ []) f)

pub images_long : (i n : ℕ) → length (images_from i n) ≡ n
images_long i zero = refl
images_long i (suc n) = ap suc (images_long (suc i) n)
