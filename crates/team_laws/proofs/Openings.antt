-- A round in which an image has arrived has a first arrival.
use Rattle.std.proofs.Common.{◌≡◌, ℕ, suc, ◌+◌, ◌≤◌, true, ◌||◌, List, [], ◌∷◌, ◌++◌, inl, inr, refl, ap, ◌∙◌, arith}
use Rattle.std.specs.Prelude.{nat_eq, Option, Some, None}
use Rattle.std.specs.List.{list_any, list_all}
use Rattle.std.proofs.lemmas.Bool.{cases_Bool, cases_lt, and_parts, and_from, eqb-true, eq-eqb, leb-true}
use Rattle.object_rules.specs.Scans.{or_else}
use Rattle.object_rules.specs.Happenings.{Happening, arrives, has_ended}
use Rattle.object_rules.specs.TeamRounds.{is_arrival, arrivals, has_arrived, has_closed, Opening, joins_round, opening_of}
use Rattle.object_rules.proofs.Growing.{opening_more, arrivals_more}
use Rattle.team_laws.proofs.Lists.{grown, any_there}

opens_by : (t m round : ℕ) (hs : List Happening) (x : Happening) → is_arrival t m x ≡ true → suc (arrivals t m hs) ≡ round → (o : Opening) × (joins_round t round hs x ≡ Some o)
opens_by t m round hs (arrives u i k l) is due =
    let p = and_parts (nat_eq u t) (nat_eq i m) is in
    let c : suc (arrivals t i hs) ≡ round = ap (λ z. suc (arrivals t z hs)) (eqb-true i m p.1) ∙ due in
    (record { kind = k; image = i; line = l }, rw (and_from (nat_eq u t) (nat_eq (suc (arrivals t i hs)) round) p.0 (eq-eqb (suc (arrivals t i hs)) round c)) refl)
opens_by t m round hs x is due = absurd (cc)

or_some : (x y : Option Opening) → (o : Opening) × (y ≡ Some o) → (o : Opening) × (or_else x y ≡ Some o)
or_some None y h = h
or_some (Some o) y h = (o, refl)

some_or : (x y : Option Opening) → (o : Opening) × (x ≡ Some o) → (o : Opening) × (or_else x y ≡ Some o)
some_or x y h = (h.0, ap (λ z. or_else z y) h.1)

module _ (t m round : ℕ) (low : 1 ≤ round) where
  abbrev Opened : List Happening → Type 0
  Opened hs = round ≤ arrivals t m hs → (o : Opening) × (opening_of t round hs ≡ Some o)

  more_opened : (hs : List Happening) (x : Happening) → Opened hs → Opened (hs ++ x ∷ [])
  more_opened hs x old le =
      let more = arrivals_more t m hs x in
      let o : (o : Opening) × (or_else (opening_of t round hs) (joins_round t round hs x) ≡ Some o) = elim (cases_lt (arrivals t m hs) round) [
        | inl lt ↦ elim (cases_Bool (is_arrival t m x)) [
          | inl is ↦ (let n : arrivals t m (hs ++ x ∷ []) ≡ arrivals t m hs + 1 = rw is at more in or_some (opening_of t round hs) (joins_round t round hs x) (opens_by t m round hs x is (omega arith)))
          | inr not ↦ absurd (let n : arrivals t m (hs ++ x ∷ []) ≡ arrivals t m hs + 0 = rw not at more in omega arith)
        ]
        | inr ge ↦ some_or (opening_of t round hs) (joins_round t round hs x) (old ge)
      ] in
      (o.0, opening_more t round hs x ∙ o.1)

  opened_by : (hs : List Happening) → Opened hs
  opened_by hs = grown Opened more_opened [] hs (λ le. absurd (omega arith))

-- a round that has closed has one
pub closed_opens : (ms : List ℕ) (t round : ℕ) (hs : List Happening) → 1 ≤ round → has_closed ms t round hs ≡ true → (o : Opening) × (opening_of t round hs ≡ Some o)
closed_opens ms t round hs low h =
    let a = any_there (λ m. has_arrived t round m hs) ms (and_parts (list_any (λ m. has_arrived t round m hs) ms) (list_all (λ m. has_arrived t round m hs || has_ended m hs) ms) h).0 in
    opened_by t a.0 round low hs (leb-true round (arrivals t a.0 hs) a.1)
