-- The members of the teams stay, and what is known of the team that a call reads.
use Rattle.std.proofs.Common.{◌≡◌, ℕ, zero, suc, ◌-◌, ◌<◌, ◌≤◌, List, [], ◌∷◌, length, refl, ap, sym, ◌∙◌, subst, arith}
use Rattle.std.specs.Prelude.{slice_get, slice_set, slice_index_or, Some}
use Rattle.object_rules.specs.Happenings.{Happening}
use Rattle.object_rules.specs.TeamRounds.{arrivals}
use Rattle.failure_status.specs.Endings.{Ended}
use Rattle.team_round.specs.TeamStates.{TeamState, RoundsState, joined_by, members_in, TellsAll, IsTold, AreEnded}
use Rattle.team_round.proofs.Telling.{same_some}
use Rattle.team_round.proofs.AllTeams.{get_from, told_there}

pub members_set : (xs : List TeamState) (k : ℕ) (x y : TeamState) → slice_get xs k ≡ Some x → y.members ≡ x.members → members_in (slice_set xs k y) ≡ members_in xs
members_set [] k x y at e = refl
members_set (z ∷ zs) zero x y at e = ap (λ m. m ∷ members_in zs) (e ∙ ap (λ (q : TeamState). q.members) (sym (same_some z x at)))
members_set (z ∷ zs) (suc k) x y at e = ap (λ l. z.members ∷ l) (members_set zs k x y at e)

members_each : (xs ys : List TeamState) → length ys ≡ length xs → ((k : ℕ) (x : TeamState) → slice_get xs k ≡ Some x → (y : TeamState) × (slice_get ys k ≡ Some y) × (y.members ≡ x.members)) → members_in ys ≡ members_in xs
members_each [] [] n f = refl
members_each [] (y ∷ ys) n f = absurd (omega arith)
members_each (x ∷ xs) [] n f = absurd (omega arith)
members_each (x ∷ xs) (y ∷ ys) n f =
    let h = f zero x refl in
    ap (λ m. m ∷ members_in ys) (ap (λ (q : TeamState). q.members) (same_some y h.0 h.1) ∙ h.2)
    ∙ ap (λ l. x.members ∷ l) (members_each xs ys (omega arith) (λ k. f (suc k)))

get_below : (xs : List TeamState) (k : ℕ) (x : TeamState) → slice_get xs k ≡ Some x → k < length xs
get_below [] k x h = absurd (cc)
get_below (y ∷ ys) zero x h = omega arith
get_below (y ∷ ys) (suc k) x h = let r = get_below ys k x h in omega arith

-- the end of an image changes no members
pub members_ended : (i : ℕ) (ended : Ended) (before after : List TeamState) → AreEnded i ended (length before) before after → members_in after ≡ members_in before
members_ended i ended before after a = members_each before after a.as_many (λ k x h. (let y = a.each k x h in (y.0, y.1, (y.2 (get_below before k x h)).members)))

-- what holds of the team of a number holds of the one that is read
pub holds_there : (t : ℕ) (s0 s : RoundsState) (y : TeamState) (P : TeamState → Type 0) → s ≡ s0 → (0 < t) × (t ≤ length s0.teams) → y ≡ slice_index_or s.teams (t - 1) y → ((x : TeamState) → slice_get s0.teams (t - 1) ≡ Some x → P x) → P y
holds_there t s0 s y P v w is f =
    let low : 0 < t = w.0 in
    let high : t ≤ length s0.teams = w.1 in
    f y (get_from s0.teams (t - 1) y (omega arith) (is ∙ ap (λ (q : RoundsState). slice_index_or q.teams (t - 1) y) v))

-- the members stay where room is made for a round
pub members_reserved : (t : ℕ) (s0 s : RoundsState) (items : List TeamState) (x y : TeamState) → s ≡ s0 → (0 < t) × (t ≤ length s0.teams) → items ≡ s.teams → x ≡ slice_index_or items (t - 1) x → y.members ≡ x.members → members_in (slice_set items (t - 1) y) ≡ members_in s0.teams
members_reserved t s0 s items x y v w same is m =
    let low : 0 < t = w.0 in
    let high : t ≤ length s0.teams = w.1 in
    let all : items ≡ s0.teams = same ∙ ap (λ (q : RoundsState). q.teams) v in
    let count : length items ≡ length s0.teams = ap length all in
    members_set items (t - 1) x y (get_from items (t - 1) x (omega arith) is) m ∙ ap members_in all

-- the state of the team that is read is told
pub told_of : (n t : ℕ) (s0 s : RoundsState) (y : TeamState) (hs : List Happening) → s ≡ s0 → (0 < t) × (t ≤ length s0.teams) → y ≡ slice_index_or s.teams (t - 1) y → TellsAll n s0 hs → IsTold t y s0.ended hs
told_of n t s0 s y hs v w is all =
    let low : 0 < t = w.0 in
    let high : t ≤ length s0.teams = w.1 in
    let number : suc (t - 1) ≡ t = omega arith in
    subst (λ u. IsTold u y s0.ended hs) number (told_there n (t - 1) s0 y hs (get_from s0.teams (t - 1) y (omega arith) (is ∙ ap (λ (q : RoundsState). slice_index_or q.teams (t - 1) y) v)) all)

-- the team that is read is the one of the number
pub read_there : (t : ℕ) (s0 s : RoundsState) (y x : TeamState) → s ≡ s0 → (0 < t) × (t ≤ length s0.teams) → y ≡ slice_index_or s.teams (t - 1) y → slice_get s0.teams (t - 1) ≡ Some x → y ≡ x
read_there t s0 s y x v w is at =
    let low : 0 < t = w.0 in
    let high : t ≤ length s0.teams = w.1 in
    same_some y x (sym (get_from s0.teams (t - 1) y (omega arith) (is ∙ ap (λ (q : RoundsState). slice_index_or q.teams (t - 1) y) v)) ∙ at)
