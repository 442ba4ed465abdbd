-- What is known of an image that can leave a round.
use Rattle.std.proofs.Common.{◌≡◌, ℕ, ◌-◌, ◌<◌, ◌≤◌, Bool, true, false, ◌&&◌, nat_le, List, inl, inr, refl, length, ap, sym, ◌∙◌, arith, IsTrue}
use Rattle.std.specs.Prelude.{is_some, slice_get, Some}
use Rattle.std.proofs.lemmas.Bool.{and_parts, leb-true, cases_Bool}
use Rattle.caf_base.specs.declared.place.TeamNo.{TeamNo}
use Rattle.caf_events.specs.declared.ask.Ask.TheVariants as asks
use Rattle.caf_events.specs.declared.event.Entry.{Entry}
use Rattle.object_rules.specs.Happenings.{Class, control, collective, happened, numbers_of}
use Rattle.object_rules.specs.ImagePairs.{names}
use Rattle.object_rules.specs.TeamRounds.{arrivals, at_close}
use Rattle.object_rules.specs.BoardRules.{has_joined, board_ready}
use Rattle.object_rules.specs.BoardTeams.{teams_after, members_at, closing}
use Rattle.team_round.specs.TeamStates.{TeamState}
use Rattle.control_board.specs.declared.parts.Parts.{Parts}
use Rattle.control_board.specs.Boards.{IsBoard, class_of, rounds_in}
use Rattle.control_board.proofs.Members.{get_there, member_there, rounds_members}
use Rattle.control_board.proofs.Replying.{close_law}
use Rattle.control_board.proofs.Steps.{ready_parts}

-- it is a member of the team, and the round has a number from 1
pub joined_is : (c : Class) (n : ℕ) (h : List Entry) (i t r : ℕ) → has_joined c n h i t r ≡ true → (names i (members_at (teams_after n h) t) ≡ true) × (0 < r)
joined_is c n h i t r j =
    let a = and_parts (names i (members_at (teams_after n h) t) && nat_le 1 r) (nat_le r (arrivals t i (happened c h))) j in
    let m = and_parts (names i (members_at (teams_after n h) t)) (nat_le 1 r) a.0 in
    let l = leb-true 1 r m.1 in
    (m.0, omega arith)

pub joined_parts : (n : ℕ) (h : List Entry) (i : ℕ) (team : TeamNo) (r : ℕ) → IsTrue (board_ready n h i (asks.Leave team r))
    → (names i (members_at (teams_after n h) team.0) ≡ true) × (0 < r) × (is_some (closing control team.0 r (members_at (teams_after n h) team.0) h) ≡ true)
joined_parts n h i team r ready =
    let p = ready_parts n h i (asks.Leave team r) ready in
    let j = joined_is control n h i team.0 r p.1 in
    (j.0, j.1, p.2)

-- the same of a collective subroutine
pub taken_parts : (n : ℕ) (h : List Entry) (i : ℕ) (team : TeamNo) (r : ℕ) → IsTrue (board_ready n h i (asks.Take team r))
    → (names i (members_at (teams_after n h) team.0) ≡ true) × (0 < r) × (is_some (closing collective team.0 r (members_at (teams_after n h) team.0) h) ≡ true)
taken_parts n h i team r ready =
    let p = ready_parts n h i (asks.Take team r) ready in
    let j = joined_is collective n h i team.0 r p.1 in
    (j.0, j.1, p.2)

-- whether it can leave
pub can_depart_law : (c : Bool) (n : ℕ) (h : List Entry) (p : Parts) → IsBoard n h p → (i t r : ℕ) (closed : Bool) → has_joined (class_of c) n h i t r ≡ true
    → ((x : TeamState) → slice_get (rounds_in p c).teams (t - 1) ≡ Some x → closed ≡ is_some (at_close (numbers_of x.members) t r (happened (class_of c) h)))
    → closed ≡ (has_joined (class_of c) n h i t r && is_some (closing (class_of c) t r (members_at (teams_after n h) t) h))
can_depart_law c n h p b i t r closed joined is =
    let j = joined_is (class_of c) n h i t r joined in
    let there = member_there n h p b c t i j.0 in
    let low : 0 < t = there.0 in
    let high : t ≤ length (rounds_in p c).teams = there.1 in
    let x = get_there (rounds_in p c).teams (t - 1) (omega arith) in
    is x.0 x.1
    ∙ ap (λ ms. is_some (at_close ms t r (happened (class_of c) h))) (rounds_members n h p b c t x.0 low x.1)
    ∙ close_law (class_of c) t r (members_at (teams_after n h) t) h
    ∙ ap (λ z. z && is_some (closing (class_of c) t r (members_at (teams_after n h) t) h)) (sym joined)

-- who has joined a round is a member, so that its count tells it
pub joined_law : (m : Bool) (r a : ℕ) → (0 < a → m ≡ true) → (nat_le 1 r && nat_le r a) ≡ (m && nat_le 1 r && nat_le r a)
joined_law true r a f = refl
joined_law false r a f = elim (cases_Bool (nat_le 1 r && nat_le r a)) [
  | inl y ↦ absurd (
      let p = and_parts (nat_le 1 r) (nat_le r a) y in
      let l = leb-true 1 r p.0 in
      let q = leb-true r a p.1 in
      let w : false ≡ true = f (omega arith) in
      cc)
  | inr z ↦ z
]
