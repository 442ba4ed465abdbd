-- Runs without failures: the members of their teams, and what an arrival is there.
use Rattle.std.proofs.Common.{◌≡◌, ℕ, suc, true, IsTrue, nat_eq, ◌&&◌, List, [], ◌∷◌, ◌++◌, length, refl, ap, sym, ◌∙◌, subst, append_assoc}
use Rattle.std.specs.Prelude.{Some}
use Rattle.std.specs.List.{list_all}
use Rattle.std.proofs.lemmas.Bool.{and_parts, eqb-true}
use Rattle.trace_theory.specs.Machines.{Said}
use Rattle.caf_base.specs.declared.place.Place.TheVariants as places
use Rattle.caf_events.specs.declared.ask.Ask.{Ask}
use Rattle.caf_events.specs.declared.ask.Ask.TheVariants as asks
use Rattle.caf_events.specs.declared.reply.Reply.{Reply}
use Rattle.caf_events.specs.declared.reply.Reply.TheVariants as replies
use Rattle.caf_events.specs.declared.round.RoundKind.{RoundKind}
use Rattle.caf_events.specs.declared.round.RoundKind.TheVariants as kinds
use Rattle.caf_events.specs.declared.event.Entry.{Entry}
use Rattle.caf_events.specs.Asks.{place_of}
use Rattle.object_rules.specs.Cells.{Declared}
use Rattle.object_rules.specs.Happenings.{arrives, Class, control, collective, images, kind_of, happens, happened}
use Rattle.object_rules.specs.ImagePairs.{names}
use Rattle.object_rules.specs.TeamRounds.{arrivals, Opening, opening_of}
use Rattle.object_rules.specs.BoardTeams.{arrives_there, teams_after, members_at}
use Rattle.object_rules.specs.Folds.{is_of_kind}
use Rattle.object_rules.specs.BoardRules.{is_image, is_gathered, is_root, fits_board, board_ready, board_reply, arrival_reply}
use Rattle.core_runs.specs.CoreRuns.{at_board, said_by}
use Rattle.core_runs.specs.Sequences.{NothingAfterEnd}
use Rattle.core_runs.proofs.Fronts.{lawful_trace_front}
use Rattle.order_theory.specs.Races.{Stands}
use Rattle.team_laws.proofs.Teams.{teams_stay, members_stay}
use Rattle.answer_laws.proofs.RoundKinds.{joins_next, in_round}
use Rattle.answer_laws.proofs.Served.{board_split}
use Rattle.free_replies.proofs.Alike.{IsFree, each_front}
use Rattle.free_replies.proofs.Replies.{board_here, said_append}
use Rattle.round_words.proofs.BoardWords.{happened_board, own_arrivals}
use Rattle.round_words.proofs.Closing.{board_append}
use Rattle.round_words.proofs.SameKinds.{alike_is}
use Rattle.round_words.specs.RoundRuns.{IsRoundRun, arrivals_said, team_members}

empty_front : (xs ys : List (Said Ask Reply)) → xs ++ ys ≡ [] → xs ≡ []
empty_front [] ys e = refl
empty_front (x ∷ xs) ys e = absurd (cc)

pub nothing_front : (xs ys : List (Said Ask Reply)) → NothingAfterEnd (xs ++ ys) → NothingAfterEnd xs
nothing_front xs ys h = λ before after e p ends. empty_front after ys (h before (after ++ ys) e (ap (λ zs. zs ++ ys) p ∙ append_assoc before (e ∷ after) ys) ends)

pub round_front : (s : List Declared) (n : ℕ) (xs ys : List Entry) → IsRoundRun s n (xs ++ ys) → IsRoundRun s n xs
round_front s n xs ys r = record {
  lawful = lawful_trace_front s n xs ys r.lawful;
  free = each_front IsFree xs ys r.free;
  ends = λ i. nothing_front (said_by i xs) (said_by i ys) (subst NothingAfterEnd (said_append i xs ys) (r.ends i));
}

-- a team that has a member keeps its members
pub members_front : (n : ℕ) (b h : List Entry) (i team : ℕ) → names i (team_members n b team) ≡ true → team_members n (b ++ h) team ≡ team_members n b team
members_front n b h i team named =
    let r = teams_stay n (at_board b) (at_board h) in
    ap (λ z. members_at (teams_after n z) team) (board_append b h) ∙ ap (λ ts. members_at ts team) r.1 ∙ members_stay (teams_after n (at_board b)) r.0 i team named

-- what an arrival at a team is
pub record IsArrival (class : Class) (team i line : ℕ) (a : Ask) (r : Reply) : Type 0 where
  pub kind : RoundKind
  pub round : ℕ
  pub heard : r ≡ replies.Round round
  pub place : place_of a ≡ places.Board
  pub what : happens class i line a r ≡ Some (arrives team i kind line)
  pub due : (n : ℕ) (h : List Entry) (j : ℕ) → board_reply n h j a ≡ arrival_reply class h j team kind
  pub fits : (n : ℕ) (h : List Entry) (j : ℕ) → IsTrue (board_ready n h j a) → names j (members_at (teams_after n h) team) ≡ true

pub is_arrival : (class : Class) (team i line : ℕ) (a : Ask) (r : Reply) → arrives_there team i (happens class i line a r) ≡ true → IsArrival class team i line a r
is_arrival control team i line (asks.Arrive t arriving) (replies.Round k) h =
    let is = eqb-true t.0 team (and_parts (nat_eq t.0 team) (nat_eq i i) h).0 in
    record {
      kind = kind_of arriving;
      round = k;
      heard = refl;
      place = refl;
      what = ap (λ z. Some (arrives z i (kind_of arriving) line)) is;
      due = λ n h j. ap (λ z. arrival_reply control h j z (kind_of arriving)) is;
      fits = λ n h j ready. (
          let both = (and_parts (is_image n j && fits_board n h j (asks.Arrive t arriving)) true ready).0 in
          subst (λ z. names j (members_at (teams_after n h) z) ≡ true) is (and_parts (is_image n j) (fits_board n h j (asks.Arrive t arriving)) both).1);
    }
is_arrival control team i line (asks.Arrive t arriving) r h = absurd (cc)
is_arrival control team i line a r h = absurd (cc)
is_arrival collective team i line (asks.Gather t op root kind values) (replies.Round k) h =
    let is = eqb-true t.0 team (and_parts (nat_eq t.0 team) (nat_eq i i) h).0 in
    record {
      kind = kinds.Collective op root kind (length values);
      round = k;
      heard = refl;
      place = refl;
      what = ap (λ z. Some (arrives z i (kinds.Collective op root kind (length values)) line)) is;
      due = λ n h j. ap (λ z. arrival_reply collective h j z (kinds.Collective op root kind (length values))) is;
      fits = λ n h j ready. (
          let a = asks.Gather t op root kind values in
          let ms = members_at (teams_after n h) t.0 in
          let both = (and_parts (is_image n j && fits_board n h j a) true ready).0 in
          let all = (and_parts (is_image n j) (fits_board n h j a) both).1 in
          let three = (and_parts (names j ms && is_gathered op kind && is_root op (length ms) root) (list_all (is_of_kind kind) values) all).0 in
          let two = (and_parts (names j ms && is_gathered op kind) (is_root op (length ms) root) three).0 in
          subst (λ z. names j (members_at (teams_after n h) z) ≡ true) is (and_parts (names j ms) (is_gathered op kind) two).0);
    }
is_arrival collective team i line (asks.Gather t op root kind values) r h = absurd (cc)
is_arrival collective team i line a r h = absurd (cc)
is_arrival images team i line (asks.Pair named) r h = absurd (cc)
is_arrival images team i line (asks.Stop code) r h = absurd (cc)
is_arrival images team i line asks.Gone r h = absurd (cc)
is_arrival images team i line a r h = absurd (cc)

module _ (s : List Declared) (n : ℕ) (g : List Entry) (run : IsRoundRun s n g) (class : Class) (team : ℕ) (z : Stands g)
    (arrival : IsArrival class team z.event.image.0 z.event.event.line z.event.event.ask z.event.event.reply) where
  abbrev i : ℕ
  i = z.event.image.0

  due_here : replies.Round arrival.round ≡ arrival_reply class (at_board z.before) i team arrival.kind
  due_here = sym arrival.heard ∙ (board_here s n g run.lawful z arrival.place).1 ∙ arrival.due n (at_board z.before) i

  -- its number is the one behind its image's last arrival
  pub number_at : arrival.round ≡ suc (arrivals_said class team i (said_by i z.before))
  number_at =
      sym (joins_next class team i z.event.event.line arrival.kind (at_board z.before) z.event arrival.what arrival.round due_here)
      ∙ ap suc (ap (arrivals team i) (happened_board class z.before) ∙ own_arrivals class i team z.before)

  -- and its kind is its round's
  pub kind_at : (o : Opening) × (opening_of team arrival.round (happened class g) ≡ Some o) × (arrival.kind ≡ o.kind)
  kind_at =
      let r = in_round class team i z.event.event.line arrival.kind (at_board z.before) z.event arrival.what arrival.round due_here (at_board z.rest) in
      let whole : at_board z.before ++ z.event ∷ at_board z.rest ≡ at_board g = sym (ap at_board z.split ∙ board_split z.before z.rest z.event arrival.place) in
      (r.opening, ap (opening_of team arrival.round) (sym (happened_board class g) ∙ ap (happened class) (sym whole)) ∙ r.opens, alike_is arrival.kind r.opening.kind r.alike)

  -- the image is a member
  pub member_at : names i (team_members n g team) ≡ true
  member_at =
      let here = arrival.fits n (at_board z.before) i (board_here s n g run.lawful z arrival.place).0 in
      subst (λ ms. names i ms ≡ true) (sym (ap (λ h. team_members n h team) z.split ∙ members_front n z.before (z.event ∷ z.rest) i team here)) here
