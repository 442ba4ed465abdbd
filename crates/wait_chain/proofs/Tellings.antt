-- The members of a team in which an image has joined a round are those that the departures tell.
use Rattle.std.proofs.Common.{◌≡◌, ℕ, zero, suc, ◌+◌, ◌≤◌, length, Bool, true, false, nat_eq, nat_le, ◌&&◌, ◌||◌, not, cond, List, [], ◌∷◌, ◌++◌, ◌⊎◌, inl, inr, refl, ap, sym, ◌∙◌, subst, arith, append_assoc}
use Rattle.std.specs.Prelude.{Option, Some, None, is_some, slice_get}
use Rattle.std.specs.List.{list_any, list_all}
use Rattle.std.proofs.lemmas.List.Folds.{list_any-append}
use Rattle.std.proofs.lemmas.Bool.{cases_Bool, both_ways, and_parts, or_left, or_right, eq-eqb, eqb-true, ne_eqb, leb-true}
use Rattle.caf_base.specs.declared.place.TeamNo.{TeamNo}
use Rattle.caf_events.specs.declared.ask.Ask.{Ask}
use Rattle.caf_events.specs.declared.ask.Ask.TheVariants as asks
use Rattle.caf_events.specs.declared.reply.Reply.{Reply}
use Rattle.caf_events.specs.declared.reply.Reply.TheVariants as replies
use Rattle.caf_events.specs.declared.reply.FormedTeam.{FormedTeam}
use Rattle.caf_events.specs.declared.round.Arriving.{Arriving}
use Rattle.caf_events.specs.declared.event.Entry.{Entry}
use Rattle.caf_events.specs.Asks.{place_of, object_of}
use Rattle.caf_events.specs.Histories.{Served}
use Rattle.trace_theory.specs.Entries.{Each}
use Rattle.trace_theory.specs.Machines.{Said}
use Rattle.object_rules.specs.Cells.{Declared}
use Rattle.object_rules.specs.Folds.{is_of_kind}
use Rattle.object_rules.specs.Happenings.{Class, control, collective, images, kind_of, happens, happened}
use Rattle.object_rules.specs.TeamRounds.{Opening, arrivals, opening_of, has_closed}
use Rattle.object_rules.specs.ImagePairs.{names}
use Rattle.object_rules.specs.BoardTeams.{Team, arrives_there, nth_arrival, teams_after, members_at, closing, told_team, made_teams}
use Rattle.object_rules.specs.BoardRules.{is_image, is_gathered, is_root, has_joined, fits_board, can_come, board_ready, board_reply, joined_or_clash, leave_reply}
use Rattle.object_rules.specs.Kinds.{same_kind}
use Rattle.core_runs.specs.Lists.{key_of, said}
use Rattle.core_runs.specs.CoreRuns.{at_board, said_by}
use Rattle.core_runs.specs.Sequences.{departure_after, CutsShort, FollowsOn, Joins}
use Rattle.core_runs.specs.Failures.{is_failure_step, is_limit, FailsFrom}
use Rattle.core_runs.specs.Lawful.{IsLawfulTrace}
use Rattle.team_laws.specs.Named.{IsNamed}
use Rattle.team_laws.proofs.Lists.{grown, get_front}
use Rattle.team_laws.proofs.Teams.{teams_stay, members_of_team}
use Rattle.team_laws.proofs.Rounds.{closing_stays, closed_now}
use Rattle.team_laws.proofs.Arrivals.{joined_image, joins, cons_arrivals, nth_at}
use Rattle.team_laws.proofs.NamedTeams.{all_named}
use Rattle.wait_reason.specs.WaitsFor.{IsNotOf}
use Rattle.wait_reason.proofs.Counts.{split_of, served_behind}
use Rattle.wait_reason.proofs.Pairing.{said_at, said_none, Quiet, fails_quiet, joins_at, first_own, each_from, cut_kind}
use Rattle.wait_reason.proofs.Teams.{members_stay}
use Rattle.wait_chain.specs.Told.{told, told_in, told_by, formed, members, names_in, names_by, tells}
use Rattle.wait_chain.proofs.Births.{Birth, birth}
use Rattle.wait_chain.proofs.Ended.{happened_all}
use Rattle.wait_chain.proofs.Images.{first_members, team_there}
use Rattle.wait_chain.proofs.Inside.{Stands, stands}

-- two fronts of one list: the second is behind the first, or the first has the entry behind the second
fronts : (a b c d : List Entry) (x : Entry) → a ++ b ≡ c ++ x ∷ d → ((z : List Entry) × (c ≡ a ++ z)) ⊎ ((z : List Entry) × (a ≡ (c ++ x ∷ []) ++ z))
fronts [] b c d x h = inl (c, refl)
fronts (y ∷ a) b [] d x h = let heads : y ≡ x = cc in inr (a, ap (λ w. w ∷ a) heads)
fronts (y ∷ a) b (u ∷ c) d x h =
    let heads : y ≡ u = cc in
    let tails : a ++ b ≡ c ++ x ∷ d = cc in
    elim (fronts a b c d x tails) [
      | inl z ↦ inl (z.0, ap (λ w. u ∷ w) z.1 ∙ ap (λ w. w ∷ (a ++ z.0)) (sym heads))
      | inr z ↦ inr (z.0, ap (λ w. y ∷ w) z.1 ∙ ap (λ w. w ∷ ((c ++ x ∷ []) ++ z.0)) heads)
    ]

-- an entry at the board, in the whole list
record OfBoard (b u : List Entry) (x : Entry) : Type 0 where
  before : List Entry
  after : List Entry
  split : b ≡ before ++ x ∷ after
  front : at_board before ≡ u

at_front : (y : Entry) (b u v : List Entry) (x : Entry) → nat_eq (key_of y) 1 ≡ true → y ∷ at_board b ≡ u ++ x ∷ v → ((w : List Entry) → at_board b ≡ w ++ x ∷ v → OfBoard b w x) → OfBoard (y ∷ b) u x
at_front y b [] v x key h rest = let heads : y ≡ x = cc in record { before = []; after = b; split = ap (λ z. z ∷ b) heads; front = refl }
at_front y b (u ∷ us) v x key h rest =
    let heads : y ≡ u = cc in
    let tails : at_board b ≡ us ++ x ∷ v = cc in
    let r = rest us tails in
    record { before = y ∷ r.before; after = r.after; split = ap (λ z. y ∷ z) r.split; front = rw key (ap (λ z. y ∷ z) r.front ∙ ap (λ z. z ∷ us) heads) }

nothing_there : (u v : List Entry) (x : Entry) → [] ≡ u ++ x ∷ v → ⊥
nothing_there [] v x h = cc
nothing_there (y ∷ u) v x h = cc

of_board : (b u v : List Entry) (x : Entry) → at_board b ≡ u ++ x ∷ v → OfBoard b u x
of_board [] u v x h = absurd (nothing_there u v x h)
of_board (y ∷ b) u v x h = elim (cases_Bool (nat_eq (key_of y) 1)) [
  | inl key ↦ at_front y b u v x key (rw key at h) (λ w k. of_board b w v x k)
  | inr other ↦ (let r = of_board b u v x (rw other at h) in record { before = y ∷ r.before; after = r.after; split = ap (λ z. y ∷ z) r.split; front = rw other r.front })
]

any_at : (test : Entry → Bool) (b r : List Entry) (e : Entry) → test e ≡ true → list_any test (b ++ e ∷ r) ≡ true
any_at test [] r e h = or_left (test e) (list_any test r) h
any_at test (x ∷ b) r e h = or_right (test x) (list_any test (b ++ e ∷ r)) (any_at test b r e h)

-- an ask that arrives at a round
abbrev is_arriving : Ask → Bool
is_arriving (asks.Arrive team arriving) = true
is_arriving (asks.Gather team op root kind values) = true
is_arriving a = false

arriving_loud : (a : Ask) → is_arriving a ≡ true → (is_failure_step a || is_limit a) ≡ false
arriving_loud (asks.Arrive team arriving) h = refl
arriving_loud (asks.Gather team op root kind values) h = refl
arriving_loud a h = absurd (cc)

arriving_there : (a : Ask) → is_arriving a ≡ true → object_of (place_of a) ≡ 1
arriving_there (asks.Arrive team arriving) h = refl
arriving_there (asks.Gather team op root kind values) h = refl
arriving_there a h = absurd (cc)

arriving_follows : (a : Ask) (team : TeamNo) (round : ℕ) → is_arriving a ≡ true → FollowsOn (Some (asks.Leave team round)) a → ⊥
arriving_follows (asks.Arrive t arriving) team round h (inl e) = cc
arriving_follows (asks.Arrive t arriving) team round h (inr c) = c
arriving_follows (asks.Gather t op root kind values) team round h (inl e) = cc
arriving_follows (asks.Gather t op root kind values) team round h (inr c) = c
arriving_follows a team round h f = absurd (cc)

-- one that joins a round of the team
arriving_of : (class : Class) (team image i line : ℕ) (a : Ask) (r : Reply) → arrives_there team image (happens class i line a r) ≡ true → is_arriving a ≡ true
arriving_of control team image i line (asks.Arrive t arriving) (replies.Round round) h = refl
arriving_of collective team image i line (asks.Gather t op root kind values) (replies.Round round) h = refl
arriving_of images team image i line (asks.Pair named) r h = absurd (cc)
arriving_of class team image i line a r h = absurd (cc)

gather_member : (n : ℕ) (b : List Entry) (i : ℕ) (t : TeamNo) (op : _) (root : ℕ) (kind : _) (values : _) → fits_board n b i (asks.Gather t op root kind values) ≡ true → names i (members_at (teams_after n b) t.0) ≡ true
gather_member n b i t op root kind values h =
    let ms = members_at (teams_after n b) t.0 in
    let p = and_parts (names i ms && is_gathered op kind && is_root op (length ms) root) (list_all (is_of_kind kind) values) h in
    let q = and_parts (names i ms && is_gathered op kind) (is_root op (length ms) root) p.0 in
    (and_parts (names i ms) (is_gathered op kind) q.0).0

fits_of : (n : ℕ) (b : List Entry) (i : ℕ) (a : Ask) → board_ready n b i a ≡ true → fits_board n b i a ≡ true
fits_of n b i a h = (and_parts (is_image n i) (fits_board n b i a) (and_parts (is_image n i && fits_board n b i a) (can_come n b i a) h).0).1

arriving_member : (class : Class) (n : ℕ) (b : List Entry) (team image i line : ℕ) (a : Ask) (r : Reply) → arrives_there team image (happens class i line a r) ≡ true → fits_board n b i a ≡ true → names i (members_at (teams_after n b) team) ≡ true
arriving_member control n b team image i line (asks.Arrive t arriving) (replies.Round round) h fits = subst (λ z. names i (members_at (teams_after n b) z) ≡ true) (eqb-true t.0 team (and_parts (nat_eq t.0 team) (nat_eq i image) h).0) fits
arriving_member collective n b team image i line (asks.Gather t op root kind values) (replies.Round round) h fits =
    subst (λ z. names i (members_at (teams_after n b) z) ≡ true) (eqb-true t.0 team (and_parts (nat_eq t.0 team) (nat_eq i image) h).0) (gather_member n b i t op root kind values fits)
arriving_member images n b team image i line (asks.Pair named) r h fits = absurd (cc)
arriving_member class n b team image i line a r h fits = absurd (cc)

-- an arrival by an image control statement that has joined a round
record IsJoining (team : ℕ) (a : Ask) (r : Reply) : Type 0 where
  there : TeamNo
  arriving : Arriving
  round : ℕ
  ask : a ≡ asks.Arrive there arriving
  reply : r ≡ replies.Round round
  same : there.0 ≡ team

joining_of : (team image i line : ℕ) (a : Ask) (r : Reply) → arrives_there team image (happens control i line a r) ≡ true → IsJoining team a r
joining_of team image i line (asks.Arrive t arriving) (replies.Round round) h = record { there = t; arriving = arriving; round = round; ask = refl; reply = refl; same = eqb-true t.0 team (and_parts (nat_eq t.0 team) (nat_eq i image) h).0 }
joining_of team image i line a r h = absurd (cc)

round_told : (kind : _) (m q : ℕ) (o : Option Opening) → joined_or_clash kind m o ≡ replies.Round q → m ≡ q
round_told kind m q None h = cc
round_told kind m q (Some o) h = elim (cases_Bool (same_kind kind o.kind)) [
  | inl t ↦ (let w : replies.Round m ≡ replies.Round q = rw t at h in cc)
  | inr f ↦ absurd (let w : replies.Clash (record { 0 = o.image }) o.line ≡ replies.Round q = rw f at h in cc)
]

some_of : {A : Type 0} (o : Option A) → is_some o ≡ true → (x : A) × (o ≡ Some x)
some_of None h = absurd (cc)
some_of (Some x) h = (x, refl)

-- a team that its round made is told by each departure from the round
made_tells : (team round t : ℕ) (xs : List Team) (j : ℕ) (x : Team) → slice_get xs j ≡ Some x → x.parent ≡ team → x.round ≡ round → list_any (λ (y : FormedTeam). nat_eq y.team.0 (t + j)) (made_teams team round t xs) ≡ true
made_tells team round t [] j x is p q = absurd (cc)
made_tells team round t (y ∷ ys) zero x is p q =
    let same : y ≡ x = cc in
    let parent : nat_eq y.parent team ≡ true = eq-eqb y.parent team (ap (λ (z : Team). z.parent) same ∙ p) in
    let turn : nat_eq y.round round ≡ true = eq-eqb y.round round (ap (λ (z : Team). z.round) same ∙ q) in
    rw (parent, turn) (or_left (nat_eq t (t + 0)) (list_any (λ (z : FormedTeam). nat_eq z.team.0 (t + 0)) (made_teams team round (suc t) ys)) (eq-eqb t (t + 0) (omega arith)))
made_tells team round t (y ∷ ys) (suc j) x is p q =
    let test = λ (z : FormedTeam). nat_eq z.team.0 (t + suc j) in
    let first = cond (nat_eq y.parent team && nat_eq y.round round) (told_team t y ∷ []) [] in
    let rest : list_any test (made_teams team round (suc t) ys) ≡ true = subst (λ k. list_any (λ (z : FormedTeam). nat_eq z.team.0 k) (made_teams team round (suc t) ys) ≡ true) (omega arith) (made_tells team round (suc t) ys j x is p q) in
    list_any-append test first (made_teams team round (suc t) ys) ∙ or_right (list_any test first) (list_any test (made_teams team round (suc t) ys)) rest

module _ (coarrays : List Declared) (n : ℕ) (t : List Entry) (lawful : IsLawfulTrace coarrays n t) where
  -- an entry at the board was ready there, and has the reply that is due
  record IsServed (b : List Entry) (x : Entry) : Type 0 where
    ready : board_ready n (at_board b) x.image.0 x.event.ask ≡ true
    reply : x.event.reply ≡ board_reply n (at_board b) x.image.0 x.event.ask

  board_at : (b r : List Entry) (x : Entry) → t ≡ b ++ x ∷ r → key_of x ≡ 1 → at_board t ≡ at_board b ++ x ∷ at_board r
  board_at b r x e key = ap at_board e ∙ split_of 1 b (x ∷ r) ∙ ap (λ z. at_board b ++ cond z (x ∷ at_board r) (at_board r)) (eq-eqb (key_of x) 1 key)

  served_at : (b r : List Entry) (x : Entry) → t ≡ b ++ x ∷ r → key_of x ≡ 1 → IsServed b x
  served_at b r x e key =
      let s = served_behind (board_ready n) (board_reply n) [] (at_board b) (x ∷ at_board r) (subst (Served (board_ready n) (board_reply n) []) (board_at b r x e key) lawful.board) in
      record { ready = s.0; reply = s.1 }

  -- what comes next of an image
  next_of : (i : ℕ) (b m r : List Entry) (q x : Entry) → t ≡ b ++ q ∷ (m ++ x ∷ r) → q.image.0 ≡ i → Each (IsNotOf i) m → x.image.0 ≡ i → FollowsOn (departure_after q.event.ask q.event.reply) x.event.ask
  next_of i b m r q x s own none own_x =
      let list = ap (said_by i) s ∙ said_at i b (m ++ x ∷ r) q own ∙ ap (λ z. said_by i b ++ said q.event ∷ z) (said_at i m r x own_x ∙ ap (λ z. z ++ said x.event ∷ said_by i r) (said_none i m none)) in
      (joins_at None (said_by i b) (said x.event ∷ said_by i r) (said q.event) (subst Joins list (lawful.joins i))).0

  each_behind : (b a : List (Said Ask Reply)) (e : Said Ask Reply) → Each Quiet (b ++ e ∷ a) → Quiet e
  each_behind [] a e h = h.0
  each_behind (x ∷ b) a e h = each_behind b a e h.1

  not_nothing : (b a : List (Said Ask Reply)) (e : Said Ask Reply) → b ++ e ∷ a ≡ [] → ⊥
  not_nothing [] a e h = cc
  not_nothing (x ∷ b) a e h = cc

  -- behind what cuts an image short it makes no other steps than those of its failure
  after_cut : (i : ℕ) (g k r : List Entry) (x p : Entry) → t ≡ g ++ x ∷ (k ++ p ∷ r) → x.image.0 ≡ i → p.image.0 ≡ i → (is_failure_step p.event.ask || is_limit p.event.ask) ≡ false → CutsShort x.event.ask → ⊥
  after_cut i g k r x p s own own_p loud cut =
      let list = ap (said_by i) s ∙ said_at i g (k ++ p ∷ r) x own in
      let behind : said_by i (k ++ p ∷ r) ≡ said_by i k ++ said p.event ∷ said_by i r = said_at i k r p own_p in
      elim (cut_kind x.event.ask cut) [
        | inl f ↦ (
            let quiet = fails_quiet i (said_by i g) (said_by i (k ++ p ∷ r)) (said x.event) [] f (subst (λ es. FailsFrom i es []) list (lawful.fails i)) in
            both_ways (is_failure_step p.event.ask || is_limit p.event.ask) loud (each_behind (said_by i k) (said_by i r) (said p.event) (subst (Each Quiet) behind quiet)))
        | inr l ↦ not_nothing (said_by i k) (said_by i r) (said p.event) (sym behind ∙ lawful.limits i (said_by i g) (said_by i (k ++ p ∷ r)) (said x.event) list l)
      ]

  -- Between an arrival of an image that joined a round and a later arrival of it stands its departure from the round.
  record Departs (i : ℕ) (q : Entry) (b m : List Entry) : Type 0 where
    between : List Entry
    entry : Entry
    rest : List Entry
    split : m ≡ between ++ entry ∷ rest
    own : entry.image.0 ≡ i
    ask : (team : TeamNo) (round : ℕ) → departure_after q.event.ask q.event.reply ≡ Some (asks.Leave team round) → entry.event.ask ≡ asks.Leave team round

  follows_leave : (a : Ask) (o : Option Ask) (d : Ask) → o ≡ Some d → FollowsOn o a → (CutsShort a → ⊥) → a ≡ d
  follows_leave a o d e f loud = elim (subst (λ z. FollowsOn z a) e f) [ inl is ↦ is | inr c ↦ absurd (loud c) ]

  departs : (i : ℕ) (b m r : List Entry) (q x : Entry) (team : TeamNo) (round : ℕ) → t ≡ b ++ q ∷ (m ++ x ∷ r) → q.image.0 ≡ i → x.image.0 ≡ i → departure_after q.event.ask q.event.reply ≡ Some (asks.Leave team round) → is_arriving x.event.ask ≡ true → Departs i q b m
  departs i b m r q x team round s own own_x owes arrives = elim (first_own i m) [
    | inl none ↦ absurd (arriving_follows x.event.ask team round arrives (subst (λ o. FollowsOn o x.event.ask) owes (next_of i b m r q x s own none own_x)))
    | inr f ↦ (
        let at : t ≡ b ++ q ∷ (f.before ++ f.event ∷ (f.rest ++ x ∷ r)) = s ∙ ap (λ z. b ++ q ∷ (z ++ x ∷ r)) f.split ∙ ap (λ z. b ++ q ∷ z) (append_assoc f.before (f.event ∷ f.rest) (x ∷ r)) in
        let next = next_of i b f.before (f.rest ++ x ∷ r) q f.event at own f.none f.own in
        let cut = after_cut i (b ++ q ∷ f.before) f.rest r f.event x (at ∙ sym (append_assoc b (q ∷ f.before) (f.event ∷ (f.rest ++ x ∷ r)))) f.own own_x (arriving_loud x.event.ask arrives) in
        record { between = f.before; entry = f.event; rest = f.rest; split = f.split; own = f.own; ask = λ team round e. follows_leave f.event.event.ask (departure_after q.event.ask q.event.reply) (asks.Leave team round) e next cut })
  ]

  left_tells : (number team round : ℕ) (h : List Entry) (o : Option (List Entry)) → is_some o ≡ true → names_in number (leave_reply n h team round o) ≡ list_any (λ (y : FormedTeam). nat_eq y.team.0 number) (made_teams team round 1 (teams_after n h))
  left_tells number team round h None some = absurd (cc)
  left_tells number team round h (Some front) some = refl

  -- a departure from the round that made a team
  module _ (k : ℕ) (b : List Entry) (x : Team) (made : Birth n (at_board b) (suc k) x) (c rest after : List Entry) (d : Entry) (team : TeamNo) (round : ℕ) (front : b ≡ c ++ d ∷ rest) (whole : t ≡ c ++ d ∷ after) (is : d.event.ask ≡ asks.Leave team round)
      (parent : team.0 ≡ x.parent) (turn : round ≡ x.round) where
    abbrev ms : List ℕ
    ms = members_at (teams_after n (at_board c)) team.0

    key : key_of d ≡ 1
    key = ap (λ a. object_of (place_of a)) is

    served : IsServed c d
    served = served_at c after d whole key

    ready : board_ready n (at_board c) d.image.0 (asks.Leave team round) ≡ true
    ready = subst (λ a. board_ready n (at_board c) d.image.0 a ≡ true) is served.ready

    member : names d.image.0 ms ≡ true
    member =
        let fits = fits_of n (at_board c) d.image.0 (asks.Leave team round) ready in
        let p = and_parts (names d.image.0 ms && nat_le 1 round) (nat_le round (arrivals team.0 d.image.0 (happened control (at_board c)))) fits in
        (and_parts (names d.image.0 ms) (nat_le 1 round) p.0).0

    closed : is_some (closing control team.0 round ms (at_board c)) ≡ true
    closed = (and_parts (is_image n d.image.0 && fits_board n (at_board c) d.image.0 (asks.Leave team round)) (can_come n (at_board c) d.image.0 (asks.Leave team round)) ready).1

    -- the team can't have been made later
    closed_early : (z : List Entry) → made.before ≡ at_board c ++ z → ⊥
    closed_early z e =
        let f = some_of (closing control team.0 round ms (at_board c)) closed in
        let stays = grown (λ g. closing control team.0 round ms g ≡ Some f.0) (λ g y shut. closing_stays control team.0 round ms g f.0 y shut) (at_board c) z f.1 in
        let shut : has_closed ms team.0 round (happened control (at_board c ++ z)) ≡ true = closed_now control team.0 round ms (at_board c ++ z) f.0 stays in
        let ts = teams_after n made.before in
        let number = made.born.number in
        let place : suc made.born.place ≡ team.0 = omega arith in
        let same : made.born.parent.members ≡ ms =
        sym (members_of_team ts made.born.place made.born.parent made.born.there) ∙ ap (members_at ts) place ∙ ap (λ w. members_at (teams_after n w) team.0) e ∙ members_stay n (at_board c) z team.0 d.image.0 member in
        let was : has_closed made.born.parent.members x.parent x.round (happened control made.before) ≡ true =
        ap (λ w. has_closed w x.parent x.round (happened control made.before)) same ∙ ap (λ w. has_closed ms w x.round (happened control made.before)) (sym parent) ∙ ap (λ w. has_closed ms team.0 w (happened control made.before)) (sym turn)
        ∙ ap (λ w. has_closed ms team.0 round (happened control w)) e ∙ shut in
        let open_ = (and_parts (not (has_closed made.born.parent.members x.parent x.round (happened control made.before))) _ made.born.closes).0 in
        let off : false ≡ true = sym (ap not was) ∙ open_ in
        cc

    there : slice_get (teams_after n (at_board c)) (suc k) ≡ Some x
    there =
        let board : at_board b ≡ at_board c ++ d ∷ at_board rest = ap at_board front ∙ split_of 1 c (d ∷ rest) ∙ ap (λ z. at_board c ++ cond z (d ∷ at_board rest) (at_board rest)) (eq-eqb (key_of d) 1 key) in
        elim (fronts (at_board c) (d ∷ at_board rest) made.before made.after made.entry (sym board ∙ made.split)) [
          | inl z ↦ absurd (closed_early z.0 z.1)
          | inr z ↦ (
              let g = teams_stay n (made.before ++ made.entry ∷ []) z.0 in
              ap (λ w. slice_get (teams_after n w) (suc k)) z.1 ∙ ap (λ w. slice_get w (suc k)) g.1 ∙ get_front (teams_after n (made.before ++ made.entry ∷ [])) g.0 (suc k) x made.there)
        ]

    told_here : list_any (tells (suc (suc k))) t ≡ true
    told_here =
        let ts = teams_after n (at_board c) in
        let reply : d.event.reply ≡ leave_reply n (at_board c) team.0 round (closing control team.0 round ms (at_board c)) = served.reply ∙ ap (board_reply n (at_board c) d.image.0) is in
        let number : 1 + suc k ≡ suc (suc k) = omega arith in
        let told : list_any (λ (y : FormedTeam). nat_eq y.team.0 (suc (suc k))) (made_teams team.0 round 1 ts) ≡ true =
        subst (λ z. list_any (λ (y : FormedTeam). nat_eq y.team.0 z) (made_teams team.0 round 1 ts) ≡ true) number (made_tells team.0 round 1 ts (suc k) x there (sym parent) (sym turn)) in
        ap (list_any (tells (suc (suc k)))) whole
        ∙ any_at (tells (suc (suc k))) c after d
        (ap (λ a. names_by (suc (suc k)) a d.event.reply) is ∙ ap (names_in (suc (suc k))) reply ∙ left_tells (suc (suc k)) team.0 round (at_board c) (closing control team.0 round ms (at_board c)) closed ∙ told)

  -- a member of a team that FORM TEAM made departed from its round before it arrived at a round of the team
  told_birth : (i k : ℕ) (b r : List Entry) (f : Entry) (x : Team) → t ≡ b ++ f ∷ r → f.image.0 ≡ i → is_arriving f.event.ask ≡ true → names i x.members ≡ true → Birth n (at_board b) (suc k) x → list_any (tells (suc (suc k))) t ≡ true
  told_birth i k b r f x split own arrives inside made =
      let a = some_of (nth_arrival control x.parent i x.round (made.before ++ made.entry ∷ [])) (made.born.arrived i inside) in
      let e = a.0 in
      let nth = nth_at control x.parent i x.round (made.before ++ made.entry ∷ []) e a.1 in
      let board : at_board b ≡ nth.before ++ e ∷ (nth.after ++ made.after) = made.split ∙ sym (append_assoc made.before (made.entry ∷ []) made.after) ∙ ap (λ z. z ++ made.after) nth.split ∙ append_assoc nth.before (e ∷ nth.after) made.after in
      let o = of_board b nth.before (nth.after ++ made.after) e board in
      let own_e : e.image.0 ≡ i = joined_image control x.parent i e.image.0 e.event.line e.event.ask e.event.reply nth.joins in
      let j = joining_of x.parent i e.image.0 e.event.line e.event.ask e.event.reply nth.joins in
      let at : t ≡ o.before ++ e ∷ (o.after ++ f ∷ r) = split ∙ ap (λ z. z ++ f ∷ r) o.split ∙ append_assoc o.before (e ∷ o.after) (f ∷ r) in
      let served = served_at o.before (o.after ++ f ∷ r) e at (ap (λ z. object_of (place_of z)) j.ask) in
      let m = suc (arrivals j.there.0 e.image.0 (happened control (at_board o.before))) in
      let round : m ≡ j.round = round_told (kind_of j.arriving) m j.round (opening_of j.there.0 m (happened control (at_board o.before))) (sym (sym j.reply ∙ served.reply ∙ ap (board_reply n (at_board o.before) e.image.0) j.ask)) in
      let turn : j.round ≡ x.round =
      sym round ∙ ap (λ z. suc (arrivals z e.image.0 (happened control (at_board o.before)))) j.same ∙ ap (λ z. suc (arrivals x.parent z (happened control (at_board o.before)))) own_e ∙ ap (λ z. suc (arrivals x.parent i (happened control z))) o.front ∙ nth.count in
      let owes : departure_after e.event.ask e.event.reply ≡ Some (asks.Leave j.there j.round) = ap (λ z. departure_after z e.event.reply) j.ask ∙ ap (departure_after (asks.Arrive j.there j.arriving)) j.reply in
      let d = departs i o.before o.after r e f j.there j.round at own_e own owes arrives in
      let c = o.before ++ e ∷ d.between in
      let front : b ≡ c ++ d.entry ∷ d.rest = o.split ∙ ap (λ z. o.before ++ e ∷ z) d.split ∙ sym (append_assoc o.before (e ∷ d.between) (d.entry ∷ d.rest)) in
      let whole : t ≡ c ++ d.entry ∷ (d.rest ++ f ∷ r) = split ∙ ap (λ z. z ++ f ∷ r) front ∙ append_assoc c (d.entry ∷ d.rest) (f ∷ r) in
      told_here k b x made c d.rest (d.rest ++ f ∷ r) d.entry j.there j.round front whole (d.ask j.there j.round owes) j.same turn

  told_of : (class : Class) (k i : ℕ) → Stands (joins class (suc (suc k)) i) t → list_any (tells (suc (suc k))) t ≡ true
  told_of class k i s =
      let f = s.entry in
      let b = s.before in
      let own = joined_image class (suc (suc k)) i f.image.0 f.event.line f.event.ask f.event.reply s.passes in
      let arrives = arriving_of class (suc (suc k)) i f.image.0 f.event.line f.event.ask f.event.reply s.passes in
      let served = served_at b s.after f s.split (arriving_there f.event.ask arrives) in
      let member = arriving_member class n (at_board b) (suc (suc k)) i f.image.0 f.event.line f.event.ask f.event.reply s.passes (fits_of n (at_board b) f.image.0 f.event.ask served.ready) in
      let x = team_there (teams_after n (at_board b)) i (suc k) (subst (λ z. names z (members_at (teams_after n (at_board b)) (suc (suc k))) ≡ true) own member) in
      told_birth i k b s.after f x.0 s.split own arrives x.2 (birth n (at_board b) k x.0 x.1)

  -- who has joined a round made an arrival
  joined_some : (class : Class) (team i : ℕ) (es : List Entry) → 1 ≤ arrivals team i (happened class es) → list_any (joins class team i) es ≡ true
  joined_some class team i [] h = absurd (omega arith)
  joined_some class team i (e ∷ es) h = elim (cases_Bool (joins class team i e)) [
    | inl y ↦ or_left (joins class team i e) (list_any (joins class team i) es) y
    | inr off ↦ (
        let c = cons_arrivals class team i e es in
        let c' : arrivals team i (happened class (e ∷ es)) ≡ 0 + arrivals team i (happened class es) = rw off at c in
        or_right (joins class team i e) (list_any (joins class team i) es) (joined_some class team i es (omega arith)))
  ]

-- all teams of a reply are named as they are
abbrev InReply : List Team → Reply → Type 0
InReply ts (replies.Left status teams) = Each (IsNamed ts) teams
InReply ts reply = Unit {0}

abbrev IsRight : List Team → Ask → Reply → Type 0
IsRight ts (asks.Leave team round) reply = InReply ts reply
IsRight ts ask reply = Unit {0}

named_stays : (ts new : List Team) (xs : List FormedTeam) → Each (IsNamed ts) xs → Each (IsNamed (ts ++ new)) xs
named_stays ts new [] h = tt
named_stays ts new (x ∷ xs) h =
    let y = h.0 in
    (record { place = y.place; own_number = y.own_number; team = y.team; there = get_front ts new y.place y.team y.there; team_number = y.team_number; members = y.members }, named_stays ts new xs h.1)

reply_stays : (ts new : List Team) (r : Reply) → InReply ts r → InReply (ts ++ new) r
reply_stays ts new (replies.Left status teams) h = named_stays ts new teams h
reply_stays ts new r h = tt

leave_right : (n : ℕ) (h : List Entry) (team round : ℕ) (o : Option (List Entry)) → InReply (teams_after n h) (leave_reply n h team round o)
leave_right n h team round None = tt
leave_right n h team round (Some f) = all_named (teams_after n h) team round

-- what a departure tells of a team
told_right : (ts : List Team) (number : ℕ) (xs : List FormedTeam) (js : List ℕ) → Each (IsNamed ts) xs → list_any (λ (x : FormedTeam). nat_eq x.team.0 number) xs ≡ true → told number xs js ≡ members_at ts number
told_right ts number [] js h some = absurd (cc)
told_right ts number (x ∷ xs) js h some = elim (cases_Bool (nat_eq x.team.0 number)) [
  | inl y ↦ rw y (h.0.members ∙ sym (members_of_team ts h.0.place h.0.team h.0.there) ∙ ap (members_at ts) (sym h.0.own_number ∙ eqb-true x.team.0 number y))
  | inr off ↦ rw off (told_right ts number xs js h.1 (rw off at some))
]

told_none : (number : ℕ) (xs : List FormedTeam) (js : List ℕ) → list_any (λ (x : FormedTeam). nat_eq x.team.0 number) xs ≡ false → told number xs js ≡ js
told_none number [] js h = refl
told_none number (x ∷ xs) js h = elim (cases_Bool (nat_eq x.team.0 number)) [
  | inl y ↦ absurd (let w = rw y at h in cc)
  | inr off ↦ rw off (told_none number xs js (rw off at h))
]

in_right : (ts : List Team) (number : ℕ) (r : Reply) (js : List ℕ) → InReply ts r → names_in number r ≡ true → told_in number r js ≡ members_at ts number
in_right ts number (replies.Left status teams) js h some = told_right ts number teams js h some
in_right ts number r js h some = absurd (cc)

in_none : (number : ℕ) (r : Reply) (js : List ℕ) → names_in number r ≡ false → told_in number r js ≡ js
in_none number (replies.Left status teams) js h = told_none number teams js h
in_none number r js h = refl

by_right : (ts : List Team) (number : ℕ) (a : Ask) (r : Reply) (js : List ℕ) → IsRight ts a r → names_by number a r ≡ true → told_by number a r js ≡ members_at ts number
by_right ts number (asks.Leave team round) r js h some = in_right ts number r js h some
by_right ts number a r js h some = absurd (cc)

by_none : (number : ℕ) (a : Ask) (r : Reply) (js : List ℕ) → names_by number a r ≡ false → told_by number a r js ≡ js
by_none number (asks.Leave team round) r js h = in_none number r js h
by_none number a r js h = refl

formed_right : (ts : List Team) (number : ℕ) (es : List Entry) → Each (λ (e : Entry). IsRight ts e.event.ask e.event.reply) es → list_any (tells number) es ≡ true → formed number es ≡ members_at ts number
formed_right ts number [] h some = absurd (cc)
formed_right ts number (e ∷ es) h some = elim (cases_Bool (tells number e)) [
  | inl y ↦ by_right ts number e.event.ask e.event.reply (formed number es) h.0 y
  | inr off ↦ by_none number e.event.ask e.event.reply (formed number es) off ∙ formed_right ts number es h.1 (rw off at some)
]

module _ (coarrays : List Declared) (n : ℕ) (t : List Entry) (lawful : IsLawfulTrace coarrays n t) where
  -- an entry of a lawful trace tells teams as they are at the board
  right_by : (b r : List Entry) (e : Entry) → t ≡ b ++ e ∷ r → (a : Ask) → e.event.ask ≡ a → IsRight (teams_after n (at_board t)) a e.event.reply
  right_by b r e s (asks.Leave team round) is =
      let key : key_of e ≡ 1 = ap (λ a. object_of (place_of a)) is in
      let h = at_board b in
      let reply : e.event.reply ≡ leave_reply n h team.0 round (closing control team.0 round (members_at (teams_after n h) team.0) h) = (served_at coarrays n t lawful b r e s key).reply ∙ ap (board_reply n h e.image.0) is in
      let now = subst (InReply (teams_after n h)) (sym reply) (leave_right n h team.0 round (closing control team.0 round (members_at (teams_after n h) team.0) h)) in
      let more = teams_stay n h (e ∷ at_board r) in
      subst (λ z. InReply z e.event.reply) (sym (ap (teams_after n) (board_at coarrays n t lawful b r e s key) ∙ more.1)) (reply_stays (teams_after n h) more.0 e.event.reply now)
  right_by b r e s a is = tt

  all_right : Each (λ (e : Entry). IsRight (teams_after n (at_board t)) e.event.ask e.event.reply) t
  all_right = each_from (λ (e : Entry). IsRight (teams_after n (at_board t)) e.event.ask e.event.reply) t (λ b e r s. right_by b r e s e.event.ask refl)

  by_number : (class : Class) (team i : ℕ) → names i (members_at (teams_after n (at_board t)) team) ≡ true → 1 ≤ arrivals team i (happened class t) → members n team t ≡ members_at (teams_after n (at_board t)) team
  by_number class zero i member joined = absurd (cc)
  by_number class (suc zero) i member joined = sym (first_members n (at_board t))
  by_number class (suc (suc k)) i member joined =
      let other : nat_eq (suc (suc k)) 1 ≡ false = ne_eqb (suc (suc k)) 1 (λ e. absurd (omega arith)) in
      rw other (formed_right (teams_after n (at_board t)) (suc (suc k)) t all_right (told_of coarrays n t lawful class k i (stands (joins class (suc (suc k)) i) t (joined_some coarrays n t lawful class (suc (suc k)) i t joined))))

  -- the members of a team in which an image has joined a round are those that the departures tell
  pub members_told : (class : Class) (team round i : ℕ) → has_joined class n (at_board t) i team round ≡ true → members n team t ≡ members_at (teams_after n (at_board t)) team
  members_told class team round i joined =
      let hs = happened class (at_board t) in
      let p = and_parts (names i (members_at (teams_after n (at_board t)) team) && nat_le 1 round) (nat_le round (arrivals team i hs)) joined in
      let q = and_parts (names i (members_at (teams_after n (at_board t)) team)) (nat_le 1 round) p.0 in
      let low = leb-true 1 round q.1 in
      let high = leb-true round (arrivals team i hs) p.1 in
      by_number class team i q.0 (subst (λ z. 1 ≤ arrivals team i z) (happened_all class t) (omega arith))
