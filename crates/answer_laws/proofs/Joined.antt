-- The arrival that stands directly before a departure, in what the image said and heard and at the board.
use Rattle.std.proofs.Common.{◌≡◌, ℕ, List, [], ◌∷◌, ◌++◌, ◌⊎◌, inl, inr, refl, ap, sym, ◌∙◌, subst}
use Rattle.std.specs.Prelude.{Option, Some, None}
use Rattle.caf_base.specs.declared.place.TeamNo.{TeamNo}
use Rattle.caf_base.specs.declared.place.Place.TheVariants as places
use Rattle.caf_base.specs.declared.value.Kind.{Kind}
use Rattle.caf_base.specs.declared.value.Value.{Value}
use Rattle.caf_events.specs.declared.ask.Ask.{Ask}
use Rattle.caf_events.specs.declared.ask.Ask.TheVariants as asks
use Rattle.caf_events.specs.declared.reply.Reply.{Reply}
use Rattle.caf_events.specs.declared.reply.Reply.TheVariants as replies
use Rattle.caf_events.specs.declared.round.Arriving.{Arriving}
use Rattle.caf_events.specs.declared.round.GatherOp.{GatherOp}
use Rattle.caf_events.specs.declared.event.Entry.{Entry}
use Rattle.caf_events.specs.Asks.{place_of}
use Rattle.trace_theory.specs.Machines.{Said}
use Rattle.object_rules.specs.BoardRules.{board_ready, board_reply}
use Rattle.object_rules.specs.Cells.{Declared}
use Rattle.object_rules.specs.Answering.{last_event}
use Rattle.core_runs.specs.Lists.{image_of, said}
use Rattle.core_runs.specs.CoreRuns.{at_board, said_by}
use Rattle.core_runs.specs.Lawful.{IsLawfulTrace}
use Rattle.core_runs.specs.Sequences.{departure_after, IsDeparture, CutsShort, FollowsOn, JoinsBehind, Joins}
use Rattle.answer_laws.proofs.Splits.{heard_at}
use Rattle.answer_laws.proofs.Served.{Turn, board_turn, board_split}

-- the departure that is owed after an event
abbrev owed_after : Option (Said Ask Reply) → Option Ask
owed_after None = None
owed_after (Some e) = departure_after e.ask e.reply

follows : (o : Option (Said Ask Reply)) (before after : List (Said Ask Reply)) (e : Said Ask Reply) → JoinsBehind (owed_after o) (before ++ e ∷ after) → FollowsOn (owed_after (last_event o before)) e.ask
follows o [] after e h = h.0
follows o (x ∷ xs) after e h = follows (Some x) xs after e h.1

not_cut : (a : Ask) → CutsShort a → IsDeparture a → ⊥
not_cut asks.Fail c d = d
not_cut (asks.LimitStatements number) c d = d
not_cut (asks.LimitWords number) c d = d
not_cut (asks.LimitStamp number) c d = d
not_cut a c d = c

owed : (o : Option (Said Ask Reply)) (a : Ask) → IsDeparture a → FollowsOn (owed_after o) a → (e : Said Ask Reply) × (o ≡ Some e) × (departure_after e.ask e.reply ≡ Some a)
owed None a d f = absurd (f d)
owed (Some e) a d f = (e, refl, by (departure_after e.ask e.reply) f)
  where
    by : (o : Option Ask) → FollowsOn o a → o ≡ Some a
    by None g = absurd (g d)
    by (Some b) (inl q) = ap Some (sym q)
    by (Some b) (inr c) = absurd (not_cut a c d)

last_split : (o : Option (Said Ask Reply)) (es : List (Said Ask Reply)) (e : Said Ask Reply) → last_event o es ≡ Some e → ((es ≡ []) × (o ≡ Some e)) ⊎ ((front : List (Said Ask Reply)) × (es ≡ front ++ e ∷ []))
last_split o [] e h = inl (refl, h)
last_split o (x ∷ xs) e h = elim (last_split (Some x) xs e h) [
  | inl q ↦ (let a = q.0 in let b = q.1 in let w : x ≡ e = cc in inr ([], ap (λ z. x ∷ z) a ∙ ap (λ z. z ∷ []) w))
  | inr r ↦ inr (x ∷ r.0, ap (λ z. x ∷ z) r.1)
]

-- the arrival from which an image departs is what it said last, and stands at the board
pub record Joined (n : ℕ) (h : List Entry) (i : ℕ) (es : List (Said Ask Reply)) (a : Ask) : Type 0 where
  pub arrival : Said Ask Reply
  pub last : last_event None es ≡ Some arrival
  pub departs : departure_after arrival.ask arrival.reply ≡ Some a
  pub front : List Entry
  pub entry : Entry
  pub back : List Entry
  pub split : h ≡ front ++ entry ∷ back
  pub is : said entry.event ≡ arrival
  pub image : image_of entry ≡ i
  pub turn : Turn (board_ready n) (board_reply n) front entry

-- an arrival is asked at the board
departs_board : (a b : Ask) (r : Reply) → departure_after a r ≡ Some b → place_of a ≡ places.Board
departs_board (asks.Arrive team arriving) b r h = refl
departs_board (asks.Gather team op root kind values) b r h = refl
departs_board (asks.Pair named) b r h = refl
departs_board a b r h = absurd (cc)

module _ (s : List Declared) (n : ℕ) (t : List Entry) (l : IsLawfulTrace s n t) (i : ℕ) where
  pub joined_before : (a : Ask) → IsDeparture a → (after : List (Said Ask Reply)) (e : Said Ask Reply) → e.ask ≡ a → Joins (said_by i t ++ e ∷ after) → Joined n (at_board t) i (said_by i t) a
  joined_before a d after e is joins =
      let o = owed (last_event None (said_by i t)) a d (subst (FollowsOn (owed_after (last_event None (said_by i t)))) is (follows None (said_by i t) after e joins)) in
      at o.0 o.1 o.2 (elim (last_split None (said_by i t) o.0 o.1) [ inl q ↦ absurd (let w = q.1 in let v : None ≡ Some o.0 = w in cc) | inr r ↦ r ])
    where
      at : (c : Said Ask Reply) → last_event None (said_by i t) ≡ Some c → departure_after c.ask c.reply ≡ Some a → (front : List (Said Ask Reply)) × (said_by i t ≡ front ++ c ∷ []) → Joined n (at_board t) i (said_by i t) a
      at c last departs f =
          let r = heard_at i t f.0 [] c f.1 in
          let p : place_of r.entry.event.ask ≡ places.Board = ap (λ (z : Said Ask Reply). place_of z.ask) r.is ∙ departs_board c.ask a c.reply departs in
          record {
            arrival = c;
            last = last;
            departs = departs;
            front = at_board r.earlier;
            entry = r.entry;
            back = at_board r.later;
            split = ap at_board r.split ∙ board_split r.earlier r.later r.entry p;
            is = r.is;
            image = r.image;
            turn = board_turn s n r.earlier r.later r.entry (subst (IsLawfulTrace s n) r.split l) p;
          }

-- the arrival from which a departure from a round comes
pub record ArrivedAt (a : Ask) (r : Reply) (team : TeamNo) (round : ℕ) : Type 0 where
  pub arriving : Arriving
  pub asked : a ≡ asks.Arrive team arriving
  pub told : r ≡ replies.Round round

pub arrived_at : (a : Ask) (r : Reply) (team : TeamNo) (round : ℕ) → departure_after a r ≡ Some (asks.Leave team round) → ArrivedAt a r team round
arrived_at (asks.Arrive t arriving) (replies.Round k) team round h = let e : t ≡ team = cc in let q : k ≡ round = cc in record { arriving = arriving; asked = ap (λ z. asks.Arrive z arriving) e; told = ap (λ z. replies.Round z) q }
arrived_at (asks.Gather t op root kind values) (replies.Round k) team round h = absurd (cc)
arrived_at (asks.Pair named) r team round h = absurd (cc)
arrived_at a r team round h = absurd (cc)

pub record GatheredAt (a : Ask) (r : Reply) (team : TeamNo) (round : ℕ) : Type 0 where
  pub op : GatherOp
  pub root : ℕ
  pub kind : Kind
  pub values : List Value
  pub asked : a ≡ asks.Gather team op root kind values
  pub told : r ≡ replies.Round round

pub gathered_at : (a : Ask) (r : Reply) (team : TeamNo) (round : ℕ) → departure_after a r ≡ Some (asks.Take team round) → GatheredAt a r team round
gathered_at (asks.Gather t op root kind values) (replies.Round k) team round h =
    let e : t ≡ team = cc in
    let q : k ≡ round = cc in
    record { op = op; root = root; kind = kind; values = values; asked = ap (λ z. asks.Gather z op root kind values) e; told = ap (λ z. replies.Round z) q }
gathered_at (asks.Arrive t arriving) (replies.Round k) team round h = absurd (cc)
gathered_at (asks.Pair named) r team round h = absurd (cc)
gathered_at a r team round h = absurd (cc)
