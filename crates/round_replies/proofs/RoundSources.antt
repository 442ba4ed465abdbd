-- Who leaves a round has the same sources in every run.
use Rattle.std.proofs.Common.{◌≡◌, ◌⊎◌, ℕ, suc, Bool, true, IsTrue, nat_eq, nat_le, ◌||◌, not, List, [], ◌∷◌, ◌++◌, inl, inr, refl, ap, sym, ◌∙◌, subst, append_assoc, false, cond}
use Rattle.std.specs.Prelude.{is_some}
use Rattle.std.specs.List.{list_any, list_all}
use Rattle.std.proofs.lemmas.Bool.{cases_Bool, and_parts, and_from, or_cases, eqb-true, eq-eqb}
use Rattle.trace_theory.specs.Machines.{Said}
use Rattle.caf_base.specs.declared.place.TeamNo.{TeamNo}
use Rattle.caf_events.specs.declared.ask.Ask.{Ask}
use Rattle.caf_events.specs.declared.ask.Ask.TheVariants as asks
use Rattle.caf_events.specs.declared.reply.Reply.{Reply}
use Rattle.caf_events.specs.declared.reply.Reply.TheVariants as replies
use Rattle.caf_events.specs.declared.event.Entry.{Entry}
use Rattle.caf_events.specs.Asks.{place_of}
use Rattle.object_rules.specs.Cells.{Declared}
use Rattle.object_rules.specs.Happenings.{control, happens, happened, has_ended}
use Rattle.object_rules.specs.ImagePairs.{names}
use Rattle.object_rules.specs.TeamRounds.{has_arrived, has_closed}
use Rattle.object_rules.specs.BoardTeams.{arrives_there, closing}
use Rattle.object_rules.specs.BoardRules.{board_ready}
use Rattle.core_runs.specs.CoreRuns.{at_board, said_by}
use Rattle.order_theory.specs.Order.{Segment, Within}
use Rattle.order_theory.specs.Races.{Cell, Stands}
use Rattle.order_theory.specs.Acts.{arrives, posts, finishes, leaves, round, released, waiting}
use Rattle.order_axioms.specs.Statuses.{tells_stopped, tells_success}
use Rattle.order_axioms.specs.Views.{view, act_by, act_of, end_of_pair, first_cell}
use Rattle.order_axioms.specs.Closes.{joined_by}
use Rattle.order_axioms.proofs.Quiet.{lawful_quiet}
use Rattle.order_cuts.specs.Cuts.{Follows, IsSame, KeepsSources}
use Rattle.order_cuts.proofs.OwnParts.{same_act}
use Rattle.every_order.specs.Decided.{is_free}
use Rattle.every_order.specs.Likes.{likes}
use Rattle.every_order.proofs.Rounds.{round_sources}
use Rattle.free_replies.proofs.Alike.{each_stands, none_speaks, said_same, IsFree}
use Rattle.free_replies.proofs.Followers.{keeps_by}
use Rattle.free_replies.proofs.Replies.{board_here, said_append}
use Rattle.round_words.proofs.BoardWords.{own_arrivals, own_ends}
use Rattle.round_words.proofs.Ahead.{follows_ahead, stopped_whole}
use Rattle.round_words.proofs.Closing.{some_closed}
use Rattle.round_words.proofs.RoundRuns.{round_front, IsArrival, is_arrival, number_at, member_at}
use Rattle.round_words.proofs.RoundStops.{departs_closed, departs_joined, joined_member}
use Rattle.formed_teams.proofs.TeamsAhead.{members_ahead}
use Rattle.round_words.specs.RoundRuns.{IsRoundRun, team_members}

-- A step of rounds releases nothing, or is a departure from a round that was whole.
pub record ReleasesRound (a : Ask) (r : Reply) : Type 0 where
  pub team : TeamNo
  pub number : ℕ
  pub asked : a ≡ asks.Leave team number
  pub act : act_by a r ≡ leaves team.0 number true

left_releases : (n : ℕ) (g : List Entry) (i : ℕ) (team : TeamNo) (k : ℕ) (status : _) (teams : _)
    → (released (view n) g i (act_by (asks.Leave team k) (replies.Left status teams)) ≡ []) ⊎ ReleasesRound (asks.Leave team k) (replies.Left status teams)
left_releases n g i team k status teams = elim (cases_Bool (tells_stopped status)) [
  | inl t ↦ inl (ap (λ b. released (view n) g i (leaves team.0 k (not b))) t)
  | inr f ↦ inr (record { team = team; number = k; asked = refl; act = ap (λ b. leaves team.0 k (not b)) f })
]

-- a step that ends SYNC IMAGES or takes posts
abbrev pub is_taking : Ask → Bool
is_taking asks.Unpair = true
is_taking (asks.Wait owner span threshold) = true
is_taking a = false

-- Any other free step releases nothing, or is such a departure.
round_released : (n : ℕ) (g : List Entry) (i : ℕ) (a : Ask) (r : Reply) → is_free a r ≡ true → is_taking a ≡ false → (released (view n) g i (act_by a r) ≡ []) ⊎ ReleasesRound a r
round_released n g i (asks.Arrive team arriving) (replies.Round k) h t = inl refl
round_released n g i (asks.Arrive team arriving) r h t = absurd (cc)
round_released n g i (asks.Leave team k) (replies.Left status teams) h t = left_releases n g i team k status teams
round_released n g i (asks.Leave team k) r h t = inl refl
round_released n g i (asks.Gather team op root kind values) r h t = inl refl
round_released n g i (asks.Take team k) r h t = inl refl
round_released n g i (asks.Failed team) r h t = inl refl
round_released n g i (asks.Read owner span) r h t = inl refl
round_released n g i (asks.Write owner span vs) r h t = inl refl
round_released n g i (asks.Create owner c cells) r h t = inl refl
round_released n g i (asks.Delete owner c) r h t = inl refl
round_released n g i (asks.Print text) r h t = inl refl
round_released n g i asks.Memory r h t = inl refl
round_released n g i (asks.Stop code) r h t = inl refl
round_released n g i (asks.Pair named) r h t = inl refl
round_released n g i (asks.Post owner span) (replies.Number status) h t = inl (ap (λ b. released (view n) g i (cond b (posts (first_cell owner.0 span)) finishes)) h)
round_released n g i (asks.Post owner span) r h t = absurd (cc)
round_released n g i asks.Unpair r h t = absurd (cc)
round_released n g i (asks.Wait owner span threshold) r h t = absurd (cc)
round_released n g i a r h t = absurd (cc)

-- an entry that arrives at a round
arrival_is : (team k t m : ℕ) → arrives t m ≡ arrives team k → (t ≡ team) × (m ≡ k)
arrival_is team k t m e = (cc, cc)

end_arrives : (team k : ℕ) (r : Reply) → end_of_pair r ≡ arrives team k → ⊥
end_arrives team k (replies.Number status) e = cc
end_arrives team k r e = cc

post_arrives : (team k : ℕ) (c : Cell) (b : Bool) → cond b (posts c) finishes ≡ arrives team k → ⊥
post_arrives team k c true e = cc
post_arrives team k c false e = cc

act_arrives : (team k i line : ℕ) (a : Ask) (r : Reply) → is_free a r ≡ true → act_by a r ≡ arrives team k → (arrives_there team i (happens control i line a r) ≡ true) × (r ≡ replies.Round k)
act_arrives team k i line (asks.Arrive t arriving) (replies.Round m) h e =
    let p = arrival_is team k t.0 m e in
    (and_from (nat_eq t.0 team) (nat_eq i i) (eq-eqb t.0 team p.0) (eq-eqb i i refl), ap replies.Round p.1)
act_arrives team k i line (asks.Arrive t arriving) r h e = absurd (cc)
act_arrives team k i line (asks.Leave t m) (replies.Left status teams) h e = absurd (cc)
act_arrives team k i line (asks.Leave t m) r h e = absurd (cc)
act_arrives team k i line (asks.Gather t op root kind values) r h e = absurd (cc)
act_arrives team k i line (asks.Take t m) r h e = absurd (cc)
act_arrives team k i line (asks.Failed t) r h e = absurd (cc)
act_arrives team k i line (asks.Read owner span) r h e = absurd (cc)
act_arrives team k i line (asks.Write owner span vs) r h e = absurd (cc)
act_arrives team k i line (asks.Create owner c cells) r h e = absurd (cc)
act_arrives team k i line (asks.Delete owner c) r h e = absurd (cc)
act_arrives team k i line (asks.Print text) r h e = absurd (cc)
act_arrives team k i line asks.Memory r h e = absurd (cc)
act_arrives team k i line (asks.Stop code) r h e = absurd (cc)
act_arrives team k i line (asks.Pair named) r h e = absurd (cc)
act_arrives team k i line asks.Unpair r h e = absurd (end_arrives team k r e)
act_arrives team k i line (asks.Post owner span) (replies.Number status) h e = absurd (post_arrives team k (first_cell owner.0 span) (tells_success status) e)
act_arrives team k i line (asks.Post owner span) r h e = absurd (cc)
act_arrives team k i line (asks.Wait owner span threshold) r h e = absurd (cc)
act_arrives team k i line a r h e = absurd (cc)

-- what holds of all holds of one that is named
named_has : (test : ℕ → Bool) (i : ℕ) (ms : List ℕ) → list_all test ms ≡ true → names i ms ≡ true → test i ≡ true
named_has test i [] all named = absurd (cc)
named_has test i (m ∷ ms) all named =
    let p = and_parts (test m) (list_all test ms) all in
    elim (or_cases (nat_eq i m) (names i ms) named) [
      | inl e ↦ subst (λ z. test z ≡ true) (sym (eqb-true i m e)) p.0
      | inr r ↦ named_has test i ms p.1 r
    ]

pub follows_front : (n : ℕ) (t g b h : List Entry) → g ≡ b ++ h → Follows (view n) (likes n) t g → Follows (view n) (likes n) t b
follows_front n t g b h s fol = record {
  left = λ i. said_by i h ++ fol.left i;
  splits = λ i. fol.splits i ∙ ap (λ z. said_by i z ++ fol.left i) s ∙ ap (λ z. z ++ fol.left i) (said_append i b h) ∙ append_assoc (said_by i b) (said_by i h) (fol.left i);
}

module _ (s : List Declared) (n : ℕ) (t : List Entry) (run_t : IsRoundRun s n t) (g : List Entry) (run : IsRoundRun s n g) (fol : Follows (view n) (likes n) t g) where
  free_step : (x : Stands t) → is_free x.event.event.ask x.event.event.reply ≡ true
  free_step x = each_stands IsFree t run_t.free x

  module _ (team : TeamNo) (k : ℕ) (f : List Entry) (run_f : IsRoundRun s n f) (fol_f : Follows (view n) (likes n) t f) (closed : has_closed (team_members n t team.0) team.0 k (happened control f) ≡ true) where
    arrival_at : (z : Stands t) → act_of z.event ≡ arrives team.0 k → IsArrival control team.0 z.event.image.0 z.event.event.line z.event.event.ask z.event.event.reply
    arrival_at z act = is_arrival control team.0 z.event.image.0 z.event.event.line z.event.event.ask z.event.event.reply
        (act_arrives team.0 k z.event.image.0 z.event.event.line z.event.event.ask z.event.event.reply (free_step z) act).0

    same_number : (a b : ℕ) → replies.Round a ≡ replies.Round b → a ≡ b
    same_number a b e = cc

    numbered : (z : Stands t) → act_of z.event ≡ arrives team.0 k → suc (joined_by team.0 z.event.image.0 z.before) ≡ k
    numbered z act =
        let i = z.event.image.0 in
        let is = arrival_at z act in
        let heard = (act_arrives team.0 k i z.event.event.line z.event.event.ask z.event.event.reply (free_step z) act).1 in
        ap suc (own_arrivals control i team.0 z.before) ∙ sym (number_at s n t run_t control team.0 z is) ∙ same_number is.round k (sym is.heard ∙ heard)

    came : (z : Stands t) → act_of z.event ≡ arrives team.0 k → (nat_le k (joined_by team.0 z.event.image.0 f) ≡ true) ⊎ (said_by z.event.image.0 t ≡ said_by z.event.image.0 f)
    came z act =
        let i = z.event.image.0 in
        let ms = team_members n t team.0 in
        let hs = happened control f in
        let all = (and_parts (list_any (λ m. has_arrived team.0 k m hs) ms) (list_all (λ m. has_arrived team.0 k m hs || has_ended m hs) ms) closed).1 in
        let mine = named_has (λ m. has_arrived team.0 k m hs || has_ended m hs) i ms all (member_at s n t run_t control team.0 z (arrival_at z act)) in
        elim (or_cases (has_arrived team.0 k i hs) (has_ended i hs) mine) [
          | inl a ↦ inl a
          | inr e ↦ inr (stopped_whole t f i (run_t.ends i) (follows_ahead n t f fol_f) (sym (own_ends control i f run_f.free) ∙ e))
        ]

    waits_still : (g' h : List Entry) → t ≡ g' ++ h → (a : Segment) → Within a (waiting (view n) (round team.0 k) g') → Within a (waiting (view n) (round team.0 k) f)
    waits_still g' h split a w = round_sources n t f fol_f team.0 k g' h split numbered came a w

  -- the sources of a step
  abbrev pub Released : {h : List Entry} → Stands h → Segment → Type 0
  Released x a = Within a (released (view n) x.before x.event.image.0 (act_of x.event))

  -- of a departure from a round they are the same
  round_release : (x : Stands t) (y : Stands g) (a : Segment) → IsSame (view n) (likes n) x y → is_taking x.event.event.ask ≡ false → Released x a → Released y a
  round_release x y a same other w = elim (round_released n x.before x.event.image.0 x.event.event.ask x.event.event.reply (free_step x) other) [
    | inl none ↦ absurd (subst (Within a) none w)
    | inr r ↦ (
        let front = round_front s n y.before (y.event ∷ y.rest) (subst (IsRoundRun s n) y.split run) in
        let asked : y.event.event.ask ≡ asks.Leave r.team r.number = sym (ap (λ (q : Said Ask Reply). q.ask) (said_same n t g fol x y same)) ∙ r.asked in
        let ready : IsTrue (board_ready n (at_board y.before) y.event.image.0 (asks.Leave r.team r.number)) =
        subst (λ b. IsTrue (board_ready n (at_board y.before) y.event.image.0 b)) asked (board_here s n g run.lawful y (ap place_of asked)).0 in
        let fol_y = follows_front n t g y.before (y.event ∷ y.rest) y.split fol in
        let ms = team_members n t r.team.0 in
        let named = joined_member control n (at_board y.before) y.event.image.0 r.team.0 r.number (departs_joined control tt n (at_board y.before) y.event.image.0 r.team r.number ready) in
        let some : is_some (closing control r.team.0 r.number ms (at_board y.before)) ≡ true =
        subst (λ z. is_some (closing control r.team.0 r.number z (at_board y.before)) ≡ true) (members_ahead s n t y.before run_t front (follows_ahead n t y.before fol_y) y.event.image.0 r.team.0 named)
        (departs_closed control tt n (at_board y.before) y.event.image.0 r.team r.number ready) in
        let closed = some_closed control r.team.0 r.number ms y.before some in
        let act_y : act_of y.event ≡ leaves r.team.0 r.number true = sym (same_act Entry (Said Ask Reply) (view n) (likes n) t g fol x y same) ∙ r.act in
        let here : Within a (waiting (view n) (round r.team.0 r.number) x.before) = subst (λ q. Within a (released (view n) x.before x.event.image.0 q)) r.act w in
        subst (λ q. Within a (released (view n) y.before y.event.image.0 q)) (sym act_y)
        (waits_still r.team r.number y.before front fol_y closed x.before (x.event ∷ x.rest) x.split a here))
  ]

  -- THE SAME SOURCES, where those of the ends of SYNC IMAGES and of EVENT WAIT are the same.
  pub keeps_rounds : ((x : Stands t) (y : Stands g) (a : Segment) → IsSame (view n) (likes n) x y → is_taking x.event.event.ask ≡ true → Released x a → Released y a) → KeepsSources (view n) (likes n) t g
  keeps_rounds taken = keeps_by n t g fol (none_speaks n t (lawful_quiet s n t run_t.lawful) run_t.free) run_t.free (λ x y a same full w. elim (cases_Bool (is_taking x.event.event.ask)) [
    | inl t ↦ taken x y a same t w
    | inr f ↦ round_release x y a same f w
  ])
