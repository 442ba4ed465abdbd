-- Which members had stopped by the close of a round is told by what they said in all: those that never arrived at it.
use Rattle.std.proofs.Common.{◌≡◌, ◌<◌, ◌≤◌, ℕ, suc, ◌+◌, Bool, true, false, IsTrue, nat_le, nat_lt, ◌&&◌, ◌||◌, cond, List, [], ◌∷◌, ◌++◌, length, map, inl, inr, refl, ap, sym, ◌∙◌, subst, arith, append_assoc, length-append}
use Rattle.std.specs.Prelude.{None, is_some}
use Rattle.std.specs.List.{list_any, list_all}
use Rattle.std.proofs.lemmas.Bool.{cases_Bool, cases_lt, and_parts, both_ways, lt-ltb, le-ltb, leb-true}
use Rattle.trace_theory.specs.Entries.{Each}
use Rattle.trace_theory.specs.Machines.{Said}
use Rattle.trace_theory.proofs.Filters.{each_filter}
use Rattle.caf_base.specs.declared.place.TeamNo.{TeamNo}
use Rattle.caf_base.specs.declared.place.Place.TheVariants as places
use Rattle.caf_events.specs.declared.ask.Ask.{Ask}
use Rattle.caf_events.specs.declared.ask.Ask.TheVariants as asks
use Rattle.caf_events.specs.declared.reply.Reply.{Reply}
use Rattle.caf_events.specs.declared.reply.Reply.TheVariants as replies
use Rattle.caf_events.specs.declared.event.Entry.{Entry}
use Rattle.caf_events.specs.Asks.{place_of}
use Rattle.object_rules.specs.Cells.{Declared}
use Rattle.object_rules.specs.Happenings.{Class, control, collective, images, happens, happened, has_stopped, has_failed}
use Rattle.object_rules.specs.TeamRounds.{arrivals, has_closed, missed_by}
use Rattle.object_rules.specs.BoardTeams.{arrives_there, teams_after, members_at, closing}
use Rattle.object_rules.specs.ImagePairs.{names}
use Rattle.object_rules.specs.BoardRules.{is_image, has_joined, fits_board, can_come, board_ready}
use Rattle.core_runs.specs.Lists.{said}
use Rattle.core_runs.specs.CoreRuns.{at_board, of_image, said_by}
use Rattle.core_runs.specs.Sequences.{IsDeparture, CutsShort, JoinsBehind, NothingAfterEnd}
use Rattle.order_theory.specs.Races.{Stands}
use Rattle.answer_laws.proofs.Splits.{heard_at}
use Rattle.answer_laws.proofs.Served.{board_split}
use Rattle.every_order.specs.Decided.{is_free}
use Rattle.free_replies.proofs.Alike.{IsFree}
use Rattle.free_replies.proofs.Replies.{board_here}
use Rattle.round_words.proofs.BoardWords.{arrivals_append, is_stop_ask, stopped_said, own_stops, none_failed, closed_is, any_ext, or_none, happened_board}
use Rattle.round_words.proofs.Ahead.{front_ahead, arrivals_ahead, stops_at, stop_ends, stopped_whole}
use Rattle.round_words.proofs.Closing.{ClosedBy, some_closed}
use Rattle.round_words.proofs.Departing.{departs, Numbered, NoneCuts, Departed, departed}
use Rattle.round_words.proofs.RoundRuns.{round_front, members_front, is_arrival, number_at}
use Rattle.round_words.specs.RoundRuns.{IsAhead, IsRoundClass, IsRoundRun, arrivals_said, joins_by, team_members}

departs_board : (class : Class) (team : TeamNo) (k : ℕ) → place_of (departs class team k) ≡ places.Board
departs_board control team k = refl
departs_board collective team k = refl
departs_board images team k = refl

-- a departure waits for the close
pub departs_closed : (class : Class) → IsRoundClass class → (n : ℕ) (h : List Entry) (i : ℕ) (team : TeamNo) (k : ℕ) → IsTrue (board_ready n h i (departs class team k))
    → is_some (closing class team.0 k (members_at (teams_after n h) team.0) h) ≡ true
departs_closed control round n h i team k ready = (and_parts (is_image n i && fits_board n h i (asks.Leave team k)) (can_come n h i (asks.Leave team k)) ready).1
departs_closed collective round n h i team k ready = (and_parts (is_image n i && fits_board n h i (asks.Take team k)) (can_come n h i (asks.Take team k)) ready).1
departs_closed images round n h i team k ready = absurd round

-- and its image has joined the round
pub departs_joined : (class : Class) → IsRoundClass class → (n : ℕ) (h : List Entry) (i : ℕ) (team : TeamNo) (k : ℕ) → IsTrue (board_ready n h i (departs class team k)) → has_joined class n h i team.0 k ≡ true
departs_joined control round n h i team k ready =
    let both = (and_parts (is_image n i && fits_board n h i (asks.Leave team k)) (can_come n h i (asks.Leave team k)) ready).0 in
    (and_parts (is_image n i) (fits_board n h i (asks.Leave team k)) both).1
departs_joined collective round n h i team k ready =
    let both = (and_parts (is_image n i && fits_board n h i (asks.Take team k)) (can_come n h i (asks.Take team k)) ready).0 in
    (and_parts (is_image n i) (fits_board n h i (asks.Take team k)) both).1
departs_joined images round n h i team k ready = absurd round

-- so it is a member of the team
pub joined_member : (class : Class) (n : ℕ) (h : List Entry) (i team k : ℕ) → has_joined class n h i team k ≡ true → names i (members_at (teams_after n h) team) ≡ true
joined_member class n h i team k e =
    let p = (and_parts (names i (members_at (teams_after n h) team) && nat_le 1 k) (nat_le k (arrivals team i (happened class h))) e).0 in
    (and_parts (names i (members_at (teams_after n h) team)) (nat_le 1 k) p).0

stop_stays : (a : Ask) → is_stop_ask a ≡ true → IsDeparture a → ⊥
stop_stays (asks.Stop code) h d = d
stop_stays a h d = cc

stop_uncut : (a : Ask) → is_stop_ask a ≡ true → CutsShort a → ⊥
stop_uncut (asks.Stop code) h c = c
stop_uncut a h c = cc

stop_joins : (class : Class) (team j line : ℕ) (a : Ask) (r : Reply) → is_stop_ask a ≡ true → arrives_there team j (happens class j line a r) ≡ false
stop_joins control team j line (asks.Stop code) r h = refl
stop_joins collective team j line (asks.Stop code) r h = refl
stop_joins images team j line (asks.Stop code) r h = refl
stop_joins class team j line a r h = absurd (cc)

free_uncut : (a : Ask) (r : Reply) → is_free a r ≡ true → CutsShort a → ⊥
free_uncut asks.Fail r h c = cc
free_uncut (asks.LimitStatements number) r h c = cc
free_uncut (asks.LimitWords number) r h c = cc
free_uncut (asks.LimitStamp number) r h c = cc
free_uncut a r h c = c

words_free : (j : ℕ) (g : List Entry) → Each IsFree g → Each (λ w. is_free w.ask w.reply ≡ true) (said_by j g)
words_free j g f = mapped (of_image j g) (each_filter IsFree _ g f)
  where
    mapped : (es : List Entry) → Each IsFree es → Each (λ (w : Said Ask Reply). is_free w.ask w.reply ≡ true) (map (λ (x : Entry). said x.event) es)
    mapped [] h = tt
    mapped (e ∷ es) h = (h.0, mapped es h.1)

none_cut : (class : Class) (team j : ℕ) (ws rest : List (Said Ask Reply)) → Each (λ w. is_free w.ask w.reply ≡ true) (ws ++ rest) → NoneCuts class team j ws
none_cut class team j [] rest h = tt
none_cut class team j (w ∷ ws) rest h = (free_uncut w.ask w.reply h.0, none_cut class team j ws rest h.1)

numbered_cut : (class : Class) (team m : ℕ) (ws rest : List (Said Ask Reply)) (a : ℕ) → Numbered class team m a (ws ++ rest) → Numbered class team m a ws
numbered_cut class team m [] rest a h = tt
numbered_cut class team m (w ∷ ws) rest a h = (h.0, numbered_cut class team m ws rest (cond (joins_by class team m w) 1 0 + a) h.1)

pub any_where : {A : Type 0} (c p q : A → Bool) → ((x : A) → c x ≡ true → p x ≡ q x) → (xs : List A) → list_all c xs ≡ true → list_any p xs ≡ list_any q xs
any_where c p q same [] all = refl
any_where c p q same (x ∷ xs) all =
    let r = and_parts (c x) (list_all c xs) all in
    ap (λ b. b || list_any p xs) (same x r.0) ∙ ap (λ b. q x || b) (any_where c p q same xs r.1)

any_false : {A : Type 0} (xs : List A) → list_any (λ x. false) xs ≡ false
any_false [] = refl
any_false (x ∷ xs) = any_false xs

module _ (s : List Declared) (n : ℕ) (class : Class) (round : IsRoundClass class) (team : ℕ) where
  module _ (g : List Entry) (run : IsRoundRun s n g) (j : ℕ) where
    -- an image's arrivals are numbered one after the other
    numbered_from : (b ws : List (Said Ask Reply)) (c : ℕ) → c ≡ arrivals_said class team j b → said_by j g ≡ b ++ ws → Numbered class team j c ws
    numbered_from b [] c e split = tt
    numbered_from b (w ∷ ws) c e split = (
      λ joins k heard. (
          let h = heard_at j g b ws w split in
          let z : Stands g = record { before = h.earlier; event = h.entry; rest = h.later; split = h.split } in
          let is = is_arrival class team h.entry.image.0 h.entry.event.line h.entry.event.ask h.entry.event.reply
          (subst (λ i. arrives_there team i (happens class i h.entry.event.line h.entry.event.ask h.entry.event.reply) ≡ true) (sym h.image)
          (subst (λ v. joins_by class team j v ≡ true) (sym h.is) joins)) in
          let same : replies.Round is.round ≡ replies.Round k = sym is.heard ∙ ap (λ v. v.reply) h.is ∙ heard in
          let number : is.round ≡ k = cc in
          sym number ∙ number_at s n g run class team z is
          ∙ ap (λ i. suc (arrivals_said class team i (said_by i h.earlier))) h.image ∙ ap (λ v. suc (arrivals_said class team j v)) h.heard ∙ ap suc (sym e)),
      numbered_from (b ++ w ∷ []) ws (cond (joins_by class team j w) 1 0 + c) (let a = arrivals_append class team j b (w ∷ []) in omega arith) (split ∙ sym (append_assoc b (w ∷ []) ws)),
    )

  module _ (k : ℕ) (low : 1 ≤ k) (g : List Entry) (run : IsRoundRun s n g) (ms : List ℕ) (are : team_members n g team ≡ ms) (c : ClosedBy class team k ms g) where
    pub front_run : IsRoundRun s n c.front
    front_run = round_front s n c.front c.back (subst (IsRoundRun s n) c.split run)

    -- no image has departed from the round before its close
    not_departed : (m : ℕ) (ws rest : List (Said Ask Reply)) → said_by m c.front ≡ ws ++ rest → Departed class team m k ws → ⊥
    not_departed m ws rest split d =
        let whole : said_by m c.front ≡ d.before ++ d.word ∷ (d.after ++ rest) = split ∙ ap (λ z. z ++ rest) d.split ∙ append_assoc d.before (d.word ∷ d.after) rest in
        let h = heard_at m c.front d.before (d.after ++ rest) d.word whole in
        let z : Stands c.front = record { before = h.earlier; event = h.entry; rest = h.later; split = h.split } in
        let asked : h.entry.event.ask ≡ departs class d.of_team k = ap (λ w. w.ask) h.is ∙ d.asked in
        let place : place_of h.entry.event.ask ≡ places.Board = ap place_of asked ∙ departs_board class d.of_team k in
        let ready : IsTrue (board_ready n (at_board h.earlier) h.entry.image.0 (departs class d.of_team k)) =
        subst (λ a. IsTrue (board_ready n (at_board h.earlier) h.entry.image.0 a)) asked (board_here s n c.front front_run.lawful z place).0 in
        let some = departs_closed class round n (at_board h.earlier) h.entry.image.0 d.of_team k ready in
        let named : names h.entry.image.0 (team_members n h.earlier team) ≡ true =
        subst (λ t. names h.entry.image.0 (team_members n h.earlier t) ≡ true) d.is_team
        (joined_member class n (at_board h.earlier) h.entry.image.0 d.of_team.0 k (departs_joined class round n (at_board h.earlier) h.entry.image.0 d.of_team k ready)) in
        let all : g ≡ h.earlier ++ h.entry ∷ (h.later ++ c.back) = c.split ∙ ap (λ z. z ++ c.back) h.split ∙ append_assoc h.earlier (h.entry ∷ h.later) c.back in
        let members : team_members n h.earlier team ≡ ms =
        sym (ap (λ z. team_members n z team) all ∙ members_front n h.earlier (h.entry ∷ (h.later ++ c.back)) h.entry.image.0 team named) ∙ are in
        let here : is_some (closing class team k ms (at_board h.earlier)) ≡ true =
        subst (λ z. is_some (closing class team k z (at_board h.earlier)) ≡ true) members
        (subst (λ t. is_some (closing class t k (members_at (teams_after n (at_board h.earlier)) t) (at_board h.earlier)) ≡ true) d.is_team some) in
        let size = ap length (ap at_board h.split ∙ board_split h.earlier h.later h.entry place) ∙ length-append (at_board h.earlier) (h.entry ∷ at_board h.later) in
        both_ways (has_closed ms team k (happened class h.earlier)) (c.sooner h.earlier (h.entry ∷ h.later) h.split (omega arith)) (some_closed class team k ms h.earlier here)

    -- Who had stopped by the close had not arrived at the round.
    pub stops_short : (m : ℕ) → stopped_said (said_by m c.front) ≡ true → arrivals_said class team m (said_by m c.front) < k
    stops_short m h = elim (cases_lt (arrivals_said class team m (said_by m c.front)) k) [
      | inl l ↦ l
      | inr high ↦ absurd (
          let at = stops_at (said_by m c.front) h in
          let none = front_run.ends m at.before at.after at.word at.split (stop_ends at.word.ask at.word.reply at.stops) in
          let split : said_by m c.front ≡ at.before ++ at.word ∷ [] = at.split ∙ ap (λ z. at.before ++ at.word ∷ z) none in
          let count = ap (arrivals_said class team m) split ∙ arrivals_append class team m at.before (at.word ∷ []) in
          let stop = stop_joins class team m at.word.line at.word.ask at.word.reply at.stops in
          let count' : arrivals_said class team m (said_by m c.front) ≡ arrivals_said class team m at.before + (0 + 0) =
          subst (λ b. arrivals_said class team m (said_by m c.front) ≡ arrivals_said class team m at.before + (cond b 1 0 + 0)) stop count in
          let numbered = numbered_cut class team m at.before (at.word ∷ []) 0 (subst (Numbered class team m 0) split (numbered_from c.front front_run m [] (said_by m c.front) 0 refl refl)) in
          not_departed m at.before (at.word ∷ []) split
          (departed class team m k at.word (stop_stays at.word.ask at.stops) (stop_uncut at.word.ask at.stops) 0 None at.before
          (subst (JoinsBehind None) split (front_run.lawful.joins m)) numbered
          (none_cut class team m at.before (at.word ∷ []) (subst (Each (λ w. is_free w.ask w.reply ≡ true)) split (words_free m c.front front_run.free))) (omega arith) (omega arith)))
    ]

    -- a run that is ahead of this one
    module _ (t : List Entry) (ends : (i : ℕ) → NothingAfterEnd (said_by i t)) (ahead : IsAhead t g) where
      pub ahead_front : IsAhead t c.front
      ahead_front i =
          let a = ahead i in
          let f = front_ahead c.front c.back i in
          (f.0 ++ a.0, a.1 ∙ ap (λ z. said_by i z ++ a.0) c.split ∙ ap (λ z. z ++ a.0) f.1 ∙ append_assoc (said_by i c.front) f.0 a.0)

      -- A member that has come to the round had stopped by its close exactly where it arrives at it in no run.
      member_told : (m : ℕ) → (nat_le k (arrivals_said class team m (said_by m c.front)) || stopped_said (said_by m c.front)) ≡ true
          → stopped_said (said_by m c.front) ≡ nat_lt (arrivals_said class team m (said_by m t)) k
      member_told m come = elim (cases_Bool (stopped_said (said_by m c.front))) [
        | inl stopped ↦ (
            let l = stops_short m stopped in
            let whole = ap (arrivals_said class team m) (stopped_whole t c.front m (ends m) ahead_front stopped) in
            stopped ∙ sym (lt-ltb (arrivals_said class team m (said_by m t)) k (omega arith)))
        | inr goes ↦ (
            let l = leb-true k (arrivals_said class team m (said_by m c.front)) (subst (λ b. b ≡ true) (or_none (nat_le k (arrivals_said class team m (said_by m c.front))) (stopped_said (said_by m c.front)) goes) come) in
            let more = arrivals_ahead class t c.front ahead_front team m in
            goes ∙ sym (le-ltb (arrivals_said class team m (said_by m t)) k (omega arith)))
      ]

      -- WHO MISSED THE ROUND: the members that had stopped by its close.
      pub missed_told : missed_by ms (happened class (at_board c.front)) ≡ record { stopped = list_any (λ m. nat_lt (arrivals_said class team m (said_by m t)) k) ms; failed = false }
      missed_told =
          let hs = happened class c.front in
          let closed = sym (closed_is class team k ms c.front front_run.free) ∙ c.closed in
          let all = (and_parts (list_any (λ m. nat_le k (arrivals_said class team m (said_by m c.front))) ms) (list_all (λ m. nat_le k (arrivals_said class team m (said_by m c.front)) || stopped_said (said_by m c.front)) ms) closed).1 in
          let a = any_ext (λ m. has_stopped m hs) (λ m. stopped_said (said_by m c.front)) (λ m. own_stops class m c.front) ms
          ∙ any_where (λ m. nat_le k (arrivals_said class team m (said_by m c.front)) || stopped_said (said_by m c.front)) (λ m. stopped_said (said_by m c.front)) (λ m. nat_lt (arrivals_said class team m (said_by m t)) k) member_told ms all in
          let b = any_ext (λ m. has_failed m hs) (λ m. false) (λ m. none_failed class m c.front front_run.free) ms ∙ any_false ms in
          ap (missed_by ms) (happened_board class c.front) ∙ (λ i. record { stopped = a i; failed = b i })
