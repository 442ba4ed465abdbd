-- What is heard at the board is the same in every run, where the ends of SYNC IMAGES hear the same.
use Rattle.std.proofs.Common.{◌≡◌, ℕ, Bool, false, true, IsTrue, nat_eq, ◌&&◌, cond, List, [], ◌∷◌, ◌++◌, refl, ap, sym, ◌∙◌, subst}
use Rattle.std.specs.Prelude.{suc, filter_map}
use Rattle.std.proofs.lemmas.Bool.{and_parts, and_from, eq-eqb}
use Rattle.caf_base.specs.declared.place.TeamNo.{TeamNo}
use Rattle.caf_base.specs.declared.place.Place.TheVariants as places
use Rattle.caf_events.specs.declared.ask.Ask.{Ask}
use Rattle.caf_events.specs.declared.ask.Ask.TheVariants as asks
use Rattle.caf_events.specs.declared.reply.Reply.{Reply}
use Rattle.caf_events.specs.declared.reply.Reply.TheVariants as replies
use Rattle.caf_events.specs.declared.round.Arriving.{Arriving}
use Rattle.caf_events.specs.declared.round.GatherOp.{GatherOp}
use Rattle.caf_base.specs.declared.value.Kind.{Kind}
use Rattle.caf_base.specs.declared.value.Value.{Value}
use Rattle.caf_events.specs.declared.event.Entry.{Entry}
use Rattle.caf_events.specs.Asks.{place_of}
use Rattle.object_rules.specs.Cells.{Declared}
use Rattle.object_rules.specs.Happenings.{control, collective, happens, happened, has_failed}
use Rattle.object_rules.specs.TeamRounds.{Opening, result_of}
use Rattle.object_rules.specs.FormedTeams.{is_bad_form}
use Rattle.object_rules.specs.BoardTeams.{arrives_there, form_arg, is_form_kind, teams_after, made_teams}
use Rattle.object_rules.specs.BoardRules.{is_image, fits_board, can_come, board_ready, board_reply, indices_from, taken_by, collected}
use Rattle.core_runs.specs.CoreRuns.{at_board, said_by}
use Rattle.order_theory.specs.Races.{Stands}
use Rattle.every_order.specs.Decided.{is_free}
use Rattle.free_replies.proofs.Alike.{IsFree, each_stands}
use Rattle.free_replies.proofs.Replies.{board_here, front_follows}
use Rattle.round_words.proofs.BoardWords.{happened_board, none_failed}
use Rattle.round_words.proofs.Brought.{brought}
use Rattle.round_words.proofs.Ahead.{follows_ahead}
use Rattle.round_words.proofs.RoundRuns.{round_front, is_arrival}
use Rattle.round_words.proofs.Openings.{arrives_again, same_opening}
use Rattle.formed_teams.proofs.TeamsAhead.{members_ahead}
use Rattle.round_replies.proofs.DepartureReplies.{Missing, values_given, leave_is, take_is}
use Rattle.round_words.specs.RoundRuns.{IsAhead, IsRoundRun, team_members}

arrives_control : (t i line : ℕ) (team : TeamNo) (arriving : Arriving) (r : Reply) → team.0 ≡ t → is_free (asks.Arrive team arriving) r ≡ true → arrives_there t i (happens control i line (asks.Arrive team arriving) r) ≡ true
arrives_control t i line team arriving (replies.Round k) e h = and_from (nat_eq team.0 t) (nat_eq i i) (eq-eqb team.0 t e) (eq-eqb i i refl)
arrives_control t i line team arriving r e h = absurd (cc)

arrives_collective : (t i line : ℕ) (team : TeamNo) (op : GatherOp) (root : ℕ) (kind : Kind) (values : List Value) (r : Reply) → team.0 ≡ t → is_free (asks.Gather team op root kind values) r ≡ true
    → arrives_there t i (happens collective i line (asks.Gather team op root kind values) r) ≡ true
arrives_collective t i line team op root kind values (replies.Round k) e h = and_from (nat_eq team.0 t) (nat_eq i i) (eq-eqb team.0 t e) (eq-eqb i i refl)
arrives_collective t i line team op root kind values r e h = absurd (cc)

indices_ext : (p q : ℕ → Bool) → ((m : ℕ) → p m ≡ q m) → (k : ℕ) (ms : List ℕ) → indices_from k p ms ≡ indices_from k q ms
indices_ext p q same k [] = refl
indices_ext p q same k (m ∷ ms) = ap (λ b. cond b (k ∷ []) [] ++ indices_from (suc k) p ms) (same m) ∙ ap (λ xs. cond (q m) (k ∷ []) [] ++ xs) (indices_ext p q same (suc k) ms)

module _ (s : List Declared) (n : ℕ) (t g : List Entry) (run_t : IsRoundRun s n t) (run_g : IsRoundRun s n g) (ahead : IsAhead t g) (y : Stands t) (words : said_by y.event.image.0 y.before ≡ said_by y.event.image.0 g)
    (unpaired : y.event.event.ask ≡ asks.Unpair → IsTrue (board_ready n (at_board g) y.event.image.0 asks.Unpair) → board_reply n (at_board g) y.event.image.0 asks.Unpair ≡ y.event.event.reply) where
  abbrev i : ℕ
  i = y.event.image.0

  run_y : IsRoundRun s n y.before
  run_y = round_front s n y.before (y.event ∷ y.rest) (subst (IsRoundRun s n) y.split run_t)

  ahead_y : IsAhead t y.before
  ahead_y = follows_ahead n t y.before (front_follows n t y)

  free_y : is_free y.event.event.ask y.event.event.reply ≡ true
  free_y = each_stands IsFree t run_t.free y

  -- FAILED_IMAGES tells of none
  failed_none : (h : List Entry) → IsRoundRun s n h → (team : TeamNo) (ms : List ℕ) → team_members n h team.0 ≡ ms → board_reply n (at_board h) i (asks.Failed team) ≡ replies.Indices (indices_from 1 (λ m. false) ms)
  failed_none h run team ms are =
      ap (λ z. replies.Indices (indices_from 1 (λ m. has_failed m (happened control (at_board h))) z)) are
      ∙ ap replies.Indices (indices_ext (λ m. has_failed m (happened control (at_board h))) (λ m. false) (λ m. ap (has_failed m) (happened_board control h) ∙ none_failed control m h run.free) 1 ms)

  -- who asks for it is a member
  failed_member : (h : List Entry) → IsRoundRun s n h → IsAhead t h → (team : TeamNo) → IsTrue (board_ready n (at_board h) i (asks.Failed team)) → team_members n h team.0 ≡ team_members n t team.0
  failed_member h run ahead team ready =
      let both = (and_parts (is_image n i && fits_board n (at_board h) i (asks.Failed team)) (can_come n (at_board h) i (asks.Failed team)) ready).0 in
      members_ahead s n t h run_t run ahead i team.0 (and_parts (is_image n i) (fits_board n (at_board h) i (asks.Failed team)) both).1

  -- What is heard at the board is the same.
  pub board_again : (a : Ask) → y.event.event.ask ≡ a → place_of a ≡ places.Board → IsTrue (board_ready n (at_board g) i a) → board_reply n (at_board g) i a ≡ y.event.event.reply
  board_again (asks.Arrive team arriving) e place ready =
      let joins = arrives_control team.0 i y.event.event.line team arriving y.event.event.reply refl (subst (λ a. is_free a y.event.event.reply ≡ true) e free_y) in
      let is = is_arrival control team.0 i y.event.event.line y.event.event.ask y.event.event.reply (subst (λ a. arrives_there team.0 i (happens control i y.event.event.line a y.event.event.reply) ≡ true) (sym e) joins) in
      ap (board_reply n (at_board g) i) (sym e) ∙ arrives_again s n control team.0 t g run_t run_g ahead y is words
  board_again (asks.Gather team op root kind values) e place ready =
      let joins = arrives_collective team.0 i y.event.event.line team op root kind values y.event.event.reply refl (subst (λ a. is_free a y.event.event.reply ≡ true) e free_y) in
      let is = is_arrival collective team.0 i y.event.event.line y.event.event.ask y.event.event.reply (subst (λ a. arrives_there team.0 i (happens collective i y.event.event.line a y.event.event.reply) ≡ true) (sym e) joins) in
      ap (board_reply n (at_board g) i) (sym e) ∙ arrives_again s n collective team.0 t g run_t run_g ahead y is words
  board_again (asks.Leave team k) e place ready =
      let here = board_here s n t run_t.lawful y (ap place_of e) in
      let mine = subst (λ a. IsTrue (board_ready n (at_board y.before) i a)) e here.0 in
      let a = leave_is s n t g run_t run_g ahead i team k ready in
      let b = leave_is s n t y.before run_t run_y ahead_y i team k mine in
      a.2
      ∙ ap (λ (o : Opening). replies.Left (result_of (Missing s n t y.before run_t run_y ahead_y i team k control) (is_form_kind o.kind
      && is_bad_form (filter_map (λ m. brought control form_arg team.0 m k (said_by m t)) (team_members n t team.0)))) (made_teams team.0 k 1 (teams_after n (at_board t)))) (same_opening a.0 b.0 (sym a.1 ∙ b.1))
      ∙ sym b.2 ∙ sym (here.1 ∙ ap (board_reply n (at_board y.before) i) e)
  board_again (asks.Take team k) e place ready =
      let here = board_here s n t run_t.lawful y (ap place_of e) in
      let mine = subst (λ a. IsTrue (board_ready n (at_board y.before) i a)) e here.0 in
      let a = take_is s n t g run_t run_g ahead i team k ready in
      let b = take_is s n t y.before run_t run_y ahead_y i team k mine in
      a.2
      ∙ ap (λ (o : Opening). taken_by (Missing s n t y.before run_t run_y ahead_y i team k collective)
      (collected o.kind (filter_map (λ m. brought collective values_given team.0 m k (said_by m t)) (team_members n t team.0)))) (same_opening a.0 b.0 (sym a.1 ∙ b.1))
      ∙ sym b.2 ∙ sym (here.1 ∙ ap (board_reply n (at_board y.before) i) e)
  board_again (asks.Failed team) e place ready =
      let here = board_here s n t run_t.lawful y (ap place_of e) in
      let mine = subst (λ a. IsTrue (board_ready n (at_board y.before) i a)) e here.0 in
      failed_none g run_g team (team_members n t team.0) (failed_member g run_g ahead team ready)
      ∙ sym (failed_none y.before run_y team (team_members n t team.0) (failed_member y.before run_y ahead_y team mine))
      ∙ sym (here.1 ∙ ap (board_reply n (at_board y.before) i) e)
  board_again (asks.Stop code) e place ready =
      let here = board_here s n t run_t.lawful y (ap place_of e) in
      sym (here.1 ∙ ap (board_reply n (at_board y.before) i) e)
  board_again (asks.Read owner span) e place ready = absurd (cc)
  board_again (asks.Write owner span vs) e place ready = absurd (cc)
  board_again (asks.Create owner c cells) e place ready = absurd (cc)
  board_again (asks.Delete owner c) e place ready = absurd (cc)
  board_again (asks.Print text) e place ready = absurd (cc)
  board_again asks.Memory e place ready = absurd (cc)
  board_again (asks.Post owner span) e place ready = absurd (cc)
  board_again (asks.Wait owner span threshold) e place ready = absurd (cc)
  board_again (asks.Pair named) e place ready =
      let here = board_here s n t run_t.lawful y (ap place_of e) in
      sym (here.1 ∙ ap (board_reply n (at_board y.before) i) e)
  board_again asks.Unpair e place ready = unpaired e ready
  board_again a e place ready = absurd (let no : is_free a y.event.event.reply ≡ true = subst (λ z. is_free z y.event.event.reply ≡ true) e free_y in cc)
