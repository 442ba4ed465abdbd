-- In a core run of a program each image names no team but one that it was told.
use Rattle.std.proofs.Common.{◌≡◌, ℕ, true, List, [], ◌∷◌, ◌++◌, ◌⊎◌, inl, inr, refl, sym, ◌∙◌, subst, length, ◌≤◌, append_assoc, arith}
use Rattle.std.specs.Prelude.{map, pos, ◌&&◌, nat_le}
use Rattle.trace_theory.specs.Entries.{Each}
use Rattle.trace_theory.specs.Machines.{Move, goes, asks, over, Said, Walk, WalkTo}
use Rattle.trace_theory.proofs.Machines.{walk_to_more}
use Rattle.caf_events.specs.Walkers.{AsksNext}
use Rattle.caf_events.specs.declared.reply.Reply.TheVariants as replies
use Rattle.program_walks.proofs.LaneOrder.{answers_more}
use Rattle.walk_theory.specs.Walks.{Config}
use Rattle.image_acts.specs.Acts.{Act}
use Rattle.image_acts.specs.Core.{Core}
use Rattle.walk_laws.specs.Fits.{told_by, StandsAt}
use Rattle.std.proofs.lemmas.List.{append-nil}
use Rattle.trace_theory.specs.Simulations.{AllAnswer}
use Rattle.caf_events.specs.declared.ask.Ask.{Ask}
use Rattle.caf_events.specs.declared.ask.Ask.TheVariants as asking
use Rattle.caf_events.specs.declared.reply.Reply.{Reply}
use Rattle.caf_events.specs.declared.event.Entry.{Entry}
use Rattle.caf_events.specs.Answers.{Answers}
use Rattle.checked_tree.specs.Statements as s
use Rattle.tree_meaning.specs.Start.{start_of, walk_step, own_coarrays}
use Rattle.object_rules.specs.Cells.{Declared}
use Rattle.core_runs.specs.Beginnings.{IsOneOf}
use Rattle.core_runs.specs.CoreRuns.{IsCoreRun, said_by, at_board}
use Rattle.core_runs.specs.Failures.{LockPlace, release_of, failure_steps, FailsFrom}
use Rattle.core_runs.specs.Lawful.{IsLawfulTrace}
use Rattle.core_runs.proofs.Lawfuls.{answered_by, core_run_lawful}
use Rattle.object_rules.specs.BoardTeams.{teams_after, members_at}
use Rattle.object_rules.specs.ImagePairs.{names}
use Rattle.object_rules.specs.BoardRules.{is_image, fits_board}
use Rattle.core_runs.specs.Sequences.{Joins, IsDeparture}
use Rattle.answer_laws.proofs.Joined.{Joined, joined_before}
use Rattle.walk_laws.proofs.Members.{name_last, members_told_of}
use Rattle.std.proofs.lemmas.Bool.{and_from, le-leb}
use Rattle.object_rules.specs.MemoryRules.{has_first_values}
use Rattle.object_rules.specs.Answering.{AnswersFrom}
use Rattle.answer_laws.proofs.HeardTeams.{heard_teams}
use Rattle.answer_laws.proofs.RepliesAnswer.{all_answered}
use Rattle.walk_laws.proofs.Numbers.{short_all}
use Rattle.std.specs.List.{list_all}
use Rattle.image_lanes.specs.Lanes.{OnLane, lane_step, lane_start}
use Rattle.image_lanes.specs.Courses.{AreAt, lane_past, Fails, IsLimited}
use Rattle.image_lanes.proofs.CourseLaws.{course_of}
use Rattle.program_walks.specs.Runs.{program_rules, program_begins}
use Rattle.program_walks.proofs.Fits.{program_fit}
use Rattle.answer_laws.specs.Told.{IsTold, AllTold}
use Rattle.told_walks.specs.Asked.{Told, IsIn, IsShort, Names, AllName, WalksTold, most_team, own_cells}
use Rattle.told_walks.proofs.Telling.{all_told, name_append}
use Rattle.told_programs.specs.First.{told_first}
use Rattle.told_programs.proofs.Programs.{program_names}

-- ---- a lane
abbrev NamesNone : Said Ask Reply → Type 0
NamesNone e = (k : Told) → Names k e.ask

abbrev NoneIn : List Ask → Type 0
NoneIn [] = Unit {0}
NoneIn (a ∷ as_) = ((k : Told) → Names k a) × NoneIn as_

releases : (held : List LockPlace) → NoneIn (map release_of held ++ asking.Gone ∷ [])
releases [] = (λ k. tt, tt)
releases (p ∷ ps) = (λ k. tt, releases ps)

failing_none : (line : ℕ) (steps : List Ask) (es : List (Said Ask Reply)) → NoneIn steps → AreAt line steps es → Each NamesNone es
failing_none line steps [] n h = tt
failing_none line [] (e ∷ es) n h = absurd h
failing_none line (a ∷ as_) (e ∷ es) n h = (λ k. subst (Names k) (sym h.0) (n.0 k), failing_none line as_ es n.1 h.2)

answers_front : (xs ys : List (Said Ask Reply)) → AllAnswer Answers (xs ++ ys) → AllAnswer Answers xs
answers_front [] ys h = tt
answers_front (x ∷ xs) ys h = (h.0, answers_front xs ys h.1)

each_front : (P : Said Ask Reply → Type 0) (xs ys : List (Said Ask Reply)) → Each P (xs ++ ys) → Each P xs
each_front P [] ys h = tt
each_front P (x ∷ xs) ys h = (h.0, each_front P xs ys h.1)

module _ {C : Type 0} (k : Told) (step : C → Move C Ask Reply) (first : C) (told : WalksTold k step first) where
  rest_none : (l : OnLane C) (es : List (Said Ask Reply)) → ((es ≡ []) ⊎ (Fails step l es ⊎ IsLimited step l es)) → Each NamesNone es
  rest_none l es (inl e) = subst (Each NamesNone) (sym e) tt
  rest_none l es (inr (inl f)) = subst (Each NamesNone) (sym f.all) (λ j. tt, failing_none f.line (failure_steps l.image l.held) f.rest (λ j. tt, releases l.held) f.steps)
  rest_none l es (inr (inr f)) = subst (Each NamesNone) (sym f.all) (λ j. tt, tt)

  pub lane_names : (image fails_at limit : ℕ) → WalksTold k (lane_step step) (lane_start image fails_at limit first)
  lane_names image fails_at limit es c answers short w =
      let v = course_of step es (lane_start image fails_at limit first) c first w in
      let names = told v.walked v.walks.0 (answers_front v.walked v.rest (subst (AllAnswer Answers) v.all answers))
      (each_front (λ (e : Said Ask Reply). IsShort e.reply) v.walked v.rest (subst (Each (λ (e : Said Ask Reply). IsShort e.reply)) v.all short)) v.walks.1 in
      subst (AllName k) (sym v.all) (name_append v.walked v.rest k names (rest_none (lane_past (lane_start image fails_at limit first) v.walked v.to) v.rest v.ends))

-- ---- a core run
-- where fewer teams are made than an ask can number
pub run_told : (p : s.Program) → (limit : ℕ) (coarrays : List Declared) (n : ℕ) (fails_at : ℕ → ℕ) (words : ℕ) (t : List Entry) → list_all has_first_values coarrays ≡ true
    → IsCoreRun (program_rules p limit) (program_begins p coarrays n fails_at words) t → length (teams_after n (at_board t)) ≤ most_team → (i : ℕ) → IsOneOf n i → AllTold [] (said_by i t)
run_told p limit coarrays n fails_at words t declared core few i there =
    let r = program_rules p limit in
    let b = program_begins p coarrays n fails_at words in
    let fit = program_fit p limit coarrays n fails_at words in
    let w = core.walks i there in
    let lawful = core_run_lawful r.step r.hears coarrays n b.first t declared fit core in
    all_told i n (map own_cells (own_coarrays p)) (said_by i t) (core.lawful.joins i)
    (lane_names (told_first p i n) (walk_step p limit) (start_of p i n) (program_names p limit i n) i (fails_at i) words (said_by i t) w.0 (answered_by r b t fit core i)
    (short_all (teams_after n (at_board t)) (said_by i t) few (heard_teams coarrays n t lawful i)) w.1)

-- so each reply answers
pub run_answered : (p : s.Program) → (limit : ℕ) (coarrays : List Declared) (n : ℕ) (fails_at : ℕ → ℕ) (words : ℕ) (t : List Entry) → list_all has_first_values coarrays ≡ true
    → IsCoreRun (program_rules p limit) (program_begins p coarrays n fails_at words) t → length (teams_after n (at_board t)) ≤ most_team → (i : ℕ) → IsOneOf n i → AnswersFrom coarrays n [] (said_by i t)
run_answered p limit coarrays n fails_at words t declared core few i there =
    let r = program_rules p limit in
    let b = program_begins p coarrays n fails_at words in
    let lawful = core_run_lawful r.step r.hears coarrays n b.first t declared (program_fit p limit coarrays n fails_at words) core in
    all_answered coarrays n i t lawful (run_told p limit coarrays n fails_at words t declared core few i there)

-- ---- the next ask
pub image_there : (n i : ℕ) → IsOneOf n i → is_image n i ≡ true
image_there n i there = and_from (nat_le 1 i) (nat_le i n) (le-leb 1 i (let low = there.0 in omega arith)) (le-leb i n there.1)

told_last : (before xs : List (Said Ask Reply)) (e : Said Ask Reply) → AllTold before (xs ++ e ∷ []) → IsTold (before ++ xs) e.ask
told_last before [] e h = subst (λ z. IsTold z e.ask) (sym (append-nil before)) h.0
told_last before (x ∷ xs) e h = subst (λ z. IsTold z e.ask) (append_assoc before (x ∷ []) xs) (told_last (before ++ x ∷ []) xs e h.1)

short_more : (xs : List (Said Ask Reply)) (e : Said Ask Reply) → Each (λ (x : Said Ask Reply). IsShort x.reply) xs → IsShort e.reply → Each (λ (x : Said Ask Reply). IsShort x.reply) (xs ++ e ∷ [])
short_more [] e h s = (s, tt)
short_more (x ∷ xs) e h s = (h.0, short_more xs e h.1 s)

-- an ask has an answer that tells of no team
short_answer : (a : Ask) → (r : Reply) × Answers a r × IsShort r
short_answer (asking.Read o s) = (replies.Dead, tt, tt)
short_answer (asking.Write o s vs) = (replies.Done, tt, tt)
short_answer (asking.Create o c n) = (replies.Done, tt, tt)
short_answer (asking.Delete o c) = (replies.Done, tt, tt)
short_answer (asking.Atomic o op s x y) = (replies.Dead, tt, tt)
short_answer (asking.Lock o s) = (replies.Absent, tt, tt)
short_answer (asking.TryLock o s) = (replies.Absent, tt, tt)
short_answer (asking.Unlock o s) = (replies.Absent, tt, tt)
short_answer (asking.Post o s) = (replies.Absent, tt, tt)
short_answer (asking.Wait o s n) = (replies.Number (pos 0), tt, tt)
short_answer (asking.Query o s) = (replies.Count 0, tt, tt)
short_answer (asking.Mark o) = (replies.Done, tt, tt)
short_answer (asking.Free o s) = (replies.Done, tt, tt)
short_answer (asking.Arrive t k) = (replies.Round 0, tt, tt)
short_answer (asking.Leave t n) = (replies.Left (pos 0) [], tt, tt)
short_answer (asking.Gather t op root kind vs) = (replies.Round 0, tt, tt)
short_answer (asking.Take t n) = (replies.Taken (pos 0) [], tt, tt)
short_answer (asking.Pair js) = (replies.Done, tt, tt)
short_answer asking.Unpair = (replies.Number (pos 0), tt, tt)
short_answer (asking.Enter n) = (replies.Number (pos 0), tt, tt)
short_answer (asking.Exit n) = (replies.Done, tt, tt)
short_answer asking.Gone = (replies.Done, tt, tt)
short_answer (asking.Stop code) = (replies.Done, tt, tt)
short_answer (asking.Failed t) = (replies.Indices [], tt, tt)
short_answer (asking.Stopped t) = (replies.Indices [], tt, tt)
short_answer (asking.Status t n) = (replies.Number (pos 0), tt, tt)
short_answer (asking.Print text) = (replies.Done, tt, tt)
short_answer asking.Memory = (replies.Done, tt, tt)
short_answer asking.Fail = (replies.Done, tt, tt)
short_answer (asking.ErrorStop code) = (replies.Done, tt, tt)
short_answer (asking.Fault kind) = (replies.Done, tt, tt)
short_answer (asking.LimitStatements n) = (replies.Done, tt, tt)
short_answer (asking.LimitWords n) = (replies.Done, tt, tt)
short_answer (asking.LimitStamp n) = (replies.Done, tt, tt)

module _ (p : s.Program) (limit : ℕ) (coarrays : List Declared) (n : ℕ) (fails_at : ℕ → ℕ) (words : ℕ) (t : List Entry) (declared : list_all has_first_values coarrays ≡ true)
    (core : IsCoreRun (program_rules p limit) (program_begins p coarrays n fails_at words) t) (few : length (teams_after n (at_board t)) ≤ most_team) where
  abbrev Lane : Type 0
  Lane = OnLane (Config Act Core)

  abbrev steps : Lane → Move Lane Ask Reply
  steps = lane_step (walk_step p limit)

  -- the next ask of an image names no team but one that it was told
  next_at : (i : ℕ) → IsOneOf n i → (c : Lane) → WalkTo steps (lane_start i (fails_at i) words (start_of p i n)) (said_by i t) c → (a : Ask) (line : ℕ) (k : Reply → Lane) → steps c ≡ asks a line k → IsTold (said_by i t) a
  next_at i there c w a line k at =
      let r = program_rules p limit in
      let b = program_begins p coarrays n fails_at words in
      let fit = program_fit p limit coarrays n fails_at words in
      let lawful = core_run_lawful r.step r.hears coarrays n b.first t declared fit core in
      let y = short_answer a in
      let e : Said Ask Reply = record { ask = a; reply = y.0; line = line } in
      let more = walk_to_more Lane Ask Reply steps (lane_start i (fails_at i) words (start_of p i n)) c (k y.0) (said_by i t) e k w at 0 refl in
      let answers = answers_more (said_by i t) e (answered_by r b t fit core i) y.1 in
      let short = short_more (said_by i t) e (short_all (teams_after n (at_board t)) (said_by i t) few (heard_teams coarrays n t lawful i)) y.2 in
      let joins = (fit.orderly i there).joins (said_by i t ++ e ∷ []) more.0 answers more.1 in
      let names = lane_names (told_first p i n) (walk_step p limit) (start_of p i n) (program_names p limit i n) i (fails_at i) words (said_by i t ++ e ∷ []) more.0 answers short more.1 in
      told_last [] (said_by i t) e (all_told i n (map own_cells (own_coarrays p)) (said_by i t ++ e ∷ []) joins names)

  next_told : (i : ℕ) → IsOneOf n i → (c : Lane) → WalkTo steps (lane_start i (fails_at i) words (start_of p i n)) (said_by i t) c → (a : Ask) (m : Move Lane Ask Reply) → steps c ≡ m → AsksNext m a → IsTold (said_by i t) a
  next_told i there c w a (goes d) at next = absurd next
  next_told i there c w a (asks b line k) at next = subst (IsTold (said_by i t)) (sym next) (next_at i there c w b line k at)
  next_told i there c w a over at next = absurd next

  pub stands_told : (i : ℕ) (a : Ask) → StandsAt p limit coarrays n fails_at words t i a → IsTold (said_by i t) a
  stands_told i a h = next_told i h.image h.config h.walks a (steps h.config) refl h.asks

  -- and so the image is a member at the board of the team that its next ask names
  next_names : (i : ℕ) → IsOneOf n i → (c : Lane) → WalkTo steps (lane_start i (fails_at i) words (start_of p i n)) (said_by i t) c → (a : Ask) (line : ℕ) (k : Reply → Lane) → steps c ≡ asks a line k
      → Names (told_by (told_first p i n) (said_by i t)) a
  next_names i there c w a line k at =
      let r = program_rules p limit in
      let b = program_begins p coarrays n fails_at words in
      let fit = program_fit p limit coarrays n fails_at words in
      let lawful = core_run_lawful r.step r.hears coarrays n b.first t declared fit core in
      let y = short_answer a in
      let e : Said Ask Reply = record { ask = a; reply = y.0; line = line } in
      let more = walk_to_more Lane Ask Reply steps (lane_start i (fails_at i) words (start_of p i n)) c (k y.0) (said_by i t) e k w at 0 refl in
      name_last (said_by i t) (told_first p i n) e
      (lane_names (told_first p i n) (walk_step p limit) (start_of p i n) (program_names p limit i n) i (fails_at i) words (said_by i t ++ e ∷ []) more.0 (answers_more (said_by i t) e (answered_by r b t fit core i) y.1)
      (short_more (said_by i t) e (short_all (teams_after n (at_board t)) (said_by i t) few (heard_teams coarrays n t lawful i)) y.2) more.1)

  named_next : (i : ℕ) → IsOneOf n i → (c : Lane) → WalkTo steps (lane_start i (fails_at i) words (start_of p i n)) (said_by i t) c → (a : Ask) (m : Move Lane Ask Reply) → steps c ≡ m → AsksNext m a → Names (told_by (told_first p i n) (said_by i t)) a
  named_next i there c w a (goes d) at next = absurd next
  named_next i there c w a (asks b line k) at next = subst (Names (told_by (told_first p i n) (said_by i t))) (sym next) (next_names i there c w b line k at)
  named_next i there c w a over at next = absurd next

  pub stands_named : (i : ℕ) (a : Ask) → StandsAt p limit coarrays n fails_at words t i a → Names (told_by (told_first p i n) (said_by i t)) a
  stands_named i a h = named_next i h.image h.config h.walks a (steps h.config) refl h.asks

  pub there_is : (i team : ℕ) → IsOneOf n i → IsIn (told_by (told_first p i n) (said_by i t)) team → (is_image n i && names i (members_at (teams_after n (at_board t)) team)) ≡ true
  there_is i team there told =
      let r = program_rules p limit in
      let b = program_begins p coarrays n fails_at words in
      let lawful = core_run_lawful r.step r.hears coarrays n b.first t declared (program_fit p limit coarrays n fails_at words) core in
      and_from (is_image n i) (names i (members_at (teams_after n (at_board t)) team)) (and_from (nat_le 1 i) (nat_le i n) (le-leb 1 i (let low = there.0 in omega arith)) (le-leb i n there.1))
      (members_told_of p n i (at_board t) (said_by i t) there (heard_teams coarrays n t lawful i) team told)

  -- the board's own ask of an image of the run
  pub board_fits : (i : ℕ) → IsOneOf n i → (a : Ask) → fits_board n (at_board t) i a ≡ true → (is_image n i && fits_board n (at_board t) i a) ≡ true
  board_fits i there a h = and_from (is_image n i) (fits_board n (at_board t) i a) (image_there n i there) h

  -- what an image says next, with some reply, goes on with what it said: departures follow their arrivals, the steps of
  -- its failure are due, and its lane walks so
  pub record Next (i : ℕ) (a : Ask) : Type 0 where
    pub event : Said Ask Reply
    pub is : event.ask ≡ a
    pub joins : Joins (said_by i t ++ event ∷ [])
    pub fails : FailsFrom i (said_by i t ++ event ∷ []) []
    pub to : Lane
    pub walks : Walk steps (lane_start i (fails_at i) words (start_of p i n)) (said_by i t ++ event ∷ []) to

  next_follows : (i : ℕ) → IsOneOf n i → (c : Lane) → WalkTo steps (lane_start i (fails_at i) words (start_of p i n)) (said_by i t) c → (a : Ask) (line : ℕ) (k : Reply → Lane) → steps c ≡ asks a line k
      → Next i a
  next_follows i there c w a line k at =
      let r = program_rules p limit in
      let b = program_begins p coarrays n fails_at words in
      let fit = program_fit p limit coarrays n fails_at words in
      let y = short_answer a in
      let e : Said Ask Reply = record { ask = a; reply = y.0; line = line } in
      let more = walk_to_more Lane Ask Reply steps (lane_start i (fails_at i) words (start_of p i n)) c (k y.0) (said_by i t) e k w at 0 refl in
      let all = answers_more (said_by i t) e (answered_by r b t fit core i) y.1 in
      record {
        event = e;
        is = refl;
        joins = (fit.orderly i there).joins (said_by i t ++ e ∷ []) more.0 all more.1;
        fails = fit.fails i there (said_by i t ++ e ∷ []) more.0 all more.1;
        to = more.0;
        walks = more.1;
      }

  follows_next : (i : ℕ) → IsOneOf n i → (c : Lane) → WalkTo steps (lane_start i (fails_at i) words (start_of p i n)) (said_by i t) c → (a : Ask) (m : Move Lane Ask Reply) → steps c ≡ m → AsksNext m a
      → Next i a
  follows_next i there c w a (goes d) at next = absurd next
  follows_next i there c w a (asks b line k) at next = let r = next_follows i there c w b line k at in record { event = r.event; is = r.is ∙ sym next; joins = r.joins; fails = r.fails; to = r.to; walks = r.walks }
  follows_next i there c w a over at next = absurd next

  pub stands_behind : (i : ℕ) (a : Ask) → StandsAt p limit coarrays n fails_at words t i a → Next i a
  stands_behind i a h = follows_next i h.image h.config h.walks a (steps h.config) refl h.asks

  pub run_lawful : IsLawfulTrace coarrays n t
  run_lawful =
      let r = program_rules p limit in
      let b = program_begins p coarrays n fails_at words in
      core_run_lawful r.step r.hears coarrays n b.first t declared (program_fit p limit coarrays n fails_at words) core

  pub joined_there : (i : ℕ) (a : Ask) → IsDeparture a → StandsAt p limit coarrays n fails_at words t i a → Joined n (at_board t) i (said_by i t) a
  joined_there i a d h = let j = stands_behind i a h in joined_before coarrays n t run_lawful i a d [] j.event j.is j.joins
