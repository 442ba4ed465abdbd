-- What the board keeps, after a step.
use Rattle.std.proofs.Common.{◌≡◌, ℕ, zero, suc, ◌+◌, ◌-◌, ◌^◌, ◌<◌, ◌≤◌, Bool, true, false, ◌||◌, cond, List, [], ◌∷◌, ◌++◌, inl, inr, length, map, replicate, refl, ap, sym, ◌∙◌, subst, arith, length-append, length-set}
use Rattle.std.specs.Prelude.{Option, Some, None, slice_get, slice_index_or}
use Rattle.std.specs.Global.{Vec}
use Rattle.std.proofs.lemmas.Bool.{cases_lt, cases_Bool}
use Rattle.std.proofs.lemmas.List.{append-nil, length-map}
use Rattle.caf_base.specs.declared.place.ImageNo.{ImageNo}
use Rattle.caf_events.specs.Histories.{last_stamp_of}
use Rattle.caf_events.specs.declared.event.Entry.{Entry}
use Rattle.object_rules.specs.Happenings.{Happening, Class, control, collective, images, happens, happened, numbers_of}
use Rattle.object_rules.specs.TeamRounds.{is_arrival, arrivals, at_close}
use Rattle.object_rules.specs.ImagePairs.{names}
use Rattle.object_rules.specs.Constructs.{construct_turn}
use Rattle.object_rules.specs.BoardTeams.{Team, arrives_there, made_by, teams_after, members_at, members_there, closing}
use Rattle.object_rules.specs.BoardRules.{is_image}
use Rattle.object_rules.proofs.Growing.{arrivals_more}
use Rattle.object_rules.proofs.MemoryGrowing.{construct_more}
use Rattle.failure_status.specs.Endings.{Ended, ended_with}
use Rattle.team_round.specs.TeamStates.{TeamState, joined_by, members_in, TellsAll, CanArrive, CanExpect, CanClose, CanEnd}
use Rattle.team_round.proofs.Making.{teams_more, made_none, happened_none, happened_some}
use Rattle.team_round.proofs.Closings.{happened_by, closing_is}
use Rattle.image_sync.specs.Holds.{CriticalsState, hold_in}
use Rattle.image_sync.specs.PairStates.{row_of, TellsSyncs}
use Rattle.team_tree.specs.KnownTeams.{TeamsState, known, all_known, images_from}
use Rattle.control_board.specs.Values.{BroughtState, no_values}
use Rattle.control_board.specs.declared.forming.Given.{Given}
use Rattle.control_board.specs.declared.forming.BadRound.{BadRound}
use Rattle.control_board.specs.declared.forming.Plan.{Plan}
use Rattle.control_board.specs.declared.parts.Parts.{Parts}
use Rattle.control_board.specs.Boards.{IsBoard, HasGrown, PlanFits, IsEnacted, class_of, rounds_in, brings, brought, values_in, values_of, table_of, all_made, are_images, images_of_teams, is_listed, was_bad, bad_now}
use Rattle.control_board.proofs.Members.{at_place, numbers_images, image_within, member_range, rounds_count}
use Rattle.control_board.proofs.Forms.{AreForms, forms_none}
use Rattle.control_board.proofs.Made.{images_append, by_images}
use Rattle.control_board.proofs.Bad.{bad_more, bad_none, none_closed}
use Rattle.control_board.proofs.Bringing.{brought_none, table_values, tables_same, bringers_same}
use Rattle.control_board.proofs.Collecting.{brought_count}
use Rattle.control_board.proofs.Counts.{rounds_joined, pairs_begun, last_more}

-- what holds of both classes
pub both : (A : Bool → Type 0) → A true → A false → (c : Bool) → A c
both A x y true = x
both A x y false = y

-- ---- teams behind the others
get_before : (ts us : List Team) (k : ℕ) → k < length ts → slice_get (ts ++ us) k ≡ slice_get ts k
get_before [] us k l = absurd (omega arith)
get_before (x ∷ xs) us zero l = refl
get_before (x ∷ xs) us (suc k) l = get_before xs us k (omega arith)

pub members_before : (ts us : List Team) (t : ℕ) → t ≤ length ts → members_at (ts ++ us) t ≡ members_at ts t
members_before ts us zero l = refl
members_before ts us (suc k) l = at_place (ts ++ us) (suc k) (omega arith) ∙ ap members_there (get_before ts us (suc k - 1) (omega arith)) ∙ sym (at_place ts (suc k) (omega arith))

get_past : (ts : List Team) (k : ℕ) → length ts ≤ k → members_there (slice_get ts k) ≡ []
get_past [] k l = refl
get_past (x ∷ xs) zero l = absurd (omega arith)
get_past (x ∷ xs) (suc k) l = get_past xs k (omega arith)

members_past : (ts : List Team) (t : ℕ) → length ts < t → members_at ts t ≡ []
members_past ts zero l = refl
members_past ts (suc k) l = at_place ts (suc k) (omega arith) ∙ get_past ts (suc k - 1) (omega arith)

map_append : {A B : Type 0} (f : A → B) (xs ys : List A) → map f (xs ++ ys) ≡ map f xs ++ map f ys
map_append f [] ys = refl
map_append f (x ∷ xs) ys = ap (λ l. f x ∷ l) (map_append f xs ys)

-- who has joined a round of a team is a member, with one more entry
module _ (n : ℕ) (h : List Entry) (e : Entry) (added : List Team) (now : teams_after n (h ++ e ∷ []) ≡ teams_after n h ++ added) where
  still_there : (t i : ℕ) → names i (members_at (teams_after n h) t) ≡ true → names i (members_at (teams_after n (h ++ e ∷ [])) t) ≡ true
  still_there t i m =
      let r = member_range (teams_after n h) t i m in
      ap (λ ts. names i (members_at ts t)) now ∙ ap (names i) (members_before (teams_after n h) added t r.1) ∙ m

  joined_more : (c : Class) (t i : ℕ) → (0 < arrivals t i (happened c h) → names i (members_at (teams_after n h) t) ≡ true)
      → (arrives_there t i (happens c e.image.0 e.event.line e.event.ask e.event.reply) ≡ true → names i (members_at (teams_after n h) t) ≡ true)
      → 0 < arrivals t i (happened c (h ++ e ∷ [])) → names i (members_at (teams_after n (h ++ e ∷ [])) t) ≡ true
  joined_more c t i before here some = still_there t i (by (happens c e.image.0 e.event.line e.event.ask e.event.reply) refl)
    where
      by : (o : Option Happening) → happens c e.image.0 e.event.line e.event.ask e.event.reply ≡ o → names i (members_at (teams_after n h) t) ≡ true
      by None q = before (subst (λ hs. 0 < arrivals t i hs) (happened_none c h e q) some)
      by (Some x) q = elim (cases_Bool (is_arrival t i x)) [
        | inl y ↦ here (ap (arrives_there t i) q ∙ y)
        | inr z ↦ before (
            let s = subst (λ hs. 0 < arrivals t i hs) (happened_some c h e x q) some in
            let w : arrivals t i (happened c h ++ x ∷ []) ≡ arrivals t i (happened c h) + 0 = arrivals_more t i (happened c h) x ∙ ap (λ b. arrivals t i (happened c h) + cond b 1 0) z in
            omega arith)
      ]

-- what is kept goes with one more entry, and with the teams that it makes
module _ (n : ℕ) (h : List Entry) (p q : Parts) (e : Entry) (added : List Team) (b : IsBoard n h p) (made : made_by 1 (teams_after n h) h e ≡ added) (late : last_stamp_of h < e.event.stamp) where
  teams_now : teams_after n (h ++ e ∷ []) ≡ teams_after n h ++ added
  teams_now = teams_more n h e ∙ ap (λ l. teams_after n h ++ l) made

  pub record After : Type 0 where
    pub same : q.images ≡ p.images
    pub runs : (c : Bool) → (rounds_in q c).images ≡ (rounds_in p c).images
    pub teams : q.teams.teams ≡ p.teams.teams ++ all_known added
    pub few : length q.teams.teams < 2 ^ 32
    pub births : q.births.items ≡ p.births.items ++ map (λ (x : Team). x.round) added
    pub members : (c : Bool) → members_in (rounds_in q c).teams ≡ members_in (rounds_in p c).teams ++ images_of_teams added
    pub rounds : (c : Bool) → TellsAll n (rounds_in q c) (happened (class_of c) (h ++ e ∷ []))
    pub joined : (c : Bool) (t i : ℕ) → arrives_there t i (happens (class_of c) e.image.0 e.event.line e.event.ask e.event.reply) ≡ true → names i (members_at (teams_after n h) t) ≡ true
    pub tables : length q.brought.items ≡ length p.brought.items + length added
    pub bringers : (t : ℕ) → 0 < t → t ≤ length q.brought.items → length (table_of q.brought.items t) ≡ n
    pub values : (t i : ℕ) → 0 < t → t ≤ length q.brought.items → 0 < i → i ≤ n → values_of (table_of q.brought.items t) i ≡ brought t i (h ++ e ∷ [])
    pub forms : AreForms q.forms.items (h ++ e ∷ [])
    pub bad : (t r : ℕ) → 0 < r → is_listed q.bad.items t r ≡ was_bad t r (members_at (teams_after n h ++ added) t) (closing control t r (members_at (teams_after n h ++ added) t) (h ++ e ∷ []))
    pub syncs : TellsSyncs n q.pairs (happened images (h ++ e ∷ []))
    pub turned : (c : ℕ) → hold_in q.criticals.constructs c ≡ construct_turn c (hold_in p.criticals.constructs c) e.image.0 e.event.ask

  pub kept_made : After → IsBoard n (h ++ e ∷ []) q
  kept_made a = record {
    run = a.same ∙ b.run;
    runs = λ c. a.runs c ∙ b.runs c;
    teams = a.teams ∙ ap (λ l. l ++ all_known added) b.teams ∙ sym (map_append known (teams_after n h) added) ∙ ap all_known (sym teams_now);
    few = a.few;
    births = a.births ∙ ap (λ l. l ++ map (λ (x : Team). x.round) added) b.births ∙ sym (map_append (λ (x : Team). x.round) (teams_after n h) added) ∙ ap (map (λ (x : Team). x.round)) (sym teams_now);
    members = λ c. a.members c ∙ ap (λ l. l ++ images_of_teams added) (b.members c) ∙ sym (map_append (λ (x : Team). images_from x.members) (teams_after n h) added) ∙ ap (map (λ (x : Team). images_from x.members)) (sym teams_now);
    within = ap (are_images n) teams_now ∙ images_append n (teams_after n h) added b.within (ap (are_images n) (sym made) ∙ by_images n 1 (teams_after n h) h e b.within);
    rounds = a.rounds;
    joined = λ c t i. joined_more n h e added teams_now (class_of c) t i (b.joined c t i) (a.joined c t i);
    tables = a.tables ∙ ap (λ k. k + length added) b.tables ∙ sym (length-append (teams_after n h) added) ∙ ap length (sym teams_now);
    bringers = a.bringers;
    values = a.values;
    forms = a.forms;
    bad = λ t r low. subst (λ ts. is_listed q.bad.items t r ≡ was_bad t r (members_at ts t) (closing control t r (members_at ts t) (h ++ e ∷ []))) (sym teams_now) (a.bad t r low);
    syncs = a.syncs;
    constructs = λ c. a.turned c ∙ ap (λ s. construct_turn c s e.image.0 e.event.ask) (b.constructs c) ∙ sym (construct_more c h e);
    steps = (let s = b.steps in let l = length-append h (e ∷ []) in let m = last_more h e in omega arith);
  }

or_nil : (a : Bool) → (a || false) ≡ a
or_nil true = refl
or_nil false = refl

-- an entry that is nothing to rounds of image control statements: the teams stay
module _ (n : ℕ) (h : List Entry) (p q : Parts) (e : Entry) (b : IsBoard n h p) (none : happens control e.image.0 e.event.line e.event.ask e.event.reply ≡ None) (late : last_stamp_of h < e.event.stamp) where
  pub kept : q.images ≡ p.images → ((c : Bool) → (rounds_in q c).images ≡ (rounds_in p c).images) → q.teams.teams ≡ p.teams.teams → q.births ≡ p.births → ((c : Bool) → members_in (rounds_in q c).teams ≡ members_in (rounds_in p c).teams)
      → ((c : Bool) → TellsAll n (rounds_in q c) (happened (class_of c) (h ++ e ∷ []))) → length q.brought.items ≡ length p.brought.items
      → ((t : ℕ) → 0 < t → t ≤ length p.brought.items → length (table_of q.brought.items t) ≡ n)
      → ((t i : ℕ) → 0 < t → t ≤ length p.brought.items → 0 < i → i ≤ n → values_of (table_of q.brought.items t) i ≡ brought t i (h ++ e ∷ []))
      → q.forms ≡ p.forms → q.bad ≡ p.bad
      → TellsSyncs n q.pairs (happened images (h ++ e ∷ []))
      → ((c : ℕ) → hold_in q.criticals.constructs c ≡ construct_turn c (hold_in p.criticals.constructs c) e.image.0 e.event.ask)
      → ((c : Bool) (t i : ℕ) → arrives_there t i (happens (class_of c) e.image.0 e.event.line e.event.ask e.event.reply) ≡ true → names i (members_at (teams_after n h) t) ≡ true)
      → IsBoard n (h ++ e ∷ []) q
  kept same runs teams births members rounds count bringers values forms bad syncs turned joined =
      kept_made n h p q e [] b (made_none h e none 1 (teams_after n h)) late (record {
        same = same;
        runs = runs;
        teams = teams ∙ sym (append-nil p.teams.teams);
        few = subst (λ ts. length ts < 2 ^ 32) (sym teams) b.few;
        births = ap (λ (v : Vec ℕ). v.items) births ∙ sym (append-nil p.births.items);
        members = λ c. members c ∙ sym (append-nil (members_in (rounds_in p c).teams));
        rounds = rounds;
        joined = joined;
        tables = (let c = count in omega arith);
        bringers = λ t low high. bringers t low (subst (λ k. t ≤ k) count high);
        values = λ t i low high a c. values t i low (subst (λ k. t ≤ k) count high) a c;
        forms = subst (λ (v : Vec Given). AreForms v.items (h ++ e ∷ [])) (sym forms) (forms_none p.forms.items h e (λ t m. ap (arrives_there t m) none) b.forms);
        bad = λ t r low. ap (λ (v : Vec BadRound). is_listed v.items t r) bad
            ∙ b.bad t r low
            ∙ sym (bad_more t r (members_at (teams_after n h) t) h e ∙ ap (λ z. was_bad t r (members_at (teams_after n h) t) (closing control t r (members_at (teams_after n h) t) h) || z) (bad_none t r (members_at (teams_after n h) t) h e none) ∙ or_nil _)
            ∙ ap (λ ts. was_bad t r (members_at ts t) (closing control t r (members_at ts t) (h ++ e ∷ []))) (sym (append-nil (teams_after n h)));
        syncs = syncs;
        turned = turned;
      })

-- ---- an entry of rounds: the parts before the teams are added
none_values : (n k : ℕ) → slice_index_or (values_in (replicate n no_values)) k [] ≡ []
none_values zero k = refl
none_values (suc n) zero = refl
none_values (suc n) (suc k) = none_values n k

none_length : {A : Type 0} (n : ℕ) (x : A) → length (replicate n x) ≡ n
none_length zero x = refl
none_length (suc n) x = ap suc (none_length n x)

table_before : (ts us : List (List BroughtState)) (k : ℕ) → k < length ts → slice_index_or (ts ++ us) k [] ≡ slice_index_or ts k []
table_before [] us k l = absurd (omega arith)
table_before (x ∷ xs) us zero l = refl
table_before (x ∷ xs) us (suc k) l = table_before xs us k (omega arith)

table_past : (ts : List (List BroughtState)) (k j : ℕ) (x : List BroughtState) → length ts ≤ j → j < length ts + k → slice_index_or (ts ++ replicate k x) j [] ≡ x
table_past [] zero j x l u = absurd (omega arith)
table_past [] (suc k) zero x l u = refl
table_past [] (suc k) (suc j) x l u = table_past [] k j x (omega arith) (omega arith)
table_past (y ∷ ys) k zero x l u = absurd (omega arith)
table_past (y ∷ ys) k (suc j) x l u = table_past ys k j x (omega arith) (omega arith)

nothing_there : {A : Type 0} (xs : List A) → length xs ≤ 0 → xs ≡ []
nothing_there [] l = refl
nothing_there (x ∷ xs) l = absurd (omega arith)

none_by : (o : Option (List Entry)) → happened_by control o ≡ None → o ≡ None
none_by None e = refl
none_by (Some f) e = absurd (cc)

-- the parts m are those after the entry, but for the teams that it makes
pub record Middle (n : ℕ) (h : List Entry) (p m : Parts) (e : Entry) : Type 0 where
  pub run : m.images ≡ p.images
  pub runs : (c : Bool) → (rounds_in m c).images ≡ (rounds_in p c).images
  pub teams : m.teams ≡ p.teams
  pub births : m.births ≡ p.births
  pub members : (c : Bool) → members_in (rounds_in m c).teams ≡ members_in (rounds_in p c).teams
  pub rounds : (c : Bool) → TellsAll n (rounds_in m c) (happened (class_of c) (h ++ e ∷ []))
  pub joined : (c : Bool) (t i : ℕ) → arrives_there t i (happens (class_of c) e.image.0 e.event.line e.event.ask e.event.reply) ≡ true → names i (members_at (teams_after n h) t) ≡ true
  pub tables : m.brought ≡ p.brought
  pub no_value : (t i : ℕ) → brings t i e ≡ None
  pub forms : AreForms m.forms.items (h ++ e ∷ [])
  pub bad : (t r : ℕ) → 0 < r → is_listed m.bad.items t r ≡ (is_listed p.bad.items t r || bad_now t r (members_at (teams_after n h) t) h e)
  pub no_new : (t r : ℕ) → length (teams_after n h) < t → bad_now t r (members_at (teams_after n h) t) h e ≡ false
  pub syncs : TellsSyncs n m.pairs (happened images (h ++ e ∷ []))
  pub turned : (c : ℕ) → hold_in m.criticals.constructs c ≡ construct_turn c (hold_in p.criticals.constructs c) e.image.0 e.event.ask

module _ (n : ℕ) (h : List Entry) (p m q : Parts) (e : Entry) (plan : Plan) (b : IsBoard n h p) (fits : PlanFits p plan) (made : made_by 1 (teams_after n h) h e ≡ all_made plan.formations.items) (late : last_stamp_of h < e.event.stamp)
    (mid : Middle n h p m e) (to : IsEnacted m plan q) where
  abbrev new : List Team
  new = all_made plan.formations.items

  tables_now : q.brought.items ≡ p.brought.items ++ replicate (length (all_made plan.formations.items)) (replicate n no_values)
  tables_now = to.tables ∙ ap (λ (v : Vec (List BroughtState)). v.items ++ plan.tables.items) mid.tables ∙ ap (λ l. p.brought.items ++ l) (fits.stock.tables ∙ ap (λ k. replicate (length (all_made plan.formations.items)) (replicate k no_values)) b.run)

  count_now : length q.brought.items ≡ length p.brought.items + length (all_made plan.formations.items)
  count_now = ap length tables_now ∙ length-append p.brought.items _ ∙ ap (λ k. length p.brought.items + k) (none_length (length (all_made plan.formations.items)) (replicate n no_values))

  old_table : (t : ℕ) → 0 < t → t ≤ length p.brought.items → table_of q.brought.items t ≡ table_of p.brought.items t
  old_table t low high = ap (λ ts. table_of ts t) tables_now ∙ table_before p.brought.items _ (t - 1) (omega arith)

  new_table : (t : ℕ) → length p.brought.items < t → t ≤ length q.brought.items → table_of q.brought.items t ≡ replicate n no_values
  new_table t low high = ap (λ ts. table_of ts t) tables_now ∙ table_past p.brought.items (length (all_made plan.formations.items)) (t - 1) (replicate n no_values) (omega arith) (let c = count_now in omega arith)

  nothing_brought : (t i : ℕ) → length p.brought.items < t → brought t i h ≡ []
  nothing_brought t i low =
      let c = rounds_count n h p b true in
      let d = b.tables in
      let f = ((b.rounds true).fresh t [] (omega arith)).few i in
      nothing_there (brought t i h) (let k = brought_count t i h in omega arith)

  in_turn : (t : ℕ) (P : Type 0) → (t ≤ length p.brought.items → P) → (length p.brought.items < t → P) → P
  in_turn t P x y = elim (cases_lt (length p.brought.items) t) [ inl l ↦ y l | inr g ↦ x g ]

  bad_past : (t r : ℕ) → 0 < r → length (teams_after n h) < t → is_listed q.bad.items t r ≡ was_bad t r (members_at (teams_after n h ++ all_made plan.formations.items) t) (closing control t r (members_at (teams_after n h ++ all_made plan.formations.items) t) (h ++ e ∷ []))
  bad_past t r low past =
      let ks = members_at (teams_after n h ++ all_made plan.formations.items) t in
      let c = rounds_count n h p b false in
      let d : length m.control.teams ≡ length p.control.teams = sym (length-map m.control.teams (λ (x : TeamState). x.members)) ∙ ap length (mid.members false) ∙ length-map p.control.teams (λ (x : TeamState). x.members) in
      let u = ((mid.rounds false).fresh t (images_from ks) (omega arith)).unclosed (r - 1) (omega arith) in
      let s : suc (r - 1) ≡ r = omega arith in
      let none : closing control t r ks (h ++ e ∷ []) ≡ None = none_by (closing control t r ks (h ++ e ∷ []))
      (closing_is control t r ks (h ++ e ∷ []) ∙ ap (λ ls. at_close ls t r (happened control (h ++ e ∷ []))) (sym (numbers_images ks)) ∙ ap (λ k. at_close (numbers_of (images_from ks)) t k (happened control (h ++ e ∷ []))) (sym s) ∙ u) in
      ap (λ (v : Vec BadRound). is_listed v.items t r) to.bad ∙ mid.bad t r low ∙ ap (λ z. is_listed p.bad.items t r || z) (mid.no_new t r past) ∙ or_nil (is_listed p.bad.items t r)
      ∙ b.bad t r low ∙ ap (λ ls. was_bad t r ls (closing control t r ls h)) (members_past (teams_after n h) t past) ∙ none_closed t r h
      ∙ sym (ap (was_bad t r ks) none)

  bad_before : (t r : ℕ) → 0 < r → t ≤ length (teams_after n h) → is_listed q.bad.items t r ≡ was_bad t r (members_at (teams_after n h ++ all_made plan.formations.items) t) (closing control t r (members_at (teams_after n h ++ all_made plan.formations.items) t) (h ++ e ∷ []))
  bad_before t r low high =
      let ks = members_at (teams_after n h) t in
      ap (λ (v : Vec BadRound). is_listed v.items t r) to.bad ∙ mid.bad t r low ∙ ap (λ z. z || bad_now t r ks h e) (b.bad t r low) ∙ sym (bad_more t r ks h e)
      ∙ ap (λ ls. was_bad t r ls (closing control t r ls (h ++ e ∷ []))) (sym (members_before (teams_after n h) (all_made plan.formations.items) t high))

  pub enacted : IsBoard n (h ++ e ∷ []) q
  enacted = kept_made n h p q e (all_made plan.formations.items) b made late (record {
    same = to.images ∙ mid.run;
    runs = both _ (to.collective.images ∙ mid.runs true) (to.control.images ∙ mid.runs false);
    teams = to.teams ∙ ap (λ (s : TeamsState). s.teams ++ all_known (all_made plan.formations.items)) mid.teams;
    few = (
        let c : length q.teams.teams ≡ length p.teams.teams + length (all_made plan.formations.items) = ap length (to.teams ∙ ap (λ (s : TeamsState). s.teams ++ all_known (all_made plan.formations.items)) mid.teams) ∙ length-append p.teams.teams (all_known (all_made plan.formations.items)) ∙ ap (λ k. length p.teams.teams + k) (length-map (all_made plan.formations.items) known) in
        let f = fits.room.numbers in
        subst (λ k. k < 2 ^ 32) (sym c) f);
    births = to.births ∙ ap (λ (v : Vec ℕ). v.items ++ map (λ (x : Team). x.round) (all_made plan.formations.items)) mid.births;
    members = both _ (to.collective.members ∙ ap (λ l. l ++ map (λ (v : Vec ImageNo). v.items) plan.collective.items) (mid.members true) ∙ ap (λ l. members_in p.collective.teams ++ l) fits.stock.collective)
        (to.control.members ∙ ap (λ l. l ++ map (λ (v : Vec ImageNo). v.items) plan.control.items) (mid.members false) ∙ ap (λ l. members_in p.control.teams ++ l) fits.stock.control);
    rounds = both _ (
        let r : m.collective.images ≡ n = mid.runs true ∙ b.runs true in
        subst (λ k. TellsAll k q.collective (happened collective (h ++ e ∷ []))) (to.collective.images ∙ r) (to.collective.told (happened collective (h ++ e ∷ [])) (subst (λ k. TellsAll k m.collective (happened collective (h ++ e ∷ []))) (sym r) (mid.rounds true))))
        (
        let r : m.control.images ≡ n = mid.runs false ∙ b.runs false in
        subst (λ k. TellsAll k q.control (happened control (h ++ e ∷ []))) (to.control.images ∙ r) (to.control.told (happened control (h ++ e ∷ [])) (subst (λ k. TellsAll k m.control (happened control (h ++ e ∷ []))) (sym r) (mid.rounds false))));
    joined = mid.joined;
    tables = count_now;
    bringers = λ t low high. in_turn t (length (table_of q.brought.items t) ≡ n) (λ l. ap length (old_table t low l) ∙ b.bringers t low l) (λ g. ap length (new_table t g high) ∙ none_length n no_values);
    values = λ t i low high a c. in_turn t (values_of (table_of q.brought.items t) i ≡ brought t i (h ++ e ∷ []))
        (λ l. ap (λ bs. values_of bs i) (old_table t low l) ∙ b.values t i low l a c ∙ sym (brought_none t i h e (mid.no_value t i)))
        (λ g. ap (λ bs. values_of bs i) (new_table t g high) ∙ none_values n (i - 1) ∙ sym (brought_none t i h e (mid.no_value t i) ∙ nothing_brought t i g));
    forms = subst (λ (v : Vec Given). AreForms v.items (h ++ e ∷ [])) (sym to.forms) mid.forms;
    bad = λ t r low. elim (cases_lt (length (teams_after n h)) t) [ inl l ↦ bad_past t r low l | inr g ↦ bad_before t r low g ];
    syncs = subst (λ x. TellsSyncs n x (happened images (h ++ e ∷ []))) (sym to.pairs) mid.syncs;
    turned = λ c. ap (λ (x : CriticalsState). hold_in x.constructs c) to.criticals ∙ mid.turned c;
  })

-- ---- what the calls ask
module _ (n : ℕ) (h : List Entry) (p : Parts) (b : IsBoard n h p) (i : ℕ) (image : is_image n i ≡ true) where
  pub in_run : (0 < i) × (i ≤ n)
  in_run = image_within n i image

  pub in_rounds : (c : Bool) (t : ℕ) (x : TeamState) → slice_get (rounds_in p c).teams (t - 1) ≡ Some x → (0 < i) × (i ≤ length x.joined)
  in_rounds c t x at = let r = in_run in let s = (b.rounds c).sizes (t - 1) x at in let high : i ≤ n = r.1 in (r.0, omega arith)

  pub joined_is : (c : Bool) (k : ℕ) (x : TeamState) → slice_get (rounds_in p c).teams k ≡ Some x → joined_by x.joined i ≤ length h
  joined_is c k x at =
      let r = in_run in
      let high : i ≤ n = r.1 in
      let s = (b.rounds c).sizes k x at in
      let d = ((b.rounds c).told k x at).counts i r.0 (omega arith) in
      let f = rounds_joined (class_of c) (suc k) i h in
      omega arith

  known_is : (c : Bool) (k : ℕ) (x : TeamState) → slice_get (rounds_in p c).teams k ≡ Some x → joined_by x.joined i ≤ length x.rounds
  known_is c k x at =
      let r = in_run in
      let high : i ≤ n = r.1 in
      let s = (b.rounds c).sizes k x at in
      let d = ((b.rounds c).told k x at).counts i r.0 (omega arith) in
      let f = ((b.rounds c).told k x at).few i in
      omega arith

  pub can_arrive : (c : Bool) (t : ℕ) → length h < 2 ^ 62 → ((x : TeamState) → slice_get (rounds_in p c).teams (t - 1) ≡ Some x → 0 < x.room) → (x : TeamState) → slice_get (rounds_in p c).teams (t - 1) ≡ Some x → CanArrive (rounds_in p c).ended x i
  can_arrive c t few room x at = record {
    image = in_rounds c t x at;
    few = (let j = joined_is c (t - 1) x at in omega (arith, few));
    known = known_is c (t - 1) x at;
    has_room = room x at;
    stopped = (b.rounds c).ended_told.stopped_count ∙ sym ((b.rounds c).sizes (t - 1) x at);
    failed = (b.rounds c).ended_told.failed_count ∙ sym ((b.rounds c).sizes (t - 1) x at);
  }

  pub can_expect : (c : Bool) (t : ℕ) → length h + 1 < 2 ^ 64 → (x : TeamState) → slice_get (rounds_in p c).teams (t - 1) ≡ Some x → CanExpect x i
  can_expect c t few x at = record {
    image = in_rounds c t x at;
    few = (let j = joined_is c (t - 1) x at in omega (arith, few));
  }

  marks_stay : (was : Ended) (failed : Bool) → (length (ended_with was i failed).stopped ≡ length was.stopped) × (length (ended_with was i failed).failed ≡ length was.failed)
  marks_stay was true = (refl, length-set was.failed (i - 1) true)
  marks_stay was false = (length-set was.stopped (i - 1) true, refl)

  pub can_end : (c failed : Bool) (k : ℕ) (x : TeamState) → slice_get (rounds_in p c).teams k ≡ Some x → CanEnd (ended_with (rounds_in p c).ended i failed) x i
  can_end c failed k x at =
      let r = in_run in
      let s = (b.rounds c).sizes k x at in
      let high : i ≤ n = r.1 in
      let m = marks_stay (rounds_in p c).ended failed in
      record {
        image = (r.0, omega arith);
        known = known_is c k x at;
        stopped = m.0 ∙ (b.rounds c).ended_told.stopped_count ∙ sym s;
        failed = m.1 ∙ (b.rounds c).ended_told.failed_count ∙ sym s;
      }

  pub in_stopped : (c : Bool) → (0 < i) × (i ≤ length (rounds_in p c).ended.stopped)
  in_stopped c = let r = in_run in let d = (b.rounds c).ended_told.stopped_count in let high : i ≤ n = r.1 in (r.0, omega arith)

  pub in_failed : (c : Bool) → (0 < i) × (i ≤ length (rounds_in p c).ended.failed)
  in_failed c = let r = in_run in let d = (b.rounds c).ended_told.failed_count in let high : i ≤ n = r.1 in (r.0, omega arith)

  pub in_rows : (0 < i) × (i ≤ length p.pairs.rows)
  in_rows = let r = in_run in let c = b.syncs.images in let high : i ≤ n = r.1 in (r.0, omega arith)

  pub in_brought : (t : ℕ) → 0 < t → t ≤ length p.brought.items → (0 < i) × (i ≤ length (table_of p.brought.items t))
  in_brought t low top = let r = in_run in let c = b.bringers t low top in let high : i ≤ n = r.1 in (r.0, omega arith)

  pub can_close : (c : Bool) → length h + 1 < 2 ^ 64 → (k : ℕ) (x : TeamState) → slice_get (rounds_in p c).teams k ≡ Some x → CanClose (rounds_in p c).ended x i
  can_close c few k x at = record {
    image = (let r = in_run in let s = (b.rounds c).sizes k x at in let high : i ≤ n = r.1 in (r.0, omega arith));
    few = (let j = joined_is c k x at in omega (arith, few));
    stopped = (b.rounds c).ended_told.stopped_count ∙ sym ((b.rounds c).sizes k x at);
    failed = (b.rounds c).ended_told.failed_count ∙ sym ((b.rounds c).sizes k x at);
  }

  -- a set that can be named is of the run, and there is a number left for the SYNC IMAGES
  pub begun_few : length h < 2 ^ 62 → (row_of p.pairs.rows i).begun < 2 ^ 62
  begun_few few = let r = in_run in let c = b.syncs.rows_told.begun i r.0 r.1 in let f = pairs_begun images i h in omega (arith, few)

-- room that was made changes nothing that is told
pub room_made : (n : ℕ) (h : List Entry) (p q : Parts) → IsBoard n h p → HasGrown p q → IsBoard n h q
room_made n h p q b g = record {
  run = g.images ∙ b.run;
  runs = λ c. g.runs c ∙ b.runs c;
  teams = g.teams ∙ b.teams;
  few = subst (λ ts. length ts < 2 ^ 32) (sym g.teams) b.few;
  births = g.births ∙ b.births;
  members = λ c. g.members c ∙ b.members c;
  within = b.within;
  rounds = λ c. g.rounds c n (happened (class_of c) h) (b.rounds c);
  joined = b.joined;
  tables = tables_same q.brought.items p.brought.items g.tables ∙ b.tables;
  bringers = λ t low high. bringers_same (table_of q.brought.items t) (table_of p.brought.items t) (table_values q.brought.items p.brought.items (t - 1) g.tables) ∙ b.bringers t low (subst (λ k. t ≤ k) (tables_same q.brought.items p.brought.items g.tables) high);
  values = λ t i low high a c. ap (λ vs. slice_index_or vs (i - 1) []) (table_values q.brought.items p.brought.items (t - 1) g.tables) ∙ b.values t i low (subst (λ k. t ≤ k) (tables_same q.brought.items p.brought.items g.tables) high) a c;
  forms = subst (λ gs. AreForms gs h) (sym g.forms) b.forms;
  bad = λ t r low. ap (λ bs. is_listed bs t r) g.bad ∙ b.bad t r low;
  syncs = subst (λ x. TellsSyncs n x (happened images h)) (sym g.pairs) b.syncs;
  constructs = λ c. ap (λ cs. hold_in cs c) g.criticals ∙ b.constructs c;
  steps = b.steps;
}
