-- Which reply answers an ask of an image, after what the image said and heard so far.
use Rattle.std.specs.Prelude.{ℕ, ℤ, pos, Bool, IsTrue, true, false, ◌&&◌, ◌||◌, nat_eq, nat_le, nat_lt, cond, List, [], ◌∷◌, ◌++◌, length, Option, Some, None, slice_get}
use Rattle.std.specs.List.{list_any, list_all, range_with_len}
use Rattle.std.specs.Ordering.{int_eq}
use Rattle.caf_base.specs.declared.value.Value.{Value}
use Rattle.caf_base.specs.Spans.{offsets_of}
use Rattle.caf_events.specs.declared.ask.Ask.{Ask}
use Rattle.caf_events.specs.declared.ask.Ask.TheVariants as asks
use Rattle.caf_events.specs.declared.reply.Reply.{Reply}
use Rattle.caf_events.specs.declared.reply.Reply.TheVariants as replies
use Rattle.caf_events.specs.declared.reply.FormedTeam.{FormedTeam}
use Rattle.caf_events.specs.declared.round.Arriving.TheVariants as arrivings
use Rattle.trace_theory.specs.Machines.{Said}
use Rattle.object_rules.specs.Happenings.{numbers_of}
use Rattle.object_rules.specs.ImagePairs.{names}
use Rattle.object_rules.specs.BoardRules.{all_differ}
use Rattle.object_rules.specs.Folds.{is_of_kind}
use Rattle.object_rules.specs.Cells.{Content, of_kind, Declared}

-- the status is one of these
abbrev pub is_one_of : List ℤ → ℤ → Bool
is_one_of ss s = list_any (int_eq s) ss

-- the members of a team as the replies tell them: all n images for team 1, else those of the last reply that has the
-- team
abbrev pub members_in : List ℕ → ℕ → List FormedTeam → List ℕ
members_in ms t [] = ms
members_in ms t (x ∷ xs) = members_in (cond (nat_eq x.team.0 t) (numbers_of x.members) ms) t xs

abbrev pub members_by : List ℕ → ℕ → Reply → List ℕ
members_by ms t (replies.Left status teams) = members_in ms t teams
members_by ms t reply = ms

abbrev pub members_from : List ℕ → ℕ → List (Said Ask Reply) → List ℕ
members_from ms t [] = ms
members_from ms t (e ∷ es) = members_from (members_by ms t e.reply) t es

abbrev pub members_told : ℕ → List (Said Ask Reply) → ℕ → List ℕ
members_told n es t = cond (nat_eq t 1) (range_with_len 1 n) (members_from [] t es)

-- what the image said and heard directly before
abbrev pub last_event : Option (Said Ask Reply) → List (Said Ask Reply) → Option (Said Ask Reply)
last_event o [] = o
last_event o (e ∷ es) = last_event (Some e) es

-- whether an image formed teams last, and the collective that it joined last: the kind and how many values it brought
abbrev pub forms_team : Ask → Bool
forms_team (asks.Arrive team (arrivings.Form number new_index)) = true
forms_team ask = false

abbrev pub formed_last : Option (Said Ask Reply) → Bool
formed_last None = false
formed_last (Some e) = forms_team e.ask

abbrev pub fits_gather : List Value → Ask → Bool
fits_gather vs (asks.Gather team op root kind values) = nat_eq (length vs) (length values) && list_all (is_of_kind kind) vs
fits_gather vs ask = false

abbrev pub fits_last : List Value → Option (Said Ask Reply) → Bool
fits_last vs None = false
fits_last vs (Some e) = fits_gather vs e.ask

-- the images of all these teams
abbrev pub all_members : List FormedTeam → List ℕ
all_members [] = []
all_members (x ∷ xs) = numbers_of x.members ++ all_members xs

-- each team has a member, the members are members of the parent, and none stands twice
abbrev pub are_teams : List ℕ → List FormedTeam → Bool
are_teams parent teams = list_all (λ x. nat_le 1 (length x.members)) teams && (list_all (λ m. names m parent) (all_members teams) && all_differ (all_members teams))

-- the teams of a departure: none where the status forbids them or the round was no FORM TEAM
abbrev pub may_have_teams : ℤ → Option (Said Ask Reply) → Bool
may_have_teams status last = formed_last last && is_one_of (pos 0 ∷ pos 6001 ∷ []) status

-- the indices rise and are some of the team's
abbrev pub are_indices : ℕ → ℕ → List ℕ → Bool
are_indices least size [] = true
are_indices least size (k ∷ ks) = nat_lt least k && (nat_le k size && are_indices k size ks)

-- a value is of the coarray's type and kind
abbrev pub is_of_content : Content → Value → Bool
is_of_content (of_kind k) v = is_of_kind k v
is_of_content content v = false

abbrev pub is_held : Option Declared → Value → Bool
is_held None v = false
is_held (Some d) v = is_of_content d.content v

-- the reply answers the ask of an image of a run of n images with these coarrays, after what the image said and heard
abbrev pub answers : List Declared → ℕ → List (Said Ask Reply) → Ask → Reply → Bool
answers s n es (asks.Read owner span) (replies.Values vs) = nat_eq (length vs) (length (offsets_of span)) && list_all (is_held (slice_get s span.coarray)) vs
answers s n es (asks.Read owner span) replies.Dead = true
answers s n es (asks.Read owner span) replies.Absent = true
answers s n es (asks.Write owner span values) replies.Done = true
answers s n es (asks.Write owner span values) replies.Dead = true
answers s n es (asks.Write owner span values) replies.Absent = true
answers s n es (asks.Create owner coarray cells) replies.Done = true
answers s n es (asks.Delete owner coarray) replies.Done = true
answers s n es (asks.Atomic owner op span x y) (replies.Old v) = is_held (slice_get s span.coarray) v
answers s n es (asks.Atomic owner op span x y) replies.Dead = true
answers s n es (asks.Atomic owner op span x y) replies.Absent = true
answers s n es (asks.Atomic owner op span x y) replies.Overflow = true
answers s n es (asks.Lock owner span) (replies.Number status) = is_one_of (pos 0 ∷ pos 6001 ∷ pos 6002 ∷ pos 6003 ∷ []) status
answers s n es (asks.Lock owner span) replies.Absent = true
answers s n es (asks.TryLock owner span) (replies.Number status) = is_one_of (pos 0 ∷ pos 6001 ∷ pos 6002 ∷ pos 6003 ∷ []) status
answers s n es (asks.TryLock owner span) replies.Absent = true
answers s n es (asks.TryLock owner span) replies.Busy = true
answers s n es (asks.Unlock owner span) (replies.Number status) = is_one_of (pos 0 ∷ pos 6001 ∷ pos 6004 ∷ pos 6005 ∷ []) status
answers s n es (asks.Unlock owner span) replies.Absent = true
answers s n es (asks.Post owner span) (replies.Number status) = is_one_of (pos 0 ∷ pos 6001 ∷ []) status
answers s n es (asks.Post owner span) replies.Absent = true
answers s n es (asks.Wait owner span threshold) (replies.Number status) = is_one_of (pos 0 ∷ []) status
answers s n es (asks.Query owner span) (replies.Count count) = true
answers s n es (asks.Mark owner) replies.Done = true
answers s n es (asks.Free owner span) replies.Done = true
answers s n es (asks.Free owner span) replies.Dead = true
answers s n es (asks.Free owner span) replies.Absent = true
answers s n es (asks.Arrive team arriving) (replies.Round round) = true
answers s n es (asks.Arrive team arriving) (replies.Clash image line) = true
answers s n es (asks.Leave team round) (replies.Left status teams) =
    is_one_of (pos 0 ∷ pos 6000 ∷ pos 6001 ∷ pos 6006 ∷ []) status && (nat_eq (length teams) 0 || (may_have_teams status (last_event None es) && are_teams (members_told n es team.0) teams))
answers s n es (asks.Gather team op root kind values) (replies.Round round) = true
answers s n es (asks.Gather team op root kind values) (replies.Clash image line) = true
answers s n es (asks.Take team round) (replies.Taken status vs) =
    is_one_of (pos 0 ∷ pos 6000 ∷ pos 6001 ∷ pos 6006 ∷ []) status && cond (int_eq status (pos 0)) (fits_last vs (last_event None es)) (nat_eq (length vs) 0)
answers s n es (asks.Pair images) replies.Done = true
answers s n es asks.Unpair (replies.Number status) = is_one_of (pos 0 ∷ pos 6000 ∷ pos 6001 ∷ []) status
answers s n es (asks.Enter construct) (replies.Number status) = is_one_of (pos 0 ∷ pos 6001 ∷ []) status
answers s n es (asks.Exit construct) replies.Done = true
answers s n es asks.Gone replies.Done = true
answers s n es (asks.Stop code) replies.Done = true
answers s n es (asks.Failed team) (replies.Indices ks) = are_indices 0 (length (members_told n es team.0)) ks
answers s n es (asks.Stopped team) (replies.Indices ks) = are_indices 0 (length (members_told n es team.0)) ks
answers s n es (asks.Status team index) (replies.Number status) = is_one_of (pos 0 ∷ pos 6000 ∷ pos 6001 ∷ []) status
answers s n es (asks.Print text) replies.Done = true
answers s n es asks.Memory replies.Done = true
answers s n es asks.Fail replies.Done = true
answers s n es (asks.ErrorStop code) replies.Done = true
answers s n es (asks.Fault kind) replies.Done = true
answers s n es (asks.LimitStatements number) replies.Done = true
answers s n es (asks.LimitWords number) replies.Done = true
answers s n es (asks.LimitStamp number) replies.Done = true
answers s n es ask reply = false

-- each reply answers its ask, after what the image said and heard before
abbrev pub AnswersFrom : List Declared → ℕ → List (Said Ask Reply) → List (Said Ask Reply) → Type 0
AnswersFrom s n before [] = Unit {0}
AnswersFrom s n before (e ∷ es) = IsTrue (answers s n before e.ask e.reply) × AnswersFrom s n (before ++ e ∷ []) es
