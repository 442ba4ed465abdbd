-- The close of a round and of SYNC IMAGES, and the images that were gone by it (ISO/IEC 1539-1:2018, 11.6.3, 11.6.4,
-- 11.6.11).
use Rattle.std.specs.Prelude.{ℕ, Bool, true, false, ◌&&◌, ◌||◌, not, nat_eq, nat_le, cond, List, [], ◌∷◌, ◌++◌, map}
use Rattle.std.specs.List.{list_all, filter}
use Rattle.caf_events.specs.declared.ask.Ask.{Ask}
use Rattle.caf_events.specs.declared.ask.Ask.TheVariants as asks
use Rattle.caf_events.specs.declared.reply.Reply.{Reply}
use Rattle.caf_events.specs.declared.reply.Reply.TheVariants as replies
use Rattle.caf_events.specs.declared.reply.FormedTeam.{FormedTeam}
use Rattle.caf_events.specs.declared.event.Entry.{Entry}
use Rattle.object_rules.specs.Happenings.{control, images, happened, has_ended}
use Rattle.object_rules.specs.TeamRounds.{arrivals, has_closed}
use Rattle.object_rules.specs.ImagePairs.{pairs_of, naming, last_named}
use Rattle.core_runs.specs.Beginnings.{numbers_to}

-- the ask by which an image's failure is known to all (5.3.6)
abbrev pub is_gone : Ask → Bool
is_gone asks.Gone = true
is_gone ask = false

-- an entry by which image i is gone
abbrev pub goes : ℕ → Entry → Bool
goes i e = nat_eq e.image.0 i && is_gone e.event.ask

-- image i is gone, or has stopped, after these entries
abbrev pub is_over : ℕ → List Entry → Bool
is_over i g = has_ended i (happened control g)

-- how many rounds of team t image i has joined
abbrev pub joined_by : ℕ → ℕ → List Entry → ℕ
joined_by t i g = arrivals t i (happened control g)

-- the members of a team among those of which a reply tells, else these
abbrev pub told : ℕ → List FormedTeam → List ℕ → List ℕ
told t [] js = js
told t (x ∷ xs) js = cond (nat_eq x.team.0 t) (map (λ i. i.0) x.members) (told t xs js)

-- the same of the teams of a departure (11.6.9)
abbrev pub told_by : ℕ → Reply → List ℕ → List ℕ
told_by t (replies.Left status teams) js = told t teams js
told_by t reply js = js

-- the members of a team that FORM TEAM made, as the first departure tells them that names it
abbrev pub formed : ℕ → List Entry → List ℕ
formed t [] = []
formed t (e ∷ es) = told_by t e.event.reply (formed t es)

-- the members of a team of a run of n images: all of them, where it is the initial team
abbrev pub members : ℕ → ℕ → List Entry → List ℕ
members n t g = cond (nat_eq t 1) (numbers_to n) (formed t g)

-- image j has arrived in the round, is gone or has stopped
abbrev pub has_come : ℕ → ℕ → List Entry → ℕ → Bool
has_come t k g j = nat_le k (joined_by t j g) || is_over j g

-- round k of team t has closed
abbrev pub round_closed : ℕ → ℕ → ℕ → List Entry → Bool
round_closed n t k g = has_closed (members n t g) t k (happened control g)

-- the images that image i named in its last SYNC IMAGES
abbrev pub named : ℕ → List Entry → List ℕ
named i g = last_named i (happened images g)

-- by the entries b the last SYNC IMAGES that image i began in g has closed: it stands there, and each image that it
-- names has named i as often as i has named it, is gone or has stopped
abbrev pub pair_closed : List Entry → ℕ → List Entry → Bool
pair_closed g i b =
    nat_le (pairs_of i (happened images g)) (pairs_of i (happened images b))
    && list_all (λ j. nat_le (naming i j (happened images g)) (naming j i (happened images b)) || is_over j b) (named i g)

-- among the entries es after b there is one by which image j is gone, and before it this had not closed
abbrev pub gone_from : (List Entry → Bool) → ℕ → List Entry → List Entry → Bool
gone_from closed j b [] = false
gone_from closed j b (e ∷ es) = (goes j e && not (closed b)) || gone_from closed j (b ++ e ∷ []) es

-- image j was gone by the close
abbrev pub gone_by : (List Entry → Bool) → List Entry → ℕ → Bool
gone_by closed g j = gone_from closed j [] g

-- the members of a team that were gone by the close of its round k
abbrev pub gone_members : ℕ → ℕ → ℕ → List Entry → List ℕ
gone_members n t k g = filter (gone_by (round_closed n t k) g) (members n t g)

-- the images that image i named in its last SYNC IMAGES and that were gone by its close
abbrev pub gone_named : ℕ → List Entry → List ℕ
gone_named i g = filter (gone_by (pair_closed g i) g) (named i g)
