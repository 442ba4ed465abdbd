-- By departures, FAILED_IMAGES, STOPPED_IMAGES and IMAGE_STATUS nothing happens.
use Rattle.std.proofs.Common.{◌≡◌, ℕ, true, List, [], ◌∷◌, ◌++◌, refl, ap, ◌∙◌, subst}
use Rattle.std.specs.Prelude.{Option, Some, None}
use Rattle.std.proofs.lemmas.List.{append-nil}
use Rattle.caf_events.specs.declared.ask.Ask.{Ask}
use Rattle.caf_events.specs.declared.ask.Ask.TheVariants as asks
use Rattle.caf_events.specs.declared.reply.Reply.{Reply}
use Rattle.caf_events.specs.declared.event.Entry.{Entry}
use Rattle.object_rules.specs.Happenings.{Happening, Class, control, collective, images, happens, happened}
use Rattle.object_rules.specs.TeamRounds.{arrivals, has_closed}
use Rattle.object_rules.specs.Constructs.{Hold, construct_turn, construct_after}
use Rattle.object_rules.specs.BoardTeams.{teams_after, members_at}
use Rattle.object_rules.proofs.MemoryGrowing.{construct_more}
use Rattle.team_laws.proofs.Rounds.{happened_append}
use Rattle.inert_laws.specs.Silent.{is_silent}
use Rattle.inert_laws.proofs.Quiet.{NoneCloses, NoneJoins, IsQuiet}

module _ (h : List Entry) (e : Entry) (class : Class) where
  -- what happens by the entry
  abbrev pub happens_by : Option Happening
  happens_by = happens class e.image.0 e.event.line e.event.ask e.event.reply

  pub happened_none : happens_by ≡ None → happened class (h ++ e ∷ []) ≡ happened class h
  happened_none none = happened_append class h (e ∷ []) ∙ rw none (append-nil (happened class h))

  pub happened_some : (x : Happening) → happens_by ≡ Some x → happened class (h ++ e ∷ []) ≡ happened class h ++ x ∷ []
  happened_some x some = happened_append class h (e ∷ []) ∙ rw some refl

  -- where nothing happened no round closes, and nobody joins one
  pub none_closes : (n : ℕ) → happened class (h ++ e ∷ []) ≡ happened class h → NoneCloses class n h e
  none_closes n same t r closed = subst (λ hs. has_closed (members_at (teams_after n h) t) t r hs ≡ true) same closed

  pub none_joins : happened class (h ++ e ∷ []) ≡ happened class h → NoneJoins class h e
  none_joins same t j other = ap (arrivals t j) same

nothing : (class : Class) (i line : ℕ) (ask : Ask) (reply : Reply) → is_silent ask ≡ true → happens class i line ask reply ≡ None
nothing control i line (asks.Leave team round) reply s = refl
nothing control i line (asks.Take team round) reply s = refl
nothing control i line asks.Unpair reply s = refl
nothing control i line (asks.Failed team) reply s = refl
nothing control i line (asks.Stopped team) reply s = refl
nothing control i line (asks.Status team index) reply s = refl
nothing collective i line (asks.Leave team round) reply s = refl
nothing collective i line (asks.Take team round) reply s = refl
nothing collective i line asks.Unpair reply s = refl
nothing collective i line (asks.Failed team) reply s = refl
nothing collective i line (asks.Stopped team) reply s = refl
nothing collective i line (asks.Status team index) reply s = refl
nothing images i line (asks.Leave team round) reply s = refl
nothing images i line (asks.Take team round) reply s = refl
nothing images i line asks.Unpair reply s = refl
nothing images i line (asks.Failed team) reply s = refl
nothing images i line (asks.Stopped team) reply s = refl
nothing images i line (asks.Status team index) reply s = refl
nothing class i line ask reply s = absurd (cc)

construct_stays : (c : ℕ) (s : Hold) (i : ℕ) (ask : Ask) → is_silent ask ≡ true → construct_turn c s i ask ≡ s
construct_stays c s i (asks.Leave team round) q = refl
construct_stays c s i (asks.Take team round) q = refl
construct_stays c s i asks.Unpair q = refl
construct_stays c s i (asks.Failed team) q = refl
construct_stays c s i (asks.Stopped team) q = refl
construct_stays c s i (asks.Status team index) q = refl
construct_stays c s i ask q = absurd (cc)

pub silent_quiet : (n : ℕ) (h : List Entry) (e : Entry) → is_silent e.event.ask ≡ true → IsQuiet n h e
silent_quiet n h e s = record {
  control_closes = none_closes h e control n (same control);
  collective_closes = none_closes h e collective n (same collective);
  control_joins = none_joins h e control (same control);
  collective_joins = none_joins h e collective (same collective);
  pairs = same images;
  constructs = λ c. construct_more c h e ∙ construct_stays c (construct_after c h) e.image.0 e.event.ask s;
}
  where
    same : (class : Class) → happened class (h ++ e ∷ []) ≡ happened class h
    same class = happened_none h e class (nothing class e.image.0 e.event.line e.event.ask e.event.reply s)
