-- What happens at the board is all that happens, and images stop and fail alike in all that is counted there.
use Rattle.std.proofs.Common.{◌≡◌, ℕ, Bool, false, nat_eq, ◌||◌, List, [], ◌∷◌, inl, inr, refl, ap, sym, ◌∙◌}
use Rattle.std.specs.Prelude.{None}
use Rattle.std.specs.List.{list_any}
use Rattle.std.proofs.lemmas.Bool.{cases_Bool}
use Rattle.caf_events.specs.declared.ask.Ask.{Ask}
use Rattle.caf_events.specs.declared.ask.Ask.TheVariants as asks
use Rattle.caf_events.specs.declared.reply.Reply.{Reply}
use Rattle.caf_events.specs.declared.reply.Reply.TheVariants as replies
use Rattle.caf_events.specs.declared.event.Entry.{Entry}
use Rattle.caf_events.specs.Asks.{place_of, object_of}
use Rattle.object_rules.specs.Happenings.{Happening, arrives, Class, control, collective, images, joining, happens, happened, has_stopped, has_failed, has_ended}
use Rattle.core_runs.specs.Lists.{key_of}
use Rattle.core_runs.specs.CoreRuns.{at_board}
use Rattle.wait_reason.proofs.Counts.{with_one, picked_one}

-- nothing happens elsewhere than at the board
happens_elsewhere : (class : Class) (i line : ℕ) (a : Ask) (r : Reply) → nat_eq (object_of (place_of a)) 1 ≡ false → happens class i line a r ≡ None
happens_elsewhere control i line (asks.Arrive team arriving) r h = absurd (cc)
happens_elsewhere control i line (asks.Stop code) r h = absurd (cc)
happens_elsewhere control i line asks.Gone r h = absurd (cc)
happens_elsewhere collective i line (asks.Gather team op root kind values) r h = absurd (cc)
happens_elsewhere collective i line (asks.Stop code) r h = absurd (cc)
happens_elsewhere collective i line asks.Gone r h = absurd (cc)
happens_elsewhere images i line (asks.Pair named) r h = absurd (cc)
happens_elsewhere images i line (asks.Stop code) r h = absurd (cc)
happens_elsewhere images i line asks.Gone r h = absurd (cc)
happens_elsewhere control i line a r h = refl
happens_elsewhere collective i line a r h = refl
happens_elsewhere images i line a r h = refl

pub happened_all : (class : Class) (t : List Entry) → happened class (at_board t) ≡ happened class t
happened_all class [] = refl
happened_all class (e ∷ es) =
    let o = happens class e.image.0 e.event.line e.event.ask e.event.reply in
    elim (cases_Bool (nat_eq (key_of e) 1)) [
      | inl y ↦ rw y (picked_one class e (at_board es) o refl ∙ ap (with_one o) (happened_all class es) ∙ sym (picked_one class e es o refl))
      | inr f ↦ rw f (happened_all class es ∙ sym (picked_one class e es None (happens_elsewhere class e.image.0 e.event.line e.event.ask e.event.reply f)))
    ]

-- an ask by which image j stops, and one by which it fails
abbrev pub stops_by : ℕ → ℕ → Ask → Bool
stops_by j i (asks.Stop code) = nat_eq i j
stops_by j i a = false

abbrev pub fails_by : ℕ → ℕ → Ask → Bool
fails_by j i asks.Gone = nat_eq i j
fails_by j i a = false

joined_stops : (j : ℕ) (r : Reply) (t i : ℕ) (k : _) (l : ℕ) (hs : List Happening) → has_stopped j (with_one (joining r (arrives t i k l)) hs) ≡ has_stopped j hs
joined_stops j (replies.Round n) t i k l hs = refl
joined_stops j r t i k l hs = refl

joined_fails : (j : ℕ) (r : Reply) (t i : ℕ) (k : _) (l : ℕ) (hs : List Happening) → has_failed j (with_one (joining r (arrives t i k l)) hs) ≡ has_failed j hs
joined_fails j (replies.Round n) t i k l hs = refl
joined_fails j r t i k l hs = refl

one_stops : (j : ℕ) (class : Class) (i line : ℕ) (a : Ask) (r : Reply) (hs : List Happening) → has_stopped j (with_one (happens class i line a r) hs) ≡ (stops_by j i a || has_stopped j hs)
one_stops j control i line (asks.Arrive team arriving) r hs = joined_stops j r team.0 i _ line hs
one_stops j control i line (asks.Stop code) r hs = refl
one_stops j control i line asks.Gone r hs = refl
one_stops j collective i line (asks.Gather team op root kind values) r hs = joined_stops j r team.0 i _ line hs
one_stops j collective i line (asks.Stop code) r hs = refl
one_stops j collective i line asks.Gone r hs = refl
one_stops j images i line (asks.Pair named) r hs = refl
one_stops j images i line (asks.Stop code) r hs = refl
one_stops j images i line asks.Gone r hs = refl
one_stops j control i line a r hs = refl
one_stops j collective i line a r hs = refl
one_stops j images i line a r hs = refl

one_fails : (j : ℕ) (class : Class) (i line : ℕ) (a : Ask) (r : Reply) (hs : List Happening) → has_failed j (with_one (happens class i line a r) hs) ≡ (fails_by j i a || has_failed j hs)
one_fails j control i line (asks.Arrive team arriving) r hs = joined_fails j r team.0 i _ line hs
one_fails j control i line (asks.Stop code) r hs = refl
one_fails j control i line asks.Gone r hs = refl
one_fails j collective i line (asks.Gather team op root kind values) r hs = joined_fails j r team.0 i _ line hs
one_fails j collective i line (asks.Stop code) r hs = refl
one_fails j collective i line asks.Gone r hs = refl
one_fails j images i line (asks.Pair named) r hs = refl
one_fails j images i line (asks.Stop code) r hs = refl
one_fails j images i line asks.Gone r hs = refl
one_fails j control i line a r hs = refl
one_fails j collective i line a r hs = refl
one_fails j images i line a r hs = refl

-- so these are told by the entries alone
pub stopped_is : (j : ℕ) (class : Class) (es : List Entry) → has_stopped j (happened class es) ≡ list_any (λ (e : Entry). stops_by j e.image.0 e.event.ask) es
stopped_is j class [] = refl
stopped_is j class (e ∷ es) =
    ap (has_stopped j) (picked_one class e es (happens class e.image.0 e.event.line e.event.ask e.event.reply) refl)
    ∙ one_stops j class e.image.0 e.event.line e.event.ask e.event.reply (happened class es)
    ∙ ap (λ z. stops_by j e.image.0 e.event.ask || z) (stopped_is j class es)

pub failed_is : (j : ℕ) (class : Class) (es : List Entry) → has_failed j (happened class es) ≡ list_any (λ (e : Entry). fails_by j e.image.0 e.event.ask) es
failed_is j class [] = refl
failed_is j class (e ∷ es) =
    ap (has_failed j) (picked_one class e es (happens class e.image.0 e.event.line e.event.ask e.event.reply) refl)
    ∙ one_fails j class e.image.0 e.event.line e.event.ask e.event.reply (happened class es)
    ∙ ap (λ z. fails_by j e.image.0 e.event.ask || z) (failed_is j class es)

-- and are the same in each class
pub ended_same : (j : ℕ) (class : Class) (es : List Entry) → has_ended j (happened class es) ≡ has_ended j (happened control es)
ended_same j class es =
    ap (λ z. z || has_failed j (happened class es)) (stopped_is j class es ∙ sym (stopped_is j control es))
    ∙ ap (λ z. has_stopped j (happened control es) || z) (failed_is j class es ∙ sym (failed_is j control es))
