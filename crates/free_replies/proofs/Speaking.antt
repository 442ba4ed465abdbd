-- What a decided trace says of every other run, from what is shown of its kinds of steps.
use Rattle.std.proofs.Common.{◌≡◌, ◌<◌, ℕ, true, List, [], ◌∷◌, ◌++◌, inl, inr, ap, sym, ◌∙◌, subst, append_assoc}
use Rattle.std.specs.List.{list_all}
use Rattle.trace_theory.specs.Machines.{Move, Said, OneNextAsk}
use Rattle.caf_events.specs.declared.ask.Ask.{Ask}
use Rattle.caf_events.specs.declared.reply.Reply.{Reply}
use Rattle.caf_events.specs.declared.event.Entry.{Entry}
use Rattle.caf_events.specs.Asks.{place_of}
use Rattle.object_rules.specs.Cells.{Declared}
use Rattle.object_rules.specs.MemoryRules.{has_first_values}
use Rattle.core_runs.specs.Lists.{image_of}
use Rattle.core_runs.specs.Beginnings.{IsImage}
use Rattle.core_runs.specs.CoreRuns.{IsCoreRun, IsFit, said_by}
use Rattle.core_runs.specs.Lawful.{IsLawfulTrace, made_memory, full_rules, full_beginning}
use Rattle.core_runs.specs.Waits.{IsUnready, HasEndedIn}
use Rattle.core_runs.proofs.Fronts.{core_run_front}
use Rattle.order_theory.specs.Races.{Cell, Stands, place}
use Rattle.order_theory.specs.Facts.{AccessesCell}
use Rattle.order_axioms.specs.Views.{view}
use Rattle.order_axioms.specs.Touching.{touches, accesses}
use Rattle.order_cuts.specs.Cuts.{Follows, IsNext, KeepsSources}
use Rattle.order_cuts.proofs.OwnParts.{placed}
use Rattle.order_cuts.proofs.SameValues.{same_end}
use Rattle.every_order.specs.Decided.{IsDecided}
use Rattle.every_order.specs.Likes.{likes}
use Rattle.every_order.specs.Following.{StaysAtEnd}
use Rattle.every_order.specs.EveryOrder.{IsAtEnd, SpeaksFor}
use Rattle.every_order.proofs.Induction.{all_follow}
use Rattle.every_order.proofs.AtEnd.{waits_for}
use Rattle.free_replies.proofs.Alike.{each_stands, IsFree}
use Rattle.free_replies.proofs.Followers.{value, quiet, acting, plain_by, plain_meets, defines_accesses, is_run, IsRun}
use Rattle.free_replies.proofs.SameRaces.{decided_too}
use Rattle.free_replies.proofs.FirstLeft.{FirstLeft, IsIn, all_or_first, next_is, next_words, said_inside, whole_if}
use Rattle.free_replies.proofs.Replies.{whole_follows, lawful_of, lawful_t, OthersSame, replies_same}

module _ {C : Type 0} (step : C → Move C Ask Reply) (hears : C → Reply → Type 0) (one : OneNextAsk step) (s : List Declared) (n : ℕ) (first : ℕ → C) (t : List Entry)
    (declared : list_all has_first_values s ≡ true) (fit : IsFit (full_rules step hears) (full_beginning s n first)) (core : IsCoreRun (full_rules step hears) (full_beginning s n first) t)
    (decided : IsDecided n t) (keeps : (g : List Entry) → IsLawfulTrace s n g → Follows (view n) (likes n) t g → KeepsSources (view n) (likes n) t g)
    (others : OthersSame step hears s n first t declared fit core decided keeps) (stays : StaysAtEnd n (full_rules step hears) (full_beginning s n first) t) where
  -- A step that comes first behind another run, in the order of the trace, is ready there.
  abbrev pub FirstIsReady : Type 0
  FirstIsReady =
      (u : List Entry) → IsLawfulTrace s n u → (fol : Follows (view n) (likes n) t u) (x : Stands t) → IsNext (view n) (likes n) u x → ((z : Stands t) → place z < place x → IsIn n t u fol z)
      → IsUnready (full_rules step hears) (full_beginning s n first) u x.event.image.0 x.event.event.ask (place_of x.event.event.ask) → ⊥

  module _ (ready : FirstIsReady) (u : List Entry) (run : IsCoreRun (full_rules step hears) (full_beginning s n first) u) where
    follows : Follows (view n) (likes n) t u
    follows = all_follow n (full_rules step hears) (full_beginning s n first) one t core (replies_same step hears s n first t declared fit core decided keeps others) stays u run

    law : IsLawfulTrace s n t
    law = lawful_t step hears s n first t declared fit core decided keeps

    law_u : IsLawfulTrace s n u
    law_u = lawful_of step hears s n first t declared fit core decided keeps u run

    run_u : IsRun s n t law decided.free decided.no_race u
    run_u = is_run s n t law decided.free decided.no_race u law_u follows (keeps u law_u follows)

    run_t : IsRun s n t law decided.free decided.no_race t
    run_t = is_run s n t law decided.free decided.no_race t law (whole_follows n t) (keeps t law (whole_follows n t))

    -- an image that ended has nothing left to do
    ended_whole : (i : ℕ) → HasEndedIn i u → said_by i u ≡ said_by i t
    ended_whole i (before, e, is, ends) =
        let whole : said_by i t ≡ before ++ e ∷ follows.left i = follows.splits i ∙ ap (λ z. z ++ follows.left i) is ∙ append_assoc before (e ∷ []) (follows.left i) in
        let none = core.nothing_after i before (follows.left i) e whole ends in
        is ∙ sym (whole ∙ ap (λ z. before ++ e ∷ z) none)

    not_left : IsAtEnd (full_rules step hears) (full_beginning s n first) u → FirstLeft n t u follows → ⊥
    not_left end f =
        let x = f.entry in
        let i = x.event.image.0 in
        let next = next_is n t u follows f in
        elim (end i (each_stands (λ z. IsImage (full_beginning s n first) (image_of z)) t core.lawful.images x)) [
          | inl ended ↦ f.outside (said_inside n t u follows x (ended_whole i ended))
          | inr w ↦ (
              let front = core_run_front _ _ _ (full_rules step hears) (full_beginning s n first) (x.before ++ x.event ∷ []) x.rest
              (subst (IsCoreRun (full_rules step hears) (full_beginning s n first)) (x.split ∙ sym (append_assoc x.before (x.event ∷ []) x.rest)) core) in
              let asks = waits_for (full_rules step hears) (full_beginning s n first) one u x.before x.event w.0 w.1 front (sym (next_words n t u follows x next)) w.2 in
              ready u law_u follows x next f.before
              (subst (λ a. IsUnready (full_rules step hears) (full_beginning s n first) u i a (place_of a)) (sym asks) w.2.unready))
        ]

    made_all : IsAtEnd (full_rules step hears) (full_beginning s n first) u → (z : Stands t) → IsIn n t u follows z
    made_all end = elim (all_or_first n t u follows) [ inl all ↦ all | inr f ↦ absurd (not_left end f) ]

    cells_same : IsAtEnd (full_rules step hears) (full_beginning s n first) u → (owner coarray offset : ℕ)
        → value s n t law decided.free decided.no_race u (record { owner = owner; coarray = coarray; offset = offset }) ≡ value s n t law decided.free decided.no_race t (record { owner = owner; coarray = coarray; offset = offset })
    cells_same end owner coarray offset =
        let c : Cell = record { owner = owner; coarray = coarray; offset = offset } in
        same_end Entry (Said Ask Reply) _ (view n) (likes n) (accesses (made_memory s)) (value s n t law decided.free decided.no_race) (AccessesCell touches) t
        (quiet s n t law decided.free decided.no_race) decided.no_race (acting s n t law decided.free decided.no_race t) c
        (λ w z ww wz. (plain_meets _ _ (plain_by w.event.event.ask w.event.event.reply (each_stands IsFree t decided.free w) ww.1) (defines_accesses _ wz.1)).0)
        u t run_u run_t (made_all end) (λ z. placed Entry (Said Ask Reply) (view n) (likes n) t z)

    -- The trace speaks for every other run.
    pub speaks : SpeaksFor (full_rules step hears) (full_beginning s n first) s n t u
    speaks =
        let d = decided_too s n t law decided u run_u law_u in
        record {
          no_more = record { left = follows.left; splits = follows.splits };
          no_race = d.no_race;
          decided = d;
          whole = λ end i. whole_if n t u follows (made_all end) i;
          cells = cells_same;
        }
