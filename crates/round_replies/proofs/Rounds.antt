-- Rounds of teams and memories: a decided trace of them speaks for every other run.
use Rattle.std.proofs.Common.{◌≡◌, ℕ, false, true, List, refl, subst}
use Rattle.std.specs.List.{list_all}
use Rattle.std.proofs.lemmas.Bool.{both_ways}
use Rattle.trace_theory.specs.Entries.{Each}
use Rattle.trace_theory.specs.Machines.{Move, OneNextAsk}
use Rattle.caf_base.specs.declared.place.ImageNo.{ImageNo}
use Rattle.caf_base.specs.declared.place.Place.TheVariants as places
use Rattle.caf_events.specs.declared.ask.Ask.{Ask}
use Rattle.caf_events.specs.declared.ask.Ask.TheVariants as asks
use Rattle.caf_events.specs.declared.reply.Reply.{Reply}
use Rattle.caf_events.specs.declared.event.Entry.{Entry}
use Rattle.caf_events.specs.Asks.{place_of}
use Rattle.object_rules.specs.Cells.{Declared}
use Rattle.object_rules.specs.MemoryRules.{has_first_values}
use Rattle.core_runs.specs.CoreRuns.{IsCoreRun, IsFit}
use Rattle.core_runs.specs.Lawful.{made_memory, full_rules, full_beginning}
use Rattle.order_theory.specs.Races.{Stands}
use Rattle.order_axioms.specs.Views.{view}
use Rattle.order_cuts.specs.Cuts.{Follows}
use Rattle.every_order.specs.Decided.{IsDecided}
use Rattle.every_order.specs.Likes.{likes}
use Rattle.every_order.specs.EveryOrder.{IsAtEnd, SpeaksFor}
use Rattle.free_replies.specs.Subsets.{is_of_cells}
use Rattle.free_replies.proofs.Alike.{each_from, each_stands, carried}
use Rattle.free_replies.proofs.Memories.{of_cells}
use Rattle.round_replies.specs.Subsets.{is_of_rounds, IsOfRounds}
use Rattle.round_replies.proofs.RoundSources.{is_taking}
use Rattle.round_replies.proofs.NoTakings.{IsOfRound, is_no_event, no_unpair, no_wait}
use Rattle.round_words.specs.RoundRuns.{IsRoundRun}
use Rattle.round_replies.proofs.AnyRounds.{TellsTakings, any_speak}

-- at a memory such a step is an access
pub access_there : (owner : ImageNo) (a : Ask) → is_of_rounds a ≡ true → place_of a ≡ places.Memory owner → is_of_cells a ≡ true
access_there owner (asks.Arrive team arriving) h p = absurd (cc)
access_there owner (asks.Leave team k) h p = absurd (cc)
access_there owner (asks.Gather team op root kind values) h p = absurd (cc)
access_there owner (asks.Take team k) h p = absurd (cc)
access_there owner (asks.Failed team) h p = absurd (cc)
access_there owner a h p = of_cells owner a h p

no_event : (a : Ask) → is_of_rounds a ≡ true → is_no_event a ≡ true
no_event (asks.Post owner span) h = absurd (cc)
no_event (asks.Wait owner span threshold) h = absurd (cc)
no_event a h = refl

takes_none : (a : Ask) → is_of_rounds a ≡ true → is_taking a ≡ false
takes_none asks.Unpair h = absurd (cc)
takes_none (asks.Wait owner span threshold) h = absurd (cc)
takes_none a h = refl

module _ (s : List Declared) (n : ℕ) (t : List Entry) (run_t : IsRoundRun s n t) (alone : IsOfRounds n t) where
  kind_at : (x : Stands t) → is_of_rounds x.event.event.ask ≡ true
  kind_at x = each_stands IsOfRound t alone.steps x

  of_rounds : (g : List Entry) → Follows (view n) (likes n) t g → Each IsOfRound g
  of_rounds g fol = carried n t g fol (λ w. is_of_rounds w.ask ≡ true) alone.steps

  no_events : (g : List Entry) → Follows (view n) (likes n) t g → Each (λ x. is_no_event x.event.ask ≡ true) g
  no_events g fol = carried n t g fol (λ w. is_no_event w.ask ≡ true) (each_from (λ x. is_no_event x.event.ask ≡ true) t (λ x. no_event x.event.event.ask (kind_at x)))

  not_unpair : (a : Ask) → is_of_rounds a ≡ true → a ≡ asks.Unpair → ⊥
  not_unpair a h e = let no : is_of_rounds asks.Unpair ≡ true = subst (λ z. is_of_rounds z ≡ true) e h in cc

  pub no_takings : TellsTakings s n t
  no_takings = record {
    taken = λ g run fol x y a same takes w. absurd (both_ways _ (takes_none x.event.event.ask (kind_at x)) takes);
    unpaired = λ g run fol y words e ready. absurd (not_unpair y.event.event.ask (kind_at y) e);
    unpair_more = λ w u run_w run_u fol_w fol_u ahead i same ready. absurd (no_unpair w (of_rounds w fol_w) i n ready);
    wait_more = λ w u run_w run_u fol_w fol_u ahead i same owner o span threshold ready. absurd (no_wait w (no_events w fol_w) i (made_memory s owner.0) owner.0 o span threshold ready);
    memory_again = λ g run fol y words owner place not_cells. absurd (both_ways _ not_cells (access_there owner y.event.event.ask (kind_at y) place));
  }

module _ {C : Type 0} (step : C → Move C Ask Reply) (hears : C → Reply → Type 0) (one : OneNextAsk step) (s : List Declared) (n : ℕ) (first : ℕ → C) (t : List Entry)
    (declared : list_all has_first_values s ≡ true) (fit : IsFit (full_rules step hears) (full_beginning s n first)) (core : IsCoreRun (full_rules step hears) (full_beginning s n first) t)
    (end : IsAtEnd (full_rules step hears) (full_beginning s n first) t) (decided : IsDecided n t) (alone : IsOfRounds n t) where
  pub rounds_speak : (u : List Entry) → IsCoreRun (full_rules step hears) (full_beginning s n first) u → SpeaksFor (full_rules step hears) (full_beginning s n first) s n t u
  rounds_speak u run =
      any_speak step hears one s n first t declared fit core end decided
      (λ run_t. no_takings s n t run_t alone) u run
