-- Memories alone: a decided trace of accesses, prints, SYNC MEMORY and STOP, in which each image has ended, speaks for
-- every other run.
use Rattle.std.proofs.Common.{◌≡◌, ℕ, true, List, [], ◌∷◌, ◌++◌, refl, sym, ◌∙◌, subst}
use Rattle.std.specs.List.{list_all}
use Rattle.std.proofs.lemmas.Bool.{both_ways}
use Rattle.trace_theory.specs.Entries.{Each}
use Rattle.trace_theory.specs.Machines.{Move, OneNextAsk}
use Rattle.caf_base.specs.declared.place.ImageNo.{ImageNo}
use Rattle.caf_base.specs.declared.place.Place.{Place}
use Rattle.caf_base.specs.declared.place.Place.TheVariants as places
use Rattle.caf_events.specs.declared.ask.Ask.{Ask}
use Rattle.caf_events.specs.declared.ask.Ask.TheVariants as asks
use Rattle.caf_events.specs.declared.reply.Reply.{Reply}
use Rattle.caf_events.specs.declared.event.Entry.{Entry}
use Rattle.caf_events.specs.Asks.{place_of}
use Rattle.object_rules.specs.Cells.{Declared}
use Rattle.object_rules.specs.MemoryRules.{has_first_values}
use Rattle.object_rules.specs.BoardRules.{board_ready, board_reply}
use Rattle.core_runs.specs.Lists.{image_of}
use Rattle.core_runs.specs.Beginnings.{IsOneOf, IsThere, IsImage}
use Rattle.core_runs.specs.CoreRuns.{IsCoreRun, IsFit, at_board, of_memory, said_by}
use Rattle.core_runs.specs.Lawful.{IsLawfulTrace, made_memory, full_rules, full_beginning}
use Rattle.core_runs.specs.Waits.{IsUnready}
use Rattle.core_runs.proofs.Lawfuls.{core_run_lawful}
use Rattle.order_theory.specs.Order.{Within}
use Rattle.order_theory.specs.Races.{Stands}
use Rattle.order_theory.specs.Acts.{released}
use Rattle.order_axioms.specs.Views.{view, act_by}
use Rattle.order_axioms.proofs.Marked.{served_here}
use Rattle.order_axioms.proofs.Quiet.{lawful_quiet}
use Rattle.order_cuts.specs.Cuts.{Follows, KeepsSources}
use Rattle.every_order.specs.Decided.{IsDecided}
use Rattle.every_order.specs.Likes.{likes}
use Rattle.every_order.specs.Following.{StaysAtEnd}
use Rattle.every_order.specs.EveryOrder.{SpeaksFor}
use Rattle.every_order.proofs.AtEnd.{ended_stays}
use Rattle.free_replies.specs.Subsets.{is_of_cells, is_of_memories, IsOfMemories}
use Rattle.free_replies.proofs.Alike.{each_stands, each_front, none_speaks}
use Rattle.free_replies.proofs.OwnSizes.{SizesOwn, sizes_own, size_same, ready_same}
use Rattle.free_replies.proofs.Followers.{keeps_by}
use Rattle.free_replies.proofs.FirstLeft.{next_words}
use Rattle.free_replies.proofs.Replies.{board_here, OthersSame}
use Rattle.free_replies.proofs.Speaking.{FirstIsReady, speaks}

-- such a step releases nothing
pub none_released : (n : ℕ) (g : List Entry) (i : ℕ) (a : Ask) (r : Reply) → is_of_memories a ≡ true → released (view n) g i (act_by a r) ≡ []
none_released n g i (asks.Read owner span) r k = refl
none_released n g i (asks.Write owner span vs) r k = refl
none_released n g i (asks.Create owner c cells) r k = refl
none_released n g i (asks.Delete owner c) r k = refl
none_released n g i (asks.Print text) r k = refl
none_released n g i asks.Memory r k = refl
none_released n g i (asks.Stop code) r k = refl
none_released n g i a r k = absurd (cc)

-- at a memory it is an access
pub of_cells : (owner : ImageNo) (a : Ask) → is_of_memories a ≡ true → place_of a ≡ places.Memory owner → is_of_cells a ≡ true
of_cells owner (asks.Print text) k p = absurd (cc)
of_cells owner asks.Memory k p = absurd (cc)
of_cells owner (asks.Stop code) k p = absurd (cc)
of_cells owner a k p = k

-- and at the board it is STOP, of which the history tells nothing
stop_reply : (n : ℕ) (g h : List Entry) (i : ℕ) (a : Ask) → is_of_memories a ≡ true → place_of a ≡ places.Board → board_reply n g i a ≡ board_reply n h i a
stop_reply n g h i (asks.Read owner span) k p = absurd (cc)
stop_reply n g h i (asks.Write owner span vs) k p = absurd (cc)
stop_reply n g h i (asks.Create owner c cells) k p = absurd (cc)
stop_reply n g h i (asks.Delete owner c) k p = absurd (cc)
stop_reply n g h i (asks.Print text) k p = absurd (cc)
stop_reply n g h i asks.Memory k p = absurd (cc)
stop_reply n g h i (asks.Stop code) k p = refl
stop_reply n g h i a k p = absurd (cc)

stop_ready : (n : ℕ) (g h : List Entry) (i : ℕ) (a : Ask) → is_of_memories a ≡ true → place_of a ≡ places.Board → board_ready n g i a ≡ board_ready n h i a
stop_ready n g h i (asks.Read owner span) k p = absurd (cc)
stop_ready n g h i (asks.Write owner span vs) k p = absurd (cc)
stop_ready n g h i (asks.Create owner c cells) k p = absurd (cc)
stop_ready n g h i (asks.Delete owner c) k p = absurd (cc)
stop_ready n g h i (asks.Print text) k p = absurd (cc)
stop_ready n g h i asks.Memory k p = absurd (cc)
stop_ready n g h i (asks.Stop code) k p = refl
stop_ready n g h i a k p = absurd (cc)

module _ {C : Type 0} (step : C → Move C Ask Reply) (hears : C → Reply → Type 0) (one : OneNextAsk step) (s : List Declared) (n : ℕ) (first : ℕ → C) (t : List Entry)
    (declared : list_all has_first_values s ≡ true) (fit : IsFit (full_rules step hears) (full_beginning s n first)) (core : IsCoreRun (full_rules step hears) (full_beginning s n first) t)
    (decided : IsDecided n t) (alone : IsOfMemories n t) where
  law : IsLawfulTrace s n t
  law = core_run_lawful step hears s n first t declared fit core

  kind : (x : Stands t) → is_of_memories x.event.event.ask ≡ true
  kind x = each_stands (λ z. is_of_memories z.event.ask ≡ true) t alone.steps x

  keeps : (g : List Entry) → IsLawfulTrace s n g → Follows (view n) (likes n) t g → KeepsSources (view n) (likes n) t g
  keeps g law_g fol =
      keeps_by n t g fol (none_speaks n t (lawful_quiet s n t law) decided.free) decided.free
      (λ x y a same full w. absurd (subst (Within a) (none_released n x.before x.event.image.0 x.event.event.ask x.event.event.reply (kind x)) w))

  others : OthersSame step hears s n first t declared fit core decided keeps
  others g y law_g fol next = (
    λ owner place not_cells ready. absurd (both_ways _ not_cells (of_cells owner y.event.event.ask (kind y) place)),
    λ place ready. stop_reply n (at_board g) (at_board y.before) y.event.image.0 y.event.event.ask (kind y) place ∙ sym (board_here s n t law y place).1,
  )

  stays : StaysAtEnd n (full_rules step hears) (full_beginning s n first) t
  stays g x run fol whole =
      let here = each_stands (λ z. IsImage (full_beginning s n first) (image_of z)) (g ++ x ∷ []) run.lawful.images (record { before = g; event = x; rest = []; split = refl }) in
      ended_stays (full_rules step hears) (full_beginning s n first) one t g x run whole (alone.ended x.image.0 here)

  ready : FirstIsReady step hears one s n first t declared fit core decided keeps others stays
  ready u law_u fol x next earlier = by (place_of x.event.event.ask) refl
    where
      i : ℕ
      i = x.event.image.0

      by : (p : Place) → place_of x.event.event.ask ≡ p → IsUnready (full_rules step hears) (full_beginning s n first) u i x.event.event.ask p → ⊥
      by (places.Memory owner) place unready =
          let in_run : IsOneOf n owner.0 = subst (IsThere n) place (each_stands (λ z. IsThere n (place_of z.event.ask)) t law.places x) in
          let m = made_memory s owner.0 in
          let there = served_here s n t law x.before x.rest x.event x.split owner place in
          let front = each_front SizesOwn x.before (x.event ∷ x.rest) (subst (Each SizesOwn) x.split (sizes_own s n t law)) in
          let same = ready_same m (of_memory owner.0 x.before) (of_memory owner.0 u) i x.event.event.ask (of_cells owner x.event.event.ask (kind x) place)
          (λ c e. size_same m owner.0 c x.before u front (sizes_own s n u law_u) (subst (λ j. said_by j x.before ≡ said_by j u) e (next_words n t u fol x next))) in
          both_ways _ (unready in_run) (sym same ∙ there.0)
      by places.Board place unready =
          both_ways _ unready (stop_ready n (at_board u) (at_board x.before) i x.event.event.ask (kind x) place ∙ (board_here s n t law x place).0)
      by places.Own place unready = unready

  pub memories_speak : (u : List Entry) → IsCoreRun (full_rules step hears) (full_beginning s n first) u → SpeaksFor (full_rules step hears) (full_beginning s n first) s n t u
  memories_speak u run = speaks step hears one s n first t declared fit core decided keeps others stays ready u run
