-- A decided trace speaks for every other run, if the ends of SYNC IMAGES and events are told.
use Rattle.std.proofs.Common.{◌≡◌, ℕ, false, true, IsTrue, List, [], ◌∷◌, ◌++◌, inl, inr, refl, ap, sym, ◌∙◌, subst}
use Rattle.std.specs.List.{list_all}
use Rattle.std.proofs.lemmas.Bool.{both_ways}
use Rattle.trace_theory.specs.Machines.{Move, OneNextAsk}
use Rattle.caf_base.specs.declared.place.ImageNo.{ImageNo}
use Rattle.caf_base.specs.declared.place.Place.{Place}
use Rattle.caf_base.specs.declared.place.Place.TheVariants as places
use Rattle.caf_events.specs.declared.ask.Ask.{Ask}
use Rattle.caf_events.specs.declared.ask.Ask.TheVariants as asks
use Rattle.caf_events.specs.declared.reply.Reply.{Reply}
use Rattle.caf_events.specs.declared.event.Entry.{Entry}
use Rattle.caf_events.specs.Asks.{place_of}
use Rattle.object_rules.specs.Cells.{Declared}
use Rattle.object_rules.specs.MemoryRules.{has_first_values, memory_ready, memory_reply}
use Rattle.object_rules.specs.BoardRules.{board_ready, board_reply}
use Rattle.core_runs.specs.Lists.{image_of}
use Rattle.core_runs.specs.Beginnings.{IsOneOf, IsThere, IsImage}
use Rattle.core_runs.specs.CoreRuns.{IsCoreRun, IsFit, at_board, of_memory, said_by}
use Rattle.core_runs.specs.Lawful.{IsLawfulTrace, made_memory, full_rules, full_beginning}
use Rattle.core_runs.specs.Sequences.{NothingAfterEnd}
use Rattle.core_runs.specs.Waits.{IsUnready}
use Rattle.core_runs.proofs.Fronts.{lawful_trace_front}
use Rattle.core_runs.proofs.Lawfuls.{core_run_lawful}
use Rattle.order_theory.specs.Races.{Stands}
use Rattle.order_axioms.specs.Views.{view, act_of}
use Rattle.order_axioms.proofs.Marked.{served_here}
use Rattle.order_cuts.specs.Cuts.{Follows, KeepsSources, IsSame}
use Rattle.every_order.specs.Decided.{is_free, IsDecided}
use Rattle.every_order.specs.Likes.{likes}
use Rattle.every_order.specs.Following.{StaysAtEnd}
use Rattle.every_order.specs.EveryOrder.{IsAtEnd, SpeaksFor}
use Rattle.every_order.proofs.AtEnd.{ended_stays, waits_for}
use Rattle.free_replies.specs.Subsets.{is_of_cells}
use Rattle.free_replies.proofs.Alike.{each_stands, carried}
use Rattle.free_replies.proofs.FirstLeft.{next_words}
use Rattle.free_replies.proofs.Replies.{board_here, front_follows, OthersSame, whole_follows}
use Rattle.free_replies.proofs.Speaking.{FirstIsReady, speaks}
use Rattle.round_words.proofs.Ahead.{follows_ahead, earlier_ahead}
use Rattle.round_words.proofs.RoundRuns.{round_front, nothing_front}
use Rattle.round_replies.proofs.RoundSources.{is_taking, keeps_rounds}
use Rattle.round_replies.proofs.ReadyMore.{board_more, memory_more}
use Rattle.round_words.specs.RoundRuns.{IsAhead, IsRoundRun}
use Rattle.caf_base.specs.declared.span.Span.{Span}
use Rattle.order_theory.specs.Order.{Segment, Within}
use Rattle.order_theory.specs.Acts.{released}
use Rattle.round_replies.proofs.BoardReplies.{board_again}

-- What is shown of the ends of SYNC IMAGES and of events in the runs that follow t.
pub record TellsTakings (s : List Declared) (n : ℕ) (t : List Entry) : Type 0 where
  pub taken :
      (g : List Entry) → IsRoundRun s n g → Follows (view n) (likes n) t g → (x : Stands t) (y : Stands g) (a : Segment) → IsSame (view n) (likes n) x y → is_taking x.event.event.ask ≡ true
      → Within a (released (view n) x.before x.event.image.0 (act_of x.event)) → Within a (released (view n) y.before y.event.image.0 (act_of y.event))
  pub unpaired :
      (g : List Entry) → IsRoundRun s n g → Follows (view n) (likes n) t g → (y : Stands t) → said_by y.event.image.0 y.before ≡ said_by y.event.image.0 g → y.event.event.ask ≡ asks.Unpair
      → IsTrue (board_ready n (at_board g) y.event.image.0 asks.Unpair) → board_reply n (at_board g) y.event.image.0 asks.Unpair ≡ y.event.event.reply
  pub unpair_more :
      (w u : List Entry) → IsRoundRun s n w → IsRoundRun s n u → Follows (view n) (likes n) t w → Follows (view n) (likes n) t u → IsAhead u w → (i : ℕ) → said_by i w ≡ said_by i u
      → IsTrue (board_ready n (at_board w) i asks.Unpair) → IsTrue (board_ready n (at_board u) i asks.Unpair)
  pub wait_more :
      (w u : List Entry) → IsRoundRun s n w → IsRoundRun s n u → Follows (view n) (likes n) t w → Follows (view n) (likes n) t u → IsAhead u w → (i : ℕ) → said_by i w ≡ said_by i u
      → (owner o : ImageNo) (span : Span) (threshold : ℕ) → IsTrue (memory_ready (made_memory s owner.0) (of_memory owner.0 w) i (asks.Wait o span threshold))
      → IsTrue (memory_ready (made_memory s owner.0) (of_memory owner.0 u) i (asks.Wait o span threshold))
  pub memory_again :
      (g : List Entry) → IsRoundRun s n g → Follows (view n) (likes n) t g → (y : Stands t) → said_by y.event.image.0 y.before ≡ said_by y.event.image.0 g → (owner : ImageNo)
      → place_of y.event.event.ask ≡ places.Memory owner → is_of_cells y.event.event.ask ≡ false
      → memory_reply (made_memory s owner.0) (of_memory owner.0 g) y.event.image.0 y.event.event.ask ≡ y.event.event.reply

module _ {C : Type 0} (step : C → Move C Ask Reply) (hears : C → Reply → Type 0) (one : OneNextAsk step) (s : List Declared) (n : ℕ) (first : ℕ → C) (t : List Entry)
    (declared : list_all has_first_values s ≡ true) (fit : IsFit (full_rules step hears) (full_beginning s n first)) (core : IsCoreRun (full_rules step hears) (full_beginning s n first) t)
    (end : IsAtEnd (full_rules step hears) (full_beginning s n first) t) (decided : IsDecided n t) (tells : IsRoundRun s n t → TellsTakings s n t) where
  law : IsLawfulTrace s n t
  law = core_run_lawful step hears s n first t declared fit core

  run_t : IsRoundRun s n t
  run_t = record { lawful = law; free = decided.free; ends = core.nothing_after }

  told : TellsTakings s n t
  told = tells run_t

  run_of : (g : List Entry) → IsLawfulTrace s n g → Follows (view n) (likes n) t g → IsRoundRun s n g
  run_of g law_g fol = record {
    lawful = law_g;
    free = carried n t g fol (λ w. is_free w.ask w.reply ≡ true) decided.free;
    ends = λ i. nothing_front (said_by i g) (fol.left i) (subst NothingAfterEnd (fol.splits i) (core.nothing_after i));
  }

  keeps : (g : List Entry) → IsLawfulTrace s n g → Follows (view n) (likes n) t g → KeepsSources (view n) (likes n) t g
  keeps g law_g fol = keeps_rounds s n t run_t g (run_of g law_g fol) fol (told.taken g (run_of g law_g fol) fol)

  others : OthersSame step hears s n first t declared fit core decided keeps
  others g y law_g fol next = (
    λ owner place not_cells ready. told.memory_again g (run_of g law_g fol) fol y (next_words n t g fol y next) owner place not_cells,
    λ place ready. board_again s n t g run_t (run_of g law_g fol) (follows_ahead n t g fol) y (next_words n t g fol y next)
        (told.unpaired g (run_of g law_g fol) fol y (next_words n t g fol y next)) y.event.event.ask refl place ready,
  )

  stays : StaysAtEnd n (full_rules step hears) (full_beginning s n first) t
  stays g x run fol whole =
      let law_x = core_run_lawful step hears s n first (g ++ x ∷ []) declared fit run in
      let law_g = lawful_trace_front s n g (x ∷ []) law_x in
      let here = each_stands (λ z. IsImage (full_beginning s n first) (image_of z)) (g ++ x ∷ []) run.lawful.images (record { before = g; event = x; rest = []; split = refl }) in
      elim (end x.image.0 here) [
        | inl ended ↦ ended_stays (full_rules step hears) (full_beginning s n first) one t g x run whole ended
        | inr w ↦ waits law_x law_g (waits_for (full_rules step hears) (full_beginning s n first) one t g x w.0 w.1 run whole w.2) (place_of w.1) refl w.2.unready
      ]
    where
      i : ℕ
      i = x.image.0

      last : Stands (g ++ x ∷ [])
      last = record { before = g; event = x; rest = []; split = refl }

      waits : IsLawfulTrace s n (g ++ x ∷ []) → IsLawfulTrace s n g → {a : Ask} → x.event.ask ≡ a → (p : Place) → place_of a ≡ p
          → IsUnready (full_rules step hears) (full_beginning s n first) t i a p → ⊥
      waits law_x law_g {a} asked (places.Memory owner) place unready =
          let there = served_here s n (g ++ x ∷ []) law_x g [] x refl owner (ap place_of asked ∙ place) in
          let in_run : IsOneOf n owner.0 = subst (IsThere n) (ap place_of asked ∙ place) (each_stands (λ z. IsThere n (place_of z.event.ask)) (g ++ x ∷ []) law_x.places last) in
          let ready = subst (λ b. IsTrue (memory_ready (made_memory s owner.0) (of_memory owner.0 g) i b)) asked there.0 in
          both_ways _ (unready in_run)
          (memory_more s n g t (run_of g law_g fol) run_t (follows_ahead n t g fol) i (sym whole) owner
          (told.wait_more g t (run_of g law_g fol) run_t fol (whole_follows n t) (follows_ahead n t g fol) i (sym whole) owner) a ready)
      waits law_x law_g {a} asked places.Board place unready =
          let there = board_here s n (g ++ x ∷ []) law_x last (ap place_of asked ∙ place) in
          let ready = subst (λ b. IsTrue (board_ready n (at_board g) i b)) asked there.0 in
          both_ways _ unready (board_more s n g t (run_of g law_g fol) run_t (follows_ahead n t g fol) i (sym whole) (told.unpair_more g t (run_of g law_g fol) run_t fol (whole_follows n t) (follows_ahead n t g fol) i (sym whole)) a ready)
      waits law_x law_g {a} asked places.Own place unready = unready

  ready : FirstIsReady step hears one s n first t declared fit core decided keeps others stays
  ready u law_u fol x next earlier = by (place_of x.event.event.ask) refl
    where
      i : ℕ
      i = x.event.image.0

      front : IsRoundRun s n x.before
      front = round_front s n x.before (x.event ∷ x.rest) (subst (IsRoundRun s n) x.split run_t)

      ahead : IsAhead u x.before
      ahead = earlier_ahead n t u fol x earlier

      by : (p : Place) → place_of x.event.event.ask ≡ p → IsUnready (full_rules step hears) (full_beginning s n first) u i x.event.event.ask p → ⊥
      by (places.Memory owner) place unready =
          let in_run : IsOneOf n owner.0 = subst (IsThere n) place (each_stands (λ z. IsThere n (place_of z.event.ask)) t law.places x) in
          let there = served_here s n t law x.before x.rest x.event x.split owner place in
          both_ways _ (unready in_run)
          (memory_more s n x.before u front (run_of u law_u fol) ahead i (next_words n t u fol x next) owner
          (told.wait_more x.before u front (run_of u law_u fol) (front_follows n t x) fol ahead i (next_words n t u fol x next) owner) x.event.event.ask there.0)
      by places.Board place unready =
          both_ways _ unready
          (board_more s n x.before u front (run_of u law_u fol) ahead i (next_words n t u fol x next) (told.unpair_more x.before u front (run_of u law_u fol) (front_follows n t x) fol ahead i (next_words n t u fol x next)) x.event.event.ask (board_here s n t law x place).0)
      by places.Own place unready = unready

  pub any_speak : (u : List Entry) → IsCoreRun (full_rules step hears) (full_beginning s n first) u → SpeaksFor (full_rules step hears) (full_beginning s n first) s n t u
  any_speak u run = speaks step hears one s n first t declared fit core decided keeps others stays ready u run
