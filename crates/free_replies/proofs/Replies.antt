-- Each next step of another run has the reply that it has in a decided trace, if each ask at the board has.
use Rattle.std.proofs.Common.{◌≡◌, ℕ, false, true, IsTrue, nat_eq, List, [], ◌∷◌, ◌++◌, map, inl, inr, refl, ap, sym, ◌∙◌, subst}
use Rattle.std.specs.List.{list_all}
use Rattle.std.proofs.lemmas.List.{append-nil, map-append}
use Rattle.std.proofs.lemmas.Bool.{cases_Bool}
use Rattle.trace_theory.proofs.Filters.{filter_append}
use Rattle.trace_theory.specs.Machines.{Move}
use Rattle.caf_base.specs.declared.place.ImageNo.{ImageNo}
use Rattle.caf_base.specs.declared.place.Place.{Place}
use Rattle.caf_base.specs.declared.place.Place.TheVariants as places
use Rattle.caf_events.specs.declared.ask.Ask.{Ask}
use Rattle.caf_events.specs.declared.reply.Reply.{Reply}
use Rattle.caf_events.specs.declared.event.Entry.{Entry}
use Rattle.caf_events.specs.Asks.{place_of, object_of}
use Rattle.caf_events.specs.Histories.{Served}
use Rattle.object_rules.specs.Cells.{Declared}
use Rattle.object_rules.specs.MemoryRules.{has_first_values, memory_ready, memory_reply}
use Rattle.object_rules.specs.BoardRules.{board_ready, board_reply}
use Rattle.core_runs.specs.Lists.{image_of, said}
use Rattle.core_runs.specs.CoreRuns.{IsCoreRun, IsFit, IsDoneAlone, said_by, of_image, of_memory, at_board}
use Rattle.core_runs.specs.Lawful.{IsLawfulTrace, made_memory, full_rules, full_beginning}
use Rattle.core_runs.proofs.Lawfuls.{core_run_lawful}
use Rattle.core_runs.proofs.Fronts.{lawful_trace_front}
use Rattle.order_theory.specs.Races.{Stands}
use Rattle.order_axioms.specs.Views.{view}
use Rattle.order_axioms.proofs.Marked.{of_here, served_at, served_here}
use Rattle.order_cuts.specs.Cuts.{Follows, IsNext, KeepsSources}
use Rattle.every_order.specs.Decided.{IsDecided}
use Rattle.every_order.specs.Likes.{likes}
use Rattle.every_order.specs.Following.{RepliesSame}
use Rattle.free_replies.specs.Subsets.{is_of_cells}
use Rattle.free_replies.proofs.Alike.{each_stands}
use Rattle.free_replies.proofs.Followers.{free_run, is_run}
use Rattle.free_replies.proofs.CellReplies.{memory_again}

-- what is served at the board
pub board_here : (s : List Declared) (n : ℕ) (g : List Entry) → IsLawfulTrace s n g → (y : Stands g) → place_of y.event.event.ask ≡ places.Board
    → IsTrue (board_ready n (at_board y.before) y.event.image.0 y.event.event.ask) × (y.event.event.reply ≡ board_reply n (at_board y.before) y.event.image.0 y.event.event.ask)
board_here s n g lawful y place =
    let there = ap at_board y.split ∙ of_here 1 y.before y.rest y.event (ap object_of place) in
    served_at (board_ready n) (board_reply n) [] (at_board y.before) y.event (at_board y.rest) (subst (Served (board_ready n) (board_reply n) []) there lawful.board)

pub said_append : (i : ℕ) (xs ys : List Entry) → said_by i (xs ++ ys) ≡ said_by i xs ++ said_by i ys
said_append i xs ys = ap (map (λ (x : Entry). said x.event)) (filter_append (λ x. nat_eq (image_of x) i) xs ys) ∙ map-append (λ (x : Entry). said x.event) (of_image i xs) (of_image i ys)

-- a front of a trace follows it
pub front_follows : (n : ℕ) (t : List Entry) (y : Stands t) → Follows (view n) (likes n) t y.before
front_follows n t y = record {
  left = λ i. said_by i (y.event ∷ y.rest);
  splits = λ i. ap (said_by i) y.split ∙ said_append i y.before (y.event ∷ y.rest);
}

pub whole_follows : (n : ℕ) (t : List Entry) → Follows (view n) (likes n) t t
whole_follows n t = record { left = λ i. []; splits = λ i. sym (append-nil (said_by i t)) }

module _ {C : Type 0} (step : C → Move C Ask Reply) (hears : C → Reply → Type 0) (s : List Declared) (n : ℕ) (first : ℕ → C) (t : List Entry) (declared : list_all has_first_values s ≡ true)
    (fit : IsFit (full_rules step hears) (full_beginning s n first)) (core : IsCoreRun (full_rules step hears) (full_beginning s n first) t) (decided : IsDecided n t)
    (keeps : (g : List Entry) → IsLawfulTrace s n g → Follows (view n) (likes n) t g → KeepsSources (view n) (likes n) t g) where
  abbrev pub IsRunOf : List Entry → Type 0
  IsRunOf g = IsCoreRun (full_rules step hears) (full_beginning s n first) g

  pub lawful_of : (g : List Entry) → IsRunOf g → IsLawfulTrace s n g
  lawful_of g run = core_run_lawful step hears s n first g declared fit run

  pub lawful_t : IsLawfulTrace s n t
  lawful_t = lawful_of t core

  -- The steps at a memory that aren't accesses to cells of values, and those at the board.
  abbrev pub OthersSame : Type 0
  OthersSame =
      (g : List Entry) (y : Stands t) → IsLawfulTrace s n g → Follows (view n) (likes n) t g → IsNext (view n) (likes n) g y
      → ((owner : ImageNo) → place_of y.event.event.ask ≡ places.Memory owner → is_of_cells y.event.event.ask ≡ false
      → IsTrue (memory_ready (made_memory s owner.0) (of_memory owner.0 g) y.event.image.0 y.event.event.ask)
      → memory_reply (made_memory s owner.0) (of_memory owner.0 g) y.event.image.0 y.event.event.ask ≡ y.event.event.reply)
      × (place_of y.event.event.ask ≡ places.Board → IsTrue (board_ready n (at_board g) y.event.image.0 y.event.event.ask)
      → board_reply n (at_board g) y.event.image.0 y.event.event.ask ≡ y.event.event.reply)

  module _ (others : OthersSame) (g : List Entry) (x : Entry) (y : Stands t) (run : IsRunOf (g ++ x ∷ [])) (fol : Follows (view n) (likes n) t g) (next : IsNext (view n) (likes n) g y)
      (image : y.event.image.0 ≡ x.image.0) (ask : y.event.event.ask ≡ x.event.ask) where
    law : IsLawfulTrace s n (g ++ x ∷ [])
    law = lawful_of (g ++ x ∷ []) run

    law_g : IsLawfulTrace s n g
    law_g = lawful_trace_front s n g (x ∷ []) law

    law_y : IsLawfulTrace s n y.before
    law_y = lawful_trace_front s n y.before (y.event ∷ y.rest) (subst (IsLawfulTrace s n) y.split lawful_t)

    abbrev last : Stands (g ++ x ∷ [])
    last = record { before = g; event = x; rest = []; split = refl }

    again : (owner : ImageNo) → place_of y.event.event.ask ≡ places.Memory owner → IsTrue (memory_ready (made_memory s owner.0) (of_memory owner.0 g) y.event.image.0 y.event.event.ask)
        → memory_reply (made_memory s owner.0) (of_memory owner.0 g) y.event.image.0 y.event.event.ask ≡ y.event.event.reply
    again owner place ready = elim (cases_Bool (is_of_cells y.event.event.ask)) [
      | inl k ↦ memory_again s n t lawful_t decided.free decided.no_race g (is_run s n t lawful_t decided.free decided.no_race g law_g fol (keeps g law_g fol))
          (free_run s n t lawful_t decided.free decided.no_race g law_g fol) y
          (is_run s n t lawful_t decided.free decided.no_race y.before law_y (front_follows n t y) (keeps y.before law_y (front_follows n t y))) next owner y.event.event.ask refl place k
      | inr k ↦ (others g y law_g fol next).0 owner place k ready
    ]

    by : (p : Place) → place_of x.event.ask ≡ p → x.event.reply ≡ y.event.event.reply
    by (places.Memory owner) e =
        let there = served_here s n (g ++ x ∷ []) law g [] x refl owner e in
        let m = made_memory s owner.0 in
        let h = of_memory owner.0 g in
        let ready : IsTrue (memory_ready m h y.event.image.0 y.event.event.ask) =
        subst (λ a. IsTrue (memory_ready m h y.event.image.0 a)) (sym ask) (subst (λ i. IsTrue (memory_ready m h i x.event.ask)) (sym image) there.0) in
        there.1 ∙ ap (λ i. memory_reply m h i x.event.ask) (sym image) ∙ ap (memory_reply m h y.event.image.0) (sym ask) ∙ again owner (ap place_of ask ∙ e) ready
    by places.Board e =
        let there = board_here s n (g ++ x ∷ []) law last e in
        let h = at_board g in
        let ready : IsTrue (board_ready n h y.event.image.0 y.event.event.ask) =
        subst (λ a. IsTrue (board_ready n h y.event.image.0 a)) (sym ask) (subst (λ i. IsTrue (board_ready n h i x.event.ask)) (sym image) there.0) in
        there.1 ∙ ap (λ i. board_reply n h i x.event.ask) (sym image) ∙ ap (board_reply n h y.event.image.0) (sym ask) ∙ (others g y law_g fol next).1 (ap place_of ask ∙ e) ready
    by places.Own e = each_stands IsDoneAlone (g ++ x ∷ []) law.alone last e ∙ sym (each_stands IsDoneAlone t lawful_t.alone y (ap place_of ask ∙ e))

  pub replies_same : OthersSame → RepliesSame n (full_rules step hears) (full_beginning s n first) t
  replies_same others g x y run fol next image ask = by others g x y run fol next image ask (place_of x.event.ask) refl
