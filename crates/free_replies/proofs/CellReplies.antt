-- An access of an image hears in every run that follows the trace what it hears there.
use Rattle.std.proofs.Common.{◌≡◌, ℕ, Bool, true, false, ◌&&◌, IsTrue, cond, List, [], ◌∷◌, length, refl, ap, sym, ◌∙◌, subst}
use Rattle.std.specs.Prelude.{pos, nat_eq, Option, slice_get}
use Rattle.std.proofs.lemmas.Bool.{and_parts}
use Rattle.trace_theory.specs.Entries.{Each}
use Rattle.trace_theory.specs.Machines.{Said}
use Rattle.caf_base.specs.declared.place.ImageNo.{ImageNo}
use Rattle.caf_base.specs.declared.place.Place.TheVariants as places
use Rattle.caf_base.specs.declared.span.Span.{Span}
use Rattle.caf_base.specs.declared.value.Value.{Value}
use Rattle.caf_base.specs.Spans.{offsets_of}
use Rattle.caf_events.specs.declared.ask.Ask.{Ask}
use Rattle.caf_events.specs.declared.ask.Ask.TheVariants as asks
use Rattle.caf_events.specs.declared.reply.Reply.{Reply}
use Rattle.caf_events.specs.declared.reply.Reply.TheVariants as replies
use Rattle.caf_events.specs.declared.event.Entry.{Entry}
use Rattle.caf_events.specs.Asks.{place_of}
use Rattle.object_rules.specs.Cells.{Declared, MadeMemory, is_within, is_marked, values_after}
use Rattle.object_rules.specs.MemoryRules.{is_values, holds, suits_values, is_here, fits_memory, value_there, memory_ready, memory_reply}
use Rattle.object_rules.specs.SpanTests.{is_span}
use Rattle.core_runs.specs.CoreRuns.{of_memory}
use Rattle.core_runs.specs.Lawful.{IsLawfulTrace, made_memory}
use Rattle.order_theory.specs.Order.{Within}
use Rattle.order_theory.specs.Races.{Cell, is_access, meets, Stands}
use Rattle.order_theory.specs.Facts.{AccessesCell}
use Rattle.order_axioms.specs.Views.{view, edges}
use Rattle.order_axioms.specs.Touching.{touches, accesses, class_of, class_by, cells_of, cells_by, cells_at, has_reached}
use Rattle.order_axioms.specs.FirstRaces.{HasNoRace}
use Rattle.order_axioms.proofs.CellValues.{within_cells}
use Rattle.order_axioms.proofs.Marked.{served_here}
use Rattle.order_cuts.specs.Cuts.{IsNext}
use Rattle.order_cuts.proofs.SameValues.{Writing, same_value}
use Rattle.every_order.specs.Decided.{is_free}
use Rattle.every_order.specs.Likes.{likes}
use Rattle.free_replies.specs.Subsets.{is_of_cells}
use Rattle.free_replies.proofs.Alike.{IsFree, each_stands, each_front, unmarked}
use Rattle.free_replies.proofs.SameCells.{read_same, write_same}
use Rattle.free_replies.proofs.Written.{suits_is}
use Rattle.free_replies.proofs.Followers.{plain_by, plain_meets, defines_accesses, value, quiet, acting, IsRun}

owner_same : (o owner : ImageNo) → places.Memory o ≡ places.Memory owner → o ≡ owner
owner_same o owner e = cc

module _ (s : List Declared) (n : ℕ) (t : List Entry) (lawful_t : IsLawfulTrace s n t) (free_t : Each IsFree t) (clean : HasNoRace (edges n) touches t) (g : List Entry) (run : IsRun s n t lawful_t free_t clean g)
    (free_g : Each IsFree g) (y : Stands t) (own : IsRun s n t lawful_t free_t clean y.before) (next : IsNext (view n) (likes n) g y) where
  abbrev values : List Entry → Cell → Option Value
  values = value s n t lawful_t free_t clean

  meets_all : (w z : Stands t) (c : Cell) → Writing Entry (Option Value) (accesses (made_memory s)) values w c → is_access (class_of z.event) ≡ true
      → (meets (class_of w.event) (class_of z.event) ≡ true) × (meets (class_of z.event) (class_of w.event) ≡ true)
  meets_all w z c ww access = plain_meets (class_of w.event) (class_of z.event) (plain_by w.event.event.ask w.event.event.reply (each_stands IsFree t free_t w) ww.1) access

  -- a cell that the step touches holds in the run what it holds in the trace
  pub holds_same : (c : Cell) → Within c (cells_of y.before y.event) → is_access (class_of y.event) ≡ true → values g c ≡ values y.before c
  holds_same c touch access =
      same_value Entry (Said Ask Reply) (Option Value) (view n) (likes n) (accesses (made_memory s)) values (AccessesCell touches) t (quiet s n t lawful_t free_t clean) clean
      (acting s n t lawful_t free_t clean t) c (λ w z ww wz. (meets_all w z c ww (defines_accesses (class_of z.event) wz.1)).0)
      y (c, touch, access) touch (λ w ww. meets_all w y c ww access) g y.before run own next refl

  module _ (owner : ImageNo) where
    abbrev m : MadeMemory
    m = made_memory s owner.0

    abbrev i : ℕ
    i = y.event.image.0

    abbrev here : List Entry
    here = of_memory owner.0 y.before

    abbrev there : List Entry
    there = of_memory owner.0 g

    free_before : Each IsFree y.before
    free_before = each_front IsFree y.before (y.event ∷ y.rest) (subst (Each IsFree) y.split free_t)

    module _ (a : Ask) (place : place_of y.event.event.ask ≡ places.Memory owner) (is : y.event.event.ask ≡ a) where
      due : y.event.event.reply ≡ memory_reply m here i a
      due = (served_here s n t lawful_t y.before y.rest y.event y.split owner place).1 ∙ ap (memory_reply m here i) is

      ready : IsTrue (memory_ready m here i a)
      ready = subst (λ b. IsTrue (memory_ready m here i b)) is (served_here s n t lawful_t y.before y.rest y.event y.split owner place).0

      free : is_free a (memory_reply m here i a) ≡ true
      free = subst (λ b. is_free b (memory_reply m here i a) ≡ true) is (subst (λ r. is_free y.event.event.ask r ≡ true) due (each_stands IsFree t free_t y))

    -- the cells of a span that a reply reaches
    span_same : (span : Span) → (os : List Cell) → os ≡ cells_at owner.0 span.coarray (offsets_of span) → os ≡ cells_of y.before y.event → is_access (class_of y.event) ≡ true
        → (o : ℕ) → Within (pos o) (offsets_of span) → value_there m there span.coarray o ≡ value_there m here span.coarray o
    span_same span os at touched access o w =
        let c : Cell = record { owner = owner.0; coarray = span.coarray; offset = o } in
        holds_same c (subst (Within c) (sym at ∙ touched) (within_cells c (offsets_of span) w)) access

    read_again : (span : Span) → y.event.event.ask ≡ asks.Read owner span → memory_reply m there i (asks.Read owner span) ≡ y.event.event.reply
    read_again span e =
        let a = asks.Read owner span in
        let place = ap place_of e in
        let fits = (and_parts (fits_memory m here i a) true (ready a place e)).0 in
        let is = (and_parts (is_here m owner && is_span span) (holds is_values (slice_get s span.coarray)) fits).1 in
        let clean_here = unmarked owner.0 y.before free_before in
        let r = read_same m lawful_t.declared here there i owner span is clean_here (unmarked owner.0 g free_g) (free a place e)
        (λ within o w. span_same span (cells_at owner.0 span.coarray (offsets_of span)) refl
        (sym (ap (cells_by y.before y.event.event.ask) (due a place e)
        ∙ ap (λ b. cells_by y.before b (memory_reply m here i a)) e
        ∙ ap (λ b. cond (has_reached (cond b replies.Dead (cond (is_within m here span) (replies.Values (values_after m here span.coarray (offsets_of span))) replies.Absent))) (cells_at owner.0 span.coarray (offsets_of span)) []) clean_here
        ∙ ap (λ b. cond (has_reached (cond b (replies.Values (values_after m here span.coarray (offsets_of span))) replies.Absent)) (cells_at owner.0 span.coarray (offsets_of span)) []) within))
        (ap (λ b. is_access (class_by b)) e) o w) in
        r ∙ sym (due a place e)

    write_again : (span : Span) (vs : List Value) → y.event.event.ask ≡ asks.Write owner span vs → memory_reply m there i (asks.Write owner span vs) ≡ y.event.event.reply
    write_again span vs e =
        let a = asks.Write owner span vs in
        let place = ap place_of e in
        let fits = (and_parts (fits_memory m here i a) true (ready a place e)).0 in
        let is = suits_is vs (slice_get s span.coarray) (and_parts (is_here m owner && is_span span && nat_eq (length vs) (length (offsets_of span))) (holds (suits_values vs) (slice_get s span.coarray)) fits).1 in
        let clean_here = unmarked owner.0 y.before free_before in
        let r = write_same m lawful_t.declared here there i owner span is clean_here (unmarked owner.0 g free_g) vs (free a place e)
        (λ within o w. span_same span (cells_at owner.0 span.coarray (offsets_of span)) refl
        (sym (ap (cells_by y.before y.event.event.ask) (due a place e)
        ∙ ap (λ b. cells_by y.before b (memory_reply m here i a)) e
        ∙ ap (λ b. cond (has_reached (cond b replies.Dead (cond (is_within m here span) replies.Done replies.Absent))) (cells_at owner.0 span.coarray (offsets_of span)) []) clean_here
        ∙ ap (λ b. cond (has_reached (cond b replies.Done replies.Absent)) (cells_at owner.0 span.coarray (offsets_of span)) []) within))
        (ap (λ b. is_access (class_by b)) e) o w) in
        r ∙ sym (due a place e)

  -- an allocation and a deallocation are done
  done_again : (x z : Bool) → cond x replies.Done replies.Done ≡ cond z replies.Done replies.Done
  done_again true true = refl
  done_again true false = refl
  done_again false true = refl
  done_again false false = refl

  -- THE REPLY OF A MEMORY: an access has there after the run the reply that it has in the trace.
  pub memory_again : (owner : ImageNo) (a : Ask) → y.event.event.ask ≡ a → place_of a ≡ places.Memory owner → is_of_cells a ≡ true
      → memory_reply (made_memory s owner.0) (of_memory owner.0 g) y.event.image.0 a ≡ y.event.event.reply
  memory_again owner (asks.Read o span) e place k = subst (λ p. memory_reply (made_memory s p.0) (of_memory p.0 g) y.event.image.0 (asks.Read o span) ≡ y.event.event.reply) (owner_same o owner place) (read_again o span e)
  memory_again owner (asks.Write o span vs) e place k = subst (λ p. memory_reply (made_memory s p.0) (of_memory p.0 g) y.event.image.0 (asks.Write o span vs) ≡ y.event.event.reply) (owner_same o owner place) (write_again o span vs e)
  memory_again owner (asks.Create o c cells) e place k = done_again (is_marked (of_memory owner.0 g)) (is_marked (of_memory owner.0 y.before)) ∙ sym (due owner (asks.Create o c cells) (ap place_of e ∙ place) e)
  memory_again owner (asks.Delete o c) e place k = done_again (is_marked (of_memory owner.0 g)) (is_marked (of_memory owner.0 y.before)) ∙ sym (due owner (asks.Delete o c) (ap place_of e ∙ place) e)
  memory_again owner a e place k = absurd (cc)
