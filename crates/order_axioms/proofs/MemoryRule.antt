-- In a lawful trace each read gives the last write of its cells.
use Rattle.std.proofs.Common.{◌≡◌, ℕ, suc, Bool, true, false, ◌&&◌, IsTrue, nat_eq, cond, List, [], ◌∷◌, ◌++◌, inl, inr, refl, ap, sym, ◌∙◌, subst, arith}
use Rattle.std.specs.Prelude.{Option}
use Rattle.std.proofs.lemmas.List.{append-nil}
use Rattle.std.proofs.lemmas.Bool.{cases_Bool, eqb-true}
use Rattle.caf_base.specs.declared.place.ImageNo.{ImageNo}
use Rattle.caf_base.specs.declared.place.Place.{Place}
use Rattle.caf_base.specs.declared.place.Place.TheVariants as places
use Rattle.caf_base.specs.declared.span.Span.{Span}
use Rattle.caf_base.specs.declared.value.AtomicOp.{AtomicOp}
use Rattle.caf_base.specs.declared.value.AtomicOp.TheVariants as ops
use Rattle.caf_base.specs.declared.value.Value.{Value}
use Rattle.caf_base.specs.Spans.{offsets_of}
use Rattle.caf_events.specs.declared.ask.Ask.{Ask}
use Rattle.caf_events.specs.declared.ask.Ask.TheVariants as asks
use Rattle.caf_events.specs.declared.reply.Reply.{Reply}
use Rattle.caf_events.specs.declared.event.Entry.{Entry}
use Rattle.caf_events.specs.Asks.{place_of, object_of}
use Rattle.object_rules.specs.Cells.{Declared}
use Rattle.object_rules.specs.MemoryRules.{value_there, memory_ready, memory_reply}
use Rattle.trace_theory.specs.Entries.{of}
use Rattle.trace_theory.proofs.Filters.{filter_append}
use Rattle.core_runs.specs.Lists.{key_of}
use Rattle.core_runs.specs.CoreRuns.{of_memory}
use Rattle.core_runs.specs.Lawful.{IsLawfulTrace, made_memory}
use Rattle.order_theory.specs.Order.{Within}
use Rattle.order_theory.specs.Races.{Cell, reads, defines, touches_cell, Stands, ReadsLast}
use Rattle.order_axioms.specs.Views.{edges}
use Rattle.order_axioms.specs.Touching.{atomic_class, class_by, reached, cells_by, has_reached, cells_at, given, accesses}
use Rattle.order_axioms.proofs.Marked.{of_here, served_here}
use Rattle.order_axioms.proofs.CellValues.{cells_within, read_gives}
use Rattle.order_axioms.proofs.KeptValues.{after_is, kept_after}
use Rattle.order_axioms.proofs.LastReads.{HasValues, reads_last}

-- an object's entries, where another's is at the end
of_other : (k : ℕ) (g : List Entry) (x : Entry) → nat_eq (key_of x) k ≡ false → of key_of k (g ++ x ∷ []) ≡ of key_of k g
of_other k g x e = filter_append (λ y. nat_eq (key_of y) k) g (x ∷ []) ∙ ap (λ b. of key_of k g ++ cond b (x ∷ []) []) e ∙ append-nil (of key_of k g)

place_owner : (p : Place) (o : ImageNo) (owner : ℕ) → object_of p ≡ suc owner → p ≡ places.Memory o → o.0 ≡ owner
place_owner p o owner h e = let q : suc o.0 ≡ suc owner = subst (λ z. object_of z ≡ suc owner) e h in omega arith

no_plain_read : (op : AtomicOp) → atomic_class op ≡ reads → ⊥
no_plain_read ops.Ref e = cc
no_plain_read op e = cc

module _ (s : List Declared) (n : ℕ) (t : List Entry) (lawful : IsLawfulTrace s n t) where
  -- the value of a cell after some entries
  abbrev value : List Entry → Cell → Option Value
  value g c = value_there (made_memory s c.owner) (of_memory c.owner g) c.coarray c.offset

  -- a value stays while no entry defines its cell
  kept_is : (g h : List Entry) (e : Entry) (c : Cell) → t ≡ g ++ e ∷ h → (touches_cell c (cells_by g e.event.ask e.event.reply) && defines (class_by e.event.ask)) ≡ false → value (g ++ e ∷ []) c ≡ value g c
  kept_is g h e c split quiet = elim (cases_Bool (nat_eq (key_of e) (suc c.owner))) [
    | inl same ↦ (
        let key = eqb-true (key_of e) (suc c.owner) same in
        let served : (o : ImageNo) → place_of e.event.ask ≡ places.Memory o
        → IsTrue (memory_ready (made_memory s c.owner) (of_memory c.owner g) e.image.0 e.event.ask) × (e.event.reply ≡ memory_reply (made_memory s c.owner) (of_memory c.owner g) e.image.0 e.event.ask) =
        λ o place. subst (λ j. IsTrue (memory_ready (made_memory s j) (of_memory j g) e.image.0 e.event.ask) × (e.event.reply ≡ memory_reply (made_memory s j) (of_memory j g) e.image.0 e.event.ask))
        (place_owner (place_of e.event.ask) o c.owner key place) (served_here s n t lawful g h e split o place) in
        ap (λ z. value_there (made_memory s c.owner) z c.coarray c.offset) (of_here (suc c.owner) g [] e key)
        ∙ after_is (made_memory s c.owner) g c e
        ∙ kept_after (made_memory s c.owner) g c e.image.0 e.event.ask e.event.reply key served quiet)
    | inr other ↦ ap (λ z. value_there (made_memory s c.owner) z c.coarray c.offset) (of_other (suc c.owner) g e other)
  ]

  -- a read gives the values of its cells
  module _ (x : Stands t) (c : Cell) where
    owner_is : (owner : ImageNo) (span : Span) (b : Bool) → Within c (cond b (cells_at owner.0 span.coarray (offsets_of span)) []) → c.owner ≡ owner.0
    owner_is owner span true w = (cells_within c owner.0 span.coarray (offsets_of span) w).0
    owner_is owner span false w = absurd w

    gives_by : (a : Ask) (r : Reply) → x.event.event.ask ≡ a → x.event.event.reply ≡ r → class_by a ≡ reads → Within c (cells_by x.before a r) → given c a r ≡ value x.before c
    gives_by (asks.Read owner span) r e f k w =
        let there = served_here s n t lawful x.before x.rest x.event x.split owner (ap place_of e) in
        let ready : IsTrue (memory_ready (made_memory s owner.0) (of_memory owner.0 x.before) x.event.image.0 (asks.Read owner span)) =
        subst (λ a. IsTrue (memory_ready (made_memory s owner.0) (of_memory owner.0 x.before) x.event.image.0 a)) e there.0 in
        let due : r ≡ memory_reply (made_memory s owner.0) (of_memory owner.0 x.before) x.event.image.0 (asks.Read owner span) =
        sym f ∙ there.1 ∙ ap (memory_reply (made_memory s owner.0) (of_memory owner.0 x.before) x.event.image.0) e in
        let reach : Within c (reached owner.0 span (memory_reply (made_memory s owner.0) (of_memory owner.0 x.before) x.event.image.0 (asks.Read owner span))) =
        subst (λ z. Within c (reached owner.0 span z)) due w in
        ap (given c (asks.Read owner span)) due
        ∙ read_gives (made_memory s owner.0) lawful.declared (of_memory owner.0 x.before) x.event.image.0 owner span ready c reach
        ∙ ap (λ z. value_there (made_memory s z) (of_memory z x.before) c.coarray c.offset) (sym (owner_is owner span (has_reached r) w))
    gives_by (asks.Atomic owner op span y z) r e f k w = absurd (no_plain_read op k)
    gives_by a r e f k w = absurd (cc)

  has_values : HasValues Entry (Option Value) (edges n) (accesses (made_memory s)) value t
  has_values = record {
    leaves_is = λ g h e c split. refl;
    first_is = λ c. refl;
    kept = λ g h e c split quiet. kept_is g h e c split quiet;
    gives = λ x c k touch. gives_by x c x.event.event.ask x.event.event.reply refl refl k touch;
  }

  -- the rule of memory
  pub lawful_reads_last : ReadsLast (edges n) (accesses (made_memory s)) t
  lawful_reads_last = reads_last Entry (Option Value) (edges n) (accesses (made_memory s)) value t has_values
