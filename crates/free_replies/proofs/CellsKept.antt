-- In a lawful trace a value stays while no entry defines its cell. (As in the rule of memory of `order_axioms`, of
-- which only the result is open to other crates.)
use Rattle.std.proofs.Common.{◌≡◌, ℕ, suc, false, ◌&&◌, IsTrue, nat_eq, cond, List, [], ◌∷◌, ◌++◌, inl, inr, ap, ◌∙◌, subst, arith}
use Rattle.std.proofs.lemmas.List.{append-nil}
use Rattle.std.proofs.lemmas.Bool.{cases_Bool, eqb-true}
use Rattle.caf_base.specs.declared.place.ImageNo.{ImageNo}
use Rattle.caf_base.specs.declared.place.Place.{Place}
use Rattle.caf_base.specs.declared.place.Place.TheVariants as places
use Rattle.caf_events.specs.declared.event.Entry.{Entry}
use Rattle.caf_events.specs.Asks.{place_of, object_of}
use Rattle.object_rules.specs.Cells.{Declared}
use Rattle.object_rules.specs.MemoryRules.{value_there, memory_ready, memory_reply}
use Rattle.trace_theory.specs.Entries.{of}
use Rattle.trace_theory.proofs.Filters.{filter_append}
use Rattle.core_runs.specs.Lists.{key_of}
use Rattle.core_runs.specs.CoreRuns.{of_memory}
use Rattle.core_runs.specs.Lawful.{IsLawfulTrace, made_memory}
use Rattle.order_theory.specs.Races.{Cell, defines, touches_cell}
use Rattle.order_axioms.specs.Touching.{class_by, cells_by}
use Rattle.order_axioms.proofs.Marked.{of_here, served_here}
use Rattle.order_axioms.proofs.KeptValues.{after_is, kept_after}

-- an object's entries, where another's is at the end
of_other : (k : ℕ) (g : List Entry) (x : Entry) → nat_eq (key_of x) k ≡ false → of key_of k (g ++ x ∷ []) ≡ of key_of k g
of_other k g x e = filter_append (λ y. nat_eq (key_of y) k) g (x ∷ []) ∙ ap (λ b. of key_of k g ++ cond b (x ∷ []) []) e ∙ append-nil (of key_of k g)

place_owner : (p : Place) (o : ImageNo) (owner : ℕ) → object_of p ≡ suc owner → p ≡ places.Memory o → o.0 ≡ owner
place_owner p o owner h e = let q : suc o.0 ≡ suc owner = subst (λ z. object_of z ≡ suc owner) e h in omega arith

module _ (s : List Declared) (n : ℕ) (t : List Entry) (lawful : IsLawfulTrace s n t) where
  pub kept_is : (g h : List Entry) (e : Entry) (c : Cell) → t ≡ g ++ e ∷ h → (touches_cell c (cells_by g e.event.ask e.event.reply) && defines (class_by e.event.ask)) ≡ false
      → value_there (made_memory s c.owner) (of_memory c.owner (g ++ e ∷ [])) c.coarray c.offset ≡ value_there (made_memory s c.owner) (of_memory c.owner g) c.coarray c.offset
  kept_is g h e c split quiet = elim (cases_Bool (nat_eq (key_of e) (suc c.owner))) [
    | inl same ↦ (
        let key = eqb-true (key_of e) (suc c.owner) same in
        let served : (o : ImageNo) → place_of e.event.ask ≡ places.Memory o
        → IsTrue (memory_ready (made_memory s c.owner) (of_memory c.owner g) e.image.0 e.event.ask) × (e.event.reply ≡ memory_reply (made_memory s c.owner) (of_memory c.owner g) e.image.0 e.event.ask) =
        λ o place. subst (λ j. IsTrue (memory_ready (made_memory s j) (of_memory j g) e.image.0 e.event.ask) × (e.event.reply ≡ memory_reply (made_memory s j) (of_memory j g) e.image.0 e.event.ask))
        (place_owner (place_of e.event.ask) o c.owner key place) (served_here s n t lawful g h e split o place) in
        ap (λ z. value_there (made_memory s c.owner) z c.coarray c.offset) (of_here (suc c.owner) g [] e key)
        ∙ after_is (made_memory s c.owner) g c e
        ∙ kept_after (made_memory s c.owner) g c e.image.0 e.event.ask e.event.reply key served quiet)
    | inr other ↦ ap (λ z. value_there (made_memory s c.owner) z c.coarray c.offset) (of_other (suc c.owner) g e other)
  ]
