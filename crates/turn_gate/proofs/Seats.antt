-- Lists of seats, and one seat that changes.
use Rattle.std.proofs.Common.{◌≡◌, ◌≢◌, ℕ, zero, suc, ◌<◌, List, [], ◌∷◌, ◌⊎◌, inl, inr, length, set, ap, sym, ◌∙◌, subst, arith, Option}
use mathlib.Core.Option as math
use mathlib.Core.Option.{some-injective, some-ne-none}
use Rattle.atomic_table.specs.Table.{State}
use Rattle.atomic_table.proofs.Lists.{at_set, set_else}
use Rattle.caf_events.specs.declared.event.Entry.{Entry}
use Rattle.turn_gate.specs.declared.view.View.{View}
use Rattle.turn_gate.specs.Gates.{At, Sits, Desk, AtHome, IsOut, Keeps}

pub same_at : (vs : List View) (i : ℕ) (v w : View) → At vs i v → At vs i w → v ≡ w
same_at vs i v w a b = some-injective v w (sym a ∙ b)

pub is_there : (vs : List View) (i : ℕ) (v : View) → At vs i v → i < length vs
is_there [] i v e = absurd (some-ne-none v (sym e))
is_there (x ∷ xs) zero v e = omega arith
is_there (x ∷ xs) (suc i) v e = let r = is_there xs i v e in omega arith

module _ {O : Type 0} where
  module _ (history : O → List Entry) (like : O → Type 0) (recorded : List Entry → Type 0) (s : State (Option O) View) (k : Keeps history like recorded s) (id : ℕ) (v w : View) (at : At s.views id v) (live : 0 < v.image) (image : w.image ≡ v.image) where
    -- the seat isn't the first one
    pub not_first : id ≢ 0
    not_first e = let same = same_at s.views 0 v k.f (subst (λ i. At s.views i v) e at) k.first in let a = ap (λ (u : View). u.image) same in let b = k.desk.image in omega arith

    no_two_after : (i j : ℕ) (a b : View) → At (set s.views id w) i a → At (set s.views id w) j b → 0 < a.image → a.image ≡ b.image → i ≡ j
    no_two_after i j a b p q pos same = elim (at_set s.views id i w a p) [
      | inl x ↦ elim (at_set s.views id j w b q) [
        | inl y ↦ x.0 ∙ sym y.0
        | inr y ↦ x.0 ∙ k.no_two id j v b at y.1 live (sym image ∙ ap (λ (u : View). u.image) x.1 ∙ same)
      ]
      | inr x ↦ elim (at_set s.views id j w b q) [
        | inl y ↦ k.no_two i id a v x.1 at pos (same ∙ sym (ap (λ (u : View). u.image) y.1) ∙ image) ∙ sym y.0
        | inr y ↦ k.no_two i j a b x.1 y.1 pos same
      ]
    ]

    -- what the other seats know stays, and the rule holds of the one that changed
    pub moved : (words : List ℕ) (homes : List (math.Option (Option O))) (log : List Entry)
        → Desk log k.f
        → Sits log k.f w
        → ((j : ℕ) (u : View) → j ≢ id → At s.views j u → Sits k.log k.f u → Sits log k.f u)
        → AtHome history like log record { words = words; homes = homes; views = set s.views id w } ⊎ IsOut log record { words = words; homes = homes; views = set s.views id w }
        → recorded log
        → Keeps history like recorded record { words = words; homes = homes; views = set s.views id w }
    moved words homes log desk mine others slot good = record {
      log = log;
      f = k.f;
      first = set_else s.views id 0 w (λ e. not_first (sym e)) ∙ k.first;
      desk = desk;
      sits = λ j u p. elim (at_set s.views id j w u p) [
        | inl x ↦ subst (λ (z : View). Sits log k.f z) x.1 mine
        | inr x ↦ others j u x.0 x.1 (k.sits j u x.1)
      ];
      no_two = no_two_after;
      slot = slot;
      good = good;
    }
