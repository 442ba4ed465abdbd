-- How many cells a coarray was last given, after one more entry.
use Rattle.std.proofs.Common.{◌≡◌, ℕ, ◌<◌, ◌≤◌, nat_eq, ◌&&◌, cond, List, [], ◌∷◌, ◌++◌, length, get_or, set, refl, ap, sym, ◌∙◌}
use Rattle.std.proofs.lemmas.Bool.{eq-eqb, ne_eqb}
use Rattle.caf_events.specs.declared.ask.Ask.{Ask}
use Rattle.caf_events.specs.declared.ask.Ask.TheVariants as asks
use Rattle.caf_events.specs.declared.event.Entry.{Entry}
use Rattle.caf_base.specs.declared.place.ImageNo.{ImageNo}
use Rattle.order_axioms.specs.Touching.{made_by, made_last}
use Rattle.race_watch.specs.Orders.{line_of}
use Rattle.race_watch.specs.Recorded.{MadeKept}
use Rattle.race_watch.proofs.Lines.{same_row, turned_round}
use Rattle.race_watch.proofs.Turning.{at_set}

made_more : (o c m : ℕ) (g : List Entry) (e : Entry) → made_last o c m (g ++ e ∷ []) ≡ made_by o c e.event.ask (made_last o c m g)
made_more o c m [] e = refl
made_more o c m (x ∷ xs) e = made_more o c (made_by o c x.event.ask m) xs e

swapped : (o p c d : ℕ) → (nat_eq o p && nat_eq c d) ≡ (nat_eq p o && nat_eq d c)
swapped o p c d = ap (λ b. b && nat_eq c d) (turned_round o p) ∙ ap (λ b. nat_eq p o && b) (turned_round c d)

-- the entry gives no coarray cells
pub made_same : (n : ℕ) (g : List Entry) (e : Entry) (made : List ℕ) → ((o c m : ℕ) → made_by o c e.event.ask m ≡ m) → MadeKept n g made → MadeKept n (g ++ e ∷ []) made
made_same n g e made none kept o c h k = kept o c h k ∙ sym (none o c (made_last o c 0 g)) ∙ sym (made_more o c 0 g e)

-- it gives one so many
pub made_new : (n : ℕ) (g : List Entry) (e : Entry) (owner : ImageNo) (coarray cells line : ℕ) (old mid new : List ℕ) → e.event.ask ≡ asks.Create owner coarray cells → 0 < owner.0 → owner.0 ≤ n
    → line ≡ line_of n owner.0 coarray → MadeKept n g old → ((k : ℕ) → get_or mid k 0 ≡ get_or old k 0) → line < length mid → new ≡ set mid line cells → MadeKept n (g ++ e ∷ []) new
made_new n g e owner coarray cells line old mid new is p q at kept same far step o c h k =
    ap (λ z. get_or z (line_of n o c) 0) step
    ∙ at_set (λ j x. x ≡ cond (nat_eq line (line_of n o c)) cells (made_last o c 0 g)) mid line (line_of n o c) cells 0 far
    (λ e'. sym (ap (λ b. cond b cells (made_last o c 0 g)) (eq-eqb line (line_of n o c) e')))
    (λ ne. same (line_of n o c) ∙ kept o c h k ∙ sym (ap (λ b. cond b cells (made_last o c 0 g)) (ne_eqb line (line_of n o c) ne)))
    ∙ ap (λ b. cond b cells (made_last o c 0 g)) (ap (λ z. nat_eq z (line_of n o c)) at ∙ sym (same_row n o c owner.0 coarray h k p q) ∙ swapped o owner.0 c coarray)
    ∙ sym (made_more o c 0 g e ∙ ap (λ a. made_by o c a (made_last o c 0 g)) is)

pub made_none : (a : Ask) → ((owner : ImageNo) (coarray cells : ℕ) → a ≡ asks.Create owner coarray cells → ⊥) → (o c m : ℕ) → made_by o c a m ≡ m
made_none (asks.Create owner coarray cells) h o c m = absurd (h owner coarray cells refl)
made_none a h o c m = refl
