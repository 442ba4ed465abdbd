-- The sizes of an image's coarrays are told by its own words: it alone allocates and deallocates them.
use Rattle.std.proofs.Common.{◌≡◌, ℕ, suc, ◌+◌, Bool, true, false, ◌&&◌, not, IsTrue, nat_eq, cond, List, [], ◌∷◌, inl, inr, refl, ap, sym, ◌∙◌, subst, arith}
use Rattle.std.specs.Prelude.{nat_le, length, map, Option, slice_get, is_some}
use Rattle.std.specs.List.{range_with_len}
use Rattle.std.proofs.lemmas.Bool.{cases_Bool, and_parts, both_ways, eqb-true, eq-eqb}
use Rattle.trace_theory.specs.Entries.{Each}
use Rattle.trace_theory.specs.Machines.{Said}
use Rattle.caf_base.specs.declared.place.ImageNo.{ImageNo}
use Rattle.caf_events.specs.declared.ask.Ask.{Ask}
use Rattle.caf_events.specs.declared.ask.Ask.TheVariants as asks
use Rattle.caf_events.specs.declared.reply.Reply.{Reply}
use Rattle.caf_events.specs.declared.event.Entry.{Entry}
use Rattle.caf_events.specs.Asks.{place_of, object_of}
use Rattle.object_rules.specs.Cells.{Declared, MadeMemory, size_turn, size_from, size_after}
use Rattle.object_rules.specs.MemoryRules.{is_own, is_here, is_allocatable, all_cells, cells_used, or_zero, fits_memory, memory_ready}
use Rattle.core_runs.specs.Lists.{said}
use Rattle.core_runs.specs.CoreRuns.{of_image, of_memory, said_by}
use Rattle.core_runs.specs.Lawful.{IsLawfulTrace, made_memory}
use Rattle.order_theory.specs.Races.{Stands}
use Rattle.order_axioms.specs.Touching.{first_cells, made_by, made_last, cells_by}
use Rattle.order_axioms.proofs.Marked.{served_here}
use Rattle.free_replies.specs.Subsets.{is_of_cells}
use Rattle.free_replies.proofs.Alike.{each_from}

-- an allocation or deallocation is the owner's own
abbrev pub IsOwnSizing : ℕ → Ask → Type 0
IsOwnSizing i (asks.Create owner coarray cells) = i ≡ owner.0
IsOwnSizing i (asks.Delete owner coarray) = i ≡ owner.0
IsOwnSizing i a = Unit {0}

abbrev pub SizesOwn : Entry → Type 0
SizesOwn x = IsOwnSizing x.image.0 x.event.ask

own_image : (m : MadeMemory) (i : ℕ) (owner : ImageNo) → is_own m i owner ≡ true → i ≡ owner.0
own_image m i owner h = let p = and_parts (is_here m owner) (nat_eq i m.owner.0) h in eqb-true i m.owner.0 p.1 ∙ sym (eqb-true owner.0 m.owner.0 p.0)

pub sizes_own : (s : List Declared) (n : ℕ) (g : List Entry) → IsLawfulTrace s n g → Each SizesOwn g
sizes_own s n g lawful = each_from SizesOwn g (λ x. by x x.event.event.ask refl)
  where
    by : (x : Stands g) (a : Ask) → x.event.event.ask ≡ a → IsOwnSizing x.event.image.0 x.event.event.ask
    by x (asks.Create owner c k) e =
        let there = served_here s n g lawful x.before x.rest x.event x.split owner (ap place_of e) in
        let m = made_memory s owner.0 in
        let h = of_memory owner.0 x.before in
        let i = x.event.image.0 in
        let ready : IsTrue (memory_ready m h i (asks.Create owner c k)) = subst (λ a. IsTrue (memory_ready m h i a)) e there.0 in
        let fits = (and_parts (fits_memory m h i (asks.Create owner c k)) true ready).0 in
        let own = is_own m i owner in
        let absent = (and_parts (own && is_allocatable (slice_get s c) && not (is_some (size_after m h c))) (nat_le (all_cells m h + k) 65536) fits).0 in
        let may = (and_parts (own && is_allocatable (slice_get s c)) (not (is_some (size_after m h c))) absent).0 in
        subst (IsOwnSizing i) (sym e) (own_image m i owner (and_parts own (is_allocatable (slice_get s c)) may).0)
    by x (asks.Delete owner c) e =
        let there = served_here s n g lawful x.before x.rest x.event x.split owner (ap place_of e) in
        let m = made_memory s owner.0 in
        let h = of_memory owner.0 x.before in
        let i = x.event.image.0 in
        let ready : IsTrue (memory_ready m h i (asks.Delete owner c)) = subst (λ a. IsTrue (memory_ready m h i a)) e there.0 in
        let fits = (and_parts (fits_memory m h i (asks.Delete owner c)) true ready).0 in
        let own = is_own m i owner in
        let may = (and_parts (own && is_allocatable (slice_get s c)) (is_some (size_after m h c)) fits).0 in
        subst (IsOwnSizing i) (sym e) (own_image m i owner (and_parts own (is_allocatable (slice_get s c)) may).0)
    by x a e = subst (IsOwnSizing x.event.image.0) (sym e) tt

-- how many cells a coarray has since its last allocation, by its owner's words
abbrev made_said : ℕ → ℕ → ℕ → List (Said Ask Reply) → ℕ
made_said owner c m [] = m
made_said owner c m (s ∷ ss) = made_said owner c (made_by owner c s.ask m) ss

other_makes : (owner c m i : ℕ) (a : Ask) → nat_eq i owner ≡ false → IsOwnSizing i a → made_by owner c a m ≡ m
other_makes owner c m i (asks.Create o k cells) other own = rw (subst (λ z. nat_eq z owner ≡ false) own other) refl
other_makes owner c m i a other own = refl

made_own : (owner c m : ℕ) (g : List Entry) → Each SizesOwn g → made_last owner c m g ≡ made_said owner c m (said_by owner g)
made_own owner c m [] h = refl
made_own owner c m (e ∷ g) h = elim (cases_Bool (nat_eq e.image.0 owner)) [
  | inl a ↦ rw a (made_own owner c (made_by owner c e.event.ask m) g h.1)
  | inr a ↦ rw a (ap (λ z. made_last owner c z g) (other_makes owner c m e.image.0 e.event.ask a h.0) ∙ made_own owner c m g h.1)
]

-- the cells that an ask touches are told by its image's words
pub cells_same : (g h : List Entry) (i : ℕ) (a : Ask) (r : Reply) → IsOwnSizing i a → Each SizesOwn g → Each SizesOwn h → said_by i g ≡ said_by i h
    → cells_by g a r ≡ cells_by h a r
cells_same g h i (asks.Delete owner c) r own of_g of_h same =
    let words : said_by owner.0 g ≡ said_by owner.0 h = subst (λ j. said_by j g ≡ said_by j h) own same in
    ap (first_cells owner.0 c) (made_own owner.0 c 0 g of_g ∙ ap (made_said owner.0 c 0) words ∙ sym (made_own owner.0 c 0 h of_h))
cells_same g h i a r own of_g of_h same = refl

-- how many cells a coarray has after a history of its owner's memory, by the owner's words
abbrev size_said : ℕ → ℕ → Option ℕ → List (Said Ask Reply) → Option ℕ
size_said owner c s [] = s
size_said owner c s (x ∷ xs) = size_said owner c (cond (nat_eq (object_of (place_of x.ask)) (suc owner)) (size_turn c s x.ask) s) xs

other_sizes : (owner c : ℕ) (s : Option ℕ) (i : ℕ) (a : Ask) → nat_eq i owner ≡ false → nat_eq (object_of (place_of a)) (suc owner) ≡ true → IsOwnSizing i a → size_turn c s a ≡ s
other_sizes owner c s i (asks.Create o k cells) other here own =
    let key = eqb-true (suc o.0) (suc owner) here in
    absurd (both_ways (nat_eq i owner) other (eq-eqb i owner (omega arith)))
other_sizes owner c s i (asks.Delete o k) other here own =
    let key = eqb-true (suc o.0) (suc owner) here in
    absurd (both_ways (nat_eq i owner) other (eq-eqb i owner (omega arith)))
other_sizes owner c s i a other here own = refl

size_one : (c : ℕ) (s : Option ℕ) (e : Entry) (g : List Entry) (b : Bool) → size_from c s (cond b (e ∷ g) g) ≡ size_from c (cond b (size_turn c s e.event.ask) s) g
size_one c s e g true = refl
size_one c s e g false = refl

said_one : (owner c : ℕ) (s : Option ℕ) (e : Entry) (g : List Entry) (b : Bool) → size_said owner c s (map (λ (x : Entry). said x.event) (cond b (e ∷ g) g))
    ≡ size_said owner c (cond b (cond (nat_eq (object_of (place_of e.event.ask)) (suc owner)) (size_turn c s e.event.ask) s) s) (map (λ (x : Entry). said x.event) g)
said_one owner c s e g true = refl
said_one owner c s e g false = refl

turns_own : (owner c : ℕ) (s : Option ℕ) (i : ℕ) (a : Ask) (k o : Bool) → nat_eq (object_of (place_of a)) (suc owner) ≡ k → nat_eq i owner ≡ o → IsOwnSizing i a
    → cond k (size_turn c s a) s ≡ cond o (cond k (size_turn c s a) s) s
turns_own owner c s i a k true here own sizes = refl
turns_own owner c s i a true false here own sizes = other_sizes owner c s i a own here sizes
turns_own owner c s i a false false here own sizes = refl

size_own : (owner c : ℕ) (s : Option ℕ) (g : List Entry) → Each SizesOwn g → size_from c s (of_memory owner g) ≡ size_said owner c s (said_by owner g)
size_own owner c s [] h = refl
size_own owner c s (e ∷ g) h =
    let k = nat_eq (object_of (place_of e.event.ask)) (suc owner) in
    let o = nat_eq e.image.0 owner in
    size_one c s e (of_memory owner g) k
    ∙ size_own owner c (cond k (size_turn c s e.event.ask) s) g h.1
    ∙ ap (λ z. size_said owner c z (said_by owner g)) (turns_own owner c s e.image.0 e.event.ask k o refl refl h.0)
    ∙ sym (said_one owner c s e (of_image owner g) o)

-- the sizes of an image's coarrays are the same where it has said the same
pub size_same : (m : MadeMemory) (owner c : ℕ) (g h : List Entry) → Each SizesOwn g → Each SizesOwn h → said_by owner g ≡ said_by owner h
    → size_after m (of_memory owner g) c ≡ size_after m (of_memory owner h) c
size_same m owner c g h of_g of_h same = size_own owner c _ g of_g ∙ ap (size_said owner c _) same ∙ sym (size_own owner c _ h of_h)

used_same : (m : MadeMemory) (g h : List Entry) → ((c : ℕ) → size_after m g c ≡ size_after m h c) → (cs : List ℕ) → cells_used m g cs ≡ cells_used m h cs
used_same m g h same [] = refl
used_same m g h same (c ∷ cs) = let a = ap or_zero (same c) in let b = used_same m g h same cs in omega arith

pub not_own : (m : MadeMemory) (i : ℕ) (owner : ImageNo) → nat_eq i m.owner.0 ≡ false → is_own m i owner ≡ false
not_own m i owner f = elim (cases_Bool (is_own m i owner)) [
  | inl t ↦ absurd (both_ways (nat_eq i m.owner.0) f (and_parts (is_here m owner) (nat_eq i m.owner.0) t).1)
  | inr n ↦ n
]

-- an access is as ready there where its image has said the same
pub ready_same : (m : MadeMemory) (g h : List Entry) (i : ℕ) (a : Ask) → is_of_cells a ≡ true → ((c : ℕ) → i ≡ m.owner.0 → size_after m g c ≡ size_after m h c) → memory_ready m g i a ≡ memory_ready m h i a
ready_same m g h i (asks.Read owner span) k same = refl
ready_same m g h i (asks.Write owner span vs) k same = refl
ready_same m g h i (asks.Create owner c cells) k same = elim (cases_Bool (nat_eq i m.owner.0)) [
  | inl t ↦ (
      let is = eqb-true i m.owner.0 t in
      let all : all_cells m g ≡ all_cells m h = used_same m g h (λ d. same d is) (range_with_len 0 (length m.coarrays)) in
      ap (λ z. is_own m i owner && is_allocatable (slice_get m.coarrays c) && not (is_some z) && nat_le (all_cells m g + cells) 65536 && true) (same c is)
      ∙ ap (λ z. is_own m i owner && is_allocatable (slice_get m.coarrays c) && not (is_some (size_after m h c)) && nat_le (z + cells) 65536 && true) all)
  | inr f ↦ (
      let no = not_own m i owner f in
      ap (λ z. z && is_allocatable (slice_get m.coarrays c) && not (is_some (size_after m g c)) && nat_le (all_cells m g + cells) 65536 && true) no
      ∙ sym (ap (λ z. z && is_allocatable (slice_get m.coarrays c) && not (is_some (size_after m h c)) && nat_le (all_cells m h + cells) 65536 && true) no))
]
ready_same m g h i (asks.Delete owner c) k same = elim (cases_Bool (nat_eq i m.owner.0)) [
  | inl t ↦ ap (λ z. is_own m i owner && is_allocatable (slice_get m.coarrays c) && is_some z && true) (same c (eqb-true i m.owner.0 t))
  | inr f ↦ (
      let no = not_own m i owner f in
      ap (λ z. z && is_allocatable (slice_get m.coarrays c) && is_some (size_after m g c) && true) no
      ∙ sym (ap (λ z. z && is_allocatable (slice_get m.coarrays c) && is_some (size_after m h c) && true) no))
]
ready_same m g h i a k same = absurd (cc)
