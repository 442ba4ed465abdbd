-- The sizes of an image's own coarrays, as it was told, are those at its memory: it alone allocates and deallocates
-- there.
use Rattle.std.proofs.Common.{◌≡◌, ℕ, zero, suc, ◌+◌, ◌<◌, Bool, true, false, cond, ◌&&◌, not, List, [], ◌∷◌, ◌++◌, length, map, slice_get, slice_set, is_some, inl, inr, refl, sym, ap, ◌∙◌, subst, nat_eq, nat_le, arith}
use Rattle.std.specs.Prelude.{Option, Some, None}
use Rattle.std.specs.List.{range_with_len}
use Rattle.std.proofs.lemmas.Bool.{and_parts, eqb-true}
use Rattle.std.proofs.lemmas.Bool.Decides.{eqb_tells}
use Rattle.std.proofs.lemmas.List.{length-set, length-map}
use Rattle.caf_events.specs.declared.ask.Ask.{Ask}
use Rattle.caf_events.specs.declared.ask.Ask.TheVariants as asks
use Rattle.caf_events.specs.declared.reply.Reply.{Reply}
use Rattle.caf_events.specs.declared.event.Entry.{Entry}
use Rattle.caf_events.specs.Asks.{place_of, object_of}
use Rattle.trace_theory.specs.Entries.{Each}
use Rattle.trace_theory.specs.Machines.{Said}
use Rattle.image_acts.specs.Frames.{joined}
use Rattle.object_rules.specs.Cells.{Declared, MadeMemory, size_turn, size_from, first_size, size_after}
use Rattle.object_rules.specs.MemoryRules.{is_own, is_here, is_allocatable, all_cells, cells_used, or_zero, fits_memory, memory_ready}
use Rattle.core_runs.specs.Lists.{image_of, key_of, said}
use Rattle.core_runs.specs.CoreRuns.{of_memory, said_by}
use Rattle.core_runs.specs.Lawful.{IsLawfulTrace, made_memory}
use Rattle.team_laws.proofs.Lists.{each_split}
use Rattle.answer_laws.proofs.Served.{memory_turn}
use Rattle.told_walks.specs.Asked.{Told, told_next, sizes_by, cells_in}
use Rattle.checked_tree.specs.Statements as checked
use Rattle.told_programs.specs.First.{told_first}
use Rattle.told_parts.proofs.Sizes.{set_other}
use Rattle.walk_laws.specs.Fits.{told_by, first_cells, AreDeclaredBy}

-- ---- what the image was told
set_same : (ss : List (Option ℕ)) (k : ℕ) (w : Option ℕ) → k < length ss → joined (slice_get (slice_set ss k w) k) ≡ w
set_same [] k w h = absurd (omega arith)
set_same (x ∷ ss) zero None h = refl
set_same (x ∷ ss) zero (Some n) h = refl
set_same (x ∷ ss) (suc k) w h = set_same ss k w (omega arith)

-- the coarray of number c after an allocation or a deallocation of coarray d
one_set : (ss : List (Option ℕ)) (c d : ℕ) (w : Option ℕ) → c < length ss → joined (slice_get (slice_set ss d w) c) ≡ cond (nat_eq d c) w (joined (slice_get ss c))
one_set ss c d w lt = elim (eqb_tells d c) [
  | inl y ↦ rw y.0 (subst (λ z. joined (slice_get (slice_set ss z w) c) ≡ w) (sym y.1) (set_same ss c w lt))
  | inr f ↦ rw f.0 (ap joined (set_other ss d c w f.1))
]

one_size : (ss : List (Option ℕ)) (c : ℕ) (a : Ask) → c < length ss → joined (slice_get (sizes_by ss a) c) ≡ size_turn c (joined (slice_get ss c)) a
one_size ss c (asks.Create o d n) lt = one_set ss c d (Some n) lt
one_size ss c (asks.Delete o d) lt = one_set ss c d None lt
one_size ss c a lt = refl

as_many : (ss : List (Option ℕ)) (a : Ask) → length (sizes_by ss a) ≡ length ss
as_many ss (asks.Create o d n) = length-set ss d (Some n)
as_many ss (asks.Delete o d) = length-set ss d None
as_many ss a = refl

pub told_me : (es : List (Said Ask Reply)) (k : Told) → (told_by k es).me ≡ k.me
told_me [] k = refl
told_me (e ∷ es) k = told_me es (told_next k e.ask e.reply)

pub told_many : (es : List (Said Ask Reply)) (k : Told) → length (told_by k es).sizes ≡ length k.sizes
told_many [] k = refl
told_many (e ∷ es) k = told_many es (told_next k e.ask e.reply) ∙ as_many k.sizes e.ask

abbrev size_said : ℕ → Option ℕ → List (Said Ask Reply) → Option ℕ
size_said c s [] = s
size_said c s (e ∷ es) = size_said c (size_turn c s e.ask) es

told_size : (es : List (Said Ask Reply)) (k : Told) (c : ℕ) → c < length k.sizes → joined (slice_get (told_by k es).sizes c) ≡ size_said c (joined (slice_get k.sizes c)) es
told_size [] k c lt = refl
told_size (e ∷ es) k c lt =
    told_size es (told_next k e.ask e.reply) c (subst (λ m. c < m) (sym (as_many k.sizes e.ask)) lt) ∙ ap (λ s. size_said c s es) (one_size k.sizes c e.ask lt)

-- ---- what stands at the memory
-- an allocation or deallocation by the memory's owner
abbrev IsOwner : ℕ → Ask → Type 0
IsOwner m (asks.Create owner coarray cells) = owner.0 ≡ m
IsOwner m (asks.Delete owner coarray) = owner.0 ≡ m
IsOwner m ask = Unit {0}

same_either : {X : Type 0} (b c : Bool) (x : X) → cond b x x ≡ cond c x x
same_either true true x = refl
same_either true false x = refl
same_either false true x = refl
same_either false false x = refl

next_eq : (a b : ℕ) → nat_eq (suc a) (suc b) ≡ nat_eq a b
next_eq a b = elim (eqb_tells a b) [
  | inl y ↦ elim (eqb_tells (suc a) (suc b)) [ inl z ↦ z.0 ∙ sym y.0 | inr f ↦ absurd (f.1 (ap suc y.1)) ]
  | inr g ↦ elim (eqb_tells (suc a) (suc b)) [ inl z ↦ absurd (g.1 (let w = z.1 in omega arith)) | inr f ↦ f.0 ∙ sym g.0 ]
]

-- an entry counts at the memory of image i as it does among what image i said
same_turn : (i m c : ℕ) (a : Ask) (s : Option ℕ) → IsOwner m a → cond (nat_eq (object_of (place_of a)) (suc i)) (size_turn c s a) s ≡ cond (nat_eq m i) (size_turn c s a) s
same_turn i m c (asks.Create o d n) s h = ap (λ b. cond b (cond (nat_eq d c) (Some n) s) s) (next_eq o.0 i ∙ ap (λ z. nat_eq z i) h)
same_turn i m c (asks.Delete o d) s h = ap (λ b. cond b (cond (nat_eq d c) None s) s) (next_eq o.0 i ∙ ap (λ z. nat_eq z i) h)
same_turn i m c a s h = same_either _ _ s

turn_from : (b : Bool) (c : ℕ) (s : Option ℕ) (e : Entry) (xs : List Entry) → size_from c s (cond b (e ∷ xs) xs) ≡ size_from c (cond b (size_turn c s e.event.ask) s) xs
turn_from true c s e xs = refl
turn_from false c s e xs = refl

turn_said : (b : Bool) (c : ℕ) (s : Option ℕ) (e : Entry) (xs : List Entry)
    → size_said c s (map (λ (x : Entry). said x.event) (cond b (e ∷ xs) xs)) ≡ size_said c (cond b (size_turn c s e.event.ask) s) (map (λ (x : Entry). said x.event) xs)
turn_said true c s e xs = refl
turn_said false c s e xs = refl

sizes_agree : (i c : ℕ) (t : List Entry) (s : Option ℕ) → Each (λ (e : Entry). IsOwner e.image.0 e.event.ask) t → size_said c s (said_by i t) ≡ size_from c s (of_memory i t)
sizes_agree i c [] s h = refl
sizes_agree i c (e ∷ t) s h =
    turn_said (nat_eq (image_of e) i) c s e _
    ∙ ap (λ z. size_said c z (said_by i t)) (sym (same_turn i e.image.0 c e.event.ask s h.0))
    ∙ sizes_agree i c t (cond (nat_eq (key_of e) (suc i)) (size_turn c s e.event.ask) s) h.1
    ∙ sym (turn_from (nat_eq (key_of e) (suc i)) c s e (of_memory i t))

-- each allocation and deallocation of a lawful trace is by the owner
module _ (s : List Declared) (n : ℕ) where
  owned : (before after : List Entry) (x : Entry) → IsLawfulTrace s n (before ++ x ∷ after) → (a : Ask) → x.event.ask ≡ a → IsOwner x.image.0 a
  owned before after x l (asks.Create o c k) e =
      let m = made_memory s o.0 in
      let h = of_memory o.0 before in
      let ready = subst (λ b. memory_ready m h x.image.0 b ≡ true) e (memory_turn s n before after x l o (ap place_of e)).ready in
      let p = (and_parts (fits_memory m h x.image.0 (asks.Create o c k)) true ready).0 in
      let q = (and_parts (is_own m x.image.0 o && is_allocatable (slice_get s c) && not (is_some (size_after m h c))) (nat_le (all_cells m h + k) 65536) p).0 in
      let r = (and_parts (is_own m x.image.0 o && is_allocatable (slice_get s c)) (not (is_some (size_after m h c))) q).0 in
      let u = (and_parts (is_own m x.image.0 o) (is_allocatable (slice_get s c)) r).0 in
      sym (eqb-true x.image.0 o.0 (and_parts (is_here m o) (nat_eq x.image.0 o.0) u).1)
  owned before after x l (asks.Delete o c) e =
      let m = made_memory s o.0 in
      let h = of_memory o.0 before in
      let ready = subst (λ b. memory_ready m h x.image.0 b ≡ true) e (memory_turn s n before after x l o (ap place_of e)).ready in
      let p = (and_parts (fits_memory m h x.image.0 (asks.Delete o c)) true ready).0 in
      let r = (and_parts (is_own m x.image.0 o && is_allocatable (slice_get s c)) (is_some (size_after m h c)) p).0 in
      let u = (and_parts (is_own m x.image.0 o) (is_allocatable (slice_get s c)) r).0 in
      sym (eqb-true x.image.0 o.0 (and_parts (is_here m o) (nat_eq x.image.0 o.0) u).1)
  owned before after x l a e = tt

  each_owned : (t : List Entry) → IsLawfulTrace s n t → Each (λ (e : Entry). IsOwner e.image.0 e.event.ask) t
  each_owned t l = each_split (λ (e : Entry). IsOwner e.image.0 e.event.ask) t (λ before after x e. owned before after x (subst (IsLawfulTrace s n) e l) x.event.ask refl)

  first_at : (os : List Declared) (c : ℕ) → joined (slice_get (map first_cells os) c) ≡ first_size (slice_get os c)
  first_at [] c = refl
  first_at (d ∷ os) zero = refl
  first_at (d ∷ os) (suc c) = first_at os c

  -- what the image was told of a coarray is what its memory has
  pub size_there : (i : ℕ) (t : List Entry) (k : Told) (c : ℕ) → IsLawfulTrace s n t → map first_cells s ≡ k.sizes → c < length k.sizes
      → joined (slice_get (told_by k (said_by i t)).sizes c) ≡ size_after (made_memory s i) (of_memory i t) c
  size_there i t k c l e lt =
      told_size (said_by i t) k c lt ∙ ap (λ z. size_said c z (said_by i t)) (ap (λ ss. joined (slice_get ss c)) (sym e) ∙ first_at s c)
      ∙ sizes_agree i c t (first_size (slice_get s c)) (each_owned t l)

  -- where the memories are those of a program
  module _ (p : checked.Program) (own : AreDeclaredBy p s) where
    pub sizes_many : length (told_first p 1 n).sizes ≡ length s
    sizes_many = ap length (sym own) ∙ length-map s first_cells

    pub own_size_there : (t : List Entry) → IsLawfulTrace s n t → (i c : ℕ) → c < length s → joined (slice_get (told_by (told_first p i n) (said_by i t)).sizes c) ≡ size_after (made_memory s i) (of_memory i t) c
    own_size_there t l i c lt = size_there i t (told_first p i n) c l own (subst (λ z. c < z) (sym sizes_many) lt)

-- ---- all cells
pub used_all : (m : MadeMemory) (h : List Entry) (ss : List (Option ℕ)) (a : ℕ) → ((j : ℕ) → j < length ss → joined (slice_get ss j) ≡ size_after m h (a + j)) → cells_used m h (range_with_len a (length ss)) ≡ cells_in ss
used_all m h [] a e = refl
used_all m h (x ∷ ss) a e =
    let first : or_zero (size_after m h a) ≡ or_zero x = ap or_zero (ap (size_after m h) (let z : a ≡ a + 0 = omega arith in z) ∙ sym (e 0 (omega arith))) in
    let rest = used_all m h ss (a + 1) (λ j lt. e (suc j) (omega arith) ∙ ap (size_after m h) (let z : a + suc j ≡ (a + 1) + j = omega arith in z)) in
    ap (λ z. z + cells_used m h (range_with_len (a + 1) (length ss))) first ∙ ap (λ z. or_zero x + z) rest
