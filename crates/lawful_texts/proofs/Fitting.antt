-- The asks of memories that fit have spans of accesses, and coarrays that are declared.
use Rattle.std.proofs.Common.{◌≡◌, ℕ, zero, suc, ◌<◌, ◌≤◌, ◌&&◌, Bool, true, IsTrue, List, [], ◌∷◌, length, get_or, refl, ap, sym, subst, arith}
use Rattle.std.specs.Prelude.{ℤ, pos, negsuc, ◌≤ℤ◌, ◌<ℤ◌, All, nat_eq, nat_le, Option, Some, None, slice_get}
use Rattle.std.specs.List.{list_all}
use Rattle.std.proofs.lemmas.Bool.{and_parts, leb-true, ltb-true, eqb-true}
use Rattle.std.proofs.lemmas.Int.{ints}
use Rattle.std.proofs.lemmas.Option.{slice_get_within, slice_get-get_or}
use Rattle.caf_base.specs.declared.place.ImageNo.{ImageNo}
use Rattle.caf_base.specs.declared.place.Place.TheVariants as places
use Rattle.caf_base.specs.declared.span.Span.{Span}
use Rattle.caf_base.specs.Spans.{IsSpan, offsets_of}
use Rattle.caf_events.specs.declared.ask.Ask.{Ask}
use Rattle.caf_events.specs.declared.ask.Ask.TheVariants as asks
use Rattle.caf_events.specs.declared.event.Entry.{Entry}
use Rattle.caf_events.specs.Asks.{place_of}
use Rattle.object_rules.specs.Cells.{Content, Declared}
use Rattle.object_rules.specs.MemoryRules.{memory_ready, is_one_cell, holds, is_allocatable}
use Rattle.object_rules.specs.SpanTests.{is_span, is_cell_offset}
use Rattle.trace_forms.specs.Ranges.{IsHalf, HasName, SpanHasText, AskHasText}
use Rattle.lawful_texts.specs.Ranges.{SpanInRange, AskInRange, IsThreefold}

-- ---- spans
all_from : {X : Type 0} (p : X → Bool) (P : X → Type 0) → ((x : X) → p x ≡ true → P x) → (xs : List X) → list_all p xs ≡ true → All P xs
all_from p P f [] h i d l = absurd (omega arith)
all_from p P f (x ∷ xs) h zero d l = f x (and_parts (p x) (list_all p xs) h).0
all_from p P f (x ∷ xs) h (suc i) d l = all_from p P f xs (and_parts (p x) (list_all p xs) h).1 i d (omega arith)

offset_is : (o : ℤ) → is_cell_offset o ≡ true → (pos 0 ≤ℤ o) × (o <ℤ pos 65536)
offset_is (pos k) h = let l = ltb-true k 65536 h in (omega (arith, ints), omega (arith, ints))
offset_is (negsuc k) h = absurd (cc)

span_is : (s : Span) → is_span s ≡ true → IsSpan s
span_is s h =
    let a = and_parts _ _ h in
    let b = and_parts _ _ a.1 in record {
      wide = all_from (λ d. nat_le 2 d.0) (λ d. 2 ≤ d.0) (λ d e. leb-true 2 d.0 e) s.dims a.0;
      few = leb-true (length (offsets_of s)) 4096 b.0;
      inside = all_from is_cell_offset (λ o. (pos 0 ≤ℤ o) × (o <ℤ pos 65536)) offset_is (offsets_of s) b.1;
    }

no_dims : {X : Type 0} (xs : List X) → nat_eq (length xs) 0 ≡ true → xs ≡ []
no_dims [] h = refl
no_dims (x ∷ xs) h = absurd (let e = eqb-true (length (x ∷ xs)) 0 h in omega arith)

single : {X : Type 0} (P : X → Type 0) (x : X) → P x → All P (x ∷ [])
single P x h zero d l = h
single P x h (suc k) d l = absurd (omega arith)

one_span : (c start : ℕ) (dims : List (ℕ × ℤ)) → dims ≡ [] → start < 65536 → IsSpan (record { coarray = c; start = start; dims = dims })
one_span c start dims none l =
    subst (λ (ds : List (ℕ × ℤ)). IsSpan (record { coarray = c; start = start; dims = ds })) (sym none) (record {
      wide = λ k d m. absurd (omega arith);
      few = omega arith;
      inside = single (λ o. (pos 0 ≤ℤ o) × (o <ℤ pos 65536)) (pos start) (omega (arith, ints), omega (arith, ints));
    })

cell_is : (s : Span) → is_one_cell s ≡ true → IsSpan s
cell_is s h = let a = and_parts _ _ h in one_span s.coarray s.start s.dims (no_dims s.dims a.0) (ltb-true s.start 65536 a.1)

-- ---- coarrays: one that is declared has a name, where there are as many names as coarrays
module _ (names : List (List ℕ)) (s : List Declared) (many : length names ≡ length s) where
  named : (c : ℕ) (d : Declared) → slice_get s c ≡ Some d → IsHalf c → HasName names c
  named c d e h =
      let within = slice_get_within s c d e in
      (get_or names c [], slice_get-get_or names c [] (omega arith), h)

  held : (test : Content → Bool) (c : ℕ) → IsHalf c → holds test (slice_get s c) ≡ true → HasName names c
  held test c h e = by_option (slice_get s c) refl e
    where
      by_option : (o : Option Declared) → slice_get s c ≡ o → holds test o ≡ true → HasName names c
      by_option None k e = absurd (cc)
      by_option (Some d) k e = named c d k h

  allocated : (c : ℕ) → IsHalf c → is_allocatable (slice_get s c) ≡ true → HasName names c
  allocated c h e = by_option (slice_get s c) refl e
    where
      by_option : (o : Option Declared) → slice_get s c ≡ o → is_allocatable o ≡ true → HasName names c
      by_option None k e = absurd (cc)
      by_option (Some d) k e = named c d k h

  span_shown : (span : Span) → SpanInRange span → (test : Content → Bool) → holds test (slice_get s span.coarray) ≡ true → length span.dims ≤ 3 → IsSpan span
      → SpanHasText names span
  span_shown span r test e short is = record { named = held test span.coarray r.coarray e; start = r.start; short = short; dims = r.dims; is_span = is }

  cell_shown : (span : Span) → SpanInRange span → (test : Content → Bool) → (is_one_cell span && holds test (slice_get s span.coarray)) ≡ true → SpanHasText names span
  cell_shown span r test e =
      let p = and_parts (is_one_cell span) (holds test (slice_get s span.coarray)) e in
      let none = no_dims span.dims (and_parts _ _ p.0).0 in
      span_shown span r test p.1 (let size : length span.dims ≡ 0 = ap length none in omega arith) (cell_is span p.0)

  -- an ask, where it is ready if it is one of a memory
  pub ask_shown : (a : Ask) (i : ℕ) (h : ℕ → List Entry)
      → ((o : ImageNo) → place_of a ≡ places.Memory o → IsTrue (memory_ready (record { owner = o; coarrays = s }) (h o.0) i a))
      → AskInRange names a → IsThreefold a → AskHasText names a
  ask_shown (asks.Read owner span) i h ready r short =
      let p = and_parts _ _ (and_parts _ _ (ready owner refl)).0 in
      (r.0, span_shown span r.1 _ p.1 short (span_is span (and_parts _ _ p.0).1))
  ask_shown (asks.Write owner span vs) i h ready r short =
      let p = and_parts _ _ (and_parts _ _ (ready owner refl)).0 in
      (r.0, span_shown span r.1 _ p.1 short (span_is span (and_parts _ _ (and_parts _ _ p.0).0).1), r.2)
  ask_shown (asks.Create owner coarray cells) i h ready r short =
      let p = and_parts _ _ (and_parts _ _ (ready owner refl)).0 in
      (r.0, allocated coarray r.1 (and_parts _ _ (and_parts _ _ p.0).0).1, r.2)
  ask_shown (asks.Delete owner coarray) i h ready r short =
      let p = and_parts _ _ (and_parts _ _ (ready owner refl)).0 in
      (r.0, allocated coarray r.1 (and_parts _ _ p.0).1)
  ask_shown (asks.Atomic owner op span x y) i h ready r short =
      (r.0, cell_shown span r.1 _ (and_parts _ _ (and_parts _ _ (ready owner refl)).0).1, r.2, r.3)
  ask_shown (asks.Lock owner span) i h ready r short = (r.0, cell_shown span r.1 _ (and_parts _ _ (and_parts _ _ (ready owner refl)).0).1)
  ask_shown (asks.TryLock owner span) i h ready r short = (r.0, cell_shown span r.1 _ (and_parts _ _ (and_parts _ _ (ready owner refl)).0).1)
  ask_shown (asks.Unlock owner span) i h ready r short = (r.0, cell_shown span r.1 _ (and_parts _ _ (and_parts _ _ (ready owner refl)).0).1)
  ask_shown (asks.Post owner span) i h ready r short = (r.0, cell_shown span r.1 _ (and_parts _ _ (and_parts _ _ (ready owner refl)).0).1)
  ask_shown (asks.Wait owner span threshold) i h ready r short =
      let p = and_parts _ _ (and_parts _ _ (and_parts _ _ (and_parts _ _ (ready owner refl)).0).0).0 in
      (r.0, cell_shown span r.1 _ p.1, r.2)
  ask_shown (asks.Query owner span) i h ready r short =
      let p = and_parts _ _ (and_parts _ _ (and_parts _ _ (ready owner refl)).0).0 in
      (r.0, cell_shown span r.1 _ p.1)
  ask_shown (asks.Free owner span) i h ready r short = (r.0, cell_shown span r.1 _ (and_parts _ _ (and_parts _ _ (ready owner refl)).0).1)
  ask_shown a i h ready r short = r
