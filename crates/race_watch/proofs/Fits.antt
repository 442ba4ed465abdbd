-- The entries of a lawful trace are such as the recorder takes.
use Rattle.std.proofs.Common.{◌≡◌, ℕ, zero, suc, ◌<◌, ◌≤◌, ◌^◌, Bool, true, false, nat_eq, nat_le, ◌||◌, not, cond, IsTrue, List, [], ◌∷◌, ◌++◌, length, get_or, take, refl, ap, sym, ◌∙◌, subst, arith, length-append}
use Rattle.std.specs.Prelude.{ℤ, pos, negsuc, ◌≤ℤ◌, ◌<ℤ◌, All}
use Rattle.std.specs.List.{list_all}
use Rattle.std.proofs.lemmas.Bool.{and_parts, leb-true, ltb-true, eqb-true, not-true}
use Rattle.std.proofs.lemmas.Int.{ints}
use Rattle.caf_base.specs.declared.place.ImageNo.{ImageNo}
use Rattle.caf_base.specs.declared.place.Place.TheVariants as places
use Rattle.caf_base.specs.declared.span.Span.{Span}
use Rattle.caf_base.specs.Spans.{IsSpan, offsets_of}
use Rattle.caf_events.specs.declared.ask.Ask.{Ask}
use Rattle.caf_events.specs.declared.ask.Ask.TheVariants as asks
use Rattle.caf_events.specs.declared.reply.Reply.{Reply}
use Rattle.caf_events.specs.declared.reply.Reply.TheVariants as replies
use Rattle.caf_events.specs.declared.event.Entry.{Entry}
use Rattle.caf_events.specs.Asks.{place_of, object_of}
use Rattle.caf_events.specs.Histories.{Served}
use Rattle.trace_theory.specs.Entries.{Each}
use Rattle.trace_theory.proofs.Snocs.{each_at}
use Rattle.object_rules.specs.Cells.{Declared}
use Rattle.object_rules.specs.Happenings.{numbers_of}
use Rattle.object_rules.specs.ImagePairs as board
use Rattle.object_rules.specs.BoardRules.{board_ready, board_reply, all_differ}
use Rattle.object_rules.specs.MemoryRules.{memory_ready, is_one_cell}
use Rattle.object_rules.specs.SpanTests.{is_span, is_cell_offset}
use Rattle.core_runs.specs.Beginnings.{IsOneOf, IsThere}
use Rattle.core_runs.specs.Lists.{image_of, key_of}
use Rattle.core_runs.specs.CoreRuns.{at_board, of_memory}
use Rattle.core_runs.specs.Lawful.{IsLawfulTrace, made_memory}
use Rattle.order_theory.specs.Races.{Cell}
use Rattle.order_theory.specs.Acts.{Act, gets, unlocks, posts, finishes, names}
use Rattle.order_axioms.specs.Statuses.{tells_success, tells_acquired}
use Rattle.order_axioms.specs.Views.{act_by, first_cell, arrival, departure, end_of_pair, locking, unlocking, posting}
use Rattle.order_axioms.proofs.Marked.{served_at, served_here, of_here}
use Rattle.race_watch.specs.Orders.{Differ, IsSound}
use Rattle.race_watch.specs.Touched.{FitsMemory}
use Rattle.race_watch.specs.Recorded.{FitsRun}
use Rattle.race_watch.proofs.Lines.{turned_round}

all_from : {X : Type 0} (p : X → Bool) (P : X → Type 0) → ((x : X) → p x ≡ true → P x) → (xs : List X) → list_all p xs ≡ true → All P xs
all_from p P f [] h i d l = absurd (omega arith)
all_from p P f (x ∷ xs) h zero d l = f x (and_parts (p x) (list_all p xs) h).0
all_from p P f (x ∷ xs) h (suc i) d l = all_from p P f xs (and_parts (p x) (list_all p xs) h).1 i d (omega arith)

offset_is : (o : ℤ) → is_cell_offset o ≡ true → (pos 0 ≤ℤ o) × (o <ℤ pos 65536)
offset_is (pos k) h = let l = ltb-true k 65536 h in (omega (arith, ints), omega (arith, ints))
offset_is (negsuc k) h = absurd (cc)

span_is : (s : Span) → is_span s ≡ true → IsSpan s
span_is s h =
    let a = and_parts _ _ h in
    let b = and_parts _ _ a.1 in record {
      wide = all_from (λ d. nat_le 2 d.0) (λ d. 2 ≤ d.0) (λ d e. leb-true 2 d.0 e) s.dims a.0;
      few = leb-true (length (offsets_of s)) 4096 b.0;
      inside = all_from is_cell_offset (λ o. (pos 0 ≤ℤ o) × (o <ℤ pos 65536)) offset_is (offsets_of s) b.1;
    }

no_dims : {X : Type 0} (xs : List X) → nat_eq (length xs) 0 ≡ true → xs ≡ []
no_dims [] h = refl
no_dims (x ∷ xs) h = absurd (let e = eqb-true (length (x ∷ xs)) 0 h in omega arith)

single : {X : Type 0} (P : X → Type 0) (x : X) → P x → All P (x ∷ [])
single P x h zero d l = h
single P x h (suc k) d l = absurd (omega arith)

one_span : (c start : ℕ) (dims : List (ℕ × ℤ)) → dims ≡ [] → start < 65536 → IsSpan (record { coarray = c; start = start; dims = dims })
one_span c start dims none l =
    subst (λ (ds : List (ℕ × ℤ)). IsSpan (record { coarray = c; start = start; dims = ds })) (sym none) (record {
      wide = λ k d m. absurd (omega arith);
      few = omega arith;
      inside = single (λ o. (pos 0 ≤ℤ o) × (o <ℤ pos 65536)) (pos start) (omega (arith, ints), omega (arith, ints));
    })

cell_is : (s : Span) → is_one_cell s ≡ true → IsSpan s
cell_is s h = let a = and_parts _ _ h in one_span s.coarray s.start s.dims (no_dims s.dims a.0) (ltb-true s.start 65536 a.1)

-- of an ask at a memory: the memory is of the run, and the span is one
memory_of : (coarrays : List Declared) (n i : ℕ) (h : ℕ → List Entry) (a : Ask) → IsThere n (place_of a) → ((o : ImageNo) → place_of a ≡ places.Memory o → IsTrue (memory_ready (made_memory coarrays o.0) (h o.0) i a)) → FitsMemory n a
memory_of s n i h (asks.Read owner span) there ready = (there.0, there.1, span_is span (and_parts _ _ (and_parts _ _ (and_parts _ _ (ready owner refl)).0).0).1)
memory_of s n i h (asks.Write owner span values) there ready = (there.0, there.1, span_is span (and_parts _ _ (and_parts _ _ (and_parts _ _ (and_parts _ _ (ready owner refl)).0).0).0).1)
memory_of s n i h (asks.Atomic owner op span x y) there ready = (there.0, there.1, cell_is span (and_parts _ _ (and_parts _ _ (and_parts _ _ (ready owner refl)).0).1).0)
memory_of s n i h (asks.Lock owner span) there ready = (there.0, there.1, cell_is span (and_parts _ _ (and_parts _ _ (and_parts _ _ (ready owner refl)).0).1).0)
memory_of s n i h (asks.TryLock owner span) there ready = (there.0, there.1, cell_is span (and_parts _ _ (and_parts _ _ (and_parts _ _ (ready owner refl)).0).1).0)
memory_of s n i h (asks.Unlock owner span) there ready = (there.0, there.1, cell_is span (and_parts _ _ (and_parts _ _ (and_parts _ _ (ready owner refl)).0).1).0)
memory_of s n i h (asks.Post owner span) there ready = (there.0, there.1, cell_is span (and_parts _ _ (and_parts _ _ (and_parts _ _ (ready owner refl)).0).1).0)
memory_of s n i h (asks.Free owner span) there ready = (there.0, there.1, cell_is span (and_parts _ _ (and_parts _ _ (and_parts _ _ (ready owner refl)).0).1).0)
memory_of s n i h (asks.Wait owner span threshold) there ready = (there.0, there.1, cell_is span (and_parts _ _ (and_parts _ _ (and_parts _ _ (and_parts _ _ (and_parts _ _ (ready owner refl)).0).0).0).1).0)
memory_of s n i h (asks.Query owner span) there ready = (there.0, there.1, cell_is span (and_parts _ _ (and_parts _ _ (and_parts _ _ (and_parts _ _ (ready owner refl)).0).0).1).0)
memory_of s n i h (asks.Create owner coarray cells) there ready = (there.0, there.1)
memory_of s n i h (asks.Delete owner coarray) there ready = (there.0, there.1)
memory_of s n i h a there ready = tt

-- no image twice
names_is : (i : ℕ) (js : List ℕ) → names i js ≡ board.names i js
names_is i [] = refl
names_is i (j ∷ js) = ap (λ b. b || names i js) (turned_round j i) ∙ ap (λ b. nat_eq i j || b) (names_is i js)

both_false : (a b : Bool) → (a || b) ≡ false → (a ≡ false) × (b ≡ false)
both_false true b h = absurd (cc)
both_false false b h = (refl, h)

none_named : (j : ℕ) (js : List ℕ) → board.names j js ≡ false → (i d : ℕ) → i < length js → nat_eq j (get_or js i d) ≡ false
none_named j [] h i d l = absurd (omega arith)
none_named j (k ∷ js) h zero d l = (both_false (nat_eq j k) (board.names j js) h).0
none_named j (k ∷ js) h (suc i) d l = none_named j js (both_false (nat_eq j k) (board.names j js) h).1 i d (omega arith)

differ : (js : List ℕ) → all_differ js ≡ true → Differ js
differ [] h i d l = absurd (omega arith)
differ (j ∷ js) h zero d l = refl
differ (j ∷ js) h (suc i) d l =
    let p = and_parts (not (board.names j js)) (all_differ js) h in
    ap (λ b. b || names (get_or js i d) (take i js)) (none_named j js (not-true (board.names j js) p.0) i d (omega arith)) ∙ differ js p.1 i d (omega arith)

sound_either : (n : ℕ) (b : Bool) (x y : Act) → IsSound n x → IsSound n y → IsSound n (cond b x y)
sound_either n true x y p q = p
sound_either n false x y p q = q

sound_arrival : (n t : ℕ) (r : Reply) → IsSound n (arrival t r)
sound_arrival n t (replies.Round round) = tt
sound_arrival n t r = tt

sound_departure : (n t k : ℕ) (r : Reply) → IsSound n (departure t k r)
sound_departure n t k (replies.Left status teams) = tt
sound_departure n t k r = tt

sound_pair : (n : ℕ) (r : Reply) → IsSound n (end_of_pair r)
sound_pair n (replies.Number status) = tt
sound_pair n r = tt

sound_locking : (n : ℕ) (c : Cell) (r : Reply) → (0 < c.owner) × (c.owner ≤ n) → IsSound n (locking c r)
sound_locking n c (replies.Number status) h = sound_either n (tells_acquired status) (gets c) finishes h tt
sound_locking n c r h = tt

sound_unlocking : (n : ℕ) (c : Cell) (r : Reply) → (0 < c.owner) × (c.owner ≤ n) → IsSound n (unlocking c r)
sound_unlocking n c (replies.Number status) h = sound_either n (tells_success status) (unlocks c) finishes h tt
sound_unlocking n c r h = tt

sound_posting : (n : ℕ) (c : Cell) (r : Reply) → (0 < c.owner) × (c.owner ≤ n) → IsSound n (posting c r)
sound_posting n c (replies.Number status) h = sound_either n (tells_success status) (posts c) finishes h tt
sound_posting n c r h = tt

sound_of : (n i : ℕ) (h : List Entry) (a : Ask) (r : Reply) → IsThere n (place_of a) → (place_of a ≡ places.Board → IsTrue (board_ready n h i a)) → IsSound n (act_by a r)
sound_of n i h (asks.Arrive team arriving) r there ready = sound_arrival n team.0 r
sound_of n i h (asks.Leave team round) r there ready = sound_departure n team.0 round r
sound_of n i h (asks.Pair images) r there ready = differ (numbers_of images) (and_parts _ _ (and_parts _ _ (and_parts _ _ (ready refl)).0).1).1
sound_of n i h asks.Unpair r there ready = sound_pair n r
sound_of n i h (asks.Lock owner span) r there ready = sound_locking n (first_cell owner.0 span) r there
sound_of n i h (asks.TryLock owner span) r there ready = sound_locking n (first_cell owner.0 span) r there
sound_of n i h (asks.Unlock owner span) r there ready = sound_unlocking n (first_cell owner.0 span) r there
sound_of n i h (asks.Post owner span) r there ready = sound_posting n (first_cell owner.0 span) r there
sound_of n i h (asks.Wait owner span threshold) r there ready = there
sound_of n i h (asks.Create owner coarray cells) r there ready = there
sound_of n i h (asks.Delete owner coarray) r there ready = there
sound_of n i h (asks.Enter construct) r there ready = tt
sound_of n i h (asks.Exit construct) r there ready = tt
sound_of n i h asks.Memory r there ready = tt
sound_of n i h (asks.Stop code) r there ready = tt
sound_of n i h a r there ready = tt

board_key : (e : Entry) → place_of e.event.ask ≡ places.Board → key_of e ≡ 1
board_key e p = ap object_of p

pub lawful_fits : (coarrays : List Declared) (n : ℕ) (t g h : List Entry) (e : Entry) → IsLawfulTrace coarrays n t → t ≡ g ++ e ∷ h → length t < 2 ^ 62 → FitsRun n g e
lawful_fits s n t g h e lawful split short =
    let image = each_at (λ x. IsOneOf n (image_of x)) g h e (subst (Each (λ x. IsOneOf n (image_of x))) split lawful.images) in
    let there = each_at (λ x. IsThere n (place_of x.event.ask)) g h e (subst (Each (λ x. IsThere n (place_of x.event.ask))) split lawful.places) in
    let size = ap length split ∙ length-append g (e ∷ h) in record {
      first = image.0;
      last = image.1;
      short = omega arith;
      memory = memory_of s n e.image.0 (λ o. of_memory o g) e.event.ask there (λ o p. (served_here s n t lawful g h e split o p).0);
      sound = sound_of n e.image.0 (at_board g) e.event.ask e.event.reply there
          (λ p. (served_at (board_ready n) (board_reply n) [] (at_board g) e (at_board h)
          (subst (Served (board_ready n) (board_reply n) []) (ap at_board split ∙ of_here 1 g h e (board_key e p)) lawful.board)).0);
    }
