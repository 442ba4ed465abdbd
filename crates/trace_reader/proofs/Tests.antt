-- The tests of what a line can show decide what is said of it.
use Rattle.std.proofs.Common.{◌≡◌, ℕ, zero, suc, ◌<◌, ◌≤◌, Bool, true, false, ◌&&◌, ◌||◌, nat_eq, nat_le, nat_lt, ℤ}
use Rattle.std.proofs.Common.{pos}
use Rattle.std.proofs.Common.{negsuc, List, [], ◌∷◌, length, Some, slice_get, refl, ap, sym, arith, true≢false, Decides}
use Rattle.std.proofs.Common.{le-leb}
use Rattle.std.specs.Prelude.{◌≤ℤ◌, ◌<ℤ◌, All}
use Rattle.std.specs.List.{list_all}
use Rattle.std.specs.Ordering.{int_eq}
use Rattle.std.proofs.lemmas.Bool.{and_parts, leb-true, ltb-true, lt-ltb, eqb-true}
use Rattle.std.proofs.lemmas.Bool.Decides.{Decides-by_and, Decides-int_eq}
use Rattle.std.proofs.lemmas.Int.{ints}
use Rattle.caf_base.specs.Spans.{IsSpan, offsets_of}
use Rattle.caf_base.specs.declared.place.ImageNo.{ImageNo}
use Rattle.caf_base.specs.declared.span.Span.{Span}
use Rattle.caf_base.specs.declared.value.Value.{Value}
use Rattle.caf_base.specs.declared.value.Value.TheVariants as values
use Rattle.caf_events.specs.Answers.{Answers}
use Rattle.caf_events.specs.declared.ask.Ask.{Ask}
use Rattle.caf_events.specs.declared.ask.Ask.TheVariants as asks
use Rattle.caf_events.specs.declared.event.Entry.{Entry}
use Rattle.caf_events.specs.declared.reply.FormedTeam.{FormedTeam}
use Rattle.caf_events.specs.declared.reply.Reply.{Reply}
use Rattle.caf_events.specs.declared.reply.Reply.TheVariants as replies
use Rattle.caf_events.specs.declared.round.Allotted.{Allotted}
use Rattle.caf_events.specs.declared.round.Arriving.{Arriving}
use Rattle.caf_events.specs.declared.round.Arriving.TheVariants as arrivings
use Rattle.object_rules.specs.SpanTests.{is_span, is_cell_offset}
use Rattle.trace_theory.specs.Entries.{Each}
use Rattle.trace_forms.specs.Ranges.{IsHalf, IsLong, IsSigned, IsSignedHalf, IsImageNumber, IsValueInRange, HasName}
use Rattle.trace_forms.specs.Ranges.{IsDimension, SpanHasText, AreBounds, AllottedHasText, ArrivingHasText, AskHasText}
use Rattle.trace_forms.specs.Ranges.{FormedHasText, ReplyHasText, HasText}
use Rattle.trace_forms.specs.Replies.{ComeWith, HasStatusOf, HasForm}
use Rattle.trace_forms.proofs.Cuts.{and_both}
use Rattle.trace_reader.specs.Checks.{is_half, is_long, is_signed, is_signed_half, is_image, is_value, are_bounds}
use Rattle.trace_reader.specs.Checks.{is_dimension, has_name, shows_span, shows_allotted, shows_arriving, shows_ask}
use Rattle.trace_reader.specs.Checks.{shows_team, shows_reply, is_answered, is_status_of, comes_with, has_status_of}
use Rattle.trace_reader.specs.Checks.{has_form, shows_entry}

-- ---- tests put together
yes : Decides true (Unit {0})
yes = (λ e. tt, λ h. refl)

no : Decides false ⊥
no = (λ e. true≢false (sym e), λ h. absurd h)

itself : (b : Bool) → Decides b (b ≡ true)
itself b = (λ e. e, λ e. e)

two : (a b : Bool) (P Q : Type 0) → Decides a P → Decides b Q → Decides (a && b) (P × Q)
two a b P Q p q = (λ e. let h = and_parts a b e in (p.0 h.0, q.0 h.1), λ h. and_both a b (p.1 h.0) (q.1 h.1))

three : (a b c : Bool) (P Q R : Type 0) → Decides a P → Decides b Q → Decides c R
    → Decides (a && b && c) (P × Q × R)
three a b c P Q R p q r = (
  λ e.
      let h = and_parts (a && b) c e in
      let k = and_parts a b h.0 in
      (p.0 k.0, q.0 k.1, r.0 h.1),
  λ h. and_both (a && b) c (and_both a b (p.1 h.0) (q.1 h.1)) (r.1 h.2),
)

four : (a b c d : Bool) (P Q R S : Type 0) → Decides a P → Decides b Q → Decides c R → Decides d S
    → Decides (a && b && c && d) (P × Q × R × S)
four a b c d P Q R S p q r s = (
  λ e.
      let g = and_parts (a && b && c) d e in
      let h = and_parts (a && b) c g.0 in
      let k = and_parts a b h.0 in
      (p.0 k.0, q.0 k.1, r.0 h.1, s.0 g.1),
  λ h. and_both (a && b && c) d (and_both (a && b) c (and_both a b (p.1 h.0) (q.1 h.1)) (r.1 h.2)) (s.1 h.3),
)

each : {A : Type 0} (f : A → Bool) (P : A → Type 0) → ((x : A) → Decides (f x) (P x)) → (xs : List A)
    → Decides (list_all f xs) (Each P xs)
each f P d [] = (λ e. tt, λ h. refl)
each f P d (x ∷ xs) = two (f x) (list_all f xs) (P x) (Each P xs) (d x) (each f P d xs)

at_most : (n m : ℕ) → Decides (nat_le n m) (n ≤ m)
at_most n m = (leb-true n m, le-leb n m)

-- ---- numbers
half : (n : ℕ) → Decides (is_half n) (IsHalf n)
half n = (λ e. let h = leb-true n 4294967295 e in omega arith, λ h. le-leb n 4294967295 (omega arith))

long : (n : ℕ) → Decides (is_long n) (IsLong n)
long n = (
  λ e. let h = leb-true n 18446744073709551615 e in omega arith,
  λ h. le-leb n 18446744073709551615
      (omega arith),
)

signed : (z : ℤ) → Decides (is_signed z) (IsSigned z)
signed (pos n) = (
  λ e. let h = leb-true n 9223372036854775807 e in omega arith,
  λ h. le-leb n 9223372036854775807
      (omega arith),
)
signed (negsuc n) = (
  λ e. let h = leb-true n 9223372036854775807 e in omega arith,
  λ h. le-leb n 9223372036854775807
      (omega arith),
)

signed_half : (z : ℤ) → Decides (is_signed_half z) (IsSignedHalf z)
signed_half (pos n) = (λ e. let h = leb-true n 2147483647 e in omega arith, λ h. le-leb n 2147483647 (omega arith))
signed_half (negsuc n) = (λ e. let h = leb-true n 2147483647 e in omega arith, λ h. le-leb n 2147483647 (omega arith))

image : (x : ImageNo) → Decides (is_image x) (IsImageNumber x)
image x = half x.0

value : (v : Value) → Decides (is_value v) (IsValueInRange v)
value (values.Int v) = signed v
value (values.Bool b) = yes

bounds : (b : ℤ × ℤ) → Decides (are_bounds b) (AreBounds b)
bounds b = two (is_signed b.0) (is_signed b.1) (IsSigned b.0) (IsSigned b.1) (signed b.0) (signed b.1)

dimension : (d : ℕ × ℤ) → Decides (is_dimension d) (IsDimension d)
dimension d = two (is_half d.0) (is_signed_half d.1) (IsHalf d.0) (IsSignedHalf d.1) (half d.0) (signed_half d.1)

-- ---- names
name_there : (names : List (List ℕ)) (k : ℕ) → k < length names → (name : List ℕ) × (slice_get names k ≡ Some name)
name_there [] k h = absurd (omega arith)
name_there (x ∷ xs) zero h = (x, refl)
name_there (x ∷ xs) (suc k) h = name_there xs k (omega arith)

name_within : (names : List (List ℕ)) (k : ℕ) (name : List ℕ) → slice_get names k ≡ Some name → k < length names
name_within [] k name e = absurd (cc)
name_within (x ∷ xs) zero name e = omega arith
name_within (x ∷ xs) (suc k) name e = let h = name_within xs k name e in omega arith

named : (names : List (List ℕ)) (k : ℕ) → Decides (has_name names k) (HasName names k)
named names k = (
  λ e.
      let h = and_parts (is_half k) (nat_lt k (length names)) e in
      let n = name_there names k (ltb-true k (length names) h.1) in
      (n.0, n.1, (half k).0 h.0),
  λ h. and_both (is_half k) (nat_lt k (length names)) ((half k).1 h.2)
      (lt-ltb k (length names) (name_within names k h.0 h.1)),
)

-- ---- spans
offset : (o : ℤ) → Decides (is_cell_offset o) ((pos 0 ≤ℤ o) × (o <ℤ pos 65536))
offset (pos k) = (
  λ e. let l = ltb-true k 65536 e in (omega (arith, ints), omega (arith, ints)),
  λ h. let m = h.1 in let l : k < 65536 = omega (arith, ints) in lt-ltb k 65536 l,
)
offset (negsuc k) = (λ e. absurd (true≢false (sym e)), λ h. absurd (let m = h.0 in omega (arith, ints)))

wide : (dims : List (ℕ × ℤ)) → Decides (list_all (λ d. nat_le 2 d.0) dims) (All (λ d. 2 ≤ d.0) dims)
wide dims = Decides-by_and (λ (d : ℕ × ℤ). nat_le 2 d.0) (λ d. 2 ≤ d.0) (list_all (λ (d : ℕ × ℤ). nat_le 2 d.0))
    (λ d. at_most 2 d.0) refl (λ _ _. refl) dims

inside : (os : List ℤ) → Decides (list_all is_cell_offset os) (All (λ o. (pos 0 ≤ℤ o) × (o <ℤ pos 65536)) os)
inside os = Decides-by_and is_cell_offset (λ o. (pos 0 ≤ℤ o) × (o <ℤ pos 65536)) (list_all is_cell_offset) offset refl
    (λ _ _. refl) os

is_one : (s : Span) → Decides (is_span s) (IsSpan s)
is_one s =
    let os = offsets_of s in
    let a = list_all (λ (d : ℕ × ℤ). nat_le 2 d.0) s.dims in
    let b = nat_le (length os) 4096 in
    let c = list_all is_cell_offset os in (
      λ e.
          let h = and_parts a (b && c) e in
          let k = and_parts b c h.1 in
          record { wide = (wide s.dims).0 h.0; few = leb-true (length os) 4096 k.0; inside = (inside os).0 k.1 },
      λ h. and_both a (b && c) ((wide s.dims).1 h.wide)
          (and_both b c (le-leb (length os) 4096 h.few) ((inside os).1 h.inside)),
    )

span : (names : List (List ℕ)) (s : Span) → Decides (shows_span names s) (SpanHasText names s)
span names s =
    let a = nat_le (length s.dims) 3 in
    let b = is_half s.start in
    let c = has_name names s.coarray in
    let d = list_all is_dimension s.dims in
    let f = is_span s in (
      λ e.
          let g = and_parts (a && b && c && d) f e in
          let h = and_parts (a && b && c) d g.0 in
          let k = and_parts (a && b) c h.0 in
          let m = and_parts a b k.0 in
          record {
            named = (named names s.coarray).0 k.1;
            start = (half s.start).0 m.1;
            short = leb-true (length s.dims) 3 m.0;
            dims = (each is_dimension IsDimension dimension s.dims).0 h.1;
            is_span = (is_one s).0 g.1;
          },
      λ h. and_both (a && b && c && d) f (and_both (a && b && c) d (and_both (a && b) c (and_both a b
          (le-leb (length s.dims) 3 h.short) ((half s.start).1 h.start)) ((named names s.coarray).1 h.named))
          ((each is_dimension IsDimension dimension s.dims).1 h.dims)) ((is_one s).1 h.is_span),
    )

-- ---- asks
allotted : (names : List (List ℕ)) (x : Allotted) → Decides (shows_allotted names x) (AllottedHasText names x)
allotted names x =
    let a = nat_le (length x.dims) 3 in
    let b = nat_le (length x.codims) 2 in
    let c = has_name names x.coarray in
    let d = list_all are_bounds x.dims in
    let f = list_all are_bounds x.codims in
    let g = is_signed x.last in (
      λ e.
          let h = and_parts (a && b && c && d && f) g e in
          let k = and_parts (a && b && c && d) f h.0 in
          let l = and_parts (a && b && c) d k.0 in
          let m = and_parts (a && b) c l.0 in
          let n = and_parts a b m.0 in
          record {
            named = (named names x.coarray).0 m.1;
            rank = leb-true (length x.dims) 3 n.0;
            corank = leb-true (length x.codims) 2 n.1;
            dims = (each are_bounds AreBounds bounds x.dims).0 l.1;
            codims = (each are_bounds AreBounds bounds x.codims).0 k.1;
            last = (signed x.last).0 h.1;
          },
      λ h. and_both (a && b && c && d && f) g (and_both (a && b && c && d) f (and_both (a && b && c) d
          (and_both (a && b) c (and_both a b (le-leb (length x.dims) 3 h.rank) (le-leb (length x.codims) 2 h.corank))
          ((named names x.coarray).1 h.named)) ((each are_bounds AreBounds bounds x.dims).1 h.dims))
          ((each are_bounds AreBounds bounds x.codims).1 h.codims)) ((signed x.last).1 h.last),
    )

arriving : (names : List (List ℕ)) (x : Arriving) → Decides (shows_arriving names x) (ArrivingHasText names x)
arriving names arrivings.Sync = yes
arriving names (arrivings.Form number new_index) = two (is_signed number) (is_signed new_index) (IsSigned number)
    (IsSigned new_index) (signed number) (signed new_index)
arriving names arrivings.Change = yes
arriving names arrivings.End = yes
arriving names (arrivings.Allocate list) = each (shows_allotted names) (AllottedHasText names) (allotted names) list
arriving names (arrivings.Deallocate list) = each (has_name names) (HasName names) (named names) list

-- the owner of a memory, and cells there
access : (names : List (List ℕ)) (owner : ImageNo) (s : Span) → Decides (is_half owner.0 && shows_span names s)
    (IsHalf owner.0 × SpanHasText names s)
access names owner s = two (is_half owner.0) (shows_span names s) (IsHalf owner.0) (SpanHasText names s) (half owner.0)
    (span names s)

halves : (m n : ℕ) → Decides (is_half m && is_half n) (IsHalf m × IsHalf n)
halves m n = two (is_half m) (is_half n) (IsHalf m) (IsHalf n) (half m) (half n)

round_of : (m n : ℕ) → Decides (is_half m && is_long n) (IsHalf m × IsLong n)
round_of m n = two (is_half m) (is_long n) (IsHalf m) (IsLong n) (half m) (long n)

ask : (names : List (List ℕ)) (a : Ask) → Decides (shows_ask names a) (AskHasText names a)
ask names (asks.Read owner s) = access names owner s
ask names (asks.Write owner s vs) = three (is_half owner.0) (shows_span names s) (list_all is_value vs) (IsHalf owner.0)
    (SpanHasText names s) (Each IsValueInRange vs) (half owner.0) (span names s) (each is_value IsValueInRange value vs)
ask names (asks.Create owner coarray cells) = three (is_half owner.0) (has_name names coarray) (is_half cells)
    (IsHalf owner.0) (HasName names coarray) (IsHalf cells) (half owner.0) (named names coarray) (half cells)
ask names (asks.Delete owner coarray) = two (is_half owner.0) (has_name names coarray) (IsHalf owner.0)
    (HasName names coarray) (half owner.0) (named names coarray)
ask names (asks.Atomic owner op s x y) = four (is_half owner.0) (shows_span names s) (is_value x) (is_value y)
    (IsHalf owner.0) (SpanHasText names s) (IsValueInRange x) (IsValueInRange y) (half owner.0) (span names s) (value x)
    (value y)
ask names (asks.Lock owner s) = access names owner s
ask names (asks.TryLock owner s) = access names owner s
ask names (asks.Unlock owner s) = access names owner s
ask names (asks.Post owner s) = access names owner s
ask names (asks.Wait owner s threshold) = three (is_half owner.0) (shows_span names s) (is_long threshold)
    (IsHalf owner.0) (SpanHasText names s) (IsLong threshold) (half owner.0) (span names s) (long threshold)
ask names (asks.Query owner s) = access names owner s
ask names (asks.Mark owner) = half owner.0
ask names (asks.Free owner s) = access names owner s
ask names (asks.Arrive team x) = two (is_half team.0) (shows_arriving names x) (IsHalf team.0)
    (ArrivingHasText names x) (half team.0) (arriving names x)
ask names (asks.Leave team round) = round_of team.0 round
ask names (asks.Gather team op root kind vs) = three (is_half team.0) (is_half root) (list_all is_value vs)
    (IsHalf team.0) (IsHalf root) (Each IsValueInRange vs) (half team.0) (half root)
    (each is_value IsValueInRange value vs)
ask names (asks.Take team round) = round_of team.0 round
ask names (asks.Pair images) = each is_image IsImageNumber image images
ask names asks.Unpair = yes
ask names (asks.Enter construct) = half construct
ask names (asks.Exit construct) = half construct
ask names asks.Gone = yes
ask names (asks.Stop code) = signed code
ask names (asks.Failed team) = half team.0
ask names (asks.Stopped team) = half team.0
ask names (asks.Status team index) = halves team.0 index
ask names (asks.Print text) = yes
ask names asks.Memory = yes
ask names asks.Fail = yes
ask names (asks.ErrorStop code) = signed code
ask names (asks.Fault kind) = yes
ask names (asks.LimitStatements number) = long number
ask names (asks.LimitWords number) = long number
ask names (asks.LimitStamp number) = long number

-- ---- replies
team : (t : FormedTeam) → Decides (shows_team t) (FormedHasText t)
team t =
    let a = is_half t.team.0 in
    let b = is_signed t.number in
    let c = list_all is_image t.members in (
      λ e.
          let h = and_parts (a && b) c e in
          let k = and_parts a b h.0 in
          record {
            team = (half t.team.0).0 k.0;
            number = (signed t.number).0 k.1;
            members = (each is_image IsImageNumber image t.members).0 h.1;
          },
      λ h. and_both (a && b) c (and_both a b ((half t.team.0).1 h.team) ((signed t.number).1 h.number))
          ((each is_image IsImageNumber image t.members).1 h.members),
    )

reply : (r : Reply) → Decides (shows_reply r) (ReplyHasText r)
reply replies.Done = yes
reply replies.Dead = yes
reply replies.Absent = yes
reply replies.Overflow = yes
reply replies.Busy = yes
reply (replies.Values vs) = each is_value IsValueInRange value vs
reply (replies.Old v) = value v
reply (replies.Number status) = signed_half status
reply (replies.Count count) = long count
reply (replies.Round round) = long round
reply (replies.Clash x line) = halves x.0 line
reply (replies.Indices indices) = each is_half IsHalf half indices
reply (replies.Taken status vs) = two (is_signed_half status) (list_all is_value vs) (IsSignedHalf status)
    (Each IsValueInRange vs) (signed_half status) (each is_value IsValueInRange value vs)
reply (replies.Left status teams) = two (is_signed_half status) (list_all shows_team teams) (IsSignedHalf status)
    (Each FormedHasText teams) (signed_half status) (each shows_team FormedHasText team teams)

-- ---- forms
answered : (a : Ask) (r : Reply) → Decides (is_answered a r) (Answers a r)
answered (asks.Read owner span) (replies.Values vs) = yes
answered (asks.Read owner span) replies.Dead = yes
answered (asks.Read owner span) replies.Absent = yes
answered (asks.Write owner span vs) replies.Done = yes
answered (asks.Write owner span vs) replies.Dead = yes
answered (asks.Write owner span vs) replies.Absent = yes
answered (asks.Create owner coarray cells) replies.Done = yes
answered (asks.Delete owner coarray) replies.Done = yes
answered (asks.Atomic owner op span x y) (replies.Old v) = yes
answered (asks.Atomic owner op span x y) replies.Dead = yes
answered (asks.Atomic owner op span x y) replies.Absent = yes
answered (asks.Atomic owner op span x y) replies.Overflow = yes
answered (asks.Lock owner span) (replies.Number z) = yes
answered (asks.Lock owner span) replies.Absent = yes
answered (asks.TryLock owner span) (replies.Number z) = yes
answered (asks.TryLock owner span) replies.Absent = yes
answered (asks.TryLock owner span) replies.Busy = yes
answered (asks.Unlock owner span) (replies.Number z) = yes
answered (asks.Unlock owner span) replies.Absent = yes
answered (asks.Post owner span) (replies.Number z) = yes
answered (asks.Post owner span) replies.Absent = yes
answered (asks.Wait owner span threshold) (replies.Number z) = yes
answered (asks.Query owner span) (replies.Count count) = yes
answered (asks.Mark owner) replies.Done = yes
answered (asks.Free owner span) replies.Done = yes
answered (asks.Free owner span) replies.Dead = yes
answered (asks.Free owner span) replies.Absent = yes
answered (asks.Arrive team arriving) (replies.Round round) = yes
answered (asks.Arrive team arriving) (replies.Clash image line) = yes
answered (asks.Leave team round) (replies.Left z teams) = yes
answered (asks.Gather team op root kind vs) (replies.Round round) = yes
answered (asks.Gather team op root kind vs) (replies.Clash image line) = yes
answered (asks.Take team round) (replies.Taken z vs) = yes
answered (asks.Pair images) replies.Done = yes
answered asks.Unpair (replies.Number status) = yes
answered (asks.Enter construct) (replies.Number z) = yes
answered (asks.Exit construct) replies.Done = yes
answered asks.Gone replies.Done = yes
answered (asks.Stop code) replies.Done = yes
answered (asks.Failed team) (replies.Indices indices) = yes
answered (asks.Stopped team) (replies.Indices indices) = yes
answered (asks.Status team index) (replies.Number z) = yes
answered (asks.Print text) replies.Done = yes
answered asks.Memory replies.Done = yes
answered asks.Fail replies.Done = yes
answered (asks.ErrorStop code) replies.Done = yes
answered (asks.Fault kind) replies.Done = yes
answered (asks.LimitStatements number) replies.Done = yes
answered (asks.LimitWords number) replies.Done = yes
answered (asks.LimitStamp number) replies.Done = yes
answered a r = no

empty : (vs : List Value) → Decides (nat_eq (length vs) 0) (vs ≡ [])
empty [] = (λ e. refl, λ e. refl)
empty (x ∷ xs) = (λ e. absurd (let h = eqb-true (suc (length xs)) 0 e in omega arith), λ e. absurd (cc))

without : (z : ℤ) (vs : List Value) → (z ≡ pos 0 → ⊥) → Decides (comes_with z vs) (vs ≡ [])
without z vs apart = by (int_eq z (pos 0)) refl
  where
    by : (t : Bool) → int_eq z (pos 0) ≡ t → Decides (t || nat_eq (length vs) 0) (vs ≡ [])
    by true e = absurd (apart ((Decides-int_eq z (pos 0)).0 e))
    by false e = empty vs

size : ℤ → ℕ
size (pos n) = n
size (negsuc n) = suc n

come : (z : ℤ) (vs : List Value) → Decides (comes_with z vs) (ComeWith z vs)
unfolding size
come (pos zero) vs = yes
come (pos (suc k)) vs = without (pos (suc k)) vs (λ e. let h : suc k ≡ 0 = ap size e in omega arith)
come (negsuc k) vs = without (negsuc k) vs (λ e. let h : suc k ≡ 0 = ap size e in omega arith)

status : (a : Ask) (r : Reply) → Decides (has_status_of a r) (HasStatusOf a r)
status a (replies.Number z) = itself (is_status_of a z)
status a (replies.Taken z vs) = two (is_status_of a z) (comes_with z vs) (is_status_of a z ≡ true) (ComeWith z vs)
    (itself (is_status_of a z)) (come z vs)
status a (replies.Left z teams) = itself (is_status_of a z)
status a r = yes

form : (a : Ask) (r : Reply) → Decides (has_form a r) (HasForm a r)
form a r = (
  λ e.
      let h = and_parts (is_answered a r) (has_status_of a r) e in
      record { answers = (answered a r).0 h.0; status = (status a r).0 h.1 },
  λ h. and_both (is_answered a r) (has_status_of a r) ((answered a r).1 h.answers) ((status a r).1 h.status),
)

-- ---- entries
pub entry : (names : List (List ℕ)) (x : Entry) → Decides (shows_entry names x) (HasText names x)
entry names x =
    let q = x.event.ask in
    let r = x.event.reply in
    let a = is_long x.event.stamp in
    let b = is_half x.image.0 in
    let c = is_half x.event.line in
    let d = shows_ask names q in
    let f = shows_reply r in
    let g = has_form q r in (
      λ e.
          let h = and_parts (a && b && c) (d && f && g) e in
          let k = and_parts (a && b) c h.0 in
          let l = and_parts a b k.0 in
          let m = and_parts (d && f) g h.1 in
          let n = and_parts d f m.0 in
          record {
            stamp = (long x.event.stamp).0 l.0;
            image = (half x.image.0).0 l.1;
            line = (half x.event.line).0 k.1;
            ask = (ask names q).0 n.0;
            reply = (reply r).0 n.1;
            form = (form q r).0 m.1;
          },
      λ h. and_both (a && b && c) (d && f && g) (and_both (a && b) c (and_both a b ((long x.event.stamp).1 h.stamp)
          ((half x.image.0).1 h.image)) ((half x.event.line).1 h.line)) (and_both (d && f) g (and_both d f
          ((ask names q).1 h.ask) ((reply r).1 h.reply)) ((form q r).1 h.form)),
    )
