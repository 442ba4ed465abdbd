-- Asks.
use Rattle.std.proofs.Common.{◌≡◌, ℕ, suc, ◌+◌, true, List, [], ◌∷◌, ◌++◌, map, length, refl, ap, sym, ◌∙◌, subst, append_assoc, arith}
use Rattle.std.specs.Prelude.{ℤ, replicate}
use Rattle.walk_theory.specs.Language.{asking, ends_with, stuck}
use Rattle.caf_base.specs.declared.value.Kind.{Kind}
use Rattle.caf_base.specs.Arithmetic.{value_of}
use Rattle.coarray_types.specs.Places.{size_of}
use Rattle.caf_events.specs.declared.ask.Ask.{Ask}
use Rattle.caf_events.specs.declared.ask.Ask.TheVariants as asks
use Rattle.caf_events.specs.declared.round.Arriving.{Arriving}
use Rattle.caf_events.specs.declared.round.Arriving.TheVariants as arrivals
use Rattle.caf_events.specs.declared.reply.Reply.{Reply}
use Rattle.image_acts.specs.Words.{word}
use Rattle.image_acts.specs.Acts as a
use Rattle.image_acts.specs.Acts.{ask}
use Rattle.image_acts.specs.Core.{Core, Printing, with_values}
use Rattle.image_acts.specs.Frames.{pairs_in}
use Rattle.image_acts.specs.Places.{place_in, place_size, cells_of}
use Rattle.image_acts.specs.Replies.{with_status, read_reply, arrival_reply}
use Rattle.image_acts.specs.Taking.{Acted, found_in, taking, taking_one, taking_array}
use Rattle.image_acts.specs.Operate.Printing.{text_of}
use Rattle.image_acts.specs.Operate.Allocating.{bounds_size}
use Rattle.image_acts.specs.Operate.Asking.{image, team, span_of, cells_word, allotment, ask_effect}
use Rattle.image_code.specs.Sizes.{ask_size}
use Rattle.stack_laws.specs.Exact.{Plain, Any, is_plain, AsksBy, Stand, Kept, kept_of}
use Rattle.stack_laws.proofs.Standing.{Fine, fine, no_operand, find, takes, sees, top_array, of_none, of_one, of_two, stand_of, parted}

said : (k : Kept) (m : ℕ) (vs : List ℤ) (q : Ask) (f : Reply → Core) → is_plain q ≡ true → ((r : Reply) → Stand m vs (f r).values) → ((r : Reply) → kept_of (f r) ≡ k) → Fine Plain k m vs (asking q f)
said k m vs q f p s e = record { exact = (p, λ r. (s r, e r)) }

last : (k : Kept) (m : ℕ) (vs : List ℤ) (q : Ask) → is_plain q ≡ true → Fine Plain k m vs (ends_with q)
last k m vs q p = record { exact = p }

said_any : (k : Kept) (m : ℕ) (vs : List ℤ) (q : Ask) (f : Reply → Core) → ((r : Reply) → Stand m vs (f r).values) → ((r : Reply) → kept_of (f r) ≡ k) → Fine Any k m vs (asking q f)
said_any k m vs q f s e = record { exact = (tt, λ r. (s r, e r)) }

ruleset fine_asks = (fine, said, said_any, last)

abbrev Asked : a.AskAct → Core → List ℤ → List ℤ → Type 0
Asked x c xs vs = Fine (AsksBy (ask x)) (kept_of c) (ask_size x).leaves.numbers vs (ask_effect x (with_values c (xs ++ vs)))

-- ---- accesses: the owner on top of the place, and what is written beneath both
read : (j rank : ℕ) (c : Core) (xs vs : List ℤ) → length xs ≡ place_size rank + 1 → Asked (a.read j rank) c xs vs
read j rank c [] vs h = absurd (let f : 0 ≡ place_size rank + 1 = h in omega arith)
read j rank c (o ∷ xs) vs h =
    let f : suc (length xs) ≡ place_size rank + 1 = h in
    takes Any (kept_of c) 1 vs (place_size rank) c xs vs (λ ns e. asking (asks.Read (image o) (span_of j (place_in ns))) (read_reply (place_in ns) e)) (omega arith)
    (λ ns e. said_any (kept_of c) 1 vs _ (read_reply (place_in ns) (with_values c vs)) (λ r. refl) (λ r. refl))

abbrev writing : ℕ → Kind → ℤ → List ℤ → Core → Acted
writing j kind o ns d = taking_one d (λ v e. asking (asks.Write (image o) (span_of j (place_in ns)) (replicate (cells_of (place_in ns)) (value_of kind v))) (λ r. with_status r e))

write_on : (j rank : ℕ) (kind : Kind) (c : Core) (o : ℤ) (ys zs vs : List ℤ) → length ys ≡ place_size rank → length zs ≡ 1 → Fine Plain (kept_of c) 1 vs (ask_effect (a.write j rank kind) (with_values c (o ∷ (ys ++ (zs ++ vs)))))
write_on j rank kind c o ys zs vs e f =
    takes Plain (kept_of c) 1 vs (place_size rank) c ys (zs ++ vs) (writing j kind o) e
    (λ ns g. of_one Plain (kept_of c) 1 vs c (writing j kind o ns) zs vs f (λ v. said (kept_of c) 1 vs _ (λ r. with_status r (with_values c vs)) refl (λ r. refl) (λ r. refl)))

write : (j rank : ℕ) (kind : Kind) (c : Core) (xs vs : List ℤ) → length xs ≡ place_size rank + 2 → Asked (a.write j rank kind) c xs vs
write j rank kind c [] vs h = absurd (let f : 0 ≡ place_size rank + 2 = h in omega arith)
write j rank kind c (o ∷ xs) vs h =
    let f : suc (length xs) ≡ place_size rank + 2 = h in
    let p = parted (place_size rank) 1 xs (omega arith) in
    let e : xs ++ vs ≡ p.0 ++ (p.1 ++ vs) = ap (λ z. z ++ vs) p.4 ∙ append_assoc p.0 p.1 vs in
    subst (λ z. Fine Plain (kept_of c) 1 vs (ask_effect (a.write j rank kind) (with_values c (o ∷ z)))) (sym e) (write_on j rank kind c o p.0 p.1 vs p.2 p.3)

write_array : (j rank : ℕ) (kind : Kind) (c : Core) (xs vs : List ℤ) → length xs ≡ place_size rank + 1 → Asked (a.write_array j rank kind) c xs vs
write_array j rank kind c [] vs h = absurd (let f : 0 ≡ place_size rank + 1 = h in omega arith)
write_array j rank kind c (o ∷ xs) vs h =
    let f : suc (length xs) ≡ place_size rank + 1 = h in
    takes Plain (kept_of c) 1 vs (place_size rank) c xs vs (λ ns e. taking_array e (λ x d. asking (asks.Write (image o) (span_of j (place_in ns)) (map (value_of kind) x.elements)) (λ r. with_status r d))) (omega arith)
    (λ ns e. top_array Plain (kept_of c) 1 vs (with_values c vs) (λ x d. asking (asks.Write (image o) (span_of j (place_in ns)) (map (value_of kind) x.elements)) (λ r. with_status r d))
    (λ x ys. said (kept_of c) 1 vs _ (λ r. with_status r (record (with_values c vs) { arrays = ys })) refl (λ r. refl) (λ r. refl)))

create : (j depth rank : ℕ) (c : Core) (xs vs : List ℤ) → length xs ≡ depth + bounds_size rank → Asked (a.create j depth rank) c xs vs
create j depth rank c xs vs h =
    let d = with_values c (xs ++ vs) in
    let m = depth + bounds_size rank in
    sees Any (kept_of c) m vs depth (bounds_size rank) d (λ us. asking (asks.Create (record { 0 = c.me }) j (cells_word (size_of (pairs_in us)))) (λ r. d)) (λ us e. said_any (kept_of c) m vs _ (λ r. d) (λ r. stand_of m xs vs h) (λ r. refl))

of_four : (Q : Ask → Type 0) (c : Core) (f : Core → Acted) (m : ℕ) (xs vs : List ℤ) → length xs ≡ 4 → ((y x o s : ℤ) → Fine Q (kept_of c) m vs (f (with_values c (y ∷ x ∷ o ∷ s ∷ vs)))) → Fine Q (kept_of c) m vs (f (with_values c (xs ++ vs)))
of_four Q c f m (y ∷ x ∷ o ∷ s ∷ []) vs h g = g y x o s
of_four Q c f m [] vs h g = absurd (let z : 0 ≡ 4 = h in omega arith)
of_four Q c f m (y ∷ []) vs h g = absurd (let z : 1 ≡ 4 = h in omega arith)
of_four Q c f m (y ∷ x ∷ []) vs h g = absurd (let z : 2 ≡ 4 = h in omega arith)
of_four Q c f m (y ∷ x ∷ o ∷ []) vs h g = absurd (let z : 3 ≡ 4 = h in omega arith)
of_four Q c f m (y ∷ x ∷ o ∷ s ∷ t ∷ xs) vs h g = absurd (let z : suc (suc (suc (suc (suc (length xs))))) ≡ 4 = h in omega arith)

of_three : (c : Core) (f : Core → Acted) (m : ℕ) (xs vs : List ℤ) → length xs ≡ 3 → ((y x o : ℤ) → Fine Plain (kept_of c) m vs (f (with_values c (y ∷ x ∷ o ∷ vs)))) → Fine Plain (kept_of c) m vs (f (with_values c (xs ++ vs)))
of_three c f m (y ∷ x ∷ o ∷ []) vs h g = g y x o
of_three c f m [] vs h g = absurd (let z : 0 ≡ 3 = h in omega arith)
of_three c f m (y ∷ []) vs h g = absurd (let z : 1 ≡ 3 = h in omega arith)
of_three c f m (y ∷ x ∷ []) vs h g = absurd (let z : 2 ≡ 3 = h in omega arith)
of_three c f m (y ∷ x ∷ o ∷ t ∷ xs) vs h g = absurd (let z : suc (suc (suc (suc (length xs)))) ≡ 3 = h in omega arith)

-- ---- rounds
abbrev arriving : Core → Arriving → Acted
arriving c kind = taking_one c (λ t d. asking (asks.Arrive (team t) kind) (arrival_reply d))

arrives_on : (n : ℕ) (f : Core → List ℤ → Arriving) (c : Core) (xs vs : List ℤ) → length xs ≡ n + 1 → Fine Plain (kept_of c) 0 vs (taking n (with_values c (xs ++ vs)) (λ ks d. arriving d (f d ks)))
arrives_on n f c xs vs h =
    let p = parted n 1 xs h in
    let e : xs ++ vs ≡ p.0 ++ (p.1 ++ vs) = ap (λ z. z ++ vs) p.4 ∙ append_assoc p.0 p.1 vs in
    subst (λ z. Fine Plain (kept_of c) 0 vs (taking n (with_values c z) (λ ks d. arriving d (f d ks)))) (sym e)
    (takes Plain (kept_of c) 0 vs n c p.0 (p.1 ++ vs) (λ ks d. arriving d (f d ks)) p.2 (λ ks g. of_one Plain (kept_of c) 0 vs c (λ d. arriving d (f d ks)) p.1 vs p.3 (λ v. search fine_asks)))

-- ---- output
abbrev saying : List Printing → Core → Acted
saying [] c = stuck
saying (p ∷ ps) c = found_in (text_of p) (λ text. asking (asks.Print text) (λ r. record c { printing = ps }))

says : (ps : List Printing) (c : Core) → Fine Plain (kept_of c) 0 c.values (saying ps c)
says [] c = no_operand Plain (kept_of c) 0 c.values
says (p ∷ ps) c = find Plain (kept_of c) 0 c.values (text_of p) (λ text. asking (asks.Print text) (λ r. record c { printing = ps })) (λ text. said (kept_of c) 0 c.values (asks.Print text) (λ r. record c { printing = ps }) refl (λ r. refl) (λ r. refl))

-- those that don't tell of teams
abbrev pub IsNoLeave : a.AskAct → Type 0
IsNoLeave a.leave = ⊥
IsNoLeave x = Unit {0}

pub exact_ask : (x : a.AskAct) → IsNoLeave x → (c : Core) (xs vs : List ℤ) → length xs ≡ (ask_size x).takes.numbers → Asked x c xs vs
exact_ask (a.read j rank) f c xs vs h = read j rank c xs vs h
exact_ask (a.write j rank kind) f c xs vs h = write j rank kind c xs vs h
exact_ask (a.write_array j rank kind) f c xs vs h = write_array j rank kind c xs vs h
exact_ask (a.create j depth rank) f c xs vs h = create j depth rank c xs vs h
exact_ask (a.delete j) f c xs vs h = of_none Any (kept_of c) 0 vs c (ask_effect (a.delete j)) xs vs h (search fine_asks)
exact_ask (a.atomic op j kind) f c xs vs h = of_four Any c (ask_effect (a.atomic op j kind)) 2 xs vs h (λ y x o s. search fine_asks)
exact_ask (a.lock j) f c xs vs h = of_two Any (kept_of c) 1 vs c (ask_effect (a.lock j)) xs vs h (λ o s. search fine_asks)
exact_ask (a.try_lock j) f c xs vs h = of_two Any (kept_of c) 2 vs c (ask_effect (a.try_lock j)) xs vs h (λ o s. search fine_asks)
exact_ask (a.unlock j) f c xs vs h = of_two Any (kept_of c) 1 vs c (ask_effect (a.unlock j)) xs vs h (λ o s. search fine_asks)
exact_ask (a.post j) f c xs vs h = of_two Any (kept_of c) 1 vs c (ask_effect (a.post j)) xs vs h (λ o s. search fine_asks)
exact_ask (a.wait j) f c xs vs h = of_two Any (kept_of c) 1 vs c (ask_effect (a.wait j)) xs vs h (λ n s. search fine_asks)
exact_ask (a.query j) f c xs vs h = of_one Any (kept_of c) 1 vs c (ask_effect (a.query j)) xs vs h (λ s. search fine_asks)
exact_ask a.arrive_sync f c xs vs h = of_one Plain (kept_of c) 0 vs c (ask_effect a.arrive_sync) xs vs h (λ t. search fine_asks)
exact_ask a.arrive_form f c xs vs h = of_three c (ask_effect a.arrive_form) 0 xs vs h (λ y x t. search fine_asks)
exact_ask a.arrive_change f c xs vs h = of_one Plain (kept_of c) 0 vs c (ask_effect a.arrive_change) xs vs h (λ t. search fine_asks)
exact_ask a.arrive_end f c xs vs h = of_one Plain (kept_of c) 0 vs c (ask_effect a.arrive_end) xs vs h (λ t. search fine_asks)
exact_ask (a.arrive_allocate n) f c xs vs h = arrives_on n (λ d ks. arrivals.Allocate (allotment d ks)) c xs vs h
exact_ask (a.arrive_deallocate n) f c xs vs h = arrives_on n (λ d ks. arrivals.Deallocate (map word ks)) c xs vs h
exact_ask a.leave f c xs vs h = absurd f
exact_ask (a.gather op kind) f c xs vs h = of_one Plain (kept_of c) 0 vs c (ask_effect (a.gather op kind)) xs vs h (λ v. search fine_asks)
exact_ask a.take f c xs vs h = of_none Plain (kept_of c) 1 vs c (ask_effect a.take) xs vs h (search fine_asks)
exact_ask a.pair f c xs vs h = of_none Plain (kept_of c) 0 vs c (ask_effect a.pair) xs vs h (search fine_asks)
exact_ask a.unpair f c xs vs h = of_none Plain (kept_of c) 1 vs c (ask_effect a.unpair) xs vs h (search fine_asks)
exact_ask (a.enter_critical n) f c xs vs h = of_none Plain (kept_of c) 1 vs c (ask_effect (a.enter_critical n)) xs vs h (search fine_asks)
exact_ask (a.exit_critical n) f c xs vs h = of_none Plain (kept_of c) 0 vs c (ask_effect (a.exit_critical n)) xs vs h (search fine_asks)
exact_ask a.failed f c xs vs h = of_one Plain (kept_of c) 0 vs c (ask_effect a.failed) xs vs h (λ t. search fine_asks)
exact_ask a.stopped f c xs vs h = of_one Plain (kept_of c) 0 vs c (ask_effect a.stopped) xs vs h (λ t. search fine_asks)
exact_ask a.status f c xs vs h = of_two Plain (kept_of c) 1 vs c (ask_effect a.status) xs vs h (λ i t. search fine_asks)
exact_ask a.say f c xs vs h = of_none Plain (kept_of c) 0 vs c (ask_effect a.say) xs vs h (says c.printing (with_values c vs))
exact_ask a.memory f c xs vs h = of_none Plain (kept_of c) 0 vs c (ask_effect a.memory) xs vs h (search fine_asks)
exact_ask a.fail f c xs vs h = of_none Plain (kept_of c) 0 vs c (ask_effect a.fail) xs vs h (search fine_asks)
exact_ask a.stop f c xs vs h = of_one Plain (kept_of c) 0 vs c (ask_effect a.stop) xs vs h (λ v. search fine_asks)
exact_ask a.error_stop f c xs vs h = of_one Plain (kept_of c) 0 vs c (ask_effect a.error_stop) xs vs h (λ v. search fine_asks)
exact_ask a.end_program f c xs vs h = of_none Plain (kept_of c) 0 vs c (ask_effect a.end_program) xs vs h (search fine_asks)
