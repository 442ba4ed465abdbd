-- Asks: two of one place with the same text, each before ` > `, are one.
use Rattle.std.proofs.Common.{◌≡◌, ℕ, true, false, ℤ, List, [], ◌∷◌, ◌++◌, inl, inr, flat_map, drop, refl, ap}
use Rattle.std.proofs.Common.{sym, ◌∙◌, subst, arith, codes, append_assoc, true≢false}
use Rattle.std.specs.List.{list_all}
use Rattle.std.proofs.lemmas.List.{append_cancel_right}
use Rattle.std.specs.Prelude.{Option, None, Some}
use Rattle.caf_base.specs.declared.place.Place.TheVariants as places
use Rattle.caf_base.specs.declared.place.ImageNo.{ImageNo}
use Rattle.caf_base.specs.declared.place.TeamNo.{TeamNo}
use Rattle.caf_base.specs.declared.span.Span.{Span}
use Rattle.caf_base.specs.declared.value.Value.{Value}
use Rattle.caf_base.specs.declared.value.AtomicOp.{AtomicOp}
use Rattle.caf_base.specs.declared.value.Kind.{Kind}
use Rattle.caf_events.specs.declared.round.GatherOp.{GatherOp}
use Rattle.caf_events.specs.declared.round.Arriving.{Arriving}
use Rattle.caf_events.specs.declared.fault.FaultKind.{FaultKind}
use Rattle.caf_events.specs.declared.ask.Ask.{Ask}
use Rattle.caf_events.specs.declared.ask.Ask.TheVariants as asks
use Rattle.caf_events.specs.declared.event.Entry.{Entry}
use Rattle.caf_events.specs.Asks.{place_of}
use Rattle.caf_text.specs.Numbers.{decimal_text}
use Rattle.trace_theory.specs.Entries.{Each}
use Rattle.trace_text.specs.TraceText.{joined, number_text, value_text, values_text, image_text, name_text, span_text}
use Rattle.trace_text.specs.TraceText.{atomic_word, gather_word, kind_word, escaped, arriving_text, ask_text}
use Rattle.trace_text.specs.Words.{ask_word, fault_word}
use Rattle.trace_forms.specs.Names.{is_digit_byte, AreNames}
use Rattle.trace_forms.specs.Ranges.{IsHalf, IsLong, IsSigned, IsImageNumber, IsValueInRange, HasName, SpanHasText}
use Rattle.trace_forms.specs.Ranges.{AskHasText}
use Rattle.trace_text.specs.Forms.{Form, First, Second, number_behind, team_number_text, asked_team}
use Rattle.trace_forms.proofs.Cuts.{span_same, all_append}
use Rattle.trace_forms.proofs.Decimals.{is_dec, digits_of_number, signed_dec}
use Rattle.trace_forms.proofs.Pieces.{begins}
use Rattle.trace_forms.proofs.Fields.{Field, is_field, field_of, cut, half_field, long_field, signed_field}
use Rattle.trace_forms.proofs.Fields.{value_field, values_field, images_field, name_field, span_field}
use Rattle.trace_forms.proofs.Words.{Any, op_field, gather_field, kind_field, fault_field}
use Rattle.trace_forms.proofs.Printed.{printed_same}
use Rattle.trace_forms.proofs.Rounds.{arriving_starts, arriving_same}
use Rattle.trace_forms.proofs.Variants.{variant_of, HasVariant, same_variant, word_inside, limit_ask}

-- the number that a team is given, where it is given one, is one of the code's
abbrev pub IsGivenSigned : Option ℤ → Type 0
IsGivenSigned None = Unit {0}
IsGivenSigned (Some n) = IsSigned n

given_inside : (n : Option ℤ) → IsGivenSigned n → list_all is_field (team_number_text n) ≡ true
given_inside None h = refl
given_inside (Some n) h = field_of is_dec refl refl (decimal_text n) (signed_dec n h)

abbrev pub IsPrint : Ask → Type 0
IsPrint (asks.Print text) = Unit {0}
IsPrint ask = ⊥

memory_same : (x y : ImageNo) → places.Memory x ≡ places.Memory y → x ≡ y
memory_same x y e = cc

-- parts with a blank between them, to the right
two : (a b t : List ℕ) → (a ++ (32 ∷ b)) ++ t ≡ a ++ (32 ∷ (b ++ t))
two a b t = append_assoc a (32 ∷ b) t

three : (a b c t : List ℕ) → ((a ++ (32 ∷ b)) ++ (32 ∷ c)) ++ t ≡ a ++ (32 ∷ (b ++ (32 ∷ (c ++ t))))
three a b c t = append_assoc (a ++ (32 ∷ b)) (32 ∷ c) t ∙ append_assoc a (32 ∷ b) (32 ∷ (c ++ t))

four : (a b c d t : List ℕ) → (((a ++ (32 ∷ b)) ++ (32 ∷ c)) ++ (32 ∷ d)) ++ t ≡ a
    ++ (32 ∷ (b ++ (32 ∷ (c ++ (32 ∷ (d ++ t))))))
four a b c d t = append_assoc ((a ++ (32 ∷ b)) ++ (32 ∷ c)) (32 ∷ d) t ∙ three a b c (32 ∷ (d ++ t))

five : (a b c d f t : List ℕ) → ((((a ++ (32 ∷ b)) ++ (32 ∷ c)) ++ (32 ∷ d)) ++ (32 ∷ f)) ++ t ≡ a
    ++ (32 ∷ (b ++ (32 ∷ (c ++ (32 ∷ (d ++ (32 ∷ (f ++ t))))))))
five a b c d f t = append_assoc (((a ++ (32 ∷ b)) ++ (32 ∷ c)) ++ (32 ∷ d)) (32 ∷ f) t ∙ four a b c d (32 ∷ (f ++ t))

module _ (form : Form) (names : List (List ℕ)) (are : AreNames names) (before : List Entry)
    (given : (t : ℕ) → IsGivenSigned (number_behind before t)) where
  abbrev TeamFits : TeamNo → Type 0
  TeamFits t = IsHalf t.0

  number_end : (n : List ℕ) (g : Option ℤ) → (n ++ codes "/") ++ team_number_text g ≡ n ++ (47 ∷ team_number_text g)
  number_end n g = append_assoc n (codes "/") (team_number_text g)

  team_inside : (f : Form) (t : TeamNo) → TeamFits t → list_all is_field (asked_team f before t.0) ≡ true
  team_inside First t h = half_field.inside t.0 h
  team_inside Second t h = ap (list_all is_field) (number_end (number_text t.0) (number_behind before t.0))
      ∙ all_append is_field (number_text t.0) (47 ∷ team_number_text (number_behind before t.0))
      (half_field.inside t.0 h) (given_inside (number_behind before t.0) (given t.0))

  team_same : (f : Form) (t u : TeamNo) → TeamFits t → TeamFits u → asked_team f before t.0 ≡ asked_team f before u.0
      → t ≡ u
  team_same First t u p q e = let k = half_field.same t.0 u.0 p q e in (λ i. record { 0 = k i })
  team_same Second t u p q e =
      let k = span_same is_digit_byte (number_text t.0) (number_text u.0)
      (47 ∷ team_number_text (number_behind before t.0)) (47 ∷ team_number_text (number_behind before u.0))
      (digits_of_number t.0 (omega arith)) (digits_of_number u.0 (omega arith)) refl refl
      (sym (number_end (number_text t.0) (number_behind before t.0)) ∙ e
      ∙ number_end (number_text u.0) (number_behind before u.0)) in
      let m = half_field.same t.0 u.0 p q k.0 in (λ i. record { 0 = m i })

  -- a team that an ask names
  abbrev asked : TeamNo → List ℕ
  asked t = asked_team form before t.0

  team_field : Field TeamFits asked
  team_field = record { inside = team_inside form; same = team_same form }

  module _ (R S : List ℕ) where
    abbrev Goal : Ask → Ask → Type 0
    Goal a z = AskHasText names a → AskHasText names z → place_of a ≡ place_of z → (IsPrint a → IsPrint z → R ≡ S)
        → ask_text (asked_team form before) names a ++ (32 ∷ 62 ∷ 32 ∷ R) ≡ ask_text (asked_team form before) names z
        ++ (32 ∷ 62 ∷ 32 ∷ S) → (a ≡ z) × (R ≡ S)

    same_read : (owner owner' : ImageNo) (span span' : Span) → Goal (asks.Read owner span) (asks.Read owner' span')
    same_read owner owner' span span' p q h n e =
        let k0 = cut (SpanHasText names) (span_text names) (span_field names are) span span' p.1 q.1 (62 ∷ 32 ∷ R)
        (62 ∷ 32 ∷ S) (ap (drop 5) e) in
        let m = memory_same owner owner' h in
        ((λ i. asks.Read (m i) (k0.0 i)), ap (drop 2) k0.1)

    same_write : (owner owner' : ImageNo) (span span' : Span) (vs vs' : List Value)
        → Goal (asks.Write owner span vs) (asks.Write owner' span' vs')
    same_write owner owner' span span' vs vs' p q h n e =
        let k0 = cut (SpanHasText names) (span_text names) (span_field names are) span span' p.1 q.1
        (values_text vs ++ (32 ∷ (62 ∷ 32 ∷ R))) (values_text vs' ++ (32 ∷ (62 ∷ 32 ∷ S)))
        (sym (two ((span_text names) span) (values_text vs) (32 ∷ 62 ∷ 32 ∷ R)) ∙ ap (drop 6) e
        ∙ two ((span_text names) span') (values_text vs') (32 ∷ 62 ∷ 32 ∷ S)) in
        let k1 = cut (Each IsValueInRange) values_text values_field vs vs' p.2 q.2 (62 ∷ 32 ∷ R) (62 ∷ 32 ∷ S) k0.1 in
        let m = memory_same owner owner' h in
        ((λ i. asks.Write (m i) (k0.0 i) (k1.0 i)), ap (drop 2) k1.1)

    same_create : (owner owner' : ImageNo) (coarray coarray' : ℕ) (cells cells' : ℕ)
        → Goal (asks.Create owner coarray cells) (asks.Create owner' coarray' cells')
    same_create owner owner' coarray coarray' cells cells' p q h n e =
        let k0 = cut (HasName names) (name_text names) (name_field names are) coarray coarray' p.1 q.1
        (number_text cells ++ (32 ∷ (62 ∷ 32 ∷ R))) (number_text cells' ++ (32 ∷ (62 ∷ 32 ∷ S)))
        (sym (two ((name_text names) coarray) (number_text cells) (32 ∷ 62 ∷ 32 ∷ R)) ∙ ap (drop 7) e
        ∙ two ((name_text names) coarray') (number_text cells') (32 ∷ 62 ∷ 32 ∷ S)) in
        let k1 = cut IsHalf number_text half_field cells cells' p.2 q.2 (62 ∷ 32 ∷ R) (62 ∷ 32 ∷ S) k0.1 in
        let m = memory_same owner owner' h in
        ((λ i. asks.Create (m i) (k0.0 i) (k1.0 i)), ap (drop 2) k1.1)

    same_delete : (owner owner' : ImageNo) (coarray coarray' : ℕ)
        → Goal (asks.Delete owner coarray) (asks.Delete owner' coarray')
    same_delete owner owner' coarray coarray' p q h n e =
        let k0 = cut (HasName names) (name_text names) (name_field names are) coarray coarray' p.1 q.1 (62 ∷ 32 ∷ R)
        (62 ∷ 32 ∷ S) (ap (drop 7) e) in
        let m = memory_same owner owner' h in
        ((λ i. asks.Delete (m i) (k0.0 i)), ap (drop 2) k0.1)

    same_atomic : (owner owner' : ImageNo) (op op' : AtomicOp) (span span' : Span) (x x' : Value) (y y' : Value)
        → Goal (asks.Atomic owner op span x y) (asks.Atomic owner' op' span' x' y')
    same_atomic owner owner' op op' span span' x x' y y' p q h n e =
        let k0 = cut Any atomic_word op_field op op' tt tt
        ((span_text names) span ++ (32 ∷ (value_text x ++ (32 ∷ (value_text y ++ (32 ∷ (62 ∷ 32 ∷ R)))))))
        ((span_text names) span' ++ (32 ∷ (value_text x' ++ (32 ∷ (value_text y' ++ (32 ∷ (62 ∷ 32 ∷ S)))))))
        (sym (four (atomic_word op) ((span_text names) span) (value_text x) (value_text y)
        (32 ∷ 62 ∷ 32 ∷ R)) ∙ ap (drop 7) e ∙ four (atomic_word op') ((span_text names) span')
        (value_text x') (value_text y') (32 ∷ 62 ∷ 32 ∷ S)) in
        let k1 = cut (SpanHasText names) (span_text names) (span_field names are) span span' p.1 q.1
        (value_text x ++ (32 ∷ (value_text y ++ (32 ∷ (62 ∷ 32 ∷ R)))))
        (value_text x' ++ (32 ∷ (value_text y' ++ (32 ∷ (62 ∷ 32 ∷ S))))) k0.1 in
        let k2 = cut IsValueInRange value_text value_field x x' p.2 q.2 (value_text y ++ (32 ∷ (62 ∷ 32 ∷ R)))
        (value_text y' ++ (32 ∷ (62 ∷ 32 ∷ S))) k1.1 in
        let k3 = cut IsValueInRange value_text value_field y y' p.3 q.3 (62 ∷ 32 ∷ R) (62 ∷ 32 ∷ S) k2.1 in
        let m = memory_same owner owner' h in
        ((λ i. asks.Atomic (m i) (k0.0 i) (k1.0 i) (k2.0 i) (k3.0 i)), ap (drop 2) k3.1)

    same_lock : (owner owner' : ImageNo) (span span' : Span) → Goal (asks.Lock owner span) (asks.Lock owner' span')
    same_lock owner owner' span span' p q h n e =
        let k0 = cut (SpanHasText names) (span_text names) (span_field names are) span span' p.1 q.1 (62 ∷ 32 ∷ R)
        (62 ∷ 32 ∷ S) (ap (drop 5) e) in
        let m = memory_same owner owner' h in
        ((λ i. asks.Lock (m i) (k0.0 i)), ap (drop 2) k0.1)

    same_try_lock : (owner owner' : ImageNo) (span span' : Span)
        → Goal (asks.TryLock owner span) (asks.TryLock owner' span')
    same_try_lock owner owner' span span' p q h n e =
        let k0 = cut (SpanHasText names) (span_text names) (span_field names are) span span' p.1 q.1 (62 ∷ 32 ∷ R)
        (62 ∷ 32 ∷ S) (ap (drop 8) e) in
        let m = memory_same owner owner' h in
        ((λ i. asks.TryLock (m i) (k0.0 i)), ap (drop 2) k0.1)

    same_unlock : (owner owner' : ImageNo) (span span' : Span)
        → Goal (asks.Unlock owner span) (asks.Unlock owner' span')
    same_unlock owner owner' span span' p q h n e =
        let k0 = cut (SpanHasText names) (span_text names) (span_field names are) span span' p.1 q.1 (62 ∷ 32 ∷ R)
        (62 ∷ 32 ∷ S) (ap (drop 7) e) in
        let m = memory_same owner owner' h in
        ((λ i. asks.Unlock (m i) (k0.0 i)), ap (drop 2) k0.1)

    same_post : (owner owner' : ImageNo) (span span' : Span) → Goal (asks.Post owner span) (asks.Post owner' span')
    same_post owner owner' span span' p q h n e =
        let k0 = cut (SpanHasText names) (span_text names) (span_field names are) span span' p.1 q.1 (62 ∷ 32 ∷ R)
        (62 ∷ 32 ∷ S) (ap (drop 5) e) in
        let m = memory_same owner owner' h in
        ((λ i. asks.Post (m i) (k0.0 i)), ap (drop 2) k0.1)

    same_wait : (owner owner' : ImageNo) (span span' : Span) (threshold threshold' : ℕ)
        → Goal (asks.Wait owner span threshold) (asks.Wait owner' span' threshold')
    same_wait owner owner' span span' threshold threshold' p q h n e =
        let k0 = cut (SpanHasText names) (span_text names) (span_field names are) span span' p.1 q.1
        (number_text threshold ++ (32 ∷ (62 ∷ 32 ∷ R))) (number_text threshold' ++ (32 ∷ (62 ∷ 32 ∷ S)))
        (sym (two ((span_text names) span) (number_text threshold) (32 ∷ 62 ∷ 32 ∷ R)) ∙ ap (drop 5) e
        ∙ two ((span_text names) span') (number_text threshold') (32 ∷ 62 ∷ 32 ∷ S)) in
        let k1 = cut IsLong number_text long_field threshold threshold' p.2 q.2 (62 ∷ 32 ∷ R) (62 ∷ 32 ∷ S) k0.1 in
        let m = memory_same owner owner' h in
        ((λ i. asks.Wait (m i) (k0.0 i) (k1.0 i)), ap (drop 2) k1.1)

    same_query : (owner owner' : ImageNo) (span span' : Span) → Goal (asks.Query owner span) (asks.Query owner' span')
    same_query owner owner' span span' p q h n e =
        let k0 = cut (SpanHasText names) (span_text names) (span_field names are) span span' p.1 q.1 (62 ∷ 32 ∷ R)
        (62 ∷ 32 ∷ S) (ap (drop 6) e) in
        let m = memory_same owner owner' h in
        ((λ i. asks.Query (m i) (k0.0 i)), ap (drop 2) k0.1)

    same_mark : (owner owner' : ImageNo) → Goal (asks.Mark owner) (asks.Mark owner')
    same_mark owner owner' p q h n e = (ap asks.Mark (memory_same owner owner' h), ap (drop 7) e)

    same_free : (owner owner' : ImageNo) (span span' : Span) → Goal (asks.Free owner span) (asks.Free owner' span')
    same_free owner owner' span span' p q h n e =
        let k0 = cut (SpanHasText names) (span_text names) (span_field names are) span span' p.1 q.1 (62 ∷ 32 ∷ R)
        (62 ∷ 32 ∷ S) (ap (drop 5) e) in
        let m = memory_same owner owner' h in
        ((λ i. asks.Free (m i) (k0.0 i)), ap (drop 2) k0.1)

    same_arrive : (team team' : TeamNo) (arriving arriving' : Arriving)
        → Goal (asks.Arrive team arriving) (asks.Arrive team' arriving')
    same_arrive team team' arriving arriving' p q h n e =
        let u = arriving_starts names are arriving (62 ∷ 32 ∷ R) in
        let w = arriving_starts names are arriving' (62 ∷ 32 ∷ S) in
        let left = append_assoc (asked team) (arriving_text names arriving) (32 ∷ 62 ∷ 32 ∷ R) in
        let right = append_assoc (asked team') (arriving_text names arriving') (32 ∷ 62 ∷ 32 ∷ S) in
        let k = cut TeamFits asked team_field team team' p.0 q.0 u.0 w.0
        (ap (λ z. asked team ++ z) (sym u.1) ∙ sym left ∙ ap (drop 7) e ∙ right ∙ ap (λ z. asked team' ++ z) w.1) in
        let m = arriving_same names are arriving arriving' p.1 q.1 (32 ∷ R) (32 ∷ S)
        (u.1 ∙ ap (λ z. 32 ∷ z) k.1 ∙ sym w.1) in
        ((λ i. asks.Arrive (k.0 i) (m.0 i)), ap (drop 1) m.1)

    same_leave : (team team' : TeamNo) (round round' : ℕ) → Goal (asks.Leave team round) (asks.Leave team' round')
    same_leave team team' round round' p q h n e =
        let k0 = cut TeamFits asked team_field team team' p.0 q.0 (number_text round ++ (32 ∷ (62 ∷ 32 ∷ R)))
        (number_text round' ++ (32 ∷ (62 ∷ 32 ∷ S)))
        (sym (two (asked team) (number_text round) (32 ∷ 62 ∷ 32 ∷ R)) ∙ ap (drop 6) e
        ∙ two (asked team') (number_text round') (32 ∷ 62 ∷ 32 ∷ S)) in
        let k1 = cut IsLong number_text long_field round round' p.1 q.1 (62 ∷ 32 ∷ R) (62 ∷ 32 ∷ S) k0.1 in
        ((λ i. asks.Leave (k0.0 i) (k1.0 i)), ap (drop 2) k1.1)

    same_gather : (team team' : TeamNo) (op op' : GatherOp) (root root' : ℕ) (kind kind' : Kind) (vs vs' : List Value)
        → Goal (asks.Gather team op root kind vs) (asks.Gather team' op' root' kind' vs')
    same_gather team team' op op' root root' kind kind' vs vs' p q h n e =
        let k0 = cut TeamFits asked team_field team team' p.0 q.0
        (gather_word op ++ (32 ∷ (number_text root
        ++ (32 ∷ (kind_word kind ++ (32 ∷ (values_text vs ++ (32 ∷ (62 ∷ 32 ∷ R)))))))))
        (gather_word op' ++ (32 ∷ (number_text root'
        ++ (32 ∷ (kind_word kind' ++ (32 ∷ (values_text vs' ++ (32 ∷ (62 ∷ 32 ∷ S)))))))))
        (sym (five (asked team) (gather_word op) (number_text root) (kind_word kind)
        (values_text vs) (32 ∷ 62 ∷ 32 ∷ R)) ∙ ap (drop 7) e
        ∙ five (asked team') (gather_word op') (number_text root') (kind_word kind')
        (values_text vs') (32 ∷ 62 ∷ 32 ∷ S)) in
        let k1 = cut Any gather_word gather_field op op' tt tt
        (number_text root ++ (32 ∷ (kind_word kind ++ (32 ∷ (values_text vs ++ (32 ∷ (62 ∷ 32 ∷ R)))))))
        (number_text root' ++ (32 ∷ (kind_word kind' ++ (32 ∷ (values_text vs' ++ (32 ∷ (62 ∷ 32 ∷ S)))))))
        k0.1 in
        let k2 = cut IsHalf number_text half_field root root' p.1 q.1
        (kind_word kind ++ (32 ∷ (values_text vs ++ (32 ∷ (62 ∷ 32 ∷ R)))))
        (kind_word kind' ++ (32 ∷ (values_text vs' ++ (32 ∷ (62 ∷ 32 ∷ S))))) k1.1 in
        let k3 = cut Any kind_word kind_field kind kind' tt tt (values_text vs ++ (32 ∷ (62 ∷ 32 ∷ R)))
        (values_text vs' ++ (32 ∷ (62 ∷ 32 ∷ S))) k2.1 in
        let k4 = cut (Each IsValueInRange) values_text values_field vs vs' p.2 q.2 (62 ∷ 32 ∷ R) (62 ∷ 32 ∷ S) k3.1 in
        ((λ i. asks.Gather (k0.0 i) (k1.0 i) (k2.0 i) (k3.0 i) (k4.0 i)), ap (drop 2) k4.1)

    same_take : (team team' : TeamNo) (round round' : ℕ) → Goal (asks.Take team round) (asks.Take team' round')
    same_take team team' round round' p q h n e =
        let k0 = cut TeamFits asked team_field team team' p.0 q.0 (number_text round ++ (32 ∷ (62 ∷ 32 ∷ R)))
        (number_text round' ++ (32 ∷ (62 ∷ 32 ∷ S)))
        (sym (two (asked team) (number_text round) (32 ∷ 62 ∷ 32 ∷ R)) ∙ ap (drop 5) e
        ∙ two (asked team') (number_text round') (32 ∷ 62 ∷ 32 ∷ S)) in
        let k1 = cut IsLong number_text long_field round round' p.1 q.1 (62 ∷ 32 ∷ R) (62 ∷ 32 ∷ S) k0.1 in
        ((λ i. asks.Take (k0.0 i) (k1.0 i)), ap (drop 2) k1.1)

    same_pair : (images images' : List ImageNo) → Goal (asks.Pair images) (asks.Pair images')
    same_pair images images' p q h n e =
        let k0 = cut (Each IsImageNumber) (joined (44 ∷ []) image_text) images_field images images' p q (62 ∷ 32 ∷ R)
        (62 ∷ 32 ∷ S) (ap (drop 5) e) in
        ((λ i. asks.Pair (k0.0 i)), ap (drop 2) k0.1)

    same_unpair : Goal asks.Unpair asks.Unpair
    same_unpair p q h n e = (refl, ap (drop 9) e)

    same_enter : (construct construct' : ℕ) → Goal (asks.Enter construct) (asks.Enter construct')
    same_enter construct construct' p q h n e =
        let k0 = cut IsHalf number_text half_field construct construct' p q (62 ∷ 32 ∷ R) (62 ∷ 32 ∷ S)
        (ap (drop 6) e) in
        ((λ i. asks.Enter (k0.0 i)), ap (drop 2) k0.1)

    same_exit : (construct construct' : ℕ) → Goal (asks.Exit construct) (asks.Exit construct')
    same_exit construct construct' p q h n e =
        let k0 = cut IsHalf number_text half_field construct construct' p q (62 ∷ 32 ∷ R) (62 ∷ 32 ∷ S)
        (ap (drop 5) e) in
        ((λ i. asks.Exit (k0.0 i)), ap (drop 2) k0.1)

    same_gone : Goal asks.Gone asks.Gone
    same_gone p q h n e = (refl, ap (drop 7) e)

    same_stop : (code code' : ℤ) → Goal (asks.Stop code) (asks.Stop code')
    same_stop code code' p q h n e =
        let k0 = cut IsSigned decimal_text signed_field code code' p q (62 ∷ 32 ∷ R) (62 ∷ 32 ∷ S) (ap (drop 5) e) in
        ((λ i. asks.Stop (k0.0 i)), ap (drop 2) k0.1)

    same_failed : (team team' : TeamNo) → Goal (asks.Failed team) (asks.Failed team')
    same_failed team team' p q h n e =
        let k0 = cut TeamFits asked team_field team team' p q (62 ∷ 32 ∷ R) (62 ∷ 32 ∷ S) (ap (drop 7) e) in
        ((λ i. asks.Failed (k0.0 i)), ap (drop 2) k0.1)

    same_stopped : (team team' : TeamNo) → Goal (asks.Stopped team) (asks.Stopped team')
    same_stopped team team' p q h n e =
        let k0 = cut TeamFits asked team_field team team' p q (62 ∷ 32 ∷ R) (62 ∷ 32 ∷ S) (ap (drop 8) e) in
        ((λ i. asks.Stopped (k0.0 i)), ap (drop 2) k0.1)

    same_status : (team team' : TeamNo) (index index' : ℕ) → Goal (asks.Status team index) (asks.Status team' index')
    same_status team team' index index' p q h n e =
        let k0 = cut TeamFits asked team_field team team' p.0 q.0 (number_text index ++ (32 ∷ (62 ∷ 32 ∷ R)))
        (number_text index' ++ (32 ∷ (62 ∷ 32 ∷ S)))
        (sym (two (asked team) (number_text index) (32 ∷ 62 ∷ 32 ∷ R)) ∙ ap (drop 7) e
        ∙ two (asked team') (number_text index') (32 ∷ 62 ∷ 32 ∷ S)) in
        let k1 = cut IsHalf number_text half_field index index' p.1 q.1 (62 ∷ 32 ∷ R) (62 ∷ 32 ∷ S) k0.1 in
        ((λ i. asks.Status (k0.0 i) (k1.0 i)), ap (drop 2) k1.1)

    same_print : (text text' : List ℕ) → Goal (asks.Print text) (asks.Print text')
    same_print text text' p q h n e =
        let r = n tt tt in
        let k = append_cancel_right (flat_map escaped text) (flat_map escaped text') (32 ∷ 62 ∷ 32 ∷ R)
        (ap (drop 6) e ∙ ap (λ z. flat_map escaped text' ++ (32 ∷ 62 ∷ 32 ∷ z)) (sym r)) in
        (ap asks.Print (printed_same text text' k), r)

    same_memory : Goal asks.Memory asks.Memory
    same_memory p q h n e = (refl, ap (drop 9) e)

    same_fail : Goal asks.Fail asks.Fail
    same_fail p q h n e = (refl, ap (drop 7) e)

    same_error_stop : (code code' : ℤ) → Goal (asks.ErrorStop code) (asks.ErrorStop code')
    same_error_stop code code' p q h n e =
        let k0 = cut IsSigned decimal_text signed_field code code' p q (62 ∷ 32 ∷ R) (62 ∷ 32 ∷ S) (ap (drop 10) e) in
        ((λ i. asks.ErrorStop (k0.0 i)), ap (drop 2) k0.1)

    same_fault : (kind kind' : FaultKind) → Goal (asks.Fault kind) (asks.Fault kind')
    same_fault kind kind' p q h n e =
        let k0 = cut Any fault_word fault_field kind kind' tt tt (62 ∷ 32 ∷ R) (62 ∷ 32 ∷ S) (ap (drop 6) e) in
        ((λ i. asks.Fault (k0.0 i)), ap (drop 2) k0.1)

    statements_as_statements : (x y : ℕ) → Goal (asks.LimitStatements x) (asks.LimitStatements y)
    statements_as_statements x y p q h n e =
        let k = cut IsLong number_text long_field x y p q (62 ∷ 32 ∷ R) (62 ∷ 32 ∷ S) (ap (drop 17) e) in
        (ap asks.LimitStatements k.0, ap (drop 2) k.1)

    statements_as_words : (x y : ℕ) → Goal (asks.LimitStatements x) (asks.LimitWords y)
    statements_as_words x y p q h n e = absurd (true≢false (ap (λ l. begins 115 (drop 6 l)) e))

    statements_as_stamp : (x y : ℕ) → Goal (asks.LimitStatements x) (asks.LimitStamp y)
    statements_as_stamp x y p q h n e = absurd (true≢false (ap (λ l. begins 116 (drop 9 l)) e))

    words_as_statements : (x y : ℕ) → Goal (asks.LimitWords x) (asks.LimitStatements y)
    words_as_statements x y p q h n e = absurd (true≢false (ap (λ l. begins 119 (drop 6 l)) e))

    words_as_words : (x y : ℕ) → Goal (asks.LimitWords x) (asks.LimitWords y)
    words_as_words x y p q h n e =
        let k = cut IsLong number_text long_field x y p q (62 ∷ 32 ∷ R) (62 ∷ 32 ∷ S) (ap (drop 12) e) in
        (ap asks.LimitWords k.0, ap (drop 2) k.1)

    words_as_stamp : (x y : ℕ) → Goal (asks.LimitWords x) (asks.LimitStamp y)
    words_as_stamp x y p q h n e = absurd (true≢false (ap (λ l. begins 119 (drop 6 l)) e))

    stamp_as_statements : (x y : ℕ) → Goal (asks.LimitStamp x) (asks.LimitStatements y)
    stamp_as_statements x y p q h n e = absurd (true≢false (ap (λ l. begins 109 (drop 9 l)) e))

    stamp_as_words : (x y : ℕ) → Goal (asks.LimitStamp x) (asks.LimitWords y)
    stamp_as_words x y p q h n e = absurd (true≢false (ap (λ l. begins 115 (drop 6 l)) e))

    stamp_as_stamp : (x y : ℕ) → Goal (asks.LimitStamp x) (asks.LimitStamp y)
    stamp_as_stamp x y p q h n e =
        let k = cut IsLong number_text long_field x y p q (62 ∷ 32 ∷ R) (62 ∷ 32 ∷ S) (ap (drop 12) e) in
        (ap asks.LimitStamp k.0, ap (drop 2) k.1)

    same_limit_statements : (x : ℕ) (b : Ask) → HasVariant limit_ask b → Goal (asks.LimitStatements x) b
    same_limit_statements x b (y, inl a) = subst (Goal (asks.LimitStatements x)) (sym a)
        (statements_as_statements x y)
    same_limit_statements x b (y, inr (inl a)) = subst (Goal (asks.LimitStatements x)) (sym a)
        (statements_as_words x y)
    same_limit_statements x b (y, inr (inr a)) = subst (Goal (asks.LimitStatements x)) (sym a)
        (statements_as_stamp x y)

    same_limit_words : (x : ℕ) (b : Ask) → HasVariant limit_ask b → Goal (asks.LimitWords x) b
    same_limit_words x b (y, inl a) = subst (Goal (asks.LimitWords x)) (sym a) (words_as_statements x y)
    same_limit_words x b (y, inr (inl a)) = subst (Goal (asks.LimitWords x)) (sym a) (words_as_words x y)
    same_limit_words x b (y, inr (inr a)) = subst (Goal (asks.LimitWords x)) (sym a) (words_as_stamp x y)

    same_limit_stamp : (x : ℕ) (b : Ask) → HasVariant limit_ask b → Goal (asks.LimitStamp x) b
    same_limit_stamp x b (y, inl a) = subst (Goal (asks.LimitStamp x)) (sym a) (stamp_as_statements x y)
    same_limit_stamp x b (y, inr (inl a)) = subst (Goal (asks.LimitStamp x)) (sym a) (stamp_as_words x y)
    same_limit_stamp x b (y, inr (inr a)) = subst (Goal (asks.LimitStamp x)) (sym a) (stamp_as_stamp x y)

    by_variant : (a b : Ask) → HasVariant (variant_of a) b → Goal a b
    by_variant (asks.Read owner span) b s = subst (Goal (asks.Read owner span)) (sym s.2)
        (same_read owner s.0 span s.1)
    by_variant (asks.Write owner span vs) b s = subst (Goal (asks.Write owner span vs)) (sym s.3)
        (same_write owner s.0 span s.1 vs s.2)
    by_variant (asks.Create owner coarray cells) b s = subst (Goal (asks.Create owner coarray cells)) (sym s.3)
        (same_create owner s.0 coarray s.1 cells s.2)
    by_variant (asks.Delete owner coarray) b s = subst (Goal (asks.Delete owner coarray)) (sym s.2)
        (same_delete owner s.0 coarray s.1)
    by_variant (asks.Atomic owner op span x y) b s = subst (Goal (asks.Atomic owner op span x y)) (sym s.5)
        (same_atomic owner s.0 op s.1 span s.2 x s.3 y s.4)
    by_variant (asks.Lock owner span) b s = subst (Goal (asks.Lock owner span)) (sym s.2)
        (same_lock owner s.0 span s.1)
    by_variant (asks.TryLock owner span) b s = subst (Goal (asks.TryLock owner span)) (sym s.2)
        (same_try_lock owner s.0 span s.1)
    by_variant (asks.Unlock owner span) b s = subst (Goal (asks.Unlock owner span)) (sym s.2)
        (same_unlock owner s.0 span s.1)
    by_variant (asks.Post owner span) b s = subst (Goal (asks.Post owner span)) (sym s.2)
        (same_post owner s.0 span s.1)
    by_variant (asks.Wait owner span threshold) b s = subst (Goal (asks.Wait owner span threshold)) (sym s.3)
        (same_wait owner s.0 span s.1 threshold s.2)
    by_variant (asks.Query owner span) b s = subst (Goal (asks.Query owner span)) (sym s.2)
        (same_query owner s.0 span s.1)
    by_variant (asks.Mark owner) b s = subst (Goal (asks.Mark owner)) (sym s.1) (same_mark owner s.0)
    by_variant (asks.Free owner span) b s = subst (Goal (asks.Free owner span)) (sym s.2)
        (same_free owner s.0 span s.1)
    by_variant (asks.Arrive team arriving) b s = subst (Goal (asks.Arrive team arriving)) (sym s.2)
        (same_arrive team s.0 arriving s.1)
    by_variant (asks.Leave team round) b s = subst (Goal (asks.Leave team round)) (sym s.2)
        (same_leave team s.0 round s.1)
    by_variant (asks.Gather team op root kind vs) b s = subst (Goal (asks.Gather team op root kind vs)) (sym s.5)
        (same_gather team s.0 op s.1 root s.2 kind s.3 vs s.4)
    by_variant (asks.Take team round) b s = subst (Goal (asks.Take team round)) (sym s.2)
        (same_take team s.0 round s.1)
    by_variant (asks.Pair images) b s = subst (Goal (asks.Pair images)) (sym s.1) (same_pair images s.0)
    by_variant asks.Unpair b s = subst (Goal asks.Unpair) (sym s) same_unpair
    by_variant (asks.Enter construct) b s = subst (Goal (asks.Enter construct)) (sym s.1) (same_enter construct s.0)
    by_variant (asks.Exit construct) b s = subst (Goal (asks.Exit construct)) (sym s.1) (same_exit construct s.0)
    by_variant asks.Gone b s = subst (Goal asks.Gone) (sym s) same_gone
    by_variant (asks.Stop code) b s = subst (Goal (asks.Stop code)) (sym s.1) (same_stop code s.0)
    by_variant (asks.Failed team) b s = subst (Goal (asks.Failed team)) (sym s.1) (same_failed team s.0)
    by_variant (asks.Stopped team) b s = subst (Goal (asks.Stopped team)) (sym s.1) (same_stopped team s.0)
    by_variant (asks.Status team index) b s = subst (Goal (asks.Status team index)) (sym s.2)
        (same_status team s.0 index s.1)
    by_variant (asks.Print text) b s = subst (Goal (asks.Print text)) (sym s.1) (same_print text s.0)
    by_variant asks.Memory b s = subst (Goal asks.Memory) (sym s) same_memory
    by_variant asks.Fail b s = subst (Goal asks.Fail) (sym s) same_fail
    by_variant (asks.ErrorStop code) b s = subst (Goal (asks.ErrorStop code)) (sym s.1) (same_error_stop code s.0)
    by_variant (asks.Fault kind) b s = subst (Goal (asks.Fault kind)) (sym s.1) (same_fault kind s.0)
    by_variant (asks.LimitStatements number) b s = same_limit_statements number b s
    by_variant (asks.LimitWords number) b s = same_limit_words number b s
    by_variant (asks.LimitStamp number) b s = same_limit_stamp number b s

    -- behind the first word stands a blank
    starts : (a : Ask) (T : List ℕ) → (u : List ℕ)
        × (ask_text (asked_team form before) names a ++ (32 ∷ T) ≡ ask_word a ++ (32 ∷ u))
    starts (asks.Read owner span) T = (_, refl)
    starts (asks.Write owner span vs) T = (_, refl)
    starts (asks.Create owner coarray cells) T = (_, refl)
    starts (asks.Delete owner coarray) T = (_, refl)
    starts (asks.Atomic owner op span x y) T = (_, refl)
    starts (asks.Lock owner span) T = (_, refl)
    starts (asks.TryLock owner span) T = (_, refl)
    starts (asks.Unlock owner span) T = (_, refl)
    starts (asks.Post owner span) T = (_, refl)
    starts (asks.Wait owner span threshold) T = (_, refl)
    starts (asks.Query owner span) T = (_, refl)
    starts (asks.Mark owner) T = (_, refl)
    starts (asks.Free owner span) T = (_, refl)
    starts (asks.Arrive team arriving) T = (_, refl)
    starts (asks.Leave team round) T = (_, refl)
    starts (asks.Gather team op root kind vs) T = (_, refl)
    starts (asks.Take team round) T = (_, refl)
    starts (asks.Pair images) T = (_, refl)
    starts asks.Unpair T = (_, refl)
    starts (asks.Enter construct) T = (_, refl)
    starts (asks.Exit construct) T = (_, refl)
    starts asks.Gone T = (_, refl)
    starts (asks.Stop code) T = (_, refl)
    starts (asks.Failed team) T = (_, refl)
    starts (asks.Stopped team) T = (_, refl)
    starts (asks.Status team index) T = (_, refl)
    starts (asks.Print text) T = (_, refl)
    starts asks.Memory T = (_, refl)
    starts asks.Fail T = (_, refl)
    starts (asks.ErrorStop code) T = (_, refl)
    starts (asks.Fault kind) T = (_, refl)
    starts (asks.LimitStatements number) T = (_, refl)
    starts (asks.LimitWords number) T = (_, refl)
    starts (asks.LimitStamp number) T = (_, refl)

    pub ask_same : (a b : Ask) → Goal a b
    ask_same a b p q h n e =
        let u = starts a (62 ∷ 32 ∷ R) in
        let w = starts b (62 ∷ 32 ∷ S) in
        let k = span_same is_field (ask_word a) (ask_word b) (32 ∷ u.0) (32 ∷ w.0) (word_inside a)
        (word_inside b) refl refl (sym u.1 ∙ e ∙ w.1) in
        by_variant a b (same_variant a b k.0) p q h n e
