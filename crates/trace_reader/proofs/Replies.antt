-- Replies, by their texts and by what their asks can be answered.
use Rattle.std.proofs.Common.{◌≡◌, ℕ, zero, suc, ◌<◌, Bool, true, false, ◌||◌, nat_eq, ℤ, pos, negsuc}
use Rattle.std.proofs.Common.{List, [], ◌∷◌, ◌++◌, ◌⊎◌, inl, inr, None, Some, length, refl, ap, sym}
use Rattle.std.proofs.Common.{◌∙◌, arith, codes, bytes_eq, append_assoc, append-nil, length-append, true≢false}
use Rattle.std.proofs.Common.{cond, decimal, get_or}
use Rattle.std.specs.List.{list_all}
use Rattle.std.specs.Ordering.{int_eq}
use Rattle.std.proofs.lemmas.Slice.Eq.{bytes_eq-Decides}
use Rattle.caf_base.specs.declared.value.Value.{Value}
use Rattle.caf_events.specs.declared.ask.Ask.{Ask}
use Rattle.caf_events.specs.declared.ask.Ask.TheVariants as asks
use Rattle.caf_events.specs.declared.reply.FormedTeam.{FormedTeam}
use Rattle.caf_events.specs.declared.reply.Reply.{Reply}
use Rattle.caf_events.specs.declared.reply.Reply.TheVariants as replies
use Rattle.caf_text.specs.Numbers.{decimal_text}
use Rattle.trace_theory.specs.Entries.{Each}
use Rattle.trace_text.specs.TraceText.{joined, number_text, image_text, value_text, values_text, indices_text}
use Rattle.trace_text.specs.TraceText.{teams_text}
use Rattle.trace_text.specs.TraceText.{taken_values, reply_text}
use Rattle.trace_forms.specs.Names.{is_digit_byte}
use Rattle.trace_forms.specs.Ranges.{IsHalf, IsSignedHalf, IsImageNumber, FormedHasText, ReplyHasText}
use Rattle.trace_forms.specs.Replies.{ComeWith, HasForm}
use Rattle.trace_forms.proofs.Cuts.{and_first, differ_by, all_append, joined_inside}
use Rattle.trace_forms.proofs.Decimals.{is_dec, digits_of_number, some_of_number, signed_dec, signed_some}
use Rattle.trace_forms.proofs.Decimals.{half_signed}
use Rattle.trace_forms.proofs.Pieces.{other_byte, is_val, value_inside, is_vals, values_inside}
use Rattle.trace_forms.proofs.Pieces.{half_items, image_items}
use Rattle.trace_fields.specs.Cutting.{other, IsCutAt}
use Rattle.trace_fields.proofs.Cut.{found, whole}
use Rattle.trace_fields.proofs.Items.{AreItems}
use Rattle.trace_fields.proofs.Parts.{digits_clean, signed_clean}
use Rattle.trace_reader.specs.Kinds.{kind_of, IsOfKind, word_by, formed_text}
use Rattle.trace_reader.specs.declared.reply.ReplyKind.{ReplyKind}
use Rattle.trace_reader.specs.declared.reply.ReplyKind.TheVariants as kinds

-- ---- a reply to an ask is a word, or is of the kind of the ask
told : (a : Ask) (r : Reply) → HasForm a r → IsOfKind (kind_of a) r ⊎ (word_by (reply_text r) ≡ Some r)
told (asks.Read owner span) (replies.Values vs) h = inl refl
told (asks.Read owner span) replies.Dead h = inr refl
told (asks.Read owner span) replies.Absent h = inr refl
told (asks.Write owner span vs) replies.Done h = inr refl
told (asks.Write owner span vs) replies.Dead h = inr refl
told (asks.Write owner span vs) replies.Absent h = inr refl
told (asks.Create owner coarray cells) replies.Done h = inr refl
told (asks.Delete owner coarray) replies.Done h = inr refl
told (asks.Atomic owner op span x y) (replies.Old value) h = inl refl
told (asks.Atomic owner op span x y) replies.Dead h = inr refl
told (asks.Atomic owner op span x y) replies.Absent h = inr refl
told (asks.Atomic owner op span x y) replies.Overflow h = inr refl
told (asks.Lock owner span) (replies.Number status) h = inl refl
told (asks.Lock owner span) replies.Absent h = inr refl
told (asks.TryLock owner span) (replies.Number status) h = inl refl
told (asks.TryLock owner span) replies.Absent h = inr refl
told (asks.TryLock owner span) replies.Busy h = inr refl
told (asks.Unlock owner span) (replies.Number status) h = inl refl
told (asks.Unlock owner span) replies.Absent h = inr refl
told (asks.Post owner span) (replies.Number status) h = inl refl
told (asks.Post owner span) replies.Absent h = inr refl
told (asks.Wait owner span threshold) (replies.Number status) h = inl refl
told (asks.Query owner span) (replies.Count count) h = inl refl
told (asks.Mark owner) replies.Done h = inr refl
told (asks.Free owner span) replies.Done h = inr refl
told (asks.Free owner span) replies.Dead h = inr refl
told (asks.Free owner span) replies.Absent h = inr refl
told (asks.Arrive team arriving) (replies.Round round) h = inl refl
told (asks.Arrive team arriving) (replies.Clash image line) h = inl refl
told (asks.Leave team round) (replies.Left status teams) h = inl refl
told (asks.Gather team op root kind vs) (replies.Round round) h = inl refl
told (asks.Gather team op root kind vs) (replies.Clash image line) h = inl refl
told (asks.Take team round) (replies.Taken status vs) h = inl h.status.1
told (asks.Pair images) replies.Done h = inr refl
told asks.Unpair (replies.Number status) h = inl refl
told (asks.Enter construct) (replies.Number status) h = inl refl
told (asks.Exit construct) replies.Done h = inr refl
told asks.Gone replies.Done h = inr refl
told (asks.Stop code) replies.Done h = inr refl
told (asks.Failed team) (replies.Indices indices) h = inl refl
told (asks.Stopped team) (replies.Indices indices) h = inl refl
told (asks.Status team index) (replies.Number status) h = inl refl
told (asks.Print text) replies.Done h = inr refl
told asks.Memory replies.Done h = inr refl
told asks.Fail replies.Done h = inr refl
told (asks.ErrorStop code) replies.Done h = inr refl
told (asks.Fault kind) replies.Done h = inr refl
told (asks.LimitStatements number) replies.Done h = inr refl
told (asks.LimitWords number) replies.Done h = inr refl
told (asks.LimitStamp number) replies.Done h = inr refl
told a r h = absurd h.answers

-- ---- the text of a reply of a kind is no word
-- the words, each with a byte by which it isn't the text of another reply
unlike : (test : ℕ → Bool) (text word : List ℕ) → list_all test text ≡ true → list_all test word ≡ false
    → bytes_eq text word ≡ false
unlike test text word in_it out = by (bytes_eq text word) refl
  where
    by : (t : Bool) → bytes_eq text word ≡ t → bytes_eq text word ≡ false
    by true e = absurd (differ_by test text word in_it out ((bytes_eq-Decides text word).0 e))
    by false e = e

by_words : (text : List ℕ) → bytes_eq text (codes "ok") ≡ false → bytes_eq text (codes "dead") ≡ false
    → bytes_eq text (codes "absent") ≡ false → bytes_eq text (codes "overflow") ≡ false
    → bytes_eq text (codes "busy") ≡ false → word_by text ≡ None
by_words text a b c d e =
    ap (λ t. cond t (Some replies.Done) (cond (bytes_eq text (codes "dead")) (Some replies.Dead) (cond (bytes_eq text
    (codes "absent")) (Some replies.Absent) (cond (bytes_eq text (codes "overflow")) (Some replies.Overflow) (cond
    (bytes_eq text (codes "busy")) (Some replies.Busy) None))))) a
    ∙ ap (λ t. cond t (Some replies.Dead) (cond (bytes_eq text (codes "absent")) (Some replies.Absent) (cond
    (bytes_eq text (codes "overflow")) (Some replies.Overflow) (cond (bytes_eq text (codes "busy"))
    (Some replies.Busy) None)))) b
    ∙ ap (λ t. cond t (Some replies.Absent) (cond (bytes_eq text (codes "overflow")) (Some replies.Overflow) (cond
    (bytes_eq text (codes "busy")) (Some replies.Busy) None))) c
    ∙ ap (λ t. cond t (Some replies.Overflow) (cond (bytes_eq text (codes "busy")) (Some replies.Busy) None)) d
    ∙ ap (λ t. cond t (Some replies.Busy) None) e

no_word_of : (test : ℕ → Bool) (text : List ℕ) → list_all test text ≡ true → list_all test (codes "ok") ≡ false
    → list_all test (codes "dead") ≡ false → list_all test (codes "absent") ≡ false
    → list_all test (codes "overflow") ≡ false → list_all test (codes "busy") ≡ false → word_by text ≡ None
no_word_of test text all a b c d e = by_words text (unlike test text _ all a) (unlike test text _ all b)
    (unlike test text _ all c) (unlike test text _ all d) (unlike test text _ all e)

abbrev is_index : ℕ → Bool
is_index b = is_digit_byte b || nat_eq b 44

indices_inside : (xs : List ℕ) → Each IsHalf xs → list_all is_index (joined (44 ∷ []) number_text xs) ≡ true
indices_inside xs h = joined_inside IsHalf is_digit_byte 44 number_text (half_items 44 refl) is_index refl
    (λ b k. ap (λ t. t || nat_eq b 44) k) xs h

indices_word : (xs : List ℕ) → Each IsHalf xs → word_by (indices_text xs) ≡ None
indices_word [] h = refl
indices_word (x ∷ xs) h = no_word_of is_index (joined (44 ∷ []) number_text (x ∷ xs)) (indices_inside (x ∷ xs) h) refl
    refl refl refl refl

-- the first byte is that of no word
letter : (x c : ℕ) (xs ys : List ℕ) → (x ≡ c → ⊥) → bytes_eq (x ∷ xs) (c ∷ ys) ≡ false
letter x c xs ys apart = by (bytes_eq (x ∷ xs) (c ∷ ys)) refl
  where
    by : (t : Bool) → bytes_eq (x ∷ xs) (c ∷ ys) ≡ t → bytes_eq (x ∷ xs) (c ∷ ys) ≡ false
    by true e = absurd (apart (ap (λ z. get_or z 0 0) ((bytes_eq-Decides (x ∷ xs) (c ∷ ys)).0 e)))
    by false e = e

by_letter : (x : ℕ) (xs : List ℕ) → (x ≡ 111 → ⊥) → (x ≡ 100 → ⊥) → (x ≡ 97 → ⊥) → (x ≡ 98 → ⊥)
    → word_by (x ∷ xs) ≡ None
by_letter x xs o d a b = by_words (x ∷ xs) (letter x 111 xs _ o) (letter x 100 xs _ d) (letter x 97 xs _ a)
    (letter x 111 xs _ o) (letter x 98 xs _ b)

-- a number with a sign begins it, and then more
begun : (z : ℤ) (more : List ℕ) → IsSignedHalf z → word_by (decimal_text z ++ more) ≡ None
begun z more h = by (decimal_text z) (signed_dec z (half_signed z h)) (signed_some z (half_signed z h))
  where
    no : (x c : ℕ) → is_dec x ≡ true → is_dec c ≡ false → x ≡ c → ⊥
    no x c is out same = true≢false (sym is ∙ ap is_dec same ∙ out)

    by : (ds : List ℕ) → list_all is_dec ds ≡ true → 0 < length ds → word_by (ds ++ more) ≡ None
    by [] all some = absurd (omega arith)
    by (x ∷ xs) all some =
        let is = and_first (is_dec x) _ all in
        by_letter x (xs ++ more) (no x 111 is refl) (no x 100 is refl) (no x 97 is refl) (no x 98 is refl)

no_word : (k : ReplyKind) (r : Reply) → IsOfKind k r → ReplyHasText r → word_by (reply_text r) ≡ None
no_word kinds.Values (replies.Values vs) k h = no_word_of is_vals (values_text vs) (values_inside vs h) refl refl refl
    refl refl
no_word kinds.Old (replies.Old value) k h = no_word_of is_val (value_text value) (value_inside value h) refl refl refl
    refl refl
no_word kinds.Number (replies.Number status) k h = no_word_of is_dec (decimal_text status) (signed_dec status
    (half_signed status h)) refl refl refl refl refl
no_word kinds.Count (replies.Count count) k h = no_word_of is_digit_byte (decimal count) (digits_of_number count
    (omega arith)) refl refl refl refl refl
no_word kinds.Round (replies.Round round) k h = by_letter 114 (codes "ound " ++ number_text round) (λ e. omega arith)
    (λ e. omega arith) (λ e. omega arith)
    (λ e. omega arith)
no_word kinds.Round (replies.Clash image line) k h = by_letter 99
    (codes "lash " ++ image_text image ++ (32 ∷ number_text line))
    (λ e. omega arith) (λ e. omega arith)
    (λ e. omega arith) (λ e. omega arith)
no_word kinds.Indices (replies.Indices indices) k h = indices_word indices h
no_word kinds.Taken (replies.Taken status vs) k h = begun status (taken_values (int_eq status (pos 0)) vs) h.0
no_word kinds.Left (replies.Left status teams) k h = begun status (teams_text teams) h.0
no_word kinds.Taken r k h = absurd (true≢false (sym k))
no_word k r e h = absurd (true≢false (sym e))

-- ---- the reply that is read
pub by_word : (a : Ask) (r s : Reply) → HasForm a r → ReplyHasText r → word_by (reply_text r) ≡ Some s → s ≡ r
by_word a r s form has is = elim (told a r form) [
  | inl k ↦ (let e : None ≡ Some s = sym (no_word (kind_of a) r k has) ∙ is in absurd (cc))
  | inr w ↦ (let e : Some s ≡ Some r = sym is ∙ w in cc)
]

pub by_kind : (a : Ask) (r : Reply) → HasForm a r → word_by (reply_text r) ≡ None → IsOfKind (kind_of a) r
by_kind a r form none = elim (told a r form) [
  | inl k ↦ k
  | inr w ↦ (let e : None ≡ Some r = sym none ∙ w in absurd (cc))
]

-- ---- what a reply of a kind holds
pub of_values : (r : Reply) → IsOfKind kinds.Values r → (vs : List Value) × (r ≡ replies.Values vs)
of_values (replies.Values vs) k = (vs, refl)
of_values r k = absurd (true≢false (sym k))

pub of_old : (r : Reply) → IsOfKind kinds.Old r → (v : Value) × (r ≡ replies.Old v)
of_old (replies.Old v) k = (v, refl)
of_old r k = absurd (true≢false (sym k))

pub of_number : (r : Reply) → IsOfKind kinds.Number r → (z : ℤ) × (r ≡ replies.Number z)
of_number (replies.Number z) k = (z, refl)
of_number r k = absurd (true≢false (sym k))

pub of_count : (r : Reply) → IsOfKind kinds.Count r → (n : ℕ) × (r ≡ replies.Count n)
of_count (replies.Count n) k = (n, refl)
of_count r k = absurd (true≢false (sym k))

pub of_indices : (r : Reply) → IsOfKind kinds.Indices r → (is : List ℕ) × (r ≡ replies.Indices is)
of_indices (replies.Indices is) k = (is, refl)
of_indices r k = absurd (true≢false (sym k))

pub of_left : (r : Reply) → IsOfKind kinds.Left r → (z : ℤ) × (ts : List FormedTeam) × (r ≡ replies.Left z ts)
of_left (replies.Left z ts) k = (z, ts, refl)
of_left r k = absurd (true≢false (sym k))

pub of_taken : (r : Reply) → IsOfKind kinds.Taken r
    → (z : ℤ) × (vs : List Value) × ComeWith z vs × (r ≡ replies.Taken z vs)
of_taken (replies.Taken z vs) k = (z, vs, k, refl)
of_taken r k = absurd (true≢false (sym k))

pub of_none : (r : Reply) → IsOfKind kinds.Word r → ⊥
of_none r k = true≢false (sym k)

-- ---- a status, and values behind it
pub taken_cut : (z : ℤ) (vs : List Value) → IsSignedHalf z → ComeWith z vs → (text status listed : List ℕ)
    → IsCutAt 32 text status listed → text ≡ decimal_text z ++ taken_values (int_eq z (pos 0)) vs
    → (status ≡ decimal_text z) × (listed ≡ values_text vs)
taken_cut z vs h come text status listed cut is = by z come (int_eq z (pos 0)) refl is
  where
    clean : list_all (other 32) (decimal_text z) ≡ true
    clean = signed_clean 32 z refl (half_signed z h)

    empty : (x : ℤ) → ComeWith x vs → int_eq x (pos 0) ≡ false → vs ≡ []
    empty (pos zero) c e = absurd (true≢false e)
    empty (pos (suc k)) c e = c
    empty (negsuc k) c e = c

    by : (x : ℤ) → ComeWith x vs → (b : Bool) → int_eq x (pos 0) ≡ b → text ≡ decimal_text z ++ taken_values b vs
        → (status ≡ decimal_text z) × (listed ≡ values_text vs)
    by x c true q e = found 32 text status listed (decimal_text z) (values_text vs) cut clean e
    by x c false q e =
        let one : text ≡ decimal_text z = e ∙ append-nil (decimal_text z) in
        let at = whole 32 text status listed cut (ap (list_all (other 32)) one ∙ clean) in
        (at.0 ∙ one, at.1 ∙ sym (ap values_text (empty x c q)))

-- ---- teams
pub formed_is : (t : FormedTeam) → formed_text t ≡ number_text t.team.0 ++ (47 ∷ (decimal_text t.number
    ++ (58 ∷ joined (46 ∷ []) image_text t.members)))
formed_is t =
    let n = number_text t.team.0 in
    let d = decimal_text t.number in
    let m = joined (46 ∷ []) image_text t.members in
    append_assoc ((n ++ codes "/") ++ d) (codes ":") m ∙ append_assoc (n ++ codes "/") d (58 ∷ m)
    ∙ append_assoc n (codes "/") (d ++ (58 ∷ m))

formed_clean : (t : FormedTeam) → FormedHasText t → list_all (other 32) (formed_text t) ≡ true
formed_clean t h =
    let small = h.team in
    let n = number_text t.team.0 in
    let d = decimal_text t.number in
    let m = joined (46 ∷ []) image_text t.members in
    ap (list_all (other 32)) (formed_is t)
    ∙ all_append (other 32) n (47 ∷ (d ++ (58 ∷ m))) (digits_clean 32 t.team.0 refl (omega arith))
    (all_append (other 32) d (58 ∷ m) (signed_clean 32 t.number refl h.number)
    (joined_inside IsImageNumber is_digit_byte 46 image_text (image_items 46 refl) (other 32) refl
    (other_byte is_digit_byte 32 refl) t.members h.members))

formed_some : (t : FormedTeam) → FormedHasText t → 0 < length (formed_text t)
formed_some t h =
    let small = h.team in
    let some = some_of_number t.team.0 (omega arith) in
    omega (
      arith,
      ap length (formed_is t),
      length-append (number_text t.team.0)
          (47 ∷ (decimal_text t.number ++ (58 ∷ joined (46 ∷ []) image_text t.members))),
    )

pub formed_items : AreItems FormedHasText 32 formed_text
formed_items = record { some = formed_some; clean = formed_clean }

-- a status, and teams behind their word
pub left_cut : (z : ℤ) (ts : List FormedTeam) → IsSignedHalf z → (text status further word items : List ℕ)
    → IsCutAt 32 text status further → IsCutAt 32 further word items → text ≡ decimal_text z ++ teams_text ts
    → (status ≡ decimal_text z) × (items ≡ joined (32 ∷ []) formed_text ts)
left_cut z [] h text status further word items one two is =
    let all : text ≡ decimal_text z = is ∙ append-nil (decimal_text z) in
    let at = whole 32 text status further one (ap (list_all (other 32)) all
    ∙ signed_clean 32 z refl (half_signed z h)) in
    let b = whole 32 further word items two (ap (list_all (other 32)) at.1) in
    (at.0 ∙ all, b.1)
left_cut z (t ∷ ts) h text status further word items one two is =
    let rest = joined (32 ∷ []) formed_text (t ∷ ts) in
    let at = found 32 text status further (decimal_text z) (codes "teams" ++ (32 ∷ rest)) one
    (signed_clean 32 z refl (half_signed z h)) is in
    let b = found 32 further word items (codes "teams") rest two refl at.1 in
    (at.0, b.1)
