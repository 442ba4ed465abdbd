-- Replies: two that answer one ask and have one text are one.
use Rattle.std.proofs.Common.{◌≡◌, ℕ, zero, suc, ◌<◌, Bool, true, false, not, ◌||◌, nat_eq, ℤ, pos, negsuc, List, []}
use Rattle.std.proofs.Common.{◌∷◌, length, drop, refl, ap, sym, ◌∙◌, subst, arith, codes, true≢false}
use Rattle.std.specs.List.{list_all}
use Rattle.std.specs.Ordering.{int_eq}
use Rattle.caf_base.specs.declared.value.Value.{Value}
use Rattle.caf_events.specs.declared.ask.Ask.{Ask}
use Rattle.caf_events.specs.declared.ask.Ask.TheVariants as asks
use Rattle.caf_events.specs.declared.reply.Reply.{Reply}
use Rattle.caf_events.specs.declared.reply.Reply.TheVariants as replies
use Rattle.caf_text.specs.Numbers.{decimal_text}
use Rattle.trace_theory.specs.Entries.{Each}
use Rattle.trace_text.specs.TraceText.{joined, number_text, image_text, value_text, values_text, indices_text}
use Rattle.trace_text.specs.TraceText.{taken_values, teams_text, reply_text}
use Rattle.trace_forms.specs.Names.{is_digit_byte}
use Rattle.trace_forms.specs.Ranges.{IsHalf, IsValueInRange, ReplyHasText}
use Rattle.trace_forms.specs.Replies.{ComeWith, HasForm}
use Rattle.trace_forms.proofs.Cuts.{stops, span_same, differ_by, joined_same, joined_inside}
use Rattle.trace_forms.proofs.Decimals.{is_dec, digits_of_number, some_of_number, same_number, signed_dec}
use Rattle.trace_forms.proofs.Decimals.{same_signed, half_signed}
use Rattle.trace_forms.proofs.Pieces.{is_val, value_inside, value_same, is_vals, values_inside, values_same}
use Rattle.trace_forms.proofs.Pieces.{half_items, image_same}
use Rattle.trace_forms.proofs.Rounds.{teams_stop, teams_same}

-- the forms of reply that an ask can have
pub data Family : Type 0 where
  for_values : Family
  for_write : Family
  for_done : Family
  for_old : Family
  for_lock : Family
  for_try : Family
  for_number : Family
  for_count : Family
  for_round : Family
  for_left : Family
  for_taken : Family
  for_indices : Family

pub family_of : Ask → Family
family_of (asks.Read owner span) = for_values
family_of (asks.Write owner span vs) = for_write
family_of (asks.Create owner coarray cells) = for_done
family_of (asks.Delete owner coarray) = for_done
family_of (asks.Atomic owner op span x y) = for_old
family_of (asks.Lock owner span) = for_lock
family_of (asks.TryLock owner span) = for_try
family_of (asks.Unlock owner span) = for_lock
family_of (asks.Post owner span) = for_lock
family_of (asks.Wait owner span threshold) = for_number
family_of (asks.Query owner span) = for_count
family_of (asks.Mark owner) = for_done
family_of (asks.Free owner span) = for_write
family_of (asks.Arrive team arriving) = for_round
family_of (asks.Leave team round) = for_left
family_of (asks.Gather team op root kind vs) = for_round
family_of (asks.Take team round) = for_taken
family_of (asks.Pair images) = for_done
family_of asks.Unpair = for_number
family_of (asks.Enter construct) = for_number
family_of (asks.Exit construct) = for_done
family_of asks.Gone = for_done
family_of (asks.Stop code) = for_done
family_of (asks.Failed team) = for_indices
family_of (asks.Stopped team) = for_indices
family_of (asks.Status team index) = for_number
family_of (asks.Print text) = for_done
family_of asks.Memory = for_done
family_of asks.Fail = for_done
family_of (asks.ErrorStop code) = for_done
family_of (asks.Fault kind) = for_done
family_of (asks.LimitStatements number) = for_done
family_of (asks.LimitWords number) = for_done
family_of (asks.LimitStamp number) = for_done

abbrev pub IsOfFamily : Family → Reply → Type 0
IsOfFamily for_values (replies.Values vs) = Unit {0}
IsOfFamily for_values replies.Dead = Unit {0}
IsOfFamily for_values replies.Absent = Unit {0}
IsOfFamily for_values reply = ⊥
IsOfFamily for_write replies.Done = Unit {0}
IsOfFamily for_write replies.Dead = Unit {0}
IsOfFamily for_write replies.Absent = Unit {0}
IsOfFamily for_write reply = ⊥
IsOfFamily for_done replies.Done = Unit {0}
IsOfFamily for_done reply = ⊥
IsOfFamily for_old (replies.Old value) = Unit {0}
IsOfFamily for_old replies.Dead = Unit {0}
IsOfFamily for_old replies.Absent = Unit {0}
IsOfFamily for_old replies.Overflow = Unit {0}
IsOfFamily for_old reply = ⊥
IsOfFamily for_lock (replies.Number status) = Unit {0}
IsOfFamily for_lock replies.Absent = Unit {0}
IsOfFamily for_lock reply = ⊥
IsOfFamily for_try (replies.Number status) = Unit {0}
IsOfFamily for_try replies.Absent = Unit {0}
IsOfFamily for_try replies.Busy = Unit {0}
IsOfFamily for_try reply = ⊥
IsOfFamily for_number (replies.Number status) = Unit {0}
IsOfFamily for_number reply = ⊥
IsOfFamily for_count (replies.Count count) = Unit {0}
IsOfFamily for_count reply = ⊥
IsOfFamily for_round (replies.Round round) = Unit {0}
IsOfFamily for_round (replies.Clash image line) = Unit {0}
IsOfFamily for_round reply = ⊥
IsOfFamily for_left (replies.Left status teams) = Unit {0}
IsOfFamily for_left reply = ⊥
IsOfFamily for_taken (replies.Taken status vs) = ComeWith status vs
IsOfFamily for_taken reply = ⊥
IsOfFamily for_indices (replies.Indices indices) = Unit {0}
IsOfFamily for_indices reply = ⊥

pub family_of_form : (a : Ask) (r : Reply) → HasForm a r → IsOfFamily (family_of a) r
unfolding family_of
family_of_form (asks.Read owner span) replies.Done h = h.answers
family_of_form (asks.Read owner span) r h = h.answers
family_of_form (asks.Write owner span vs) replies.Done h = h.answers
family_of_form (asks.Write owner span vs) r h = h.answers
family_of_form (asks.Create owner coarray cells) replies.Done h = h.answers
family_of_form (asks.Create owner coarray cells) r h = h.answers
family_of_form (asks.Delete owner coarray) replies.Done h = h.answers
family_of_form (asks.Delete owner coarray) r h = h.answers
family_of_form (asks.Atomic owner op span x y) replies.Done h = h.answers
family_of_form (asks.Atomic owner op span x y) r h = h.answers
family_of_form (asks.Lock owner span) replies.Done h = h.answers
family_of_form (asks.Lock owner span) r h = h.answers
family_of_form (asks.TryLock owner span) replies.Done h = h.answers
family_of_form (asks.TryLock owner span) r h = h.answers
family_of_form (asks.Unlock owner span) replies.Done h = h.answers
family_of_form (asks.Unlock owner span) r h = h.answers
family_of_form (asks.Post owner span) replies.Done h = h.answers
family_of_form (asks.Post owner span) r h = h.answers
family_of_form (asks.Wait owner span threshold) replies.Done h = h.answers
family_of_form (asks.Wait owner span threshold) r h = h.answers
family_of_form (asks.Query owner span) replies.Done h = h.answers
family_of_form (asks.Query owner span) r h = h.answers
family_of_form (asks.Mark owner) replies.Done h = h.answers
family_of_form (asks.Mark owner) r h = h.answers
family_of_form (asks.Free owner span) replies.Done h = h.answers
family_of_form (asks.Free owner span) r h = h.answers
family_of_form (asks.Arrive team arriving) replies.Done h = h.answers
family_of_form (asks.Arrive team arriving) r h = h.answers
family_of_form (asks.Leave team round) replies.Done h = h.answers
family_of_form (asks.Leave team round) r h = h.answers
family_of_form (asks.Gather team op root kind vs) replies.Done h = h.answers
family_of_form (asks.Gather team op root kind vs) r h = h.answers
family_of_form (asks.Take team round) replies.Done h = h.answers
family_of_form (asks.Take team round) (replies.Taken status vs) h = h.status.1
family_of_form (asks.Take team round) r h = h.answers
family_of_form (asks.Pair images) replies.Done h = h.answers
family_of_form (asks.Pair images) r h = h.answers
family_of_form asks.Unpair replies.Done h = h.answers
family_of_form asks.Unpair r h = h.answers
family_of_form (asks.Enter construct) replies.Done h = h.answers
family_of_form (asks.Enter construct) r h = h.answers
family_of_form (asks.Exit construct) replies.Done h = h.answers
family_of_form (asks.Exit construct) r h = h.answers
family_of_form asks.Gone replies.Done h = h.answers
family_of_form asks.Gone r h = h.answers
family_of_form (asks.Stop code) replies.Done h = h.answers
family_of_form (asks.Stop code) r h = h.answers
family_of_form (asks.Failed team) replies.Done h = h.answers
family_of_form (asks.Failed team) r h = h.answers
family_of_form (asks.Stopped team) replies.Done h = h.answers
family_of_form (asks.Stopped team) r h = h.answers
family_of_form (asks.Status team index) replies.Done h = h.answers
family_of_form (asks.Status team index) r h = h.answers
family_of_form (asks.Print text) replies.Done h = h.answers
family_of_form (asks.Print text) r h = h.answers
family_of_form asks.Memory replies.Done h = h.answers
family_of_form asks.Memory r h = h.answers
family_of_form asks.Fail replies.Done h = h.answers
family_of_form asks.Fail r h = h.answers
family_of_form (asks.ErrorStop code) replies.Done h = h.answers
family_of_form (asks.ErrorStop code) r h = h.answers
family_of_form (asks.Fault kind) replies.Done h = h.answers
family_of_form (asks.Fault kind) r h = h.answers
family_of_form (asks.LimitStatements number) replies.Done h = h.answers
family_of_form (asks.LimitStatements number) r h = h.answers
family_of_form (asks.LimitWords number) replies.Done h = h.answers
family_of_form (asks.LimitWords number) r h = h.answers
family_of_form (asks.LimitStamp number) replies.Done h = h.answers
family_of_form (asks.LimitStamp number) r h = h.answers

-- two texts, of which the one has this byte alone and the other doesn't
told_apart : (c : ℕ) (xs ys : List ℕ) → list_all (λ b. not (nat_eq b c)) xs ≡ true
    → list_all (λ b. not (nat_eq b c)) ys ≡ false → xs ≡ ys → ⊥
told_apart c xs ys p q e = differ_by (λ b. not (nat_eq b c)) xs ys p q e

taken_stop : (b : Bool) (vs : List Value) → stops is_dec (taken_values b vs) ≡ true
taken_stop true vs = refl
taken_stop false vs = refl

both_none : (vs ws : List Value) → vs ≡ [] → ws ≡ [] → vs ≡ ws
both_none vs ws p q = p ∙ sym q

taken_same : (z : ℤ) (vs ws : List Value) → ComeWith z vs → ComeWith z ws → Each IsValueInRange vs
    → Each IsValueInRange ws
    → taken_values (int_eq z (pos 0)) vs ≡ taken_values (int_eq z (pos 0)) ws → vs ≡ ws
taken_same (pos zero) vs ws m n p q e = values_same vs ws p q (ap (drop 1) e)
taken_same (pos (suc k)) vs ws m n p q e = both_none vs ws m n
taken_same (negsuc k) vs ws m n p q e = both_none vs ws m n

is_index : ℕ → Bool
is_index b = is_digit_byte b || nat_eq b 44

indices_inside : (xs : List ℕ) → Each IsHalf xs → list_all is_index (joined (44 ∷ []) number_text xs) ≡ true
unfolding is_index
indices_inside xs h = joined_inside IsHalf is_digit_byte 44 number_text (half_items 44 refl) is_index refl
    (λ b k. ap (λ t. t || nat_eq b 44) k) xs h

half_some : (n : ℕ) → IsHalf n → 0 < length (number_text n)
half_some n h = some_of_number n (omega arith)

indices_same : (xs ys : List ℕ) → Each IsHalf xs → Each IsHalf ys → indices_text xs ≡ indices_text ys → xs ≡ ys
unfolding is_index
indices_same [] [] p q e = refl
indices_same [] (y ∷ ys) p q e =
    absurd (differ_by is_index (joined (44 ∷ []) number_text (y ∷ ys)) (codes "-") (indices_inside (y ∷ ys) q) refl
    (sym e))
indices_same (x ∷ xs) [] p q e =
    absurd (differ_by is_index (joined (44 ∷ []) number_text (x ∷ xs)) (codes "-") (indices_inside (x ∷ xs) p) refl e)
indices_same (x ∷ xs) (y ∷ ys) p q e = joined_same IsHalf is_digit_byte 44 number_text (half_items 44 refl) half_some
    (x ∷ xs) (y ∷ ys) p q e

-- whether a text begins with this byte
starts : ℕ → List ℕ → Bool
starts c [] = false
starts c (b ∷ bs) = nat_eq b c

values_reply : (r s : Reply) → IsOfFamily for_values r → IsOfFamily for_values s → ReplyHasText r → ReplyHasText s
    → reply_text r ≡ reply_text s → r ≡ s
values_reply (replies.Values vs) (replies.Values vs') m n p q e = ap replies.Values (values_same vs vs' p q e)
values_reply (replies.Values vs) replies.Dead m n p q e =
    absurd (differ_by is_vals (values_text vs) _ (values_inside vs p) refl e)
values_reply (replies.Values vs) replies.Absent m n p q e =
    absurd (differ_by is_vals (values_text vs) _ (values_inside vs p) refl e)
values_reply (replies.Values vs) s m n p q e = absurd n
values_reply replies.Dead (replies.Values vs') m n p q e =
    absurd (differ_by is_vals (values_text vs') _ (values_inside vs' q) refl (sym e))
values_reply replies.Dead replies.Dead m n p q e = refl
values_reply replies.Dead replies.Absent m n p q e = absurd (told_apart 100 _ _ refl refl (sym e))
values_reply replies.Dead s m n p q e = absurd n
values_reply replies.Absent (replies.Values vs') m n p q e =
    absurd (differ_by is_vals (values_text vs') _ (values_inside vs' q) refl (sym e))
values_reply replies.Absent replies.Dead m n p q e = absurd (told_apart 98 _ _ refl refl (sym e))
values_reply replies.Absent replies.Absent m n p q e = refl
values_reply replies.Absent s m n p q e = absurd n
values_reply r s m n p q e = absurd m

written_reply : (r s : Reply) → IsOfFamily for_write r → IsOfFamily for_write s → ReplyHasText r → ReplyHasText s
    → reply_text r ≡ reply_text s → r ≡ s
written_reply replies.Done replies.Done m n p q e = refl
written_reply replies.Done replies.Dead m n p q e = absurd (told_apart 111 _ _ refl refl (sym e))
written_reply replies.Done replies.Absent m n p q e = absurd (told_apart 111 _ _ refl refl (sym e))
written_reply replies.Done s m n p q e = absurd n
written_reply replies.Dead replies.Done m n p q e = absurd (told_apart 100 _ _ refl refl (sym e))
written_reply replies.Dead replies.Dead m n p q e = refl
written_reply replies.Dead replies.Absent m n p q e = absurd (told_apart 100 _ _ refl refl (sym e))
written_reply replies.Dead s m n p q e = absurd n
written_reply replies.Absent replies.Done m n p q e = absurd (told_apart 97 _ _ refl refl (sym e))
written_reply replies.Absent replies.Dead m n p q e = absurd (told_apart 98 _ _ refl refl (sym e))
written_reply replies.Absent replies.Absent m n p q e = refl
written_reply replies.Absent s m n p q e = absurd n
written_reply r s m n p q e = absurd m

done_reply : (r s : Reply) → IsOfFamily for_done r → IsOfFamily for_done s → ReplyHasText r → ReplyHasText s
    → reply_text r ≡ reply_text s → r ≡ s
done_reply replies.Done replies.Done m n p q e = refl
done_reply replies.Done s m n p q e = absurd n
done_reply r s m n p q e = absurd m

old_reply : (r s : Reply) → IsOfFamily for_old r → IsOfFamily for_old s → ReplyHasText r → ReplyHasText s
    → reply_text r ≡ reply_text s → r ≡ s
old_reply (replies.Old value) (replies.Old value') m n p q e = ap replies.Old (value_same value value' p q e)
old_reply (replies.Old value) replies.Dead m n p q e =
    absurd (differ_by is_val (value_text value) _ (value_inside value p) refl e)
old_reply (replies.Old value) replies.Absent m n p q e =
    absurd (differ_by is_val (value_text value) _ (value_inside value p) refl e)
old_reply (replies.Old value) replies.Overflow m n p q e =
    absurd (differ_by is_val (value_text value) _ (value_inside value p) refl e)
old_reply (replies.Old value) s m n p q e = absurd n
old_reply replies.Dead (replies.Old value') m n p q e =
    absurd (differ_by is_val (value_text value') _ (value_inside value' q) refl (sym e))
old_reply replies.Dead replies.Dead m n p q e = refl
old_reply replies.Dead replies.Absent m n p q e = absurd (told_apart 100 _ _ refl refl (sym e))
old_reply replies.Dead replies.Overflow m n p q e = absurd (told_apart 100 _ _ refl refl (sym e))
old_reply replies.Dead s m n p q e = absurd n
old_reply replies.Absent (replies.Old value') m n p q e =
    absurd (differ_by is_val (value_text value') _ (value_inside value' q) refl (sym e))
old_reply replies.Absent replies.Dead m n p q e = absurd (told_apart 98 _ _ refl refl (sym e))
old_reply replies.Absent replies.Absent m n p q e = refl
old_reply replies.Absent replies.Overflow m n p q e = absurd (told_apart 97 _ _ refl refl (sym e))
old_reply replies.Absent s m n p q e = absurd n
old_reply replies.Overflow (replies.Old value') m n p q e =
    absurd (differ_by is_val (value_text value') _ (value_inside value' q) refl (sym e))
old_reply replies.Overflow replies.Dead m n p q e = absurd (told_apart 111 _ _ refl refl (sym e))
old_reply replies.Overflow replies.Absent m n p q e = absurd (told_apart 111 _ _ refl refl (sym e))
old_reply replies.Overflow replies.Overflow m n p q e = refl
old_reply replies.Overflow s m n p q e = absurd n
old_reply r s m n p q e = absurd m

lock_reply : (r s : Reply) → IsOfFamily for_lock r → IsOfFamily for_lock s → ReplyHasText r → ReplyHasText s
    → reply_text r ≡ reply_text s → r ≡ s
lock_reply (replies.Number status) (replies.Number status') m n p q e =
    ap replies.Number (same_signed status status' (half_signed status p) (half_signed status' q) e)
lock_reply (replies.Number status) replies.Absent m n p q e =
    absurd (differ_by is_dec (decimal_text status) _ (signed_dec status (half_signed status p)) refl e)
lock_reply (replies.Number status) s m n p q e = absurd n
lock_reply replies.Absent (replies.Number status') m n p q e =
    absurd (differ_by is_dec (decimal_text status') _ (signed_dec status' (half_signed status' q)) refl (sym e))
lock_reply replies.Absent replies.Absent m n p q e = refl
lock_reply replies.Absent s m n p q e = absurd n
lock_reply r s m n p q e = absurd m

try_reply : (r s : Reply) → IsOfFamily for_try r → IsOfFamily for_try s → ReplyHasText r → ReplyHasText s
    → reply_text r ≡ reply_text s → r ≡ s
try_reply (replies.Number status) (replies.Number status') m n p q e =
    ap replies.Number (same_signed status status' (half_signed status p) (half_signed status' q) e)
try_reply (replies.Number status) replies.Absent m n p q e =
    absurd (differ_by is_dec (decimal_text status) _ (signed_dec status (half_signed status p)) refl e)
try_reply (replies.Number status) replies.Busy m n p q e =
    absurd (differ_by is_dec (decimal_text status) _ (signed_dec status (half_signed status p)) refl e)
try_reply (replies.Number status) s m n p q e = absurd n
try_reply replies.Absent (replies.Number status') m n p q e =
    absurd (differ_by is_dec (decimal_text status') _ (signed_dec status' (half_signed status' q)) refl (sym e))
try_reply replies.Absent replies.Absent m n p q e = refl
try_reply replies.Absent replies.Busy m n p q e = absurd (told_apart 97 _ _ refl refl (sym e))
try_reply replies.Absent s m n p q e = absurd n
try_reply replies.Busy (replies.Number status') m n p q e =
    absurd (differ_by is_dec (decimal_text status') _ (signed_dec status' (half_signed status' q)) refl (sym e))
try_reply replies.Busy replies.Absent m n p q e = absurd (told_apart 117 _ _ refl refl (sym e))
try_reply replies.Busy replies.Busy m n p q e = refl
try_reply replies.Busy s m n p q e = absurd n
try_reply r s m n p q e = absurd m

number_reply : (r s : Reply) → IsOfFamily for_number r → IsOfFamily for_number s → ReplyHasText r → ReplyHasText s
    → reply_text r ≡ reply_text s → r ≡ s
number_reply (replies.Number status) (replies.Number status') m n p q e =
    ap replies.Number (same_signed status status' (half_signed status p) (half_signed status' q) e)
number_reply (replies.Number status) s m n p q e = absurd n
number_reply r s m n p q e = absurd m

count_reply : (r s : Reply) → IsOfFamily for_count r → IsOfFamily for_count s → ReplyHasText r → ReplyHasText s
    → reply_text r ≡ reply_text s → r ≡ s
count_reply (replies.Count count) (replies.Count count') m n p q e =
    ap replies.Count (same_number count count' (omega arith) (omega arith) e)
count_reply (replies.Count count) s m n p q e = absurd n
count_reply r s m n p q e = absurd m

round_reply : (r s : Reply) → IsOfFamily for_round r → IsOfFamily for_round s → ReplyHasText r → ReplyHasText s
    → reply_text r ≡ reply_text s → r ≡ s
unfolding starts
round_reply (replies.Round round) (replies.Round round') m n p q e =
    ap replies.Round (same_number round round' (omega arith) (omega arith) (ap (drop 6) e))
round_reply (replies.Round round) (replies.Clash image' line') m n p q e =
    absurd (true≢false (ap (λ l. starts 114 l) e))
round_reply (replies.Round round) s m n p q e = absurd n
round_reply (replies.Clash image line) (replies.Round round') m n p q e =
    absurd (true≢false (ap (λ l. starts 99 l) e))
round_reply (replies.Clash image line) (replies.Clash image' line') m n p q e =
    let k = span_same is_digit_byte (image_text image) (image_text image') (32 ∷ number_text line)
    (32 ∷ number_text line') (digits_of_number image.0 (omega arith)) (digits_of_number image'.0 (omega arith))
    refl refl (ap (drop 6) e) in
    let a = image_same image image' p.0 q.0 k.0 in
    let b : line ≡ line' = same_number line line' (omega arith) (omega arith) (ap (drop 1) k.1) in
    (λ i. replies.Clash (a i) (b i))
round_reply (replies.Clash image line) s m n p q e = absurd n
round_reply r s m n p q e = absurd m

left_reply : (r s : Reply) → IsOfFamily for_left r → IsOfFamily for_left s → ReplyHasText r → ReplyHasText s
    → reply_text r ≡ reply_text s → r ≡ s
left_reply (replies.Left status teams) (replies.Left status' teams') m n p q e =
    let k = span_same is_dec (decimal_text status) (decimal_text status') (teams_text teams) (teams_text teams')
    (signed_dec status (half_signed status p.0)) (signed_dec status' (half_signed status' q.0)) (teams_stop teams)
    (teams_stop teams') e in
    let a = same_signed status status' (half_signed status p.0) (half_signed status' q.0) k.0 in
    let b = teams_same teams teams' p.1 q.1 k.1 in
    (λ i. replies.Left (a i) (b i))
left_reply (replies.Left status teams) s m n p q e = absurd n
left_reply r s m n p q e = absurd m

taken_reply : (r s : Reply) → IsOfFamily for_taken r → IsOfFamily for_taken s → ReplyHasText r → ReplyHasText s
    → reply_text r ≡ reply_text s → r ≡ s
taken_reply (replies.Taken status vs) (replies.Taken status' vs') m n p q e =
    let k = span_same is_dec (decimal_text status) (decimal_text status') (taken_values (int_eq status (pos 0)) vs)
    (taken_values (int_eq status' (pos 0)) vs') (signed_dec status (half_signed status p.0))
    (signed_dec status' (half_signed status' q.0)) (taken_stop (int_eq status (pos 0)) vs)
    (taken_stop (int_eq status' (pos 0)) vs') e in
    let a = same_signed status status' (half_signed status p.0) (half_signed status' q.0) k.0 in
    let t = subst (λ z. ComeWith z vs') (sym a) n in
    let b = taken_same status vs vs' m t p.1 q.1 (k.1 ∙ ap (λ z. taken_values (int_eq z (pos 0)) vs') (sym a)) in
    (λ i. replies.Taken (a i) (b i))
taken_reply (replies.Taken status vs) s m n p q e = absurd n
taken_reply r s m n p q e = absurd m

indices_reply : (r s : Reply) → IsOfFamily for_indices r → IsOfFamily for_indices s → ReplyHasText r → ReplyHasText s
    → reply_text r ≡ reply_text s → r ≡ s
indices_reply (replies.Indices indices) (replies.Indices indices') m n p q e =
    ap replies.Indices (indices_same indices indices' p q e)
indices_reply (replies.Indices indices) s m n p q e = absurd n
indices_reply r s m n p q e = absurd m

by_family : (k : Family) (r s : Reply) → IsOfFamily k r → IsOfFamily k s → ReplyHasText r → ReplyHasText s
    → reply_text r ≡ reply_text s → r ≡ s
by_family for_values r s m n p q e = values_reply r s m n p q e
by_family for_write r s m n p q e = written_reply r s m n p q e
by_family for_done r s m n p q e = done_reply r s m n p q e
by_family for_old r s m n p q e = old_reply r s m n p q e
by_family for_lock r s m n p q e = lock_reply r s m n p q e
by_family for_try r s m n p q e = try_reply r s m n p q e
by_family for_number r s m n p q e = number_reply r s m n p q e
by_family for_count r s m n p q e = count_reply r s m n p q e
by_family for_round r s m n p q e = round_reply r s m n p q e
by_family for_left r s m n p q e = left_reply r s m n p q e
by_family for_taken r s m n p q e = taken_reply r s m n p q e
by_family for_indices r s m n p q e = indices_reply r s m n p q e

pub reply_same : (a : Ask) (r s : Reply) → HasForm a r → HasForm a s → ReplyHasText r → ReplyHasText s
    → reply_text r ≡ reply_text s → r ≡ s
reply_same a r s m n p q e = by_family (family_of a) r s (family_of_form a r m) (family_of_form a s n) p q e
