-- Lines: an entry is told by its line, and a trace by its lines.
use Rattle.std.proofs.Common.{◌≡◌, ℕ, Bool, true, false, not, cond, nat_eq, ℤ, negsuc, List, [], ◌∷◌, ◌++◌, drop}
use Rattle.std.proofs.Common.{refl, ap, sym, ◌∙◌, subst, arith, codes, append_assoc}
use Rattle.std.specs.List.{list_all}
use Rattle.std.specs.Prelude.{Option, None, Some}
use Rattle.std.proofs.lemmas.List.{append_cancel_right}
use Rattle.caf_base.specs.declared.place.Place.{Place}
use Rattle.caf_base.specs.declared.place.Place.TheVariants as places
use Rattle.caf_events.specs.declared.ask.Ask.{Ask}
use Rattle.caf_events.specs.declared.ask.Ask.TheVariants as asks
use Rattle.caf_events.specs.declared.reply.Reply.{Reply}
use Rattle.caf_events.specs.declared.reply.Reply.TheVariants as replies
use Rattle.caf_events.specs.declared.reply.FormedTeam.{FormedTeam}
use Rattle.caf_events.specs.declared.event.Entry.{Entry}
use Rattle.caf_events.specs.Asks.{place_of}
use Rattle.caf_events.specs.Answers.{Answers}
use Rattle.trace_theory.specs.Entries.{Each}
use Rattle.trace_text.specs.TraceText.{number_text, image_text, place_word, ask_text, reply_text, entry_line}
use Rattle.trace_forms.specs.Names.{AreNames}
use Rattle.trace_forms.specs.Replies.{HasForm}
use Rattle.trace_forms.specs.Ranges.{IsHalf, IsLong, IsImageNumber, AskHasText, FormedHasText, ReplyHasText, HasText}
use Rattle.trace_text.specs.Forms.{Form, number_among, number_in_reply, given_number, number_behind, asked_team}
use Rattle.trace_text.specs.Forms.{lines_behind}
use Rattle.trace_forms.specs.Shown.{HaveTexts}
use Rattle.std.specs.Option.{option_or}
use Rattle.trace_forms.proofs.Cuts.{differ_by}
use Rattle.trace_forms.proofs.Fields.{Field, is_field, cut, half_field, long_field, image_field}
use Rattle.trace_forms.proofs.Replies.{reply_same}
use Rattle.trace_forms.proofs.Asks.{IsGivenSigned, IsPrint, ask_same}

-- ---- places
PlaceFits : Place → Type 0
PlaceFits (places.Memory owner) = IsHalf owner.0
PlaceFits places.Board = Unit {0}
PlaceFits places.Own = Unit {0}

place_inside : (x : Place) → PlaceFits x → list_all is_field (place_word x) ≡ true
unfolding PlaceFits
place_inside (places.Memory owner) h = image_field.inside owner h
place_inside places.Board h = refl
place_inside places.Own h = refl

by_first : (c : ℕ) (xs ys : List ℕ) → list_all (λ b. not (nat_eq b c)) xs ≡ false
    → list_all (λ b. not (nat_eq b c)) ys ≡ true → xs ≡ ys → ⊥
by_first c xs ys p q e = differ_by (λ b. not (nat_eq b c)) ys xs q p (sym e)

place_same : (x y : Place) → PlaceFits x → PlaceFits y → place_word x ≡ place_word y → x ≡ y
unfolding PlaceFits
place_same (places.Memory a) (places.Memory b) p q e = ap places.Memory (image_field.same a b p q (ap (drop 1) e))
place_same (places.Memory a) places.Board p q e = absurd (by_first 109 _ _ refl refl e)
place_same (places.Memory a) places.Own p q e = absurd (by_first 109 _ _ refl refl e)
place_same places.Board (places.Memory b) p q e = absurd (by_first 109 _ _ refl refl (sym e))
place_same places.Own (places.Memory b) p q e = absurd (by_first 109 _ _ refl refl (sym e))
place_same places.Board places.Board p q e = refl
place_same places.Own places.Own p q e = refl
place_same places.Board places.Own p q e = absurd (by_first 98 _ _ refl refl e)
place_same places.Own places.Board p q e = absurd (by_first 98 _ _ refl refl (sym e))

place_field : Field PlaceFits place_word
place_field = record { inside = place_inside; same = place_same }

place_fits : (names : List (List ℕ)) (a : Ask) → AskHasText names a → PlaceFits (place_of a)
unfolding PlaceFits
place_fits names (asks.Read owner span) h = h.0
place_fits names (asks.Write owner span vs) h = h.0
place_fits names (asks.Create owner coarray cells) h = h.0
place_fits names (asks.Delete owner coarray) h = h.0
place_fits names (asks.Atomic owner op span x y) h = h.0
place_fits names (asks.Lock owner span) h = h.0
place_fits names (asks.TryLock owner span) h = h.0
place_fits names (asks.Unlock owner span) h = h.0
place_fits names (asks.Post owner span) h = h.0
place_fits names (asks.Wait owner span threshold) h = h.0
place_fits names (asks.Query owner span) h = h.0
place_fits names (asks.Mark owner) h = h
place_fits names (asks.Free owner span) h = h.0
place_fits names (asks.Arrive team arriving) h = tt
place_fits names (asks.Leave team round) h = tt
place_fits names (asks.Gather team op root kind vs) h = tt
place_fits names (asks.Take team round) h = tt
place_fits names (asks.Pair images) h = tt
place_fits names asks.Unpair h = tt
place_fits names (asks.Enter construct) h = tt
place_fits names (asks.Exit construct) h = tt
place_fits names asks.Gone h = tt
place_fits names (asks.Stop code) h = tt
place_fits names (asks.Failed team) h = tt
place_fits names (asks.Stopped team) h = tt
place_fits names (asks.Status team index) h = tt
place_fits names (asks.Print text) h = tt
place_fits names asks.Memory h = tt
place_fits names asks.Fail h = tt
place_fits names (asks.ErrorStop code) h = tt
place_fits names (asks.Fault kind) h = tt
place_fits names (asks.LimitStatements number) h = tt
place_fits names (asks.LimitWords number) h = tt
place_fits names (asks.LimitStamp number) h = tt

-- ---- numbers of teams that were given
among_signed : (t : ℕ) (ts : List FormedTeam) → Each FormedHasText ts → IsGivenSigned (number_among t ts)
among_signed t [] h = tt
among_signed t (x ∷ xs) h = by (among_signed t xs h.1) (nat_eq x.team.0 t)
  where
    by : IsGivenSigned (number_among t xs) → (b : Bool) → IsGivenSigned (cond b (Some x.number) (number_among t xs))
    by rest true = h.0.number
    by rest false = rest

reply_signed : (t : ℕ) (r : Reply) → ReplyHasText r → IsGivenSigned (number_in_reply t r)
reply_signed t (replies.Left status teams) h = among_signed t teams h.1
reply_signed t r h = tt

either_signed : (m n : Option ℤ) → IsGivenSigned m → IsGivenSigned n → IsGivenSigned (option_or m n)
either_signed None n p q = q
either_signed (Some m) n p q = p

given_signed : (names : List (List ℕ)) (t : ℕ) (es : List Entry) → Each (HasText names) es
    → IsGivenSigned (given_number t es)
given_signed names t [] h = tt
given_signed names t (e ∷ es) h = either_signed (number_in_reply t e.event.reply) (given_number t es)
    (reply_signed t e.event.reply h.0.reply) (given_signed names t es h.1)

pub after_signed : (names : List (List ℕ)) (before : List Entry) → Each (HasText names) before → (t : ℕ)
    → IsGivenSigned (number_behind before t)
after_signed names before h t = by (nat_eq t 1)
  where
    by : (b : Bool) → IsGivenSigned (cond b (Some (negsuc 0)) (given_number t before))
    by true = omega arith
    by false = given_signed names t before h

-- ---- lines
pub line_is : (st im ln pl a r : List ℕ) → st ++ (32 ∷ im) ++ (32 ∷ ln) ++ (32 ∷ pl) ++ (32 ∷ a) ++ codes " > " ++ r
    ++ codes "\n" ≡ st ++ (32 ∷ (im ++ (32 ∷ (ln ++ (32 ∷ (pl ++ (32 ∷ (a ++ (32 ∷ 62 ∷ 32 ∷ (r ++ (10 ∷ [])))))))))))
line_is st im ln pl a r =
    append_assoc ((((((st ++ (32 ∷ im)) ++ (32 ∷ ln)) ++ (32 ∷ pl)) ++ (32 ∷ a)) ++ (32 ∷ 62 ∷ 32 ∷ []))) r (10 ∷ [])
    ∙ append_assoc (((((st ++ (32 ∷ im)) ++ (32 ∷ ln)) ++ (32 ∷ pl)) ++ (32 ∷ a))) (32 ∷ 62 ∷ 32 ∷ [])
    (r ++ (10 ∷ []))
    ∙ append_assoc ((((st ++ (32 ∷ im)) ++ (32 ∷ ln)) ++ (32 ∷ pl))) (32 ∷ a) (32 ∷ 62 ∷ 32 ∷ (r ++ (10 ∷ [])))
    ∙ append_assoc (((st ++ (32 ∷ im)) ++ (32 ∷ ln))) (32 ∷ pl) (32 ∷ (a ++ (32 ∷ 62 ∷ 32 ∷ (r ++ (10 ∷ [])))))
    ∙ append_assoc ((st ++ (32 ∷ im))) (32 ∷ ln) (32 ∷ (pl ++ (32 ∷ (a ++ (32 ∷ 62 ∷ 32 ∷ (r ++ (10 ∷ [])))))))
    ∙ append_assoc st (32 ∷ im) (32 ∷ (ln ++ (32 ∷ (pl ++ (32 ∷ (a ++ (32 ∷ 62 ∷ 32 ∷ (r ++ (10 ∷ [])))))))))

print_done : (a : Ask) (r : Reply) → IsPrint a → Answers a r → r ≡ replies.Done
print_done (asks.Print text) replies.Done p h = refl
print_done (asks.Print text) r p h = absurd h
print_done a r p h = absurd p

kind_print : (a b : Ask) → IsPrint a → a ≡ b → IsPrint b
kind_print a b p e = subst IsPrint e p

module _ (form : Form) (names : List (List ℕ)) (are : AreNames names) (before : List Entry)
    (has : Each (HasText names) before) where
  -- the reply of a print is told
  ends : (a b : Ask) (r s : Reply) → Answers a r → Answers b s → IsPrint a → IsPrint b → reply_text r
      ++ (10 ∷ []) ≡ reply_text s ++ (10 ∷ [])
  ends a b r s p q m n = ap (λ z. reply_text z ++ (10 ∷ [])) (print_done a r m p ∙ sym (print_done b s n q))

  line_of : (e : Entry) → entry_line (asked_team form before) names e ≡ number_text e.event.stamp
      ++ (32 ∷ (image_text e.image
      ++ (32 ∷ (number_text e.event.line
      ++ (32 ∷ (place_word (place_of e.event.ask)
      ++ (32 ∷ (ask_text (asked_team form before) names e.event.ask
      ++ (32 ∷ 62 ∷ 32 ∷ (reply_text e.event.reply ++ (10 ∷ [])))))))))))
  line_of e = line_is (number_text e.event.stamp) (image_text e.image) (number_text e.event.line)
      (place_word (place_of e.event.ask)) (ask_text (asked_team form before) names e.event.ask)
      (reply_text e.event.reply)

  pub entry_same : (e f : Entry) → HasText names e → HasText names f
      → entry_line (asked_team form before) names e ≡ entry_line (asked_team form before) names f → e ≡ f
  entry_same e f p q h =
      let R = reply_text e.event.reply ++ (10 ∷ []) in
      let S = reply_text f.event.reply ++ (10 ∷ []) in
      let a = e.event.ask in
      let b = f.event.ask in
      let k = sym (line_of e) ∙ h ∙ line_of f in
      let s = cut IsLong number_text long_field e.event.stamp f.event.stamp p.stamp q.stamp _ _ k in
      let i = cut IsImageNumber image_text image_field e.image f.image p.image q.image _ _ s.1 in
      let l = cut IsHalf number_text half_field e.event.line f.event.line p.line q.line _ _ i.1 in
      let o = cut PlaceFits place_word place_field (place_of a) (place_of b) (place_fits names a p.ask)
      (place_fits names b q.ask) _ _ l.1 in
      let c = ask_same form names are before (after_signed names before has) R S a b p.ask q.ask o.0
      (λ m n. ends a b e.event.reply f.event.reply p.form.answers q.form.answers m n) o.1 in
      let t = append_cancel_right (reply_text e.event.reply) (reply_text f.event.reply) (10 ∷ []) c.1 in
      let r = reply_same a e.event.reply f.event.reply p.form (subst (λ z. HasForm z f.event.reply) (sym c.0) q.form)
      p.reply q.reply t in
      (λ j. record { image = i.0 j; event = record { ask = c.0 j; reply = r j; stamp = s.0 j; line = l.0 j } })

each_more : {A : Type 0} (P : A → Type 0) (xs : List A) (x : A) → Each P xs → P x → Each P (xs ++ x ∷ [])
each_more P [] x h p = (p, tt)
each_more P (y ∷ ys) x h p = (h.0, each_more P ys x h.1 p)

module _ (form : Form) (names : List (List ℕ)) (are : AreNames names) where
  pub lines_same : (before t u : List Entry) → Each (HasText names) before → HaveTexts form names before t
      → HaveTexts form names before u → lines_behind form names before t ≡ lines_behind form names before u → t ≡ u
  lines_same before [] [] has p q h = refl
  lines_same before [] (f ∷ fs) has p q h = absurd (cc)
  lines_same before (e ∷ es) [] has p q h = absurd (cc)
  lines_same before (e ∷ es) (f ∷ fs) has p q h =
      let first : entry_line (asked_team form before) names e ≡ entry_line (asked_team form before) names f = cc in
      let later : lines_behind form names (before ++ e ∷ []) es ≡ lines_behind form names (before ++ f ∷ []) fs =
      cc in
      let k = entry_same form names are before has e f p.0 q.0 first in
      let m = lines_same (before ++ e ∷ []) es fs (each_more (HasText names) before e has p.0) p.2
      (subst (λ z. HaveTexts form names (before ++ z ∷ []) fs) (sym k) q.2)
      (later ∙ ap (λ z. lines_behind form names (before ++ z ∷ []) fs) (sym k)) in
      (λ i. k i ∷ m i)
