-- Each kind of step keeps the rule of a gate.
use Rattle.std.proofs.Common.{◌≡◌, ◌≢◌, ◌==◌, ℕ, suc, ◌+◌, ◌-◌, ◌*◌, ◌%◌, ◌^◌, ◌<◌, Bool, true, false, List, [], ◌∷◌, ◌++◌, ◌⊎◌, inl, inr, length, get_or, set, refl, ap, sym, ◌∙◌, subst, arith, Option, Some, eq-eqb, ne_eqb, MatchBool}
use Rattle.std.proofs.lemmas.Bool.{cases_eq}
use Rattle.std.proofs.lemmas.List.{append-nil, length-append}
use mathlib.Core.Option as math
use lib.ListN.{get_elem?}
use prog.Atomic.{either}
use Rattle.atomic_table.specs.Table.{State, Me, step, keeps, takes, gives, Allows}
use Rattle.atomic_table.proofs.Lists.{at_set, set_here, set_again}
use Rattle.caf_events.specs.declared.event.Entry.{Entry}
use Rattle.trace_theory.specs.Entries.{of}
use Rattle.trace_theory.proofs.Filters.{of_last, of_other}
use Rattle.turn_gate.specs.Lists.{image_of}
use Rattle.turn_gate.specs.declared.view.View.{View}
use Rattle.turn_gate.specs.Gates.{At, StartsWith, NotIn, Sits, Desk, AtHome, IsOut, Keeps}
use Rattle.turn_gate.specs.Steps.{holding, rested, noted, Holds, Seizes, Records, Leaves}
use Rattle.turn_gate.proofs.Lists.{each_and, starts_more}
use Rattle.turn_gate.proofs.Seats.{same_at, is_there, moved}

pub true_or : (b : Bool) → (b ≡ true → ⊥) → b ≡ false
true_or true h = absurd (h refl)
true_or false h = refl

module _ {O : Type 0} (history : O → List Entry) (like : O → Type 0) (recorded : List Entry → Type 0) where
  abbrev K : State (Option O) View → Type 0
  K = Keeps history like recorded

  -- where the word is even the object is in the slot
  home_if : (s : State (Option O) View) (k : K s) → get_or s.words 0 0 % 2 ≡ 0 → AtHome history like k.log s
  home_if s k even = elim k.slot [
    | inl h ↦ h
    | inr out ↦ let odd : get_or s.words 0 0 ≡ suc (2 * length k.log) = ap (λ ws. get_or ws 0 0) out.word in absurd (omega arith)
  ]

  -- while a seat has the turn the slot is out with it
  out_if : (s : State (Option O) View) (k : K s) (id : ℕ) (v : View) → At s.views id v → v.turn ≡ true → IsOut k.log s
  out_if s k id v at on = elim k.slot [
    | inl h ↦ let none = h.none_out id v at in absurd (cc)
    | inr out ↦ out
  ]

  -- and no other seat has it
  off_else : (s : State (Option O) View) (k : K s) (id : ℕ) (v : View) → At s.views id v → v.turn ≡ true → (j : ℕ) (u : View) → j ≢ id → At s.views j u → u.turn ≡ false
  off_else s k id v at on j u ne p = let out = out_if s k id v at on in true_or u.turn (λ t. ne (out.alone j u p t ∙ sym (out.alone id v at on)))

  -- the one word as it is
  one_word : (s : State (Option O) View) → K s → set s.words 0 (get_or s.words 0 0) ≡ s.words
  one_word s k = elim k.slot [
    | inl h ↦ ap (λ ws. set ws 0 (get_or ws 0 0)) h.word ∙ sym h.word
    | inr out ↦ ap (λ ws. set ws 0 (get_or ws 0 0)) out.word ∙ sym out.word
  ]

  -- the word after the turn was seized
  word_up : (s : State (Option O) View) (n old : ℕ) → s.words ≡ n ∷ [] → get_or s.words 0 0 ≡ old → set s.words 0 (either (get_or s.words 0 0 == old) (old + 1) (get_or s.words 0 0)) ≡ suc n ∷ []
  word_up s n old words is =
      let same : n ≡ old = sym (ap (λ ws. get_or ws 0 0) words) ∙ is in
      let next : old + 1 ≡ suc n = omega arith in
      let up : either (n == old) (old + 1) n ≡ suc n = ap (λ b. either b (old + 1) n) (eq-eqb _ _ same) ∙ next in
      ap (λ ws. set ws 0 (either (get_or ws 0 0 == old) (old + 1) (get_or ws 0 0))) words ∙ ap (λ m. m ∷ []) up

  pub seizes : (known : O → Type 0) → ((o : O) → like o → recorded (history o) → known o) → (slots id : ℕ) (me : Me (Option O) View) (old : ℕ) → 0 < me.0.image → me.0.turn ≡ false → me.1 ≡ [] → old % 2 ≡ 0
      → Allows K slots id me 0 (λ n. either (n == old) (old + 1) n) (Seizes history known (step slots 0 old (old + 1) math.none) me)
  seizes known into slots id me old live off empty even s k sized at small =
      let v = me.0 in
      elim (cases_eq (get_or s.words 0 0) old) [
        | inl hit ↦
            let h = home_if s k (ap (λ n. n % 2) hit ∙ even) in
            let o = h.object in
            let w = holding v (history o) in
            let mine = k.sits id v at in
            let member = mine.member live in (
              w,
              takes 0 (Some o),
              ap (λ hs. get_elem? hs 0) h.home,
              moved history like recorded s k id v w at live refl
                  (set s.words 0 (either (get_or s.words 0 0 == old) (old + 1) (get_or s.words 0 0))) (set s.homes 0 math.none) k.log
                  k.desk
                  (record {
                    turn = λ t. h.history_is;
                    idle = λ z. absurd (omega arith);
                    front = ([], sym h.history_is ∙ sym (append-nil _));
                    member = λ p. record { own = member.own; listed = member.listed; free = member.free };
                  })
                  (λ j u ne p x. x)
                  (inr (record {
                    word = word_up s (2 * length k.log) old h.word hit;
                    home = ap (λ hs. set hs 0 math.none) h.home;
                    seat = id;
                    holder = w;
                    sits = set_here s.views id w (is_there s.views id v at);
                    turn = refl;
                    alone = λ j u p t. elim (at_set s.views id j w u p) [
                      | inl x ↦ x.0
                      | inr x ↦ let none = h.none_out j u x.1 in absurd (cc)
                    ];
                  }))
                  k.good,
              subst (λ b. MatchBool b (Holds history known me (w, (0, Some o) ∷ me.1)) ((w, (0, Some o) ∷ me.1) ≡ me)) (sym (eq-eqb _ _ hit)) (record {
                object = o;
                me_is = ap (λ c. (w, (0, Some o) ∷ c)) empty;
                longer = subst (λ l. StartsWith l v.seen) (sym h.history_is) mine.front;
                own = ap (of image_of v.image) h.history_is ∙ member.own;
                is_known = into o h.is_like (subst recorded (sym h.history_is) k.good);
              }),
            )
        | inr miss ↦
            let words : set s.words 0 (either (get_or s.words 0 0 == old) (old + 1) (get_or s.words 0 0)) ≡ s.words = ap (λ b. set s.words 0 (either b (old + 1) (get_or s.words 0 0))) (ne_eqb _ _ miss) ∙ one_word s k in (
              v,
              keeps,
              tt,
              subst (λ (z : List ℕ × List View). K record { words = z.0; homes = s.homes; views = z.1 }) (λ j. (sym words j, sym (set_again s.views id v at) j)) k,
              subst (λ b. MatchBool b (Holds history known me me) (me ≡ me)) (sym (ne_eqb _ _ miss)) refl,
            )
      ]

  -- the word after the turn was given up, with an entry and without
  word_on : (s : State (Option O) View) (n : ℕ) → s.words ≡ suc (2 * n) ∷ [] → n + 1 < 2 ^ 63 → set s.words 0 ((get_or s.words 0 0 + 1) % 2 ^ 64) ≡ 2 * (n + 1) ∷ []
  word_on s n words short =
      let up : (suc (2 * n) + 1) % 2 ^ 64 ≡ 2 * (n + 1) = omega arith in
      ap (λ ws. set ws 0 ((get_or ws 0 0 + 1) % 2 ^ 64)) words ∙ ap (λ m. m ∷ []) up

  word_back : (s : State (Option O) View) (n : ℕ) → s.words ≡ suc (2 * n) ∷ [] → get_or s.words 0 0 < 2 ^ 64 → set s.words 0 ((get_or s.words 0 0 + (2 ^ 64 - 1)) % 2 ^ 64) ≡ 2 * n ∷ []
  word_back s n words small =
      let is : get_or s.words 0 0 ≡ suc (2 * n) = ap (λ ws. get_or ws 0 0) words in
      let down : (suc (2 * n) + (2 ^ 64 - 1)) % 2 ^ 64 ≡ 2 * n = omega arith in
      ap (λ ws. set ws 0 ((get_or ws 0 0 + (2 ^ 64 - 1)) % 2 ^ 64)) words ∙ ap (λ m. m ∷ []) down

  -- the object in the slot again, with this history, and no seat with the turn
  home_again : (s : State (Option O) View) (k : K s) (id : ℕ) (v w : View) (at : At s.views id v) → v.turn ≡ true → w.turn ≡ false → (log : List Entry) (o : O) → like o → history o ≡ log
      → (words : List ℕ) → words ≡ 2 * length log ∷ [] → AtHome history like log record { words = words; homes = set s.homes 0 (math.some (Some o)); views = set s.views id w }
  home_again s k id v w at on off log o same whole words are = record {
    word = are;
    object = o;
    home = ap (λ hs. set hs 0 (math.some (Some o))) (out_if s k id v at on).home;
    is_like = same;
    history_is = whole;
    none_out = λ j u p. elim (at_set s.views id j w u p) [
      | inl x ↦ sym (ap (λ (z : View). z.turn) x.1) ∙ off
      | inr x ↦ off_else s k id v at on j u x.0 x.1
    ];
  }

  pub records : (slots id : ℕ) (v : View) (e : Entry) (o : O) → 0 < v.image → v.turn ≡ true → image_of e ≡ v.image → length v.seen + 1 < 2 ^ 63 → recorded (v.seen ++ e ∷ [])
      → history o ≡ v.seen ++ e ∷ [] → like o → Allows K slots id (v, (0, Some o) ∷ []) 0 (λ n. (n + 1) % 2 ^ 64) (Records e (step slots 0 1 0 math.none) (v, (0, Some o) ∷ []))
  records slots id v e o live on mine_is short good whole same s k sized at small =
      let log' = v.seen ++ e ∷ [] in
      let w = noted v e in
      let mine = k.sits id v at in
      let member = mine.member live in
      let seen_is : v.seen ≡ k.log = mine.turn on in
      let out = out_if s k id v at on in
      let rest : (i : ℕ) → v.image ≢ i → of image_of i log' ≡ of image_of i k.log = λ i ne. of_other image_of i v.seen e (λ same. ne (sym mine_is ∙ same)) ∙ ap (of image_of i) seen_is in
      let front : (seen : List Entry) → StartsWith k.log seen → StartsWith log' seen = λ seen p. starts_more v.seen (e ∷ []) seen (subst (λ l. StartsWith l seen) (sym seen_is) p) in
      let others : (j : ℕ) (u : View) → j ≢ id → At s.views j u → v.image ≡ u.image → ⊥ = λ j u ne p same. ne (sym (k.no_two id j v u at p live same)) in
      let size : length v.seen ≡ length k.log = ap length seen_is in
      let longer : length log' ≡ length v.seen + 1 = length-append v.seen (e ∷ []) in
      let words = word_on s (length k.log) out.word (omega arith) ∙ ap (λ n. 2 * n ∷ []) (sym (longer ∙ ap (λ n. n + 1) size)) in (
        w,
        gives,
        tt,
        moved history like recorded s k id v w at live refl
            (set s.words 0 ((get_or s.words 0 0 + 1) % 2 ^ 64)) (set s.homes 0 (math.some (Some o))) log'
            (record {
              image = k.desk.image;
              kept = each_and (λ x. (of image_of x.image k.log ≡ x.own) × StartsWith k.log x.seen) (λ x. x.image ≢ v.image) (λ x. (of image_of x.image log' ≡ x.own) × StartsWith log' x.seen)
                  (λ x p q. (rest x.image (λ same. q (sym same)) ∙ p.0, front x.seen p.1)) k.f.kept k.desk.kept member.free;
              known = k.desk.known;
              others = λ i no. rest i (λ same. member.listed (subst (λ z. NotIn z k.f.images) (sym same) no)) ∙ k.desk.others i no;
            })
            (record {
              turn = λ b. absurd (cc);
              idle = λ z. refl;
              front = ([], sym (append-nil _));
              member = λ p. record {
                own = of_last image_of v.image v.seen e mine_is ∙ ap (λ l. l ++ e ∷ []) (ap (of image_of v.image) seen_is ∙ member.own);
                listed = member.listed;
                free = member.free;
              };
            })
            (λ j u ne p x. record {
              turn = λ b. (let no = off_else s k id v at on j u ne p in absurd (cc));
              idle = x.idle;
              front = front u.seen x.front;
              member = λ pos. (let m = x.member pos in record { own = rest u.image (others j u ne p) ∙ m.own; listed = m.listed; free = m.free });
            })
            (inl (home_again s k id v w at on refl log' o same whole (set s.words 0 ((get_or s.words 0 0 + 1) % 2 ^ 64)) words))
            good,
        refl,
      )

  pub leaves : (slots id : ℕ) (v : View) (o : O) → 0 < v.image → v.turn ≡ true → history o ≡ v.seen → like o
      → Allows K slots id (v, (0, Some o) ∷ []) 0 (λ n. (n + (2 ^ 64 - 1)) % 2 ^ 64) (Leaves (step slots 0 1 0 math.none) (v, (0, Some o) ∷ []))
  leaves slots id v o live on whole same s k sized at small =
      let w = rested v in
      let mine = k.sits id v at in
      let member = mine.member live in
      let words = word_back s (length k.log) (out_if s k id v at on).word small in (
        w,
        gives,
        tt,
        moved history like recorded s k id v w at live refl
            (set s.words 0 ((get_or s.words 0 0 + (2 ^ 64 - 1)) % 2 ^ 64)) (set s.homes 0 (math.some (Some o))) k.log
            k.desk
            (record {
              turn = λ b. absurd (cc);
              idle = λ z. refl;
              front = mine.front;
              member = λ p. record { own = member.own; listed = member.listed; free = member.free };
            })
            (λ j u ne p x. x)
            (inl (home_again s k id v w at on refl k.log o same (whole ∙ mine.turn on) (set s.words 0 ((get_or s.words 0 0 + (2 ^ 64 - 1)) % 2 ^ 64)) words))
            k.good,
        refl,
      )
