-- The close of SYNC IMAGES in a trace, and its status: told by what the images that it names say in all.
use Rattle.std.proofs.Common.{◌≡◌, ◌<◌, ◌≤◌, ℕ, Bool, true, false, IsTrue, nat_eq, nat_le, nat_lt, ◌&&◌, ◌||◌, not, cond, List, [], ◌∷◌, ◌++◌, length, inl, inr, refl, ap, sym, ◌∙◌, subst, arith, append_assoc, length-append}
use Rattle.std.specs.Prelude.{pos, Option, Some, None, is_some}
use Rattle.std.specs.List.{list_any, list_all, cons_option}
use Rattle.std.proofs.lemmas.List.{append-nil}
use Rattle.std.proofs.lemmas.Bool.{cases_Bool, cases_lt, and_parts, and_from, or_cases, or_left, or_right, both_ways, lt-ltb, le-ltb, leb-true, le-leb, eqb-true, eq-eqb}
use Rattle.caf_events.specs.declared.ask.Ask.TheVariants as asks
use Rattle.caf_events.specs.declared.reply.Reply.TheVariants as replies
use Rattle.caf_events.specs.declared.event.Entry.{Entry}
use Rattle.object_rules.specs.Cells.{Declared}
use Rattle.object_rules.specs.Scans.{or_else, first_front_from, first_front}
use Rattle.object_rules.specs.Happenings.{Happening, images, happens, happened, has_stopped, has_failed}
use Rattle.object_rules.specs.TeamRounds.{status_of}
use Rattle.object_rules.specs.ImagePairs.{pairs_of, naming, last_named, has_partner, has_paired, at_pairing, pairing_status}
use Rattle.object_rules.specs.BoardRules.{is_image, fits_board, can_come, board_ready, board_reply, unpair_status}
use Rattle.object_rules.proofs.Growing.{none_now}
use Rattle.team_laws.proofs.Lists.{all_by}
use Rattle.core_runs.specs.CoreRuns.{at_board, said_by}
use Rattle.round_words.specs.RoundRuns.{IsAhead, IsRoundRun}
use Rattle.round_words.proofs.BoardWords.{happened_board, stopped_said, stopped_append, own_stops, none_failed, any_ext}
use Rattle.round_words.proofs.Ahead.{front_ahead, stopped_whole}
use Rattle.round_words.proofs.RoundRuns.{round_front}
use Rattle.round_words.proofs.RoundStops.{any_where}
use Rattle.decided_runs.proofs.PairWords.{sets_said, sets_append, count_in, count_append, last_set, comes_said, own_pairs, own_naming, own_last, paired_is}

any_false : {A : Type 0} (xs : List A) → list_any (λ x. false) xs ≡ false
any_false [] = refl
any_false (x ∷ xs) = any_false xs

-- the shortest front of which a test holds is a front, and the test holds of it
module _ {E : Type 0} (test : List E → Bool) where
  is_front : (b : Bool) (f g : List E) → cond b (Some f) None ≡ Some g → (b ≡ true) × (f ≡ g)
  is_front true f g h = (refl, cc)
  is_front false f g h = absurd (cc)

  front_from : (before es f : List E) → first_front_from test before es ≡ Some f → (g : List E) × (before ++ es ≡ f ++ g) × (test f ≡ true)
  front_from before [] f h =
      let r = is_front (test before) before f h in
      ([], ap (λ z. z ++ []) r.1, ap test (sym r.1) ∙ r.0)
  front_from before (e ∷ es) f h = elim (cases_Bool (test before)) [
    | inl t ↦ (
        let q : or_else (Some before) (first_front_from test (before ++ e ∷ []) es) ≡ Some f = rw t at h in
        let w : before ≡ f = cc in
        (e ∷ es, ap (λ z. z ++ e ∷ es) w, ap test (sym w) ∙ t))
    | inr n ↦ (
        let r = front_from (before ++ e ∷ []) es f (rw n at h) in
        (r.0, sym (append_assoc before (e ∷ []) es) ∙ r.1, r.2))
  ]

  front_is : (h f : List E) → first_front test h ≡ Some f → (g : List E) × (h ≡ f ++ g) × (test f ≡ true)
  front_is h f e = front_from [] h f e

-- a front of what happened is what happened in a front
abbrev FrontOf : List Entry → List Happening → Type 0
FrontOf g f = (a : List Entry) × (b : List Entry) × (g ≡ a ++ b) × (happened images a ≡ f)

front_more : (x : Entry) (g : List Entry) (y : Happening) (f r : List Happening) → ((f' : List Happening) → happened images g ≡ f' ++ r → FrontOf g f') → (o : Option Happening)
    → happens images x.image.0 x.event.line x.event.ask x.event.reply ≡ o → cons_option o (happened images g) ≡ y ∷ (f ++ r) → FrontOf (x ∷ g) (y ∷ f)
front_more x g y f r next None w e =
    let s = next (y ∷ f) e in
    (x ∷ s.0, s.1, ap (λ z. x ∷ z) s.2, ap (λ o. cons_option o (happened images s.0)) w ∙ s.3)
front_more x g y f r next (Some z) w e =
    let heads : z ≡ y = cc in
    let tails : happened images g ≡ f ++ r = cc in
    let s = next f tails in
    (x ∷ s.0, s.1, ap (λ z. x ∷ z) s.2, ap (λ o. cons_option o (happened images s.0)) w ∙ ap (λ hs. z ∷ hs) s.3 ∙ ap (λ h. h ∷ f) heads)

pub happened_front : (g : List Entry) (f r : List Happening) → happened images g ≡ f ++ r → FrontOf g f
happened_front g [] r e = ([], g, refl, refl)
happened_front [] (y ∷ f) r e = absurd (cc)
happened_front (x ∷ g) (y ∷ f) r e = front_more x g y f r (λ f' q. happened_front g f' r q) (happens images x.image.0 x.event.line x.event.ask x.event.reply) refl e

module _ (i n : ℕ) where
  abbrev test : List Happening → Bool
  test f = nat_eq (pairs_of i f) n && has_paired i f

  -- the close of the n-th SYNC IMAGES of i in g, where it is the last one
  pub record PairedBy (g : List Entry) : Type 0 where
    pub front : List Entry
    pub back : List Entry
    pub split : g ≡ front ++ back
    pub is : at_pairing i n (happened images (at_board g)) ≡ Some (happened images front)
    pub count : pairs_of i (happened images front) ≡ n
    pub paired : has_paired i (happened images front) ≡ true

  pub paired_by : (g : List Entry) → is_some (at_pairing i n (happened images (at_board g))) ≡ true → PairedBy g
  paired_by g h = by (at_pairing i n (happened images (at_board g))) refl h
    where
      by : (o : Option (List Happening)) → at_pairing i n (happened images (at_board g)) ≡ o → is_some o ≡ true → PairedBy g
      by None e h = absurd (cc)
      by (Some f) e h =
          let r = front_is test (happened images (at_board g)) f e in
          let s = happened_front g f r.0 (sym (happened_board images g) ∙ r.1) in
          let p = and_parts (nat_eq (pairs_of i f) n) (has_paired i f) r.2 in
          record {
            front = s.0;
            back = s.1;
            split = s.2;
            is = e ∙ ap Some (sym s.3);
            count = ap (pairs_of i) s.3 ∙ eqb-true (pairs_of i f) n p.0;
            paired = ap (has_paired i) s.3 ∙ p.1;
          }

  pub some_paired : (g : List Entry) → pairs_of i (happened images g) ≡ n → has_paired i (happened images g) ≡ true → is_some (at_pairing i n (happened images (at_board g))) ≡ true
  some_paired g count paired = by (at_pairing i n (happened images (at_board g))) refl
    where
      by : (o : Option (List Happening)) → at_pairing i n (happened images (at_board g)) ≡ o → is_some o ≡ true
      by None e = absurd (both_ways (test (happened images (at_board g))) (none_now test (happened images (at_board g)) e)
          (ap test (happened_board images g) ∙ and_from (nat_eq (pairs_of i (happened images g)) n) (has_paired i (happened images g)) (eq-eqb (pairs_of i (happened images g)) n count) paired))
      by (Some f) e = refl

no_more : (xs ys : List (List ℕ)) → length (xs ++ ys) ≡ length xs → xs ++ ys ≡ xs
no_more xs [] e = append-nil xs
no_more xs (y ∷ ys) e = let l = length-append xs (y ∷ ys) in absurd (omega arith)

module _ (s : List Declared) (n : ℕ) (i : ℕ) (g : List Entry) (run : IsRoundRun s n g) (c : PairedBy i (length (sets_said (said_by i g))) g) where
  abbrev sets : List (List ℕ)
  sets = sets_said (said_by i g)

  pub pair_front : IsRoundRun s n c.front
  pair_front = round_front s n c.front c.back (subst (IsRoundRun s n) c.split run)

  pub behind : IsAhead g c.front
  behind j = let f = front_ahead c.front c.back j in (f.0, ap (said_by j) c.split ∙ f.1)

  -- the image has begun no other one since
  pub sets_front : sets_said (said_by i c.front) ≡ sets
  sets_front =
      let b = behind i in
      let whole : sets ≡ sets_said (said_by i c.front) ++ sets_said b.0 = ap sets_said b.1 ∙ sets_append (said_by i c.front) b.0 in
      let size : length (sets_said (said_by i c.front)) ≡ length sets = sym (own_pairs i c.front) ∙ c.count in
      sym (whole ∙ no_more (sets_said (said_by i c.front)) (sets_said b.0) (sym (ap length whole) ∙ sym size))

  -- each image that it names had come
  pub all_come : list_all (comes_said i sets (λ j. said_by j c.front)) (last_set [] sets) ≡ true
  all_come = subst (λ z. list_all (comes_said i z (λ j. said_by j c.front)) (last_set [] z) ≡ true) sets_front (sym (paired_is i c.front pair_front.free) ∙ c.paired)

  module _ (t : List Entry) (run_t : IsRoundRun s n t) (ahead : IsAhead t g) where
    pub far : IsAhead t c.front
    far j =
        let a = ahead j in
        let b = behind j in
        (b.0 ++ a.0, a.1 ∙ ap (λ z. z ++ a.0) b.1 ∙ append_assoc (said_by j c.front) b.0 a.0)

    counts_more : (j : ℕ) → count_in i (sets_said (said_by j c.front)) ≤ count_in i (sets_said (said_by j t))
    counts_more j =
        let a = far j in
        let e = ap (λ z. count_in i (sets_said z)) a.1 ∙ ap (count_in i) (sets_append (said_by j c.front) a.0) ∙ count_append i (sets_said (said_by j c.front)) (sets_said a.0) in
        omega arith

    -- one had stopped without its corresponding SYNC IMAGES where it begins that in no run
    missed_by_one : (j : ℕ) → comes_said i sets (λ m. said_by m c.front) j ≡ true
        → (stopped_said (said_by j c.front) && not (nat_le (count_in j sets) (count_in i (sets_said (said_by j c.front))))) ≡ nat_lt (count_in i (sets_said (said_by j t))) (count_in j sets)
    missed_by_one j come = elim (cases_Bool (nat_le (count_in j sets) (count_in i (sets_said (said_by j c.front))))) [
      | inl partner ↦ (
          let l = leb-true (count_in j sets) (count_in i (sets_said (said_by j c.front))) partner in
          let m = counts_more j in
          ap (λ b. stopped_said (said_by j c.front) && not b) partner ∙ and_no (stopped_said (said_by j c.front)) ∙ sym (le-ltb (count_in i (sets_said (said_by j t))) (count_in j sets) (omega arith)))
      | inr alone ↦ (
          let stopped : stopped_said (said_by j c.front) ≡ true = subst (λ b. (b || stopped_said (said_by j c.front)) ≡ true) alone come in
          let whole = ap (λ z. count_in i (sets_said z)) (stopped_whole t c.front j (run_t.ends j) far stopped) in
          let l = not_le (count_in j sets) (count_in i (sets_said (said_by j c.front))) alone in
          ap (λ b. b && not (nat_le (count_in j sets) (count_in i (sets_said (said_by j c.front))))) stopped ∙ ap not alone
          ∙ sym (lt-ltb (count_in i (sets_said (said_by j t))) (count_in j sets) (omega arith)))
    ]
      where
        and_no : (b : Bool) → (b && false) ≡ false
        and_no true = refl
        and_no false = refl

        not_le : (a b : ℕ) → nat_le a b ≡ false → b < a
        not_le a b h = elim (cases_lt b a) [ inl l ↦ l | inr l ↦ absurd (both_ways (nat_le a b) h (le-leb a b l)) ]

    -- THE STATUS of SYNC IMAGES
    pub status_told : pairing_status i (happened images c.front) ≡ cond (list_any (λ j. nat_lt (count_in i (sets_said (said_by j t))) (count_in j sets)) (last_set [] sets)) (pos 6000) (pos 0)
    status_told =
        let hs = happened images c.front in
        let js = last_set [] sets in
        let named : last_named i hs ≡ js = own_last i c.front ∙ ap (last_set []) sets_front in
        let each : (j : ℕ) → (has_stopped j hs && not (has_partner i hs j)) ≡ (stopped_said (said_by j c.front) && not (nat_le (count_in j sets) (count_in i (sets_said (said_by j c.front))))) =
        λ j. ap (λ b. b && not (has_partner i hs j)) (own_stops images j c.front)
        ∙ ap (λ a. stopped_said (said_by j c.front) && not (nat_le a (naming j i hs))) (own_naming i j c.front ∙ ap (count_in j) sets_front)
        ∙ ap (λ b. stopped_said (said_by j c.front) && not (nat_le (count_in j sets) b)) (own_naming j i c.front) in
        let a = any_ext (λ j. has_stopped j hs && not (has_partner i hs j)) (λ j. stopped_said (said_by j c.front) && not (nat_le (count_in j sets) (count_in i (sets_said (said_by j c.front))))) each js
        ∙ any_where (comes_said i sets (λ m. said_by m c.front)) (λ j. stopped_said (said_by j c.front) && not (nat_le (count_in j sets) (count_in i (sets_said (said_by j c.front)))))
        (λ j. nat_lt (count_in i (sets_said (said_by j t))) (count_in j sets)) missed_by_one js all_come in
        let b = any_ext (λ j. has_failed j hs) (λ j. false) (λ j. none_failed images j c.front pair_front.free) js ∙ any_false js in
        ap (λ z. status_of (list_any (λ j. has_stopped j hs && not (has_partner i hs j)) z) (list_any (λ j. has_failed j hs) z)) named
        ∙ ap (λ z. status_of z (list_any (λ j. has_failed j hs) js)) a
        ∙ ap (status_of (list_any (λ j. nat_lt (count_in i (sets_said (said_by j t))) (count_in j sets)) js)) b
        ∙ none_fails (list_any (λ j. nat_lt (count_in i (sets_said (said_by j t))) (count_in j sets)) js)
      where
        none_fails : (z : Bool) → status_of z false ≡ cond z (pos 6000) (pos 0)
        none_fails true = refl
        none_fails false = refl

-- a SYNC IMAGES that can end
pub unpair_paired : (n : ℕ) (g : List Entry) (i : ℕ) → IsTrue (board_ready n (at_board g) i asks.Unpair) → PairedBy i (length (sets_said (said_by i g))) g
unpair_paired n g i ready =
    let some = (and_parts (is_image n i && fits_board n (at_board g) i asks.Unpair) (can_come n (at_board g) i asks.Unpair) ready).1 in
    let many : pairs_of i (happened images (at_board g)) ≡ length (sets_said (said_by i g)) = ap (pairs_of i) (happened_board images g) ∙ own_pairs i g in
    paired_by i (length (sets_said (said_by i g))) g (subst (λ m. is_some (at_pairing i m (happened images (at_board g))) ≡ true) many some)

-- its reply, by what is said in all
pub unpair_is : (s : List Declared) (n : ℕ) (t g : List Entry) → IsRoundRun s n t → IsRoundRun s n g → IsAhead t g → (i : ℕ) → IsTrue (board_ready n (at_board g) i asks.Unpair)
    → board_reply n (at_board g) i asks.Unpair
    ≡ replies.Number (cond (list_any (λ j. nat_lt (count_in i (sets_said (said_by j t))) (count_in j (sets_said (said_by i g)))) (last_set [] (sets_said (said_by i g)))) (pos 6000) (pos 0))
unpair_is s n t g run_t run ahead i ready =
    let c = unpair_paired n g i ready in
    let many : pairs_of i (happened images (at_board g)) ≡ length (sets_said (said_by i g)) = ap (pairs_of i) (happened_board images g) ∙ own_pairs i g in
    ap (λ m. replies.Number (unpair_status i (at_pairing i m (happened images (at_board g))))) many
    ∙ ap (λ o. replies.Number (unpair_status i o)) c.is
    ∙ ap replies.Number (status_told s n i g run c t run_t ahead)

-- What can end stays so.
pub unpair_stays : (s : List Declared) (n : ℕ) (w u : List Entry) → IsRoundRun s n w → IsRoundRun s n u → IsAhead u w → (i : ℕ) → said_by i w ≡ said_by i u
    → IsTrue (board_ready n (at_board w) i asks.Unpair) → IsTrue (board_ready n (at_board u) i asks.Unpair)
unpair_stays s n w u run_w run_u ahead i same ready =
    let c = unpair_paired n w i ready in
    let p = and_parts (is_image n i && nat_le 1 (pairs_of i (happened images (at_board w)))) (can_come n (at_board w) i asks.Unpair) ready in
    let many_w : pairs_of i (happened images (at_board w)) ≡ length (sets_said (said_by i w)) = ap (pairs_of i) (happened_board images w) ∙ own_pairs i w in
    let many_u : pairs_of i (happened images (at_board u)) ≡ length (sets_said (said_by i u)) = ap (pairs_of i) (happened_board images u) ∙ own_pairs i u in
    let fits = subst (λ m. (is_image n i && nat_le 1 m) ≡ true) (many_w ∙ ap (λ z. length (sets_said z)) same ∙ sym many_u) p.0 in
    let sets = sets_said (said_by i w) in
    let more = far s n i w run_w c u run_u ahead in
    let all = all_by (comes_said i sets (λ j. said_by j c.front)) (comes_said i sets (λ j. said_by j u)) (λ j q. elim (or_cases (nat_le (count_in j sets) (count_in i (sets_said (said_by j c.front)))) (stopped_said (said_by j c.front)) q) [
      | inl a ↦ (
          let l = leb-true (count_in j sets) (count_in i (sets_said (said_by j c.front))) a in
          let m = counts_more s n i w run_w c u run_u ahead j in
          or_left (nat_le (count_in j sets) (count_in i (sets_said (said_by j u)))) (stopped_said (said_by j u)) (le-leb (count_in j sets) (count_in i (sets_said (said_by j u))) (omega arith)))
      | inr b ↦ or_right (nat_le (count_in j sets) (count_in i (sets_said (said_by j u)))) (stopped_said (said_by j u)) (let a = more j in ap stopped_said a.1 ∙ stopped_append (said_by j c.front) a.0 ∙ or_left (stopped_said (said_by j c.front)) (stopped_said a.0) b)
    ]) (last_set [] sets) (all_come s n i w run_w c) in
    let paired = paired_is i u run_u.free ∙ subst (λ z. list_all (comes_said i z (λ j. said_by j u)) (last_set [] z) ≡ true) (ap sets_said same) all in
    let some = some_paired i (length (sets_said (said_by i u))) u (own_pairs i u) paired in
    and_from (is_image n i && nat_le 1 (pairs_of i (happened images (at_board u)))) (can_come n (at_board u) i asks.Unpair) fits
    (subst (λ m. is_some (at_pairing i m (happened images (at_board u))) ≡ true) (sym many_u) some)
