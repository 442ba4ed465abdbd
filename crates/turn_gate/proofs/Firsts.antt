-- The first seat: the start, a split, a join and the end.
use Rattle.std.proofs.Common.{◌≡◌, ◌≢◌, ℕ, zero, suc, ◌<◌, List, [], ◌∷◌, ◌++◌, ◌⊎◌, inl, inr, true, false, length, map, set, refl, ap, sym, ◌∙◌, subst, arith, length-set, Option, Some}
use Rattle.std.proofs.lemmas.Bool.{cases_eq}
use mathlib.Core.Option as math
use mathlib.Core.Option.{some-injective, some-ne-none}
use lib.ListN.{get_elem?}
use Rattle.atomic_table.specs.Table.{State, Splits, Joins, Final, Seen, opening}
use Rattle.atomic_table.proofs.Lists.{at_set, set_here, set_else, at_longer}
use Rattle.caf_events.specs.declared.event.Entry.{Entry}
use Rattle.trace_theory.specs.Entries.{of, Each}
use Rattle.turn_gate.specs.Lists.{image_of}
use Rattle.turn_gate.specs.declared.view.View.{View}
use Rattle.turn_gate.specs.declared.view.Kept.{Kept}
use Rattle.turn_gate.specs.Gates.{At, StartsWith, NotIn, AreAmong, first_view, IsMember, Sits, Desk, Keeps, with_image, newcomer, gathered, spent_view}
use Rattle.turn_gate.proofs.Lists.{each_all, each_front}
use Rattle.turn_gate.proofs.Seats.{same_at, is_there}
use Rattle.turn_gate.proofs.Steps.{true_or}

at_end : {V : Type 0} → (l : List V) (a b : V) (j : ℕ) → At (l ++ a ∷ []) j b → At l j b ⊎ ((j ≡ length l) × (a ≡ b))
at_end [] a b zero e = inr (refl, some-injective a b e)
at_end [] a b (suc j) e = absurd (some-ne-none b (sym e))
at_end (x ∷ xs) a b zero e = inl e
at_end (x ∷ xs) a b (suc j) e = elim (at_end xs a b j e) [ inl t ↦ inl t | inr t ↦ inr (let n = t.0 in omega arith, t.1) ]

only : {V : Type 0} {f : V} (j : ℕ) (v : V) → At (f ∷ []) j v → (j ≡ 0) × (f ≡ v)
only {V} {f} zero v e = (refl, some-injective f v e)
only (suc j) v e = absurd (some-ne-none v (sym e))

module _ {O : Type 0} (history : O → List Entry) (like : O → Type 0) (recorded : List Entry → Type 0) where
  abbrev K : State (Option O) View → Type 0
  K = Keeps history like recorded

  module _ (s : State (Option O) View) (k : K s) (f' : View) (views : List View)
      (olds : (j : ℕ) (u : View) → At views j u → u.turn ≡ true → At s.views j u)
      (stays : (j : ℕ) (u : View) → At s.views j u → u.turn ≡ true → At views j u) where
    rebuilt : At views 0 f' → Desk k.log f'
        → ((j : ℕ) (u : View) → At views j u → Sits k.log f' u)
        → ((i j : ℕ) (v w : View) → At views i v → At views j w → 0 < v.image → v.image ≡ w.image → i ≡ j)
        → K record { words = s.words; homes = s.homes; views = views }
    rebuilt first desk sits no_two = record {
      log = k.log;
      f = f';
      first = first;
      desk = desk;
      sits = sits;
      no_two = no_two;
      slot = elim k.slot [
        | inl h ↦ inl (record {
          word = h.word;
          object = h.object;
          home = h.home;
          is_like = h.is_like;
          history_is = h.history_is;
          none_out = λ j u p. true_or u.turn (λ t. let no = h.none_out j u (olds j u p t) in absurd (cc));
        })
        | inr out ↦ inr (record {
          word = out.word;
          home = out.home;
          seat = out.seat;
          holder = out.holder;
          sits = stays out.seat out.holder out.sits out.turn;
          turn = out.turn;
          alone = λ j u p t. out.alone j u (olds j u p t) t;
        })
      ];
      good = k.good;
    }

  first_idle : (s : State (Option O) View) (k : K s) → k.f.turn ≡ false
  first_idle s k = (k.sits 0 k.f k.first).idle k.desk.image

  -- what holds of the first seat holds after a change of its lists
  first_sits : (s : State (Option O) View) (k : K s) (f' : View) → f'.image ≡ k.f.image → f'.turn ≡ k.f.turn → f'.seen ≡ k.f.seen → Sits k.log f' f'
  first_sits s k f' a b c =
      let z = first_idle s k in
      let i = k.desk.image in record {
        turn = λ t. absurd (cc);
        idle = λ e. b ∙ z;
        front = subst (λ l. StartsWith k.log l) (sym c) (k.sits 0 k.f k.first).front;
        member = λ pos. absurd (omega arith);
      }

  module _ (s : State (Option O) View) (k : K s) (i : ℕ) (new : NotIn i k.f.images) where
    data_of : (j : ℕ) (u : View) → At (set s.views 0 (with_image i k.f) ++ newcomer i k.f ∷ []) j u
        → ((j ≢ 0) × At s.views j u) ⊎ ((j ≡ 0) × (with_image i k.f ≡ u)) ⊎ ((j ≡ length s.views) × (newcomer i k.f ≡ u))
    data_of j u p = elim (at_end (set s.views 0 (with_image i k.f)) (newcomer i k.f) u j p) [
      | inl q ↦ elim (at_set s.views 0 j (with_image i k.f) u q) [ inl x ↦ inr (inl x) | inr x ↦ inl x ]
      | inr x ↦ inr (inr (x.0 ∙ length-set s.views 0 (with_image i k.f), x.1))
    ]

    -- an image with a seat isn't the new one
    not_new : (j : ℕ) (u : View) → At s.views j u → 0 < u.image → u.image ≡ i → ⊥
    not_new j u p live e = ((k.sits j u p).member live).listed (subst (λ x. NotIn x k.f.images) (sym e) new)

    pub split_keeps : K record { words = s.words; homes = s.homes; views = set s.views 0 (with_image i k.f) ++ newcomer i k.f ∷ [] }
    split_keeps =
        let z = first_idle s k in
        let there = is_there s.views 0 k.f k.first in
        let fw = with_image i k.f in
        let nw = newcomer i k.f in
        let fs = k.sits 0 k.f k.first in
        rebuilt s k fw (set s.views 0 fw ++ nw ∷ [])
        (λ j u p up. elim (data_of j u p) [
          | inl x ↦ x.1
          | inr y ↦ elim y [
            | inl x ↦ let n : k.f.turn ≡ u.turn = ap (λ (v : View). v.turn) x.1 in absurd (cc)
            | inr x ↦ let n : false ≡ u.turn = ap (λ (v : View). v.turn) x.1 in absurd (cc)
          ]
        ])
        (λ j u p up. at_longer (set s.views 0 fw) (nw ∷ []) j u (set_else s.views 0 j fw (λ e. let n = ap (λ (v : View). v.turn) (same_at s.views 0 u k.f (subst (λ x. At s.views x u) e p) k.first) in absurd (cc)) ∙ p))
        (at_longer (set s.views 0 fw) (nw ∷ []) 0 fw (set_here s.views 0 fw there))
        (record {
          image = k.desk.image;
          kept = k.desk.kept;
          known = each_all (λ x. NotIn x.image k.f.images → ⊥) (λ x. NotIn x.image (k.f.images ++ i ∷ []) → ⊥) (λ x old no. old (each_front (λ y. y ≢ x.image) k.f.images i no).0) k.f.kept k.desk.known;
          others = λ x no. k.desk.others x (each_front (λ y. y ≢ x) k.f.images i no).0;
        })
        (λ j u p. elim (data_of j u p) [
          | inl x ↦ let h = k.sits j u x.1 in record {
            turn = h.turn;
            idle = h.idle;
            front = h.front;
            member = λ live. (let m = h.member live in record { own = m.own; listed = λ no. m.listed (each_front (λ y. y ≢ u.image) k.f.images i no).0; free = m.free });
          }
          | inr y ↦ elim y [
            | inl x ↦ subst (λ (v : View). Sits k.log fw v) x.1 (first_sits s k fw refl refl refl)
            | inr x ↦ subst (λ (v : View). Sits k.log fw v) x.1 (record {
              turn = λ t. absurd (cc);
              idle = λ e. refl;
              front = fs.front;
              member = λ live. record {
                own = k.desk.others i new;
                listed = λ no. (each_front (λ y. y ≢ i) k.f.images i no).1 refl;
                free = each_all (λ x. NotIn x.image k.f.images → ⊥) (λ x. x.image ≢ i) (λ x old e. old (subst (λ q. NotIn q k.f.images) (sym e) new)) k.f.kept k.desk.known;
              };
            })
          ]
        ])
        (λ a b v w p q live e. elim (data_of a v p) [
          | inl x ↦ elim (data_of b w q) [
            | inl y ↦ k.no_two a b v w x.1 y.1 live e
            | inr y ↦ elim y [
              | inl t ↦ let n = ap (λ (v : View). v.image) t.1 in let m = k.desk.image in absurd (omega arith)
              | inr t ↦ absurd (not_new a v x.1 live (e ∙ sym (ap (λ (v : View). v.image) t.1)))
            ]
          ]
          | inr x ↦ elim x [
            | inl t ↦ let n = ap (λ (v : View). v.image) t.1 in let m = k.desk.image in absurd (omega arith)
            | inr t ↦ elim (data_of b w q) [
              | inl y ↦ absurd (not_new b w y.1 (omega arith) (sym e ∙ sym (ap (λ (v : View). v.image) t.1)))
              | inr y ↦ elim y [
                | inl r ↦ let n = ap (λ (v : View). v.image) r.1 in let m = k.desk.image in absurd (omega arith)
                | inr r ↦ t.0 ∙ sym r.0
              ]
            ]
          ]
        ])

  pub splits : (id : ℕ) (v : View) (i : ℕ) → id ≡ 0 → NotIn i v.images → Splits K id v (with_image i v) (newcomer i v)
  splits id v i zero_id new s k at =
      let same : v ≡ k.f = same_at s.views 0 v k.f (subst (λ j. At s.views j v) zero_id at) k.first in
      subst (λ (j : ℕ). K record { words = s.words; homes = s.homes; views = set s.views j (with_image i v) ++ newcomer i v ∷ [] }) (sym zero_id)
      (subst (λ (u : View). K record { words = s.words; homes = s.homes; views = set s.views 0 (with_image i u) ++ newcomer i u ∷ [] }) (sym same)
      (split_keeps s k i (subst (λ (u : View). NotIn i u.images) same new)))

  module _ (s : State (Option O) View) (k : K s) (other : ℕ) (w : View) (apart : ¬ (other ≡ 0)) (at : At s.views other w) (live : 0 < w.image) (idle : w.turn ≡ false) where
    member_is : IsMember k.log k.f w
    member_is = (k.sits other w at).member live

    old_of : (j : ℕ) (u : View) → At (set (set s.views 0 (gathered k.f w)) other spent_view) j u
        → ((j ≢ 0) × (j ≢ other) × At s.views j u) ⊎ ((j ≡ 0) × (gathered k.f w ≡ u)) ⊎ ((j ≡ other) × (spent_view ≡ u))
    old_of j u p = elim (at_set (set s.views 0 (gathered k.f w)) other j spent_view u p) [
      | inl x ↦ inr (inr x)
      | inr x ↦ elim (at_set s.views 0 j (gathered k.f w) u x.1) [ inl y ↦ inr (inl y) | inr y ↦ inl (y.0, x.0, y.1) ]
    ]

    pub join_keeps : K record { words = s.words; homes = s.homes; views = set (set s.views 0 (gathered k.f w)) other spent_view }
    join_keeps =
        let z = first_idle s k in
        let there = is_there s.views 0 k.f k.first in
        let fw = gathered k.f w in
        let nw : View = spent_view in
        let m = member_is in
        let mine = k.sits other w at in
        rebuilt s k fw (set (set s.views 0 fw) other nw)
        (λ j u p up. elim (old_of j u p) [
          | inl x ↦ x.2
          | inr y ↦ elim y [
            | inl x ↦ let n : k.f.turn ≡ u.turn = ap (λ (v : View). v.turn) x.1 in absurd (cc)
            | inr x ↦ let n : false ≡ u.turn = ap (λ (v : View). v.turn) x.1 in absurd (cc)
          ]
        ])
        (λ j u p up.
        let not_first : j ≢ 0 = λ e. (let n = ap (λ (v : View). v.turn) (same_at s.views 0 u k.f (subst (λ x. At s.views x u) e p) k.first) in absurd (cc)) in
        let not_other : j ≢ other = λ e. (let n = ap (λ (v : View). v.turn) (same_at s.views other u w (subst (λ x. At s.views x u) e p) at) in absurd (cc)) in
        set_else (set s.views 0 fw) other j nw not_other ∙ set_else s.views 0 j fw not_first ∙ p)
        (set_else (set s.views 0 fw) other 0 nw (λ e. apart (sym e)) ∙ set_here s.views 0 fw there)
        (record {
          image = k.desk.image;
          kept = ((m.own, mine.front), k.desk.kept);
          known = (m.listed, k.desk.known);
          others = k.desk.others;
        })
        (λ j u p. elim (old_of j u p) [
          | inl x ↦ let h = k.sits j u x.2 in record {
            turn = h.turn;
            idle = h.idle;
            front = h.front;
            member = λ live'. (let r = h.member live' in let ne = x.1 in record { own = r.own; listed = r.listed; free = (λ e. ne (k.no_two j other u w x.2 at live' (sym e)), r.free) });
          }
          | inr y ↦ elim y [
            | inl x ↦ subst (λ (v : View). Sits k.log fw v) x.1 (first_sits s k fw refl refl refl)
            | inr x ↦ subst (λ (v : View). Sits k.log fw v) x.1 (record {
              turn = λ t. absurd (cc);
              idle = λ e. refl;
              front = (k.log, refl);
              member = λ live'. absurd (omega arith);
            })
          ]
        ])
        (λ a b v u p q live' e.
        let none_first = k.desk.image in
        elim (old_of a v p) [
          | inl x ↦ elim (old_of b u q) [
            | inl y ↦ k.no_two a b v u x.2 y.2 live' e
            | inr y ↦ elim y [
              | inl t ↦ let n = ap (λ (r : View). r.image) t.1 in absurd (omega arith)
              | inr t ↦ let n = ap (λ (r : View). r.image) t.1 in absurd (omega arith)
            ]
          ]
          | inr x ↦ elim x [
            | inl t ↦ let n = ap (λ (r : View). r.image) t.1 in absurd (omega arith)
            | inr t ↦ let n = ap (λ (r : View). r.image) t.1 in absurd (omega arith)
          ]
        ])

  pub joins : (id : ℕ) (v : View) (other : ℕ) (w : View) → id ≡ 0 → 0 < w.image → w.turn ≡ false → Joins K id v other w (gathered v w) spent_view
  joins id v other w zero_id live idle s k at apart after =
      let same : v ≡ k.f = same_at s.views 0 v k.f (subst (λ j. At s.views j v) zero_id at) k.first in
      let at_w : At s.views other w = sym (set_else s.views id other (gathered v w) apart) ∙ after in
      subst (λ (j : ℕ). K record { words = s.words; homes = s.homes; views = set (set s.views j (gathered v w)) other spent_view }) (sym zero_id)
      (subst (λ (u : View). K record { words = s.words; homes = s.homes; views = set (set s.views 0 (gathered u w)) other spent_view }) (sym same)
      (join_keeps s k other w (λ e. apart (e ∙ sym zero_id)) at_w live idle))

  pub opens : (start : O) → like start → history start ≡ [] → recorded [] → K (opening (0 ∷ []) (Some start ∷ []) first_view)
  opens start same empty good = record {
    log = [];
    f = first_view;
    first = refl;
    desk = record { image = refl; kept = tt; known = tt; others = λ i no. refl };
    sits = λ j v p. subst (λ (u : View). Sits [] first_view u) (only j v p).1 (record {
      turn = λ t. absurd (cc);
      idle = λ e. refl;
      front = ([], refl);
      member = λ pos. absurd (omega arith);
    });
    no_two = λ i j v w a b pos e. (only i v a).0 ∙ sym (only j w b).0;
    slot = inl (record {
      word = refl;
      object = start;
      home = refl;
      is_like = same;
      history_is = empty;
      none_out = λ j v p. sym (ap (λ (u : View). u.turn) (only j v p).1);
    });
    good = good;
  }

  -- the object at the end, once each image's seat was given back
  pub record Ended (v : View) (objects : List (Option O)) : Type 0 where
    pub object : O
    pub there : get_elem? objects 0 ≡ math.some (Some object)
    pub is_like : like object
    pub good : recorded (history object)
    pub kept : Each (λ x. (of image_of x.image (history object) ≡ x.own) × StartsWith (history object) x.seen) v.kept
    pub others : (i : ℕ) → NotIn i v.images → of image_of i (history object) ≡ []

  each_named : (i : ℕ) (xs : List Kept) → Each (λ (x : Kept). x.image ≢ i) xs → NotIn i (map (λ (x : Kept). x.image) xs)
  each_named i [] h = tt
  each_named i (x ∷ xs) h = (h.0, each_named i xs h.1)

  -- an image without a seat that was given back isn't among those that all gave theirs back
  none_missing : (i : ℕ) (v : View) → AreAmong v.images (map (λ (x : Kept). x.image) v.kept) → Each (λ (x : Kept). x.image ≢ i) v.kept → NotIn i v.images
  none_missing i v back free =
      let ks = map (λ (x : Kept). x.image) v.kept in
      each_all (λ j. NotIn j ks → ⊥) (λ j. j ≢ i) (λ j has e. has (subst (λ q. NotIn q ks) (sym e) (each_named i v.kept free))) v.images back

  pub ends : (id : ℕ) (v : View) (words : List ℕ) (objects : List (Option O)) → id ≡ 0 → AreAmong v.images (map (λ (x : Kept). x.image) v.kept) → Final (Seen K id v) words objects → Ended v objects
  ends id v words objects zero_id back fin =
      let s = fin.0 in
      let k = fin.1.0 in
      let same : v ≡ k.f = same_at s.views 0 v k.f (subst (λ j. At s.views j v) zero_id fin.1.1) k.first in
      subst (λ (u : View). Ended u objects) (sym same) (elim k.slot [
        | inl h ↦ record {
          object = h.object;
          there = fin.4 0 (Some h.object) (ap (λ hs. get_elem? hs 0) h.home);
          good = subst recorded (sym h.history_is) k.good;
          is_like = h.is_like;
          kept = subst (λ l. Each (λ x. (of image_of x.image l ≡ x.own) × StartsWith l x.seen) k.f.kept) (sym h.history_is) k.desk.kept;
          others = λ i no. ap (of image_of i) h.history_is ∙ k.desk.others i no;
        }
        | inr out ↦
            let hs = k.sits out.seat out.holder out.sits in
            let on = out.turn in
            elim (cases_eq out.holder.image 0) [
              | inl e ↦ let no = hs.idle e in absurd (cc)
              | inr ne ↦ let m = hs.member (omega arith) in absurd (m.listed (subst (λ (u : View). NotIn out.holder.image u.images) same (none_missing out.holder.image v back (subst (λ (u : View). Each (λ x. x.image ≢ out.holder.image) u.kept) (sym same) m.free))))
            ]
      ])
