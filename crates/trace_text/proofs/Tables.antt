-- The team numbers that a table has, with those of one team more and of one reply more.
use Rattle.std.proofs.Common.{ℕ, ◌+◌, ◌≡◌, ◌<◌, refl, sym, ap, ◌∙◌, cond, Bool, true, false, ℤ, is_eq}
use Rattle.std.proofs.Common.{Option, None, Some, List, [], ◌∷◌, ◌++◌, length, take, get_or}
use Rattle.std.specs.Prelude.{nat_eq, is_some}
use Rattle.std.specs.BTreeMap.{BTreeMap, get, is_at}
use Rattle.std.specs.Cmp.{unsigned_tied}
use Rattle.std.specs.Map.{lookup}
use Rattle.std.specs.Option.{option_or}
use Rattle.std.specs.Ordering.{nat_cmp}
use Rattle.std.proofs.lemmas.Bool.{eqb-true}
use Rattle.std.proofs.lemmas.List.{take_more}
use Rattle.caf_events.specs.declared.event.Entry.{Entry}
use Rattle.caf_events.specs.declared.reply.FormedTeam.{FormedTeam}
use Rattle.trace_text.specs.Forms.{number_among, number_in_reply, given_number, HasGiven, Gains}

-- ---- one or else another
or_nothing : (a : Option ℤ) → option_or a None ≡ a
or_nothing None = refl
or_nothing (Some n) = refl

or_more : (a b c : Option ℤ) → option_or a (option_or b c) ≡ option_or (option_or a b) c
or_more None b c = refl
or_more (Some n) b c = refl

or_chosen : (t : Bool) (n : ℤ) (a b : Option ℤ) → cond t (Some n) (option_or a b) ≡ option_or (cond t (Some n) a) b
or_chosen true n a b = refl
or_chosen false n a b = refl

-- ---- one team
stays : (t : Bool) (v : Option ℤ) (n : ℤ) → (t ≡ true → is_some v ≡ true) → v ≡ option_or v (cond t (Some n) None)
stays t (Some x) n h = refl
stays true None n h = let e : false ≡ true = h refl in cc
stays false None n h = refl

-- a team that has a number keeps it
pub kept : (m : BTreeMap ℕ ℤ) (k : ℕ) (n : ℤ) → is_some (get nat_cmp m k) ≡ true
    → Gains m (λ q. cond (nat_eq k q) (Some n) None) m
kept m k n e q =
    stays (nat_eq k q) (get nat_cmp m q) n (λ same. ap (λ z. is_some (get nat_cmp m z)) (sym (eqb-true k q same)) ∙ e)

nothing_there : (v : Option ℤ) → is_some v ≡ false → v ≡ None
nothing_there None e = refl
nothing_there (Some n) e = cc

comes : (t : Bool) (v : Option ℤ) (n : ℤ) → (t ≡ true → v ≡ None)
    → cond t (Some n) v ≡ option_or v (cond t (Some n) None)
comes true v n h = sym (ap (λ w. option_or w (Some n)) (h refl))
comes false v n h = sym (or_nothing v)

-- a team that has none gets the one that is put in
pub put_in : (m new : BTreeMap ℕ ℤ) (k : ℕ) (n : ℤ) → is_some (get nat_cmp m k) ≡ false
    → ((q : ℕ) → get nat_cmp new q ≡ cond (is_eq (nat_cmp k q)) (Some n) (get nat_cmp m q))
    → Gains m (λ q. cond (nat_eq k q) (Some n) None) new
put_in m new k n e has q =
    has q ∙ (ap (λ t. cond t (Some n) (get nat_cmp m q)) (unsigned_tied k q)
    ∙ comes (nat_eq k q) (get nat_cmp m q) n (λ same.
    ap (get nat_cmp m) (sym (eqb-true k q same)) ∙ nothing_there (get nat_cmp m k) e))

-- ---- teams
among_more : (team : ℕ) (ts : List FormedTeam) (t : FormedTeam)
    → number_among team (ts ++ t ∷ []) ≡ option_or (number_among team ts) (number_among team (t ∷ []))
among_more team [] t = refl
among_more team (u ∷ ts) t =
    ap (cond (nat_eq u.team.0 team) (Some u.number)) (among_more team ts t)
    ∙ or_chosen (nat_eq u.team.0 team) u.number (number_among team ts) (number_among team (t ∷ []))

-- none yet
pub gains_nothing : (m : BTreeMap ℕ ℤ) → Gains m (λ _. None) m
gains_nothing m q = sym (or_nothing (get nat_cmp m q))

-- the items up to this one
front : {X : Type 0} (xs : List X) (i : ℕ) (x : X) → i < length xs → x ≡ get_or xs i x
    → take i xs ++ x ∷ [] ≡ take (i + 1) xs
front xs i x below is = ap (λ y. take i xs ++ y ∷ []) is ∙ sym (take_more xs i x below)

-- one team more
pub team_turn : (old now new : BTreeMap ℕ ℤ) (ts : List FormedTeam) (i : ℕ) (t : FormedTeam)
    → i < length ts → t ≡ get_or ts i t → Gains old (λ q. number_among q (take i ts)) now
    → Gains now (λ q. number_among q (t ∷ [])) new → Gains old (λ q. number_among q (take (i + 1) ts)) new
team_turn old now new ts i t below is before one q =
    one q ∙ (ap (λ v. option_or v (number_among q (t ∷ []))) (before q)
    ∙ (sym (or_more (get nat_cmp old q) (number_among q (take i ts)) (number_among q (t ∷ [])))
    ∙ ap (option_or (get nat_cmp old q))
    (sym (among_more q (take i ts) t) ∙ ap (number_among q) (front ts i t below is))))

-- ---- entries
given_more : (team : ℕ) (es : List Entry) (e : Entry)
    → given_number team (es ++ e ∷ []) ≡ option_or (given_number team es) (number_in_reply team e.event.reply)
given_more team [] e = or_nothing (number_in_reply team e.event.reply)
given_more team (x ∷ es) e =
    ap (option_or (number_in_reply team x.event.reply)) (given_more team es e)
    ∙ or_more (number_in_reply team x.event.reply) (given_number team es) (number_in_reply team e.event.reply)

-- a table with nothing in it, before the first entry
pub given_nothing : (m : BTreeMap ℕ ℤ) → m.entries ≡ [] → HasGiven [] m
given_nothing m empty team = ap (lookup (is_at (nat_cmp team))) empty

-- one entry more
pub given_turn : (m n : BTreeMap ℕ ℤ) (es : List Entry) (i : ℕ) (e : Entry) → i < length es → e ≡ get_or es i e
    → HasGiven (take i es) m → Gains m (λ q. number_in_reply q e.event.reply) n → HasGiven (take (i + 1) es) n
given_turn m n es i e below is has one q =
    one q ∙ (ap (λ v. option_or v (number_in_reply q e.event.reply)) (has q)
    ∙ (sym (given_more q (take i es) e) ∙ ap (given_number q) (front es i e below is)))
