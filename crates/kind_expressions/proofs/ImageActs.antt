-- Acts that name images and teams: what is known behind each. Counts and indices of images are of kind 4.
use Rattle.std.proofs.Common.{◌≡◌, ◌∙◌, ℕ, zero, suc, ◌+◌, ◌*◌, ◌≤◌, Bool, true, false, ◌&&◌, ◌||◌, cond, not, List, [], ◌∷◌, ◌++◌, length, refl, subst, arith}
use Rattle.std.specs.Prelude.{ℤ, pos, negsuc, ◌-◌, nat_le, nat_eq, ◌==◌, slice_get, Option, None, Some}
use Rattle.std.specs.Ordering.{int_eq}
use Rattle.trace_theory.specs.Entries.{Each}
use Rattle.caf_base.specs.declared.value.Kind.{Kind}
use Rattle.caf_base.specs.declared.value.Kind.TheVariants as kinds
use Rattle.caf_base.specs.Arithmetic.{fits_kind, truth, natural}
use Rattle.coarray_types.specs.Coplaces.{image_order}
use Rattle.walk_theory.specs.Language.{faults}
use Rattle.object_rules.specs.Cells.{Declared}
use Rattle.image_acts.specs.Statuses.{most_access_cells}
use Rattle.image_acts.specs.Faults.{overflow, no_team, cobounds_fault, not_established, cells_fault, shape_fault, bounds_fault}
use Rattle.image_acts.specs.Acts as a
use Rattle.image_acts.specs.Acts.{selector}
use Rattle.image_acts.specs.Core.{Core, Own, Team, with_values, pushed}
use Rattle.image_acts.specs.Owning.{own_in}
use Rattle.image_acts.specs.Places.{Place, place_in, place_size, cells_of}
use Rattle.image_acts.specs.Teams.{is_in, index_in, team_in, current_team, members, members_of, behind_first, is_established, sibling_in, numbered_team, index_of, are_within_cobounds, cosubscripts_behind, member_at}
use Rattle.image_acts.specs.Taking.{Acted, unless, put_down, seeing, giving}
use Rattle.image_acts.specs.Operate.Bounds.{owned}
use Rattle.image_acts.specs.Operate.Selecting.{teamed, selector_effect}
use Rattle.image_acts.specs.Meaning.{effect_of}
use Rattle.kind_walks.specs.Kinds.{Typing, IsSo, with_number, with_array}
use Rattle.kind_walks.specs.Suiting.{Joined}
use Rattle.kind_walks.proofs.Numbers.{small_fits}
use Rattle.kind_walks.proofs.Effects.{with_numbers, push, so, so_as, either_way, owns, teams, settles, one, top, many, takes}
use Rattle.kind_walks.proofs.StackActs.{Acts, To}
use Rattle.kind_expressions.proofs.PlaceActs.{sees}

-- ---- indices and counts
abbrev further : ℕ → ℕ
further zero = 0
further (suc i) = suc (suc i)

further_few : (i m : ℕ) → i ≤ m → further i ≤ suc m
further_few zero m h = omega arith
further_few (suc i) m h = omega arith

index_few : (i : ℕ) (ms : List ℕ) → index_in i ms ≤ length ms
index_few i [] = omega arith
index_few i (m ∷ ms) = by_test (nat_eq m i) (index_few i ms)
  where
    by_test : (b : Bool) → index_in i ms ≤ length ms → cond b 1 (further (index_in i ms)) ≤ suc (length ms)
    by_test true h = omega arith
    by_test false h = further_few (index_in i ms) (length ms) h

in_team : (n i : ℕ) (b : Bool) → nat_le i n ≡ b → cond b i 0 ≤ n
in_team n i true e = (let z = e in grind arith)
in_team n i false e = omega arith

image_few : (o : Own) (ss : List ℤ) (m : ℕ) → index_of o ss m ≤ m
image_few o ss m = by_test (are_within_cobounds o.lowers o.extents ss)
  where
    i : ℕ
    i = image_order o.lowers o.extents ss + 1

    by_test : (b : Bool) → cond b (cond (nat_le i m) i 0) 0 ≤ m
    by_test true = in_team m i (nat_le i m) refl
    by_test false = omega arith

module _ (n : ℕ) where
  abbrev IsFew : Team → Type 0
  IsFew k = length k.members ≤ 2 * n

  few_in : (t : ℕ) (ks : List Team) → Each IsFew ks → length (members_of (team_in t ks)) ≤ 2 * n
  few_in t [] h = omega arith
  few_in t (k ∷ ks) h = by_test (nat_eq k.team t) (few_in t ks h.1)
    where
      by_test : (b : Bool) → length (members_of (team_in t ks)) ≤ 2 * n → length (members_of (cond b (Some k) (team_in t ks))) ≤ 2 * n
      by_test true g = h.0
      by_test false g = g

  sibling_few : (k : Team) (v : ℤ) (ks : List Team) → Each IsFew ks → (x : Team) → sibling_in k v ks ≡ Some x → IsFew x
  sibling_few k v [] h x e = absurd (cc)
  sibling_few k v (i ∷ ks) h x e = by_test (nat_eq i.parent k.parent && (nat_eq i.round k.round && int_eq i.number v)) e (λ f. sibling_few k v ks h.1 x f)
    where
      by_test : (b : Bool) → cond b (Some i) (sibling_in k v ks) ≡ Some x → (sibling_in k v ks ≡ Some x → IsFew x) → IsFew x
      by_test true e g = (let f : i ≡ x = cc in subst IsFew f h.0)
      by_test false e g = g e

  abbrev sibling_of : Option Team → ℤ → List Team → Option Team
  sibling_of None v ks = None
  sibling_of (Some k) v ks = sibling_in k v ks

  sibling_so : (o : Option Team) (v : ℤ) (ks : List Team) → Each IsFew ks → (x : Team) → sibling_of o v ks ≡ Some x → IsFew x
  sibling_so None v ks h x e = absurd (cc)
  sibling_so (Some k) v ks h x e = sibling_few k v ks h x e

module _ (coarrays : List Declared) (n : ℕ) (few : 2 * n ≤ 2147483647) where
  abbrev small : Typing → Typing
  small s = with_number (Some kinds.I4) s

  abbrev any : Typing → Typing
  any s = with_number None s

  counts : (s : Typing) (j : Joined) (c : Core) (m : ℕ) → m ≤ 2 * n → IsSo n s c → To coarrays n (small s) j (giving (pos m) c)
  counts s j c m l h = push n (Some kinds.I4) s c (pos m) (small_fits m (omega arith)) h

  gives : (s : Typing) (j : Joined) (c : Core) (v : ℤ) → IsSo n s c → To coarrays n (any s) j (giving v c)
  gives s j c v h = push n None s c v tt h

  -- ---- images
  pub acts_own_image : (rank : ℕ) (s : Typing) → Acts coarrays n s (selector (a.own_image rank)) (any s)
  acts_own_image rank s j c h =
      settles n coarrays (any s) j (selector (a.own_image rank)) (selector_effect (a.own_image rank) c)
      (sees coarrays n (any s) j 0 (place_size rank) c (λ ns. unless cells_fault (nat_le (cells_of (place_in ns)) most_access_cells) (giving (pos c.me) c))
      (λ ns. so n coarrays (any s) j cells_fault (nat_le (cells_of (place_in ns)) most_access_cells) (giving (pos c.me) c) (gives s j c (pos c.me) h)))

  abbrev selected : Core → ℕ → Own → Place → ℕ → Acted
  selected c t o p i =
      unless cobounds_fault (not (i == 0) || (cells_of p == 0)) (unless not_established (is_established c o.team t) (unless cells_fault (nat_le (cells_of p) most_access_cells) (giving (pos (member_at (members c t) i)) c)))

  abbrev owner_in : Core → ℕ → Option Own → List ℤ → Place → Acted
  owner_in c t None ss p = faults not_established
  owner_in c t (Some o) ss p = selected c t o p (index_of o ss (length (members c t)))

  owned_so : (s : Typing) (j : Joined) (c : Core) (t : ℕ) (o : Option Own) (ss : List ℤ) (p : Place) → IsSo n s c → To coarrays n (any s) j (owner_in c t o ss p)
  owned_so s j c t None ss p h = tt
  owned_so s j c t (Some o) ss p h =
      let i = index_of o ss (length (members c t)) in
      let last = giving (pos (member_at (members c t) i)) c in
      let third = unless cells_fault (nat_le (cells_of p) most_access_cells) last in
      so n coarrays (any s) j cobounds_fault (not (i == 0) || (cells_of p == 0)) (unless not_established (is_established c o.team t) third)
      (so n coarrays (any s) j not_established (is_established c o.team t) third
      (so n coarrays (any s) j cells_fault (nat_le (cells_of p) most_access_cells) last (gives s j c (pos (member_at (members c t) i)) h)))

  pub acts_owner : (i : Option Kind) (ks : List (Option Kind)) (k rank corank : ℕ) → length ks ≡ corank → (s : Typing) → Acts coarrays n (with_number i (with_numbers ks s)) (selector (a.owner k rank corank)) (any s)
  acts_owner i ks k rank corank e s j c h =
      one n coarrays (any s) j i (with_numbers ks s) c h (effect_of (selector (a.owner k rank corank))) (λ t b ht hb.
      many n coarrays (any s) j ks s b hb (λ b. effect_of (selector (a.owner k rank corank)) (pushed t b)) (λ xs d l g hd.
      settles n coarrays (any s) j (selector (a.owner k rank corank)) (selector_effect (a.owner k rank corank) (pushed t (with_values d (xs ++ d.values))))
      (takes n coarrays (any s) j corank xs d.values (λ p. seeing 0 (place_size rank) (with_values d p.1) (λ ns. owner_in (with_values d p.1) (natural t) (own_in (with_values d p.1) k) p.0 (place_in ns))) (l ∙ e)
      (sees coarrays n (any s) j 0 (place_size rank) d (λ ns. owner_in d (natural t) (own_in d k) (put_down xs []) (place_in ns)) (λ ns. owned_so s j d (natural t) (own_in d k) (put_down xs []) (place_in ns) hd)))))

  -- ---- teams
  pub acts_this_team : (s : Typing) → Acts coarrays n s (selector a.this_team) (any s)
  acts_this_team s j c h = gives s j c (pos (current_team c)) h

  pub acts_team_value : (i : Option Kind) (s : Typing) → Acts coarrays n (with_number i s) (selector a.team_value) (any s)
  acts_team_value i s j c h =
      one n coarrays (any s) j i s c h (effect_of (selector a.team_value)) (λ v d hv hd.
      settles n coarrays (any s) j (selector a.team_value) (selector_effect a.team_value (pushed v d)) (so n coarrays (any s) j no_team (is_in (natural v) d.teams) (giving v d) (gives s j d v hd)))

  pub acts_sibling_team : (i : Option Kind) (s : Typing) → Acts coarrays n (with_number i s) (selector a.sibling_team) (any s)
  acts_sibling_team i s j c h =
      one n coarrays (any s) j i s c h (effect_of (selector a.sibling_team)) (λ v d hv hd.
      settles n coarrays (any s) j (selector a.sibling_team) (selector_effect a.sibling_team (pushed v d))
      (teams n coarrays (any s) j (numbered_team d v) (λ k. giving (pos k.team) d) (λ k f. gives s j d (pos k.team) hd)))

  abbrev parent_of : List ℕ → ℕ
  parent_of ts = elim (behind_first ts) [ [] ↦ 1 | u ∷ us ↦ u ]

  abbrev team_of_level : Core → ℤ → Acted
  team_of_level c v = cond (int_eq v (pos 1)) (giving (pos 1) c) (cond (int_eq v (pos 2)) (giving (pos (parent_of c.teams)) c) (cond (int_eq v (pos 3)) (giving (pos (current_team c)) c) (faults no_team)))

  pub acts_get_team : (i : Option Kind) (s : Typing) → Acts coarrays n (with_number i s) (selector a.get_team) (any s)
  acts_get_team i s j c h =
      one n coarrays (any s) j i s c h (effect_of (selector a.get_team)) (λ v d hv hd.
      let third = cond (int_eq v (pos 3)) (giving (pos (current_team d)) d) (faults no_team) in
      let second = cond (int_eq v (pos 2)) (giving (pos (parent_of d.teams)) d) third in
      settles n coarrays (any s) j (selector a.get_team) (team_of_level d v)
      (either_way n coarrays (any s) j (int_eq v (pos 1)) (giving (pos 1) d) second (gives s j d (pos 1) hd)
      (either_way n coarrays (any s) j (int_eq v (pos 2)) (giving (pos (parent_of d.teams)) d) third (gives s j d (pos (parent_of d.teams)) hd)
      (either_way n coarrays (any s) j (int_eq v (pos 3)) (giving (pos (current_team d)) d) (faults no_team) (gives s j d (pos (current_team d)) hd) tt))))

  pub acts_team_number : (i : Option Kind) (s : Typing) → Acts coarrays n (with_number i s) (selector a.team_number) (any s)
  acts_team_number i s j c h =
      one n coarrays (any s) j i s c h (effect_of (selector a.team_number)) (λ v d hv hd.
      settles n coarrays (any s) j (selector a.team_number) (selector_effect a.team_number (pushed v d))
      (teams n coarrays (any s) j (team_in (natural v) d.known) (λ k. giving k.number d) (λ k f. gives s j d k.number hd)))

  -- ---- counts and indices
  pub acts_own_index : (i : Option Kind) (s : Typing) → Acts coarrays n (with_number i s) (selector a.own_index) (small s)
  acts_own_index i s j c h =
      one n coarrays (small s) j i s c h (effect_of (selector a.own_index)) (λ v d hv hd.
      let ms = members d (natural v) in
      counts s j d (index_in d.me ms) (let p : index_in d.me ms ≤ length ms = index_few d.me ms in let q : length ms ≤ 2 * n = few_in n (natural v) d.known hd.known in omega arith) hd)

  pub acts_image_count : (i : Option Kind) (s : Typing) → Acts coarrays n (with_number i s) (selector a.image_count) (small s)
  acts_image_count i s j c h =
      one n coarrays (small s) j i s c h (effect_of (selector a.image_count)) (λ v d hv hd. counts s j d (length (members d (natural v))) (few_in n (natural v) d.known hd.known) hd)

  pub acts_count_of_number : (i : Option Kind) (s : Typing) → Acts coarrays n (with_number i s) (selector a.image_count_of_number) (small s)
  acts_count_of_number i s j c h =
      one n coarrays (small s) j i s c h (effect_of (selector a.image_count_of_number)) (λ v d hv hd.
      settles n coarrays (small s) j (selector a.image_count_of_number) (selector_effect a.image_count_of_number (pushed v d))
      (either_way n coarrays (small s) j (int_eq v (negsuc 0)) (giving (pos d.images) d) (teamed (numbered_team d v) (λ k. giving (pos (length k.members)) d))
      (counts s j d d.images (let e : d.images ≡ n = hd.images in omega arith) hd)
      (teams n coarrays (small s) j (numbered_team d v) (λ k. giving (pos (length k.members)) d)
      (λ k f. counts s j d (length k.members) (sibling_so n (team_in (current_team d) d.known) v d.known hd.known k f) hd))))

  pub acts_image_index : (i y : Option Kind) (k corank : ℕ) (s : Typing) → Acts coarrays n (with_number i (with_array y s)) (selector (a.image_index k corank)) (small s)
  acts_image_index i y k corank s j c h =
      one n coarrays (small s) j i (with_array y s) c h (effect_of (selector (a.image_index k corank))) (λ t b ht hb.
      top n coarrays (small s) j y s b hb (λ b. effect_of (selector (a.image_index k corank)) (pushed t b)) (λ x d hx hd.
      let ms = members d (natural t) in
      settles n coarrays (small s) j (selector (a.image_index k corank)) (selector_effect (a.image_index k corank) (pushed t (record d { arrays = x ∷ d.arrays })))
      (so n coarrays (small s) j shape_fault (length x.elements == corank) (owned (own_in d k) (λ o. giving (pos (index_of o x.elements (length ms))) d))
      (owns n coarrays (small s) j (own_in d k) (λ o. giving (pos (index_of o x.elements (length ms))) d)
      (λ o. counts s j d (index_of o x.elements (length ms))
      (let p : index_of o x.elements (length ms) ≤ length ms = image_few o x.elements (length ms) in let q : length ms ≤ 2 * n = few_in n (natural t) d.known hd.known in omega arith) hd)))))

  abbrev numbered_cosubscript : List ℤ → ℕ → Core → Acted
  numbered_cosubscript ss zero c = faults bounds_fault
  numbered_cosubscript ss (suc i) c = elim (slice_get ss i) [ None ↦ faults bounds_fault | Some v ↦ unless overflow (fits_kind kinds.I4 v) (giving v c) ]

  cosubscript_so : (ss : List ℤ) (m : ℕ) (s : Typing) (j : Joined) (c : Core) → IsSo n s c → To coarrays n (small s) j (numbered_cosubscript ss m c)
  cosubscript_so ss zero s j c h = tt
  cosubscript_so ss (suc m) s j c h = by_number (slice_get ss m)
    where
      by_number : (o : Option ℤ) → To coarrays n (small s) j (elim o [ None ↦ faults bounds_fault | Some v ↦ unless overflow (fits_kind kinds.I4 v) (giving v c) ])
      by_number None = tt
      by_number (Some v) = so_as n coarrays (small s) j overflow (fits_kind kinds.I4 v) (giving v c) (λ e. push n (Some kinds.I4) s c v e h)

  pub acts_cosubscript : (i l : Option Kind) (k : ℕ) (s : Typing) → Acts coarrays n (with_number l (with_number i s)) (selector (a.cosubscript k)) (small s)
  acts_cosubscript i l k s j c h =
      one n coarrays (small s) j l (with_number i s) c h (effect_of (selector (a.cosubscript k))) (λ t b ht hb.
      one n coarrays (small s) j i s b hb (λ b. effect_of (selector (a.cosubscript k)) (pushed t b)) (λ dim d hi hd.
      let ss : Own → List ℤ = λ o. cosubscripts_behind o.lowers o.extents (index_in d.me (members d (natural t)) - 1) in
      settles n coarrays (small s) j (selector (a.cosubscript k)) (selector_effect (a.cosubscript k) (pushed t (pushed dim d)))
      (owns n coarrays (small s) j (own_in d k) (λ o. numbered_cosubscript (ss o) (natural dim) d) (λ o. cosubscript_so (ss o) (natural dim) s j d hd))))

  pub acts_is_root : (i : Option Kind) (s : Typing) → Acts coarrays n (with_number i s) (selector a.is_root) (with_number (Some kinds.L4) s)
  acts_is_root i s j c h =
      one n coarrays (with_number (Some kinds.L4) s) j i s c h (effect_of (selector a.is_root))
      (λ v d hv hd. push n (Some kinds.L4) s d (truth (int_eq v (pos 0) || int_eq v (pos (index_in d.me (members d (current_team d)))))) refl hd)
