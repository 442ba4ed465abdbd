-- What acts on coarrays do, by the definitions of this crate.
use Rattle.std.proofs.Common.{◌≡◌, ℕ, zero, suc, ◌+◌, ◌-◌, ℤ, pos, Bool, true, false, ◌&&◌, cond, List, take, length, refl, ap}
use Rattle.std.specs.Prelude.{Option, Some, None, ◌||◌, ◌==◌, not, nat_le, slice_get}
use Rattle.std.proofs.Math.Path.{fun_ext}
use Rattle.caf_base.specs.declared.value.Kind.TheVariants as kinds
use Rattle.caf_base.specs.Arithmetic.{fits_kind, natural}
use Rattle.coarray_types.specs.Places.{size_of}
use Rattle.walk_theory.specs.Language.{goes_to, faults, stuck}
use Rattle.walk_theory.specs.Terms.{found, at_fault}
use Rattle.image_acts.specs.Core.{Core, Own, with_values}
use Rattle.image_acts.specs.Faults.{room, bounds_fault, overflow, shape_fault, cobounds_fault, not_established, cells_fault}
use Rattle.image_acts.specs.Frames.{pairs_in}
use Rattle.image_acts.specs.Owning.{own_in, with_own}
use Rattle.image_acts.specs.Places.{Place, place_in, place_size, place_within, place_numbers, no_place, subscripts_in, triplets, digits, numbers_of_form, cells_of}
use Rattle.image_acts.specs.Statuses.{most_cells, most_access_cells}
use Rattle.image_acts.specs.Taking.{Acted, given, found_in, unless, giving, put_down, seeing, taking, taking_array, taking_one}
use Rattle.image_acts.specs.Teams.{current_team, index_of, index_in, is_established, member_at, members, cosubscripts_behind}
use Rattle.image_acts.specs.Operate.Allocating.{allocation_effect, bounds_size, cobounds_size}
use Rattle.image_acts.specs.Operate.Bounds.{bounds_effect, owned}
use Rattle.image_acts.specs.Operate.Selecting.{selector_effect}
use Rattle.image_acts.specs.Acts as a
use Rattle.array_places.specs.Images.{numbered_in, of_kind_4}
use Rattle.coarray_tables.specs.Owns as owns
use Rattle.coarray_tables.specs.Owns.{Owned, own_at}
use Rattle.coarray_tables.specs.Images.{index_found, own_cosubscript, own_index, owner_found}
use Rattle.coarray_tables.specs.Sections.{own_place}
use Rattle.coarray_tables.specs.Steps.{made_team, owned_by, with_owned}

abbrev co_placing : Option Own → List ℕ → List ℤ → Core → Acted
co_placing None ds vs c = goes_to (with_values c (put_down (place_numbers (no_place (triplets ds))) c.values))
co_placing (Some o) ds vs c = found_in (place_within o.bounds (subscripts_in ds vs)) (λ p. goes_to (with_values c (put_down (place_numbers p) c.values)))

placed : (o : Option Own) (ds : List ℕ) (vs : List ℤ) (c : Core) → co_placing o ds vs c ≡ found_in (own_place o ds vs) (λ p. goes_to (with_values c (put_down (place_numbers p) c.values)))
placed None ds vs c = refl
placed (Some o) ds vs c = refl

pub section_agrees : (k form : ℕ) (c : Core) → bounds_effect (a.co_section k form) c
    ≡ taking (numbers_of_form (digits form)) c (λ vs d. found_in (own_place (own_at d.coarrays k) (digits form) vs) (λ p. goes_to (with_values d (put_down (place_numbers p) d.values))))
section_agrees k form c = ap (taking (numbers_of_form (digits form)) c) (fun_ext (λ vs. fun_ext (λ d. placed (own_in d k) (digits form) vs d)))

-- the image of cosubscripts
chosen : (x y z : Bool) (m : ℕ) (c : Core) → unless cobounds_fault x (unless not_established y (unless cells_fault z (giving (pos m) c)))
    ≡ found_in (cond x (cond y (cond z (found m) (at_fault cells_fault)) (at_fault not_established)) (at_fault cobounds_fault)) (λ i. giving (pos i) c)
chosen true true true m c = refl
chosen true true false m c = refl
chosen true false z m c = refl
chosen false y z m c = refl

abbrev owner_in : Core → ℕ → Option Own → List ℤ → Place → Acted
owner_in c t None ss p = faults not_established
owner_in c t (Some o) ss p =
    unless cobounds_fault (not (index_of o ss (length (members c t)) == 0) || (cells_of p == 0))
    (unless not_established (is_established c o.team t) (unless cells_fault (nat_le (cells_of p) most_access_cells) (giving (pos (member_at (members c t) (index_of o ss (length (members c t))))) c)))

owner_is : (c : Core) (t : ℕ) (o : Option Own) (ss : List ℤ) (p : Place) → owner_in c t o ss p ≡ found_in (owner_found o (is_established c (made_team o) t) (members c t) ss p) (λ i. giving (pos i) c)
owner_is c t None ss p = refl
owner_is c t (Some o) ss p =
    let i = index_of o ss (length (members c t)) in
    chosen (not (i == 0) || (cells_of p == 0)) (is_established c o.team t) (nat_le (cells_of p) most_access_cells) (member_at (members c t) i) c

pub owner_agrees : (k rank corank : ℕ) (c : Core) → selector_effect (a.owner k rank corank) c
    ≡ taking_one c (λ t d. taking corank d (λ ss e. seeing 0 (place_size rank) e (λ ns. found_in
    (owner_found (own_at e.coarrays k) (is_established e (made_team (own_at e.coarrays k)) (natural t)) (members e (natural t)) ss (place_in ns)) (λ i. giving (pos i) e))))
owner_agrees k rank corank c =
    ap (taking_one c) (fun_ext (λ t. fun_ext (λ d. ap (taking corank d) (fun_ext (λ ss. fun_ext (λ e. ap (seeing 0 (place_size rank) e) (fun_ext (λ ns. owner_is e (natural t) (own_in e k) ss (place_in ns)))))))))

-- the index of cosubscripts
indexed : (b : Bool) (o : Option Own) (ss : List ℤ) (n : ℕ) (c : Core) → unless shape_fault b (owned o (λ p. giving (pos (index_of p ss n)) c))
    ≡ found_in (cond b (own_index o ss n) (at_fault shape_fault)) (λ i. giving (pos i) c)
indexed false o ss n c = refl
indexed true None ss n c = refl
indexed true (Some o) ss n c = refl

pub index_agrees : (k corank : ℕ) (c : Core) → selector_effect (a.image_index k corank) c
    ≡ taking_one c (λ t d. taking_array d (λ x e. found_in (index_found (own_at e.coarrays k) corank x.elements (length (members e (natural t)))) (λ i. giving (pos i) e)))
index_agrees k corank c = ap (taking_one c) (fun_ext (λ t. fun_ext (λ d. ap (taking_array d) (fun_ext (λ x. fun_ext (λ e. indexed (length x.elements == corank) (own_in e k) x.elements (length (members e (natural t))) e))))))

-- cosubscripts
fits_or_not : (b : Bool) (v : ℤ) (c : Core) → unless overflow b (giving v c) ≡ found_in (cond b (found v) (at_fault overflow)) (λ w. giving w c)
fits_or_not true v c = refl
fits_or_not false v c = refl

there_or_not : (o : Option ℤ) (c : Core) → elim o [ None ↦ faults bounds_fault | Some v ↦ unless overflow (fits_kind kinds.I4 v) (giving v c) ] ≡ found_in (of_kind_4 o) (λ w. giving w c)
there_or_not None c = refl
there_or_not (Some v) c = fits_or_not (fits_kind kinds.I4 v) v c

abbrev numbered_cosubscript : List ℤ → ℕ → Core → Acted
numbered_cosubscript ss zero c = faults bounds_fault
numbered_cosubscript ss (suc i) c = elim (slice_get ss i) [ None ↦ faults bounds_fault | Some v ↦ unless overflow (fits_kind kinds.I4 v) (giving v c) ]

numbered_is : (ss : List ℤ) (n : ℕ) (c : Core) → numbered_cosubscript ss n c ≡ found_in (of_kind_4 (numbered_in ss n)) (λ w. giving w c)
numbered_is ss zero c = refl
numbered_is ss (suc i) c = there_or_not (slice_get ss i) c

cosubscript_is : (o : Option Own) (n : ℕ) (dim : ℤ) (c : Core) → owned o (λ p. numbered_cosubscript (cosubscripts_behind p.lowers p.extents n) (natural dim) c) ≡ found_in (own_cosubscript o n dim) (λ w. giving w c)
cosubscript_is None n dim c = refl
cosubscript_is (Some o) n dim c = numbered_is (cosubscripts_behind o.lowers o.extents n) (natural dim) c

pub cosubscript_agrees : (k : ℕ) (c : Core) → selector_effect (a.cosubscript k) c
    ≡ taking_one c (λ t d. taking_one d (λ dim e. found_in (own_cosubscript (own_at e.coarrays k) (index_in e.me (members e (natural t)) - 1) dim) (λ v. giving v e)))
cosubscript_agrees k c = ap (taking_one c) (fun_ext (λ t. fun_ext (λ d. ap (taking_one d) (fun_ext (λ dim. fun_ext (λ e. cosubscript_is (own_in e k) (index_in e.me (members e (natural t)) - 1) dim e))))))

-- notes
noting : (x y : Bool) (n : Owned) (c : Core) → unless room x (unless room y (goes_to (with_owned n c))) ≡ elim (cond x (cond y (Some n) None) None) [ None ↦ faults room | Some m ↦ goes_to (with_owned m c) ]
noting true true n c = refl
noting true false n c = refl
noting false y n c = refl

pub note_agrees : (k depth rank corank : ℕ) (c : Core) → allocation_effect (a.note_made k depth rank corank) c
    ≡ seeing depth (bounds_size rank + cobounds_size corank) c (λ vs. elim (owns.noted (owned_by c) k rank corank vs (current_team c)) [ None ↦ faults room | Some n ↦ goes_to (with_owned n c) ])
note_agrees k depth rank corank c = ap (seeing depth (bounds_size rank + cobounds_size corank) c) (fun_ext (λ vs. noting (nat_le rank 3 && nat_le corank 3)
    (nat_le (c.coarray_cells + size_of (pairs_in (take (bounds_size rank) vs))) most_cells) _ c))

abbrev own_freed : ℕ → Option Own → Core → Acted
own_freed k None c = stuck
own_freed k (Some o) c = goes_to (with_own k None (c.coarray_cells - size_of o.bounds) c)

freeing : (k : ℕ) (o : Option Own) (c : Core) → own_freed k o c ≡ given (owns.freed_own (owned_by c) k o) (λ n. goes_to (with_owned n c))
freeing k None c = refl
freeing k (Some o) c = refl

pub freed_agrees : (k : ℕ) (c : Core) → allocation_effect (a.note_freed k) c ≡ given (owns.freed (owned_by c) k) (λ n. goes_to (with_owned n c))
freed_agrees k c = freeing k (own_in c k) c
