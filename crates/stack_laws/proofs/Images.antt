-- Allocation, images and teams that are named, calls and output.
use Rattle.std.proofs.Common.{◌≡◌, ℕ, zero, suc, ◌+◌, Bool, true, List, [], ◌∷◌, ◌++◌, length, refl, ap, sym, ◌∙◌, subst, append_assoc, arith}
use Rattle.std.specs.Prelude.{ℤ, pos, ◌-◌, ◌==◌, ◌&&◌, ◌||◌, not, int_le, nat_le, take, drop, slice_get, is_some, Option, None, Some}
use Rattle.std.specs.List.{list_all}
use Rattle.walk_theory.specs.Language.{goes_to, faults, stuck}
use Rattle.caf_base.specs.declared.value.Kind.TheVariants as kinds
use Rattle.caf_base.specs.Arithmetic.{fits_kind, natural}
use Rattle.coarray_types.specs.Places.{size_of}
use Rattle.image_acts.specs.Statuses.{most_cells, most_access_cells, most_portions}
use Rattle.image_acts.specs.Faults.{room, cobounds_fault, not_established, cells_fault, bounds_fault, overflow}
use Rattle.image_acts.specs.Acts as a
use Rattle.image_acts.specs.Core.{Core, Frame, Local, Own, Item, Portion, Printing, with_values, pushed}
use Rattle.image_acts.specs.Places.{Place, place_in, place_size, cells_of}
use Rattle.image_acts.specs.Frames.{pairs_in, array_in, with_array_in, zeros_in}
use Rattle.image_acts.specs.Owning.{own_in}
use Rattle.image_acts.specs.Teams.{members, index_of, is_established, member_at, cosubscripts_behind, index_in}
use Rattle.image_acts.specs.Taking.{Acted, giving, telling, unless, taking, seeing}
use Rattle.image_acts.specs.Operate.Variables.{if_room}
use Rattle.image_acts.specs.Operate.Allocating.{allocation_effect, bounds_size, cobounds_size, planned, is_well, laid, made}
use Rattle.image_acts.specs.Operate.Selecting.{selector_effect}
use Rattle.image_acts.specs.Operate.Teaming.{team_effect}
use Rattle.image_acts.specs.Operate.Calling.{call_effect}
use Rattle.image_acts.specs.Operate.Printing.{print_effect, printed, renewed, with_values_behind, with_literal_behind, open_portions}
use Rattle.image_code.specs.Sizes.{allocation_size, selector_size, team_size, call_size, print_size}
use Rattle.stack_laws.specs.Exact.{No, Stand, Kept, kept_of}
use Rattle.stack_laws.proofs.Standing.{Fine, fine, goes, fault, no_operand, there_or, so, owns, takes, sees, of_none, of_one, of_two, stand_of, parted}
use Rattle.stack_laws.proofs.Arrays.{array_values, array_kept}

-- ---- allocation
abbrev Allotted : a.AllocationAct → Core → List ℤ → List ℤ → Type 0
Allotted x c xs vs = Fine No (kept_of c) (allocation_size x).leaves.numbers vs (allocation_effect x (with_values c (xs ++ vs)))

abbrev are_of_kind_4 : List ℤ → Bool
are_of_kind_4 vs = list_all (fits_kind kinds.I4) vs

abbrev are_cobounds : List ℤ → Bool
are_cobounds [] = true
are_cobounds (l ∷ []) = true
are_cobounds (l ∷ u ∷ vs) = int_le l u && are_cobounds vs

-- three numbers of a plan, in the place of three
plans : (well : Bool) (i j : ℕ) (us : List ℤ) (m : ℕ) (c : Core) (zs vs : List ℤ) → length zs + 3 ≡ m → Fine No (kept_of c) m vs (planned well i j us (with_values c (zs ++ vs)))
plans well i j (x ∷ y ∷ z ∷ []) m c zs vs e = goes No (kept_of c) m vs _ (stand_of m (_ ∷ _ ∷ _ ∷ zs) vs (omega arith)) refl
plans well i j us m c zs vs e = no_operand No (kept_of c) m vs

planned_on : (well : List ℤ → Core → Bool) (i j : List ℤ → ℕ) (depth n m : ℕ) (c : Core) (ys zs vs : List ℤ) → length ys ≡ 3 → length zs + 3 ≡ m
    → Fine No (kept_of c) m vs (seeing depth n (with_values c (ys ++ (zs ++ vs))) (λ us. taking 3 (with_values c (ys ++ (zs ++ vs))) (λ plan d. planned (well us d) (i us) (j us) plan d)))
planned_on well i j depth n m c ys zs vs e f =
    let d = with_values c (ys ++ (zs ++ vs)) in
    sees No (kept_of c) m vs depth n d (λ us. taking 3 d (λ plan d. planned (well us d) (i us) (j us) plan d))
    (λ us g. takes No (kept_of c) m vs 3 c ys (zs ++ vs) (λ plan d. planned (well us d) (i us) (j us) plan d) e (λ plan h. plans (well us (with_values c (zs ++ vs))) (i us) (j us) plan m c zs vs f))

as_planned : (x : a.AllocationAct) (m : ℕ) (c : Core) (xs vs : List ℤ) → length xs ≡ 3 + m
    → ((ys zs : List ℤ) → length ys ≡ 3 → length zs + 3 ≡ 3 + m → Fine No (kept_of c) (3 + m) vs (allocation_effect x (with_values c (ys ++ (zs ++ vs))))) → Fine No (kept_of c) (3 + m) vs (allocation_effect x (with_values c (xs ++ vs)))
as_planned x m c xs vs h g =
    let p = parted 3 m xs h in
    let e : xs ++ vs ≡ p.0 ++ (p.1 ++ vs) = ap (λ z. z ++ vs) p.4 ∙ append_assoc p.0 p.1 vs in
    subst (λ z. Fine No (kept_of c) (3 + m) vs (allocation_effect x (with_values c z))) (sym e) (g p.0 p.1 p.2 (let l = p.3 in omega arith))

laid_fine : (s : a.Scope) (x rank : ℕ) (bs : List (ℤ × ℤ)) (c : Core) (m : ℕ) (vs : List ℤ) → Stand m vs c.values → Fine No (kept_of c) m vs (laid s x rank bs c)
laid_fine s x rank bs c m vs st =
    let d = with_array_in s x (Some (zeros_in bs)) c in
    so No (kept_of c) m vs room (nat_le rank 3) (if_room d)
    (so No (kept_of c) m vs room _ (goes_to d) (goes No (kept_of c) m vs d (subst (Stand m vs) (sym (array_values s x (Some (zeros_in bs)) c)) st) (array_kept s x (Some (zeros_in bs)) c)))

made_fine : (s : a.Scope) (x rank : ℕ) (bs : List (ℤ × ℤ)) (c : Core) (m : ℕ) (vs : List ℤ) → Stand m vs c.values → Fine No (kept_of c) m vs (made s x rank bs c)
made_fine s x rank bs c m vs st =
    let d = record c { local_cells = c.local_cells + size_of bs } in
    so No (kept_of c) m vs room (nat_le (c.local_cells + size_of bs) most_cells) (laid s x rank bs d) (laid_fine s x rank bs d m vs st)

abbrev freed : a.Scope → ℕ → Option Local → Core → Acted
freed s x None c = stuck
freed s x (Some l) c = goes_to (record (with_array_in s x None c) { local_cells = c.local_cells - length l.elements })

frees : (s : a.Scope) (x : ℕ) (o : Option Local) (c : Core) → Fine No (kept_of c) 0 c.values (freed s x o c)
frees s x None c = no_operand No (kept_of c) 0 c.values
frees s x (Some l) c = search fine

-- those that leave the coarrays as they are
abbrev pub IsOfLocals : a.AllocationAct → Type 0
IsOfLocals (a.note_made k depth rank corank) = ⊥
IsOfLocals (a.note_freed k) = ⊥
IsOfLocals x = Unit {0}

pub exact_allocation : (x : a.AllocationAct) → IsOfLocals x → (c : Core) (xs vs : List ℤ) → length xs ≡ (allocation_size x).takes.numbers → Allotted x c xs vs
exact_allocation a.begin_plan f c xs vs h = of_none No (kept_of c) 3 vs c (allocation_effect a.begin_plan) xs vs h (search fine)
exact_allocation (a.plan_coarray k depth rank corank) f c xs vs h =
    let n = depth + 3 + bounds_size rank + cobounds_size corank in
    let m = depth + bounds_size rank + cobounds_size corank in
    let e : n ≡ 3 + m = omega arith in
    subst (λ z. Fine No (kept_of c) z vs (allocation_effect (a.plan_coarray k depth rank corank) (with_values c (xs ++ vs)))) (sym e)
    (as_planned (a.plan_coarray k depth rank corank) m c xs vs (h ∙ e)
    (λ ys zs i j. planned_on (λ us d. not (is_some (own_in d k)) && (are_of_kind_4 us && are_cobounds (drop (bounds_size rank) us))) (λ us. size_of (pairs_in (take (bounds_size rank) us))) (λ us. 0) (depth + 3) (bounds_size rank + cobounds_size corank) (3 + m) c ys zs vs i j))
exact_allocation (a.plan_local s x depth rank) f c xs vs h =
    let n = depth + 3 + bounds_size rank in
    let m = depth + bounds_size rank in
    let e : n ≡ 3 + m = omega arith in
    subst (λ z. Fine No (kept_of c) z vs (allocation_effect (a.plan_local s x depth rank) (with_values c (xs ++ vs)))) (sym e)
    (as_planned (a.plan_local s x depth rank) m c xs vs (h ∙ e)
    (λ ys zs i j. planned_on (λ us d. not (is_some (array_in s x d)) && are_of_kind_4 us) (λ us. 0) (λ us. size_of (pairs_in us)) (depth + 3) (bounds_size rank) (3 + m) c ys zs vs i j))
exact_allocation a.end_plan f c xs vs h = takes No (kept_of c) 1 vs 3 c xs vs (λ plan d. telling (is_well plan) d) h (λ plan e. search fine)
exact_allocation (a.make s x depth rank) f c xs vs h =
    let d = with_values c (xs ++ vs) in
    let m = depth + bounds_size rank in
    sees No (kept_of c) m vs depth (bounds_size rank) d (λ us. made s x rank (pairs_in us) d) (λ us e. made_fine s x rank (pairs_in us) d m vs (stand_of m xs vs h))
exact_allocation (a.free s x) f c xs vs h = of_none No (kept_of c) 0 vs c (allocation_effect (a.free s x)) xs vs h (frees s x (array_in s x (with_values c vs)) (with_values c vs))
exact_allocation (a.note_made k depth rank corank) f c xs vs h = absurd f
exact_allocation (a.note_freed k) f c xs vs h = absurd f
exact_allocation (a.lay_out x rank) f c xs vs h =
    takes No (kept_of c) 0 vs (bounds_size rank) c xs vs (λ us d. laid a.here x rank (pairs_in us) d) h (λ us e. laid_fine a.here x rank (pairs_in us) (with_values c vs) 0 vs refl)

-- ---- images and teams
abbrev Selected : a.SelectorAct → Core → List ℤ → List ℤ → Type 0
Selected x c xs vs = Fine No (kept_of c) (selector_size x).leaves.numbers vs (selector_effect x (with_values c (xs ++ vs)))

own_image : (rank : ℕ) (c : Core) (xs vs : List ℤ) → length xs ≡ place_size rank → Selected (a.own_image rank) c xs vs
own_image rank c xs vs h =
    let d = with_values c (xs ++ vs) in
    let m = place_size rank + 1 in
    sees No (kept_of c) m vs 0 (place_size rank) d (λ ns. unless cells_fault (nat_le (cells_of (place_in ns)) most_access_cells) (giving (pos c.me) d))
    (λ ns e. so No (kept_of c) m vs cells_fault (nat_le (cells_of (place_in ns)) most_access_cells) (giving (pos c.me) d) (goes No (kept_of c) m vs (pushed (pos c.me) d) (stand_of m (pos c.me ∷ xs) vs (omega arith)) refl))

abbrev selected : Core → ℕ → Own → Place → ℕ → Acted
selected c t o p i =
    unless cobounds_fault (not (i == 0) || (cells_of p == 0)) (unless not_established (is_established c o.team t) (unless cells_fault (nat_le (cells_of p) most_access_cells) (giving (pos (member_at (members c t) i)) c)))

abbrev owner_in : Core → ℕ → Option Own → List ℤ → Place → Acted
owner_in c t None ss p = faults not_established
owner_in c t (Some o) ss p = selected c t o p (index_of o ss (length (members c t)))

owner_found : (c : Core) (m t : ℕ) (o : Option Own) (ss : List ℤ) (p : Place) (zs vs : List ℤ) → c.values ≡ zs ++ vs → length zs + 1 ≡ m → Fine No (kept_of c) m vs (owner_in c t o ss p)
owner_found c m t None ss p zs vs e f = fault No (kept_of c) m vs not_established
owner_found c m t (Some o) ss p zs vs e f =
    let i = index_of o ss (length (members c t)) in
    let v = pos (member_at (members c t) i) in
    so No (kept_of c) m vs cobounds_fault (not (i == 0) || (cells_of p == 0)) _
    (so No (kept_of c) m vs not_established (is_established c o.team t) _ (so No (kept_of c) m vs cells_fault (nat_le (cells_of p) most_access_cells) (giving v c)
    (goes No (kept_of c) m vs (pushed v c) (subst (λ z. Stand m vs (v ∷ z)) (sym e) (stand_of m (v ∷ zs) vs (omega arith))) refl)))

owner_on : (k rank corank : ℕ) (c : Core) (t : ℤ) (ys zs vs : List ℤ) → length ys ≡ corank → length zs ≡ place_size rank
    → Fine No (kept_of c) (place_size rank + 1) vs (selector_effect (a.owner k rank corank) (with_values c (t ∷ (ys ++ (zs ++ vs)))))
owner_on k rank corank c t ys zs vs e f =
    let m = place_size rank + 1 in
    takes No (kept_of c) m vs corank c ys (zs ++ vs) (λ ss e. seeing 0 (place_size rank) e (λ ns. owner_in e (natural t) (own_in e k) ss (place_in ns))) e
    (λ ss g. (
    let d = with_values c (zs ++ vs) in
    sees No (kept_of c) m vs 0 (place_size rank) d (λ ns. owner_in d (natural t) (own_in d k) ss (place_in ns)) (λ ns h. owner_found d m (natural t) (own_in d k) ss (place_in ns) zs vs refl (omega arith))))

owner : (k rank corank : ℕ) (c : Core) (xs vs : List ℤ) → length xs ≡ corank + place_size rank + 1 → Selected (a.owner k rank corank) c xs vs
owner k rank corank c [] vs h = absurd (let f : 0 ≡ corank + place_size rank + 1 = h in omega arith)
owner k rank corank c (t ∷ xs) vs h =
    let f : suc (length xs) ≡ corank + place_size rank + 1 = h in
    let p = parted corank (place_size rank) xs (omega arith) in
    let e : xs ++ vs ≡ p.0 ++ (p.1 ++ vs) = ap (λ z. z ++ vs) p.4 ∙ append_assoc p.0 p.1 vs in
    subst (λ z. Fine No (kept_of c) (place_size rank + 1) vs (selector_effect (a.owner k rank corank) (with_values c (t ∷ z)))) (sym e) (owner_on k rank corank c t p.0 p.1 vs p.2 p.3)

abbrev numbered_cosubscript : List ℤ → ℕ → Core → Acted
numbered_cosubscript ss zero c = faults bounds_fault
numbered_cosubscript ss (suc i) c = elim (slice_get ss i) [ None ↦ faults bounds_fault | Some v ↦ unless overflow (fits_kind kinds.I4 v) (giving v c) ]

cosubscript_found : (ss : List ℤ) (n : ℕ) (c : Core) → Fine No (kept_of c) 1 c.values (numbered_cosubscript ss n c)
cosubscript_found ss zero c = fault No (kept_of c) 1 c.values bounds_fault
cosubscript_found ss (suc i) c = there_or No (kept_of c) 1 c.values bounds_fault (slice_get ss i) (λ v. unless overflow (fits_kind kinds.I4 v) (giving v c)) (λ v. search fine)

pub exact_selector : (x : a.SelectorAct) (c : Core) (xs vs : List ℤ) → length xs ≡ (selector_size x).takes.numbers → Selected x c xs vs
exact_selector (a.own_image rank) c xs vs h = own_image rank c xs vs h
exact_selector (a.owner k rank corank) c xs vs h = owner k rank corank c xs vs h
exact_selector a.this_team c xs vs h = of_none No (kept_of c) 1 vs c (selector_effect a.this_team) xs vs h (search fine)
exact_selector a.team_value c xs vs h = of_one No (kept_of c) 1 vs c (selector_effect a.team_value) xs vs h (λ v. search fine)
exact_selector a.sibling_team c xs vs h = of_one No (kept_of c) 1 vs c (selector_effect a.sibling_team) xs vs h (λ v. search fine)
exact_selector a.get_team c xs vs h = of_one No (kept_of c) 1 vs c (selector_effect a.get_team) xs vs h (λ v. search fine)
exact_selector a.team_number c xs vs h = of_one No (kept_of c) 1 vs c (selector_effect a.team_number) xs vs h (λ v. search fine)
exact_selector a.own_index c xs vs h = of_one No (kept_of c) 1 vs c (selector_effect a.own_index) xs vs h (λ v. search fine)
exact_selector a.image_count c xs vs h = of_one No (kept_of c) 1 vs c (selector_effect a.image_count) xs vs h (λ v. search fine)
exact_selector a.image_count_of_number c xs vs h = of_one No (kept_of c) 1 vs c (selector_effect a.image_count_of_number) xs vs h (λ v. search fine)
exact_selector (a.image_index k corank) c xs vs h = of_one No (kept_of c) 1 vs c (selector_effect (a.image_index k corank)) xs vs h (λ v. search fine)
exact_selector (a.cosubscript k) c xs vs h =
    of_two No (kept_of c) 1 vs c (selector_effect (a.cosubscript k)) xs vs h
    (λ t dim. (
    let e = with_values c vs in
    owns No (kept_of c) 1 vs (own_in e k) (λ o. numbered_cosubscript (cosubscripts_behind o.lowers o.extents (index_in e.me (members e (natural t)) - 1)) (natural dim) e)
    (λ o. cosubscript_found (cosubscripts_behind o.lowers o.extents (index_in e.me (members e (natural t)) - 1)) (natural dim) e)))
exact_selector a.is_root c xs vs h = of_one No (kept_of c) 1 vs c (selector_effect a.is_root) xs vs h (λ v. search fine)

abbrev pub IsNoNote : a.TeamAct → Type 0
IsNoNote (a.note_teams s x) = ⊥
IsNoNote x = Unit {0}

pub exact_team : (x : a.TeamAct) → IsNoNote x → (c : Core) (xs vs : List ℤ) → length xs ≡ (team_size x).takes.numbers → Fine No (kept_of c) (team_size x).leaves.numbers vs (team_effect x (with_values c (xs ++ vs)))
exact_team a.child_team f c xs vs h = of_one No (kept_of c) 1 vs c (team_effect a.child_team) xs vs h (λ v. search fine)
exact_team a.near_team f c xs vs h = of_one No (kept_of c) 1 vs c (team_effect a.near_team) xs vs h (λ v. search fine)
exact_team a.make_current f c xs vs h = of_one No (kept_of c) 0 vs c (team_effect a.make_current) xs vs h (λ v. search fine)
exact_team a.leave_team f c xs vs h = of_none No (kept_of c) 0 vs c (team_effect a.leave_team) xs vs h (search fine)
exact_team (a.note_teams s x) f c xs vs h = absurd f

-- ---- calls
abbrev to_caller : Core → List Frame → Acted
to_caller c [] = stuck
to_caller c (f ∷ fs) = goes_to (record c { frame = f; callers = fs; local_cells = c.local_cells - c.frame.need; used = c.frame.base })

ends_frame : (c : Core) (fs : List Frame) → Fine No (kept_of c) 0 c.values (to_caller c fs)
ends_frame c [] = no_operand No (kept_of c) 0 c.values
ends_frame c (f ∷ fs) = search fine

pub exact_call : (x : a.CallAct) (c : Core) (xs vs : List ℤ) → length xs ≡ (call_size x).takes.numbers → Fine No (kept_of c) (call_size x).leaves.numbers vs (call_effect x (with_values c (xs ++ vs)))
exact_call (a.begin_frame cells arrays need) c xs vs h = of_none No (kept_of c) 0 vs c (call_effect (a.begin_frame cells arrays need)) xs vs h (search fine)
exact_call (a.copy_in x) c xs vs h = of_none No (kept_of c) 0 vs c (call_effect (a.copy_in x)) xs vs h (search fine)
exact_call (a.copy_out x) c xs vs h = of_none No (kept_of c) 0 vs c (call_effect (a.copy_out x)) xs vs h (search fine)
exact_call a.end_frame c xs vs h = of_none No (kept_of c) 0 vs c (call_effect a.end_frame) xs vs h (ends_frame (with_values c vs) c.callers)

-- ---- output
prints : (f : List Portion → List Portion) (ps : List Printing) (c : Core)
    → Fine No (kept_of c) 0 c.values (elim ps [ [] ↦ stuck | q ∷ qs ↦ unless room (nat_le (open_portions (record q { portions = f q.portions } ∷ qs)) most_portions) (goes_to (record c { printing = record q { portions = f q.portions } ∷ qs })) ])
prints f [] c = no_operand No (kept_of c) 0 c.values
prints f (q ∷ qs) c = search fine

renewed_fine : (f : List Portion → List Portion) (c : Core) → Fine No (kept_of c) 0 c.values (renewed f c)
renewed_fine f c = prints f c.printing c

printed_fine : (k : Kept) (vs : List ℤ) (xs : List Item) (c : Core) → kept_of c ≡ k → c.values ≡ vs → Fine No k 0 vs (printed xs c)
printed_fine k vs xs c e f = subst (λ z. Fine No z 0 vs (printed xs c)) e (subst (λ z. Fine No (kept_of c) 0 z (printed xs c)) f (renewed_fine (with_values_behind xs) c))

pub exact_print : (x : a.PrintAct) (c : Core) (xs vs : List ℤ) → length xs ≡ (print_size x).takes.numbers → Fine No (kept_of c) (print_size x).leaves.numbers vs (print_effect x (with_values c (xs ++ vs)))
exact_print a.begin_free c xs vs h = of_none No (kept_of c) 0 vs c (print_effect a.begin_free) xs vs h (search fine)
exact_print (a.begin_format text) c xs vs h = of_none No (kept_of c) 0 vs c (print_effect (a.begin_format text)) xs vs h (search fine)
exact_print a.print_number c xs vs h = of_one No (kept_of c) 0 vs c (print_effect a.print_number) xs vs h (λ v. search (fine, printed_fine))
exact_print a.print_truth c xs vs h = of_one No (kept_of c) 0 vs c (print_effect a.print_truth) xs vs h (λ v. search (fine, printed_fine))
exact_print (a.print_array k) c xs vs h = of_none No (kept_of c) 0 vs c (print_effect (a.print_array k)) xs vs h (search (fine, printed_fine))
exact_print (a.print_literal n text) c xs vs h = of_none No (kept_of c) 0 vs c (print_effect (a.print_literal n text)) xs vs h (renewed_fine (with_literal_behind n text) (with_values c vs))
