-- Coarrays that are there from the start.
use Rattle.std.proofs.Common.{◌≡◌, ◌∙◌, ℤ, pos, ◌+ℤ◌, ◌-ℤ◌, Bool, false, cond, List, [], ◌∷◌, refl, sym, ap, arith}
use Rattle.std.specs.Prelude.{Some, None}
use Rattle.std.proofs.lemmas.Int.{ints}
use Rattle.coarray_types.specs.Coplaces.{HasCobounds}
use Rattle.image_acts.specs.Core.{Own}
use Rattle.image_acts.specs.Frames.{pairs_numbers}
use Rattle.image_acts.specs.Owning.{lowers_in, extents_in}
use Rattle.image_code.specs.declared.tables.Coarray.{Coarray}
use Rattle.coarray_tables.specs.Owns.{own_of}
use Rattle.coarray_tables.specs.Start.{cobound_numbers, first_own}
use Rattle.coarray_tables.proofs.Keeping.{pairs_again}

extent_again : (l e : ℤ) → (((l +ℤ e) -ℤ pos 1) -ℤ l) +ℤ pos 1 ≡ e
extent_again l e = omega (arith, ints)

pub lowers_again : (ls es : List ℤ) → HasCobounds ls es → lowers_in (cobound_numbers ls es) ≡ ls
lowers_again [] es h = absurd h
lowers_again (l ∷ ls) [] h = ap (λ (ks : List ℤ). l ∷ ks) (sym h.1)
lowers_again (l ∷ ls) (e ∷ es) h = ap (λ (ks : List ℤ). l ∷ ks) (lowers_again ls es h.3)

pub extents_again : (ls es : List ℤ) → HasCobounds ls es → extents_in (cobound_numbers ls es) ≡ es
extents_again [] es h = absurd h
extents_again (l ∷ ls) [] h = refl
extents_again (l ∷ ls) (e ∷ es) h = ap (λ (v : ℤ). v ∷ extents_in (cobound_numbers ls es)) (extent_again l e) ∙ ap (λ (ks : List ℤ). e ∷ ks) (extents_again ls es h.3)

pub first_is : (c : Coarray) (bs cs : List ℤ) → c.is_allocatable ≡ false → bs ≡ pairs_numbers c.bounds → cs ≡ cobound_numbers c.lower_cobounds c.coextents → HasCobounds c.lower_cobounds c.coextents
    → Some (own_of (record { bounds = bs; cobounds = cs; team = 1 })) ≡ first_own c
first_is c bs cs a p q h =
    let o : Own = record { bounds = c.bounds; lowers = c.lower_cobounds; extents = c.coextents; team = 1 } in
    ap (λ (vs : List ℤ). Some (own_of (record { bounds = vs; cobounds = cs; team = 1 }))) p
    ∙ ap (λ (vs : List ℤ). Some (own_of (record { bounds = pairs_numbers c.bounds; cobounds = vs; team = 1 }))) q
    ∙ ap (λ (v : List (ℤ × ℤ)). Some (record o { bounds = v; lowers = lowers_in (cobound_numbers c.lower_cobounds c.coextents); extents = extents_in (cobound_numbers c.lower_cobounds c.coextents) })) (pairs_again c.bounds)
    ∙ ap (λ (v : List ℤ). Some (record o { lowers = v; extents = extents_in (cobound_numbers c.lower_cobounds c.coextents) })) (lowers_again c.lower_cobounds c.coextents h)
    ∙ ap (λ (v : List ℤ). Some (record o { extents = v })) (extents_again c.lower_cobounds c.coextents h)
    ∙ ap (λ (b : Bool). cond b None (Some o)) (sym a)
