-- What one more entry changes of what was posted and made.
use Rattle.std.proofs.Common.{◌≡◌, ℕ, Bool, true, false, nat_eq, ◌&&◌, ◌||◌, cond, List, [], ◌∷◌, ◌++◌, refl, ap, sym, ◌∙◌, inl, inr, subst}
use Rattle.std.specs.Prelude.{Option}
use Rattle.std.proofs.Math.Bool.{or-false}
use Rattle.std.proofs.lemmas.Bool.{and_parts, eq-eqb, eqb-true, ne_eqb}
use Rattle.std.proofs.lemmas.Bool.Decides.{eqb_tells}
use Rattle.std.proofs.lemmas.List.Folds.{list_any-append}
use Rattle.caf_events.specs.declared.event.Entry.{Entry}
use Rattle.order_theory.specs.Races.{Cell, same_cell}
use Rattle.order_axioms.specs.Views.{act_of}
use Rattle.decided_watch.specs.Undecided.{posted_by, last_poster, posts_in, makes_one, is_posted, is_made}

pub poster_next : (c : Cell) (o : Option ℕ) (g : List Entry) (e : Entry) → last_poster c o (g ++ e ∷ []) ≡ posted_by c e.image.0 (act_of e) (last_poster c o g)
poster_next c o [] e = refl
poster_next c o (x ∷ g) e = poster_next c (posted_by c x.image.0 (act_of x) o) g e

pub posted_next : (o k : ℕ) (g : List Entry) (e : Entry) → is_posted o k (g ++ e ∷ []) ≡ (is_posted o k g || posts_in o k (act_of e))
posted_next o k g e = list_any-append (λ x. posts_in o k (act_of x)) g (e ∷ []) ∙ ap (λ z. is_posted o k g || z) (or-false (posts_in o k (act_of e)))

pub made_next : (o k : ℕ) (g : List Entry) (e : Entry) → is_made o k (g ++ e ∷ []) ≡ (is_made o k g || makes_one o k (act_of e))
made_next o k g e = list_any-append (λ x. makes_one o k (act_of x)) g (e ∷ []) ∙ ap (λ z. is_made o k g || z) (or-false (makes_one o k (act_of e)))

-- a test that is made true where another one is
pub or_cond : (b c : Bool) → cond c true b ≡ (b || c)
or_cond true true = refl
or_cond true false = refl
or_cond false true = refl
or_cond false false = refl

-- the test tells whether two cells are one
pub same_cell_tells : (c d : Cell) → same_cell c d ≡ true → c ≡ d
same_cell_tells c d h =
    let p = and_parts (nat_eq c.owner d.owner && nat_eq c.coarray d.coarray) (nat_eq c.offset d.offset) h in
    let q = and_parts (nat_eq c.owner d.owner) (nat_eq c.coarray d.coarray) p.0 in
    ap (λ z. record { owner = z; coarray = c.coarray; offset = c.offset }) (eqb-true _ _ q.0)
    ∙ ap (λ z. record { owner = d.owner; coarray = z; offset = c.offset }) (eqb-true _ _ q.1)
    ∙ ap (λ z. record { owner = d.owner; coarray = d.coarray; offset = z }) (eqb-true _ _ p.1)

pub same_cell_from : (c d : Cell) → c ≡ d → same_cell c d ≡ true
same_cell_from c d e = subst (λ z. same_cell c z ≡ true) e (rw (eq-eqb c.owner c.owner refl, eq-eqb c.coarray c.coarray refl, eq-eqb c.offset c.offset refl) refl)

pub nat_same : (a b : ℕ) → nat_eq a b ≡ nat_eq b a
nat_same a b = elim (eqb_tells a b) [ inl t ↦ t.0 ∙ sym (eq-eqb b a (sym t.1)) | inr f ↦ f.0 ∙ sym (ne_eqb b a (λ h. f.1 (sym h))) ]
