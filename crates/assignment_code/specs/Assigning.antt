-- What an assignment does behind its value.
use Rattle.std.specs.Prelude.{ℕ, zero, suc, ◌+◌, Bool, [], ◌∷◌}
use Rattle.caf_base.specs.declared.value.Kind.{Kind}
use Rattle.walk_theory.specs.Syntax.{Parts}
use Rattle.checked_tree.specs.Expressions as t
use Rattle.image_acts.specs.Places.{place_size, digits, numbers_of_form}
use Rattle.image_acts.specs.Acts as a
use Rattle.image_acts.specs.Acts.{Act, stack, operator, bounded}
use Rattle.tree_meaning.specs.Assignments.{sectioning, fitting, agreeing, writing, lifting, left_over}
use Rattle.tree_meaning.specs.Environment.{Environment}
use Rattle.tree_meaning.specs.Expressions.{subscripts, owner, form_of, stat_of, optional_size, needing_own, storing_status}
use Rattle.tree_meaning.specs.Sequences.{◌▸◌, doing, dropping, choosing}

-- the test that a value of this rank, beneath so many numbers or the top array, is of a kind
abbrev pub fits_at : Kind → ℕ → ℕ → Parts Act
fits_at to zero depth = doing (operator (a.fits to depth) ∷ [])
fits_at to (suc r) depth = doing (operator (a.fits_each to) ∷ [])

-- the place of a section of a local array, and that test: the test comes first where the array isn't there
abbrev pub tested_section : Kind → ℕ → a.Scope → (array form rank : ℕ) → Parts Act
tested_section to r x n form rank =
    doing (bounded (a.is_there x n) ∷ [])
    ▸ choosing (sectioning x n form ▸ fits_at to r (place_size rank)) (fits_at to r (numbers_of_form (digits form)) ▸ sectioning x n form)

-- the write of a value of this rank and kind to the place and owner on top
abbrev pub writing_value : (c : ℕ) → (scalar : Bool) → ℕ → Kind → Kind → ℕ → t.Selector → Parts Act
writing_value c scalar rank k from r sel =
    lifting r (optional_size (stat_of sel)) (place_size rank + 1) ▸ fitting from k r (place_size rank + 1) ▸ needing_own c scalar sel ▸ agreeing r 1 rank
    ▸ writing r c rank k ▸ doing (stack a.accessed ∷ []) ▸ storing_status 1 (stat_of sel) ▸ dropping (left_over r (optional_size (stat_of sel)))

-- the place and the owner of a section of a coarray
abbrev pub placing : Environment → ℕ → t.Subscripts → ℕ → t.Selector → Parts Act
placing e c ss rank sel = subscripts e ss ▸ doing (bounded (a.co_section c (form_of ss rank)) ∷ []) ▸ owner e c rank sel
