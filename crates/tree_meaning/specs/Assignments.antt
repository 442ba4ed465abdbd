-- Assignment and output (ISO/IEC 1539-1:2018, 10.2.1, 12.6). The right side comes first, then the subscripts and the
-- selector of the left side, then the store or the write.
use Rattle.std.specs.Prelude.{ℕ, zero, suc, ◌+◌, ◌==◌, cond, pos, Bool, true, false, List, [], ◌∷◌}
use Rattle.caf_base.specs.declared.value.Kind.{Kind}
use Rattle.caf_base.specs.declared.value.Kind.TheVariants as kinds
use Rattle.walk_theory.specs.Syntax.{Parts}
use Rattle.checked_tree.specs.declared.data.Local.{Local}
use Rattle.checked_tree.specs.declared.data.Object.TheVariants as objects
use Rattle.checked_tree.specs.declared.data.DataType.{DataType}
use Rattle.checked_tree.specs.declared.statement.ListedImages.{ListedImages}
use Rattle.checked_tree.specs.declared.statement.ListedImages.TheVariants as lists
use Rattle.checked_tree.specs.Expressions as t
use Rattle.checked_tree.specs.Statements as s
use Rattle.image_acts.specs.Places.{place_size, digits, numbers_of_form}
use Rattle.image_acts.specs.Acts as a
use Rattle.image_acts.specs.Acts.{Act, stack, variable, operator, bounded, selector, print, ask}
use Rattle.tree_meaning.specs.Environment.{Environment, scope_of, kind_of, literal_text}
use Rattle.tree_meaning.specs.Sequences.{◌▸◌, doing, nothing, pushing, dropping, copying, bringing, choosing}
use Rattle.tree_meaning.specs.Expressions.{expression, subscripts, owner, form_of, is_scalar, stat_of, optional_size, needing_own, storing_status}

-- the kind and the rank of an expression
abbrev pub kind_in : t.Expression → Kind
kind_in (t.typed f type rank) = kind_of type

abbrev pub rank_in : t.Expression → ℕ
rank_in (t.typed f type rank) = rank

-- whether a value of the one kind may not be one of the other
abbrev pub narrows : Kind → Kind → Bool
narrows kinds.I8 kinds.I4 = true
narrows from to = false

-- a value of a rank that is beneath so many numbers, or the top array, is of the variable's kind
abbrev pub fitting : Kind → Kind → ℕ → ℕ → Parts Act
fitting from to zero depth = cond (narrows from to) (doing (operator (a.fits to depth) ∷ [])) nothing
fitting from to (suc r) depth = cond (narrows from to) (doing (operator (a.fits_each to) ∷ [])) nothing

-- the place of a section of a local array by the subscripts on top
abbrev pub sectioning : a.Scope → (a form : ℕ) → Parts Act
sectioning x n form = doing (bounded (a.section x n form) ∷ [])

-- The place, and behind it the test that the value beneath is of the variable's kind. The subscripts of an array that
-- isn't allocated have no bounds: then the value is tested first, and the section is a fault.
abbrev pub fitting_section : Kind → Kind → ℕ → a.Scope → (a form rank : ℕ) → Parts Act
fitting_section from to value_rank x n form rank = cond (narrows from to)
    (doing (bounded (a.is_there x n) ∷ [])
    ▸ choosing (sectioning x n form ▸ fitting from to value_rank (place_size rank)) (fitting from to value_rank (numbers_of_form (digits form)) ▸ sectioning x n form))
    (sectioning x n form)

-- an array has the shape of the place beneath so many numbers; a scalar goes into each element
abbrev pub agreeing : ℕ → ℕ → ℕ → Parts Act
agreeing zero depth rank = nothing
agreeing (suc r) depth rank = doing (bounded (a.same_shape depth rank) ∷ [])

-- the value goes into the place on top of a local array
abbrev pub putting : ℕ → a.Scope → ℕ → ℕ → Parts Act
putting zero x n rank = doing (variable (a.put x n rank) ∷ [])
putting (suc r) x n rank = doing (variable (a.put_array x n rank) ∷ [])

-- the value is written to the place and owner on top
abbrev pub written : ℕ → ℕ → ℕ → Kind → Parts Act
written zero c rank k = doing (ask (a.write c rank k) ∷ [])
written (suc r) c rank k = doing (ask (a.write_array c rank k) ∷ [])

abbrev pub dropping_value : ℕ → Parts Act
dropping_value zero = dropping 1
dropping_value (suc r) = doing (stack a.drop_array ∷ [])

-- a section without cells makes no access; the status is then 0
abbrev pub writing : ℕ → ℕ → ℕ → Kind → Parts Act
writing value_rank c zero k = written value_rank c 0 k
writing value_rank c (suc r) k = doing (bounded (a.some_cells 1 (suc r)) ∷ []) ▸ choosing (written value_rank c (suc r) k) (dropping (place_size (suc r) + 1) ▸ dropping_value value_rank ▸ pushing (pos 0))

-- where the place of the selector's STAT= variable stands between a scalar and the place of the write, the scalar comes
-- once more beneath the latter
abbrev pub lifting : ℕ → ℕ → ℕ → Parts Act
lifting zero size place = cond (size == 0) nothing (copying (place + size) 1 ▸ bringing 1 place)
lifting (suc r) size place = nothing

abbrev pub left_over : ℕ → ℕ → ℕ
left_over zero size = size + size
left_over (suc r) size = size

module _ (e : Environment) where
  -- assignment of a value of this rank and kind
  abbrev pub assigned : t.Designator → Kind → ℕ → Kind → ℕ → Parts Act
  assigned (t.part (objects.Local v) ss sel) k rank from r =
      cond (is_scalar ss rank) (fitting from k 0 0 ▸ doing (variable (a.store (scope_of v.home) v.variable) ∷ []))
      (subscripts e ss ▸ fitting_section from k r (scope_of v.home) v.variable (form_of ss rank) rank ▸ agreeing r 0 rank ▸ putting r (scope_of v.home) v.variable rank)
  assigned (t.part (objects.Coarray c) ss sel) k rank from r =
      subscripts e ss ▸ doing (bounded (a.co_section c (form_of ss rank)) ∷ []) ▸ owner e c rank sel ▸ lifting r (optional_size (stat_of sel)) (place_size rank + 1)
      ▸ fitting from k r (place_size rank + 1) ▸ needing_own c (is_scalar ss rank) sel ▸ agreeing r 1 rank ▸ writing r c rank k
      ▸ doing (stack a.accessed ∷ []) ▸ storing_status 1 (stat_of sel) ▸ dropping (left_over r (optional_size (stat_of sel)))
  assigned (t.part (objects.Constant n) ss sel) k rank from r = nothing

  abbrev pub assignment : t.Designator → DataType → ℕ → t.Expression → Parts Act
  assignment d type rank x = expression e x ▸ assigned d (kind_of type) rank (kind_in x) (rank_in x)

  -- FAILED_IMAGES or STOPPED_IMAGES (16.9) into a whole allocatable array
  abbrev pub listing : ListedImages → Parts Act
  listing lists.Failed = doing (ask a.failed ∷ stack a.take_cells ∷ [])
  listing lists.Stopped = doing (ask a.stopped ∷ stack a.take_cells ∷ [])

  abbrev pub listed_team : t.OptionalExpression → Parts Act
  listed_team t.missing = doing (selector a.this_team ∷ [])
  listed_team (t.given x) = expression e x ▸ doing (selector a.team_value ∷ [])

  abbrev pub images_assignment : Local → ListedImages → t.OptionalExpression → Parts Act
  images_assignment v l which = listed_team which ▸ listing l ▸ doing (variable (a.put_images (scope_of v.home) v.variable) ∷ [])

  -- an output item (12.6.3)
  abbrev pub printed : Kind → ℕ → Parts Act
  printed kinds.L4 zero = doing (print a.print_truth ∷ [])
  printed k zero = doing (print a.print_number ∷ [])
  printed k (suc r) = doing (print (a.print_array k) ∷ [])

  abbrev pub item : s.Item → Parts Act
  item (s.literal n) = doing (print (a.print_literal n (literal_text e n)) ∷ [])
  item (s.value x) = expression e x ▸ printed (kind_in x) (rank_in x)

  abbrev pub items : List s.Item → Parts Act
  items [] = nothing
  items (x ∷ xs) = item x ▸ items xs

  abbrev pub beginning : s.Format → Parts Act
  beginning s.free = doing (print a.begin_free ∷ [])
  beginning (s.written n ds) = doing (print (a.begin_format (literal_text e n)) ∷ [])

  abbrev pub output : s.Format → List s.Item → Parts Act
  output f xs = beginning f ▸ items xs ▸ doing (ask a.say ∷ [])
