-- Where a program unit ends.
use Rattle.std.proofs.Common.{◌≡◌, false, List, [], ◌∷◌, Option, Some, None, map, refl, ap, sym, ◌∙◌, subst}
use Rattle.std.proofs.lemmas.Bool.{true≢false, false≢true}
use Rattle.std.specs.Prelude.{MatchOption}
use Rattle.caf_base.specs.declared.place.Pos.{Pos}
use Rattle.fortran_tree.specs.declared.name.Name.{Name}
use Rattle.fortran_tree.specs.declared.statement.End.{End}
use Rattle.fortran_tree.specs.Units as u
use Rattle.fortran_tree.specs.Units.{Heading}
use Rattle.part_reader.specs.Views.{part}
use Rattle.part_reader.specs.declared.part.Part.TheVariants as parts
use Rattle.statement_reader.specs.Parts as f
use Rattle.statement_reader.specs.Parts.{Part}
use Rattle.program_reader.specs.Sequence as q
use Rattle.program_reader.specs.Sequence.{Scope, unit_of, staged}
use Rattle.program_reader.specs.Nesting.{end_of, implicit_parts, name_parts}
use Rattle.program_tree.specs.Following.{MayFollow, starts_with, executes_first}
use Rattle.program_tree.specs.declared.next.Rest.{Rest}
use Rattle.program_tree.specs.Rests as view
use Rattle.program_tree.proofs.Places.{plain_place}
use Rattle.program_tree.proofs.Stages.{Stands, stepped, further}

abbrev pub Ends : List Part → Type 0
Ends es = (end : End) × (es ≡ f.end_program_part end.name end.at ∷ [])

end_alone : (n : _) (at : Pos) (es : List Part) → MayFollow (plain_place q.over []) es → Ends (f.end_program_part n at ∷ es)
end_alone n at [] m = (record { name = n; at = at }, refl)
end_alone n at (b ∷ es) (m, r) = absurd (false≢true m)

pub ends_main : (es : List Part) → Stands q.in_statements (q.main_program q.starting) es → executes_first es ≡ false → starts_with f.contains_form es ≡ false → Ends es
ends_main [] m h e = absurd (false≢true m)
ends_main (f.end_program_part n at ∷ es) (m, r) h e = end_alone n at es r
ends_main (f.contains_part ∷ es) (m, r) h e = absurd (true≢false e)
ends_main (f.program_part n ∷ es) (m, r) h e = absurd (false≢true m)
ends_main (f.use_part x ∷ es) (m, r) h e = absurd (false≢true m)
ends_main (f.implicit_part at ∷ es) (m, r) h e = absurd (false≢true m)
ends_main (f.declaration_part d ∷ es) (m, r) h e = absurd (false≢true m)
ends_main (f.heading_part x at ∷ es) (m, r) h e = absurd (false≢true m)
ends_main (f.end_subroutine_part n at ∷ es) (m, r) h e = absurd (false≢true m)
ends_main (f.end_function_part n at ∷ es) (m, r) h e = absurd (false≢true m)
ends_main (b ∷ es) (m, r) h e = absurd (true≢false h)

pub ends_between : (es : List Part) → Stands q.opening q.between es → starts_with f.subroutine_form es ≡ false → starts_with f.function_form es ≡ false → Ends es
ends_between [] m h e = absurd (false≢true m)
ends_between (f.end_program_part n at ∷ es) (m, r) h e = end_alone n at es r
ends_between (f.heading_part (u.subroutine a b c) at ∷ es) (m, r) h e = absurd (true≢false h)
ends_between (f.heading_part (u.function a b c d) at ∷ es) (m, r) h e = absurd (true≢false e)
ends_between (b ∷ es) (m, r) h e = absurd (false≢true m)

pub record UnitEnds (x : Heading) (es : List Part) : Type 0 where
  pub end : End
  pub rest : List Part
  pub split : es ≡ end_of x end ∷ rest
  pub stands : Stands q.opening q.between rest

pub ends_unit : (x : Heading) (at : Pos) (es : List Part) → Stands q.in_statements (unit_of x at) es → executes_first es ≡ false → UnitEnds x es
ends_unit (u.subroutine a b c) at [] m h = absurd (false≢true m)
ends_unit (u.subroutine a b c) at (f.end_subroutine_part n there ∷ es) (m, r) h = record { end = record { name = n; at = there }; rest = es; split = refl; stands = r }
ends_unit (u.subroutine a b c) at (f.program_part n ∷ es) (m, r) h = absurd (false≢true m)
ends_unit (u.subroutine a b c) at (f.use_part x ∷ es) (m, r) h = absurd (false≢true m)
ends_unit (u.subroutine a b c) at (f.implicit_part p ∷ es) (m, r) h = absurd (false≢true m)
ends_unit (u.subroutine a b c) at (f.declaration_part d ∷ es) (m, r) h = absurd (false≢true m)
ends_unit (u.subroutine a b c) at (f.contains_part ∷ es) (m, r) h = absurd (false≢true m)
ends_unit (u.subroutine a b c) at (f.heading_part x p ∷ es) (m, r) h = absurd (false≢true m)
ends_unit (u.subroutine a b c) at (f.end_function_part n p ∷ es) (m, r) h = absurd (false≢true m)
ends_unit (u.subroutine a b c) at (f.end_program_part n p ∷ es) (m, r) h = absurd (false≢true m)
ends_unit (u.subroutine a b c) at (y ∷ es) (m, r) h = absurd (true≢false h)
ends_unit (u.function a b c d) at [] m h = absurd (false≢true m)
ends_unit (u.function a b c d) at (f.end_function_part n there ∷ es) (m, r) h = record { end = record { name = n; at = there }; rest = es; split = refl; stands = r }
ends_unit (u.function a b c d) at (f.program_part n ∷ es) (m, r) h = absurd (false≢true m)
ends_unit (u.function a b c d) at (f.use_part x ∷ es) (m, r) h = absurd (false≢true m)
ends_unit (u.function a b c d) at (f.implicit_part p ∷ es) (m, r) h = absurd (false≢true m)
ends_unit (u.function a b c d) at (f.declaration_part e ∷ es) (m, r) h = absurd (false≢true m)
ends_unit (u.function a b c d) at (f.contains_part ∷ es) (m, r) h = absurd (false≢true m)
ends_unit (u.function a b c d) at (f.heading_part x p ∷ es) (m, r) h = absurd (false≢true m)
ends_unit (u.function a b c d) at (f.end_subroutine_part n p ∷ es) (m, r) h = absurd (false≢true m)
ends_unit (u.function a b c d) at (f.end_program_part n p ∷ es) (m, r) h = absurd (false≢true m)
ends_unit (u.function a b c d) at (y ∷ es) (m, r) h = absurd (true≢false h)

pub unit_opening : (x : Heading) (at : Pos) → staged q.opening (unit_of x at) ≡ unit_of x at
unit_opening (u.subroutine a b c) at = refl
unit_opening (u.function a b c d) at = refl

-- CONTAINS, and a procedure's heading
pub behind_contains : (es : List Part) → Stands q.in_statements (q.main_program q.starting) (f.contains_part ∷ es) → Stands q.opening q.between es
behind_contains es (m, r) = r

pub behind_heading : (x : Heading) (at : Pos) (es : List Part) → Stands q.opening q.between (f.heading_part x at ∷ es) → MayFollow (plain_place (unit_of x at) []) es
behind_heading x at es (m, r) = r

-- IMPLICIT NONE, where it stands
abbrev pub Implicit : Option Pos → Rest → Rest → Type 0
Implicit o old new = MatchOption o (view.IsKept f.implicit_form old new) (λ at. view.left old ≡ parts.ImplicitNone at ∷ view.left new)

pub implicit_front : (o : Option Pos) (old new : Rest) → Implicit o old new → view.parts old ≡ implicit_parts o (view.parts new)
implicit_front None old new (kept, e) = ap (map part) (sym kept)
implicit_front (Some at) old new taken = ap (map part) taken

pub implicit_stands : (o : Option Pos) (old new : Rest) → Implicit o old new → (k : Scope) → view.Stands q.opening k old → view.Stands q.in_declarations k new
implicit_stands None old new (kept, e) k m = subst (λ z. Stands q.in_declarations k (map part z)) (sym kept) (further q.opening q.in_declarations f.implicit_form k (view.parts old) refl e m)
implicit_stands (Some at) old new taken k m = stepped q.opening q.in_declarations k (f.implicit_part at) (view.parts new) (λ s. refl) (subst (λ z. Stands q.opening k (map part z)) taken m)

-- the PROGRAM statement, where it stands
abbrev pub Named : Option Name → Rest → Rest → Type 0
Named o old new = MatchOption o (view.IsKept f.program_form old new) (λ name. view.left old ≡ parts.Program name ∷ view.left new)

pub name_front : (o : Option Name) (old new : Rest) → Named o old new → view.parts old ≡ name_parts o (view.parts new)
name_front None old new (kept, e) = ap (map part) (sym kept)
name_front (Some name) old new taken = ap (map part) taken

pub name_stands : (o : Option Name) (old new : Rest) → Named o old new → (k : Scope) → view.Stands q.starting k old → view.Stands q.in_uses k new
name_stands None old new (kept, e) k m = subst (λ z. Stands q.in_uses k (map part z)) (sym kept) (further q.starting q.in_uses f.program_form k (view.parts old) refl e m)
name_stands (Some name) old new taken k m = stepped q.starting q.in_uses k (f.program_part name) (view.parts new) (λ s. refl) (subst (λ z. Stands q.starting k (map part z)) taken m)

-- the END of a procedure that is over
abbrev rest_of : List Part → List Part
rest_of [] = []
rest_of (b ∷ es) = es

pub procedure_ends : (x : Heading) (at : Pos) (old : Rest) → Stands q.in_statements (unit_of x at) (view.parts old) → executes_first (view.parts old) ≡ false
    → (h : Heading) × (e : End) × (es : List Part) × (view.parts old ≡ end_of h e ∷ es)
procedure_ends x at old m h = let ends = ends_unit x at (view.parts old) m h in (x, ends.end, ends.rest, ends.split)

pub procedure_over : (x : Heading) (at : Pos) (old new : Rest) (end : End) → Stands q.in_statements (unit_of x at) (view.parts old) → executes_first (view.parts old) ≡ false
    → ((h : Heading) (e : End) (es : List Part) → view.parts old ≡ end_of h e ∷ es → view.parts old ≡ end_of h end ∷ view.parts new)
    → (view.parts old ≡ end_of x end ∷ view.parts new) × Stands q.opening q.between (view.parts new)
procedure_over x at old new end m h told =
    let ends = ends_unit x at (view.parts old) m h in
    let now = told x ends.end ends.rest ends.split in
    (now, subst (Stands q.opening q.between) (ap rest_of (sym ends.split ∙ now)) ends.stands)
