-- The parts of a file may follow one another.
use Rattle.std.proofs.Common.{◌≡◌, ℕ, true, cond, List, [], ◌∷◌, refl, ◌∙◌, ap}
use Rattle.reader_theory.specs.Words.{Mark}
use Rattle.fortran_grammar.specs.Tokens.{Token}
use Rattle.statement_reader.specs.Parts.{Part, Form, is_of}
use Rattle.program_reader.specs.Sequence.{State, allowed, next, Rest_of_file}
use Rattle.program_reader.proofs.Nested.{permitted, first_part, may_be}
use Rattle.program_tree.specs.Following.{has_form, MayFollow}

same_test : (is : List Form) (b : Part) → has_form is b ≡ permitted is b
same_test [] b = refl
same_test (i ∷ is) b = ap (cond (is_of i b) true) (same_test is b)

pub rest_follows : (limit : ℕ) (s : State) (es : List Part) (w : List (Mark Token)) → Rest_of_file limit s es w → MayFollow s es
rest_follows limit s [] w h = h.0
rest_follows limit s (b ∷ es) w h =
    let first = first_part limit s b es w h in
    (same_test (allowed s) b ∙ may_be limit s b es w first, rest_follows limit (next s b) es first.back first.further)
