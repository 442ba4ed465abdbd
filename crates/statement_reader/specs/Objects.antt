-- Objects behind one another and specifiers behind them, as ALLOCATE and DEALLOCATE have them (ISO/IEC 1539-1:2018,
-- 9.7.1 and 9.7.3).
use Rattle.std.specs.Prelude.{Bool, true, false, List, [], ◌∷◌}
use Rattle.reader_theory.specs.Readers.{both, many_by, mapped, ahead, behind, pair}
use Rattle.fortran_tokens.specs.declared.token.Sign.TheVariants as sign
use Rattle.fortran_tree.specs.Expressions as e
use Rattle.fortran_tree.specs.Expressions.{Specifiers}
use Rattle.fortran_grammar.specs.Phrases as p
use Rattle.fortran_grammar.specs.Phrases.{Phrase, ◌▸◌}
use Rattle.expr_reader.specs.Tests.{is_sign, is_word}
use Rattle.statement_reader.specs.Families.{Family}
use Rattle.statement_reader.specs.Actions.{Assigned, assigned, a_specifier}

-- an object, or a specifier
pub data Choice (A : Type 0) : Type 0 where
  object : A → Choice A
  specifier : Assigned → Choice A

-- behind a specifier stand specifiers alone
abbrev pub seen : {A : Type 0} → Bool → Choice A → Bool
seen b (object x) = b
seen b (specifier q) = true

abbrev pub choice : {A : Type 0} → (A → Phrase) → Bool → Choice A → Phrase
choice X b (specifier q) = assigned q
choice X false (object x) = X x
choice X true (object x) = p.never

abbrev pub more_choices : {A : Type 0} → (A → Phrase) → Bool → List (Choice A) → Phrase
more_choices X b [] = p.nothing
more_choices X b (c ∷ cs) = p.sign sign.Comma ▸ choice X b c ▸ more_choices X (seen b c) cs

abbrev pub a_choice : {A : Type 0} → Family A → Bool → Family (Choice A)
a_choice r false left = ahead is_word (is_sign sign.Assign) (mapped specifier (a_specifier left)) (mapped object (r left))
a_choice r true left = mapped specifier (a_specifier left)

abbrev pub further_choices : {A : Type 0} → Family A → Family (List (Choice A))
further_choices r left = many_by (is_sign sign.Comma) (λ b. behind (is_sign sign.Comma) (a_choice r b left)) seen false

abbrev pub objects_of : {A : Type 0} → List (Choice A) → List A
objects_of [] = []
objects_of (object x ∷ cs) = x ∷ objects_of cs
objects_of (specifier q ∷ cs) = objects_of cs

abbrev pub specifiers_of : {A : Type 0} → List (Choice A) → Specifiers
specifiers_of [] = e.no_specifiers
specifiers_of (object x ∷ cs) = specifiers_of cs
specifiers_of (specifier q ∷ cs) = e.more_specifiers q.0 q.1 (specifiers_of cs)

abbrev pub objects_and_specifiers : {A : Type 0} → A × List (Choice A) → List A × Specifiers
objects_and_specifiers q = (q.0 ∷ objects_of q.1, specifiers_of q.1)

abbrev pub some_objects : {A : Type 0} → Family A → Family (List A × Specifiers)
some_objects r left = mapped objects_and_specifiers (both pair (r left) (further_choices r left))
