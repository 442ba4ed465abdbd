-- Readers of USE and IMPLICIT NONE, of the headings of procedures, and of what begins, divides and ends program units
-- (ISO/IEC 1539-1:2018, 14 and 15.6).
use Rattle.std.specs.Prelude.{Bool, codes, List, [], ◌∷◌, Option}
use Rattle.caf_base.specs.declared.place.Pos.{Pos}
use Rattle.reader_theory.specs.Words.{found}
use Rattle.reader_theory.specs.Readers.{both, many, mapped, pick, optional, behind, pair}
use Rattle.fortran_tokens.specs.declared.token.Sign.TheVariants as sign
use Rattle.fortran_tree.specs.declared.name.Name.{Name}
use Rattle.fortran_tree.specs.declared.unit.ModuleNature.{ModuleNature}
use Rattle.fortran_tree.specs.declared.unit.ModuleNature.TheVariants as natures
use Rattle.fortran_tree.specs.declared.unit.Recursion.{Recursion}
use Rattle.fortran_tree.specs.declared.unit.Recursion.TheVariants as recursions
use Rattle.fortran_tree.specs.Units as u
use Rattle.fortran_tree.specs.Units.{Use, PrefixSpec, Heading}
use Rattle.fortran_grammar.specs.Tokens.{Token}
use Rattle.expr_reader.specs.Tests.{is_sign, is_key, is_word, a_name}
use Rattle.statement_reader.specs.Families.{Family, rounded, maybe_list, is_one_of}
use Rattle.statement_reader.specs.Actions.{a_key}
use Rattle.statement_reader.specs.Dimensions.{a_sign}
use Rattle.statement_reader.specs.Heads.{an_end, with, behind_key, located}
use Rattle.statement_reader.specs.Declarations.{a_type}

-- PROGRAM NAME, CONTAINS, IMPLICIT NONE
abbrev pub program_line : Family Name
program_line = behind_key (codes "program") (with (λ left. a_name) an_end)

abbrev pub contains_line : Family (Unit {0})
contains_line = behind_key (codes "contains") an_end

abbrev pub implicit_line : Family (Pos × Unit {0})
implicit_line = located (behind_key (codes "implicit") (behind_key (codes "none") an_end))

-- USE
abbrev pub a_nature : Family ModuleNature
a_nature left = pick (is_sign sign.Comma) (mapped (λ z. natures.Intrinsic) (behind (is_sign sign.Comma) (behind (is_key (codes "intrinsic")) (a_sign sign.Colons left))))
    (pick (is_sign sign.Colons) (mapped (λ z. natures.Unstated) (a_sign sign.Colons left)) (found natures.Unstated))

abbrev pub names_only : Family (List Name)
names_only left = behind (is_sign sign.Comma) (behind (is_key (codes "only")) (behind (is_sign sign.Colon) (maybe_list is_word a_name)))

abbrev pub maybe_only : Family (Option (List Name))
maybe_only left = optional (is_sign sign.Comma) (names_only left)

abbrev pub use_parts : Family (ModuleNature × (Name × Option (List Name)))
use_parts left = both pair (a_nature left) (both pair a_name (maybe_only left))

abbrev pub use_of : Pos × (ModuleNature × (Name × Option (List Name))) → Use
use_of q = record { nature = q.1.0; module_name = q.1.1.0; only = q.1.1.1; at = q.0 }

abbrev pub use_line : Family Use
use_line left = mapped use_of (located (with (behind_key (codes "use") use_parts) an_end) left)

-- dummies and a result
abbrev pub names_or_none : Family (List Name)
names_or_none left = maybe_list is_word a_name

abbrev pub maybe_dummies : Family (Option (List Name))
maybe_dummies left = optional (is_sign sign.OpenRound) (rounded names_or_none left)

abbrev pub a_result : Family Name
a_result = behind_key (codes "result") (rounded (λ l. a_name))

abbrev pub maybe_result : Family (Option Name)
maybe_result left = optional (is_key (codes "result")) (a_result left)

-- SUBROUTINE
abbrev pub maybe_recursive : Family Recursion
maybe_recursive left = pick (is_key (codes "recursive")) (mapped (λ z. recursions.Recursive) (a_key (codes "recursive") left)) (found recursions.Unstated)

abbrev pub subroutine_of : Recursion × (Name × Option (List Name)) → Heading
subroutine_of q = u.subroutine q.0 q.1.0 q.1.1

abbrev pub subroutine_parts : Family (Recursion × (Name × Option (List Name)))
subroutine_parts left = both pair (maybe_recursive left) (behind_key (codes "subroutine") (λ l. both pair a_name (maybe_dummies l)) left)

-- FUNCTION
abbrev pub begins_type : Token → Bool
begins_type = is_one_of (codes "integer" ∷ codes "logical" ∷ codes "type" ∷ [])

abbrev pub a_prefix : Family PrefixSpec
a_prefix left = pick (is_key (codes "recursive")) (mapped (λ z. u.recursive) (a_key (codes "recursive") left)) (mapped u.result_type (a_type left))

abbrev pub begins_prefix : Token → Bool
begins_prefix = is_one_of (codes "recursive" ∷ codes "integer" ∷ codes "logical" ∷ codes "type" ∷ [])

abbrev pub some_prefixes : Family (List PrefixSpec)
some_prefixes left = many begins_prefix (a_prefix left)

abbrev pub function_parts : Family (List PrefixSpec × (Name × (List Name × Option Name)))
function_parts left = both pair (some_prefixes left) (behind_key (codes "function") (λ l. both pair a_name (both pair (rounded names_or_none l) (maybe_result l))) left)

abbrev pub function_of : List PrefixSpec × (Name × (List Name × Option Name)) → Heading
function_of q = u.function q.0 q.1.0 q.1.1.0 q.1.1.1
