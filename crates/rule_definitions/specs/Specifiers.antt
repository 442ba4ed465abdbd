-- Specifiers, NAME = value: of image selectors (9.6), of ALLOCATE and DEALLOCATE (9.7), of image control statements
-- (11.6) and constructs (11.1).
use Rattle.std.specs.Prelude.{ℕ, Bool, false, not, cond, bytes_eq, codes, List, [], ◌∷◌, ◌++◌, ◌||◌, ◌&&◌, Option, Some, None}
use Rattle.fortran_tree.specs.declared.name.Name.{Name}
use Rattle.checked_tree.specs.Expressions as t
use Rattle.checked_tree.specs.declared.expr.WrittenOrder.{WrittenOrder}
use Rattle.checked_tree.specs.declared.expr.WrittenOrder.TheVariants.{Same, Reversed}
use Rattle.rule_definitions.specs.declared.broken.Broken.{Broken}
use Rattle.rule_definitions.specs.Judgements.{unless, is_nothing, Judgement, fine, made_of, is_there}
use Rattle.rule_definitions.specs.Names.{is_among}
use Rattle.rule_definitions.specs.declared.taken.Taken.TheVariants.{Integers as integers, Logicals as logicals}
use Rattle.rule_definitions.specs.Parts.{Placed, plain, integer, team, result_variable}

-- a specifier as it is written
pub record Written : Type 0 where
  pub name : Name
  pub value : Placed

-- TEAM= and TEAM_NUMBER= name one team
abbrev pub is_team_name : List ℕ → Bool
is_team_name n = bytes_eq n (codes "team") || bytes_eq n (codes "team_number")

abbrev pub has_team : List (List ℕ) → Bool
has_team [] = false
has_team (n ∷ ns) = is_team_name n || has_team ns

abbrev pub is_repeated : List (List ℕ) → List ℕ → Bool
is_repeated seen n = is_among seen n || (is_team_name n && has_team seen)

-- Rule 35 (9.6, 9.7.1.1, 11.6.11): a specifier that the statement hasn't, one twice, or both TEAM= and TEAM_NUMBER=; at
-- the later name
abbrev pub name_breaks : List (List ℕ) → List (List ℕ) → Written → List Broken
name_breaks allowed seen w = cond (is_nothing (plain w.value).breaks) (unless (is_among allowed w.name.text && not (is_repeated seen w.name.text)) 35 w.name.at) []

abbrev pub specifier_breaks : List (List ℕ) → List (List ℕ) → List Written → List Broken
specifier_breaks allowed seen [] = []
specifier_breaks allowed seen (w ∷ rest) = name_breaks allowed seen w ++ specifier_breaks allowed (w.name.text ∷ seen) rest

-- what a value is by the name of its specifier. Rule 36: STAT= and ACQUIRED_LOCK=. Rule 51: TEAM=. Rule 39: the numbers
abbrev pub value_breaks : Written → List Broken
value_breaks w =
    cond (bytes_eq w.name.text (codes "stat")) (result_variable integers w.value).breaks
    (cond (bytes_eq w.name.text (codes "acquired_lock")) (result_variable logicals w.value).breaks
    (cond (bytes_eq w.name.text (codes "team")) (team w.value).breaks
    (cond (bytes_eq w.name.text (codes "team_number") || (bytes_eq w.name.text (codes "new_index") || bytes_eq w.name.text (codes "until_count"))) (integer 39 w.value).breaks
    (plain w.value).breaks)))

abbrev pub values_breaks : List Written → List Broken
values_breaks [] = []
values_breaks (w ∷ rest) = value_breaks w ++ values_breaks rest

abbrev pub all_breaks : List (List ℕ) → List Written → List Broken
all_breaks allowed ws = specifier_breaks allowed [] ws ++ values_breaks ws

-- the value of the specifier with this name
abbrev pub value_named : List ℕ → List Written → Option Placed
value_named n [] = None
value_named n (w ∷ rest) = cond (bytes_eq w.name.text n) (Some w.value) (value_named n rest)

-- what is meant by a specifier; what breaks in it is said by `all_breaks`
abbrev pub meant : {T : Type 0} → Judgement T → Judgement T
meant j = record { breaks = []; meaning = j.meaning }

abbrev pub stat_variable : List Written → Judgement t.OptionalResult
stat_variable ws = elim (value_named (codes "stat") ws) [ None ↦ fine t.no_result | Some e ↦ meant (made_of t.result (result_variable integers e)) ]

abbrev pub acquired_variable : List Written → Judgement t.OptionalResult
acquired_variable ws = elim (value_named (codes "acquired_lock") ws) [ None ↦ fine t.no_result | Some e ↦ meant (made_of t.result (result_variable logicals e)) ]

abbrev pub number_named : List ℕ → List Written → Judgement t.OptionalExpression
number_named n ws = elim (value_named n ws) [ None ↦ fine t.missing | Some e ↦ meant (made_of t.given (integer 39 e)) ]

abbrev pub by_number : List Written → Judgement t.SelectedTeam
by_number ws = elim (value_named (codes "team_number") ws) [ None ↦ fine t.current | Some e ↦ meant (made_of t.team_number (integer 39 e)) ]

abbrev pub selected_team : List Written → Judgement t.SelectedTeam
selected_team ws = elim (value_named (codes "team") ws) [ None ↦ by_number ws | Some e ↦ meant (made_of t.team (team e)) ]

-- the order in which two specifiers are written
abbrev pub stands_first : List ℕ → List ℕ → List Written → Bool
stands_first a b [] = false
stands_first a b (w ∷ rest) = cond (bytes_eq w.name.text a) (is_there (value_named b rest)) (cond (bytes_eq w.name.text b) false (stands_first a b rest))

abbrev pub order_written : List ℕ → List ℕ → List Written → WrittenOrder
order_written a b ws = cond (stands_first b a ws) Reversed Same

abbrev pub selector_specifiers : List Written → List Broken
selector_specifiers ws = all_breaks (codes "stat" ∷ codes "team" ∷ codes "team_number" ∷ []) ws
