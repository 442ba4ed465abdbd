-- What breaks in statements and constructs (11.1), and the typed ones that they stand for; critical constructs and
-- literals are numbered in source order.
use Rattle.std.specs.Prelude.{ℕ, ℤ, pos, int_le, Bool, true, false, not, cond, nat_eq, nat_le, length, List, [], ◌∷◌, ◌++◌, ◌+◌, ◌||◌, ◌&&◌, bytes_eq, Option, Some, None}
use Rattle.caf_base.specs.declared.place.Pos.{Pos}
use Rattle.caf_base.specs.declared.value.Kind.{Kind}
use Rattle.caf_base.specs.declared.value.Value.{Value}
use Rattle.caf_base.specs.declared.value.Value.TheVariants.{Int, Bool as Truth}
use Rattle.fortran_tree.specs.Expressions as f
use Rattle.fortran_tree.specs.Statements as fs
use Rattle.fortran_tree.specs.declared.name.Name.{Name}
use Rattle.checked_tree.specs.Expressions as t
use Rattle.checked_tree.specs.Statements as ts
use Rattle.checked_tree.specs.declared.data.DataType.{DataType}
use Rattle.checked_tree.specs.declared.data.DataType.TheVariants.{Intrinsic}
use Rattle.checked_tree.specs.declared.data.Local.{Local}
use Rattle.checked_tree.specs.declared.data.Object.TheVariants as objects
use Rattle.checked_tree.specs.declared.statement.CaseRange.{CaseRange}
use Rattle.checked_tree.specs.declared.statement.CaseRange.TheVariants.{Value as OneValue, AtLeast, AtMost, Between}
use Rattle.rule_definitions.specs.declared.broken.Broken.{Broken}
use Rattle.rule_definitions.specs.Judgements.{unless, is_nothing, Judgement, fine, refused, unknown, ruled, under, made_of, made_of_both, made_of_three, then}
use Rattle.rule_definitions.specs.Names
use Rattle.rule_definitions.specs.Names.{Scope, Symbol, Meaning, denotes, symbol_of, is_integer, is_logical, is_team}
use Rattle.rule_definitions.specs.Constants.{Constancy, value, values, no_constant, value_of}
use Rattle.rule_definitions.specs.Parts.{Placed, place_of, plain, type_of, rank_of, scalar_breaks, unlike_breaks, condition, bound_or_code, team}
use Rattle.rule_definitions.specs.Specifiers.{Written}
use Rattle.rule_definitions.specs.IntrinsicSubroutines.{four}
use Rattle.rule_definitions.specs.Expressions.{judged_specifiers, placed}
use Rattle.rule_definitions.specs.Declarations.{lacks_value}
use Rattle.rule_definitions.specs.Actions.{Around, loop, selection, critical, team_change, Site, is_active, has_intent_in, judged_action, maybe, with_stat, controlled}

-- Numbering: what stands in a part of the source, in order

pub record Counted : Type 0 where
  pub criticals : ℕ
  pub literals : List (List ℕ)

abbrev pub no_count : Counted
no_count = record { criticals = 0; literals = [] }

abbrev pub behind : Counted → Counted → Counted
behind a b = record { criticals = a.criticals + b.criticals; literals = a.literals ++ b.literals }

abbrev pub format_literals : fs.Format → List (List ℕ)
format_literals fs.free = []
format_literals (fs.written l) = l.text ∷ []

abbrev pub item_literals : List fs.Item → List (List ℕ)
item_literals [] = []
item_literals (fs.quoted l ∷ rest) = l.text ∷ item_literals rest
item_literals (fs.value e ∷ rest) = item_literals rest

abbrev pub action_literals : fs.ActionStatement → List (List ℕ)
action_literals (fs.print o is) = format_literals o ++ item_literals is
action_literals (fs.if_statement e a q) = action_literals a
action_literals a = []

abbrev mutual
  pub counted_statement : fs.Statement → Counted
  counted_statement (fs.action a p) = record { criticals = 0; literals = action_literals a }
  counted_statement (fs.if_construct e body eis o p q) = behind (counted_statements body) (behind (counted_else_ifs eis) (counted_else o))
  counted_statement (fs.do_construct n k body p x) = counted_statements body
  counted_statement (fs.case_construct e cs p q) = counted_cases cs
  counted_statement (fs.critical_construct x body p q) = behind (record { criticals = 1; literals = [] }) (counted_statements body)
  counted_statement (fs.change_team_construct e ps body x p q) = counted_statements body

  pub counted_statements : fs.Statements → Counted
  counted_statements fs.no_statements = no_count
  counted_statements (fs.more_statements x rest) = behind (counted_statement x) (counted_statements rest)

  pub counted_else_ifs : fs.ElseIfBlocks → Counted
  counted_else_ifs fs.no_else_ifs = no_count
  counted_else_ifs (fs.more_else_ifs e body p rest) = behind (counted_statements body) (counted_else_ifs rest)

  pub counted_else : fs.ElseBlock → Counted
  counted_else fs.no_else_block = no_count
  counted_else (fs.else_block body p) = counted_statements body

  pub counted_cases : fs.CaseBlocks → Counted
  counted_cases fs.no_case_blocks = no_count
  counted_cases (fs.more_case_blocks x body p rest) = behind (counted_statements body) (counted_cases rest)

-- where a statement stands: its scope, the constructs around it, and what stands before it in the program
pub record Position : Type 0 where
  pub scope : Scope
  pub around : List Around
  pub criticals : ℕ
  pub literals : ℕ

abbrev pub site_of : Position → Site
site_of x = record { scope = x.scope; around = x.around; literals = x.literals }

abbrev pub past : Position → Counted → Position
past x c = record x { criticals = x.criticals + c.criticals; literals = x.literals + length c.literals }

abbrev pub within : Position → Around → Position
within x a = record x { around = x.around ++ a ∷ [] }

-- DO (11.1.7)

pub data Control : Type 0 where
  forever : Control
  while : t.Expression → Control
  counted : Local → Kind → t.Expression → t.Expression → t.OptionalExpression → Control

pub record Counter : Type 0 where
  pub variable : Local
  pub kind : Kind

abbrev pub counter_typed : Local → ℕ → DataType → Option Counter
counter_typed l r (Intrinsic k) = cond (is_integer (Intrinsic k) && nat_eq r 0) (Some (record { variable = l; kind = k })) None
counter_typed l r y = None

abbrev pub counter_found : Option Counter → Pos → Judgement Counter
counter_found None p = refused 40 p
counter_found (Some c) p = fine c

-- Rule 32 (11.1.7.4.3, 8.5.10): a variable that is active already, or an IN dummy
abbrev pub inactive : Position → Symbol → Pos → Counter → Judgement Counter
inactive x y p c = ruled (fine c) (unless (not (is_active c.variable x.around || has_intent_in (Some y))) 32 p)

-- Rule 40 (11.1.7.2): a local scalar integer variable
abbrev pub counter_symbol : Position → Symbol → Pos → Judgement Counter
counter_symbol x y p = elim y.object [ objects.Local l ↦ elim y.of_type [ None ↦ unknown | Some u ↦ then (counter_found (counter_typed l (length y.bounds) u) p) (inactive x y p) ] | o ↦ refused 40 p ]

abbrev pub counter_judged : Position → Option Meaning → Pos → Judgement Counter
counter_judged x None p = refused 20 p
counter_judged x (Some (Names.variable y)) p = counter_symbol x y p
counter_judged x (Some m) p = refused 40 p

abbrev pub judged_control : Position → fs.LoopControl → Judgement Control
judged_control x fs.unlimited = fine forever
judged_control x (fs.while e) = made_of while (condition (placed x.scope e))
judged_control x (fs.counted n a b c) = four (λ v l u k. counted v.variable v.kind l u k) (counter_judged x (denotes x.scope n.text) n.at) (bound_or_code (placed x.scope a)) (bound_or_code (placed x.scope b)) (maybe bound_or_code x.scope c)

-- the variable of a loop, active in its block
abbrev pub local_of : Option Meaning → Option Local
local_of (Some (Names.variable y)) = elim y.object [ objects.Local l ↦ Some l | o ↦ None ]
local_of m = None

abbrev pub loop_variable : Position → fs.LoopControl → Option Local
loop_variable x (fs.counted n a b c) = local_of (denotes x.scope n.text)
loop_variable x k = None

-- Rule 41 (11.1.7.2): another name behind END DO than that of its DO
abbrev pub is_same_name : Option Name → Name → Bool
is_same_name None m = false
is_same_name (Some n) m = bytes_eq n.text m.text

abbrev pub end_breaks : Option Name → Option Name → List Broken
end_breaks n None = []
end_breaks n (Some m) = unless (is_same_name n m) 41 m.at

-- hidden cells: of the counted loops and SELECTs around
abbrev pub is_counted : Around → Bool
is_counted (loop n (Some v)) = true
is_counted selection = true
is_counted a = false

abbrev pub hidden_of : List Around → ℕ
hidden_of [] = 0
hidden_of (a ∷ rest) = cond (is_counted a) (hidden_of rest + 1) (hidden_of rest)

abbrev pub loop_form : ℕ → Control → ts.Statements → ts.StatementForm
loop_form h forever body = ts.do_forever body
loop_form h (while e) body = ts.do_while e body
loop_form h (counted l k a b c) body = ts.do_counted l k a b c h body

-- SELECT CASE (11.1.9)

-- Rule 44: a selector that is no integer or logical; rule 51 for a team, rule 37 for an array
abbrev pub selector_breaks : Pos → t.Expression → List Broken
selector_breaks p x = cond (is_integer (type_of x) || is_logical (type_of x)) [] (unlike_breaks 44 (type_of x) p) ++ scalar_breaks (rank_of x) p

abbrev pub selecting : Placed → Judgement t.Expression
selecting e = under (plain e) (selector_breaks e.at)

-- the type of the selector as far as a value is held against it
abbrev pub is_selected_type : Option t.Expression → DataType → Bool
is_selected_type None y = true
is_selected_type (Some x) y = (is_integer (type_of x) && is_integer y) || (is_logical (type_of x) && is_logical y)

-- a logical is 0 or 1
abbrev pub number_of : Value → ℤ
number_of (Int n) = n
number_of (Truth true) = pos 1
number_of (Truth false) = pos 0

-- Rule 44 (11.1.9.1): a case value that isn't constant or of the selector's type; rule 37: an array
abbrev pub case_constant : Pos → Constancy → Judgement ℤ
case_constant p (value v) = fine (number_of v)
case_constant p (values ns vs) = unknown
case_constant p no_constant = refused 44 p

abbrev pub case_value_breaks : Option t.Expression → Pos → t.Expression → List Broken
case_value_breaks x p v = unless (is_selected_type x (type_of v)) 44 p ++ scalar_breaks (rank_of v) p

abbrev pub case_value : Scope → Option t.Expression → f.Expression → Judgement ℤ
case_value s x e = then (under (plain (placed s e)) (case_value_breaks x (place_of e))) (λ v. case_constant (place_of e) (cond (lacks_value s e) no_constant (value_of s v)))

abbrev pub is_logical_selector : Option t.Expression → Bool
is_logical_selector None = false
is_logical_selector (Some x) = is_logical (type_of x)

abbrev pub raw_case_breaks : Scope → f.Expression → List Broken
raw_case_breaks s e = (plain (placed s e)).breaks

-- Rule 44 (11.1.9.1): a range of logical values; nothing is said of it after a break in one of them
abbrev pub no_logical : Option t.Expression → List Broken → Pos → List Broken
no_logical x bs p = cond (is_nothing bs) (unless (not (is_logical_selector x)) 44 p) []

abbrev pub case_range : Scope → Option t.Expression → fs.CaseRange → Judgement CaseRange
case_range s x (fs.single e) = made_of OneValue (case_value s x e)
case_range s x (fs.at_least e) = ruled (made_of AtLeast (case_value s x e)) (no_logical x (raw_case_breaks s e) (place_of e))
case_range s x (fs.at_most e p) = ruled (made_of AtMost (case_value s x e)) (no_logical x (raw_case_breaks s e) p)
case_range s x (fs.between a b) = ruled (made_of_both Between (case_value s x a) (case_value s x b)) (no_logical x (raw_case_breaks s a ++ raw_case_breaks s b) (place_of a))

abbrev pub place_of_range : fs.CaseRange → Pos
place_of_range (fs.single e) = place_of e
place_of_range (fs.at_least e) = place_of e
place_of_range (fs.at_most e p) = p
place_of_range (fs.between a b) = place_of a

-- the least and the greatest value, where there is one
abbrev pub low : CaseRange → Option ℤ
low (OneValue n) = Some n
low (AtLeast n) = Some n
low (AtMost n) = None
low (Between m n) = Some m

abbrev pub high : CaseRange → Option ℤ
high (OneValue n) = Some n
high (AtLeast n) = None
high (AtMost n) = Some n
high (Between m n) = Some n

abbrev pub is_not_above : Option ℤ → Option ℤ → Bool
is_not_above (Some m) (Some n) = int_le m n
is_not_above m n = true

-- a range that has a value
abbrev pub has_value : CaseRange → Bool
has_value r = is_not_above (low r) (high r)

abbrev pub overlaps : CaseRange → CaseRange → Bool
overlaps a b = (has_value a && has_value b) && (is_not_above (low a) (high b) && is_not_above (low b) (high a))

abbrev pub overlaps_one : List CaseRange → CaseRange → Bool
overlaps_one [] r = false
overlaps_one (x ∷ xs) r = overlaps x r || overlaps_one xs r

-- the ranges so far, and one more where it is known
abbrev pub with_range : List CaseRange → Option CaseRange → List CaseRange
with_range xs None = xs
with_range xs (Some r) = xs ++ r ∷ []

-- Rule 44 (11.1.9.1): a range that has a value of an earlier one
abbrev pub judged_range : Scope → Option t.Expression → List CaseRange → fs.CaseRange → Judgement CaseRange
judged_range s x before r = under (case_range s x r) (λ c. unless (not (overlaps_one before c)) 44 (place_of_range r))

abbrev pub judged_ranges : Scope → Option t.Expression → List CaseRange → List fs.CaseRange → Judgement (List CaseRange)
judged_ranges s x before [] = fine []
judged_ranges s x before (r ∷ rest) = made_of_both (λ c cs. c ∷ cs) (judged_range s x before r) (judged_ranges s x (with_range before (case_range s x r).meaning) rest)

abbrev pub ranges_behind : Scope → Option t.Expression → List CaseRange → List fs.CaseRange → List CaseRange
ranges_behind s x before [] = before
ranges_behind s x before (r ∷ rest) = ranges_behind s x (with_range before (case_range s x r).meaning) rest

-- what is known of the CASE statements so far
pub record Cases : Type 0 where
  pub selector : Option t.Expression
  pub ranges : List CaseRange
  pub has_default : Bool

-- the blocks of a SELECT: those with ranges, and that of CASE DEFAULT
pub record Selected : Type 0 where
  pub cases : ts.Cases
  pub otherwise : ts.Statements

abbrev pub no_selected : Selected
no_selected = record { cases = ts.no_cases; otherwise = ts.no_statements }

abbrev pub with_case : ℕ → List CaseRange → ts.Statements → Selected → Selected
with_case l rs body x = record x { cases = ts.more_cases rs body l x.cases }

abbrev pub with_default : ts.Statements → Selected → Selected
with_default body x = record x { otherwise = body }

abbrev pub select_form : ℕ → t.Expression → Selected → ts.StatementForm
select_form h e x = ts.select e h x.cases x.otherwise

-- CRITICAL and CHANGE TEAM (11.1.6, 11.1.5)

abbrev pub bracketed : Scope → fs.BracketedSpecifier → List Written
bracketed s (fs.present n e) = record { name = n; value = placed s e } ∷ []
bracketed s x = []

abbrev pub critical_form : ℕ → ℕ → t.OptionalResult → ts.Statements → ts.StatementForm
critical_form n l r body = ts.critical n r body l

abbrev pub team_form : ℕ → t.Expression → t.OptionalResult → ts.Statements → t.OptionalResult → ts.StatementForm
team_form l e r body x = ts.change_team e r body x l

abbrev pub on_line : Pos → Judgement ts.StatementForm → Judgement ts.Statement
on_line p j = made_of (λ x. ts.on_line x p.line) j

abbrev pub if_form : t.Expression → ts.Statements → ts.ElseIfs → ts.Statements → ts.StatementForm
if_form e body eis o = ts.if e body eis o

abbrev pub more_else_ifs : ℕ → t.Expression → ts.Statements → ts.ElseIfs → ts.ElseIfs
more_else_ifs l e body rest = ts.more_else_ifs e body l rest

-- what the CASE statements behind this one know
abbrev pub behind_case : Scope → Cases → fs.CaseSelector → Cases
behind_case s k fs.default = record k { has_default = true }
behind_case s k (fs.ranges rs) = record k { ranges = ranges_behind s k.selector k.ranges rs }

-- Rule 44 (11.1.9.1): a second CASE DEFAULT
abbrev pub case_joined : Scope → Cases → fs.CaseSelector → Pos → Judgement ts.Statements → Judgement Selected → Judgement Selected
case_joined s k fs.default p body rest = ruled (made_of_both with_default body rest) (unless (not k.has_default) 44 p)
case_joined s k (fs.ranges rs) p body rest = made_of_three (with_case p.line) (judged_ranges s k.selector k.ranges rs) body rest

unfoldable mutual
  pub judged_statement : Position → fs.Statement → Judgement ts.Statement
  judged_statement x (fs.action a p) = on_line p (judged_action (site_of x) a p)
  judged_statement x (fs.if_construct e body eis o p q) = on_line p (four if_form (condition (placed x.scope e)) (judged_statements x body) (judged_else_ifs (past x (counted_statements body)) eis) (judged_else (past x (behind (counted_statements body) (counted_else_ifs eis))) o))
  judged_statement x (fs.do_construct n k body p end) = on_line p (ruled (made_of_both (loop_form (hidden_of x.around)) (judged_control x k) (judged_statements (within x (loop n (loop_variable x k))) body)) (end_breaks n end.name))
  judged_statement x (fs.case_construct e cs p q) = on_line p (made_of_both (select_form (hidden_of x.around)) (selecting (placed x.scope e)) (judged_cases (within x selection) (record { selector = (selecting (placed x.scope e)).meaning; ranges = []; has_default = false }) cs))
  judged_statement x (fs.critical_construct y body p q) = on_line p (controlled (site_of x) p (made_of_both (critical_form (x.criticals + 1) q.line) (with_stat (bracketed x.scope y)) (judged_statements (within (record x { criticals = x.criticals + 1 }) critical) body)))
  judged_statement x (fs.change_team_construct e ps body y p q) = on_line p (controlled (site_of x) p (four (team_form q.line) (team (placed x.scope e)) (with_stat (judged_specifiers x.scope ps)) (judged_statements (within x team_change) body) (with_stat (bracketed x.scope y))))

  pub judged_statements : Position → fs.Statements → Judgement ts.Statements
  judged_statements x fs.no_statements = fine ts.no_statements
  judged_statements x (fs.more_statements y rest) = made_of_both ts.more_statements (judged_statement x y) (judged_statements (past x (counted_statement y)) rest)

  pub judged_else_ifs : Position → fs.ElseIfBlocks → Judgement ts.ElseIfs
  judged_else_ifs x fs.no_else_ifs = fine ts.no_else_ifs
  judged_else_ifs x (fs.more_else_ifs e body p rest) = made_of_three (more_else_ifs p.line) (condition (placed x.scope e)) (judged_statements x body) (judged_else_ifs (past x (counted_statements body)) rest)

  pub judged_else : Position → fs.ElseBlock → Judgement ts.Statements
  judged_else x fs.no_else_block = fine ts.no_statements
  judged_else x (fs.else_block body p) = judged_statements x body

  pub judged_cases : Position → Cases → fs.CaseBlocks → Judgement Selected
  judged_cases x k fs.no_case_blocks = fine no_selected
  judged_cases x k (fs.more_case_blocks y body p rest) = case_joined x.scope k y p (judged_statements x body) (judged_cases (past x (counted_statements body)) (behind_case x.scope k y) rest)

-- the most hidden cells that are open at one time
abbrev pub greater : ℕ → ℕ → ℕ
greater a b = cond (nat_le a b) b a

abbrev pub hidden_more : fs.LoopControl → ℕ → ℕ
hidden_more (fs.counted n a b c) k = k + 1
hidden_more x k = k

abbrev mutual
  pub most_hidden : fs.Statement → ℕ
  most_hidden (fs.action a p) = 0
  most_hidden (fs.if_construct e body eis o p q) = greater (most_hidden_of body) (greater (most_hidden_else_ifs eis) (most_hidden_else o))
  most_hidden (fs.do_construct n k body p x) = hidden_more k (most_hidden_of body)
  most_hidden (fs.case_construct e cs p q) = most_hidden_cases cs + 1
  most_hidden (fs.critical_construct x body p q) = most_hidden_of body
  most_hidden (fs.change_team_construct e ps body x p q) = most_hidden_of body

  pub most_hidden_of : fs.Statements → ℕ
  most_hidden_of fs.no_statements = 0
  most_hidden_of (fs.more_statements x rest) = greater (most_hidden x) (most_hidden_of rest)

  pub most_hidden_else_ifs : fs.ElseIfBlocks → ℕ
  most_hidden_else_ifs fs.no_else_ifs = 0
  most_hidden_else_ifs (fs.more_else_ifs e body p rest) = greater (most_hidden_of body) (most_hidden_else_ifs rest)

  pub most_hidden_else : fs.ElseBlock → ℕ
  most_hidden_else fs.no_else_block = 0
  most_hidden_else (fs.else_block body p) = most_hidden_of body

  pub most_hidden_cases : fs.CaseBlocks → ℕ
  most_hidden_cases fs.no_case_blocks = 0
  most_hidden_cases (fs.more_case_blocks x body p rest) = greater (most_hidden_of body) (most_hidden_cases rest)
