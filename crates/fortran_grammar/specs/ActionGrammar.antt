-- Which tokens spell which declaration (ISO/IEC 1539-1:2018, 8.2) and which action (R515).
use Rattle.std.specs.Prelude.{ℕ, suc, zero, Bool, true, false, ◌&&◌, List, [], ◌∷◌, codes, Option, Some, None}
use Rattle.caf_base.specs.declared.place.Pos.{Pos}
use Rattle.fortran_tokens.specs.declared.token.Sign.TheVariants.{Assign, Colon, Colons, Comma, Star}
use Rattle.fortran_tree.specs.declared.name.Name.{Name}
use Rattle.fortran_tree.specs.declared.declaration.Intent.{Intent}
use Rattle.fortran_tree.specs.declared.declaration.Intent.TheVariants as intents
use Rattle.fortran_tree.specs.Expressions as expressions
use Rattle.fortran_tree.specs.Expressions.{Expression, Designator, Specifiers, Arguments}
use Rattle.fortran_tree.specs.Statements as s
use Rattle.fortran_tree.specs.Statements.{DeclarationTypeSpec, Bounds, Dimension, CoarraySpec, Attribute, Entity, Declaration, Format, Item, ImageSet, Allocation, ActionStatement}
use Rattle.fortran_grammar.specs.Phrases.{Phrase, nothing, never, ◌▸◌, ◌∪◌, only, deeper, from, name, literal, key, sign, over, joined, round, square, optional, followed, listed, maybe_listed, repeated}
use Rattle.fortran_grammar.specs.ExpressionGrammar.{expr, designator, more_specifiers, arguments}

-- [ "(" [ "kind" "=" ] expr ")" ]
abbrev pub kind : Option Expression → Phrase
kind None = nothing
kind (Some e) = round ((nothing ∪ key (codes "kind") ▸ sign Assign) ▸ expr e)

-- ( "integer" | "logical" ) [ "(" [ "kind" "=" ] expr ")" ] | "type" "(" NAME ")"
abbrev pub declaration_type_spec : DeclarationTypeSpec → Phrase
declaration_type_spec (s.integer k) = key (codes "integer") ▸ kind k
declaration_type_spec (s.logical k) = key (codes "logical") ▸ kind k
declaration_type_spec (s.derived n) = key (codes "type") ▸ round (name n)

-- expr ":"
abbrev pub lower_bound : Expression → Phrase
lower_bound e = expr e ▸ sign Colon

-- [ expr ":" ] expr (R816, and R811 without the last)
abbrev pub bounds : Bounds → Phrase
bounds b = optional lower_bound b.lower ▸ expr b.upper

-- [ expr ":" ] expr | ":"
abbrev pub dimension : Dimension → Phrase
dimension (s.explicit b) = bounds b
dimension (s.deferred at) = from at (sign Colon)

-- [ "(" dimension { "," dimension } ")" ]
abbrev pub maybe_dimensions : List Dimension → Phrase
maybe_dimensions [] = nothing
maybe_dimensions ds = round (listed dimension ds)

-- [ expr ":" ] expr ",": the cobounds of a codimension before the last
abbrev pub cobound : Bounds → Phrase
cobound b = bounds b ▸ sign Comma

-- so many colons more, each behind a comma
abbrev pub more_colons : ℕ → Phrase
more_colons zero = nothing
more_colons (suc n) = sign Comma ▸ sign Colon ▸ more_colons n

-- so many colons, one at least
abbrev pub colon_list : ℕ → Phrase
colon_list zero = never
colon_list (suc n) = sign Colon ▸ more_colons n

-- { [ expr ":" ] expr "," } [ expr ":" ] "*" | ":" { "," ":" } (R809)
abbrev pub coarray_spec : CoarraySpec → Phrase
coarray_spec (s.explicit_coshape bs e) = repeated cobound bs ▸ optional lower_bound e ▸ sign Star
coarray_spec (s.deferred_coshape n) = colon_list n

-- "[" coarray_spec "]"
abbrev pub bracketed_coarray_spec : CoarraySpec → Phrase
bracketed_coarray_spec c = square (coarray_spec c)

-- "in" | "out" | "in" "out" (R826)
abbrev pub intent : Intent → Phrase
intent intents.In = key (codes "in")
intent intents.Out = key (codes "out")
intent intents.InOut = joined (codes "in") (codes "out")

-- an attribute (R802)
abbrev pub attribute : Attribute → Phrase
attribute s.parameter = key (codes "parameter")
attribute s.allocatable = key (codes "allocatable")
attribute s.save = key (codes "save")
attribute (s.dimension ds) = key (codes "dimension") ▸ round (listed dimension ds)
attribute (s.codimension c) = key (codes "codimension") ▸ bracketed_coarray_spec c
attribute (s.intent i) = key (codes "intent") ▸ round (intent i)

-- "=" expr
abbrev pub initial : Expression → Phrase
initial e = sign Assign ▸ expr e

-- NAME [ "(" dimension { "," dimension } ")" ] [ "[" coarray_spec "]" ] [ "=" expr ] (R803)
abbrev pub entity : Entity → Phrase
entity e = name e.name ▸ maybe_dimensions e.dimensions ▸ optional bracketed_coarray_spec e.coshape ▸ optional initial e.initial

-- there is none
abbrev pub is_none : Option Expression → Bool
is_none None = true
is_none (Some e) = false

-- no entity has an initial value
abbrev pub no_initial : List Entity → Bool
no_initial [] = true
no_initial (e ∷ more) = is_none e.initial && no_initial more

-- there is no attribute
abbrev pub no_attribute : List Attribute → Bool
no_attribute [] = true
no_attribute (a ∷ more) = false

-- "::", which may be missing there
abbrev pub colons : Declaration → Phrase
colons d = sign Colons ∪ only (no_attribute d.attributes && no_initial d.entities) nothing

-- declaration_type_spec { "," attribute } [ "::" ] entity { "," entity } (R801)
abbrev pub declaration : Declaration → Phrase
declaration d = from d.at (declaration_type_spec d.type_spec ▸ followed attribute d.attributes ▸ colons d ▸ listed entity d.entities ▸ over)

-- "*" | LITERAL
abbrev pub format : Format → Phrase
format s.free = sign Star
format (s.written x) = literal x

-- expr | LITERAL
abbrev pub item : Item → Phrase
item (s.quoted x) = literal x
item (s.value e) = expr e

-- "*" | expr
abbrev pub image_set : ImageSet → Phrase
image_set s.all_images = sign Star
image_set (s.images e) = expr e

-- NAME [ "(" dimension { "," dimension } ")" ] [ "[" coarray_spec "]" ]
abbrev pub allocation : Allocation → Phrase
allocation a = name a.name ▸ maybe_dimensions a.bounds ▸ optional bracketed_coarray_spec a.cobounds

-- [ specifier { "," specifier } ]
abbrev pub specifiers : Specifiers → Phrase
specifiers expressions.no_specifiers = nothing
specifiers (expressions.more_specifiers n e ps) = name n ▸ sign Assign ▸ expr e ▸ more_specifiers ps

-- "(" [ specifier { "," specifier } ] ")"
abbrev pub bracketed_specifiers : Specifiers → Phrase
bracketed_specifiers ps = round (specifiers ps)

-- "(" [ arguments ] ")"
abbrev pub bracketed_arguments : Arguments → Phrase
bracketed_arguments args = round (arguments args)

-- "(" designator { "," specifier } ")"
abbrev pub object : Designator → Specifiers → Phrase
object d ps = round (designator d ▸ more_specifiers ps)

-- "(" expr { "," specifier } ")"
abbrev pub team : Expression → Specifiers → Phrase
team e ps = round (expr e ▸ more_specifiers ps)

-- "(" expr "," NAME { "," specifier } ")"
abbrev pub new_team : Expression → Name → Specifiers → Phrase
new_team e n ps = round (expr e ▸ sign Comma ▸ name n ▸ more_specifiers ps)

-- "(" ( "*" | expr ) { "," specifier } ")"
abbrev pub synchronized : ImageSet → Specifiers → Phrase
synchronized i ps = round (image_set i ▸ more_specifiers ps)

-- "(" allocation { "," allocation } { "," specifier } ")"
abbrev pub allocated : List Allocation → Specifiers → Phrase
allocated os ps = round (listed allocation os ▸ more_specifiers ps)

-- "(" NAME { "," NAME } { "," specifier } ")"
abbrev pub deallocated : List Name → Specifiers → Phrase
deallocated ns ps = round (listed name ns ▸ more_specifiers ps)

-- an action; under a one-line IF a further one, whose first token stands at a place (a constraint of R1139 has no IF
-- there: an extension)
abbrev pub action_statement : ActionStatement → Phrase
action_statement (s.assignment d e) = designator d ▸ sign Assign ▸ expr e
action_statement (s.call n args) = key (codes "call") ▸ name n ▸ optional bracketed_arguments args
action_statement (s.print f is) = key (codes "print") ▸ format f ▸ followed item is
    ∪ key (codes "write") ▸ round (sign Star ▸ sign Comma ▸ format f) ▸ maybe_listed item is
action_statement (s.exit n) = key (codes "exit") ▸ optional name n
action_statement (s.cycle n) = key (codes "cycle") ▸ optional name n
action_statement s.return = key (codes "return")
action_statement (s.stop e) = key (codes "stop") ▸ optional expr e
action_statement (s.error_stop e) = key (codes "error") ▸ key (codes "stop") ▸ optional expr e
action_statement s.fail_image = key (codes "fail") ▸ key (codes "image")
action_statement (s.allocate os ps) = key (codes "allocate") ▸ allocated os ps
action_statement (s.deallocate ns ps) = key (codes "deallocate") ▸ deallocated ns ps
action_statement (s.sync_all ps) = key (codes "sync") ▸ key (codes "all") ▸ optional bracketed_specifiers ps
action_statement (s.sync_memory ps) = key (codes "sync") ▸ key (codes "memory") ▸ optional bracketed_specifiers ps
action_statement (s.sync_images i ps) = key (codes "sync") ▸ key (codes "images") ▸ synchronized i ps
action_statement (s.sync_team e ps) = key (codes "sync") ▸ key (codes "team") ▸ team e ps
action_statement (s.form_team e n ps) = key (codes "form") ▸ key (codes "team") ▸ new_team e n ps
action_statement (s.lock d ps) = key (codes "lock") ▸ object d ps
action_statement (s.unlock d ps) = key (codes "unlock") ▸ object d ps
action_statement (s.event_post d ps) = key (codes "event") ▸ key (codes "post") ▸ object d ps
action_statement (s.event_wait d ps) = key (codes "event") ▸ key (codes "wait") ▸ object d ps
action_statement (s.if_statement e a at) = deeper (key (codes "if") ▸ round (expr e) ▸ from at (action_statement a))

-- an action, whose first token stands at a place
abbrev pub action : ActionStatement → Pos → Phrase
action a at = from at (action_statement a)
