-- The tree of a made program: of its size and of the values with which its elements begin, each part at its line and
-- column.
use Rattle.std.specs.Prelude.{ℕ, zero, suc, ◌+◌, List, [], ◌∷◌, codes, decimal, length, Some, None}
use Rattle.caf_base.specs.declared.place.Pos.{Pos}
use Rattle.fortran_tree.specs.declared.name.Name.{Name}
use Rattle.fortran_tree.specs.declared.expr.NumberKind.TheVariants.{Unstated}
use Rattle.fortran_tree.specs.declared.expr.Operator.TheVariants as operators
use Rattle.fortran_tree.specs.declared.expr.PrefixOperator.TheVariants as prefixes
use Rattle.fortran_tree.specs.Expressions as e
use Rattle.fortran_tree.specs.Expressions.{Expression, Designator}
use Rattle.fortran_tree.specs.Statements as s
use Rattle.fortran_tree.specs.Statements.{Declaration, Entity, Statement, Statements}
use Rattle.fortran_tree.specs.Units.{Program}

-- a place
abbrev pub here : ℕ → ℕ → Pos
here line col = record { line = line; col = col }

-- so many lines further down
abbrev pub line_at : ℕ → ℕ → ℕ
line_at n zero = n
line_at n (suc i) = line_at (n + 1) i

-- how many digits a number has
abbrev pub width : ℕ → ℕ
width n = length (decimal n)

-- a name, a variable as a designator and as an expression, a number, an element of u
abbrev pub name : List ℕ → Pos → Name
name x p = record { text = x; at = p }

abbrev pub scalar : List ℕ → Pos → Designator
scalar x p = e.part_ref (name x p) e.no_section_subscripts e.no_image_selector

abbrev pub variable : List ℕ → Pos → Expression
variable x p = e.designator (scalar x p)

abbrev pub number : ℕ → Pos → Expression
number n p = e.number n Unstated p

abbrev pub element : Expression → Pos → Designator
element x p = e.part_ref (name (codes "u") p) (e.more_section_subscripts (e.subscript x) e.no_section_subscripts) e.no_image_selector

-- a reference to a function without arguments, and a coindexed scalar
abbrev pub inquiry : List ℕ → Pos → Expression
inquiry x p = e.function_reference (name x p) e.no_arguments

abbrev pub coindexed : Name → Expression → Expression
coindexed n image =
    e.designator (e.part_ref n e.no_section_subscripts (e.image_selector (e.more_expressions image e.no_expressions) e.no_specifiers))

-- In what follows p is the place of a column of a line in which no number of the program's size stands before it, and q
-- that of one behind such a number, counted as if the number had no digits.

-- an entity without more
abbrev pub plain : List ℕ → Pos → Entity
plain x p = record { name = name x p; dimensions = []; coshape = None; initial = None }

-- u(SIZE)
abbrev pub array : (ℕ → Pos) → ℕ → Entity
array p size = record {
  name = name (codes "u") (p 12);
  dimensions = s.explicit (record { lower = None; upper = number size (p 14) }) ∷ [];
  coshape = None;
  initial = None;
}

-- edge[*]
abbrev pub coarray : Pos → Entity
coarray p = record { name = name (codes "edge") p; dimensions = []; coshape = Some (s.explicit_coshape [] None); initial = None }

-- edge[*], me, left, k, i, s, t
abbrev pub others : (ℕ → Pos) → List Entity
others q =
    coarray (q 17) ∷ plain (codes "me") (q 26) ∷ plain (codes "left") (q 30) ∷ plain (codes "k") (q 36) ∷ plain (codes "i") (q 39)
    ∷ plain (codes "s") (q 42) ∷ plain (codes "t") (q 45) ∷ []

-- integer :: u(SIZE), edge[*], me, left, k, i, s, t
abbrev pub declaration : (ℕ → Pos) → (ℕ → Pos) → ℕ → Declaration
declaration p q size = record { type_spec = s.integer None; attributes = []; entities = array p size ∷ others q; at = p 1 }

-- an assignment at the place of its left side
abbrev pub assignment : Designator → Expression → Pos → Statement
assignment d x p = s.action (s.assignment d x) p

-- me = this_image(), left = me - 1, if (left == 0) left = num_images()
abbrev pub opening : (ℕ → ℕ → Pos) → Statements
opening p =
    s.more_statements (assignment (scalar (codes "me") (p 2 1)) (inquiry (codes "this_image") (p 2 6)) (p 2 1))
    (s.more_statements (assignment (scalar (codes "left") (p 3 1))
    (e.binary operators.Subtract (variable (codes "me") (p 3 8)) (number 1 (p 3 13)) (p 3 8)) (p 3 1))
    (s.more_statements (s.action
    (s.if_statement (e.binary operators.Equal (variable (codes "left") (p 4 5)) (number 0 (p 4 13)) (p 4 5))
    (s.assignment (scalar (codes "left") (p 4 16)) (inquiry (codes "num_images") (p 4 23))) (p 4 16)) (p 4 1))
    s.no_statements))

-- u(J) = V
abbrev pub setting : (ℕ → Pos) → (ℕ → Pos) → ℕ → ℕ → Statement
setting p q j v = assignment (element (number j (p 3)) (p 1)) (number v (q 7)) (p 1)

-- those of so many elements, the first at this line
abbrev pub settings : (ℕ → ℕ) → ℕ → ℕ → ℕ → Statements
settings value line j zero = s.no_statements
settings value line j (suc n) =
    s.more_statements (setting (here line) (λ c. here line (width j + c)) j (value j)) (settings value (line + 1) (j + 1) n)

-- edge = u(SIZE), sync all, t = edge[left], sync all, the loop that moves the elements up, u(1) = t
abbrev pub turn : (ℕ → ℕ → Pos) → (ℕ → ℕ → Pos) → ℕ → Statements
turn p q size =
    s.more_statements (assignment (scalar (codes "edge") (p 1 1)) (e.designator (element (number size (p 1 10)) (p 1 8))) (p 1 1))
    (s.more_statements (s.action (s.sync_all None) (p 2 1))
    (s.more_statements (assignment (scalar (codes "t") (p 3 1))
    (coindexed (name (codes "edge") (p 3 5)) (variable (codes "left") (p 3 10))) (p 3 1))
    (s.more_statements (s.action (s.sync_all None) (p 4 1))
    (s.more_statements (s.do_construct None
    (s.counted (name (codes "i") (p 5 4)) (number size (p 5 8)) (number 2 (q 5 10))
    (Some (e.prefix prefixes.Minus (number 1 (q 5 14)) (q 5 13))))
    (s.more_statements (assignment (element (variable (codes "i") (p 6 3)) (p 6 1))
    (e.designator (element (e.binary operators.Subtract (variable (codes "i") (p 6 10)) (number 1 (p 6 14)) (p 6 10)) (p 6 8)))
    (p 6 1)) s.no_statements)
    (p 5 1) (record { name = None; at = p 7 1 }))
    (s.more_statements (assignment (element (number 1 (p 8 3)) (p 8 1)) (variable (codes "t") (p 8 8)) (p 8 1)) s.no_statements)))))

-- the loop that sums the elements up
abbrev pub sum_up : (ℕ → ℕ → Pos) → ℕ → Statement
sum_up p size = s.do_construct None (s.counted (name (codes "i") (p 11 4)) (number 1 (p 11 8)) (number size (p 11 11)) None)
    (s.more_statements (assignment (scalar (codes "s") (p 12 1))
    (e.binary operators.Add (variable (codes "s") (p 12 5)) (e.designator (element (variable (codes "i") (p 12 11)) (p 12 9))) (p 12 5))
    (p 12 1)) s.no_statements)
    (p 11 1) (record { name = None; at = p 13 1 })

-- ten turns, the sum of the elements and its print
abbrev pub closing : (ℕ → ℕ → Pos) → (ℕ → ℕ → Pos) → ℕ → Statements
closing p q size =
    s.more_statements (s.do_construct None (s.counted (name (codes "k") (p 0 4)) (number 1 (p 0 8)) (number 10 (p 0 11)) None)
    (turn p q size) (p 0 1) (record { name = None; at = p 9 1 }))
    (s.more_statements (assignment (scalar (codes "s") (p 10 1)) (number 0 (p 10 5)) (p 10 1))
    (s.more_statements (sum_up p size)
    (s.more_statements (s.action (s.call (name (codes "co_sum") (p 14 6))
    (Some (e.more_arguments None (variable (codes "s") (p 14 13)) e.no_arguments))) (p 14 1))
    (s.more_statements (s.action
    (s.if_statement (e.binary operators.Equal (variable (codes "me") (p 15 5)) (number 1 (p 15 11)) (p 15 5))
    (s.print s.free (s.value (variable (codes "s") (p 15 23)) ∷ [])) (p 15 14)) (p 15 1))
    s.no_statements))))

-- statements behind statements
abbrev pub followed_by : Statements → Statements → Statements
followed_by s.no_statements ys = ys
followed_by (s.more_statements x xs) ys = s.more_statements x (followed_by xs ys)

-- the line behind the first values
abbrev pub line_behind : ℕ → ℕ
line_behind size = line_at 6 size

-- the statements of a made program
abbrev pub made_statements : (ℕ → ℕ) → ℕ → Statements
made_statements value size =
    followed_by (opening (λ i c. here (1 + i) c)) (followed_by (settings value 6 1 size)
    (closing (λ i c. here (line_at (line_behind size) i) c) (λ i c. here (line_at (line_behind size) i) (width size + c)) size))

-- a made program
abbrev pub made_tree : (ℕ → ℕ) → ℕ → Program
made_tree value size = record {
  name = Some (name (codes "made") (here 1 9));
  uses = [];
  body = record {
    implicit_none = None;
    declarations = declaration (here 2) (λ c. here 2 (width size + c)) size ∷ [];
    statements = made_statements value size;
  };
  procedures = None;
  end = record { name = Some (name (codes "made") (here (line_at (line_behind size) 16) 13)); at = here (line_at (line_behind size) 16) 1 };
}
