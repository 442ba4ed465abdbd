-- The loop that EXIT or CYCLE means (11.1.7.4.4, 11.1.12), sought from the outermost construct inwards.
use Rattle.std.specs.Prelude.{ℕ, Bool, true, false, cond, not, ◌+◌, ◌||◌, List, [], ◌∷◌, Option, Some, None}
use Rattle.std.specs.Option.{option_map}
use Rattle.caf_base.specs.declared.place.Pos.{Pos}
use Rattle.fortran_tree.specs.declared.name.Name.{Name}
use Rattle.rule_definitions.specs.Actions as a
use Rattle.rule_definitions.specs.Judgements.{Judgement, fine, refused, ruled, unless}
use Rattle.branch_rules.specs.declared.branch.Target.{Target}

-- whether such a branch means a loop of this name
abbrev pub is_named : Option Name → Option Name → Bool
is_named None m = true
is_named (Some n) m = a.is_called n m

abbrev pub is_meant_loop : Option Name → a.Around → Bool
is_meant_loop n (a.loop m v) = is_named n m
is_meant_loop n c = false

-- the loop of a branch that stands in one construct more
abbrev pub from_inside : Target → a.Around → Target
from_inside x c = record { loops = cond (a.is_loop c) (x.loops + 1) x.loops; crosses = a.is_boundary c || x.crosses }

abbrev pub innermost_loop : Target
innermost_loop = record { loops = 0; crosses = false }

abbrev pub inwards : Option Name → Option Target → a.Around → Option Target
inwards n o c = cond (a.is_meant n c) (Some innermost_loop) (option_map (λ x. from_inside x c) o)

abbrev pub inwards_all : Option Name → Option Target → List a.Around → Option Target
inwards_all n o [] = o
inwards_all n o (c ∷ rest) = inwards_all n (inwards n o c) rest

abbrev pub target : Option Name → List a.Around → Option Target
target n around = option_map (λ k. record { loops = k; crosses = a.crosses n around }) (a.depth_of n around)

-- the depth of the loop, or rule 41 at the first place; rule 42 at the second
abbrev pub target_judged : Option Target → Pos → Pos → Judgement ℕ
target_judged None q p = refused 41 q
target_judged (Some x) q p = ruled (fine x.loops) (unless (not x.crosses) 42 p)

abbrev pub depth_judged : Option Name → List a.Around → Pos → Judgement ℕ
depth_judged n around p = target_judged (target n around) (a.absent_place n around p) p
