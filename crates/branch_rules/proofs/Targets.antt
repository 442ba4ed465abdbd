-- The loop that a branch means, found from the outermost construct inwards.
use Rattle.std.proofs.Common.{◌≡◌, ◌∙◌, ℕ, ◌+◌, Bool, true, false, List, [], ◌∷◌, refl, ap, arith}
use Rattle.std.specs.Prelude.{◌||◌, ◌&&◌, cond, nat_eq, not, Option, Some, None}
use Rattle.std.specs.Option.{option_map}
use Rattle.caf_base.specs.declared.place.Pos.{Pos}
use Rattle.fortran_tree.specs.declared.name.Name.{Name}
use Rattle.checked_tree.specs.Statements as ts
use Rattle.rule_definitions.specs.Actions as a
use Rattle.rule_definitions.specs.Judgements.{Judgement, fine, made, or_else, is_there, refused, ruled, unless}
use Rattle.branch_rules.specs.Branches.{depth_judged, from_inside, innermost_loop, inwards, inwards_all, is_meant_loop, target, target_judged}
use Rattle.branch_rules.specs.declared.branch.Target.{Target}

pub meant_by_construct : (n : Option Name) (c : a.Around) → a.is_meant n c ≡ is_meant_loop n c
meant_by_construct None (a.loop m v) = refl
meant_by_construct None a.selection = refl
meant_by_construct None a.critical = refl
meant_by_construct None a.team_change = refl
meant_by_construct (Some n) (a.loop m v) = refl
meant_by_construct (Some n) a.selection = refl
meant_by_construct (Some n) a.critical = refl
meant_by_construct (Some n) a.team_change = refl

pub one_more_isnt_none : (n : ℕ) → nat_eq (n + 1) 0 ≡ false
one_more_isnt_none n = grind arith

abbrev a_target : ℕ → Bool → Target
a_target k b = record { loops = k; crosses = b }

alike : (k l : ℕ) (b c : Bool) → k ≡ l → b ≡ c → Some (a_target k b) ≡ Some (a_target l c)
alike k l b c e f = ap (λ x. Some (a_target x b)) e ∙ ap (λ x. Some (a_target l x)) f

or_false : (b : Bool) → (b || false) ≡ b
or_false true = refl
or_false false = refl

or_true : (b : Bool) → (b || true) ≡ true
or_true true = refl
or_true false = refl

-- a loop that was found before a list of constructs, seen from inside of all of them
abbrev behind : Option ℕ → Bool → ℕ → Bool → Option Target → Option Target
behind (Some k) c m b o = Some (a_target k c)
behind None c m b o = option_map (λ x. a_target (x.loops + m) (b || x.crosses)) o

crossing : (m : ℕ) (b : Bool) (x : Target) (c : a.Around)
    → behind None false m b (Some (from_inside x c)) ≡ behind None false (cond (a.is_loop c) (m + 1) m) (a.is_boundary c || b) (Some x)
crossing m b x (a.loop n v) = alike ((x.loops + 1) + m) (x.loops + (m + 1)) (b || x.crosses) (b || x.crosses) (omega arith) refl
crossing m b x a.selection = refl
crossing m b x a.critical = alike (x.loops + m) (x.loops + m) (b || true) true refl (or_true b)
crossing m b x a.team_change = alike (x.loops + m) (x.loops + m) (b || true) true refl (or_true b)

further : (meant : Bool) (d : Option ℕ) (crosses : Bool) (m : ℕ) (b : Bool) (o : Option Target) (c : a.Around)
    → behind d crosses m b (cond meant (Some innermost_loop) (option_map (λ x. from_inside x c) o))
    ≡ behind (or_else d (cond meant (Some m) None)) (cond (is_there d) crosses (meant && b)) (cond (a.is_loop c) (m + 1) m) (a.is_boundary c || b) o
further meant (Some k) crosses m b o c = refl
further true None crosses m b o c = alike (0 + m) m (b || false) b (omega arith) (or_false b)
further false None crosses m b None c = refl
further false None crosses m b (Some x) c = crossing m b x c

all_behind : (n : Option Name) (o : Option Target) (around : List a.Around)
    → inwards_all n o around ≡ behind (a.depth_of n around) (a.crosses n around) (a.loops_in around) (a.has_boundary around) o
all_behind n None [] = refl
all_behind n (Some x) [] = alike x.loops (x.loops + 0) x.crosses x.crosses (omega arith) refl
all_behind n o (c ∷ rest) =
    all_behind n (inwards n o c) rest
    ∙ further (a.is_meant n c) (a.depth_of n rest) (a.crosses n rest) (a.loops_in rest) (a.has_boundary rest) o c

none_before : (d : Option ℕ) (c : Bool) (m : ℕ) (b : Bool) → behind d c m b None ≡ option_map (λ k. a_target k c) d
none_before None c m b = refl
none_before (Some k) c m b = refl

pub target_found : (n : Option Name) (around : List a.Around) → inwards_all n None around ≡ target n around
target_found n around = all_behind n None around ∙ none_before (a.depth_of n around) (a.crosses n around) (a.loops_in around) (a.has_boundary around)

-- what is judged of the depth is what is judged of the branch
abbrev left : (ℕ → ts.StatementForm) → Option ℕ → Bool → Pos → Pos → Judgement ts.StatementForm
left make d c q p = elim d [ None ↦ refused 41 q | Some k ↦ ruled (fine (make k)) (unless (not c) 42 p) ]

left_breaks : (make : ℕ → ts.StatementForm) (d : Option ℕ) (c : Bool) (q p : Pos)
    → (target_judged (option_map (λ k. a_target k c) d) q p).breaks ≡ (left make d c q p).breaks
left_breaks make None c q p = refl
left_breaks make (Some k) c q p = refl

left_meaning : (make : ℕ → ts.StatementForm) (d : Option ℕ) (c : Bool) (q p : Pos)
    → made make (target_judged (option_map (λ k. a_target k c) d) q p).meaning ≡ (left make d c q p).meaning
left_meaning make None c q p = refl
left_meaning make (Some k) true q p = refl
left_meaning make (Some k) false q p = refl

pub leaving_breaks : (make : ℕ → ts.StatementForm) (n : Option Name) (around : List a.Around) (p : Pos) → (depth_judged n around p).breaks ≡ (a.leaving make n around p).breaks
leaving_breaks make n around p = left_breaks make (a.depth_of n around) (a.crosses n around) (a.absent_place n around p) p

pub leaving_meaning : (make : ℕ → ts.StatementForm) (n : Option Name) (around : List a.Around) (p : Pos) → made make (depth_judged n around p).meaning ≡ (a.leaving make n around p).meaning
leaving_meaning make n around p = left_meaning make (a.depth_of n around) (a.crosses n around) (a.absent_place n around p) p
