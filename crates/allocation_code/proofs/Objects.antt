-- The objects of ALLOCATE and DEALLOCATE.
use Rattle.std.proofs.Common.{◌≡◌, ◌≢◌, ℕ, zero, suc, ◌+◌, List, [], ◌∷◌, ◌++◌, length, refl, arith, pos}
use Rattle.walk_theory.specs.Syntax.{Parts}
use Rattle.image_acts.specs.Acts as a
use Rattle.image_acts.specs.Acts.{Act, ask}
use Rattle.tree_meaning.specs.Allocation.{allocate_round, deallocate_round, numbers}
use Rattle.tree_meaning.specs.ImageControl.{round}
use Rattle.tree_meaning.specs.Sequences.{doing, pushing}
use Rattle.expr_code.specs.Drafts.{Drafted, written}

-- a round, by how many coarrays there are
pub none_allocated : (cs : List ℕ) → length cs ≡ 0 → allocate_round cs ≡ pushing (pos 0)
none_allocated [] h = refl
none_allocated (c ∷ cs) h = absurd (omega arith)

pub some_allocated : (cs : List ℕ) → length cs ≢ 0 → allocate_round cs ≡ round (doing (numbers cs ++ (ask (a.arrive_allocate (length cs)) ∷ [])))
some_allocated [] h = absurd (h refl)
some_allocated (c ∷ cs) h = refl

pub none_deallocated : (cs : List ℕ) → length cs ≡ 0 → deallocate_round cs ≡ pushing (pos 0)
none_deallocated [] h = refl
none_deallocated (c ∷ cs) h = absurd (omega arith)

pub some_deallocated : (cs : List ℕ) → length cs ≢ 0 → deallocate_round cs ≡ round (doing (numbers cs ++ (ask (a.arrive_deallocate (length cs)) ∷ [])))
some_deallocated [] h = absurd (h refl)
some_deallocated (c ∷ cs) h = refl

-- acts in two lots
pub written_both : (xs ys : List Act) (l : ℕ) (d : Drafted) → written l (doing (xs ++ ys)) d ≡ written l (doing ys) (written l (doing xs) d)
written_both [] ys l d = refl
written_both (x ∷ xs) ys l d = written_both xs ys l _

pub ruleset rounds = (none_allocated, some_allocated, none_deallocated, some_deallocated, written_both)
