-- The links of a chain, as they are put one behind the other.
use Rattle.std.proofs.Common.{◌≡◌, ℕ, ◌≤◌, List, [], ◌∷◌, ◌++◌, length, ap, sym, ◌∙◌, subst, arith}
use Rattle.std.proofs.lemmas.List.{length-map, map-append}
use Rattle.caf_base.specs.declared.place.ImageNo.{ImageNo}
use Rattle.caf_events.specs.declared.event.Entry.{Entry}
use Rattle.object_rules.specs.Happenings.{numbers_of}
use Rattle.wait_reason.specs.Chains.{Wait}
use Rattle.wait_chain.specs.Links.{last_of, IsOpen}
use Rattle.wait_chain.proofs.Chaining.{open_few, last_more}

-- one more link
pub numbers_more : (ls : List ImageNo) (x : ImageNo) → numbers_of (ls ++ x ∷ []) ≡ numbers_of ls ++ x.0 ∷ []
numbers_more ls x = map-append (λ (i : ImageNo). i.0) ls (x ∷ [])

pub open_more : (n : ℕ) (t : List Entry) (ws : List Wait) (ls : List ImageNo) (x : ImageNo) → IsOpen n t ws (numbers_of ls ++ x.0 ∷ []) → IsOpen n t ws (numbers_of (ls ++ x ∷ []))
open_more n t ws ls x h = subst (IsOpen n t ws) (sym (numbers_more ls x)) h

pub last_link_more : (ls : List ImageNo) (x : ImageNo) → last_of (numbers_of (ls ++ x ∷ [])) ≡ x.0
last_link_more ls x = ap last_of (numbers_more ls x) ∙ last_more (numbers_of ls) x.0

-- there are no more links than images
pub links_few : (n : ℕ) (t : List Entry) (ws : List Wait) (ls : List ImageNo) → IsOpen n t ws (numbers_of ls) → length ls ≤ n
links_few n t ws ls h = let few = open_few n t ws (numbers_of ls) h in let same = length-map ls (λ (i : ImageNo). i.0) in omega arith
