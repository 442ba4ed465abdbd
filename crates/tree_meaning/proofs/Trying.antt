-- What a walk says, for tries: its asks with their lines, where it hears these replies.
use Rattle.std.proofs.Common.{ℕ, zero, suc, ◌+◌, List, [], ◌∷◌, map, length}
use Rattle.trace_theory.specs.Machines.{Move, goes, asks, over}
use Rattle.caf_events.specs.declared.ask.Ask.{Ask}
use Rattle.caf_events.specs.declared.reply.Reply.{Reply}
use Rattle.walk_theory.specs.Walks.{Config}
use Rattle.checked_tree.specs.Statements as s
use Rattle.image_acts.specs.Acts.{Act}
use Rattle.image_acts.specs.Core.{Core}
use Rattle.tree_meaning.specs.Start.{start_of, walk_step}

abbrev after : (Config Act Core → Move (Config Act Core) Ask Reply) → ℕ → List Reply → Move (Config Act Core) Ask Reply → List (Ask × ℕ)
after f zero rs m = []
after f (suc n) rs (goes c) = after f n rs (f c)
after f (suc n) [] (asks a l k) = (a, l) ∷ []
after f (suc n) (r ∷ rs) (asks a l k) = (a, l) ∷ after f n rs (f (k r))
after f (suc n) rs over = []

-- the first asks of an image, of so many small steps
abbrev pub said_in : ℕ → s.Program → (limit me images : ℕ) → List Reply → List (Ask × ℕ)
said_in steps p limit me n rs = after (walk_step p limit) steps rs (walk_step p limit (start_of p me n))

-- the first asks of an image
abbrev pub said : s.Program → (limit me images : ℕ) → List Reply → List (Ask × ℕ)
said p limit me n rs = after (walk_step p limit) 1000 rs (walk_step p limit (start_of p me n))

-- its cores after each reply
abbrev cores_after : (Config Act Core → Move (Config Act Core) Ask Reply) → ℕ → List Reply → Move (Config Act Core) Ask Reply → List Core
cores_after f zero rs m = []
cores_after f (suc n) rs (goes c) = cores_after f n rs (f c)
cores_after f (suc n) [] (asks a l k) = []
cores_after f (suc n) (r ∷ rs) (asks a l k) = (k r).core ∷ cores_after f n rs (f (k r))
cores_after f (suc n) rs over = []

abbrev cores : s.Program → (limit me images : ℕ) → List Reply → List Core
cores p limit me n rs = cores_after (walk_step p limit) 1000 rs (walk_step p limit (start_of p me n))

-- how many evaluation cells are in use after each reply
abbrev pub cells_used : s.Program → (limit me images : ℕ) → List Reply → List ℕ
cells_used p limit me n rs = map (λ c. c.used) (cores p limit me n rs)

-- how many numbers and array values are there then
abbrev pub values_there : s.Program → (limit me images : ℕ) → List Reply → List ℕ
values_there p limit me n rs = map (λ c. length c.values + length c.arrays) (cores p limit me n rs)
