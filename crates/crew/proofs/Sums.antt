-- Sums over lists, counted by places from 1 or from the front.
use Rattle.std.proofs.Common.{◌≡◌, ℕ, zero, suc, ◌+◌, ◌<◌, ◌≤◌, List, [], ◌∷◌, length, map, ap, sym, ◌∙◌, refl, arith}
use Rattle.std.proofs.lemmas.List.{length-map}
use Rattle.caf_events.specs.declared.event.Event.{Event}
use Rattle.caf_events.specs.declared.event.Entry.{Entry}
use Rattle.core_runs.specs.Lists.{list_at, entries_of, entry}
use Rattle.image_core.specs.Parts.{total}
use Rattle.worker_laws.specs.Counts.{events_of}

-- a number for each place from 1 to n, summed
abbrev sum_to : (ℕ → ℕ) → ℕ → ℕ
sum_to f zero = 0
sum_to f (suc n) = sum_to f n + f (suc n)

sum_first : (f : ℕ → ℕ) (n : ℕ) → sum_to f (suc n) ≡ f 1 + sum_to (λ k. f (suc k)) n
sum_first f zero = omega arith
sum_first f (suc n) = (let r = sum_first f n in omega arith)

same_sum : (f g : ℕ → ℕ) (n : ℕ) → ((k : ℕ) → f (suc k) ≡ g (suc k)) → sum_to f n ≡ sum_to g n
same_sum f g zero h = refl
same_sum f g (suc n) h = (let r = same_sum f g n h in let e = h n in omega arith)

sum_of_lists : (ls : List (List Event)) → sum_to (λ i. length (list_at ls i)) (length ls) ≡ total length ls
sum_of_lists [] = refl
sum_of_lists (es ∷ ls) =
    sum_first (λ i. length (list_at (es ∷ ls) i)) (length ls)
    ∙ ap (λ n. length es + n) (same_sum (λ k. length (list_at (es ∷ ls) (suc k))) (λ i. length (list_at ls i)) (length ls) (λ k. refl) ∙ sum_of_lists ls)

events_summed : (ls : List (List Event)) (n : ℕ) → events_of (entries_of ls) n ≡ sum_to (λ i. length (list_at ls i)) n
events_summed ls zero = refl
events_summed ls (suc n) = (let r = events_summed ls n in let e = length-map (list_at ls (suc n)) (entry (suc n)) in omega arith)

-- the events of all images are as many as the steps that were made
pub events_total : (ls : List (List Event)) → events_of (entries_of ls) (length ls) ≡ total length ls
events_total ls = events_summed ls (length ls) ∙ sum_of_lists ls
