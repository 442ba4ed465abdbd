-- A counted loop makes the iterations of its count.
use Rattle.std.proofs.Common.{◌≡◌, ℕ, zero, suc, ◌+◌, ◌<◌, List, [], ◌∷◌, ◌++◌, refl, ap, sym, ◌∙◌, subst, arith}
use Rattle.std.proofs.lemmas.Bool.{lt-ltb}
use Rattle.std.specs.Prelude.{Option, Some}
use Rattle.trace_theory.specs.Machines.{Move, goes, Said, goes_on, go, Comes, WalkTo}
use Rattle.trace_theory.proofs.Machines.{go_more, walk_to_later, walk_to_join}
use Rattle.walk_theory.specs.Language.{Language, counted}
use Rattle.walk_theory.specs.Syntax.{Parts, Steps, stop, loop}
use Rattle.walk_theory.specs.Walks.{Loop, Task, run, eval, again, iterate, Config, to, at_statement, at_test, at_body, step}
use Rattle.walk_theory.specs.Evaluation.{leaves, outcome, ComesTo}
use Rattle.walk_theory.specs.Iterations.{IsCounted, Iteration, Iterations}
use Rattle.walk_theory.proofs.Evaluation.{parts_come}

module _ {A C Q R : Type 0} (L : Language A C Q R) (procedures : ℕ → Steps A) (limit : ℕ) where
  abbrev W : Config A C → Move (Config A C) Q R
  W = step L procedures limit

  -- one run of steps after another
  then_comes : (c d : Config A C) (m : Move (Config A C) Q R) → Comes W c (goes d) → Comes W d m → Comes W c m
  then_comes c d m (i, p) (k, q) = (i + k, go_more (Config A C) Q R W i k c ∙ ap (λ v. goes_on v (go W k)) p ∙ q)

  -- parts that leave something
  left_comes : (p : Parts A) (l : ℕ) (ts : List (Task A)) (c d : C) (n : ℕ) → outcome L p c ≡ leaves d → Comes W (to (eval l p ∷ ts) c n) (goes (to ts d n))
  left_comes p l ts c d n h = subst (λ o. ComesTo L procedures limit o l ts n (to (eval l p ∷ ts) c n)) h (parts_come L procedures limit p l ts c n)

  count_goes : (l n : ℕ) (x y : Config A C) → n < limit → counted L limit l n x y ≡ goes x
  count_goes l n x y h = rw (lt-ltb n limit h) refl

  walks_to : (c d : Config A C) → Comes W c (goes d) → WalkTo W c [] d
  walks_to c d (k, p) = (c, refl, k, p)

  nothing_after : (xs : List (Said Q R)) → xs ++ [] ≡ xs
  nothing_after [] = refl
  nothing_after (x ∷ xs) = ap (λ ys. x ∷ ys) (nothing_after xs)

  module _ (left : C → Option ℕ) (m : Loop A) (counts : IsCounted L left m) where
    -- where no iteration is left the loop goes on with what follows it
    pub none_left : (ts : List (Task A)) (c : C) (n : ℕ) → left c ≡ Some 0 → Comes W (at_test m ts c n) (goes (to ts c n))
    none_left ts c n h =
        then_comes _ (to (iterate m ∷ ts) (counts.tested c) n) (goes (to ts c n)) (left_comes m.test m.line (iterate m ∷ ts) c (counts.tested c) n (counts.tests c 0 h))
        (1, rw (counts.last c h) refl)

    -- where one is left the loop begins its body
    pub one_more_iteration : (ts : List (Task A)) (c : C) (n r : ℕ) → left c ≡ Some (suc r) → n < limit → Comes W (at_test m ts c n) (goes (at_body m ts c (n + 1)))
    one_more_iteration ts c n r h b =
        then_comes _ (to (iterate m ∷ ts) (counts.tested c) n) (goes (at_body m ts c (n + 1))) (left_comes m.test m.line (iterate m ∷ ts) c (counts.tested c) n (counts.tests c (suc r) h))
        (2, rw (counts.more c r h) (ap (λ v. goes_on v (go W 0)) (count_goes m.line n (at_body m ts c (n + 1)) (to [] c n) b)))

    one_iteration : (ts : List (Task A)) (c d : C) (n r k : ℕ) (es : List (Said Q R)) → left c ≡ Some (suc r) → Iteration L procedures limit left m c n es d k → WalkTo W (at_test m ts c n) es (at_test m ts d k)
    one_iteration ts c d n r k es h t =
        let first = one_more_iteration ts c n r h t.below in
        let body = walk_to_later (Config A C) Q R W first.0 _ _ _ es first.1 (t.body ts) in
        let last = then_comes (to (again m ∷ ts) t.end k) (to (eval m.line m.next ∷ eval m.line m.test ∷ iterate m ∷ ts) t.end k) (goes (at_test m ts d k)) (1, refl) (left_comes m.next m.line (eval m.line m.test ∷ iterate m ∷ ts) t.end d k t.next) in
        subst (λ xs. WalkTo W (at_test m ts c n) xs (at_test m ts d k)) (nothing_after es) (walk_to_join (Config A C) Q R W _ _ _ es [] body (walks_to _ _ last))

    -- a loop of which r iterations and more are left makes r iterations, and then so many are left
    pub iterations_walk : (r more : ℕ) (ts : List (Task A)) (c d : C) (n k : ℕ) (es : List (Said Q R)) → left c ≡ Some (r + more) → Iterations L procedures limit left m r c n es d k → WalkTo W (at_test m ts c n) es (at_test m ts d k) × (left d ≡ Some more)
    iterations_walk zero more ts c d n k es h (none, same, count) =
        let z : 0 + more ≡ more = omega arith in
        (rw (none, same, count) (walks_to _ _ (0, refl)), ap left same ∙ h ∙ ap Some z)
    iterations_walk (suc r) more ts c d n k es h (e, j, fs, gs, t, rest, all) =
        let z : suc r + more ≡ suc (r + more) = omega arith in
        let l = h ∙ ap Some z in
        let first = one_iteration ts c e n (r + more) j fs l t in
        let then_left = counts.takes t.end e (r + more) (t.keeps ∙ l) t.next in
        let others = iterations_walk r more ts e d j k gs then_left rest in
        (subst (λ xs. WalkTo W (at_test m ts c n) xs (at_test m ts d k)) (sym all) (walk_to_join (Config A C) Q R W _ _ _ fs gs first others.0), others.1)

    -- a statement that is a loop with the iteration count r makes r iterations, and the statement behind it comes next
    pub counted_loop : (start : Parts A) (rest : Steps A) (ts : List (Task A)) (b c d : C) (n r k : ℕ) (es : List (Said Q R)) → n < limit → outcome L start b ≡ leaves c → left c ≡ Some r → Iterations L procedures limit left m r c (n + 1) es d k
        → WalkTo W (at_statement m.line (loop start m.next m.test m.body) rest ts b n) es (to (run rest ∷ ts) d k)
    counted_loop start rest ts b c d n r k es below begins count iterations =
        let behind = run rest ∷ ts in
        let z : r ≡ r + 0 = omega arith in
        let enters = then_comes (at_statement m.line (loop start m.next m.test m.body) rest ts b n) (to (eval m.line start ∷ run stop ∷ eval m.line m.test ∷ iterate m ∷ behind) b (n + 1)) (goes (at_test m behind c (n + 1)))
        (1, ap (λ v. goes_on v (go W 0)) (count_goes m.line n _ _ below))
        (then_comes _ (to (run stop ∷ eval m.line m.test ∷ iterate m ∷ behind) c (n + 1)) _ (left_comes start m.line _ b c (n + 1) begins) (1, refl)) in
        let all = iterations_walk r 0 behind c d (n + 1) k es (count ∙ ap Some z) iterations in
        let leaves_it = none_left behind d k all.1 in
        let whole = walk_to_join (Config A C) Q R W _ _ _ es [] all.0 (walks_to _ _ leaves_it) in
        subst (λ xs. WalkTo W (at_statement m.line (loop start m.next m.test m.body) rest ts b n) xs (to (run rest ∷ ts) d k)) (nothing_after es) (walk_to_later (Config A C) Q R W enters.0 _ _ _ (es ++ []) enters.1 whole)
