-- Laws of machines that go by small steps.
use Rattle.std.proofs.Common.{◌≡◌, ℕ, zero, suc, ◌+◌, List, [], ◌∷◌, ◌++◌, refl, ap, sym, ◌∙◌, subst, arith, zero-add}
use Rattle.trace_theory.specs.Machines.{Move, goes, asks, over, Said, goes_on, go, Comes, Walk, WalkTo, OneNextAsk, Rests}

pub stays : {C A R : Type 0} (m : Move C A R) (f : C → Move C A R) → Rests m → goes_on m f ≡ m
stays (goes c) f s = absurd s
stays (asks a l k) f s = refl
stays over f s = refl

module _ (C A R : Type 0) (step : C → Move C A R) where
  goes_on_twice : (v : Move C A R) (f g h : C → Move C A R) → ((c : C) → f c ≡ goes_on (g c) h) → goes_on v f ≡ goes_on (goes_on v g) h
  goes_on_twice (goes c) f g h e = e c
  goes_on_twice (asks a l k) f g h e = refl
  goes_on_twice over f g h e = refl

  -- n steps and then m more
  pub go_more : (n m : ℕ) (c : C) → go step (n + m) c ≡ goes_on (go step n c) (go step m)
  go_more zero m c = rw zero-add refl
  go_more (suc n) m c =
      let e : suc n + m ≡ suc (n + m) = omega arith in
      ap (λ k. go step k c) e ∙ goes_on_twice (step c) (go step (n + m)) (go step n) (go step m) (go_more n m)

  -- a configuration has at most one next ask
  pub one_next_ask : OneNextAsk step
  one_next_ask c a b l m j k (x, p) (y, q) =
      let e = sym (go_more x y c ∙ ap (λ v. goes_on v (go step y)) p) in
      let f = go_more y x c ∙ ap (λ v. goes_on v (go step x)) q in
      let s : x + y ≡ y + x = omega arith in
      let t = e ∙ (ap (λ n. go step n c) s ∙ f) in
      (cc, cc, cc)

  -- a configuration comes to one ask, or to its end
  pub one_stop : (c : C) (m n : Move C A R) → Rests m → Rests n → Comes step c m → Comes step c n → m ≡ n
  one_stop c m n s t (x, p) (y, q) =
      let e = go_more x y c ∙ ap (λ v. goes_on v (go step y)) p ∙ stays m (go step y) s in
      let f = go_more y x c ∙ ap (λ v. goes_on v (go step x)) q ∙ stays n (go step x) t in
      let o : x + y ≡ y + x = omega arith in
      sym e ∙ (ap (λ k. go step k c) o ∙ f)

  -- a walk goes on by the next ask and its reply
  pub walk_more : (c d : C) (es : List (Said A R)) (e : Said A R) (k : R → C) → Walk step c es d → Comes step d (asks e.ask e.line k) → Walk step c (es ++ e ∷ []) (k e.reply)
  walk_more c d [] e k w comes = (k, subst (λ x. Comes step x (asks e.ask e.line k)) w comes, refl)
  walk_more c d (s ∷ es) e k (j, first, w) comes = (j, first, walk_more (j s.reply) d es e k w comes)

  -- steps that ask nothing, and then an ask
  pub comes_later : (n : ℕ) (c d : C) (a : A) (l : ℕ) (k : R → C) → go step n c ≡ goes d → step d ≡ asks a l k → Comes step c (asks a l k)
  comes_later n c d a l k h s = (n + 1, go_more n 1 c ∙ ap (λ v. goes_on v (go step 1)) h ∙ ap (λ v. goes_on v (go step 0)) s)

  -- a machine that stands at its ask hears the reply and goes on
  pub walk_to_more : (c d e : C) (es : List (Said A R)) (s : Said A R) (k : R → C) → WalkTo step c es d → step d ≡ asks s.ask s.line k → (n : ℕ) → go step n (k s.reply) ≡ goes e → WalkTo step c (es ++ s ∷ []) e
  walk_to_more c d e es s k (m, w, n, h) at j g = (k s.reply, walk_more c m es s k w (comes_later n m d s.ask s.line k h at), j, g)

  -- steps that ask nothing before a walk
  pub walk_to_later : (n : ℕ) (c d e : C) (es : List (Said A R)) → go step n c ≡ goes d → WalkTo step d es e → WalkTo step c es e
  walk_to_later n c d e [] p (m, w, k, q) = (c, refl, n + k, go_more n k c ∙ ap (λ v. goes_on v (go step k)) p ∙ ap (go step k) (sym w) ∙ q)
  walk_to_later n c d e (s ∷ es) p (m, (k, comes, w), j, at) =
      (m, (k, (n + comes.0, go_more n comes.0 c ∙ ap (λ v. goes_on v (go step comes.0)) p ∙ comes.1), w), j, at)

  -- one walk after another
  pub walk_to_join : (c d e : C) (es fs : List (Said A R)) → WalkTo step c es d → WalkTo step d fs e → WalkTo step c (es ++ fs) e
  walk_to_join c d e [] fs (m, w, n, p) v = walk_to_later n c d e fs (ap (go step n) (sym w) ∙ p) v
  walk_to_join c d e (s ∷ es) fs (m, (k, comes, w), j, at) v =
      let r = walk_to_join (k s.reply) d e es fs (m, w, j, at) v in (r.0, (k, comes, r.1), r.2, r.3)
