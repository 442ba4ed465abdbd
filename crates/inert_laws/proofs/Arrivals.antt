-- An arrival on a team closes no round but the one that it joins.
use Rattle.std.proofs.Common.{◌≡◌, ℕ, suc, ◌+◌, Bool, true, false, ◌&&◌, ◌||◌, nat_eq, cond, List, [], ◌∷◌, ◌++◌, inl, inr, refl, ap, sym, ◌∙◌, arith}
use Rattle.std.specs.List.{list_any, list_all}
use Rattle.std.proofs.lemmas.List.Folds.{list_any-append}
use Rattle.std.proofs.lemmas.Bool.{cases_Bool, cases_eq, and_parts, and_from, or_cases, or_left, or_right, eqb-true, eq-eqb, le-leb, leb-true}
use Rattle.caf_events.specs.declared.round.RoundKind.{RoundKind}
use Rattle.object_rules.specs.Happenings.{Happening, arrives, is_stop, is_failure, has_stopped, has_failed, has_ended}
use Rattle.object_rules.specs.TeamRounds.{arrivals, has_arrived, has_closed}
use Rattle.object_rules.proofs.Growing.{arrivals_more}
use Rattle.team_laws.proofs.Lists.{any_by, all_by}

or_no : (b : Bool) → (b || false) ≡ b
or_no true = refl
or_no false = refl

or_by : (a b c d : Bool) → (a ≡ true → c ≡ true) → (b ≡ true → d ≡ true) → (a || b) ≡ true → (c || d) ≡ true
or_by a b c d f g h = elim (or_cases a b h) [ inl p ↦ or_left c d (f p) | inr q ↦ or_right c d (g q) ]

-- one that counts nothing
no_count : (a b : Bool) → (a && b) ≡ false → cond {A = ℕ} (a && b) 1 0 ≡ 0
no_count a b e = ap (λ c. cond {A = ℕ} c 1 0) e

module _ (team i : ℕ) (kind : RoundKind) (line : ℕ) (hs : List Happening) where
  abbrev more : List Happening
  more = hs ++ arrives team i kind line ∷ []

  abbrev pub joined : ℕ
  joined = suc (arrivals team i hs)

  -- the image's own arrivals on the team, and those of others
  pub own_more : (t m : ℕ) → t ≡ team → m ≡ i → arrivals t m more ≡ arrivals t m hs + 1
  own_more t m p q =
      let a = arrivals_more t m hs (arrives team i kind line) in
      let one : (nat_eq team t && nat_eq i m) ≡ true = and_from (nat_eq team t) (nat_eq i m) (eq-eqb team t (sym p)) (eq-eqb i m (sym q)) in
      let z = ap (λ c. cond {A = ℕ} c 1 0) one in
      omega arith

  pub other_same : (t m : ℕ) → (nat_eq team t && nat_eq i m) ≡ false → arrivals t m more ≡ arrivals t m hs
  other_same t m e = let a = arrivals_more t m hs (arrives team i kind line) in let z = no_count (nat_eq team t) (nat_eq i m) e in omega arith

  -- whoever has arrived in another round had so before it
  arrived_before : (t r m : ℕ) → ((t ≡ team) × (r ≡ joined) → ⊥) → has_arrived t r m more ≡ true → has_arrived t r m hs ≡ true
  arrived_before t r m other h = elim (cases_Bool (nat_eq team t && nat_eq i m)) [
    | inr f ↦ (let a = leb-true r (arrivals t m more) h in let s = other_same t m f in le-leb r (arrivals t m hs) (omega arith))
    | inl y ↦ (
        let p = and_parts (nat_eq team t) (nat_eq i m) y in
        let same : t ≡ team = sym (eqb-true team t p.0) in
        let own : m ≡ i = sym (eqb-true i m p.1) in
        let a = leb-true r (arrivals t m more) h in
        let s = own_more t m same own in
        let n : arrivals t m hs ≡ arrivals team i hs = ap (λ u. arrivals u m hs) same ∙ ap (λ k. arrivals team k hs) own in
        elim (cases_eq r joined) [
          | inl is ↦ absurd (other (same, is))
          | inr ne ↦ (let away : (r ≡ suc (arrivals team i hs) → ⊥) = ne in le-leb r (arrivals t m hs) (omega arith))
        ])
  ]

  stopped_same : (m : ℕ) → has_stopped m more ≡ has_stopped m hs
  stopped_same m = list_any-append (is_stop m) hs (arrives team i kind line ∷ []) ∙ or_no (has_stopped m hs)

  failed_same : (m : ℕ) → has_failed m more ≡ has_failed m hs
  failed_same m = list_any-append (is_failure m) hs (arrives team i kind line ∷ []) ∙ or_no (has_failed m hs)

  ended_before : (m : ℕ) → has_ended m more ≡ true → has_ended m hs ≡ true
  ended_before m h = ap (λ b. b || has_failed m hs) (sym (stopped_same m)) ∙ ap (λ b. has_stopped m more || b) (sym (failed_same m)) ∙ h

  -- so another round that is closed after it was closed before it
  pub closed_before : (ms : List ℕ) (t r : ℕ) → ((t ≡ team) × (r ≡ joined) → ⊥) → has_closed ms t r more ≡ true → has_closed ms t r hs ≡ true
  closed_before ms t r other h =
      let p = and_parts (list_any (λ m. has_arrived t r m more) ms) (list_all (λ m. has_arrived t r m more || has_ended m more) ms) h in
      and_from (list_any (λ m. has_arrived t r m hs) ms) (list_all (λ m. has_arrived t r m hs || has_ended m hs) ms)
      (any_by (λ m. has_arrived t r m more) (λ m. has_arrived t r m hs) (λ m. arrived_before t r m other) ms p.0)
      (all_by (λ m. has_arrived t r m more || has_ended m more) (λ m. has_arrived t r m hs || has_ended m hs)
      (λ m. or_by (has_arrived t r m more) (has_ended m more) (has_arrived t r m hs) (has_ended m hs) (arrived_before t r m other) (ended_before m)) ms p.1)
