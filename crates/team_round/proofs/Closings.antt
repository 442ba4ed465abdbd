-- The close of a round in the board's history is that of what has happened.
use Rattle.std.proofs.Common.{◌≡◌, ℕ, Bool, true, false, cond, List, [], ◌∷◌, ◌++◌, inl, inr, refl, ap, sym, ◌∙◌}
use Rattle.std.specs.Prelude.{Option, Some, None}
use Rattle.std.proofs.lemmas.Bool.{cases_Bool}
use Rattle.caf_events.specs.declared.event.Entry.{Entry}
use Rattle.object_rules.specs.Scans.{or_else, first_front_from}
use Rattle.object_rules.specs.Happenings.{Happening, Class, happens, happened}
use Rattle.object_rules.specs.TeamRounds.{has_closed, at_close}
use Rattle.object_rules.specs.BoardTeams.{closing}
use Rattle.team_round.proofs.Making.{happened_none, happened_some}

-- what had happened by a front
abbrev pub happened_by : Class → Option (List Entry) → Option (List Happening)
happened_by class None = None
happened_by class (Some f) = Some (happened class f)

-- where the test holds before, that is the first front
front_at_once : (test : List Happening → Bool) (b es : List Happening) → test b ≡ true → first_front_from test b es ≡ Some b
front_at_once test b [] t = rw t refl
front_at_once test b (x ∷ xs) t = rw t refl

module _ (class : Class) (test : List Happening → Bool) where
  split : (x : Entry) (xs : List Entry) (y : Happening) → happens class x.image.0 x.event.line x.event.ask x.event.reply ≡ Some y → happened class (x ∷ xs) ≡ y ∷ happened class xs
  split x xs y s = rw s refl

  next : (b : List Entry) (x : Entry) (xs : List Entry) (o : Option Happening) → happens class x.image.0 x.event.line x.event.ask x.event.reply ≡ o → test (happened class b) ≡ false
      → happened_by class (first_front_from (λ f. test (happened class f)) (b ++ x ∷ []) xs) ≡ first_front_from test (happened class (b ++ x ∷ [])) (happened class xs)
      → happened_by class (first_front_from (λ f. test (happened class f)) (b ++ x ∷ []) xs) ≡ first_front_from test (happened class b) (happened class (x ∷ xs))
  next b x xs None n f rest =
      rest ∙ ap (λ l. first_front_from test l (happened class xs)) (happened_none class b x n) ∙ ap (first_front_from test (happened class b)) (sym (rw n refl))
  next b x xs (Some y) s f rest =
      rest ∙ ap (λ l. first_front_from test l (happened class xs)) (happened_some class b x y s)
      ∙ sym (ap (λ c. or_else (cond c (Some (happened class b)) None) (first_front_from test (happened class b ++ y ∷ []) (happened class xs))) f)
      ∙ ap (first_front_from test (happened class b)) (sym (split x xs y s))

  fronts : (b es : List Entry) → happened_by class (first_front_from (λ f. test (happened class f)) b es) ≡ first_front_from test (happened class b) (happened class es)
  fronts b [] = elim (cases_Bool (test (happened class b))) [ inl t ↦ rw t refl | inr f ↦ rw f refl ]
  fronts b (x ∷ xs) = elim (cases_Bool (test (happened class b))) [
    | inl t ↦ ap (λ c. happened_by class (or_else (cond c (Some b) None) (first_front_from (λ f. test (happened class f)) (b ++ x ∷ []) xs))) t ∙ sym (front_at_once test (happened class b) (happened class (x ∷ xs)) t)
    | inr f ↦ ap (λ c. happened_by class (or_else (cond c (Some b) None) (first_front_from (λ g. test (happened class g)) (b ++ x ∷ []) xs))) f
        ∙ next b x xs (happens class x.image.0 x.event.line x.event.ask x.event.reply) refl f (fronts (b ++ x ∷ []) xs)
  ]

-- the close of a round, by entries and by what happened
pub closing_is : (class : Class) (team round : ℕ) (members : List ℕ) (h : List Entry) → happened_by class (closing class team round members h) ≡ at_close members team round (happened class h)
closing_is class team round members h = fronts class (has_closed members team round) [] h
