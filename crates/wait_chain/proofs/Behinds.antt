-- What comes behind the links of a chain where the next image hasn't stopped.
use Rattle.std.proofs.Common.{◌≡◌, ℕ, true, false, List, refl, sym, ◌∙◌, subst}
use Rattle.std.specs.Prelude.{Option, Some}
use Rattle.caf_events.specs.declared.event.Entry.{Entry}
use Rattle.object_rules.specs.Happenings.{control, happened, has_stopped}
use Rattle.object_rules.specs.ImagePairs.{names}
use Rattle.wait_chain.specs.declared.links.Close.TheVariants as closes
use Rattle.wait_chain.specs.declared.links.Behind.TheVariants as behinds
use Rattle.wait_chain.specs.Links.{behind}

some_same : (i j : ℕ) (o : Option ℕ) → o ≡ Some i → o ≡ Some j → i ≡ j
some_same i j o p q = let w : Some i ≡ Some j = sym p ∙ q in cc

module _ (g : List Entry) (ls : List ℕ) (o : Option ℕ) (i j : ℕ) (first : o ≡ Some i) (next : o ≡ Some j) (goes : has_stopped i (happened control g) ≡ false) where
  goes_on : has_stopped j (happened control g) ≡ false
  goes_on = subst (λ z. has_stopped z (happened control g) ≡ false) (some_same i j o first next) goes

  -- it is one of the links
  pub cycle_behind : names j ls ≡ true → behinds.Closes (closes.Cycle (record { 0 = j })) ≡ behind g ls o
  cycle_behind among = subst (λ z. behinds.Closes (closes.Cycle (record { 0 = j })) ≡ behind g ls z) (sym next) (let on = goes_on in rw (on, among) refl)

  -- it is a further one
  pub next_behind : (k : ℕ) → o ≡ Some k → names j ls ≡ false → behinds.Next (record { 0 = k }) ≡ behind g ls o
  next_behind k same new =
      subst (λ z. behinds.Next (record { 0 = z }) ≡ behind g ls o) (some_same j k o next same)
      (subst (λ z. behinds.Next (record { 0 = j }) ≡ behind g ls z) (sym next) (let on = goes_on in rw (on, new) refl))
