-- What holds of each meaning that a judgement may have.
use Rattle.std.proofs.Common.{◌≡◌, Bool, true, false, List, refl, subst}
use Rattle.std.specs.Prelude.{cond, Option, Some, None}
use Rattle.rule_definitions.specs.declared.broken.Broken.{Broken}
use Rattle.rule_definitions.specs.Judgements.{is_nothing, Judgement, fine, ruled, both, three, made, made_of, made_of_both, made_of_three, then_made, then}
use Rattle.rule_laws.proofs.Sound.{some_same, none_some}

pub record Yields {T : Type 0} (P : T → Type 0) (j : Judgement T) : Type 0 where
  pub each : (x : T) → j.meaning ≡ Some x → P x

pub fine_yields : {T : Type 0} (P : T → Type 0) (x : T) → P x → Yields P (fine x)
fine_yields P x h = record { each = λ y e. subst P (some_same x y e) h }

pub nothing_yields : {T : Type 0} (P : T → Type 0) (bs : List Broken) → Yields {T = T} P (record { breaks = bs; meaning = None })
nothing_yields P bs = record { each = λ y e. none_some y e }

unless_none : {T : Type 0} (b : Bool) (o : Option T) (x : T) → cond b o None ≡ Some x → o ≡ Some x
unless_none true o x e = e
unless_none false o x e = none_some x e

pub ruled_meaning : {T : Type 0} (j : Judgement T) (bs : List Broken) (x : T) → (ruled j bs).meaning ≡ Some x → j.meaning ≡ Some x
ruled_meaning j bs x e = unless_none (is_nothing bs) j.meaning x e

pub ruled_yields : {T : Type 0} (P : T → Type 0) {j : Judgement T} (bs : List Broken) → Yields P j → Yields P (ruled j bs)
ruled_yields P {j = j} bs h = record { each = λ x e. h.each x (ruled_meaning j bs x e) }

pub made_each : {A B : Type 0} (P : B → Type 0) (f : A → B) (o : Option A) (y : B) → made f o ≡ Some y → ((x : A) → o ≡ Some x → P (f x)) → P y
made_each P f None y e h = none_some y e
made_each P f (Some x) y e h = subst P (some_same (f x) y e) (h x refl)

pub made_yields : {A B : Type 0} (P : B → Type 0) (f : A → B) (a : Judgement A) → ((x : A) → a.meaning ≡ Some x → P (f x)) → Yields P (made_of f a)
made_yields P f a h = record { each = λ y e. made_each P f a.meaning y e h }

pub both_each : {A B C : Type 0} (P : C → Type 0) (f : A → B → C) (a : Option A) (b : Option B) (z : C) → both f a b ≡ Some z → ((x : A) (y : B) → a ≡ Some x → b ≡ Some y → P (f x y)) → P z
both_each P f None b z e h = none_some z e
both_each P f (Some x) None z e h = none_some z e
both_each P f (Some x) (Some y) z e h = subst P (some_same (f x y) z e) (h x y refl refl)

pub both_yields : {A B C : Type 0} (P : C → Type 0) (f : A → B → C) (a : Judgement A) (b : Judgement B) → ((x : A) (y : B) → a.meaning ≡ Some x → b.meaning ≡ Some y → P (f x y)) → Yields P (made_of_both f a b)
both_yields P f a b h = record { each = λ z e. both_each P f a.meaning b.meaning z e h }

three_each : {A B C D : Type 0} (P : D → Type 0) (f : A → B → C → D) (a : Option A) (b : Option B) (c : Option C) (z : D) → three f a b c ≡ Some z → ((x : A) (y : B) (w : C) → P (f x y w)) → P z
three_each P f None b c z e h = none_some z e
three_each P f (Some x) None c z e h = none_some z e
three_each P f (Some x) (Some y) None z e h = none_some z e
three_each P f (Some x) (Some y) (Some w) z e h = subst P (some_same (f x y w) z e) (h x y w)

pub three_yields : {A B C D : Type 0} (P : D → Type 0) (f : A → B → C → D) (a : Judgement A) (b : Judgement B) (c : Judgement C) → ((x : A) (y : B) (w : C) → P (f x y w)) → Yields P (made_of_three f a b c)
three_yields P f a b c h = record { each = λ z e. three_each P f a.meaning b.meaning c.meaning z e h }

then_each : {A B : Type 0} (P : B → Type 0) (f : A → Judgement B) (o : Option A) (y : B) → (then_made f o).meaning ≡ Some y → ((x : A) → o ≡ Some x → Yields P (f x)) → P y
then_each P f None y e h = none_some y e
then_each P f (Some x) y e h = (h x refl).each y e

pub then_yields : {A B : Type 0} (P : B → Type 0) (a : Judgement A) (f : A → Judgement B) → ((x : A) → a.meaning ≡ Some x → Yields P (f x)) → Yields P (then a f)
then_yields P a f h = record { each = λ y e. then_each P f a.meaning y e h }

pub cond_yields : {T : Type 0} (P : T → Type 0) (b : Bool) {x y : Judgement T} → Yields P x → Yields P y → Yields P (cond b x y)
cond_yields P true h k = h
cond_yields P false h k = k
