-- What holds of the meaning of a judgement in which nothing breaks.
use Rattle.std.proofs.Common.{◌≡◌, ◌∙◌, ℕ, Bool, true, false, List, [], ◌∷◌, ◌++◌, refl, sym, ap, subst}
use Rattle.std.proofs.lemmas.Bool.{eqb-true}
use Rattle.std.specs.Prelude.{cond, nat_eq, ◌&&◌, Option, Some, None}
use Rattle.caf_base.specs.declared.place.Pos.{Pos}
use Rattle.rule_definitions.specs.declared.broken.Broken.{Broken}
use Rattle.rule_definitions.specs.Judgements.{breaks, unless, is_nothing, Judgement, fine, refused, refused_around, unknown, ruled, formed, said_of, under, both, three, made, made_of, made_of_both, made_of_three, then_made, then}

pub record Means {T : Type 0} (j : Judgement T) (P : T → Type 0) : Type 0 where
  pub means : j.breaks ≡ [] → (x : T) → j.meaning ≡ Some x → P x

-- ---- lists of breaks
pub cons_nil : {A : Type 0} (x : Broken) (zs : List Broken) → x ∷ zs ≡ [] → A
cons_nil x zs e = absurd (never x zs e)
  where
    never : (y : Broken) (ws : List Broken) → y ∷ ws ≡ [] → ⊥
    never y ws f = cc

pub left_nothing : (xs ys : List Broken) → xs ++ ys ≡ [] → xs ≡ []
left_nothing [] ys e = refl
left_nothing (x ∷ xs) ys e = cons_nil x (xs ++ ys) e

pub right_nothing : (xs ys : List Broken) → xs ++ ys ≡ [] → ys ≡ []
right_nothing [] ys e = e
right_nothing (x ∷ xs) ys e = cons_nil x (xs ++ ys) e

pub unless_nothing : (b : Bool) (r : ℕ) (p : Pos) → unless b r p ≡ [] → b ≡ true
unless_nothing true r p e = refl
unless_nothing false r p e = cons_nil (record { rule = r; at = p }) [] e

pub formed_nothing : (xs bs : List Broken) → xs ≡ [] → cond (is_nothing xs) bs [] ≡ [] → bs ≡ []
formed_nothing xs bs e f = sym (ap (λ k. cond (is_nothing k) bs []) e) ∙ f

-- ---- tests
false_true : {A : Type 0} → false ≡ true → A
false_true e = absurd (never e)
  where
    never : false ≡ true → ⊥
    never f = cc

pub no : {A : Type 0} → false ≡ true → A
no e = false_true e

pub and_left : (a b : Bool) → a && b ≡ true → a ≡ true
and_left true b e = refl
and_left false b e = no e

pub and_right : (a b : Bool) → a && b ≡ true → b ≡ true
and_right true b e = e
and_right false b e = no e

pub same_number : (m n : ℕ) → nat_eq m n ≡ true → m ≡ n
same_number m n e = eqb-true m n e

-- ---- options
pub some_same : {T : Type 0} (x y : T) → Some x ≡ Some y → x ≡ y
some_same x y e = cc

pub none_some : {A T : Type 0} (x : T) → None ≡ Some x → A
none_some x e = absurd (never x e)
  where
    never : {T : Type 0} (x : T) → None ≡ Some x → ⊥
    never x e = cc

-- ---- judgements
pub fine_means : {T : Type 0} {P : T → Type 0} (x : T) → P x → Means (fine x) P
fine_means {P = P} x h = record { means = λ e y f. subst P (some_same x y f) h }

pub no_meaning : {T : Type 0} {P : T → Type 0} {j : Judgement T} → j.meaning ≡ None → Means j P
no_meaning e = record { means = λ b x f. none_some x (sym e ∙ f) }

pub unknown_means : {T : Type 0} {P : T → Type 0} → Means (unknown {T = T}) P
unknown_means = no_meaning refl

pub refused_means : {T : Type 0} {P : T → Type 0} (r : ℕ) (p : Pos) → Means (refused {T = T} r p) P
refused_means r p = no_meaning refl

pub weaker : {T : Type 0} {P Q : T → Type 0} {j : Judgement T} → Means j P → ((x : T) → P x → Q x) → Means j Q
weaker h f = record { means = λ e x g. f x (h.means e x g) }

there_cond : {T : Type 0} (b : Bool) (o : Option T) (x : T) → b ≡ true → cond b o None ≡ Some x → o ≡ Some x
there_cond true o x e f = f
there_cond false o x e f = no e

pub ruled_means : {T : Type 0} {P : T → Type 0} {j : Judgement T} (bs : List Broken) → (bs ≡ [] → Means j P) → Means (ruled j bs) P
ruled_means {j = j} bs h = record {
  means = λ e x f.
      let g = right_nothing j.breaks bs e in
      (h g).means (left_nothing j.breaks bs e) x (there_cond (is_nothing bs) j.meaning x (ap is_nothing g) f);
}

pub formed_means : {T : Type 0} {P : T → Type 0} {j : Judgement T} (bs : List Broken) → (bs ≡ [] → Means j P) → Means (formed j bs) P
formed_means {j = j} bs h = record {
  means = λ e x f.
      let xs = cond (is_nothing j.breaks) bs [] in
      let l = left_nothing j.breaks xs e in
      let g = right_nothing j.breaks xs e in
      (h (formed_nothing j.breaks bs l g)).means l x (there_cond (is_nothing xs) j.meaning x (ap is_nothing g) f);
}

pub around_means : {T : Type 0} {P : T → Type 0} (bs : List Broken) (r : ℕ) (p : Pos) → Means (refused_around {T = T} bs r p) P
around_means bs r p = formed_means (breaks r p) (λ e. cons_nil (record { rule = r; at = p }) [] e)

pub under_means : {T : Type 0} {P Q : T → Type 0} {j : Judgement T} (f : T → List Broken) → Means j P → ((x : T) → P x → f x ≡ [] → Q x) → Means (under j f) Q
under_means {j = j} f h k = record {
  means = λ e x g.
      let bs = said_of f j.meaning in
      let r = right_nothing j.breaks bs e in
      let m = there_cond (is_nothing bs) j.meaning x (ap is_nothing r) g in
      k x (h.means (left_nothing j.breaks bs e) x m) (sym (ap (said_of f) m) ∙ r);
}

pub of_made : {A B : Type 0} (f : A → B) (o : Option A) (y : B) → made f o ≡ Some y → (x : A) × (o ≡ Some x) × (f x ≡ y)
of_made f None y e = none_some y e
of_made f (Some x) y e = (x, refl, some_same (f x) y e)

pub made_means : {A B : Type 0} {P : A → Type 0} {Q : B → Type 0} (f : A → B) {a : Judgement A} → Means a P → ((x : A) → P x → Q (f x)) → Means (made_of f a) Q
made_means {Q = Q} f {a = a} h k = record { means = λ e y g. (let m = of_made f a.meaning y g in subst Q m.2 (k m.0 (h.means e m.0 m.1))) }

pub of_both : {A B C : Type 0} (f : A → B → C) (a : Option A) (b : Option B) (z : C) → both f a b ≡ Some z → (x : A) × (y : B) × (a ≡ Some x) × (b ≡ Some y) × (f x y ≡ z)
of_both f None b z e = none_some z e
of_both f (Some x) None z e = none_some z e
of_both f (Some x) (Some y) z e = (x, y, refl, refl, some_same (f x y) z e)

pub both_means : {A B C : Type 0} {P : A → Type 0} {Q : B → Type 0} {R : C → Type 0} (f : A → B → C) {a : Judgement A} {b : Judgement B} → Means a P → Means b Q
    → ((x : A) (y : B) → P x → Q y → R (f x y)) → Means (made_of_both f a b) R
both_means {R = R} f {a = a} {b = b} h k g = record {
  means = λ e z u. (let m = of_both f a.meaning b.meaning z u in subst R m.4 (g m.0 m.1 (h.means (left_nothing a.breaks b.breaks e) m.0 m.2) (k.means (right_nothing a.breaks b.breaks e) m.1 m.3)));
}

of_three : {A B C D : Type 0} (f : A → B → C → D) (a : Option A) (b : Option B) (c : Option C) (w : D) → three f a b c ≡ Some w → (x : A) × (y : B) × (z : C) × (a ≡ Some x) × (b ≡ Some y) × (c ≡ Some z) × (f x y z ≡ w)
of_three f None b c w e = none_some w e
of_three f (Some x) None c w e = none_some w e
of_three f (Some x) (Some y) None w e = none_some w e
of_three f (Some x) (Some y) (Some z) w e = (x, y, z, refl, refl, refl, some_same (f x y z) w e)

pub three_means : {A B C D : Type 0} {P : A → Type 0} {Q : B → Type 0} {R : C → Type 0} {S : D → Type 0} (f : A → B → C → D) {a : Judgement A} {b : Judgement B} {c : Judgement C} → Means a P → Means b Q → Means c R
    → ((x : A) (y : B) (z : C) → P x → Q y → R z → S (f x y z)) → Means (made_of_three f a b c) S
three_means {S = S} f {a = a} {b = b} {c = c} h k l g = record {
  means = λ e w u.
      let m = of_three f a.meaning b.meaning c.meaning w u in
      let r = right_nothing a.breaks (b.breaks ++ c.breaks) e in
      subst S m.6 (g m.0 m.1 m.2 (h.means (left_nothing a.breaks (b.breaks ++ c.breaks) e) m.0 m.3) (k.means (left_nothing b.breaks c.breaks r) m.1 m.4) (l.means (right_nothing b.breaks c.breaks r) m.2 m.5));
}

then_by : {A B : Type 0} (Q : B → Type 0) (f : A → Judgement B) (o : Option A) (y : B) → ((x : A) → o ≡ Some x → (f x).breaks ≡ [] → (f x).meaning ≡ Some y → Q y) → (then_made f o).breaks ≡ [] → (then_made f o).meaning ≡ Some y → Q y
then_by Q f None y h e g = none_some y g
then_by Q f (Some x) y h e g = h x refl e g

pub then_means : {A B : Type 0} {P : A → Type 0} {Q : B → Type 0} (f : A → Judgement B) {a : Judgement A} → Means a P → ((x : A) → P x → Means (f x) Q) → Means (then a f) Q
then_means {Q = Q} f {a = a} h k = record {
  means = λ e y g. then_by Q f a.meaning y (λ x m b u. (k x (h.means (left_nothing a.breaks (then_made f a.meaning).breaks e) x m)).means b y u) (right_nothing a.breaks (then_made f a.meaning).breaks e) g;
}

pub cond_means : {T : Type 0} {P : T → Type 0} (b : Bool) {x y : Judgement T} → (b ≡ true → Means x P) → (b ≡ false → Means y P) → Means (cond b x y) P
cond_means true h k = h refl
cond_means false h k = k refl
