-- Judgements whose breaks are rules of the table, and that have a meaning where nothing is broken, under a condition.
use Rattle.std.proofs.Common.{◌≡◌, ◌∙◌, ℕ, Bool, true, false, List, [], ◌∷◌, ◌++◌, ◌⊎◌, inl, inr, refl, sym, ap, subst}
use Rattle.std.specs.Prelude.{cond, nat_le, Option, Some, None, ◌&&◌}
use Rattle.caf_base.specs.declared.place.Pos.{Pos}
use Rattle.rule_definitions.specs.Acceptance.{IsAmong}
use Rattle.rule_definitions.specs.Judgements.{breaks, unless, is_nothing, Judgement, fine, refused, refused_around, unknown, ruled, formed, said_of, under, both, three, made, made_of, made_of_both, made_of_three, then_made, then, is_there}
use Rattle.rule_definitions.specs.declared.broken.Broken.{Broken}

-- a rule of the table
abbrev pub is_numbered : ℕ → Bool
is_numbered r = nat_le 20 r && nat_le r 59

pub record AreNumbered (bs : List Broken) : Type 0 where
  pub each : (b : Broken) → IsAmong bs b → is_numbered b.rule ≡ true

-- its breaks are numbered, and where there is none, and the condition holds, it has a meaning
pub record IsSound (H : Type 0) {T : Type 0} (j : Judgement T) : Type 0 where
  pub numbered : AreNumbered j.breaks
  pub decided : H → j.breaks ≡ [] → is_there j.meaning ≡ true

-- Lists of breaks

pub none_numbered : AreNumbered []
none_numbered = record { each = λ b h. absurd h }

pub breaks_numbered : (r : ℕ) (p : Pos) → is_numbered r ≡ true → AreNumbered (breaks r p)
breaks_numbered r p e = record { each = λ b h. elim h [ inl i ↦ subst (λ k. is_numbered k.rule ≡ true) i e | inr i ↦ absurd i ] }

pub cond_numbered : (b : Bool) {xs ys : List Broken} → AreNumbered xs → AreNumbered ys → AreNumbered (cond b xs ys)
cond_numbered true h k = h
cond_numbered false h k = k

pub unless_numbered : (b : Bool) (r : ℕ) (p : Pos) → is_numbered r ≡ true → AreNumbered (unless b r p)
unless_numbered b r p e = cond_numbered b none_numbered (breaks_numbered r p e)

among_both : (xs ys : List Broken) (b : Broken) → IsAmong (xs ++ ys) b → IsAmong xs b ⊎ IsAmong ys b
among_both [] ys b h = inr h
among_both (x ∷ xs) ys b (inl e) = inl (inl e)
among_both (x ∷ xs) ys b (inr h) = elim (among_both xs ys b h) [ inl i ↦ inl (inr i) | inr i ↦ inr i ]

pub both_numbered : {xs ys : List Broken} → AreNumbered xs → AreNumbered ys → AreNumbered (xs ++ ys)
both_numbered {xs = xs} {ys = ys} h k = record { each = λ b i. elim (among_both xs ys b i) [ inl j ↦ h.each b j | inr j ↦ k.each b j ] }

pub said_numbered : {T : Type 0} (f : T → List Broken) (o : Option T) → ((x : T) → o ≡ Some x → AreNumbered (f x)) → AreNumbered (said_of f o)
said_numbered f None h = none_numbered
said_numbered f (Some x) h = h x refl

-- parts of no breaks

pub cons_nil : (x : Broken) (zs : List Broken) → x ∷ zs ≡ [] → ⊥
cons_nil x zs e = cc

pub left_nothing : (xs ys : List Broken) → xs ++ ys ≡ [] → xs ≡ []
left_nothing [] ys e = refl
left_nothing (x ∷ xs) ys e = absurd (cons_nil x (xs ++ ys) e)

pub right_nothing : (xs ys : List Broken) → xs ++ ys ≡ [] → ys ≡ []
right_nothing [] ys e = e
right_nothing (x ∷ xs) ys e = absurd (cons_nil x (xs ++ ys) e)

-- Judgements

pub fine_sound : {H T : Type 0} (x : T) → IsSound H (fine x)
fine_sound x = record { numbered = none_numbered; decided = λ h e. refl }

pub breaks_some : (r : ℕ) (p : Pos) → breaks r p ≡ [] → ⊥
breaks_some r p e = cc

pub refused_sound : {H T : Type 0} (r : ℕ) (p : Pos) → is_numbered r ≡ true → IsSound H (refused {T = T} r p)
refused_sound r p e = record { numbered = breaks_numbered r p e; decided = λ h k. absurd (breaks_some r p k) }

pub unknown_sound : {H T : Type 0} → (H → ⊥) → IsSound H (unknown {T = T})
unknown_sound n = record { numbered = none_numbered; decided = λ h e. absurd (n h) }

pub weaker : {H K T : Type 0} {j : Judgement T} → (K → H) → IsSound H j → IsSound K j
weaker f s = record { numbered = s.numbered; decided = λ k e. s.decided (f k) e }

there_cond : {T : Type 0} (b : Bool) (o : Option T) → b ≡ true → is_there o ≡ true → is_there (cond b o None) ≡ true
there_cond true o e h = h
there_cond false o e h = e

-- a part with breaks besides
pub ruled_sound : {H T : Type 0} {j : Judgement T} (bs : List Broken) → IsSound (H × (bs ≡ [])) j → AreNumbered bs → IsSound H (ruled j bs)
ruled_sound {j = j} bs s n = record {
  numbered = both_numbered s.numbered n;
  decided = λ h e. (
      let f = right_nothing j.breaks bs e in
      there_cond (is_nothing bs) j.meaning (ap is_nothing f) (s.decided (h, f) (left_nothing j.breaks bs e)));
}

pub ruled_plain : {H T : Type 0} {j : Judgement T} {bs : List Broken} → IsSound H j → AreNumbered bs → IsSound H (ruled j bs)
ruled_plain {bs = bs} s n = ruled_sound bs (weaker (λ h. h.0) s) n

formed_nothing : (xs bs : List Broken) → xs ≡ [] → cond (is_nothing xs) bs [] ≡ [] → bs ≡ []
formed_nothing xs bs e f = sym (ap (λ k. cond (is_nothing k) bs []) e) ∙ f

-- a form around parts
pub formed_sound : {H T : Type 0} {j : Judgement T} (bs : List Broken) → IsSound (H × (bs ≡ [])) j → AreNumbered bs → IsSound H (formed j bs)
formed_sound {j = j} bs s n = record {
  numbered = both_numbered s.numbered (cond_numbered (is_nothing j.breaks) n none_numbered);
  decided = λ h e. (
      let xs = cond (is_nothing j.breaks) bs [] in
      let f = left_nothing j.breaks xs e in
      let g = right_nothing j.breaks xs e in
      there_cond (is_nothing xs) j.meaning (ap is_nothing g) (s.decided (h, formed_nothing j.breaks bs f g) f));
}

-- a form that breaks a rule itself
pub around_sound : {H T : Type 0} (bs : List Broken) (r : ℕ) (p : Pos) → AreNumbered bs → is_numbered r ≡ true → IsSound H (refused_around {T = T} bs r p)
around_sound bs r p n e = formed_sound (breaks r p) (record { numbered = n; decided = λ h f. absurd (breaks_some r p h.1) }) (breaks_numbered r p e)

pub under_sound : {H T : Type 0} {j : Judgement T} (f : T → List Broken) → IsSound H j → ((x : T) → j.meaning ≡ Some x → AreNumbered (f x)) → IsSound H (under j f)
under_sound {j = j} f s n = ruled_plain s (said_numbered f j.meaning n)

there_made : {A B : Type 0} (f : A → B) (o : Option A) → is_there o ≡ true → is_there (made f o) ≡ true
there_made f None e = e
there_made f (Some x) e = refl

there_both : {A B C : Type 0} (f : A → B → C) (a : Option A) (b : Option B) → is_there a ≡ true → is_there b ≡ true → is_there (both f a b) ≡ true
there_both f None b e g = e
there_both f (Some x) None e g = g
there_both f (Some x) (Some y) e g = refl

there_three : {A B C D : Type 0} (f : A → B → C → D) (a : Option A) (b : Option B) (c : Option C) → is_there a ≡ true → is_there b ≡ true → is_there c ≡ true → is_there (three f a b c) ≡ true
there_three f None b c e g h = e
there_three f (Some x) None c e g h = g
there_three f (Some x) (Some y) None e g h = h
there_three f (Some x) (Some y) (Some z) e g h = refl

-- what is made of parts
pub made_sound : {H A B : Type 0} (f : A → B) {a : Judgement A} → IsSound H a → IsSound H (made_of f a)
made_sound f {a = a} s = record { numbered = s.numbered; decided = λ h e. there_made f a.meaning (s.decided h e) }

pub made_of_both_sound : {H A B C : Type 0} (f : A → B → C) {a : Judgement A} {b : Judgement B} → IsSound H a → IsSound H b → IsSound H (made_of_both f a b)
made_of_both_sound f {a = a} {b = b} s t = record {
  numbered = both_numbered s.numbered t.numbered;
  decided = λ h e. there_both f a.meaning b.meaning (s.decided h (left_nothing a.breaks b.breaks e)) (t.decided h (right_nothing a.breaks b.breaks e));
}

-- the first knows that nothing broke in the second
pub made_of_both_given : {H A B C : Type 0} (f : A → B → C) {a : Judgement A} {b : Judgement B} → IsSound (H × (b.breaks ≡ [])) a → IsSound H b → IsSound H (made_of_both f a b)
made_of_both_given f {a = a} {b = b} s t = record {
  numbered = both_numbered s.numbered t.numbered;
  decided = λ h e. (
      let g = right_nothing a.breaks b.breaks e in
      there_both f a.meaning b.meaning (s.decided (h, g) (left_nothing a.breaks b.breaks e)) (t.decided h g));
}

-- the second knows that nothing broke in the first
pub made_of_both_after : {H A B C : Type 0} (f : A → B → C) {a : Judgement A} {b : Judgement B} → IsSound H a → IsSound (H × (a.breaks ≡ [])) b → IsSound H (made_of_both f a b)
made_of_both_after f {a = a} {b = b} s t = record {
  numbered = both_numbered s.numbered t.numbered;
  decided = λ h e. (
      let g = left_nothing a.breaks b.breaks e in
      there_both f a.meaning b.meaning (s.decided h g) (t.decided (h, g) (right_nothing a.breaks b.breaks e)));
}

pub made_of_three_sound : {H A B C D : Type 0} (f : A → B → C → D) {a : Judgement A} {b : Judgement B} {c : Judgement C} → IsSound H a → IsSound H b → IsSound H c → IsSound H (made_of_three f a b c)
made_of_three_sound f {a = a} {b = b} {c = c} s t u = record {
  numbered = both_numbered s.numbered (both_numbered t.numbered u.numbered);
  decided = λ h e. (
      let r = right_nothing a.breaks (b.breaks ++ c.breaks) e in
      there_three f a.meaning b.meaning c.meaning (s.decided h (left_nothing a.breaks (b.breaks ++ c.breaks) e)) (t.decided h (left_nothing b.breaks c.breaks r)) (u.decided h (right_nothing b.breaks c.breaks r)));
}

-- what follows a part, knowing that nothing broke in the part
then_numbered : {A B : Type 0} (f : A → Judgement B) (o : Option A) → ((x : A) → o ≡ Some x → AreNumbered (f x).breaks) → AreNumbered (then_made f o).breaks
then_numbered f None n = none_numbered
then_numbered f (Some x) n = n x refl

then_decided : {A B : Type 0} (f : A → Judgement B) (o : Option A) → is_there o ≡ true → ((x : A) → o ≡ Some x → (f x).breaks ≡ [] → is_there (f x).meaning ≡ true) → (then_made f o).breaks ≡ [] → is_there (then_made f o).meaning ≡ true
then_decided f None e d g = e
then_decided f (Some x) e d g = d x refl g

pub then_sound : {H A B : Type 0} (f : A → Judgement B) {a : Judgement A} → IsSound H a → ((x : A) → a.meaning ≡ Some x → IsSound (H × (a.breaks ≡ [])) (f x)) → IsSound H (then a f)
then_sound f {a = a} s t = record {
  numbered = both_numbered s.numbered (then_numbered f a.meaning (λ x e. (t x e).numbered));
  decided = λ h e. (
      let b = left_nothing a.breaks (then_made f a.meaning).breaks e in
      let c = right_nothing a.breaks (then_made f a.meaning).breaks e in
      then_decided f a.meaning (s.decided h b) (λ x g. (t x g).decided (h, b)) c);
}

pub then_plain : {H A B : Type 0} (f : A → Judgement B) {a : Judgement A} → IsSound H a → ((x : A) → IsSound H (f x)) → IsSound H (then a f)
then_plain f s t = then_sound f s (λ x e. weaker (λ h. h.0) (t x))

pub cond_sound : {H T : Type 0} (b : Bool) {x y : Judgement T} → IsSound (H × (b ≡ true)) x → IsSound (H × (b ≡ false)) y → IsSound H (cond b x y)
cond_sound true s t = weaker (λ h. (h, refl)) s
cond_sound false s t = weaker (λ h. (h, refl)) t

pub cond_plain : {H T : Type 0} (b : Bool) {x y : Judgement T} → IsSound H x → IsSound H y → IsSound H (cond b x y)
cond_plain true s t = s
cond_plain false s t = t

-- where a part under a rule has a meaning, the part has it, and the rule holds

pub some_same : {T : Type 0} (x y : T) → Some x ≡ Some y → x ≡ y
some_same x y e = cc

pub none_some : {A T : Type 0} (x : T) → None ≡ Some x → A
none_some x e = absurd (never x e)
  where
    never : {T : Type 0} (x : T) → None ≡ Some x → ⊥
    never x e = cc

abbrev IsUnbrokenAt : {T : Type 0} → (T → List Broken) → Option T → T → Type 0
IsUnbrokenAt f o x = (o ≡ Some x) × (f x ≡ [])

unbroken_at : {T : Type 0} (f : T → List Broken) (y x : T) (bs : List Broken) → f y ≡ bs → cond (is_nothing bs) (Some y) None ≡ Some x → IsUnbrokenAt f (Some y) x
unbroken_at f y x [] h e = (e, sym (ap f (some_same y x e)) ∙ h)
unbroken_at f y x (b ∷ bs) h e = none_some x e

unbroken_option : {T : Type 0} (f : T → List Broken) (o : Option T) (x : T) → cond (is_nothing (said_of f o)) o None ≡ Some x → IsUnbrokenAt f o x
unbroken_option f None x e = none_some x e
unbroken_option f (Some y) x e = unbroken_at f y x (f y) refl e

pub under_meaning : {T : Type 0} (j : Judgement T) (f : T → List Broken) (x : T) → (under j f).meaning ≡ Some x → (j.meaning ≡ Some x) × (f x ≡ [])
under_meaning j f x e = unbroken_option f j.meaning x e
