-- Parts that lead from what is known of an image's values to what is known behind them, as they are put together.
use Rattle.std.proofs.Common.{◌≡◌, ◌∙◌, ℕ, zero, suc, ◌+◌, Bool, true, false, ◌||◌, cond, List, [], ◌∷◌, ◌++◌, length, refl, sym, subst, append_assoc, arith}
use Rattle.std.specs.Prelude.{ℤ, ◌==◌, Option}
use Rattle.std.proofs.lemmas.Bool.{eqb-true}
use Rattle.std.proofs.lemmas.List.{length-append}
use Rattle.caf_base.specs.declared.value.Kind.{Kind}
use Rattle.walk_theory.specs.Syntax.{Parts, end_parts, value, act, either}
use Rattle.object_rules.specs.Cells.{Declared}
use Rattle.image_acts.specs.Acts as a
use Rattle.image_acts.specs.Acts.{Act, stack}
use Rattle.image_acts.specs.Core.{Core, Array}
use Rattle.image_acts.specs.Meaning.{effect_of}
use Rattle.tree_meaning.specs.Sequences.{dropping, copying, bringing}
use Rattle.kind_walks.specs.Kinds.{Widens, IsOf, IsArrayOf, Are, Layout, Typing, IsSo, with_number, with_array}
use Rattle.kind_walks.specs.Suiting.{Joined, PartsSuit, Leads}
use Rattle.kind_walks.proofs.Parts.{effect_more, parts_more, leads_then, test_suits}
use Rattle.kind_walks.proofs.Effects.{with_numbers}
use Rattle.kind_walks.proofs.Frames.{widened, all_widened}
use Rattle.kind_walks.proofs.StackActs.{Acts, acts_drop, acts_copy, acts_bring}
use Rattle.kind_expressions.proofs.VariableActs.{result}

-- the declared coarrays, how many images there are, and the variables of the program's units
pub record Setting : Type 0 where
  pub coarrays : List Declared
  pub images : ℕ
  pub layouts : ℕ → Layout

pub record Goes (w : Setting) (s : Typing) (p : Parts Act) (t : Typing) : Type 0 where
  pub leads : Leads w.coarrays w.images w.layouts s p t

pub idle : {w : Setting} {s : Typing} → Goes w s end_parts s
idle {w} {s} = record { leads = λ j c h. h }

infixr 30 ◌⨾◌
pub ◌⨾◌ : {w : Setting} {s t u : Typing} {p q : Parts Act} → Goes w s p t → Goes w t q u → Goes w s (value p q) u
◌⨾◌ {w} {s} {t} {u} {p} {q} h g =
    record { leads = λ j c x. leads_then w.coarrays w.images w.layouts p s t h.leads (λ i d. PartsSuit w.coarrays w.images w.layouts q (λ k e. IsSo w.images u e) i d) (λ i d y. g.leads i d y) j c x }

pub by_test : {w : Setting} {s t : Typing} {p q : Parts Act} (b : Bool) → (b ≡ true → Goes w s p t) → (b ≡ false → Goes w s q t) → Goes w s (cond b p q) t
by_test true f g = f refl
by_test false f g = g refl

module _ (w : Setting) where
  -- an act, and what follows it
  pub act_then : (s : Typing) (x : Act) (t : Typing) → Acts w.coarrays w.images s x t → {u : Typing} {q : Parts Act} → Goes w t q u → Goes w s (act x q) u
  act_then s x t h {u} {q} g =
      record { leads = λ j c y. effect_more w.coarrays (λ i d. IsSo w.images t d) (λ i d. PartsSuit w.coarrays w.images w.layouts q (λ k e. IsSo w.images u e) i d) (λ i d z. g.leads i d z) j (effect_of x c) (h j c y) }

  pub one_act : (s : Typing) (x : Act) (t : Typing) → Acts w.coarrays w.images s x t → Goes w s (act x end_parts) t
  one_act s x t h = act_then s x t h idle

  pub fork : (k : Option Kind) (s t : Typing) {u : Typing} {p q r : Parts Act} → Goes w s p t → Goes w s q t → Goes w t r u → Goes w (with_number k s) (either p q r) u
  fork k s t {u} {p} {q} {r} f g h = record {
    leads = λ j c x.
        (let After : Joined → Core → Type 0 = λ i d. PartsSuit w.coarrays w.images w.layouts r (λ k e. IsSo w.images u e) i d in
        test_suits w.coarrays w.images k s c (PartsSuit w.coarrays w.images w.layouts p After j) (PartsSuit w.coarrays w.images w.layouts q After j) x
        (λ d y. leads_then w.coarrays w.images w.layouts p s t f.leads After (λ i e z. h.leads i e z) j d y)
        (λ d y. leads_then w.coarrays w.images w.layouts q s t g.leads After (λ i e z. h.leads i e z) j d y));
  }

  pub known_as : (s t u : Typing) {p : Parts Act} → ((c : Core) → IsSo w.images t c → IsSo w.images u c) → Goes w s p t → Goes w s p u
  known_as s t u {p} f h = record { leads = λ j c x. parts_more w.coarrays w.images w.layouts p (λ i d. IsSo w.images t d) (λ i d. IsSo w.images u d) (λ i d y. f d y) j c (h.leads j c x) }

-- ---- wider kinds
number_widened : (j k : Option Kind) → Widens j k → (ks : List (Option Kind)) (vs : List ℤ) → Are IsOf (j ∷ ks) vs → Are IsOf (k ∷ ks) vs
number_widened j k w ks [] h = absurd h
number_widened j k w ks (v ∷ vs) h = (widened j k w v h.0, h.1)

array_widened : (j k : Option Kind) → Widens j k → (ks : List (Option Kind)) (xs : List Array) → Are IsArrayOf (j ∷ ks) xs → Are IsArrayOf (k ∷ ks) xs
array_widened j k w ks [] h = absurd h
array_widened j k w ks (x ∷ xs) h = (all_widened j k w x.elements h.0, h.1)

pub wide_number : (n : ℕ) (j k : Option Kind) → Widens j k → (s : Typing) (c : Core) → IsSo n (with_number j s) c → IsSo n (with_number k s) c
wide_number n j k w s c h = record { numbers = number_widened j k w s.numbers c.values h.numbers; arrays = h.arrays; running = h.running; callers = h.callers; images = h.images; known = h.known; formed = h.formed }

pub wide_array : (n : ℕ) (j k : Option Kind) → Widens j k → (s : Typing) (c : Core) → IsSo n (with_array j s) c → IsSo n (with_array k s) c
wide_array n j k w s c h = record { numbers = h.numbers; arrays = array_widened j k w s.arrays c.arrays h.arrays; running = h.running; callers = h.callers; images = h.images; known = h.known; formed = h.formed }

pub wide_result : (n : ℕ) (j k : Option Kind) → Widens j k → (r : ℕ) (s : Typing) (c : Core) → IsSo n (result j r s) c → IsSo n (result k r s) c
wide_result n j k w zero s c h = wide_number n j k w s c h
wide_result n j k w (suc r) s c h = wide_array n j k w s c h

-- ---- parts that leave so many numbers
pub record Leaves (w : Setting) (s : Typing) (m : ℕ) (p : Parts Act) : Type 0 where
  pub kinds : List (Option Kind)
  pub long : length kinds ≡ m
  pub goes : Goes w s p (with_numbers kinds s)

pub leaves_none : (w : Setting) (s : Typing) → Leaves w s 0 end_parts
leaves_none w s = record { kinds = []; long = refl; goes = idle }

pub leaves_one : (w : Setting) (s : Typing) (k : Option Kind) {p : Parts Act} → Goes w s p (with_number k s) → Leaves w s 1 p
leaves_one w s k h = record { kinds = k ∷ []; long = refl; goes = h }

-- numbers on numbers on others
pub grouped : (w : Setting) (s : Typing) (us vs : List (Option Kind)) {p : Parts Act} {t : Typing} → Goes w t p (with_numbers vs (with_numbers us s)) → Goes w t p (with_numbers (vs ++ us) s)
grouped w s us vs {p} {t} h = subst (λ z. Goes w t p (record s { numbers = z })) (sym (append_assoc vs us s.numbers)) h

pub ungrouped : (w : Setting) (s : Typing) (us vs : List (Option Kind)) {p : Parts Act} {t : Typing} → Goes w t p (with_numbers (vs ++ us) s) → Goes w t p (with_numbers vs (with_numbers us s))
ungrouped w s us vs {p} {t} h = subst (λ z. Goes w t p (record s { numbers = z })) (append_assoc vs us s.numbers) h

pub from_grouped : (w : Setting) (s : Typing) (us vs : List (Option Kind)) {p : Parts Act} {t : Typing} → Goes w (with_numbers (vs ++ us) s) p t → Goes w (with_numbers vs (with_numbers us s)) p t
from_grouped w s us vs {p} {t} h = subst (λ z. Goes w (record s { numbers = z }) p t) (append_assoc vs us s.numbers) h

pub leaves_two : (w : Setting) (s : Typing) (l m : ℕ) {p q : Parts Act} → Leaves w s l p → ((us : List (Option Kind)) → length us ≡ l → Leaves w (with_numbers us s) m q) → Leaves w s (l + m) (value p q)
leaves_two w s l m {p} {q} f g = (
    let h = g f.kinds f.long in
    record {
      kinds = h.kinds ++ f.kinds;
      long = length-append h.kinds f.kinds ∙ (let x = f.long in let y = h.long in omega arith);
      goes = grouped w s f.kinds h.kinds (f.goes ⨾ h.goes);
    })

-- as many
pub leaves_as : (w : Setting) (s : Typing) (l m : ℕ) → l ≡ m → {p : Parts Act} → Leaves w s l p → Leaves w s m p
leaves_as w s l m e {p} h = subst (λ k. Leaves w s k p) e h

pub leaves_more : (w : Setting) (s : Typing) (m : ℕ) {p q : Parts Act} → Leaves w s 1 p → ((us : List (Option Kind)) → length us ≡ 1 → Leaves w (with_numbers us s) m q) → Leaves w s (suc m) (value p q)
leaves_more w s m f g = leaves_as w s (1 + m) (suc m) (omega arith) (leaves_two w s 1 m f g)

-- ---- numbers that are moved
nothing_there : (ks : List (Option Kind)) (m : ℕ) → length ks ≡ m → m ≡ 0 → ks ≡ []
nothing_there [] m e z = refl
nothing_there (k ∷ ks) m e z = absurd (let f : suc (length ks) ≡ 0 = e ∙ z in omega arith)

module _ (w : Setting) (s : Typing) where
  pub goes_dropping : (ks : List (Option Kind)) (m : ℕ) → length ks ≡ m → Goes w (with_numbers ks s) (dropping m) s
  goes_dropping ks m e = by_size (m == 0) refl
    where
      by_size : (b : Bool) → (m == 0) ≡ b → Goes w (with_numbers ks s) (cond b end_parts (act (stack (a.drop m)) end_parts)) s
      by_size true f = subst (λ us. Goes w (with_numbers us s) end_parts s) (sym (nothing_there ks m e (eqb-true m 0 f))) idle
      by_size false f = one_act w (with_numbers ks s) (stack (a.drop m)) s (acts_drop w.coarrays w.images ks m e s)

  pub goes_copying : (ks ls : List (Option Kind)) (depth m : ℕ) → length ks ≡ depth → length ls ≡ m → Goes w (with_numbers ks (with_numbers ls s)) (copying depth m) (with_numbers ls (with_numbers ks (with_numbers ls s)))
  goes_copying ks ls depth m e f = by_size (m == 0) refl
    where
      by_size : (b : Bool) → (m == 0) ≡ b → Goes w (with_numbers ks (with_numbers ls s)) (cond b end_parts (act (stack (a.copy depth m)) end_parts)) (with_numbers ls (with_numbers ks (with_numbers ls s)))
      by_size true g = subst (λ us. Goes w (with_numbers ks (with_numbers us s)) end_parts (with_numbers us (with_numbers ks (with_numbers us s)))) (sym (nothing_there ls m f (eqb-true m 0 g))) idle
      by_size false g = one_act w (with_numbers ks (with_numbers ls s)) (stack (a.copy depth m)) (with_numbers ls (with_numbers ks (with_numbers ls s))) (acts_copy w.coarrays w.images ks ls depth m e f s)

  pub goes_bringing : (ks ls : List (Option Kind)) (depth m : ℕ) → length ks ≡ depth → length ls ≡ m → Goes w (with_numbers ks (with_numbers ls s)) (bringing depth m) (with_numbers ls (with_numbers ks s))
  goes_bringing ks ls depth m e f = by_sizes (depth == 0) (m == 0) refl refl
    where
      by_sizes : (b d : Bool) → (depth == 0) ≡ b → (m == 0) ≡ d → Goes w (with_numbers ks (with_numbers ls s)) (cond (b || d) end_parts (act (stack (a.bring depth m)) end_parts)) (with_numbers ls (with_numbers ks s))
      by_sizes true d g h = subst (λ us. Goes w (with_numbers us (with_numbers ls s)) end_parts (with_numbers ls (with_numbers us s))) (sym (nothing_there ks depth e (eqb-true depth 0 g))) idle
      by_sizes false true g h = subst (λ us. Goes w (with_numbers ks (with_numbers us s)) end_parts (with_numbers us (with_numbers ks s))) (sym (nothing_there ls m f (eqb-true m 0 h))) idle
      by_sizes false false g h = one_act w (with_numbers ks (with_numbers ls s)) (stack (a.bring depth m)) (with_numbers ls (with_numbers ks s)) (acts_bring w.coarrays w.images ks ls depth m e f s)
