-- All passes come back.
use Rattle.std.proofs.Common.{◌≡◌, ℕ, List, [], ◌∷◌, ◌++◌, map, get_or, drop, refl, ap, sym, ◌∙◌, subst}
use Rattle.std.proofs.lemmas.List.{append-nil}
use Rattle.caf_events.specs.declared.event.Entry.{Entry}
use Rattle.trace_theory.specs.Entries.{of, Each}
use Rattle.turn_gate.specs.declared.view.Kept.{Kept}
use Rattle.turn_gate.specs.declared.view.View.{View}
use Rattle.turn_gate.specs.Known.{Known}
use Rattle.turn_gate.specs.Lists.{image_of}
use Rattle.turn_gate.specs.Gates.{StartsWith, NotIn, AreAmong}
use Rattle.turn_gate.specs.Closings.{kept_image}
use Rattle.turn_gate.specs.Passes.{Opened, IsPassOf, IsImagePassOf, pass_image, AllOf, Gathers, kept_known}

each_map : {A B : Type 0} → (P : B → Type 0) (f : A → B) (xs : List A) → Each P (map f xs) → Each (λ x. P (f x)) xs
each_map P f [] h = tt
each_map P f (x ∷ xs) h = (h.0, each_map P f xs h.1)

images_kept : (ps : List Known) → map kept_image (map kept_known ps) ≡ map pass_image ps
images_kept [] = refl
images_kept (p ∷ ps) = ap (λ l. p.image ∷ l) (images_kept ps)

pub record Parted {O : Type 0} (gate : Opened O) (ps rest : List Known) (first : Known) : Type 0 where
  pub items : ps ≡ first ∷ rest
  pub pass : IsPassOf gate first
  pub zero_image : first.image ≡ 0
  pub each : Each (IsImagePassOf gate) rest
  pub back : AreAmong first.images (map pass_image rest)

pub parts : {O : Type 0} → (gate : Opened O) (ps rest : List Known) (first : Known) → AllOf gate ps → first ≡ get_or ps 0 first → rest ≡ drop 1 ps → Parted gate ps rest first
parts gate [] rest first a v i = absurd a
parts gate (x ∷ xs) rest first a v i =
    let e : x ≡ first = sym v in
    let r : xs ≡ rest = sym i in
    let b = subst (λ (f : Known). IsPassOf gate f × (f.image ≡ 0) × Each (IsImagePassOf gate) xs × AreAmong f.images (map pass_image xs)) e a in
    let d = subst (λ (l : List Known). Each (IsImagePassOf gate) l × AreAmong first.images (map pass_image l)) r (b.2, b.3) in
    record { items = ap (λ y. y ∷ xs) e ∙ ap (λ l. first ∷ l) r; pass = b.0; zero_image = b.1; each = d.0; back = d.1 }

pub all_back : (rest : List Known) (kept old : List Kept) (first images : List ℕ) → kept ≡ map kept_known rest ++ old → old ≡ [] → first ≡ images → AreAmong first (map pass_image rest) → AreAmong images (map kept_image kept)
all_back rest kept old first images k none same back =
    let e = ap (map kept_image) (k ∙ ap (λ l. map kept_known rest ++ l) none ∙ append-nil _) ∙ images_kept rest in
    subst (λ l. AreAmong images l) (sym e) (subst (λ l. AreAmong l (map pass_image rest)) same back)

pub gathers : (h : List Entry) (ps rest : List Known) (first : Known) (kept old : List Kept) (images : List ℕ)
    → ps ≡ first ∷ rest → kept ≡ map kept_known rest ++ old → old ≡ [] → images ≡ first.images
    → Each (λ (x : Kept). (of image_of x.image h ≡ x.own) × StartsWith h x.seen) kept → ((i : ℕ) → NotIn i images → of image_of i h ≡ []) → Gathers h ps
gathers h ps rest first kept old images items k none same lists others =
    let all : kept ≡ map kept_known rest = k ∙ ap (λ l. map kept_known rest ++ l) none ∙ append-nil _ in
    subst (Gathers h) (sym items) (
      each_map (λ (x : Kept). (of image_of x.image h ≡ x.own) × StartsWith h x.seen) kept_known rest (subst (λ l. Each (λ (x : Kept). (of image_of x.image h ≡ x.own) × StartsWith h x.seen) l) all lists),
      λ i no. others i (subst (λ l. NotIn i l) (sym same) no),
    )

-- the view of a badge
pub head_same : (views : List View) (v w : View) → views ≡ v ∷ [] → views ≡ w ∷ [] → v ≡ w
head_same views v w a b = ap (λ (l : List View). get_or l 0 v) (sym a ∙ b)
