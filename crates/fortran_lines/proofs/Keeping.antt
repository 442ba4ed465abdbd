-- The bytes of statements are taken from the lines.
use Rattle.std.proofs.Common.{◌≡◌, ℕ, Bool, true, false, cond, not, ◌&&◌, nat_eq, List, [], ◌∷◌, ◌++◌, Option, Some, None, inl, inr, refl, ap, sym, ◌∙◌, subst, arith, append_assoc, append-nil}
use Rattle.std.specs.Prelude.{slice_get}
use Rattle.std.specs.List.{flat_map, onto_first}
use Rattle.std.proofs.lemmas.Bool.{and_parts, eqb-true}
use Rattle.fortran_lines.specs.declared.placed_byte.PlacedByte.{PlacedByte}
use Rattle.fortran_lines.specs.declared.context.Context.{Context}
use Rattle.fortran_lines.specs.declared.context.Context.TheVariants.{Outside, Inside, Closed}
use Rattle.fortran_lines.specs.declared.context.Before.{Before}
use Rattle.fortran_lines.specs.declared.context.Before.TheVariants.{Start, Continued}
use Rattle.fortran_lines.specs.PlacedBytes.{is_blank, all_blank, physical_lines}
use Rattle.fortran_lines.specs.Contexts.{is_inside, behind}
use Rattle.fortran_lines.specs.Lines.{Part, is_nothing, code_part, put_before, before_amp, behind_amp, part_by, part_from, continued, part_of, by_next, joined, separates, cut, kept, pieces, statements_of}
use Rattle.fortran_lines.specs.Faults.{too_long, not_ascii, open_literal, faults_of_part, faults_from, faults_of}
use Rattle.fortran_lines.specs.Taken.{IsTaken, MayGo, AreTaken, IsFront, AreFronts, in_a_row, AreKept}

-- ---- bytes that are taken from others

skip : (xs : List PlacedByte) (y : PlacedByte) (ys : List PlacedByte) → MayGo y → AreTaken xs ys → AreTaken xs (y ∷ ys)
skip [] y ys g h = (g, h)
skip (x ∷ xs) y ys g h = inr (g, h)

itself : (xs : List PlacedByte) → AreTaken xs xs
itself [] = tt
itself (x ∷ xs) = inl (inl refl, itself xs)

both : (a b c d : List PlacedByte) → AreTaken a b → AreTaken c d → AreTaken (a ++ c) (b ++ d)
both [] [] c d h k = k
both [] (y ∷ b) c d (g, h) k = skip c y (b ++ d) g (both [] b c d h k)
both (x ∷ a) [] c d h k = absurd h
both (x ∷ a) (y ∷ b) c d (inl (s, h)) k = inl (s, both a b c d h k)
both (x ∷ a) (y ∷ b) c d (inr (g, h)) k = inr (g, both (x ∷ a) b c d h k)

taken_again : (x y z : PlacedByte) → IsTaken y x → IsTaken z y → IsTaken z x
taken_again x y z (inl e) s = subst (λ w. IsTaken z w) (sym e) s
taken_again x y z (inr (c, e)) (inl f) = subst (λ w. IsTaken w x) f (inr (c, e))
taken_again x y z (inr (c, e)) (inr (d, f)) = absurd (let k : y.code ≡ 32 = ap (λ w. w.code) f in omega arith)

goes_too : (y z : PlacedByte) → MayGo y → IsTaken z y → MayGo z
goes_too y z g (inl e) = subst MayGo e g
goes_too y z g (inr (c, e)) = inr (inl c)

chain : (a b c : List PlacedByte) → AreTaken a b → AreTaken b c → AreTaken a c
chain [] [] c h k = k
chain [] (y ∷ b) [] h k = absurd k
chain [] (y ∷ b) (z ∷ c) (g, h) (inl (u, k)) = (goes_too y z g u, chain [] b c h k)
chain [] (y ∷ b) (z ∷ c) h (inr (e, k)) = (e, chain [] (y ∷ b) c h k)
chain (x ∷ a) [] c h k = absurd h
chain (x ∷ a) (y ∷ b) [] h k = absurd k
chain (x ∷ a) (y ∷ b) (z ∷ c) (inl (s, h)) (inl (u, k)) = inl (taken_again x y z s u, chain a b c h k)
chain (x ∷ a) (y ∷ b) (z ∷ c) (inr (g, h)) (inl (u, k)) = inr (goes_too y z g u, chain (x ∷ a) b c h k)
chain (x ∷ a) (y ∷ b) (z ∷ c) (inl h) (inr (e, k)) = inr (e, chain (x ∷ a) (y ∷ b) c (inl h) k)
chain (x ∷ a) (y ∷ b) (z ∷ c) (inr h) (inr (e, k)) = inr (e, chain (x ∷ a) (y ∷ b) c (inr h) k)

blanks_go : (l : List PlacedByte) → all_blank l ≡ true → AreTaken [] l
blanks_go [] e = tt
blanks_go (m ∷ l) e = let parts = and_parts (is_blank m) (all_blank l) e in (inl parts.0, blanks_go l parts.1)

-- ---- the front of a line

front_more : (m : PlacedByte) (l f : List PlacedByte) → IsFront l f → IsFront (m ∷ l) (m ∷ f)
front_more m l f (inl e) = inl (ap (λ z. m ∷ z) e)
front_more m l f (inr (x, rest, e, c)) = inr (x, rest, ap (λ z. m ∷ z) e, c)

front_behind : (pre l f : List PlacedByte) → IsFront l f → IsFront (pre ++ l) (pre ++ f)
front_behind [] l f h = h
front_behind (m ∷ pre) l f h = front_more m (pre ++ l) (pre ++ f) (front_behind pre l f h)

code_by : (b : Bool) (m : PlacedByte) (l c : List PlacedByte) → (b ≡ true → m.code ≡ 33) → IsFront l c → IsFront (m ∷ l) (cond b [] (m ∷ c))
code_by true m l c e h = inr (m, l, refl, e refl)
code_by false m l c e h = front_more m l c h

mark_code : (m : PlacedByte) (inside : Bool) → (nat_eq m.code 33 && inside) ≡ true → m.code ≡ 33
mark_code m inside e = eqb-true m.code 33 (and_parts (nat_eq m.code 33) inside e).0

code_front : (k : Context) (l : List PlacedByte) → IsFront l (code_part k l)
code_front k [] = inl refl
code_front k (m ∷ l) = code_by (nat_eq m.code 33 && not (is_inside k)) m l (code_part (behind k m) l) (mark_code m (not (is_inside k))) (code_front (behind k m) l)

-- a line that is nothing is left out
record IsGone (l : List PlacedByte) : Type 0 where
  front : List PlacedByte
  is : IsFront l front
  gone : AreTaken [] front

gone_by : (m : PlacedByte) (l : List PlacedByte) (a b : Bool) → (a ≡ true → is_blank m ≡ true) → (b ≡ true → m.code ≡ 33) → (is_nothing l ≡ true → IsGone l) → cond a (is_nothing l) b ≡ true → IsGone (m ∷ l)
gone_by m l true b blank mark next e = let h = next e in record { front = m ∷ h.front; is = front_more m l h.front h.is; gone = (inl (blank refl), h.gone) }
gone_by m l false true blank mark next e = record { front = []; is = inr (m, l, refl, mark refl); gone = tt }
gone_by m l false false blank mark next e = absurd (cc)

nothing_gone : (l : List PlacedByte) → is_nothing l ≡ true → IsGone l
nothing_gone [] e = record { front = []; is = inl refl; gone = tt }
nothing_gone (m ∷ l) e = gone_by m l (is_blank m) (nat_eq m.code 33) (λ h. h) (eqb-true m.code 33) (nothing_gone l) e

-- ---- what a line adds to a statement

-- a text and the `&` behind it
abbrev AmpTaken : Option (List PlacedByte × PlacedByte) → List PlacedByte → Type 0
AmpTaken None l = Unit {0}
AmpTaken (Some r) l = AreTaken (r.0 ++ r.1 ∷ []) l × (r.1.code ≡ 38)

put_taken : (m : PlacedByte) (o : Option (List PlacedByte × PlacedByte)) (l : List PlacedByte) → AmpTaken o l → AmpTaken (put_before m o) (m ∷ l)
put_taken m None l h = tt
put_taken m (Some r) l (h, e) = (inl (inl refl, h), e)

before_by : (m : PlacedByte) (a b : Bool) (o : Option (List PlacedByte × PlacedByte)) (l : List PlacedByte) → (a ≡ true → m.code ≡ 38) → (b ≡ true → AreTaken [] l) → AmpTaken o (m ∷ l) → AmpTaken (cond (a && b) (Some ([], m)) o) (m ∷ l)
before_by m true true o l e g h = (inl (inl refl, g refl), e refl)
before_by m true false o l e g h = h
before_by m false b o l e g h = h

before_taken : (l : List PlacedByte) → AmpTaken (before_amp l) l
before_taken [] = tt
before_taken (m ∷ l) = before_by m (nat_eq m.code 38) (all_blank l) (put_before m (before_amp l)) l (eqb-true m.code 38) (blanks_go l) (put_taken m (before_amp l) l (before_taken l))

-- blanks, an `&` and the rest behind it
record IsLed (text : List PlacedByte) (amp : PlacedByte) (l : List PlacedByte) : Type 0 where
  pre : List PlacedByte
  blanks : AreTaken [] pre
  is : l ≡ pre ++ amp ∷ text
  code : amp.code ≡ 38

abbrev LeadOf : Option (List PlacedByte × PlacedByte) → List PlacedByte → Type 0
LeadOf None l = Unit {0}
LeadOf (Some r) l = IsLed r.0 r.1 l

lead_more : (m : PlacedByte) (o : Option (List PlacedByte × PlacedByte)) (l : List PlacedByte) → is_blank m ≡ true → LeadOf o l → LeadOf o (m ∷ l)
lead_more m None l b h = tt
lead_more m (Some r) l b h = record { pre = m ∷ h.pre; blanks = (inl b, h.blanks); is = ap (λ z. m ∷ z) h.is; code = h.code }

behind_by : (m : PlacedByte) (l : List PlacedByte) (a b : Bool) (o : Option (List PlacedByte × PlacedByte)) → (a ≡ true → is_blank m ≡ true) → (b ≡ true → m.code ≡ 38) → LeadOf o l → LeadOf (cond a o (cond b (Some (l, m)) None)) (m ∷ l)
behind_by m l true b o blank e h = lead_more m o l (blank refl) h
behind_by m l false true o blank e h = record { pre = []; blanks = tt; is = refl; code = e refl }
behind_by m l false false o blank e h = tt

behind_lead : (l : List PlacedByte) → LeadOf (behind_amp l) l
behind_lead [] = tt
behind_lead (m ∷ l) = behind_by m l (is_blank m) (nat_eq m.code 38) (behind_amp l) (λ h. h) (eqb-true m.code 38) (behind_lead l)

-- the `&` that stands before a line
abbrev amp_of : Before → List PlacedByte
amp_of Start = []
amp_of (Continued amp k) = amp ∷ []

abbrev IsAmp : Before → Type 0
IsAmp Start = Unit {0}
IsAmp (Continued amp k) = amp.code ≡ 38

-- what a line adds, and its `&`
abbrev PartTaken : Part → List PlacedByte → Type 0
PartTaken p file = AreTaken (p.text ++ amp_of p.next) file × IsAmp p.next

part_by_taken : (k : Context) (code : List PlacedByte) (o : Option (List PlacedByte × PlacedByte)) → AmpTaken o code → PartTaken (part_by k code o) code
part_by_taken k code None h = (subst (λ z. AreTaken z code) (sym (append-nil code)) (itself code), tt)
part_by_taken k code (Some r) (h, e) = (h, e)

part_from_taken : (k : Context) (l : List PlacedByte) → PartTaken (part_from k l) (code_part k l)
part_from_taken k l = part_by_taken k (code_part k l) (before_amp (code_part k l)) (before_taken (code_part k l))

part_code : (k : Context) (code : List PlacedByte) (o : Option (List PlacedByte × PlacedByte)) → (part_by k code o).code ≡ code
part_code k code None = refl
part_code k code (Some r) = refl

resumed_by : (k : Context) (amp : PlacedByte) (p : Part) (file : List PlacedByte) (b : Bool) → (b ≡ true → AreTaken (amp ∷ []) file) → amp.code ≡ 38 → PartTaken p file
    → PartTaken (cond b (record { code = p.code; text = []; next = Continued amp k; left_open = None }) p) file
resumed_by k amp p file true a e h = (a refl, e)
resumed_by k amp p file false a e h = h

-- a line behind what stands before it
record LineTaken (b : Before) (l : List PlacedByte) (p : Part) : Type 0 where
  front : List PlacedByte
  is : IsFront l front
  part : PartTaken p (amp_of b ++ front)

led_taken : (amp : PlacedByte) (k : Context) (l rest : List PlacedByte) (lead : PlacedByte) → amp.code ≡ 38 → IsLed rest lead l → LineTaken (Continued amp k) l (continued amp k l (Some (rest, lead)))
led_taken amp k l rest lead a h =
    let code = code_part k rest in
    let p = part_from k rest in
    let part = part_from_taken k rest in
    let whole = front_behind h.pre (lead ∷ rest) (lead ∷ code) (front_more lead rest code (code_front k rest)) in
    let blank : (all_blank p.code ≡ true) → AreTaken (lead ∷ []) (lead ∷ code) = λ e. inl (inl refl, blanks_go code (ap all_blank (sym (part_code k code (before_amp code))) ∙ e)) in
    let kept : AreTaken (p.text ++ amp_of p.next) (lead ∷ code) = skip (p.text ++ amp_of p.next) lead code (inr (inl h.code)) part.0 in
    record {
      front = h.pre ++ lead ∷ code;
      is = subst (λ z. IsFront z (h.pre ++ lead ∷ code)) (sym h.is) whole;
      part =
          resumed_by k lead p (amp ∷ (h.pre ++ lead ∷ code)) (all_blank p.code)
          (λ e. skip (lead ∷ []) amp (h.pre ++ lead ∷ code) (inr (inl a)) (both [] h.pre (lead ∷ []) (lead ∷ code) h.blanks (blank e)))
          h.code
          (skip (p.text ++ amp_of p.next) amp (h.pre ++ lead ∷ code) (inr (inl a)) (both [] h.pre (p.text ++ amp_of p.next) (lead ∷ code) h.blanks kept), part.1);
    }

spaced_taken : (amp : PlacedByte) (k : Context) (l : List PlacedByte) → amp.code ≡ 38 → LineTaken (Continued amp k) l (continued amp Outside l None)
spaced_taken amp k l a = let part = part_from_taken Outside l in record { front = code_part Outside l; is = code_front Outside l; part = (inl (inr (a, refl), part.0), part.1) }

continued_taken : (amp : PlacedByte) (k : Context) (l : List PlacedByte) (o : Option (List PlacedByte × PlacedByte)) → amp.code ≡ 38 → open_literal (continued amp k l o).left_open ≡ [] → LeadOf o l
    → LineTaken (Continued amp k) l (continued amp k l o)
continued_taken amp k l (Some r) a e h = led_taken amp k l r.0 r.1 a h
continued_taken amp Outside l None a e h = spaced_taken amp Outside l a
continued_taken amp (Closed q) l None a e h = spaced_taken amp (Closed q) l a
continued_taken amp (Inside q) l None a e h = absurd (cc)

part_of_taken : (b : Before) (l : List PlacedByte) → IsAmp b → open_literal (part_of b l).left_open ≡ [] → LineTaken b l (part_of b l)
part_of_taken Start l a e = record { front = code_part Outside l; is = code_front Outside l; part = part_from_taken Outside l }
part_of_taken (Continued amp k) l a e = continued_taken amp k l (behind_amp l) a e (behind_lead l)

-- ---- the texts that lines join to

none_first : {X : Type 0} (xs ys : List X) → xs ++ ys ≡ [] → xs ≡ []
none_first [] ys e = refl
none_first (x ∷ xs) ys e = absurd (cc)

none_last : {X : Type 0} (xs ys : List X) → xs ++ ys ≡ [] → ys ≡ []
none_last [] ys e = e
none_last (x ∷ xs) ys e = absurd (cc)

-- texts are taken from what is held and from lines
record FromLines (lines texts : List (List PlacedByte)) (held : List PlacedByte) : Type 0 where
  fronts : List (List PlacedByte)
  are : AreFronts lines fronts
  taken : AreTaken (in_a_row texts) (held ++ in_a_row fronts)

-- where no line is continued no text is held
abbrev IsIdle : Before → List PlacedByte → Type 0
IsIdle Start t = t ≡ []
IsIdle (Continued amp k) t = Unit {0}

from_none : (b : Before) (t : List PlacedByte) → faults_from [] b ≡ [] → IsIdle b t → FromLines [] (joined [] b t) (t ++ amp_of b)
from_none Start t e i = record { fronts = []; are = tt; taken = subst (λ z. AreTaken [] ((z ++ []) ++ [])) (sym i) tt }
from_none (Continued amp k) t e i = absurd (cc)

from_nothing : (l : List PlacedByte) (lines texts : List (List PlacedByte)) (held : List PlacedByte) → IsGone l → FromLines lines texts held → FromLines (l ∷ lines) texts held
from_nothing l lines texts held g h =
    let row = in_a_row h.fronts in
    record {
      fronts = g.front ∷ h.fronts;
      are = (g.is, h.are);
      taken = chain (in_a_row texts) (held ++ row) (held ++ (g.front ++ row)) h.taken (both held held row (g.front ++ row) (itself held) (both [] g.front row row g.gone (itself row)));
    }

from_next : (rest : Before → List PlacedByte → List (List PlacedByte)) (lines : List (List PlacedByte)) (u : List PlacedByte) (b : Before)
    → ((c : Before) (t : List PlacedByte) → IsAmp c → IsIdle c t → faults_from lines c ≡ [] → FromLines lines (rest c t) (t ++ amp_of c))
    → IsAmp b → faults_from lines b ≡ [] → FromLines lines (by_next rest u b) (u ++ amp_of b)
from_next rest lines u Start each a e =
    let h = each Start [] tt refl e in
    record { fronts = h.fronts; are = h.are; taken = both u (u ++ []) (in_a_row (rest Start [])) (in_a_row h.fronts) (subst (λ z. AreTaken u z) (sym (append-nil u)) (itself u)) h.taken }
from_next rest lines u (Continued amp k) each a e = each (Continued amp k) u a tt e

from_line : (b : Before) (l : List PlacedByte) (lines texts : List (List PlacedByte)) (t : List PlacedByte) (p : Part) → LineTaken b l p → FromLines lines texts ((t ++ p.text) ++ amp_of p.next) → FromLines (l ∷ lines) texts (t ++ amp_of b)
from_line b l lines texts t p line h =
    let row = in_a_row h.fronts in
    let here : ((t ++ p.text) ++ amp_of p.next) ++ row ≡ t ++ ((p.text ++ amp_of p.next) ++ row) =
    append_assoc (t ++ p.text) (amp_of p.next) row ∙ (append_assoc t p.text (amp_of p.next ++ row) ∙ ap (λ z. t ++ z) (sym (append_assoc p.text (amp_of p.next) row))) in
    let there : (t ++ amp_of b) ++ (line.front ++ row) ≡ t ++ ((amp_of b ++ line.front) ++ row) = append_assoc t (amp_of b) (line.front ++ row) ∙ ap (λ z. t ++ z) (sym (append_assoc (amp_of b) line.front row)) in
    let middle = both t t ((p.text ++ amp_of p.next) ++ row) ((amp_of b ++ line.front) ++ row) (itself t) (both (p.text ++ amp_of p.next) (amp_of b ++ line.front) row row line.part.0 (itself row)) in
    let taken = subst (λ z. AreTaken z ((t ++ amp_of b) ++ (line.front ++ row))) (sym here) (subst (λ z. AreTaken (t ++ ((p.text ++ amp_of p.next) ++ row)) z) (sym there) middle) in
    record {
      fronts = line.front ∷ h.fronts;
      are = (line.is, h.are);
      taken = chain (in_a_row texts) (((t ++ p.text) ++ amp_of p.next) ++ row) ((t ++ amp_of b) ++ (line.front ++ row)) h.taken taken;
    }

from_by : (b : Before) (l : List PlacedByte) (lines : List (List PlacedByte)) (t : List PlacedByte)
    → ((c : Before) (u : List PlacedByte) → IsAmp c → IsIdle c u → faults_from lines c ≡ [] → FromLines lines (joined lines c u) (u ++ amp_of c))
    → IsAmp b → IsIdle b t → (nothing : Bool) → (nothing ≡ true → IsGone l)
    → cond nothing (faults_from lines b) (faults_of_part (part_of b l) ++ faults_from lines (part_of b l).next) ≡ []
    → FromLines (l ∷ lines) (cond nothing (joined lines b t) (by_next (joined lines) (t ++ (part_of b l).text) (part_of b l).next)) (t ++ amp_of b)
from_by b l lines t each a i true gone e = from_nothing l lines (joined lines b t) (t ++ amp_of b) (gone refl) (each b t a i e)
from_by b l lines t each a i false gone e =
    let p = part_of b l in
    let here = none_first (faults_of_part p) (faults_from lines p.next) e in
    let closed = none_last (not_ascii p.code) (open_literal p.left_open) here in
    let line = part_of_taken b l a closed in
    from_line b l lines (by_next (joined lines) (t ++ p.text) p.next) t p line (from_next (joined lines) lines (t ++ p.text) p.next each line.part.1 (none_last (faults_of_part p) (faults_from lines p.next) e))

from_lines : (lines : List (List PlacedByte)) (b : Before) (t : List PlacedByte) → IsAmp b → IsIdle b t → faults_from lines b ≡ [] → FromLines lines (joined lines b t) (t ++ amp_of b)
from_lines [] b t a i e = from_none b t e i
from_lines (l ∷ lines) b t a i e =
    from_by b l lines t (λ c u h j f. from_lines lines c u h j f) a i (is_nothing l) (nothing_gone l)
    (none_last (too_long (slice_get l 1000)) (cond (is_nothing l) (faults_from lines b) (faults_of_part (part_of b l) ++ faults_from lines (part_of b l).next)) e)

-- ---- the statements of the texts

chosen : (b : Bool) (x y : List (List PlacedByte)) (file : List PlacedByte) → (b ≡ true → AreTaken (in_a_row x) file) → AreTaken (in_a_row y) file → AreTaken (in_a_row (cond b x y)) file
chosen true x y file h k = h refl
chosen false x y file h k = k

onto_row : (m : PlacedByte) (ps : List (List PlacedByte)) → in_a_row (onto_first m ps) ≡ m ∷ in_a_row ps
onto_row m [] = refl
onto_row m (p ∷ ps) = refl

cut_taken : (k : Context) (t : List PlacedByte) → AreTaken (in_a_row (cut k t)) t
cut_taken k [] = tt
cut_taken k (m ∷ t) =
    let ps = cut (behind k m) t in
    let rest = cut_taken (behind k m) t in
    chosen (separates k m) ([] ∷ ps) (onto_first m ps) (m ∷ t)
    (λ e. skip (in_a_row ps) m t (inr (inr (eqb-true m.code 59 (and_parts (nat_eq m.code 59) (not (is_inside k)) e).0))) rest)
    (subst (λ z. AreTaken z (m ∷ t)) (sym (onto_row m ps)) (inl (inl refl, rest)))

kept_by : (b : Bool) (p : List PlacedByte) (ps ks : List (List PlacedByte)) → (b ≡ true → AreTaken [] p) → AreTaken (in_a_row ks) (in_a_row ps) → AreTaken (in_a_row (cond (not b) (p ∷ ks) ks)) (p ++ in_a_row ps)
kept_by true p ps ks e h = both [] p (in_a_row ks) (in_a_row ps) (e refl) h
kept_by false p ps ks e h = both p p (in_a_row ks) (in_a_row ps) (itself p) h

kept_taken : (ps : List (List PlacedByte)) → AreTaken (in_a_row (kept ps)) (in_a_row ps)
kept_taken [] = tt
kept_taken (p ∷ ps) = kept_by (all_blank p) p ps (kept ps) (blanks_go p) (kept_taken ps)

row_append : (xs ys : List (List PlacedByte)) → in_a_row (xs ++ ys) ≡ in_a_row xs ++ in_a_row ys
row_append [] ys = refl
row_append (x ∷ xs) ys = ap (λ l. x ++ l) (row_append xs ys) ∙ sym (append_assoc x (in_a_row xs) (in_a_row ys))

pieces_taken : (ts : List (List PlacedByte)) → AreTaken (in_a_row (flat_map pieces ts)) (in_a_row ts)
pieces_taken [] = tt
pieces_taken (t ∷ ts) =
    let one = chain (in_a_row (pieces t)) (in_a_row (cut Outside t)) t (kept_taken (cut Outside t)) (cut_taken Outside t) in
    subst (λ z. AreTaken z (t ++ in_a_row ts)) (sym (row_append (pieces t) (flat_map pieces ts))) (both (in_a_row (pieces t)) t (in_a_row (flat_map pieces ts)) (in_a_row ts) one (pieces_taken ts))

pub all_kept : (bytes : List ℕ) → faults_of bytes ≡ [] → AreKept bytes
all_kept bytes e =
    let texts = joined (physical_lines bytes) Start [] in
    let h = from_lines (physical_lines bytes) Start [] tt refl e in
    record { fronts = h.fronts; are = h.are; taken = chain (in_a_row (statements_of bytes)) (in_a_row texts) (in_a_row h.fronts) (pieces_taken texts) h.taken }
