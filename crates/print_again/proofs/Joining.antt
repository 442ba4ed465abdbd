-- Lines that are joined, one behind the other, and what one line without a fault does.
use Rattle.std.proofs.Common.{◌≡◌, Bool, true, false, cond, not, ◌&&◌, ◌||◌, nat_eq, nat_lt, List, [], ◌∷◌, ◌++◌, map, Option, Some, None, refl, ap, sym, ◌∙◌, arith, append_assoc}
use Rattle.std.specs.Prelude.{slice_get, filter}
use Rattle.std.specs.List.{list_all, onto_first}
use Rattle.std.proofs.lemmas.Bool.{and_parts, and_from}
use Rattle.std.proofs.lemmas.Bool.Decides.{nat_tests}
use Rattle.fortran_lines.specs.declared.placed_byte.PlacedByte.{PlacedByte}
use Rattle.fortran_lines.specs.declared.context.Context.{Context}
use Rattle.fortran_lines.specs.declared.context.Context.TheVariants.{Outside, Inside, Closed}
use Rattle.fortran_lines.specs.declared.context.Before.{Before}
use Rattle.fortran_lines.specs.declared.context.Before.TheVariants.{Start, Continued}
use Rattle.fortran_lines.specs.declared.fault.LineFault.TheVariants.{NotAscii}
use Rattle.fortran_lines.specs.PlacedBytes.{is_blank, all_blank, blank_at}
use Rattle.fortran_lines.specs.Contexts.{is_inside, behind, context_behind}
use Rattle.fortran_lines.specs.Lines.{Part, is_nothing, code_part, before_amp, behind_amp, open_quote, part_by, part_from, continued, part_of, by_next, joined, cut, kept, pieces}
use Rattle.fortran_lines.specs.Faults.{too_long, not_ascii, faults_of_part, faults_from}
use Rattle.fortran_lines.proofs.LineLemmas.{before_amp-amp, before_amp-other, not_all_blank, amp_no_blank}

-- so lines join behind what stands before them, and break no rule: the texts that they end, and what stands before the
-- next line
pub record Runs (ls : List (List PlacedByte)) (b : Before) (t : List PlacedByte) (out : List (List PlacedByte)) (c : Before) (u : List PlacedByte) : Type 0 where
  pub joins : (rest : List (List PlacedByte)) → joined (ls ++ rest) b t ≡ out ++ joined rest c u
  pub clean : (rest : List (List PlacedByte)) → faults_from (ls ++ rest) b ≡ faults_from rest c

pub runs_none : (b : Before) (t : List PlacedByte) → Runs [] b t [] b t
runs_none b t = record { joins = λ rest. refl; clean = λ rest. refl }

pub runs_both : (ls ms : List (List PlacedByte)) (b c d : Before) (t u v : List PlacedByte) (o p : List (List PlacedByte)) → Runs ls b t o c u → Runs ms c u p d v → Runs (ls ++ ms) b t (o ++ p) d v
runs_both ls ms b c d t u v o p h k = record {
  joins = λ rest. ap (λ z. joined z b t) (append_assoc ls ms rest) ∙ (h.joins (ms ++ rest) ∙ (ap (λ z. o ++ z) (k.joins rest) ∙ sym (append_assoc o p (joined rest d v))));
  clean = λ rest. ap (λ z. faults_from z b) (append_assoc ls ms rest) ∙ (h.clean (ms ++ rest) ∙ k.clean rest);
}

-- a line that ends a statement's text
pub runs_end : (l : List PlacedByte) (b : Before) (t code text : List PlacedByte) → is_nothing l ≡ false → slice_get l 1000 ≡ None → not_ascii code ≡ []
    → part_of b l ≡ record { code = code; text = text; next = Start; left_open = None } → Runs (l ∷ []) b t ((t ++ text) ∷ []) Start []
runs_end l b t code text thing short ascii part = record {
  joins = λ rest.
      ap (λ z. cond z (joined rest b t) (by_next (joined rest) (t ++ (part_of b l).text) (part_of b l).next)) thing
      ∙ ap (λ p. by_next (joined rest) (t ++ p.text) p.next) part;
  clean = λ rest.
      ap (λ z. too_long z ++ cond (is_nothing l) (faults_from rest b) (faults_of_part (part_of b l) ++ faults_from rest (part_of b l).next)) short
      ∙ (ap (λ z. cond z (faults_from rest b) (faults_of_part (part_of b l) ++ faults_from rest (part_of b l).next)) thing
      ∙ (ap (λ p. faults_of_part p ++ faults_from rest p.next) part
      ∙ ap (λ z. (z ++ []) ++ faults_from rest Start) ascii));
}

-- a line that goes on in the next
pub runs_on : (l : List PlacedByte) (b : Before) (t code text : List PlacedByte) (a : PlacedByte) (k : Context) → is_nothing l ≡ false → slice_get l 1000 ≡ None → not_ascii code ≡ []
    → part_of b l ≡ record { code = code; text = text; next = Continued a k; left_open = None } → Runs (l ∷ []) b t [] (Continued a k) (t ++ text)
runs_on l b t code text a k thing short ascii part = record {
  joins = λ rest.
      ap (λ z. cond z (joined rest b t) (by_next (joined rest) (t ++ (part_of b l).text) (part_of b l).next)) thing
      ∙ ap (λ p. by_next (joined rest) (t ++ p.text) p.next) part;
  clean = λ rest.
      ap (λ z. too_long z ++ cond (is_nothing l) (faults_from rest b) (faults_of_part (part_of b l) ++ faults_from rest (part_of b l).next)) short
      ∙ (ap (λ z. cond z (faults_from rest b) (faults_of_part (part_of b l) ++ faults_from rest (part_of b l).next)) thing
      ∙ (ap (λ p. faults_of_part p ++ faults_from rest p.next) part
      ∙ ap (λ z. (z ++ []) ++ faults_from rest (Continued a k)) ascii));
}

-- Texts without a comment and without a `;`, outside literals.

abbrev pub fine : Context → PlacedByte → Bool
fine k m = is_inside k || (not (nat_eq m.code 33) && not (nat_eq m.code 59))

abbrev pub sound : Context → List PlacedByte → Bool
sound k [] = true
sound k (m ∷ l) = fine k m && sound (behind k m) l

and_three : (x y z : Bool) → (x && (y && z)) ≡ ((x && y) && z)
and_three true y z = refl
and_three false y z = refl

pub sound_append : (k : Context) (a b : List PlacedByte) → sound k (a ++ b) ≡ (sound k a && sound (context_behind k a) b)
sound_append k [] b = refl
sound_append k (m ∷ a) b = ap (λ z. fine k m && z) (sound_append (behind k m) a b) ∙ and_three (fine k m) (sound (behind k m) a) (sound (context_behind (behind k m) a) b)

no_comment : (i c s : Bool) → (i || (not c && not s)) ≡ true → (c && not i) ≡ false
no_comment true true s h = refl
no_comment true false s h = refl
no_comment false true s h = absurd (cc)
no_comment false false s h = refl

no_separator : (i c s : Bool) → (i || (not c && not s)) ≡ true → (s && not i) ≡ false
no_separator true c true h = refl
no_separator true c false h = refl
no_separator false true s h = absurd (cc)
no_separator false false true h = absurd (cc)
no_separator false false false h = refl

-- nothing of it is a comment
pub code_sound : (k : Context) (l : List PlacedByte) → sound k l ≡ true → code_part k l ≡ l
code_sound k [] h = refl
code_sound k (m ∷ l) h =
    let p = and_parts (fine k m) (sound (behind k m) l) h in
    ap (λ z. cond z [] (m ∷ code_part (behind k m) l)) (no_comment (is_inside k) (nat_eq m.code 33) (nat_eq m.code 59) p.0) ∙ ap (λ z. m ∷ z) (code_sound (behind k m) l p.1)

-- and it is one statement
pub cut_sound : (k : Context) (l : List PlacedByte) → sound k l ≡ true → cut k l ≡ l ∷ []
cut_sound k [] h = refl
cut_sound k (m ∷ l) h =
    let p = and_parts (fine k m) (sound (behind k m) l) h in
    ap (λ z. cond z ([] ∷ cut (behind k m) l) (onto_first m (cut (behind k m) l))) (no_separator (is_inside k) (nat_eq m.code 33) (nat_eq m.code 59) p.0) ∙ ap (onto_first m) (cut_sound (behind k m) l p.1)

pub one_piece : (l : List PlacedByte) → sound Outside l ≡ true → all_blank l ≡ false → pieces l ≡ l ∷ []
one_piece l h b = ap kept (cut_sound Outside l h) ∙ ap (λ z. cond (not z) (l ∷ []) []) b

abbrev pub is_ascii : PlacedByte → Bool
is_ascii m = not (nat_lt 127 m.code)

not_not : (b : Bool) → not b ≡ true → b ≡ false
not_not true h = absurd (cc)
not_not false h = refl

pub none_above : (l : List PlacedByte) → list_all is_ascii l ≡ true → not_ascii l ≡ []
none_above [] h = refl
none_above (m ∷ l) h =
    let p = and_parts (is_ascii m) (list_all is_ascii l) h in
    ap (λ z. map (λ x. NotAscii x.at) (cond z (m ∷ filter (λ x. nat_lt 127 x.code) l) (filter (λ x. nat_lt 127 x.code) l))) (not_not (nat_lt 127 m.code) p.0) ∙ none_above l p.1

amp_fine : (k : Context) (a : PlacedByte) → nat_eq a.code 38 ≡ true → fine k a ≡ true
amp_fine k a h = by_inside (is_inside k)
  where
    by_inside : (i : Bool) → (i || (not (nat_eq a.code 33) && not (nat_eq a.code 59))) ≡ true
    by_inside true = refl
    by_inside false = grind (arith, nat_tests)

-- a line's text that ends with a byte that is no blank and no `&`
pub record Last (l : List PlacedByte) : Type 0 where
  pub front : List PlacedByte
  pub byte : PlacedByte
  pub split : l ≡ front ++ byte ∷ []
  pub ink : is_blank byte ≡ false
  pub no_amp : nat_eq byte.code 38 ≡ false

pub last_inked : (l : List PlacedByte) → Last l → all_blank l ≡ false
last_inked l e = ap all_blank e.split ∙ not_all_blank e.front e.byte true e.ink

no_open : (k : Context) → is_inside k ≡ false → open_quote k ≡ None
no_open Outside h = refl
no_open (Inside q) h = absurd (cc)
no_open (Closed q) h = refl

pub ends_part : (k : Context) (body : List PlacedByte) → sound k body ≡ true → Last body → is_inside (context_behind k body) ≡ false
    → part_from k body ≡ record { code = body; text = body; next = Start; left_open = None }
ends_part k body s e c =
    let none : before_amp body ≡ None = ap before_amp e.split ∙ before_amp-other e.front e.byte e.ink e.no_amp in
    ap (λ z. part_by k z (before_amp z)) (code_sound k body s)
    ∙ (ap (λ z. part_by k body z) none ∙ ap (λ z. let p : Part = record { code = body; text = body; next = Start; left_open = z } in p) (no_open (context_behind k body) c))

pub goes_part : (k : Context) (body : List PlacedByte) (a : PlacedByte) → sound k body ≡ true → nat_eq a.code 38 ≡ true
    → part_from k (body ++ a ∷ []) ≡ record { code = body ++ a ∷ []; text = body; next = Continued a (context_behind k body); left_open = None }
goes_part k body a s h =
    let all : sound k (body ++ a ∷ []) ≡ true = sound_append k body (a ∷ []) ∙ and_from (sound k body) (fine (context_behind k body) a && true) s (and_from (fine (context_behind k body) a) true (amp_fine (context_behind k body) a h) refl) in
    ap (λ z. part_by k z (before_amp z)) (code_sound k (body ++ a ∷ []) all) ∙ ap (λ z. part_by k (body ++ a ∷ []) z) (before_amp-amp body a h)

-- How a line begins.

-- a blank or nothing before what a line adds
abbrev pub leading : List PlacedByte → Part → Part
leading lead p = record { code = p.code; text = lead ++ p.text; next = p.next; left_open = p.left_open }

-- a line that begins so, whatever follows: its text begins with this body, in this context and behind this lead
pub record Head (b : Before) (l : List PlacedByte) (k : Context) (lead body : List PlacedByte) : Type 0 where
  pub thing : (r : List PlacedByte) → is_nothing (l ++ r) ≡ false
  pub part : (r : List PlacedByte) → all_blank (code_part k (body ++ r)) ≡ false → part_of b (l ++ r) ≡ leading lead (part_from k (body ++ r))

pub head_more : (b : Before) (l : List PlacedByte) (k : Context) (lead body x : List PlacedByte) → Head b l k lead body → Head b (l ++ x) k lead (body ++ x)
head_more b l k lead body x h = record {
  thing = λ r. ap is_nothing (append_assoc l x r) ∙ h.thing (x ++ r);
  part = λ r e.
      ap (part_of b) (append_assoc l x r) ∙ (h.part (x ++ r) (ap (λ z. all_blank (code_part k z)) (sym (append_assoc body x r)) ∙ e)
      ∙ ap (λ z. leading lead (part_from k z)) (sym (append_assoc body x r)));
}

begun : (m : PlacedByte) (l : List PlacedByte) → is_blank m ≡ false → nat_eq m.code 33 ≡ false → is_nothing (m ∷ l) ≡ false
begun m l b c = ap (λ z. cond z (is_nothing l) (nat_eq m.code 33)) b ∙ c

pub head_start : (m : PlacedByte) (l : List PlacedByte) → is_blank m ≡ false → nat_eq m.code 33 ≡ false → Head Start (m ∷ l) Outside [] (m ∷ l)
head_start m l b c = record { thing = λ r. begun m (l ++ r) b c; part = λ r e. refl }

spaced_by : (a : PlacedByte) (k : Context) (l : List PlacedByte) → is_inside k ≡ false → continued a k l None ≡ leading (blank_at a ∷ []) (part_from Outside l)
spaced_by a Outside l h = refl
spaced_by a (Inside q) l h = absurd (cc)
spaced_by a (Closed q) l h = refl

pub head_spaced : (a : PlacedByte) (k : Context) (m : PlacedByte) (l : List PlacedByte) → is_inside k ≡ false → is_blank m ≡ false → nat_eq m.code 33 ≡ false → nat_eq m.code 38 ≡ false
    → Head (Continued a k) (m ∷ l) Outside (blank_at a ∷ []) (m ∷ l)
head_spaced a k m l h b c d = record {
  thing = λ r. begun m (l ++ r) b c;
  part = λ r e.
      let none : behind_amp (m ∷ (l ++ r)) ≡ None = ap (λ z. cond z (behind_amp (l ++ r)) (cond (nat_eq m.code 38) (Some (l ++ r, m)) None)) b ∙ ap (λ z. cond z (Some (l ++ r, m)) None) d in
      ap (continued a k (m ∷ (l ++ r))) none ∙ spaced_by a k (m ∷ (l ++ r)) h;
}

code_of_part : (k : Context) (code : List PlacedByte) (o : Option (List PlacedByte × PlacedByte)) → (part_by k code o).code ≡ code
code_of_part k code None = refl
code_of_part k code (Some r) = refl

amp_no_mark : (m : PlacedByte) → nat_eq m.code 38 ≡ true → nat_eq m.code 33 ≡ false
amp_no_mark m h = grind (arith, nat_tests)

pub head_resumed : (a : PlacedByte) (k : Context) (m : PlacedByte) (l : List PlacedByte) → nat_eq m.code 38 ≡ true → Head (Continued a k) (m ∷ l) k [] l
head_resumed a k m l h = record {
  thing = λ r. begun m (l ++ r) (amp_no_blank m h) (amp_no_mark m h);
  part = λ r e.
      let rest : behind_amp (m ∷ (l ++ r)) ≡ Some (l ++ r, m) = ap (λ z. cond z (behind_amp (l ++ r)) (cond (nat_eq m.code 38) (Some (l ++ r, m)) None)) (amp_no_blank m h) ∙ ap (λ z. cond z (Some (l ++ r, m)) None) h in
      let code = ap all_blank (code_of_part k (code_part k (l ++ r)) (before_amp (code_part k (l ++ r)))) ∙ e in
      ap (continued a k (m ∷ (l ++ r))) rest
      ∙ ap (λ z. cond z (record { code = (part_from k (l ++ r)).code; text = []; next = Continued m k; left_open = None }) (part_from k (l ++ r))) code;
}
