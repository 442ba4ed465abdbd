-- A line that is parted by a continuation.
use Rattle.std.proofs.Common.{◌≡◌, ℕ, Bool, true, false, cond, not, ◌&&◌, nat_eq, List, [], ◌∷◌, ◌++◌, Option, Some, None, refl, ap, sym, ◌∙◌, arith}
use Rattle.std.specs.List.{flat_map}
use Rattle.std.specs.Str.Lines.{lines}
use Rattle.std.proofs.lemmas.List.Folds.{list_all-append}
use Rattle.std.proofs.lemmas.List.Sums.{fold-append}
use Rattle.std.proofs.lemmas.Bool.{and_from, and_right}
use Rattle.std.proofs.lemmas.Bool.Decides.{nat_tests}
use Rattle.fortran_lines.specs.declared.placed_byte.PlacedByte.{PlacedByte}
use Rattle.fortran_lines.specs.declared.context.Context.{Context}
use Rattle.fortran_lines.specs.declared.context.Context.TheVariants.{Outside, Inside}
use Rattle.fortran_lines.specs.declared.context.Before.{Before}
use Rattle.fortran_lines.specs.declared.context.Before.TheVariants.{Start, Continued}
use Rattle.fortran_lines.specs.PlacedBytes.{is_blank, is_quote, all_blank}
use Rattle.fortran_lines.specs.Contexts.{is_inside, behind, context_behind}
use Rattle.fortran_lines.specs.Lines.{is_nothing, code_part, put_before, before_amp, behind_amp, part_by, part_from, continued, part_of, by_next, joined, pieces}
use Rattle.fortran_lines.specs.Texts.{texts_of, codes_of, plain, before_next, CanBeParted}
use Rattle.fortran_lines.proofs.LineLemmas.{before_amp-amp, amp_no_blank, not_all_blank}
use Rattle.fortran_lines.proofs.Nothing.{all_plain, plain_texts, plain_append}

-- an `&` is no `!`
amp_no_mark : (m : PlacedByte) → nat_eq m.code 38 ≡ true → nat_eq m.code 33 ≡ false
amp_no_mark m h = grind (arith, nat_tests)

-- a blank is no quote
blank_no_quote : (m : PlacedByte) → is_blank m ≡ true → is_quote m ≡ false
blank_no_quote m h = grind (arith, nat_tests)

code_by : (k : Context) (m : PlacedByte) (one two : List PlacedByte) → (code_part (behind k m) one ≡ one → code_part (behind k m) (one ++ two) ≡ one ++ code_part (context_behind (behind k m) one) two)
    → (b : Bool) → cond b [] (m ∷ code_part (behind k m) one) ≡ m ∷ one → cond b [] (m ∷ code_part (behind k m) (one ++ two)) ≡ m ∷ (one ++ code_part (context_behind (behind k m) one) two)
code_by k m one two next true e = absurd (cc)
code_by k m one two next false e = let rest : code_part (behind k m) one ≡ one = cc in ap (λ l. m ∷ l) (next rest)

-- where no comment begins in its first part, a line's code goes on in the second
code_append : (k : Context) (one two : List PlacedByte) → code_part k one ≡ one → code_part k (one ++ two) ≡ one ++ code_part (context_behind k one) two
code_append k [] two e = refl
code_append k (m ∷ one) two e = code_by k m one two (code_append (behind k m) one two) (nat_eq m.code 33 && not (is_inside k)) e

-- some text in front of what stands in front of an `&`
abbrev in_front : List PlacedByte → Option (List PlacedByte × PlacedByte) → Option (List PlacedByte × PlacedByte)
in_front one None = None
in_front one (Some r) = Some (one ++ r.0, r.1)

in_front_none : (o : Option (List PlacedByte × PlacedByte)) → o ≡ in_front [] o
in_front_none None = refl
in_front_none (Some r) = refl

in_front_more : (m : PlacedByte) (one : List PlacedByte) (o : Option (List PlacedByte × PlacedByte)) → put_before m (in_front one o) ≡ in_front (m ∷ one) o
in_front_more m one None = refl
in_front_more m one (Some r) = refl

blank_append : (one d : List PlacedByte) → all_blank d ≡ false → all_blank (one ++ d) ≡ false
blank_append one d e = list_all-append is_blank one d ∙ and_right (all_blank one) (all_blank d) e

amp_append : (one d : List PlacedByte) → all_blank d ≡ false → before_amp (one ++ d) ≡ in_front one (before_amp d)
amp_append [] d e = in_front_none (before_amp d)
amp_append (m ∷ one) d e =
    let none = and_right (nat_eq m.code 38) (all_blank (one ++ d)) (blank_append one d e) in
    ap (λ b. cond b (Some ([], m)) (put_before m (before_amp (one ++ d)))) none
    ∙ (ap (put_before m) (amp_append one d e) ∙ in_front_more m one (before_amp d))

-- behind a blank no literal is open
blank_outside : (m : PlacedByte) → is_blank m ≡ true → behind Outside m ≡ Outside
blank_outside m h = let no_quote : is_quote m ≡ false = blank_no_quote m h in ap (λ b. cond b (Inside m) Outside) no_quote

something_by : (m : PlacedByte) (l : List PlacedByte) → (is_nothing l ≡ true → all_blank (code_part Outside l) ≡ true) → (blank sign : Bool) → blank ≡ is_blank m → sign ≡ nat_eq m.code 33 → cond blank (is_nothing l) sign ≡ true
    → all_blank (cond (sign && true) [] (m ∷ code_part (behind Outside m) l)) ≡ true
something_by m l next blank true b s e = refl
something_by m l next false false b s e = absurd (cc)
something_by m l next true false b s e =
    ap (λ k. is_blank m && all_blank (code_part k l)) (blank_outside m (sym b)) ∙ and_from (is_blank m) (all_blank (code_part Outside l)) (sym b) (next e)

-- a line that is nothing has blanks alone before a comment
code_of_nothing : (l : List PlacedByte) → is_nothing l ≡ true → all_blank (code_part Outside l) ≡ true
code_of_nothing [] e = refl
code_of_nothing (m ∷ l) e = something_by m l (code_of_nothing l) (is_blank m) (nat_eq m.code 33) refl refl e

something : (l : List PlacedByte) → all_blank (code_part Outside l) ≡ false → is_nothing l ≡ false
something l e = by_case (is_nothing l) refl
  where
    by_case : (b : Bool) → b ≡ is_nothing l → b ≡ false
    by_case false s = refl
    by_case true s = absurd (let k = sym e ∙ code_of_nothing l (sym s) in cc)

-- the code of a part is that of its line
code_of_part : (k : Context) (code : List PlacedByte) (o : Option (List PlacedByte × PlacedByte)) → (part_by k code o).code ≡ code
code_of_part k code None = refl
code_of_part k code (Some r) = refl

-- the second part behind the first one makes what the whole makes
same_end : (ls : List (List PlacedByte)) (one d : List PlacedByte) (o : Option (List PlacedByte × PlacedByte))
    → by_next (joined ls) (part_by Outside (one ++ d) (in_front one o)).text (part_by Outside (one ++ d) (in_front one o)).next
    ≡ by_next (joined ls) (one ++ (part_by (context_behind Outside one) d o).text) (part_by (context_behind Outside one) d o).next
same_end ls one d None = refl
same_end ls one d (Some r) = ap (λ k. joined ls (Continued r.1 k) (one ++ r.0)) (fold-append behind Outside one r.0)

-- the whole line
whole : (one two : List PlacedByte) (back : List (List PlacedByte)) → code_part Outside one ≡ one → all_blank (code_part (context_behind Outside one) two) ≡ false
    → joined ((one ++ two) ∷ back) Start [] ≡ by_next (joined back) (one ++ (part_from (context_behind Outside one) two).text) (part_from (context_behind Outside one) two).next
whole one two back clear inked =
    let k = context_behind Outside one in
    let d = code_part k two in
    let code = code_append Outside one two clear in
    let thing = something (one ++ two) (ap all_blank code ∙ blank_append one d inked) in
    ap (λ b. cond b (joined back Start []) (by_next (joined back) (part_from Outside (one ++ two)).text (part_from Outside (one ++ two)).next)) thing
    ∙ (ap (λ c. by_next (joined back) (part_by Outside c (before_amp c)).text (part_by Outside c (before_amp c)).next) code
    ∙ (ap (λ o. by_next (joined back) (part_by Outside (one ++ d) o).text (part_by Outside (one ++ d) o).next) (amp_append one d inked)
    ∙ same_end back one d (before_amp d)))

-- the second line of the two
second : (one two : List PlacedByte) (a c : PlacedByte) (k : Context) (back : List (List PlacedByte)) → nat_eq c.code 38 ≡ true → all_blank (code_part k two) ≡ false
    → joined ((c ∷ two) ∷ back) (Continued a k) one ≡ by_next (joined back) (one ++ (part_from k two).text) (part_from k two).next
second one two a c k back amp inked =
    let no_blank = amp_no_blank c amp in
    let no_mark = amp_no_mark c amp in
    let d = code_part k two in
    let thing : is_nothing (c ∷ two) ≡ false = ap (λ b. cond b (is_nothing two) (nat_eq c.code 33)) no_blank ∙ no_mark in
    let rest : behind_amp (c ∷ two) ≡ Some (two, c) = ap (λ b. cond b (behind_amp two) (cond (nat_eq c.code 38) (Some (two, c)) None)) no_blank ∙ ap (λ b. cond b (Some (two, c)) None) amp in
    let code = ap all_blank (code_of_part k d (before_amp d)) ∙ inked in
    let part : part_of (Continued a k) (c ∷ two) ≡ part_from k two =
    ap (continued a k (c ∷ two)) rest ∙ ap (λ b. cond b (record { code = (part_from k two).code; text = []; next = Continued c k; left_open = None }) (part_from k two)) code in
    ap (λ b. cond b (joined back (Continued a k) one) (by_next (joined back) (one ++ (part_of (Continued a k) (c ∷ two)).text) (part_of (Continued a k) (c ∷ two)).next)) thing
    ∙ ap (λ p. by_next (joined back) (one ++ p.text) p.next) part

-- the first line of the two
first : (one : List PlacedByte) (a : PlacedByte) (ls : List (List PlacedByte)) → nat_eq a.code 38 ≡ true → code_part Outside one ≡ one
    → joined ((one ++ a ∷ []) ∷ ls) Start [] ≡ joined ls (Continued a (context_behind Outside one)) one
first one a ls amp clear =
    let k = context_behind Outside one in
    let single : code_part k (a ∷ []) ≡ a ∷ [] = ap (λ b. cond (b && not (is_inside k)) [] (a ∷ [])) (amp_no_mark a amp) in
    let code = code_append Outside one (a ∷ []) clear ∙ ap (λ l. one ++ l) single in
    let thing = something (one ++ a ∷ []) (ap all_blank code ∙ not_all_blank one a true (amp_no_blank a amp)) in
    ap (λ b. cond b (joined ls Start []) (by_next (joined ls) (part_from Outside (one ++ a ∷ [])).text (part_from Outside (one ++ a ∷ [])).next)) thing
    ∙ (ap (λ c. by_next (joined ls) (part_by Outside c (before_amp c)).text (part_by Outside c (before_amp c)).next) code
    ∙ ap (λ o. by_next (joined ls) (part_by Outside (one ++ a ∷ []) o).text (part_by Outside (one ++ a ∷ []) o).next) (before_amp-amp one a amp))

parted_here : (one two : List PlacedByte) (a c : PlacedByte) (back : List (List PlacedByte)) → nat_eq a.code 38 ≡ true → nat_eq c.code 38 ≡ true → code_part Outside one ≡ one → all_blank (code_part (context_behind Outside one) two) ≡ false
    → joined ((one ++ two) ∷ back) Start [] ≡ joined ((one ++ a ∷ []) ∷ (c ∷ two) ∷ back) Start []
parted_here one two a c back amp amp' clear inked =
    whole one two back clear inked ∙ sym (first one a ((c ∷ two) ∷ back) amp clear ∙ second one two a c (context_behind Outside one) back amp' inked)

-- lines that join alike behind no text join alike behind other lines
Alike : List (List PlacedByte) → List (List PlacedByte) → List (List PlacedByte) → Type 0
Alike front xs ys = (b : Before) (t : List PlacedByte) → before_next front b ≡ Start → (b ≡ Start → t ≡ []) → joined (front ++ xs) b t ≡ joined (front ++ ys) b t

alike_next : (front xs ys : List (List PlacedByte)) → Alike front xs ys → (next : Before) (t : List PlacedByte) → before_next front next ≡ Start → by_next (joined (front ++ xs)) t next ≡ by_next (joined (front ++ ys)) t next
unfolding Alike
alike_next front xs ys h Start t e = ap (λ ls. t ∷ ls) (h Start [] e (λ _. refl))
alike_next front xs ys h (Continued a k) t e = h (Continued a k) t e (λ f. absurd (cc))

alike_by : (l : List PlacedByte) (front xs ys : List (List PlacedByte)) → Alike front xs ys → (b : Before) (t : List PlacedByte) → (b ≡ Start → t ≡ []) → (n : Bool)
    → cond n (before_next front b) (before_next front (part_of b l).next) ≡ Start
    → cond n (joined (front ++ xs) b t) (by_next (joined (front ++ xs)) (t ++ (part_of b l).text) (part_of b l).next) ≡ cond n (joined (front ++ ys) b t) (by_next (joined (front ++ ys)) (t ++ (part_of b l).text) (part_of b l).next)
unfolding Alike
alike_by l front xs ys h b t s true e = h b t e s
alike_by l front xs ys h b t s false e = alike_next front xs ys h (part_of b l).next (t ++ (part_of b l).text) e

alike_here : (xs ys : List (List PlacedByte)) → joined xs Start [] ≡ joined ys Start [] → (b : Before) (t : List PlacedByte) → b ≡ Start → (b ≡ Start → t ≡ []) → joined xs b t ≡ joined ys b t
alike_here xs ys h Start t e s = let none = s refl in ap (joined xs Start) none ∙ (h ∙ sym (ap (joined ys Start) none))
alike_here xs ys h (Continued a k) t e s = absurd (cc)

alike : (front xs ys : List (List PlacedByte)) → joined xs Start [] ≡ joined ys Start [] → Alike front xs ys
unfolding Alike
alike [] xs ys h b t e s = alike_here xs ys h b t e s
alike (l ∷ front) xs ys h b t e s = alike_by l front xs ys (alike front xs ys h) b t s (is_nothing l) e

plain_append_bytes : (xs ys : List ℕ) → plain (xs ++ ys) ≡ plain xs ++ plain ys
plain_append_bytes [] ys = refl
plain_append_bytes (x ∷ xs) ys = ap (λ l. record { code = x; at = record { line = 0; col = 0 } } ∷ l) (plain_append_bytes xs ys)

pub parted : (bytes bytes' : List ℕ) (front back : List (List ℕ)) (one two : List ℕ) → lines bytes ≡ front ++ (one ++ two) ∷ back → lines bytes' ≡ front ++ (one ++ 38 ∷ []) ∷ (38 ∷ two) ∷ back
    → CanBeParted front one two → texts_of bytes' ≡ texts_of bytes
unfolding Alike
parted bytes bytes' front back one two e e' h =
    let amp : PlacedByte = record { code = 38; at = record { line = 0; col = 0 } } in
    let here = ap all_plain e ∙ (plain_append front ((one ++ two) ∷ back) ∙ ap (λ l. all_plain front ++ l ∷ all_plain back) (plain_append_bytes one two)) in
    let there = ap all_plain e' ∙ (plain_append front ((one ++ 38 ∷ []) ∷ (38 ∷ two) ∷ back) ∙ ap (λ l. all_plain front ++ l ∷ (amp ∷ plain two) ∷ all_plain back) (plain_append_bytes one (38 ∷ []))) in
    let same = alike (all_plain front) ((plain one ++ plain two) ∷ all_plain back) ((plain one ++ amp ∷ []) ∷ (amp ∷ plain two) ∷ all_plain back) (parted_here (plain one) (plain two) amp amp (all_plain back) refl refl h.clear h.inked) Start [] h.begins (λ _. refl) in
    plain_texts bytes' ∙ (ap (λ ls. codes_of (flat_map pieces (joined ls Start []))) there
    ∙ (ap (λ ls. codes_of (flat_map pieces ls)) (sym same)
    ∙ (ap (λ ls. codes_of (flat_map pieces (joined ls Start []))) (sym here) ∙ sym (plain_texts bytes))))
