-- Plain lines break no rule.
use Rattle.std.proofs.Common.{◌≡◌, ℕ, ◌+◌, ◌≤◌, true, cond, nat_lt, List, [], ◌∷◌, ◌++◌, length, map, refl, ap, ◌∙◌, arith}
use Rattle.std.specs.Prelude.{slice_get, filter}
use Rattle.std.specs.List.{AllByRecursion, list_all}
use Rattle.std.proofs.lemmas.Option.{slice_get_past}
use Rattle.fortran_lines.specs.declared.placed_byte.PlacedByte.{PlacedByte}
use Rattle.fortran_lines.specs.declared.context.Before.TheVariants.{Start}
use Rattle.fortran_lines.specs.declared.fault.LineFault.TheVariants.{NotAscii}
use Rattle.fortran_lines.specs.PlacedBytes.{placed_from, numbered}
use Rattle.fortran_lines.specs.Lines.{is_nothing, part_of}
use Rattle.fortran_lines.specs.Faults.{too_long, not_ascii, faults_of_part, faults_from, faults_of}
use Rattle.plain_lines.specs.PlainLines.{is_plain, IsPlainLine, ended}
use Rattle.plain_lines.proofs.PlainBytes.{ascii, first_plain, rest_plain}
use Rattle.plain_lines.proofs.Feeds.{lines-ended}
use Rattle.plain_lines.proofs.Joined.{something, line_part}

length-placed : (n c : ℕ) (l : List ℕ) → length (placed_from n c l) ≡ length l
length-placed n c [] = refl
length-placed n c (b ∷ l) = omega (arith, length-placed n (c + 1) l)

-- it has no byte beyond column 1,000
fits : (n : ℕ) (l : List ℕ) → length l ≤ 1000 → too_long (slice_get (placed_from n 1 l) 1000) ≡ []
fits n l h = ap too_long (slice_get_past (placed_from n 1 l) 1000 (omega (arith, length-placed n 1 l)))

-- and none above 127
all_ascii : (n c : ℕ) (l : List ℕ) → list_all is_plain l ≡ true → not_ascii (placed_from n c l) ≡ []
all_ascii n c [] e = refl
all_ascii n c (b ∷ l) e =
    let m : PlacedByte = record { code = b; at = record { line = n; col = c } } in
    let rest = filter (λ m. nat_lt 127 m.code) (placed_from n (c + 1) l) in
    ap (λ x. map (λ m. NotAscii m.at) (cond x (m ∷ rest) rest)) (ascii b (first_plain b l e)) ∙ all_ascii n (c + 1) l (rest_plain b l e)

unbroken_from : (n : ℕ) (ls : List (List ℕ)) → AllByRecursion IsPlainLine ls → faults_from (numbered n ls) Start ≡ []
unbroken_from n [] h = refl
unbroken_from n (l ∷ ls) h =
    let line = placed_from n 1 l in
    let rest = numbered (n + 1) ls in
    ap (λ t. t ++ cond (is_nothing line) (faults_from rest Start) (faults_of_part (part_of Start line) ++ faults_from rest (part_of Start line).next)) (fits n l h.0.short)
    ∙ ap (λ b. cond b (faults_from rest Start) (faults_of_part (part_of Start line) ++ faults_from rest (part_of Start line).next)) (something n l h.0)
    ∙ ap (λ p. faults_of_part p ++ faults_from rest p.next) (line_part n l h.0)
    ∙ ap (λ a. (a ++ []) ++ faults_from rest Start) (all_ascii n 1 l h.0.plain)
    ∙ unbroken_from (n + 1) ls h.1

pub faultless : (ls : List (List ℕ)) → AllByRecursion IsPlainLine ls → faults_of (ended ls) ≡ []
faultless ls h = ap (λ x. faults_from (numbered 1 x) Start) (lines-ended ls h) ∙ unbroken_from 1 ls h
