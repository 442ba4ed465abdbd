-- Procedures with their scopes.
use Rattle.std.proofs.Common.{◌≡◌, ◌∙◌, ℕ, ◌+◌, Bool, true, false, List, [], ◌∷◌, ◌++◌, drop, refl, sym, ap, subst}
use Rattle.std.specs.Prelude.{Option, Some, None, cond, map, bytes_eq}
use Rattle.std.proofs.lemmas.List.{append_assoc}
use Rattle.fortran_tree.specs.declared.name.Name.{Name}
use Rattle.rule_definitions.specs.Names as n
use Rattle.rule_definitions.specs.Names.{Meaning, Named, Symbol, denoted_in, variables_of}
use Rattle.rule_definitions.specs.Units.{symbol_named, symbols_named}
use Rattle.scope_table.specs.Symbols.{constant_symbol, entry, symbol}
use Rattle.scope_table.specs.declared.symbol.Entry.{Entry}
use Rattle.scope_table.specs.declared.symbol.Entry.TheVariants as entries
use Rattle.unit_scopes.specs.Openings.{maybe_named}

more_cases : (o : Option Symbol) (rest : List Symbol) → elim o [ None ↦ rest | Some y ↦ y ∷ rest ] ≡ elim o [ None ↦ [] | Some y ↦ y ∷ [] ] ++ rest
more_cases None rest = refl
more_cases (Some y) rest = refl

-- what a name stands for, and the variable that it is
Agree : Option Meaning → Option Symbol → Type 0
Agree None o = o ≡ None
Agree (Some (n.variable x)) o = o ≡ Some x
Agree (Some m) o = Unit {0}

agree_variable : (b : Bool) (x : Symbol) (m : Option Meaning) (o : Option Symbol) → Agree m o → Agree (cond b (Some (n.variable x)) m) (cond b (Some x) o)
unfolding Agree
agree_variable true x m o h = refl
agree_variable false x m o h = h

agree_constant : (b : Bool) (x : n.ConstantSymbol) (m : Option Meaning) (o : Option Symbol) → Agree m o → Agree (cond b (Some (n.constant x)) m) o
unfolding Agree
agree_constant true x m o h = tt
agree_constant false x m o h = h

agree_all : (es : List Entry) (k : List ℕ) → Agree (denoted_in (map entry es) k) (symbol_named (variables_of (map entry es)) k)
unfolding Agree
agree_all [] k = refl
agree_all (entries.Variable x ∷ es) k = agree_variable (bytes_eq x.name k) (symbol x) (denoted_in (map entry es) k) (symbol_named (variables_of (map entry es)) k) (agree_all es k)
agree_all (entries.Constant x ∷ es) k = agree_constant (bytes_eq x.name k) (constant_symbol x) (denoted_in (map entry es) k) (symbol_named (variables_of (map entry es)) k) (agree_all es k)

agree_some : (m : Option Meaning) (o : Option Symbol) (x : Symbol) → Agree m o → m ≡ Some (n.variable x) → o ≡ Some x
unfolding Agree
agree_some m o x h e = let P : Option Meaning → Type 0 = λ k. Agree k o in subst P e h

agree_none : (m : Option Meaning) (o : Option Symbol) → Agree m o → m ≡ None → o ≡ None
unfolding Agree
agree_none m o h e = let P : Option Meaning → Type 0 = λ k. Agree k o in subst P e h

-- a variable that was found, by its name
pub found_variable : (es : List Entry) (own : List Named) (k : List ℕ) (x : Symbol) → map entry es ≡ own → Some (n.variable x) ≡ denoted_in own k → Some x ≡ symbol_named (variables_of own) k
found_variable es own k x e f =
    let P : List Named → Type 0 = λ z. denoted_in z k ≡ Some (n.variable x) → Some x ≡ symbol_named (variables_of z) k in
    subst P e (λ q. sym (agree_some (denoted_in (map entry es) k) (symbol_named (variables_of (map entry es)) k) x (agree_all es k) q)) (sym f)

pub found_none : (es : List Entry) (own : List Named) (k : List ℕ) → map entry es ≡ own → None ≡ denoted_in own k → None ≡ symbol_named (variables_of own) k
found_none es own k e f =
    let P : List Named → Type 0 = λ z. denoted_in z k ≡ None → None ≡ symbol_named (variables_of z) k in
    subst P e (λ q. sym (agree_none (denoted_in (map entry es) k) (symbol_named (variables_of (map entry es)) k) (agree_all es k) q)) (sym f)

-- one name more
pub named_more : (xs : List Symbol) (x : Name) (rest : List Name) → symbols_named xs (x ∷ rest) ≡ maybe_named xs x ++ symbols_named xs rest
named_more xs x rest = more_cases (symbol_named xs x.text) (symbols_named xs rest)

-- a turn of a loop that puts lists behind one another
pub turn_listed : {X Y : Type 0} (one : X → List Y) (all : List X → List Y) (more : (x : X) (xs : List X) → all (x ∷ xs) ≡ one x ++ all xs) (xs : List X) (i : ℕ) (x : X) (ys zs end : List Y)
    → drop i xs ≡ x ∷ drop (i + 1) xs → zs ≡ ys ++ one x → ys ++ all (drop i xs) ≡ end → zs ++ all (drop (i + 1) xs) ≡ end
turn_listed one all more xs i x ys zs end d e h =
    ap (λ k. k ++ all (drop (i + 1) xs)) e ∙ append_assoc ys (one x) (all (drop (i + 1) xs)) ∙ ap (λ k. ys ++ k) (sym (ap all d ∙ more x (drop (i + 1) xs))) ∙ h
