-- Procedures, one behind the other.
use Rattle.std.proofs.Common.{◌≡◌, ◌∙◌, ℕ, ◌+◌, List, [], ◌∷◌, ◌++◌, drop, refl, sym, ap}
use Rattle.std.specs.Prelude.{Option, Some, None, map}
use Rattle.std.proofs.lemmas.List.{append-nil, append_assoc, map-append}
use Rattle.checked_tree.specs.declared.data.Constant.{Constant}
use Rattle.fortran_tree.specs.Units as u
use Rattle.fortran_tree.specs.declared.name.Name.{Name}
use Rattle.rule_definitions.specs.declared.broken.Broken.{Broken}
use Rattle.rule_definitions.specs.Judgements.{first_of}
use Rattle.rule_definitions.specs.Names.{Interface, Named, Scope, Symbol, variables_of}
use Rattle.rule_definitions.specs.Units.{Headed, Opened, constants_behind, headed, interface_of, opened_breaks, opened_procedure, opened_procedures, symbol_named, symbols_named}
use Rattle.scope_table.proofs.First.{first_of_both}
use Rattle.scope_table.specs.Symbols.{interface}
use Rattle.scope_table.specs.declared.symbol.Interface.{Interface as InterfaceInMemory}
use Rattle.unit_scopes.specs.Openings.{closing, host_scope, interface_in, opened_told, result_in}
use Rattle.unit_scopes.specs.Scopes.{Passed, bare_scope, owning, passed, passed_of, passed_through, scope_of_opened}
use Rattle.unit_scopes.specs.Stepping.{step, with_opened}
use Rattle.unit_scopes.specs.Telling.{Told, grown_scope, told}
use Rattle.unit_scopes.specs.declared.grown.Grown.{Grown}
use Rattle.unit_scopes.specs.declared.program.Procedures.{Procedures}

pub steps : Scope → List u.Procedure → Passed → Passed
steps s [] k = k
steps s (x ∷ xs) k = steps s xs (step s x k)

abbrev parts : Option Broken → List Constant → List Scope → List Interface → Passed
parts o cs ss is = record { first = o; constants = cs; scopes = ss; interfaces = is }

-- procedures behind others
abbrev passed_behind : Scope → List Opened → Passed → Passed
passed_behind s os k = parts (first_of k.first (opened_breaks os)) (constants_behind s os) (k.scopes ++ map scope_of_opened os) (k.interfaces ++ map interface_of os)

abbrev with_constants : Scope → List Constant → Scope
with_constants s cs = record s { constants = cs }

constants_same : (s : Scope) (o : Opened) (os : List Opened) → constants_behind (with_constants s o.scope.constants) os ≡ constants_behind o.scope os
constants_same s o [] = refl
constants_same s o (x ∷ os) = refl

behind_one : (s : Scope) (o : Opened) (os : List Opened) (k : Passed) → passed_behind (with_constants s o.scope.constants) os (with_opened o k) ≡ passed_behind s (o ∷ os) k
behind_one s o os k =
    ap (λ z. parts z (constants_behind (with_constants s o.scope.constants) os) ((k.scopes ++ scope_of_opened o ∷ []) ++ map scope_of_opened os) ((k.interfaces ++ interface_of o ∷ []) ++ map interface_of os)) (sym (first_of_both k.first o.breaks (opened_breaks os)))
    ∙ ap (λ z. parts (first_of k.first (o.breaks ++ opened_breaks os)) z ((k.scopes ++ scope_of_opened o ∷ []) ++ map scope_of_opened os) ((k.interfaces ++ interface_of o ∷ []) ++ map interface_of os)) (constants_same s o os)
    ∙ ap (λ z. parts (first_of k.first (o.breaks ++ opened_breaks os)) (constants_behind o.scope os) z ((k.interfaces ++ interface_of o ∷ []) ++ map interface_of os)) (append_assoc k.scopes (scope_of_opened o ∷ []) (map scope_of_opened os))
    ∙ ap (parts (first_of k.first (o.breaks ++ opened_breaks os)) (constants_behind o.scope os) (k.scopes ++ (scope_of_opened o ∷ map scope_of_opened os))) (append_assoc k.interfaces (interface_of o ∷ []) (map interface_of os))

steps_behind : (s : Scope) (xs : List u.Procedure) (k : Passed) → steps s xs k ≡ passed_behind (with_constants s k.constants) (opened_procedures (with_constants s k.constants) xs) k
unfolding steps step
steps_behind s [] k =
    ap (λ z. parts k.first k.constants z k.interfaces) (sym (append-nil k.scopes)) ∙ ap (parts k.first k.constants (k.scopes ++ [])) (sym (append-nil k.interfaces))
steps_behind s (x ∷ xs) k =
    let o = opened_procedure (with_constants s k.constants) (headed x.heading) x in
    steps_behind s xs (with_opened o k) ∙ behind_one (with_constants s k.constants) o (opened_procedures (with_constants s o.scope.constants) xs) k

pub turn_steps : (s : Scope) (x : u.Procedure) (xs all : List u.Procedure) (k l end : Passed) → all ≡ x ∷ xs → l ≡ step s x k → steps s all k ≡ end → steps s xs l ≡ end
unfolding steps
turn_steps s x xs all k l end d e h = ap (steps s xs) e ∙ ap (λ z. steps s z k) (sym d) ∙ h

result_cases : (xs : List Symbol) (o : Option Name) → result_in xs o ≡ elim o [ None ↦ None | Some n ↦ symbol_named xs n.text ]
result_cases xs None = refl
result_cases xs (Some n) = refl

interface_is : (o : Opened) → interface_in o.headed o.scope.own ≡ interface_of o
interface_is o =
    let all : Option Symbol → Interface = λ r. record { name = o.headed.name.text; dummies = symbols_named (variables_of o.scope.own) o.headed.dummies; result = r } in
    ap all (result_cases (variables_of o.scope.own) o.headed.answer)

abbrev as_grown : Scope → Grown → Scope
as_grown s g = record s { own = g.own; constants = g.constants.items }

-- the next procedure
pub step_told : (t : Scope) (host : List Named) (x : u.Procedure) (q q' : Procedures) (g : Grown) (i : InterfaceInMemory)
    → told (closing t host) g ≡ opened_told (host_scope t host q.grown.constants.items) x q.grown.first → interface i ≡ interface_in (headed x.heading) g.own
    → q'.grown.first ≡ g.first → q'.grown.constants ≡ g.constants → q'.tables.items ≡ q.tables.items ++ g.own ∷ [] → q'.interfaces.items ≡ q.interfaces.items ++ i ∷ []
    → passed (closing t host) q' ≡ step (host_scope t host []) x (passed (closing t host) q)
unfolding passed step told grown_scope opened_told
step_told t host x q q' g i h hi f k ht hj =
    let c = closing t host in
    let o = opened_procedure (host_scope t host q.grown.constants.items) (headed x.heading) x in
    let e1 : g.first ≡ first_of q.grown.first o.breaks = ap (λ (z : Told). z.first) h in
    let e2 : as_grown c g ≡ o.scope = ap (λ (z : Told). z.scope) h in
    let e3 : q'.grown.constants.items ≡ o.scope.constants = ap (λ z. z.items) k ∙ ap (λ (z : Scope). z.constants) e2 in
    let e4 : map (owning c) q'.tables.items ≡ map (owning c) q.tables.items ++ scope_of_opened o ∷ [] =
    ap (map (owning c)) ht ∙ map-append (owning c) q.tables.items (g.own ∷ []) ∙ ap (λ z. map (owning c) q.tables.items ++ bare_scope z ∷ []) e2 in
    let e5 : map interface q'.interfaces.items ≡ map interface q.interfaces.items ++ interface_of o ∷ [] =
    ap (map interface) hj ∙ map-append interface q.interfaces.items (i ∷ [])
    ∙ ap (λ z. map interface q.interfaces.items ++ z ∷ []) (hi ∙ ap (λ (z : Scope). interface_in (headed x.heading) z.own) e2 ∙ interface_is o) in
    ap (λ z. parts z q'.grown.constants.items (map (owning c) q'.tables.items) (map interface q'.interfaces.items)) (f ∙ e1)
    ∙ ap (λ z. parts (first_of q.grown.first o.breaks) z (map (owning c) q'.tables.items) (map interface q'.interfaces.items)) e3
    ∙ ap (λ z. parts (first_of q.grown.first o.breaks) o.scope.constants z (map interface q'.interfaces.items)) e4
    ∙ ap (parts (first_of q.grown.first o.breaks) o.scope.constants (map (owning c) q.tables.items ++ scope_of_opened o ∷ [])) e5

pub steps_none : (s : Scope) (k : Passed) → steps s [] k ≡ k
unfolding steps
steps_none s k = refl

-- all procedures
pub steps_are : (t : Scope) (host : List Named) (xs : List u.Procedure) (q : Procedures) (cs : List Constant) (o : Option Broken) → q.grown.first ≡ o → q.grown.constants.items ≡ cs → q.tables.items ≡ [] → q.interfaces.items ≡ []
    → steps (host_scope t host []) xs (passed (closing t host) q) ≡ passed_through (host_scope t host cs) xs o
unfolding passed passed_through passed_of
steps_are t host xs q cs o f k ht hi =
    let c = closing t host in
    ap (λ z. steps (host_scope t host []) xs (parts z q.grown.constants.items (map (owning c) q.tables.items) (map interface q.interfaces.items))) f
    ∙ ap (λ z. steps (host_scope t host []) xs (parts o z (map (owning c) q.tables.items) (map interface q.interfaces.items))) k
    ∙ ap (λ z. steps (host_scope t host []) xs (parts o cs (map (owning c) z) (map interface q.interfaces.items))) ht
    ∙ ap (λ z. steps (host_scope t host []) xs (parts o cs [] (map interface z))) hi
    ∙ steps_behind (host_scope t host []) xs (parts o cs [] [])
