-- What is known behind the parts of a procedure, one behind the other.
use Rattle.std.proofs.Common.{◌≡◌, ◌∙◌, ℕ, ◌+◌, Bool, true, false, List, [], ◌∷◌, ◌++◌, drop, length, refl, sym, ap, arith}
use Rattle.std.specs.Prelude.{Option, Some, None, cond, map}
use Rattle.std.proofs.lemmas.List.{length-append}
use Rattle.checked_tree.specs.declared.data.Constant.{Constant}
use Rattle.checked_tree.specs.declared.data.DataType.{DataType}
use Rattle.fortran_tree.specs.Statements as d
use Rattle.fortran_tree.specs.Units as u
use Rattle.fortran_tree.specs.DeclarationViews.{entity}
use Rattle.fortran_tree.specs.declared.declaration.Declaration.{Declaration}
use Rattle.fortran_tree.specs.declared.declaration.Entity.{Entity}
use Rattle.fortran_tree.specs.declared.name.Name.{Name}
use Rattle.rule_definitions.specs.declared.broken.Broken.{Broken}
use Rattle.rule_definitions.specs.Judgements.{first_of}
use Rattle.rule_definitions.specs.Names.{Interface, Named, Scope, variables_of}
use Rattle.rule_definitions.specs.Declarations.{Declared, Unit', declared_all, names_declared, names_of}
use Rattle.rule_definitions.specs.Units.{Headed, closed, first_type, headed, heading_breaks, hosted, is_typed, main_unit, opened, opened_procedure, text_of, typed_answer, unit_of, untyped_names, with_answer, with_dummies}
use Rattle.scope_table.proofs.First.{first_of_both}
use Rattle.scope_table.specs.Outside.{Outer}
use Rattle.scope_table.specs.Pending.{declared_names, entity_names}
use Rattle.unit_scopes.specs.Openings.{closing, host_scope, maybe_untyped, of_answer, of_dummies, opened_told, opening}
use Rattle.unit_scopes.specs.Scopes.{main_scope}
use Rattle.unit_scopes.specs.Telling.{Told, behind, grown_scope, of_all, told, told_parts}
use Rattle.unit_scopes.specs.declared.grown.Grown.{Grown}

abbrev with_own : Scope → List Named → Scope
with_own s own = record s { own = own }

abbrev as_grown : Scope → Grown → Scope
as_grown s g = record s { own = g.own; constants = g.constants.items }

length_names : (es : List Entity) → length (entity_names es) ≡ length es
length_names [] = refl
length_names (e ∷ es) = let h = length_names es in omega (arith, h)

pub turn_counted : (ds : List Declaration) (i : ℕ) (x : Declaration) (k m end : ℕ) → drop i ds ≡ x ∷ drop (i + 1) ds → m ≡ k + length x.entities.items
    → k + length (declared_names (drop i ds)) ≡ end → m + length (declared_names (drop (i + 1) ds)) ≡ end
turn_counted ds i x k m end d e h =
    let a : length (declared_names (drop i ds)) ≡ length (entity_names x.entities.items ++ declared_names (drop (i + 1) ds)) = ap (λ z. length (declared_names z)) d in
    let b : length (entity_names x.entities.items ++ declared_names (drop (i + 1) ds)) ≡ length (entity_names x.entities.items) + length (declared_names (drop (i + 1) ds)) = length-append (entity_names x.entities.items) (declared_names (drop (i + 1) ds)) in
    let c = length_names x.entities.items in
    omega (arith, a, b, c, e, h)

-- the dummy arguments
pub dummies_told : (p : Scope) (v : Unit') (ns : List Name) (g g' : Grown)
    → ((s : Scope) → g'.first ≡ first_of g.first (with_dummies v ns (with_own s g.own)).breaks) → ((s : Scope) → (with_dummies v ns (with_own s g.own)).scope ≡ with_own s g'.own)
    → g'.constants ≡ g.constants → told p g' ≡ behind (of_dummies v ns) (told p g)
unfolding told behind of_dummies grown_scope
dummies_told p v ns g g' f h k =
    ap (λ o. told_parts o (as_grown p g')) (f (as_grown p g)) ∙ ap (λ cs. told_parts (first_of g.first (with_dummies v ns (as_grown p g)).breaks) (record p { own = g'.own; constants = cs.items })) k
    ∙ ap (told_parts (first_of g.first (with_dummies v ns (as_grown p g)).breaks)) (sym (h (as_grown p g)))

answer_of : Bool → Scope → Headed → Scope → Declared
answer_of b host h s = cond b (record { breaks = []; scope = with_own s (s.own ++ typed_answer host h (length (variables_of s.own))) }) (maybe_untyped h.answer s)

answer_cases : (o : Option Name) (s : Scope) → elim o [ None ↦ record { breaks = []; scope = s } | Some x ↦ maybe_untyped (Some x) s ] ≡ maybe_untyped o s
answer_cases None s = refl
answer_cases (Some x) s = refl

answer_is : (host : Scope) (h : Headed) (s : Scope) → with_answer host h s ≡ answer_of (is_typed h) host h s
unfolding answer_of
answer_is host h s = ap (cond (is_typed h) (record { breaks = []; scope = with_own s (s.own ++ typed_answer host h (length (variables_of s.own))) })) (answer_cases h.answer s)

-- a result that the heading types
pub answer_typed : (p s : Scope) (h : Headed) (y : Option DataType) (g g' : Grown) → is_typed h ≡ true → y ≡ (first_type s h.types).meaning
    → ((t : Scope) → y ≡ (first_type t h.types).meaning → g'.own ≡ g.own ++ typed_answer t h (length (variables_of g.own)))
    → g'.first ≡ g.first → g'.constants ≡ g.constants → told p g' ≡ behind (of_answer s h) (told p g)
unfolding told behind of_answer grown_scope answer_of
answer_typed p s h y g g' b q e f k =
    ap (λ o. told_parts o (as_grown p g')) f
    ∙ ap (λ o. told_parts g.first (record p { own = o; constants = g'.constants.items })) (e s q)
    ∙ ap (λ cs. told_parts g.first (record p { own = g.own ++ typed_answer s h (length (variables_of g.own)); constants = cs.items })) k
    ∙ ap (λ v. told_parts (first_of g.first (answer_of v s h (as_grown p g)).breaks) (answer_of v s h (as_grown p g)).scope) (sym b)
    ∙ ap (λ (v : Declared). told_parts (first_of g.first v.breaks) v.scope) (sym (answer_is s h (as_grown p g)))

-- another result
pub answer_untyped : (p s : Scope) (h : Headed) (g g' : Grown) → is_typed h ≡ false
    → ((t : Scope) → g'.first ≡ first_of g.first (maybe_untyped h.answer (with_own t g.own)).breaks) → ((t : Scope) → (maybe_untyped h.answer (with_own t g.own)).scope ≡ with_own t g'.own)
    → g'.constants ≡ g.constants → told p g' ≡ behind (of_answer s h) (told p g)
unfolding told behind of_answer grown_scope answer_of
answer_untyped p s h g g' b f e k =
    let t = as_grown p g in
    ap (λ o. told_parts o (as_grown p g')) (f t)
    ∙ ap (λ cs. told_parts (first_of g.first (maybe_untyped h.answer t).breaks) (record p { own = g'.own; constants = cs.items })) k
    ∙ ap (told_parts (first_of g.first (maybe_untyped h.answer t).breaks)) (sym (e t))
    ∙ ap (λ v. told_parts (first_of g.first (answer_of v s h t).breaks) (answer_of v s h t).scope) (sym b)
    ∙ ap (λ (v : Declared). told_parts (first_of g.first v.breaks) v.scope) (sym (answer_is s h t))

abbrev seen_inside : Scope → List Named → List (List ℕ) → List Named → Grown → Told
seen_inside t host ps hs g = told_parts g.first (record t { own = g.own; pending = ps; host = hs ++ map hosted host; constants = g.constants.items })

-- the setting inside of a procedure
abbrev pub inside : Scope → List Named → List (List ℕ) → List Named → Scope
inside t host ps hs = record t { pending = ps; host = hs ++ map hosted host }

pub inside_told : (t r : Scope) (host : List Named) (cs : List Constant) (x : u.Procedure) (v : Unit') (g g' : Grown) (ps : List (List ℕ)) (hs : List Named)
    → r ≡ inside t host ps hs
    → ps ≡ names_declared x.body.declarations ++ (map text_of (headed x.heading).dummies ++ untyped_names (headed x.heading))
    → hs ≡ typed_answer (host_scope t host cs) (headed x.heading) (length (names_declared x.body.declarations))
    → told r g' ≡ behind (of_all v x.body.declarations) (told r g)
    → told (opening (host_scope t host cs) x) g' ≡ behind (of_all v x.body.declarations) (told (opening (host_scope t host cs) x) g)
unfolding told grown_scope opening
inside_told t r host cs x v g g' ps hs e p q h =
    let all = names_declared x.body.declarations ++ (map text_of (headed x.heading).dummies ++ untyped_names (headed x.heading)) in
    sym (ap (λ z. told_parts g'.first (as_grown z g')) e ∙ ap (λ z. seen_inside t host z hs g') p ∙ ap (λ w. seen_inside t host all w g') q) ∙ h
    ∙ ap (λ z. behind (of_all v x.body.declarations) (told_parts g.first (as_grown z g))) e
    ∙ ap (λ z. behind (of_all v x.body.declarations) (seen_inside t host z hs g)) p ∙ ap (λ w. behind (of_all v x.body.declarations) (seen_inside t host all w g)) q

abbrev chain : Scope → u.Procedure → Option Broken → Told
chain s x o =
    behind (of_answer s (headed x.heading)) (behind (of_dummies (unit_of (headed x.heading)) (headed x.heading).dummies) (behind (of_all (unit_of (headed x.heading)) x.body.declarations)
    (told_parts (first_of o (heading_breaks s (headed x.heading))) (opening s x))))

chain_told : (s : Scope) (x : u.Procedure) (o : Option Broken) → told_parts (chain s x o).first (closed s (chain s x o).scope) ≡ opened_told s x o
unfolding behind of_answer of_dummies of_all opening opened_told
chain_told s x o =
    let h = headed x.heading in
    let a = declared_all (unit_of h) x.body.declarations (opened s h x.body.declarations) in
    let b = with_dummies (unit_of h) h.dummies a.scope in
    let c = with_answer s h b.scope in
    let f = first_of o (heading_breaks s h) in
    ap (λ z. told_parts z (closed s c.scope))
    (sym (first_of_both o (heading_breaks s h) (a.breaks ++ (b.breaks ++ c.breaks)) ∙ first_of_both f a.breaks (b.breaks ++ c.breaks) ∙ first_of_both (first_of f a.breaks) b.breaks c.breaks))

-- a procedure: its heading, its declarations, its dummy arguments and its result
pub opened_whole : (t : Scope) (host : List Named) (x : u.Procedure) (v : Unit') (ns : List Name) (y : Option DataType) (g0 g1 g2 g3 g4 : Grown)
    → g0.own ≡ []
    → g1 ≡ record g0 { first = first_of g0.first (heading_breaks (host_scope t host g0.constants.items) (headed x.heading)) }
    → v ≡ unit_of (headed x.heading) → ns ≡ (headed x.heading).dummies → y ≡ (first_type (host_scope t host g0.constants.items) (headed x.heading).types).meaning
    → ((cs : List Constant) → y ≡ (first_type (host_scope t host cs) (headed x.heading).types).meaning
    → told (opening (host_scope t host cs) x) g2 ≡ behind (of_all v x.body.declarations) (told (opening (host_scope t host cs) x) g1))
    → ((p : Scope) → told p g3 ≡ behind (of_dummies v ns) (told p g2))
    → ((p s : Scope) → y ≡ (first_type s (headed x.heading).types).meaning → told p g4 ≡ behind (of_answer s (headed x.heading)) (told p g3))
    → told (closing t host) g4 ≡ opened_told (host_scope t host g0.constants.items) x g0.first
unfolding told grown_scope opening
opened_whole t host x v ns y g0 g1 g2 g3 g4 e0 e1 ev en ey h2 h3 h4 =
    let h = headed x.heading in
    let s = host_scope t host g0.constants.items in
    let q = opening s x in
    let f = first_of g0.first (heading_breaks s h) in
    let k1 : told q g1 ≡ told_parts f q = ap (λ (z : Grown). told_parts z.first (as_grown q z)) e1 ∙ ap (λ o. told_parts f (record q { own = o; constants = g0.constants.items })) e0 in
    let k4 : told q g4 ≡ chain s x g0.first =
    h4 q s ey ∙ ap (behind (of_answer s h)) (h3 q ∙ ap (λ z. behind (of_dummies z ns) (told q g2)) ev ∙ ap (λ z. behind (of_dummies (unit_of h) z) (told q g2)) en
    ∙ ap (behind (of_dummies (unit_of h) h.dummies)) (h2 g0.constants.items ey ∙ ap (λ z. behind (of_all z x.body.declarations) (told q g1)) ev ∙ ap (behind (of_all (unit_of h) x.body.declarations)) k1)) in
    ap (λ (k : Told). told_parts k.first (closed s k.scope)) k4 ∙ chain_told s x g0.first

abbrev main_parts : Outer → List Interface → List (List ℕ) → Grown → Told
main_parts o is ps g = told_parts g.first (as_grown (main_scope o is ps) g)

abbrev main_start : Outer → List Interface → List (List ℕ) → Option Broken → List Named → List Constant → Told
main_start o is ps f own cs = told_parts f (record (main_scope o is ps) { own = own; constants = cs })

-- a main program
pub main_told : (o : Outer) (is : List Interface) (ds : List d.Declaration) (r : Scope) (v : Unit') (ps : List (List ℕ)) (g0 g : Grown) → r ≡ main_scope o is ps → ps ≡ names_declared ds → v ≡ main_unit
    → g0.first ≡ None → g0.own ≡ [] → g0.constants.items ≡ [] → told r g ≡ behind (of_all v ds) (told r g0)
    → told (main_scope o is (names_declared ds)) g ≡ behind (of_all main_unit ds) (told_parts None (main_scope o is (names_declared ds)))
unfolding told grown_scope
main_told o is ds r v ps g0 g e p w f n k h =
    let all = names_declared ds in
    sym (ap (λ z. told_parts g.first (as_grown z g)) e ∙ ap (λ z. main_parts o is z g) p) ∙ h
    ∙ ap (λ z. behind (of_all z ds) (told r g0)) w
    ∙ ap (λ z. behind (of_all main_unit ds) (told_parts g0.first (as_grown z g0))) e
    ∙ ap (λ z. behind (of_all main_unit ds) (main_parts o is z g0)) p
    ∙ ap (λ z. behind (of_all main_unit ds) (main_start o is all z g0.own g0.constants.items)) f
    ∙ ap (λ z. behind (of_all main_unit ds) (main_start o is all None z g0.constants.items)) n
    ∙ ap (λ z. behind (of_all main_unit ds) (main_start o is all None [] z)) k

pub append_none : {T : Type 0} (xs : List T) → xs ++ [] ≡ xs
append_none [] = refl
append_none (x ∷ xs) = ap (λ k. x ∷ k) (append_none xs)
