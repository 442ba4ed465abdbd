-- Files that the grammar reads, and trees that it doesn't have for their tokens, worked out by hand; `;` ends a
-- statement. Behind `/` stands what isn't a word of the tree.
use Rattle.std.proofs.Common.{◌≡◌, ℕ, true, false, List, [], ◌∷◌, refl, codes, Some, None}
use Rattle.caf_base.specs.declared.place.Pos.{Pos}
use Rattle.fortran_tree.specs.declared.name.Name.{Name}
use Rattle.fortran_tree.specs.declared.expr.NumberKind.TheVariants as kinds
use Rattle.fortran_tree.specs.declared.unit.ModuleNature.TheVariants as natures
use Rattle.fortran_tree.specs.declared.unit.Recursion.TheVariants as recursions
use Rattle.fortran_tree.specs.Expressions as f
use Rattle.fortran_tree.specs.Statements as s
use Rattle.fortran_tree.specs.Units as u
use Rattle.unit_tree.specs.Files as files
use Rattle.fortran_grammar.specs.Acceptance.{spelled}
use Rattle.fortran_grammar.specs.FileGrammar.{unit_file}
use Rattle.fortran_grammar.proofs.Trying.{cut}

abbrev p : ℕ → ℕ → Pos
p l c = record { line = l; col = c }

abbrev n : List ℕ → ℕ → ℕ → Name
n x l c = record { text = x; at = p l c }

-- end ;
shortest : spelled (unit_file (record { modules = ([]); main = record { name = None; uses = ([]); body = (record { implicit_none = None; declarations = ([]); statements = s.no_statements }); procedures = None; end = record { name = None; at = (p 1 1) } } })) 64 (cut (codes "end ;")) ≡ true
shortest = refl

-- module m ; end ; end ;
empty_module : spelled (unit_file (record { modules = ((record { name = (n (codes "m") 1 8); uses = ([]); implicit_none = None; declarations = ([]); procedures = None; end = record { name = None; at = (p 1 12) }; at = (p 1 1) }) ∷ []); main = record { name = None; uses = ([]); body = (record { implicit_none = None; declarations = ([]); statements = s.no_statements }); procedures = None; end = record { name = None; at = (p 1 18) } } })) 64 (cut (codes "module m ; end ; end ;")) ≡ true
empty_module = refl

-- module m ; end module ; end ;
end_module : spelled (unit_file (record { modules = ((record { name = (n (codes "m") 1 8); uses = ([]); implicit_none = None; declarations = ([]); procedures = None; end = record { name = None; at = (p 1 12) }; at = (p 1 1) }) ∷ []); main = record { name = None; uses = ([]); body = (record { implicit_none = None; declarations = ([]); statements = s.no_statements }); procedures = None; end = record { name = None; at = (p 1 25) } } })) 64 (cut (codes "module m ; end module ; end ;")) ≡ true
end_module = refl

-- module m ; endmodule m ; end ;
end_in_one_word : spelled (unit_file (record { modules = ((record { name = (n (codes "m") 1 8); uses = ([]); implicit_none = None; declarations = ([]); procedures = None; end = record { name = (Some (n (codes "m") 1 22)); at = (p 1 12) }; at = (p 1 1) }) ∷ []); main = record { name = None; uses = ([]); body = (record { implicit_none = None; declarations = ([]); statements = s.no_statements }); procedures = None; end = record { name = None; at = (p 1 26) } } })) 64 (cut (codes "module m ; endmodule m ; end ;")) ≡ true
end_in_one_word = refl

-- module m ; contains ; end module m ; end ;
contains_nothing : spelled (unit_file (record { modules = ((record { name = (n (codes "m") 1 8); uses = ([]); implicit_none = None; declarations = ([]); procedures = (Some ([])); end = record { name = (Some (n (codes "m") 1 34)); at = (p 1 23) }; at = (p 1 1) }) ∷ []); main = record { name = None; uses = ([]); body = (record { implicit_none = None; declarations = ([]); statements = s.no_statements }); procedures = None; end = record { name = None; at = (p 1 38) } } })) 64 (cut (codes "module m ; contains ; end module m ; end ;")) ≡ true
contains_nothing = refl

-- module m ; integer :: x [ * ] ; logical :: y ; end module ; end ;
declarations : spelled (unit_file (record { modules = ((record { name = (n (codes "m") 1 8); uses = ([]); implicit_none = None; declarations = ((record { type_spec = (s.integer None); attributes = ([]); entities = ((record { name = (n (codes "x") 1 23); dimensions = ([]); coshape = (Some (s.explicit_coshape ([]) None)); initial = None }) ∷ []); at = (p 1 12) }) ∷ (record { type_spec = (s.logical None); attributes = ([]); entities = ((record { name = (n (codes "y") 1 44); dimensions = ([]); coshape = None; initial = None }) ∷ []); at = (p 1 33) }) ∷ []); procedures = None; end = record { name = None; at = (p 1 48) }; at = (p 1 1) }) ∷ []); main = record { name = None; uses = ([]); body = (record { implicit_none = None; declarations = ([]); statements = s.no_statements }); procedures = None; end = record { name = None; at = (p 1 61) } } })) 64 (cut (codes "module m ; integer :: x [ * ] ; logical :: y ; end module ; end ;")) ≡ true
declarations = refl

-- module m ; contains ; subroutine s ( ) ; end subroutine s ; integer function f ( ) ; f = 1 ; end function ; end
-- module ; program p ; call s ( ) ; end program p ;
procedures : spelled (unit_file (record { modules = ((record { name = (n (codes "m") 1 8); uses = ([]); implicit_none = None; declarations = ([]); procedures = (Some ((record { heading = (u.subroutine recursions.Unstated (n (codes "s") 1 34) (Some ([]))); body = (record { implicit_none = None; declarations = ([]); statements = s.no_statements }); end = record { name = (Some (n (codes "s") 1 57)); at = (p 1 42) }; at = (p 1 23) }) ∷ (record { heading = (u.function ((u.result_type (s.integer None)) ∷ []) (n (codes "f") 1 78) ([]) None); body = (record { implicit_none = None; declarations = ([]); statements = (s.more_statements (s.action (s.assignment (f.part_ref (n (codes "f") 1 86) f.no_section_subscripts f.no_image_selector) (f.number 1 kinds.Unstated (p 1 90))) (p 1 86)) s.no_statements) }); end = record { name = None; at = (p 1 94) }; at = (p 1 61) }) ∷ [])); end = record { name = None; at = (p 1 109) }; at = (p 1 1) }) ∷ []); main = record { name = (Some (n (codes "p") 1 130)); uses = ([]); body = (record { implicit_none = None; declarations = ([]); statements = (s.more_statements (s.action (s.call (n (codes "s") 1 139) (Some f.no_arguments)) (p 1 134)) s.no_statements) }); procedures = None; end = record { name = (Some (n (codes "p") 1 159)); at = (p 1 147) } } })) 64 (cut (codes "module m ; contains ; subroutine s ( ) ; end subroutine s ; integer function f ( ) ; f = 1 ; end function ; end module ; program p ; call s ( ) ; end program p ;")) ≡ true
procedures = refl

-- module m ; use a ; use :: b , only : ; use , intrinsic :: c , only : x , y => z ; end ; use m , i => j , k => l ; end
-- ;
uses : spelled (unit_file (record { modules = ((record { name = (n (codes "m") 1 8); uses = ((record { nature = natures.Unstated; module_name = (n (codes "a") 1 16); list = (files.all_but ([])); at = (p 1 12) }) ∷ (record { nature = natures.Unstated; module_name = (n (codes "b") 1 27); list = (files.only ([])); at = (p 1 20) }) ∷ (record { nature = natures.Intrinsic; module_name = (n (codes "c") 1 59); list = (files.only ((files.named (n (codes "x") 1 70)) ∷ (files.renamed (record { local = (n (codes "y") 1 74); entity = (n (codes "z") 1 79) })) ∷ [])); at = (p 1 40) }) ∷ []); implicit_none = None; declarations = ([]); procedures = None; end = record { name = None; at = (p 1 83) }; at = (p 1 1) }) ∷ []); main = record { name = None; uses = ((record { nature = natures.Unstated; module_name = (n (codes "m") 1 93); list = (files.all_but ((record { local = (n (codes "i") 1 97); entity = (n (codes "j") 1 102) }) ∷ (record { local = (n (codes "k") 1 106); entity = (n (codes "l") 1 111) }) ∷ [])); at = (p 1 89) }) ∷ []); body = (record { implicit_none = None; declarations = ([]); statements = s.no_statements }); procedures = None; end = record { name = None; at = (p 1 115) } } })) 64 (cut (codes "module m ; use a ; use :: b , only : ; use , intrinsic :: c , only : x , y => z ; end ; use m , i => j , k => l ; end ;")) ≡ true
uses = refl

-- use m , only => x ; end ;
only_is_a_name : spelled (unit_file (record { modules = ([]); main = record { name = None; uses = ((record { nature = natures.Unstated; module_name = (n (codes "m") 1 5); list = (files.all_but ((record { local = (n (codes "only") 1 9); entity = (n (codes "x") 1 17) }) ∷ [])); at = (p 1 1) }) ∷ []); body = (record { implicit_none = None; declarations = ([]); statements = s.no_statements }); procedures = None; end = record { name = None; at = (p 1 21) } } })) 64 (cut (codes "use m , only => x ; end ;")) ≡ true
only_is_a_name = refl

-- module a ; end ; module b ; use a ; end ; use b ; x = 1 ; end ;
two_modules : spelled (unit_file (record { modules = ((record { name = (n (codes "a") 1 8); uses = ([]); implicit_none = None; declarations = ([]); procedures = None; end = record { name = None; at = (p 1 12) }; at = (p 1 1) }) ∷ (record { name = (n (codes "b") 1 25); uses = ((record { nature = natures.Unstated; module_name = (n (codes "a") 1 33); list = (files.all_but ([])); at = (p 1 29) }) ∷ []); implicit_none = None; declarations = ([]); procedures = None; end = record { name = None; at = (p 1 37) }; at = (p 1 18) }) ∷ []); main = record { name = None; uses = ((record { nature = natures.Unstated; module_name = (n (codes "b") 1 47); list = (files.all_but ([])); at = (p 1 43) }) ∷ []); body = (record { implicit_none = None; declarations = ([]); statements = (s.more_statements (s.action (s.assignment (f.part_ref (n (codes "x") 1 51) f.no_section_subscripts f.no_image_selector) (f.number 1 kinds.Unstated (p 1 55))) (p 1 51)) s.no_statements) }); procedures = None; end = record { name = None; at = (p 1 59) } } })) 64 (cut (codes "module a ; end ; module b ; use a ; end ; use b ; x = 1 ; end ;")) ≡ true
two_modules = refl

-- use m , a => b ; end ; / use m , a = > b ; end ;
arrow_is_one_token : spelled (unit_file (record { modules = ([]); main = record { name = None; uses = ((record { nature = natures.Unstated; module_name = (n (codes "m") 1 5); list = (files.all_but ((record { local = (n (codes "a") 1 9); entity = (n (codes "b") 1 14) }) ∷ [])); at = (p 1 1) }) ∷ []); body = (record { implicit_none = None; declarations = ([]); statements = s.no_statements }); procedures = None; end = record { name = None; at = (p 1 18) } } })) 64 (cut (codes "use m , a = > b ; end ;")) ≡ false
arrow_is_one_token = refl

-- use m , a => b ; end ; / use m , b => a ; end ;
names_stay_in_their_order : spelled (unit_file (record { modules = ([]); main = record { name = None; uses = ((record { nature = natures.Unstated; module_name = (n (codes "m") 1 5); list = (files.all_but ((record { local = (n (codes "a") 1 9); entity = (n (codes "b") 1 14) }) ∷ [])); at = (p 1 1) }) ∷ []); body = (record { implicit_none = None; declarations = ([]); statements = s.no_statements }); procedures = None; end = record { name = None; at = (p 1 18) } } })) 64 (cut (codes "use m , b => a ; end ;")) ≡ false
names_stay_in_their_order = refl

-- use m , only : ; end ; / use m ; end ;
only_isnt_forgotten : spelled (unit_file (record { modules = ([]); main = record { name = None; uses = ((record { nature = natures.Unstated; module_name = (n (codes "m") 1 5); list = (files.only ([])); at = (p 1 1) }) ∷ []); body = (record { implicit_none = None; declarations = ([]); statements = s.no_statements }); procedures = None; end = record { name = None; at = (p 1 18) } } })) 64 (cut (codes "use m ; end ;")) ≡ false
only_isnt_forgotten = refl

-- use m , a => b ; end ; / use m , only : a => b ; end ;
renames_arent_only : spelled (unit_file (record { modules = ([]); main = record { name = None; uses = ((record { nature = natures.Unstated; module_name = (n (codes "m") 1 5); list = (files.all_but ((record { local = (n (codes "a") 1 9); entity = (n (codes "b") 1 14) }) ∷ [])); at = (p 1 1) }) ∷ []); body = (record { implicit_none = None; declarations = ([]); statements = s.no_statements }); procedures = None; end = record { name = None; at = (p 1 18) } } })) 64 (cut (codes "use m , only : a => b ; end ;")) ≡ false
renames_arent_only = refl

-- module m ; end ; end ; / end ;
no_module_forgotten : spelled (unit_file (record { modules = ((record { name = (n (codes "m") 1 8); uses = ([]); implicit_none = None; declarations = ([]); procedures = None; end = record { name = None; at = (p 1 12) }; at = (p 1 1) }) ∷ []); main = record { name = None; uses = ([]); body = (record { implicit_none = None; declarations = ([]); statements = s.no_statements }); procedures = None; end = record { name = None; at = (p 1 18) } } })) 64 (cut (codes "end ;")) ≡ false
no_module_forgotten = refl

-- module m ; end module m ; end ; / module m ; end module ; end ;
name_behind_end : spelled (unit_file (record { modules = ((record { name = (n (codes "m") 1 8); uses = ([]); implicit_none = None; declarations = ([]); procedures = None; end = record { name = (Some (n (codes "m") 1 23)); at = (p 1 12) }; at = (p 1 1) }) ∷ []); main = record { name = None; uses = ([]); body = (record { implicit_none = None; declarations = ([]); statements = s.no_statements }); procedures = None; end = record { name = None; at = (p 1 27) } } })) 64 (cut (codes "module m ; end module ; end ;")) ≡ false
name_behind_end = refl

-- module m ; end module m ; end ; / module m ; end m ; end ;
name_needs_its_word : spelled (unit_file (record { modules = ((record { name = (n (codes "m") 1 8); uses = ([]); implicit_none = None; declarations = ([]); procedures = None; end = record { name = (Some (n (codes "m") 1 23)); at = (p 1 12) }; at = (p 1 1) }) ∷ []); main = record { name = None; uses = ([]); body = (record { implicit_none = None; declarations = ([]); statements = s.no_statements }); procedures = None; end = record { name = None; at = (p 1 27) } } })) 64 (cut (codes "module m ; end m ; end ;")) ≡ false
name_needs_its_word = refl

-- module m ; implicit none ; end ; end ;
implicit_none : spelled (unit_file (record { modules = ((record { name = (n (codes "m") 1 8); uses = ([]); implicit_none = (Some (p 1 12)); declarations = ([]); procedures = None; end = record { name = None; at = (p 1 28) }; at = (p 1 1) }) ∷ []); main = record { name = None; uses = ([]); body = (record { implicit_none = None; declarations = ([]); statements = s.no_statements }); procedures = None; end = record { name = None; at = (p 1 34) } } })) 64 (cut (codes "module m ; implicit none ; end ; end ;")) ≡ true
implicit_none = refl

-- module m ; contains ; subroutine s ; end ; end ; end ; where no level may be open
modules_are_no_levels : spelled (unit_file (record { modules = ((record { name = (n (codes "m") 1 8); uses = ([]); implicit_none = None; declarations = ([]); procedures = (Some ((record { heading = (u.subroutine recursions.Unstated (n (codes "s") 1 34) None); body = (record { implicit_none = None; declarations = ([]); statements = s.no_statements }); end = record { name = None; at = (p 1 38) }; at = (p 1 23) }) ∷ [])); end = record { name = None; at = (p 1 44) }; at = (p 1 1) }) ∷ []); main = record { name = None; uses = ([]); body = (record { implicit_none = None; declarations = ([]); statements = s.no_statements }); procedures = None; end = record { name = None; at = (p 1 50) } } })) 0 (cut (codes "module m ; contains ; subroutine s ; end ; end ; end ;")) ≡ true
modules_are_no_levels = refl

-- module m ; end module ; end ; / module m ; end program ; end ;
end_has_the_word_of_its_unit : spelled (unit_file (record { modules = ((record { name = (n (codes "m") 1 8); uses = ([]); implicit_none = None; declarations = ([]); procedures = None; end = record { name = None; at = (p 1 12) }; at = (p 1 1) }) ∷ []); main = record { name = None; uses = ([]); body = (record { implicit_none = None; declarations = ([]); statements = s.no_statements }); procedures = None; end = record { name = None; at = (p 1 26) } } })) 64 (cut (codes "module m ; end program ; end ;")) ≡ false
end_has_the_word_of_its_unit = refl

-- module m ; end ; end ; / end ; module m ; end ;
modules_stand_first : spelled (unit_file (record { modules = ((record { name = (n (codes "m") 1 14); uses = ([]); implicit_none = None; declarations = ([]); procedures = None; end = record { name = None; at = (p 1 18) }; at = (p 1 7) }) ∷ []); main = record { name = None; uses = ([]); body = (record { implicit_none = None; declarations = ([]); statements = s.no_statements }); procedures = None; end = record { name = None; at = (p 1 1) } } })) 64 (cut (codes "end ; module m ; end ;")) ≡ false
modules_stand_first = refl

-- module m ; end ; end ; / module m ; end ;
a_program_follows : spelled (unit_file (record { modules = ((record { name = (n (codes "m") 1 8); uses = ([]); implicit_none = None; declarations = ([]); procedures = None; end = record { name = None; at = (p 1 12) }; at = (p 1 1) }) ∷ []); main = record { name = None; uses = ([]); body = (record { implicit_none = None; declarations = ([]); statements = s.no_statements }); procedures = None; end = record { name = None; at = (p 1 12) } } })) 64 (cut (codes "module m ; end ;")) ≡ false
a_program_follows = refl
