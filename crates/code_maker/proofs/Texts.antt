-- The texts of a draft stay when code is written.
use Rattle.std.proofs.Common.{◌≡◌, ℕ, List, refl, sym, subst}
use Rattle.walk_theory.specs.Syntax.{Parts, Form, Steps}
use Rattle.walk_theory.specs.Code.{Line}
use Rattle.walk_theory.specs.Made.{Places, parts_code, steps_code, form_code}
use Rattle.image_acts.specs.Acts.{Act}
use Rattle.tree_meaning.specs.Environment.{Environment}
use Rattle.expr_code.specs.Drafts.{Body, counted, kept, Drafted, lines_in, body_with, body_with_lines, starts_of, with_line, with_lines, written}
use Rattle.expr_code.proofs.Lines.{written_code}
use Rattle.statement_code.specs.Texts.{AreTexts, HasTexts}
use Rattle.code_maker.specs.Blocks.{steps_written, form_written}
use Rattle.code_maker.proofs.Blocks.{steps_behind, form_made}

beside_one : (i : Line Act) (b : Body) (ts ls : List (List ℕ)) → AreTexts b ts ls → AreTexts (body_with i b) ts ls
beside_one i (counted n) ts ls h = tt
beside_one i (kept is) ts ls h = h

beside_more : (is : List (Line Act)) (b : Body) (ts ls : List (List ℕ)) → AreTexts b ts ls → AreTexts (body_with_lines is b) ts ls
beside_more is (counted n) ts ls h = tt
beside_more is (kept js) ts ls h = h

-- with a line more, with these lines more
texts_line : (e : Environment) (i : Line Act) (d : Drafted) → HasTexts e d → HasTexts e (with_line i d)
texts_line e i d h = beside_one i d.body d.tables.texts e.program.literals h

texts_lines : (e : Environment) (is : List (Line Act)) (d : Drafted) → HasTexts e d → HasTexts e (with_lines is d)
texts_lines e is d h = beside_more is d.body d.tables.texts e.program.literals h

texts_parts : (e : Environment) (l : ℕ) (p : Parts Act) (d : Drafted) → HasTexts e d → HasTexts e (written l p d)
texts_parts e l p d h = subst (λ (x : Drafted). HasTexts e x) (sym (written_code l p d)) (texts_lines e (parts_code (starts_of d) l p) d h)

texts_steps : (e : Environment) (xs : List Places) (b : Steps Act) (d : Drafted) → HasTexts e d → HasTexts e (steps_written xs b d)
texts_steps e xs b d h = subst (λ (x : Drafted). HasTexts e x) (sym (steps_behind xs b d)) (texts_lines e (steps_code (starts_of d) xs (lines_in d.body) b) d h)

-- the same of the literals of a program
pub literals_line : (ls : List (List ℕ)) (i : Line Act) (d : Drafted) → AreTexts d.body d.tables.texts ls → AreTexts (with_line i d).body (with_line i d).tables.texts ls
literals_line ls i d h = beside_one i d.body d.tables.texts ls h

pub literals_steps : (ls : List (List ℕ)) (xs : List Places) (b : Steps Act) (d : Drafted) → AreTexts d.body d.tables.texts ls → AreTexts (steps_written xs b d).body (steps_written xs b d).tables.texts ls
literals_steps ls xs b d h = subst (λ (x : Drafted). AreTexts x.body x.tables.texts ls) (sym (steps_behind xs b d)) (beside_more (steps_code (starts_of d) xs (lines_in d.body) b) d.body d.tables.texts ls h)

-- behind a line, behind parts, behind a block
pub texts_behind_line : (e : Environment) (i : Line Act) (d x : Drafted) → x ≡ with_line i d → HasTexts e d → HasTexts e x
texts_behind_line e i d x g h = subst (λ (y : Drafted). HasTexts e y) (sym g) (texts_line e i d h)

pub texts_behind_parts : (e : Environment) (l : ℕ) (p : Parts Act) (d x : Drafted) → x ≡ written l p d → HasTexts e d → HasTexts e x
texts_behind_parts e l p d x g h = subst (λ (y : Drafted). HasTexts e y) (sym g) (texts_parts e l p d h)

pub texts_behind_steps : (e : Environment) (xs : List Places) (b : Steps Act) (d x : Drafted) → x ≡ steps_written xs b d → HasTexts e d → HasTexts e x
texts_behind_steps e xs b d x g h = subst (λ (y : Drafted). HasTexts e y) (sym g) (texts_steps e xs b d h)

pub texts_behind_form : (e : Environment) (xs : List Places) (l : ℕ) (f : Form Act) (d x : Drafted) → x ≡ form_written xs l f d → HasTexts e d → HasTexts e x
texts_behind_form e xs l f d x g h =
    subst (λ (y : Drafted). HasTexts e y) (sym g)
    (subst (λ (y : Drafted). HasTexts e y) (sym (form_made xs l f d (lines_in d.body) refl)) (texts_lines e (form_code (starts_of d) xs (lines_in d.body) l f) d h))

pub ruleset laws = (texts_behind_line, texts_behind_parts, texts_behind_steps)
