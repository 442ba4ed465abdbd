-- Parts that ask for no lock and for no event, and read what may be read alone, as they are put together.
use Rattle.std.proofs.Common.{◌≡◌, ℕ, ◌+◌, Bool, true, false, cond}
use Rattle.walk_theory.specs.Syntax.{Parts, end_parts, value, act, enter, either}
use Rattle.image_acts.specs.Acts as a
use Rattle.image_acts.specs.Acts.{Act, bounded, allocation, selector, ask}
use Rattle.image_acts.specs.Places.{place_size, digits, triplets}
use Rattle.image_acts.specs.Operate.Allocating.{cobounds_size}
use Rattle.cell_walks.proofs.Acts.{IsFree}
use Rattle.cell_walks.proofs.References.{reading, lifting}
use Rattle.cell_walks.proofs.Levels.{Rises, IsQuiet, ends, values, does, makes, frees, enters, chooses, reads_own, reads_of}

pub record Safe (readable : ℕ → Bool) (p : Parts Act) : Type 0 where
  pub quiet : IsQuiet readable p

pub no_parts : {readable : ℕ → Bool} → Safe readable end_parts
no_parts = record { quiet = ends }

pub acts : {readable : ℕ → Bool} {x : Act} {q : Parts Act} → IsFree x → Safe readable q → Safe readable (act x q)
acts {x = x} {q = q} f h = record { quiet = does x q f h.quiet }

pub one : {readable : ℕ → Bool} {x : Act} → IsFree x → Safe readable (act x end_parts)
one f = acts f no_parts

pub both : {readable : ℕ → Bool} {p q : Parts Act} → Safe readable p → Safe readable q → Safe readable (value p q)
both {p = p} {q = q} h g = record { quiet = values p q h.quiet g.quiet }

pub fork : {readable : ℕ → Bool} {p q r : Parts Act} → Safe readable p → Safe readable q → Safe readable r → Safe readable (either p q r)
fork {p = p} {q = q} {r = r} h g j = record { quiet = chooses p q r h.quiet g.quiet j.quiet }

pub entering : {readable : ℕ → Bool} (k : ℕ) {q : Parts Act} → Safe readable q → Safe readable (enter k q)
entering k {q = q} h = record { quiet = enters k q h.quiet }

pub either_way : {readable : ℕ → Bool} (t : Bool) (p q : Parts Act) → Safe readable p → Safe readable q → Safe readable (cond t p q)
either_way true p q h g = h
either_way false p q h g = g

-- a coarray is allocated, or deallocated
pub making : {readable : ℕ → Bool} (k depth rank corank : ℕ) → Safe readable (act (ask (a.create k (depth + cobounds_size corank) rank)) (act (allocation (a.note_made k depth rank corank)) end_parts))
making k depth rank corank = record { quiet = makes k depth rank corank end_parts ends }

pub freeing : {readable : ℕ → Bool} (k : ℕ) → Safe readable (act (ask (a.delete k)) (act (allocation (a.note_freed k)) end_parts))
freeing k = record { quiet = frees k end_parts ends }

-- a coarray that may be read is read: this image's, or another one's that a selector names
pub own_read : {readable : ℕ → Bool} (k form rank : ℕ) {need q : Parts Act} → readable k ≡ true → triplets (digits form) ≡ rank → Safe readable need → Rises 0 need → Safe readable q
    → Safe readable (value (act (bounded (a.co_section k form)) end_parts) (value (act (selector (a.own_image rank)) end_parts) (value need (value (reading k rank) q))))
own_read k form rank {need = need} {q = q} v e h needs g = record { quiet = reads_own k form rank need q v e h.quiet needs g.quiet }

pub selected_read : {readable : ℕ → Bool} (k form rank corank stat : ℕ) {cs team place need q : Parts Act} → readable k ≡ true → triplets (digits form) ≡ rank → Safe readable cs → Rises corank cs → Safe readable team → Rises 1 team
    → Safe readable place → Rises stat place → Safe readable need → Rises 0 need → Safe readable q
    → Safe readable (value (act (bounded (a.co_section k form)) end_parts) (value (value cs (value team (value place (value (lifting stat (place_size rank + (corank + 1))) (act (selector (a.owner k rank corank)) end_parts))))) (value need (value (reading k rank) q))))
selected_read k form rank corank stat {cs = cs} {team = team} {place = place} {need = need} {q = q} v e h rise_cs i rise_team j rise_place l needs g =
    record { quiet = reads_of k form rank corank stat cs team place need q v e h.quiet rise_cs i.quiet rise_team j.quiet rise_place l.quiet needs g.quiet }
