use Rattle.std.proofs.Common.{◌≡◌, ◌<◌, ◌+◌, ℕ, List, true, Some, Vec, Global, length, drop, get_or, bytes_eq, cond, refl, sym, ap, ◌∙◌}
use Rattle.std.proofs.lemmas.List.{at_drop_more}
use Rattle.std.proofs.lemmas.Option.{slice_get_read}
use Rattle.caf_base.specs.Outside.{file_of}
use Rattle.caf_io.specs.Sources.{files_of, bytes_of, bytes_at}
use Rattle.caf_io.proofs.mem_source.MemSource.index_of.Goals as goal

-- from the index of a file of the name on, the first file of the name is that one
file_of-drop : (files : List (Vec ℕ Global × Vec ℕ Global)) (name : List ℕ) (i : ℕ) (f : Vec ℕ Global × Vec ℕ Global) → i < length files → f ≡ get_or files i f → bytes_eq f.0.items name ≡ true → file_of name (files_of (drop i files)) ≡ Some (bytes_at files i)
file_of-drop files name i f within is same =
    at_drop_more (λ fs. file_of name (files_of fs)) files i f within
    ∙ (ap (λ (g : Vec ℕ Global × Vec ℕ Global). cond (bytes_eq g.0.items name) (Some g.1.items) (file_of name (files_of (drop (i + 1) files)))) (sym is)
    ∙ (ap (λ b. cond b (Some f.1.items) (file_of name (files_of (drop (i + 1) files)))) same
    ∙ ap (λ g. Some (bytes_of g)) (sym (slice_get_read files (length files) i f refl within is))))

pub returns-then-eq : goal.returns-then-eq
returns-then-eq c = (
  c.loop-i-test.true,
  c.loop-i.invariant ∙ file_of-drop _ _ _ c.index-files-i.result c.loop-i-test.true c.index-files-i.is (ap (λ xs. bytes_eq xs c.args.name.now) (sym c.as_slice.ensures.value) ∙ sym c.if-eq.ensures),
)
