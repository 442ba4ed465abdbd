-- Whether the cells that an access names are a section that an access can have (ISO/IEC 1539-1:2018, 9.5.3.3).
use Rattle.std.specs.Prelude.{ℤ, pos, negsuc, Bool, false, ◌&&◌, nat_le, nat_lt, length}
use Rattle.std.specs.List.{list_all}
use Rattle.caf_base.specs.declared.span.Span.{Span}
use Rattle.caf_base.specs.Spans.{offsets_of}

-- the offset is one that a coarray can have
abbrev pub is_cell_offset : ℤ → Bool
is_cell_offset (pos k) = nat_lt k 65536
is_cell_offset (negsuc k) = false

-- no dimension of one cell, at most 4,096 cells, each within a coarray's greatest size
abbrev pub is_span : Span → Bool
is_span s = list_all (λ d. nat_le 2 d.0) s.dims && (nat_le (length (offsets_of s)) 4096 && list_all is_cell_offset (offsets_of s))
