-- Statuses (ISO/IEC 1539-1:2018, 11.6.11) and limits, as numbers.
use Rattle.std.specs.Prelude.{ℕ, ℤ, pos, negsuc}

abbrev pub stopped_image : ℤ
stopped_image = pos 6000

abbrev pub failed_image : ℤ
failed_image = pos 6001

abbrev pub unlocked_failed_image : ℤ
unlocked_failed_image = pos 6002

abbrev pub bad_argument : ℤ
bad_argument = pos 6006

-- what stands in the place of a status where the coarray isn't there, and where an atomic action's result leaves its
-- kind
abbrev pub absent : ℤ
absent = negsuc 0

abbrev pub overflowed : ℤ
overflowed = negsuc 1

-- the most evaluation cells, local cells and coarray cells of an image
abbrev pub most_cells : ℕ
most_cells = 65536

-- the most cells of one access, and the most frames
abbrev pub most_access_cells : ℕ
most_access_cells = 4096

abbrev pub most_frames : ℕ
most_frames = 256

-- the most teams that are current one in another: CHANGE TEAM stands 64 levels deep at most in each of 257 bodies
abbrev pub most_teams : ℕ
most_teams = 32768

-- The most portions of the texts that are begun. Values have as many evaluation cells at most, which are 65,536;
-- literals are one portion where no value stands between them, so there is one beside each value and one more in each
-- text; and a text is begun at most in each of 257 bodies.
abbrev pub most_portions : ℕ
most_portions = 131329

-- The most elements of the array values that are being evaluated: 65,536 are counted at most; a return, a load or a
-- reply puts down as many before they are counted, one of them at a time; six bounds stand for each of 64 levels in 257
-- bodies (98,688), and the 256 images of a SYNC IMAGES (*) in each of these bodies (65,792), with a reply's 257 more.
abbrev pub most_elements : ℕ
most_elements = 524288

-- the greatest iteration count that is kept: no run comes to it
abbrev pub most_iterations : ℕ
most_iterations = 9223372036854775807
