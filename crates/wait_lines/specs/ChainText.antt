-- The lines that tell a chain of waits: one for each link with the image for which it waits, and the close.
use Rattle.std.specs.Prelude.{ℕ, pos, List, [], ◌∷◌, ◌++◌, codes}
use Rattle.caf_text.specs.Numbers.{decimal_text}
use Rattle.wait_reason.specs.Chains.{Close, post, stopped, cycle}

-- image i waits for image j
abbrev pub link_line : ℕ → ℕ → List ℕ
link_line i j = codes "why image " ++ decimal_text (pos i) ++ codes " waits for image " ++ decimal_text (pos j) ++ codes "\n"

-- the end of a chain of which image i is the last link: it waits for a post, for an image that has stopped, or for one
-- of the chain
abbrev pub close_text : ℕ → Close → List ℕ
close_text i post = codes "why image " ++ decimal_text (pos i) ++ codes " waits for a post\n"
close_text i (stopped j) = link_line i j ++ (codes "why image " ++ decimal_text (pos j) ++ codes " stopped\n")
close_text i (cycle j) = link_line i j ++ (codes "why cycle from image " ++ decimal_text (pos j) ++ codes "\n")

-- the lines from image i on, behind which the chain has these links
abbrev pub lines_from : ℕ → List ℕ → Close → List ℕ
lines_from i [] close = close_text i close
lines_from i (j ∷ js) close = link_line i j ++ lines_from j js close

-- the lines of a chain with these links
abbrev pub chain_text : List ℕ → Close → List ℕ
chain_text [] close = []
chain_text (i ∷ js) close = lines_from i js close
