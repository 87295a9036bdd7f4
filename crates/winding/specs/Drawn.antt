-- What document 01's reckoner holds for a cell of a done drawing ('The reckoner', second item). Definitions only.
use Rattle.std.specs.Prelude.{List, [], ◌∷◌, cond, ℕ, ◌+◌}
use Rattle.fraction.specs.Fraction.{Fraction, natᶠ, ◌/2^◌, ◌+ᶠ◌, minᶠ}
use Rattle.word_list.specs.Words.{Group}
use Rattle.winding.specs.Winding.{ExactEdge, exact_edges, crosses, group_share}

-- 'A cell's share is the sum of its groups' shares, at most 1.'
unfoldable pub sum_of_shares : List Group → ℕ → ℕ → Fraction
unfolding ◌+ᶠ◌
sum_of_shares [] column row = natᶠ 0
sum_of_shares (g ∷ gs) column row = group_share g column row +ᶠ sum_of_shares gs column row

abbrev pub drawn_share : List Group → ℕ → ℕ → Fraction
drawn_share gs column row = minᶠ (sum_of_shares gs column row) (natᶠ 1)

-- 'Its allowed difference is 1 for each edge that crosses its row, plus a half for each group. Without groups both
-- are 0.'
abbrev pub crossings : List ExactEdge → ℕ → ℕ
crossings [] row = 0
crossings (e ∷ es) row = cond (crosses e row) 1 0 + crossings es row

unfoldable pub allowed_difference : List Group → ℕ → Fraction
unfolding ◌+ᶠ◌
allowed_difference [] row = natᶠ 0
allowed_difference (g ∷ gs) row = natᶠ (crossings (exact_edges g.contours) row) +ᶠ 1 /2^ 1 +ᶠ allowed_difference gs row
