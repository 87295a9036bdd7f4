-- The worked cell of docs/BOUND.md: one triangle on a mask 4 by 4. Its bytes, and of the cell in column 2 of row 2 the
-- exact share and the allowed difference. `proofs/Example.antt` has an element of `WorkedCell`, by computation.
use Rattle.std.specs.Prelude.{◌≡◌, List, [], ◌∷◌, ℤ, pos}
use Rattle.std.proofs.Common.{zero-lt-suc}
use Rattle.fraction.specs.Whole.{natʷ}
use Rattle.fraction.specs.Fraction.{◌≈ᶠ◌, ◌/2^◌}
use Rattle.word_list.specs.Words.{groups_of}
use Rattle.winding.specs.Drawn.{drawn_share, allowed_difference}
use Rattle.cells.specs.declared.Size.{Size}
use Rattle.coverage.specs.Drawing.{drawing_of}

abbrev pub square : Size
square = record { width = 4; height = 4 }

abbrev pub triangle : List ℤ
triangle = pos 0 ∷ pos 1 ∷ pos 3 ∷ pos 128 ∷ pos 64 ∷ pos 960 ∷ pos 384 ∷ pos 256 ∷ pos 896 ∷ []

pub record WorkedCell : Type 0 where
  -- what the engine draws, row by row
  pub bytes : drawing_of square (groups_of triangle) ≡ 72 ∷ 93 ∷ 10 ∷ 0 ∷ 78 ∷ 255 ∷ 240 ∷ 79 ∷ 39 ∷ 246 ∷ 104 ∷ 0 ∷ 5 ∷ 44 ∷ 0 ∷ 0 ∷ []
  -- 9/22
  pub share : drawn_share (groups_of triangle) 2 2 ≈ᶠ record { num = natʷ 9; den = 22; pos = zero-lt-suc 21 }
  -- two edges and a group
  pub difference : allowed_difference (groups_of triangle) 2 ≈ᶠ 5 /2^ 1
