-- The bytes of a mask that is written as a PGM file (document 02, change 4: 'Write a mask as a raw Netpbm PGM').
-- Definitions only.
use Rattle.std.specs.Prelude.{ℕ, ◌+◌, ◌/◌, ◌%◌, ◌<◌, cond, List, [], ◌∷◌, ◌++◌, ltb}
use Rattle.cells.specs.declared.Size.{Size}

-- 'A mask that has cells'
abbrev pub HasCells : Size → Type 0
HasCells size = (0 < size.width) × (0 < size.height)

-- a number's digit at a unit, in ASCII, where the number reaches the unit: no leading zero is written
unfoldable pub place : ℕ → ℕ → List ℕ
place unit n = cond (ltb n unit) [] ((48 + n / unit % 10) ∷ [])

-- the digits of a number from 1 to 9,999 (that they spell it, and that the first is not 0: `Decimals` of pgm/specs/Laws.antt)
unfoldable pub decimal : ℕ → List ℕ
unfolding place
decimal n = place 1000 n ++ (place 100 n ++ (place 10 n ++ place 1 n))

-- '"P5", line feed'
abbrev pub opening : List ℕ
opening = 80 ∷ 53 ∷ 10 ∷ []

-- 'one blank'
abbrev pub blank : List ℕ
blank = 32 ∷ []

-- 'line feed, "255", line feed'
abbrev pub closing : List ℕ
closing = 10 ∷ 50 ∷ 53 ∷ 53 ∷ 10 ∷ []

-- '"P5", line feed, width, one blank, height, line feed, "255", line feed'
unfoldable pub header_text : Size → List ℕ
unfolding decimal
header_text size = opening ++ (decimal size.width ++ (blank ++ (decimal size.height ++ closing)))

-- '.. then the cells'
abbrev pub pgm_of : Size → List ℕ → List ℕ
pgm_of size cells = header_text size ++ cells
