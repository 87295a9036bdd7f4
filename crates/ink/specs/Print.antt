-- A print loop that sends only the stretches with ink (document 02, change 9). Definitions only.
use Rattle.std.specs.Prelude.{ℕ, zero, suc, ◌+◌, ◌*◌, ◌-◌, ◌≡◌, List, take, drop, replicate}
use Rattle.cells.specs.declared.Size.{Size}
use Rattle.cells.specs.Cells.{cells_of}
use Rattle.cells.specs.Over.{over}
use Rattle.ink.specs.declared.Stretch.{Stretch}
use Rattle.ink.specs.Ink.{line_at, stretch_at}

-- the bytes of a line's stretch
abbrev pub stretch_of : Stretch → List ℕ → List ℕ
stretch_of s line = take (s.end - s.first) (drop s.first line)

-- n rows from `row` on, each row's stretch sent to its columns of the paper, over what stood there
unfoldable pub print_stretches : Size → List ℕ → List ℕ → ℕ → ℕ → List ℕ → List ℕ
print_stretches size mask ink zero row paper = paper
print_stretches size mask ink (suc n) row paper =
    let s = stretch_at ink row in
    print_stretches size mask ink n (suc row) (over (stretch_of s (line_at size mask row)) (row * size.width + s.first) paper)

-- .. and every byte of each row
unfoldable pub print_all : Size → List ℕ → ℕ → ℕ → List ℕ → List ℕ
print_all size mask zero row paper = paper
print_all size mask (suc n) row paper = print_all size mask n (suc row) (over (line_at size mask row) (row * size.width) paper)

-- 'onto blank paper'
abbrev pub blank_paper : Size → List ℕ
blank_paper size = replicate (cells_of size) 0

-- 'A print loop that sends only those stretches onto blank paper prints the same cells as one that sends every byte', which
-- are the mask's
pub record PrintsTheMask (size : Size) (mask ink : List ℕ) : Type 0 where
  pub same : print_stretches size mask ink size.height 0 (blank_paper size) ≡ print_all size mask size.height 0 (blank_paper size)
  pub cells : print_stretches size mask ink size.height 0 (blank_paper size) ≡ take (cells_of size) mask
