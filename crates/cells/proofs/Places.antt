-- Where a cell's byte stands in rows that follow one another, and in a buffer that starts with them. Assumes nothing.
use mathlib.Core.Path.{◌≡◌, ap, ◌∙◌}
use mathlib.Core.List.{List, ◌++◌}
use Prim.Native.Nat.{ℕ, zero, suc, ◌+◌, ◌*◌, ◌≤◌, ◌<◌}
use native.Mathlib.Nat.{not-suc-le-zero, le_of_suc-le-suc, mul-le-mul_right, mul_comm}
use native.Mathlib.Omega.{arith}
use lib.ListN.{length, get_or, drop, length-append, length-drop, get_or-append}
use lib.Seq.{get_or-append-add}
use Rattle.cells.specs.declared.Size.{Size}
use Rattle.cells.specs.Cells.{cells_of, byte_at}
use Rattle.cells.specs.Rows.{rows_from}

-- rows, each w wide
module _ (line : ℕ → List ℕ) (w : ℕ) (wide : (row : ℕ) → length (line row) ≡ w) where
  pub rows_length : (n row : ℕ) → length (rows_from line n row) ≡ n * w
  unfolding rows_from
  rows_length zero row = omega arith
  rows_length (suc n) row = omega (arith, length-append (line row) (rows_from line n (suc row)), wide row, rows_length n (suc row))

  pub rows_get : (n row r c : ℕ) → r < n → c < w → get_or (rows_from line n row) (r * w + c) 0 ≡ get_or (line (row + r)) c 0
  unfolding rows_from
  rows_get zero row r c k l = absurd (not-suc-le-zero k)
  rows_get (suc n) row zero c k l =
      let z : row ≡ row + 0 = omega arith in
      let i : 0 * w + c ≡ c = omega arith in
      ap (λ (j : ℕ). get_or (line row ++ rows_from line n (suc row)) j 0) i
      ∙ get_or-append (line row) (rows_from line n (suc row)) 0 c (omega (arith, wide row)) ∙ ap (λ (j : ℕ). get_or (line j) c 0) z
  rows_get (suc n) row (suc r) c k l =
      let i : suc r * w + c ≡ length (line row) + (r * w + c) = omega (arith, wide row) in
      let j : suc row + r ≡ row + suc r = omega arith in
      ap (λ (j : ℕ). get_or (line row ++ rows_from line n (suc row)) j 0) i ∙ get_or-append-add (line row) (rows_from line n (suc row)) (r * w + c) 0
      ∙ rows_get n (suc row) r c (le_of_suc-le-suc k) l ∙ ap (λ (j : ℕ). get_or (line j) c 0) j

-- a mask of this size, made of its rows
module _ (size : Size) (line : ℕ → List ℕ) (wide : (row : ℕ) → length (line row) ≡ size.width) where
  pub mask_length : length (rows_from line size.height 0) ≡ cells_of size
  mask_length = let l = rows_length line size.width wide size.height 0 in let c = mul_comm size.height size.width in omega arith

  pub mask_byte : (column row : ℕ) → column < size.width → row < size.height → byte_at size (rows_from line size.height 0) column row ≡ get_or (line row) column 0
  mask_byte column row c r =
      let z : 0 + row ≡ row = omega arith in
      rows_get line size.width wide size.height 0 row column r c ∙ ap (λ (k : ℕ). get_or (line k) column 0) z

-- ---- a buffer that starts with cells

pub front_byte : (size : Size) (cells rest : List ℕ) → length cells ≡ cells_of size → (column row : ℕ) → column < size.width → row < size.height
    → byte_at size (cells ++ rest) column row ≡ byte_at size cells column row
front_byte size cells rest e column row c r =
    get_or-append cells rest 0 (row * size.width + column) (omega (arith, e, mul-le-mul_right size.width r))

pub whole_length : (size : Size) (cells mask : List ℕ) → length cells ≡ cells_of size → cells_of size ≤ length mask → length (cells ++ drop (cells_of size) mask) ≡ length mask
whole_length size cells mask e h = let a = length-append cells (drop (cells_of size) mask) in let b = length-drop (cells_of size) mask in omega arith
