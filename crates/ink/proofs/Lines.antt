-- The bytes of a mask's row, by their columns. Assumes nothing.
use mathlib.Core.Path.{◌≡◌, sym, ◌∙◌}
use mathlib.Core.List.{List}
use Prim.Native.Nat.{ℕ, suc, ◌+◌, ◌*◌, ◌≤◌, ◌<◌}
use native.Mathlib.Nat.{mul-le-mul_right, mul_comm, suc-mul}
use native.Mathlib.Omega.{arith}
use lib.ListN.{length, get_or, take, drop, length-take, length-drop}
use lib.Seq.{get_or-take, get_or-drop, ext_get_or}
use Rattle.cells.specs.declared.Size.{Size}
use Rattle.cells.specs.Cells.{cells_of, byte_at}
use Rattle.ink.specs.Ink.{line_at}

module _ (size : Size) (row : ℕ) (low : row < size.height) where
  abbrev w : ℕ
  w = size.width

  pub row_fits : row * w + w ≤ cells_of size
  row_fits =
      let m : suc row * w ≤ size.height * w = mul-le-mul_right w low in
      let t : suc row * w ≡ row * w + w = suc-mul row w in
      let c : size.height * w ≡ cells_of size = mul_comm size.height w in
      omega arith

  pub line_long : (mask : List ℕ) → cells_of size ≤ length mask → length (line_at size mask row) ≡ w
  line_long mask room = let f = row_fits in simp (length-take, length-drop) (omega arith)

  pub line_at_lem : (mask : List ℕ) (k : ℕ) → k < w → get_or (line_at size mask row) k 0 ≡ byte_at size mask k row
  line_at_lem mask k h = get_or-take w (drop (row * w) mask) k 0 h ∙ get_or-drop (row * w) mask k 0

  -- masks with the same bytes in the row
  pub line_same : (one other : List ℕ) → cells_of size ≤ length one → cells_of size ≤ length other
      → ((column : ℕ) → column < w → byte_at size one column row ≡ byte_at size other column row) → line_at size one row ≡ line_at size other row
  line_same one other r s same =
      let l = line_long one r in
      ext_get_or 0 (line_at size one row) (line_at size other row) (l ∙ sym (line_long other s)) (λ k h.
      let c : k < w = omega arith in
      line_at_lem one k c ∙ same k c ∙ sym (line_at_lem other k c))

  -- of the mask only its cells
  pub line_front : (mask : List ℕ) → line_at size (take (cells_of size) mask) row ≡ line_at size mask row
  line_front mask =
      let f = row_fits in
      let cells = take (cells_of size) mask in
      let long : length (line_at size cells row) ≡ length (line_at size mask row) = simp (length-take, length-drop) (omega arith) in
      ext_get_or 0 (line_at size cells row) (line_at size mask row) long (λ k h.
      let c : k < w = omega (arith, length-take w (drop (row * w) cells)) in
      line_at_lem cells k c ∙ get_or-take (cells_of size) mask (row * w + k) 0 (omega arith) ∙ sym (line_at_lem mask k c))
