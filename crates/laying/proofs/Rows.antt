-- A row under the row that it meets is the definition's, and so are all rows, one after another. Assumes nothing.
use mathlib.Core.Path.{◌≡◌, refl, sym, ap, ap₂, ◌∙◌}
use mathlib.Core.Bool.{Bool, true, false, cond, ◌&&◌}
use mathlib.Core.List.{List, ◌++◌}
use Prim.Native.Nat.{ℕ, zero, suc, ◌+◌, ◌-◌, ◌*◌, ◌<◌, ◌≤◌}
use native.Mathlib.Nat.{mul-le-mul_right, mul_comm, suc-mul}
use native.Mathlib.Omega.{arith}
use native.Mathlib.Decide.{dec_lt}
use borrow.Author.Tests.{lt-ltb, le-ltb}
use lib.Dec.{ltb}
use lib.IntN.{ℤ, pos, negsuc, ◌+ℤ◌}
use lib.ListN.{length, get_or, take, drop, replicate, length-take, length-drop, length-replicate, get_or-replicate, drop_of_length-le}
use lib.Seq.{drop-drop, ext_get_or, get_or-take, get_or-drop}
use Rattle.cells.specs.declared.Size.{Size}
use Rattle.cells.specs.Cells.{cells_of, byte_at}
use Rattle.cells.specs.Rows.{rows_from, rows_changed}
use Rattle.cells.proofs.Rows.{row_room}
use Rattle.laying.specs.declared.Offset.{Offset}
use Rattle.laying.specs.declared.Start.{Start}
use Rattle.laying.specs.Laying.{Laying, laid_byte, met_at, laid_cell, laid_row, laying_of}
use Rattle.laying.specs.Lines.{start_of, line_of, row_met, row_of}
use Rattle.laying.proofs.Cells.{line_length, line_left, line_met, line_beyond}
use Rattle.laying.proofs.Laid.{row_length as laid-length, row_get as laid-get}

-- ---- along one axis

pub from_start : (z : ℤ) (n : ℕ) → (start_of z).own ≤ n → pos n +ℤ z ≡ pos (row_met (start_of z) n)
from_start (pos m) n h = ap pos (omega arith)
from_start (negsuc m) n h = rw (le-ltb n (suc m) h) (ap pos (omega arith))

-- before the start there is no cell
left_of : (size : Size) (other : List ℕ) (cell : ℕ) (z y : ℤ) (n : ℕ) → n < (start_of z).own → met_at size other cell (pos n +ℤ z) y ≡ 0
left_of size other cell (pos m) y n h = absurd (omega arith)
left_of size other cell (negsuc m) y n h = rw (lt-ltb n (suc m) h) refl

above : (size : Size) (other : List ℕ) (cell : ℕ) (x z : ℤ) (n : ℕ) → n < (start_of z).own → met_at size other cell x (pos n +ℤ z) ≡ 0
above size other cell x (pos m) n h = absurd (omega arith)
above size other cell (pos k) (negsuc m) n h = rw (lt-ltb n (suc m) h) refl
above size other cell (negsuc k) (negsuc m) n h = refl

and_no : (b : Bool) → (b && false) ≡ false
and_no true = refl
and_no false = refl

-- past the last row there is none
below : (size : Size) (other : List ℕ) (cell : ℕ) (x : ℤ) (n : ℕ) → size.height ≤ n → met_at size other cell x (pos n) ≡ 0
below size other cell (pos k) n h = rw (le-ltb n size.height h, and_no (ltb k size.width)) refl
below size other cell (negsuc k) n h = refl

-- ---- a row, by where it stands to the other mask's

module _ (x y : Start) (size : Size) (other : List ℕ) (row : ℕ) (line : List ℕ) where
  pub row_above : row < y.own → row_of x y size other row line ≡ replicate (length line) 0
  row_above h = rw (lt-ltb row y.own h) refl

  pub row_below : y.own ≤ row → size.height ≤ row_met y row → row_of x y size other row line ≡ replicate (length line) 0
  row_below h g = rw (le-ltb row y.own h, le-ltb (row_met y row) size.height g) refl

  pub row_on : y.own ≤ row → row_met y row < size.height → row_of x y size other row line ≡ line_of x line (take size.width (drop (row_met y row * size.width) other))
  row_on h g = rw (le-ltb row y.own h, lt-ltb (row_met y row) size.height g) refl

-- ---- a row, cell by cell

module _ (size : Size) (other : List ℕ) (room : cells_of size ≤ length other) (offset : Offset) (row : ℕ) (line : List ℕ) where
  abbrev x : Start
  x = start_of offset.x

  abbrev y : Start
  y = start_of offset.y

  abbrev k : ℕ
  k = row_met y row

  abbrev others : List ℕ
  others = take size.width (drop (k * size.width) other)

  abbrev at : ℕ → ℕ
  at column = met_at size other (get_or line column 0) (pos column +ℤ offset.x) (pos row +ℤ offset.y)

  zero_get : (column : ℕ) → column < length line → get_or (replicate {A = ℕ} (length line) 0) column 0 ≡ 0
  zero_get column h = get_or-replicate (length line) column 0 0 h

  -- a column from the start on, of a row that meets one of the other mask's
  met_cell : k < size.height → y.own ≤ row → (i : ℕ) → x.own + i < length line → get_or (line_of x line others) (x.own + i) 0 ≡ at (x.own + i)
  met_cell low past i h =
      let e : row_met x (x.own + i) ≡ x.other + i = omega arith in
      go (dec_lt (x.other + i) size.width) ∙ sym (rw (from_start offset.x (x.own + i) (omega arith), from_start offset.y row past, e, lt-ltb k size.height low) refl)
    where
      wide : length others ≡ size.width
      wide = let r = row_room k size.width size.height (length other) low room in simp (length-take, length-drop) (omega arith)

      go : Dec (x.other + i < size.width)
          → get_or (line_of x line others) (x.own + i) 0 ≡ cond (ltb (x.other + i) size.width && true) (laid_byte (get_or line (x.own + i) 0) (get_or other (k * size.width + (x.other + i)) 0)) 0
      go (yes g) =
          line_met x line others i h (rw wide g)
          ∙ rw (lt-ltb (x.other + i) size.width g, get_or-take size.width (drop (k * size.width) other) (x.other + i) 0 g, get_or-drop (k * size.width) other (x.other + i) 0) refl
      go (no g) = let o : size.width ≤ x.other + i = omega arith in line_beyond x line others i h (rw wide o) ∙ sym (rw (le-ltb (x.other + i) size.width o) refl)

  line_cell : k < size.height → y.own ≤ row → (column : ℕ) → column < length line → get_or (line_of x line others) column 0 ≡ at column
  line_cell low past column h = go (dec_lt column x.own)
    where
      go : Dec (column < x.own) → get_or (line_of x line others) column 0 ≡ at column
      go (yes g) = line_left x line others column g h ∙ sym (left_of size other (get_or line column 0) offset.x (pos row +ℤ offset.y) column g)
      go (no g) =
          let e : x.own + (column - x.own) ≡ column = omega arith in
          ap (λ (c : ℕ). get_or (line_of x line others) c 0) (sym e) ∙ met_cell low past (column - x.own) (omega arith) ∙ ap at e

  row_cell : (column : ℕ) → column < length line → get_or (row_of x y size other row line) column 0 ≡ at column
  row_cell column h = go (dec_lt row y.own)
    where
      inner : y.own ≤ row → Dec (k < size.height) → get_or (cond (ltb k size.height) (line_of x line others) (replicate (length line) 0)) column 0 ≡ at column
      inner past (yes low) = rw (lt-ltb k size.height low) (line_cell low past column h)
      inner past (no high) =
          let cell = get_or line column 0 in
          let x = pos column +ℤ offset.x in
          rw (le-ltb k size.height (omega arith)) (zero_get column h)
          ∙ sym (ap (met_at size other cell x) (from_start offset.y row past) ∙ below size other cell x k (omega arith))

      go : Dec (row < y.own) → get_or (row_of x y size other row line) column 0 ≡ at column
      go (yes g) = rw (lt-ltb row y.own g) (zero_get column h) ∙ sym (above size other (get_or line column 0) (pos column +ℤ offset.x) offset.y row g)
      go (no g) = rw (le-ltb row y.own (omega arith)) (inner (omega arith) (dec_lt k size.height))

  row_length : length (row_of x y size other row line) ≡ length line
  row_length = go (ltb row y.own) (ltb k size.height)
    where
      go : (b d : Bool) → length (cond b (replicate (length line) 0) (cond d (line_of x line others) (replicate (length line) 0))) ≡ length line
      go true d = length-replicate (length line) 0
      go false true = line_length x line others
      go false false = length-replicate (length line) 0

-- ---- all rows

module _ (l : Laying) (mask other : List ℕ) (room : cells_of l.other_size ≤ length other) where
  abbrev w : ℕ
  w = l.size.width

  abbrev pub change : ℕ → List ℕ → List ℕ
  change = row_of (start_of l.offset.x) (start_of l.offset.y) l.other_size other

  abbrev line : ℕ → List ℕ
  line row = take w (drop (row * w) mask)

  line_wide : (row : ℕ) → (row + 1) * w ≤ length mask → length (line row) ≡ w
  line_wide row h = let s = suc-mul row w in simp (length-take, length-drop) (omega arith)

  cell_is : (row i : ℕ) → (row + 1) * w ≤ length mask → i < w → get_or (change row (line row)) i 0 ≡ get_or (laid_row l mask other row) i 0
  cell_is row i h b =
      let wide = line_wide row h in
      let at : get_or (line row) i 0 ≡ byte_at l.size mask i row = get_or-take w (drop (row * w) mask) i 0 b ∙ get_or-drop (row * w) mask i 0 in
      row_cell l.other_size other room l.offset row (line row) i (omega arith)
      ∙ ap (λ (cell : ℕ). laid_cell l other cell i row) at ∙ sym (laid-get l mask other row i b)

  row_is : (row : ℕ) → (row + 1) * w ≤ length mask → change row (line row) ≡ laid_row l mask other row
  row_is row h =
      let long : length (change row (line row)) ≡ w = row_length l.other_size other room l.offset row (line row) ∙ line_wide row h in
      ext_get_or 0 (change row (line row)) (laid_row l mask other row) (long ∙ sym (laid-length l mask other row)) (λ i g. cell_is row i h (omega arith))

  rows_are : (n row : ℕ) → (row + n) * w ≡ length mask → rows_changed change w n row (drop (row * w) mask) ≡ rows_from (laid_row l mask other) n row
  unfolding rows_changed rows_from
  rows_are zero row h =
      let e : row + 0 ≡ row = omega arith in
      let g : length mask ≤ row * w = omega (arith, rw e at h) in
      drop_of_length-le mask g
  rows_are (suc n) row h =
      let e : row + suc n ≡ suc row + n = omega arith in
      let m : (row + 1) * w ≤ (suc row + n) * w = mul-le-mul_right w (omega arith) in
      let s : row * w + w ≡ suc row * w = sym (suc-mul row w) in
      let next = drop-drop w (row * w) mask ∙ ap (λ (i : ℕ). drop i mask) s in
      let g = rw e at h in
      ap₂ (λ (a b : List ℕ). a ++ b) (row_is row (omega arith)) (ap (rows_changed change w n (suc row)) next ∙ rows_are n (suc row) g)

  pub all_rows : cells_of l.size ≡ length mask → rows_changed change w l.size.height 0 mask ≡ laying_of l mask other
  all_rows h =
      let z : 0 * w ≡ 0 = omega arith in
      let e : (0 + l.size.height) * w ≡ length mask = omega (arith, mul_comm l.size.height w) in
      ap (λ (i : ℕ). rows_changed change w l.size.height 0 (drop i mask)) (sym z) ∙ rows_are l.size.height 0 e
