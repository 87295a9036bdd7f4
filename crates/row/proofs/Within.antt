-- A piece that lies within the row: its columns, and what it adds. Assumes nothing.
use mathlib.Core.Path.{◌≡◌}
use mathlib.Core.Bool.{Bool, true, false, cond}
use Prim.Native.Nat.{ℕ, ◌+◌, ◌<◌, ◌≤◌}
use native.Mathlib.Omega.{arith}
use lib.Dec.{leb}
use lib.Ieee.{Float, lt}
use lib.Ieee.Casts.{to_unsigned-lt}
use borrow.Author.Tests.{le-leb, lt-leb}
use Rattle.float.specs.Ops.{f½, ◌⊕◌, ◌⊖◌, ◌⊗◌}
use Rattle.whole.specs.Whole.{column_of, of_whole}
use Rattle.accumulation.specs.Area.{Cells, single_of, across_of}
use Rattle.row.specs.Row.{ceil_column, inside_of}

-- ---- columns

pub ceil_le : (x : Float) → ceil_column x ≤ 8192
unfolding ceil_column
ceil_le x = go (lt (of_whole (column_of x)) x) (column_of x) (to_unsigned-lt 13 x)
  where
    go : (b : Bool) (n : ℕ) → n < 8192 → cond b (n + 1) n ≤ 8192
    go true n h = omega arith
    go false n h = omega arith

-- ---- what it adds

module _ (cells : Cells) (lo hi area : Float) {after : Cells} {cell last : ℕ} (ec : cell ≡ column_of lo) (el : last ≡ ceil_column hi) where
  pub inside_single : last ≤ cell + 1 → {x : Float} → x ≡ of_whole cell → after ≡ single_of cells cell (f½ ⊗ (lo ⊕ hi) ⊖ x) area
      → after ≡ inside_of cells lo hi area
  unfolding inside_of
  inside_single h ex e =
      let t : leb (ceil_column hi) (column_of lo + 1) ≡ true = rw (← el, ← ec) (le-leb last (cell + 1) h) in
      rw t (rw (ex, ec) at e)

  pub inside_across : cell + 1 < last → after ≡ across_of cells lo hi cell last area → after ≡ inside_of cells lo hi area
  unfolding inside_of
  inside_across h e =
      let t : leb (ceil_column hi) (column_of lo + 1) ≡ false = rw (← el, ← ec) (lt-leb last (cell + 1) h) in
      rw t (rw (ec, el) at e)
