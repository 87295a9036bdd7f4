-- The ink of a row to which a sweep added bytes, and the numbers of a mask whose rows are drawn one by one. Assumes nothing.
use mathlib.Core.Path.{◌≡◌, refl, sym, ap, ◌∙◌}
use mathlib.Core.List.{List, [], ◌∷◌}
use Prim.Native.Nat.{ℕ, zero, suc, ◌+◌, ◌*◌, ◌-◌, ◌<◌, min}
use native.Mathlib.Nat.{add-mul, mul_comm}
use native.Mathlib.Numerals.{add-one}
use native.Mathlib.Omega.{arith}
use lib.ListN.{length, get_or, set}
use borrow.Rule.Slice.PartMut.{mid_of, put_mid}
use Rattle.cells.specs.declared.Size.{Size}
use Rattle.cells.specs.Cells.{cells_of}
use Rattle.cells.proofs.Rows.{ChangedTo}
use Rattle.sweep.specs.Bytes.{add_bytes}
use Rattle.sweep.specs.Sweeping.{SameOutside}
use Rattle.ink.specs.declared.Stretch.{Stretch}
use Rattle.ink.specs.Ink.{ink_of, line_at}
use Rattle.ink.specs.Grown.{Grown, InkKept}
use Rattle.ink.proofs.Stretches.{make}
use Rattle.ink.proofs.Kept.{kept_row}
use Rattle.coverage.proofs.Places.{length_added}

-- ---- one row

-- adding bytes makes none 0
never_less : (line bytes : List ℕ) (column : ℕ) → get_or (add_bytes line bytes) column 0 ≡ 0 → get_or line column 0 ≡ 0
unfolding add_bytes
never_less [] bs k z = z
never_less (a ∷ l) [] k z = z
never_less (a ∷ l) (b ∷ bs) zero z = let y : min (a + b) 255 ≡ 0 = z in omega arith
never_less (a ∷ l) (b ∷ bs) (suc k) z = never_less l bs k z

pub row_grown : {line after : List ℕ} {from to : ℕ} (bytes : List ℕ) → after ≡ add_bytes line bytes → SameOutside line after from to → Grown line after from to
row_grown {line} bytes is o = record {
  long = ap length is ∙ length_added line bytes;
  outside = o.same;
  never_less = λ k z. never_less line bytes k (ap (λ (l : List ℕ). get_or l k 0) (sym is) ∙ z);
}

-- ---- all rows

-- where a row starts
row_place : {change : ℕ → List ℕ → List ℕ} {width height : ℕ} {m₀ mask : List ℕ} {from row : ℕ} → ChangedTo change width height m₀ mask from row → width * height ≡ length mask → from ≡ row * width
row_place {width = width} {height} {m₀} {mask} {from} {row} s cells =
    let p = s.place in
    let w = s.within in
    let e : height - row + row ≡ height = omega arith in
    let a : (height - row + row) * width ≡ (height - row) * width + row * width = add-mul (height - row) row width in
    let b : (height - row + row) * width ≡ height * width = ap (λ (k : ℕ). k * width) e in
    let c : height * width ≡ width * height = mul_comm height width in
    omega arith

-- a row that was drawn: its numbers are set
pub ink_turn : {size : Size} {change : ℕ → List ℕ → List ℕ} {m₀ mask ink : List ℕ} {from row : ℕ} → ChangedTo change size.width size.height m₀ mask from row → cells_of size ≡ length m₀
    → InkKept size mask ink → row < size.height → (line : List ℕ) → length line ≡ length (mid_of from (from + size.width - from) mask) → (s : Stretch)
    → (make (get_or ink (2 * row) 0) (get_or ink (2 * row + 1) 0) ≡ ink_of (mid_of from (from + size.width - from) mask) → s ≡ ink_of line)
    → InkKept size (put_mid from (from + size.width - from) mask line) (set (set ink (2 * row) s.first) (2 * row + 1) s.end)
ink_turn {size} {change} {m₀} {mask} {ink} {from} {row} t cells kept more line long s next =
    let n = t.long in
    let c : cells_of size ≡ length mask = omega arith in
    let place = row_place t c in
    kept_row kept c row from more place line long (next (ap (λ (i : ℕ). make (get_or ink (2 * row) 0) (get_or ink i 0)) (add-one (2 * row)) ∙ kept.scanned row more ∙ ap ink_of here))
  where
    here : line_at size mask row ≡ mid_of from (from + size.width - from) mask
    here =
        let n = t.long in
        let c : cells_of size ≡ length mask = omega arith in
        let d : from + size.width - from ≡ size.width = omega arith in
        rw (d, row_place t c) refl
