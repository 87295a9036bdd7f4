-- The columns with ink as a whole (specs/Laws.antt). Assumes nothing.
use mathlib.Core.Path.{◌≡◌, refl, sym, ap, ap₂, ◌∙◌}
use mathlib.Core.List.{List, [], ◌∷◌, ◌++◌}
use Prim.Native.Nat.{ℕ, zero, suc, ◌+◌, ◌*◌, ◌-◌, ◌≤◌, ◌<◌}
use native.Mathlib.Omega.{arith}
use lib.ListN.{length, get_or, take, drop, length-append, length-drop, get_or-append}
use lib.Seq.{get_or-drop, get_or-append-add}
use Rattle.cells.specs.declared.Size.{Size}
use Rattle.cells.specs.Rows.{rows_from}
use Rattle.cells.proofs.Places.{rows_length, rows_get}
use Rattle.cells.specs.Cells.{cells_of}
use Rattle.ink.specs.Ink.{ink_of, line_at, ink_row, ink_of_rows, ink_after, stretch_at}
use Rattle.ink.specs.Laws.{InkPinned, NumbersOfRows, OnlyCells, StretchesPrintTheMask}
use Rattle.ink.proofs.Lines.{line_front}
use Rattle.ink.proofs.Stretches.{same, ink_is, ink_only}
use Rattle.ink.proofs.Sending.{stretches_are, all_are}

pub ink_pinned : InkPinned
ink_pinned = record { is = ink_is; only = ink_only }

module _ (size : Size) (mask ink : List ℕ) where
  pub rows_long : length (ink_of_rows size mask) ≡ 2 * size.height
  rows_long = let l = rows_length (ink_row size mask) 2 (λ row. refl) size.height 0 in omega arith

  number : (row c : ℕ) → row < size.height → c < 2 → get_or (ink_after size mask ink) (row * 2 + c) 0 ≡ get_or (ink_row size mask row) c 0
  number row c r h =
      let l = rows_long in
      let z : 0 + row ≡ row = omega arith in
      get_or-append (ink_of_rows size mask) (drop (2 * size.height) ink) 0 (row * 2 + c) (omega arith) ∙ rows_get (ink_row size mask) 2 (λ row. refl) size.height 0 row c r h
      ∙ ap (λ (k : ℕ). get_or (ink_row size mask k) c 0) z

  rows : (row : ℕ) → row < size.height → stretch_at (ink_after size mask ink) row ≡ ink_of (line_at size mask row)
  rows row h =
      let a : 2 * row ≡ row * 2 + 0 = omega arith in
      let b : suc (2 * row) ≡ row * 2 + 1 = omega arith in
      same (stretch_at (ink_after size mask ink) row) (ink_of (line_at size mask row))
      (ap (λ (k : ℕ). get_or (ink_after size mask ink) k 0) a ∙ number row 0 h (omega arith))
      (ap (λ (k : ℕ). get_or (ink_after size mask ink) k 0) b ∙ number row 1 h (omega arith))

  past : (i : ℕ) → 2 * size.height ≤ i → get_or (ink_after size mask ink) i 0 ≡ get_or ink i 0
  past i h =
      let l = rows_long in
      let j = i - 2 * size.height in
      let e : i ≡ length (ink_of_rows size mask) + j = omega arith in
      let d : 2 * size.height + j ≡ i = omega arith in
      ap (λ (k : ℕ). get_or (ink_after size mask ink) k 0) e ∙ get_or-append-add (ink_of_rows size mask) (drop (2 * size.height) ink) j 0
      ∙ get_or-drop (2 * size.height) ink j 0 ∙ ap (λ (k : ℕ). get_or ink k 0) d

  kept : 2 * size.height ≤ length ink → length (ink_after size mask ink) ≡ length ink
  kept h = let l = rows_long in simp (length-append, length-drop) (omega arith)

-- ---- of the mask only the first width × height cells are looked at
module _ (size : Size) (mask : List ℕ) where
  abbrev cells : ℕ
  cells = cells_of size

  rows_front : (n row : ℕ) → row + n ≤ size.height → rows_from (ink_row size (take cells mask)) n row ≡ rows_from (ink_row size mask) n row
  unfolding rows_from
  rows_front zero row h = refl
  rows_front (suc n) row h =
      ap₂ (λ (line : List ℕ) (rest : List ℕ). ((ink_of line).first ∷ (ink_of line).end ∷ []) ++ rest) (line_front size row (omega arith) mask) (rows_front n (suc row) (omega arith))

pub only_cells : OnlyCells
only_cells size mask = rows_front size mask size.height 0 (omega arith)

pub numbers_of_rows : NumbersOfRows
numbers_of_rows = record { rows = rows; past = past; kept = kept }

pub stretches_print_the_mask : StretchesPrintTheMask
stretches_print_the_mask size mask ink room scanned =
    let cells = stretches_are size mask room ink (λ row h. rw (scanned row h) (ink_is (line_at size mask row))) in
    record { same = cells ∙ sym (all_are size mask room); cells = cells }
