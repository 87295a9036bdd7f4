-- Document 02, change 9: which columns of a row have ink, worked out. Definitions only; proofs/Inked.antt computes them.
use Rattle.std.specs.Prelude.{◌≡◌, List, [], ◌∷◌, ◌++◌, ℕ, ℤ, pos, replicate, Float, Ok, Err}
use Rattle.float.specs.Ops.{f1}
use Rattle.fault.specs.declared.Fault.{Fault}
use Rattle.fault.specs.declared.Fault.TheVariants.{MaskTooLarge, BufferTooShort, CornerOutOfRange}
use Rattle.cells.specs.declared.Size.{Size}
use Rattle.ink.specs.Ink.{ink_of, ink_after}
use Rattle.ink.specs.Lent.{lent}
use Rattle.laying.specs.Laying.{laying}
use Rattle.mask.specs.Calls.{Drawing, drawing, draw_answer, mask_after_drawing, lay_answer, mask_after_laying, lay_placed_answer, ink_after_call}
use Rattle.examples.specs.Starred.{row, past, floats, counters, rectangle, columns}
use Rattle.examples.specs.Placed.{at, over, masks_at}

abbrev pub sized : ℕ → ℕ → Size
sized width height = record { width = width; height = height }

-- a row's two numbers
abbrev pub RowHas : List ℕ → ℕ → ℕ → Type 0
RowHas line first end = ink_of line ≡ record { first = first; end = end }

-- ---- done calls: the ink afterwards, of numbers that held rubbish

-- enough for the points of two rectangles on four cells
abbrev pub scratch : List Float
scratch = replicate 124 f1

-- of a drawing on a mask of one row, with one number past its ink
abbrev pub DrawnInk : ℕ → List ℤ → ℕ → ℕ → Type 0
DrawnInk width words first end =
    let d = drawing (row width) words scratch counters in
    let mask : List ℕ = replicate width 9 in
    let ink : List ℕ = 5 ∷ 6 ∷ 7 ∷ [] in
    ink_after_call (draw_answer d (lent mask ink)) (row width) (mask_after_drawing (Ok tt) d mask) ink ≡ first ∷ end ∷ 7 ∷ []

-- of a laying-on of two rows of two cells by a mask of one row of two
abbrev pub LaidInk : List ℕ → List ℕ → List ℕ → Type 0
LaidInk mask other ink =
    let l = laying (sized 2 2) (row 2) (columns (pos 0)) in
    let held : List ℕ = 5 ∷ 5 ∷ 5 ∷ 5 ∷ 7 ∷ [] in
    ink_after_call (lay_answer l (lent mask held) 2) (sized 2 2) (mask_after_laying (Ok tt) l mask other) held ≡ ink ++ (7 ∷ [])

-- ---- refusals

-- a drawing on a mask two cells wide and one high, with so many numbers lent for its ink
abbrev pub DrawingRefused : Drawing → ℕ → Fault → Type 0
DrawingRefused d ink f = draw_answer d (record { mask = 2; ink = ink }) ≡ Err f

abbrev pub small : Drawing
small = drawing (row 2) [] floats counters

-- the list ends inside a group
abbrev pub ends_early : Drawing
ends_early = drawing (row 2) (pos 0 ∷ []) floats counters

-- no scratch is lent
abbrev pub no_scratch : Drawing
no_scratch = drawing (row 2) (pos 0 ∷ pos 1 ∷ rectangle 256 []) [] []

abbrev pub wide : Drawing
wide = drawing (row 4097) [] floats counters

pub record InkShown : Type 0 where
  -- 'the first column whose byte is not 0 and the column after the last such one, or 0 and 0 for a blank row'
  pub blank : RowHas (0 ∷ 0 ∷ 0 ∷ []) 0 0
  pub first_alone : RowHas (5 ∷ 0 ∷ 0 ∷ []) 0 1
  pub last_alone : RowHas (0 ∷ 0 ∷ 5 ∷ []) 2 3
  pub zeros_within : RowHas (5 ∷ 0 ∷ 7 ∷ []) 0 3
  pub widest : RowHas (replicate 4095 0 ++ (1 ∷ [])) 4095 4096
  -- a mask without columns has rows without ink, and one without rows has no numbers
  pub no_columns : ink_after (sized 0 3) past (9 ∷ 9 ∷ 9 ∷ 9 ∷ 9 ∷ 9 ∷ 7 ∷ []) ≡ 0 ∷ 0 ∷ 0 ∷ 0 ∷ 0 ∷ 0 ∷ 7 ∷ []
  pub no_rows : (ink_after (sized 3 0) past [] ≡ []) × (ink_after (sized 3 0) past (7 ∷ 8 ∷ []) ≡ 7 ∷ 8 ∷ [])
  -- 'Numbers past the last row stay as they were.'
  pub past_rows : ink_after (sized 2 1) (0 ∷ 3 ∷ []) (9 ∷ 9 ∷ 0 ∷ 2 ∷ 1 ∷ []) ≡ 1 ∷ 2 ∷ 0 ∷ 2 ∷ 1 ∷ []
  -- ink is of bytes and not of edges: a sliver of half a 256th of the cell comes to byte 0
  pub sliver : DrawnInk 1 (pos 0 ∷ pos 1 ∷ pos 3 ∷ pos 0 ∷ pos 0 ∷ pos 1 ∷ pos 0 ∷ pos 0 ∷ pos 256 ∷ []) 0 0
  -- and of all groups: the second one's column stands before the first's
  pub groups : DrawnInk 4
      (pos 0 ∷ pos 1 ∷ pos 4 ∷ pos 768 ∷ pos 0 ∷ pos 1024 ∷ pos 0 ∷ pos 1024 ∷ pos 256 ∷ pos 768 ∷ pos 256 ∷ pos 0 ∷ pos 1 ∷ rectangle 256 []) 0 4
  -- laying on: a cell that becomes 0, and a row that meets none
  pub laid : LaidInk (255 ∷ 1 ∷ 255 ∷ 255 ∷ []) (255 ∷ 127 ∷ []) (0 ∷ 1 ∷ 0 ∷ 0 ∷ [])
  -- 'Too little memory for it is number 4, with the mask': one number too few, and enough; before the list and scratch
  pub one_short : DrawingRefused small 1 BufferTooShort × (draw_answer small (record { mask = 2; ink = 2 }) ≡ Ok tt)
  pub before_list : DrawingRefused ends_early 1 BufferTooShort
  pub before_scratch : DrawingRefused no_scratch 1 BufferTooShort × DrawingRefused no_scratch 2 BufferTooShort
  -- and behind 3, and by corners behind 16
  pub three_first : DrawingRefused wide 0 MaskTooLarge
  pub sixteen_first : lay_placed_answer (masks_at (at over (pos 0)) (at (pos 0) (pos 0))) (record { mask = 3; ink = 1 }) 2 ≡ Err CornerOutOfRange
  pub laid_short : lay_placed_answer (masks_at (at (pos 0) (pos 0)) (at (pos 0) (pos 0))) (record { mask = 3; ink = 1 }) 2 ≡ Err BufferTooShort
