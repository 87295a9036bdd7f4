-- Document 01, 'Examples, twelve of them starred': 'Starred ones are proved of the definitions, as one table under a
-- common theorem'. Definitions only; proofs/Shown.antt computes them.
use Rattle.shape.specs.declared.RoundedBox.{RoundedBox}
use Rattle.std.specs.Prelude.{◌≡◌, List, [], ◌∷◌, ◌++◌, ℕ, ℤ, pos, negsuc, length, replicate, Float, Option, Some, None, Result, Ok}
use Rattle.std.specs.Float.{binary32}
use Rattle.std.specs.Float.Ieee.{of_bits}
use Rattle.float.specs.Ops.{f0, f1, f2}
use Rattle.cells.specs.declared.Size.{Size}
use Rattle.laying.specs.declared.Offset.{Offset}
use Rattle.laying.specs.Laying.{Laying, laying}
use Rattle.ink.specs.Lent.{lent}
use Rattle.mask.specs.Calls.{Drawing, drawing, draw_answer, mask_after_drawing, floats_after_drawing, counters_after_drawing, lay_answer, mask_after_laying}
use Rattle.fault.specs.declared.Fault.{Fault}
use Rattle.fit.specs.Calls.{fit_call}

-- a call that document 01 gives, and what it says of it: the cells that a drawing or a laying-on leaves, or the
-- fitter's answer
pub data Example : Type 0 where
  draws : (words : List ℤ) (cells : List ℕ) → Example
  lays : (cells : List ℕ) (other : List ℕ) (offset : Offset) (after : List ℕ) → Example
  fits : (verbs : List ℕ) (positions : List Float) (answer : Result (Option RoundedBox) Fault) → Example

-- ---- what is lent: one byte more than the mask needs, one number more than its ink, and scratch that holds rubbish

abbrev pub row : ℕ → Size
row width = record { width = width; height = 1 }

abbrev pub past : List ℕ
past = 77 ∷ []

-- enough for the points of two rectangles
abbrev pub floats : List Float
floats = replicate 122 f1

abbrev pub counters : List ℕ
counters = 5 ∷ 6 ∷ 7 ∷ []

abbrev pub mask : List ℕ
mask = 8 ∷ 9 ∷ past

abbrev pub ink : List ℕ
ink = 5 ∷ 6 ∷ 7 ∷ []

-- ---- what is shown: the answer, every byte lent as a mask, all scratch. (Ink: Inked.antt)

abbrev pub ShownDrawing : Drawing → List ℕ → Type 0
ShownDrawing d cells =
    (draw_answer d (lent mask ink) ≡ Ok tt) × (mask_after_drawing (draw_answer d (lent mask ink)) d mask ≡ cells ++ past)
    × (floats_after_drawing (draw_answer d (lent mask ink)) floats ≡ replicate (length floats) f0)
    × (counters_after_drawing (draw_answer d (lent mask ink)) counters ≡ replicate (length counters) 0)

abbrev pub ShownLaying : Laying → List ℕ → List ℕ → List ℕ → Type 0
ShownLaying l cells other after =
    (lay_answer l (lent cells ink) (length other) ≡ Ok tt) × (mask_after_laying (lay_answer l (lent cells ink) (length other)) l cells other ≡ after)

abbrev pub Shown : Example → Type 0
Shown (draws words cells) = ShownDrawing (drawing (row 2) words floats counters) cells
Shown (lays cells other offset after) = ShownLaying (laying (row (length cells)) (row (length other)) offset) (cells ++ past) (other ++ past) (after ++ past)
Shown (fits verbs positions answer) = fit_call verbs positions ≡ answer

-- ---- the twelve

-- 'Rectangles with one corner at (0,0)', to (x, 256): the words of a contour
abbrev pub rectangle : ℕ → List ℤ → List ℤ
rectangle x rest = pos 4 ∷ pos 0 ∷ pos 0 ∷ pos x ∷ pos 0 ∷ pos x ∷ pos 256 ∷ pos 0 ∷ pos 256 ∷ rest

abbrev pub columns : ℤ → Offset
columns x = record { x = x; y = pos 0 }

-- 4.0
abbrev pub f4 : Float
f4 = of_bits binary32 0x4080_0000

abbrev pub starred : List Example
starred =
    -- 'on a mask two cells wide and one high': 'to (256,256), non-zero: 255 0'
    draws (pos 0 ∷ pos 1 ∷ rectangle 256 []) (255 ∷ 0 ∷ [])
    -- 'to (128,256): 128 0'
    ∷ draws (pos 0 ∷ pos 1 ∷ rectangle 128 []) (128 ∷ 0 ∷ [])
    -- 'the first square twice in one group, even-odd: 0 0'
    ∷ draws (pos 1 ∷ pos 2 ∷ rectangle 256 (rectangle 256 [])) (0 ∷ 0 ∷ [])
    -- 'the same, non-zero: 255 0'
    ∷ draws (pos 0 ∷ pos 2 ∷ rectangle 256 (rectangle 256 [])) (255 ∷ 0 ∷ [])
    -- 'two groups of the half square: 255 0'
    ∷ draws (pos 0 ∷ pos 1 ∷ rectangle 128 (pos 0 ∷ pos 1 ∷ rectangle 128 [])) (255 ∷ 0 ∷ [])
    -- 'Laying on one cell: 128 by 128 is 64; 1 by 127 is 0; 1 by 128 is 1.'
    ∷ lays (128 ∷ []) (128 ∷ []) (columns (pos 0)) (64 ∷ [])
    ∷ lays (1 ∷ []) (127 ∷ []) (columns (pos 0)) (0 ∷ [])
    ∷ lays (1 ∷ []) (128 ∷ []) (columns (pos 0)) (1 ∷ [])
    -- 'On 10 20 30 with 255 255: offset (1,0) gives 10 0 0; offset (−1,0) gives 0 20 30'
    ∷ lays (10 ∷ 20 ∷ 30 ∷ []) (255 ∷ 255 ∷ []) (columns (pos 1)) (10 ∷ 0 ∷ 0 ∷ [])
    ∷ lays (10 ∷ 20 ∷ 30 ∷ []) (255 ∷ 255 ∷ []) (columns (negsuc 0)) (0 ∷ 20 ∷ 30 ∷ [])
    -- 'MoveTo (0,0), LineTo (4,0), (4,2), (0,2), Close: half extents 2 and 1, frame 1 0 0 1 2 1'
    ∷ fits (0 ∷ 1 ∷ 1 ∷ 1 ∷ 5 ∷ []) (f0 ∷ f0 ∷ f4 ∷ f0 ∷ f4 ∷ f2 ∷ f0 ∷ f2 ∷ [])
    (Ok (Some (record { frame = record { a = f1; b = f0; c = f0; d = f1; x = f2; y = f1 }; ex = f2; ey = f1; rx = f0; ry = f0 })))
    -- 'MoveTo, Close, MoveTo, LineTo: no box'
    ∷ fits (0 ∷ 5 ∷ 0 ∷ 1 ∷ []) (f0 ∷ f0 ∷ f0 ∷ f0 ∷ f4 ∷ f0 ∷ []) (Ok None)
    ∷ []

-- ---- the theorem

abbrev pub All : (Example → Type 0) → List Example → Type 0
All P [] = Unit
All P (e ∷ es) = P e × All P es

abbrev pub StarredShown : Type 0
StarredShown = All Shown starred

-- beside them: a rectangle to (512,256) covers both cells; with x and y taken for each other it would cover one
abbrev pub TellsXFromY : Type 0
TellsXFromY = Shown (draws (pos 0 ∷ pos 1 ∷ rectangle 512 []) (255 ∷ 255 ∷ []))
