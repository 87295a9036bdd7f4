-- The calls on masks, on lent slices, outright: a size, an offset and a corner are plain numbers here. The calls' answers:
-- mask/specs/Calls.antt. Definitions only.
use Rattle.std.specs.Prelude.{ℕ, List, ℤ, Float, length}
use Rattle.ink.specs.Lent.{lent}
use Rattle.laying.specs.Laying.{Laying, laying}
use Rattle.laying.specs.Placed.{Placed, placed, by_offset}
use Rattle.mask.specs.Calls.{Drawing, drawing, draw_answer, mask_after_drawing, floats_after_drawing, counters_after_drawing, lay_answer, mask_after_laying, lay_placed_answer, ink_after_call}

-- ---- drawing

abbrev pub drawing_lent : ℕ → ℕ → List ℤ → List Float → List ℕ → Drawing
drawing_lent width height words floats counters = drawing (record { width = width; height = height }) words floats counters

-- what a drawing leaves of the mask, of its ink and of the scratch
abbrev pub mask_drawn : Drawing → List ℕ → List ℕ → List ℕ
mask_drawn d mask ink = mask_after_drawing (draw_answer d (lent mask ink)) d mask

abbrev pub ink_drawn : Drawing → List ℕ → List ℕ → List ℕ
ink_drawn d mask ink = ink_after_call (draw_answer d (lent mask ink)) d.size (mask_drawn d mask ink) ink

abbrev pub floats_drawn : Drawing → List ℕ → List ℕ → List Float → List Float
floats_drawn d mask ink floats = floats_after_drawing (draw_answer d (lent mask ink)) floats

abbrev pub counters_drawn : Drawing → List ℕ → List ℕ → List ℕ → List ℕ
counters_drawn d mask ink counters = counters_after_drawing (draw_answer d (lent mask ink)) counters

-- ---- laying one mask on another

abbrev pub laying_lent : ℕ → ℕ → ℕ → ℕ → ℤ → ℤ → Laying
laying_lent width height other_width other_height x y =
    laying (record { width = width; height = height }) (record { width = other_width; height = other_height }) (record { x = x; y = y })

-- what a laying-on leaves of the mask, and of its ink
abbrev pub mask_laid : Laying → List ℕ → List ℕ → List ℕ → List ℕ
mask_laid l mask ink other = mask_after_laying (lay_answer l (lent mask ink) (length other)) l mask other

abbrev pub ink_laid : Laying → List ℕ → List ℕ → List ℕ → List ℕ
ink_laid l mask ink other = ink_after_call (lay_answer l (lent mask ink) (length other)) l.size (mask_laid l mask ink other) ink

-- ---- by corners

abbrev pub placed_lent : ℕ → ℕ → ℤ → ℤ → ℕ → ℕ → ℤ → ℤ → Placed
placed_lent width height x y other_width other_height other_x other_y =
    placed (record { size = record { width = width; height = height }; corner = record { x = x; y = y } })
    (record { size = record { width = other_width; height = other_height }; corner = record { x = other_x; y = other_y } })

abbrev pub mask_laid_placed : Placed → List ℕ → List ℕ → List ℕ → List ℕ
mask_laid_placed p mask ink other = mask_after_laying (lay_placed_answer p (lent mask ink) (length other)) (by_offset p) mask other

abbrev pub ink_laid_placed : Placed → List ℕ → List ℕ → List ℕ → List ℕ
ink_laid_placed p mask ink other = ink_after_call (lay_placed_answer p (lent mask ink) (length other)) p.own.size (mask_laid_placed p mask ink other) ink
