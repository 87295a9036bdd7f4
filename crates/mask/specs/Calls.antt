-- The calls on masks, outright: what each answers, and all that was lent to it afterwards (document 01, 'What a call
-- hands back' and 'The masks'; document 02, changes 8 and 9). Definitions only.
use Rattle.std.specs.Prelude.{ℕ, Bool, cond, ◌||◌, List, ◌++◌, ltb, ℤ, length, drop, replicate, Float, Ok, Err}
use Rattle.fault.specs.declared.Fault.TheVariants.{MaskTooLarge, BufferTooShort, CornerOutOfRange}
use Rattle.fault.specs.Number.{number_of}
use Rattle.float.specs.Ops.{f0}
use Rattle.word_list.specs.Words.{Group, points_in, Read, ok, fault, read_words, groups_of}
use Rattle.cells.specs.declared.Size.{Size}
use Rattle.cells.specs.Cells.{cells_of, too_large}
use Rattle.cells.specs.Corner.{corner_out}
use Rattle.ink.specs.Ink.{ink_after}
use Rattle.ink.specs.Lent.{Lent, lent_short}
use Rattle.coverage.specs.Drawing.{drawing_of}
use Rattle.coverage.specs.Scratch.{floats_needed, counters_needed}
use Rattle.laying.specs.Laying.{Laying, laying_of}
use Rattle.laying.specs.Placed.{Placed}
use Rattle.fault.specs.Check.{Check}

-- ---- 'What a call hands back': the number of an answer. 'A call is done, or turned away by number'; done is told from
-- every cause by 0
abbrev pub outcome_number : Check → ℕ
outcome_number (Ok _) = 0
outcome_number (Err f) = number_of f

-- ---- what a call is given

-- what a drawing is given beside the mask and its ink (ink/specs/Lent.antt): its size, the words, and how many floats and
-- counters are lent as scratch
pub record Drawing : Type 0 where
  pub size : Size
  pub words : List ℤ
  pub floats : ℕ
  pub counters : ℕ

abbrev pub drawing : Size → List ℤ → List Float → List ℕ → Drawing
drawing size words floats counters = record { size = size; words = words; floats = length floats; counters = length counters }

-- ---- drawing: the table and its order, from the arguments and the lengths of what is lent

-- 'mask, other mask or scratch too short': the scratch, for these groups
abbrev pub scratch_short : Drawing → List Group → Bool
scratch_short d gs = ltb d.floats (floats_needed d.size (points_in gs)) || ltb d.counters (counters_needed d.size)

-- 'Order when drawing: 3, then 4 for the mask' (and for its ink: document 02, change 9, 'with the mask'), 'then the list from
-- its first word (5, 6 or 7 at the first word at fault; ..), then 4 for scratch.'
abbrev pub list_answer : Drawing → Read (List Group) → Check
list_answer d (fault f) = Err f
list_answer d (ok gs rest) = cond (scratch_short d gs) (Err BufferTooShort) (Ok tt)

abbrev pub draw_answer : Drawing → Lent → Check
draw_answer d lent =
    cond (too_large d.size) (Err MaskTooLarge)
    (cond (lent_short d.size lent) (Err BufferTooShort) (list_answer d (read_words d.words)))

-- what is lent, afterwards: 'Left as it was: all lent' where the call is turned away

-- 'Bytes past width × height are not changed.'
abbrev pub mask_after_drawing : Check → Drawing → List ℕ → List ℕ
mask_after_drawing (Ok _) d mask = drawing_of d.size (groups_of d.words) ++ drop (cells_of d.size) mask
mask_after_drawing (Err f) d mask = mask

-- 'After a done drawing all of the lent scratch is zero.'
abbrev pub floats_after_drawing : Check → List Float → List Float
floats_after_drawing (Ok _) floats = replicate (length floats) f0
floats_after_drawing (Err f) floats = floats

abbrev pub counters_after_drawing : Check → List ℕ → List ℕ
counters_after_drawing (Ok _) counters = replicate (length counters) 0
counters_after_drawing (Err f) counters = counters

-- ---- laying one mask on another

-- 'Laying on: 3, 4.' For an other mask of so many bytes; it lends no ink
abbrev pub lay_answer : Laying → Lent → ℕ → Check
lay_answer l lent other =
    cond (too_large l.size || too_large l.other_size) (Err MaskTooLarge)
    (cond (lent_short l.size lent || ltb other (cells_of l.other_size)) (Err BufferTooShort) (Ok tt))

abbrev pub mask_after_laying : Check → Laying → List ℕ → List ℕ → List ℕ
mask_after_laying (Ok _) l mask other = laying_of l mask other ++ drop (cells_of l.size) mask
mask_after_laying (Err f) l mask other = mask

-- ---- laying one mask on another by corners. The mask afterwards is `mask_after_laying` of `by_offset`
-- (laying/specs/Placed.antt): 'the offset as own corner minus the other's'

-- 'Laying on by corners refuses a corner number beyond ±1,048,576 with 16, own mask before the other, directly after 3.'
abbrev pub lay_placed_answer : Placed → Lent → ℕ → Check
lay_placed_answer p lent other =
    cond (too_large p.own.size || too_large p.other.size) (Err MaskTooLarge)
    (cond (corner_out p.own.corner || corner_out p.other.corner) (Err CornerOutOfRange)
    (cond (lent_short p.own.size lent || ltb other (cells_of p.other.size)) (Err BufferTooShort) (Ok tt)))

-- ---- ink, beside the mask that a call writes (document 02, change 9)

-- 'After each done drawing, laying on .. it equals what a scan of the mask finds, no matter what it held before. After a
-- turned-away call it is unaltered.' The mask is as the call leaves it
abbrev pub ink_after_call : Check → Size → List ℕ → List ℕ → List ℕ
ink_after_call (Ok _) size mask ink = ink_after size mask ink
ink_after_call (Err f) size mask ink = ink
