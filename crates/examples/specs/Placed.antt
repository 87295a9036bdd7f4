-- Document 02, change 8: laying on by corners, of 10 20 30 with 255 255, as document 01's starred examples by offsets.
-- Definitions only; proofs/Placed.antt computes them.
use Rattle.std.specs.Prelude.{◌≡◌, List, [], ◌∷◌, ◌++◌, ℕ, ℤ, pos, negsuc, Ok, Err}
use Rattle.fault.specs.declared.Fault.{Fault}
use Rattle.fault.specs.declared.Fault.TheVariants.{MaskTooLarge, BufferTooShort, CornerOutOfRange}
use Rattle.cells.specs.declared.Corner.{Corner}
use Rattle.laying.specs.Placed.{Placed, placed, by_offset}
use Rattle.ink.specs.Lent.{lent}
use Rattle.mask.specs.Calls.{lay_placed_answer, mask_after_laying}
use Rattle.examples.specs.Starred.{row, past, ink}

abbrev pub at : ℤ → ℤ → Corner
at x y = record { x = x; y = y }

-- the two masks at these corners
abbrev pub masks_at : Corner → Corner → Placed
masks_at own other = placed (record { size = row 3; corner = own }) (record { size = row 2; corner = other })

abbrev pub mask : List ℕ
mask = 10 ∷ 20 ∷ 30 ∷ past

abbrev pub other : List ℕ
other = 255 ∷ 255 ∷ past

-- done, with these cells
abbrev pub Lays : Corner → Corner → List ℕ → Type 0
Lays own others cells = (lay_placed_answer (masks_at own others) (lent mask ink) 3 ≡ Ok tt) × (mask_after_laying (Ok tt) (by_offset (masks_at own others)) mask other ≡ cells ++ past)

-- refused, where buffers of so many bytes are lent
abbrev pub Refuses : Placed → ℕ → ℕ → Fault → Type 0
Refuses p n m f = lay_placed_answer p (record { mask = n; ink = 2 }) m ≡ Err f

-- with 16, where enough is lent
abbrev pub TooFar : Corner → Corner → Type 0
TooFar own others = Refuses (masks_at own others) 3 2 CornerOutOfRange

abbrev pub origin : Corner
origin = at (pos 0) (pos 0)

-- 1,048,576, one more, and both below 0; the ends of a signed 32-bit number
abbrev pub most : ℤ
most = pos 1048576

abbrev pub least : ℤ
least = negsuc 1048575

abbrev pub over : ℤ
over = pos 1048577

abbrev pub under : ℤ
under = negsuc 1048576

abbrev pub last_word : ℤ
last_word = pos 2147483647

abbrev pub first_word : ℤ
first_word = negsuc 2147483647

pub record LaidByCorners : Type 0 where
  -- 'own corner minus the other's': as the offsets (1,0), (−1,0) and (0,1)
  pub to_the_right : Lays (at (pos 1) (pos 0)) origin (10 ∷ 0 ∷ 0 ∷ [])
  pub to_the_left : Lays origin (at (pos 1) (pos 0)) (0 ∷ 20 ∷ 30 ∷ [])
  pub below : Lays (at (pos 0) (pos 1)) origin (0 ∷ 0 ∷ 0 ∷ [])
  -- wherever both stand
  pub far_off : Lays (at most least) (at (pos 1048575) least) (10 ∷ 0 ∷ 0 ∷ [])
  -- 'a corner number beyond ±1,048,576 with 16': the ends pass, one more does not, each of the four numbers
  pub apart : Lays (at most (pos 0)) (at least (pos 0)) (0 ∷ 0 ∷ 0 ∷ [])
  pub own_over : TooFar (at over (pos 0)) origin × TooFar (at (pos 0) over) origin
  pub own_under : TooFar (at under (pos 0)) origin × TooFar (at (pos 0) under) origin
  pub other_over : TooFar origin (at over (pos 0)) × TooFar origin (at (pos 0) over)
  pub other_under : TooFar origin (at under (pos 0)) × TooFar origin (at (pos 0) under)
  -- differences that would overflow are never taken
  pub ends : TooFar (at last_word (pos 0)) (at (negsuc 0) (pos 0)) × TooFar (at (pos 0) first_word) (at (pos 0) (pos 1))
  pub both_ends : TooFar (at last_word last_word) (at first_word first_word)
  -- 'directly after 3': 3 before 16, and 16 before 4, of either mask
  pub three_first : Refuses (placed (record { size = row 3; corner = at over over }) (record { size = row 4097; corner = origin })) 3 2 MaskTooLarge
  pub before_four : Refuses (masks_at (at over (pos 0)) origin) 2 2 CornerOutOfRange × Refuses (masks_at origin (at over (pos 0))) 2 2 CornerOutOfRange
  pub four_last : Refuses (masks_at origin origin) 2 2 BufferTooShort × Refuses (masks_at origin origin) 3 1 BufferTooShort
