-- Files whose answers are worked out by hand from document 02's sentences, one for each corner of them. Proved by
-- computing, in proofs/Files.antt.
use Rattle.std.specs.Prelude.{ℕ, ◌≡◌, List, [], ◌∷◌, ◌++◌, pos, length, Result, Ok, Err}
use Rattle.fault.specs.declared.Fault.{Fault}
use Rattle.fault.specs.declared.Fault.TheVariants.{MaskTooLarge, BufferTooShort, NotPgm, WrongDepth, WrongRaster}
use Rattle.cells.specs.declared.Size.{Size}
use Rattle.cells.specs.declared.MaskRecord.{MaskRecord}
use Rattle.ink.specs.Lent.{lent}
use Rattle.pgm_writer.specs.Text.{header_text}
use Rattle.pgm.specs.Calls.{write_call, file_after, read_call, mask_after_reading, ink_after_reading}

-- ---- pieces, in ASCII

abbrev pub lf : List ℕ
lf = 10 ∷ []

abbrev pub sp : List ℕ
sp = 32 ∷ []

-- "P5"
abbrev pub mark : List ℕ
mark = 80 ∷ 53 ∷ []

-- "1", "254", "255", "4097"
abbrev pub d1 : List ℕ
d1 = 49 ∷ []

abbrev pub d254 : List ℕ
d254 = 50 ∷ 53 ∷ 52 ∷ []

abbrev pub d255 : List ℕ
d255 = 50 ∷ 53 ∷ 53 ∷ []

abbrev pub d4097 : List ℕ
d4097 = 52 ∷ 48 ∷ 57 ∷ 55 ∷ []

-- eight zeros
abbrev pub zeros : List ℕ
zeros = 48 ∷ 48 ∷ 48 ∷ 48 ∷ 48 ∷ 48 ∷ 48 ∷ 48 ∷ []

-- "999999999"
abbrev pub nines : List ℕ
nines = 57 ∷ 57 ∷ 57 ∷ 57 ∷ 57 ∷ 57 ∷ 57 ∷ 57 ∷ 57 ∷ []

-- a cell of 7
abbrev pub c7 : List ℕ
c7 = 7 ∷ []

-- the lines of a file of 1 by 1 before its depth
abbrev pub small : List ℕ
small = mark ++ lf ++ d1 ++ sp ++ d1 ++ lf

-- ---- what a call answers, and what it leaves of what was lent to be written

-- a mask of one byte, 9
abbrev pub m9 : List ℕ
m9 = 9 ∷ []

-- and ink for its row, 6 and 6
abbrev pub i66 : List ℕ
i66 = 6 ∷ 6 ∷ []

abbrev pub Reads : List ℕ → List ℕ → List ℕ → Result MaskRecord Fault → List ℕ → List ℕ → Type 0
Reads file mask ink answer after inked =
    (read_call file (lent mask ink) ≡ answer) × ((mask_after_reading answer file mask ≡ after) × (ink_after_reading answer after ink ≡ inked))

abbrev pub by : ℕ → ℕ → Size
by width height = record { width = width; height = height }

-- read as 1 by 1, 'stands at (0, 0)'
abbrev pub one_by_one : Result MaskRecord Fault
one_by_one = Ok (record { size = by 1 1; corner = record { x = pos 0; y = pos 0 } })

-- of this cell, which has ink
abbrev pub Cell : List ℕ → ℕ → Type 0
Cell file byte = Reads file m9 i66 one_by_one (byte ∷ []) (0 ∷ 1 ∷ [])

-- refused: 'Left as it was: all lent'
abbrev pub Refuses : List ℕ → List ℕ → List ℕ → Fault → Type 0
Refuses file mask ink fault = Reads file mask ink (Err fault) mask ink

-- refused with 13
abbrev pub Not : List ℕ → Type 0
Not file = Refuses file m9 i66 NotPgm

abbrev pub Writes : Size → List ℕ → List ℕ → Result ℕ Fault → List ℕ → Type 0
Writes size mask file answer after = (write_call size (length mask) (length file) ≡ answer) × (file_after answer size mask file ≡ after)

-- eleven bytes of 9
abbrev pub nine11 : List ℕ
nine11 = 9 ∷ 9 ∷ 9 ∷ 9 ∷ 9 ∷ 9 ∷ 9 ∷ 9 ∷ 9 ∷ 9 ∷ 9 ∷ []

pub record Files : Type 0 where
  -- taken
  pub plain : Cell (small ++ d255 ++ lf ++ c7) 7
  pub leading_zeros : Cell (mark ++ lf ++ zeros ++ d1 ++ sp ++ d1 ++ lf ++ (48 ∷ 48 ∷ 48 ∷ 48 ∷ 48 ∷ 48 ∷ []) ++ d255 ++ lf ++ c7) 7
  pub any_whitespace : Cell (mark ++ (32 ∷ 9 ∷ 13 ∷ 10 ∷ []) ++ d1 ++ lf ++ lf ++ d1 ++ sp ++ d255 ++ sp ++ c7) 7
  pub cell_of_line_feed : Cell (small ++ d255 ++ lf ++ lf) 10
  pub cell_of_number_sign : Cell (small ++ d255 ++ lf ++ (35 ∷ [])) 35
  pub past_the_cells : Reads (small ++ d255 ++ lf ++ c7) (9 ∷ 8 ∷ []) i66 one_by_one (7 ∷ 8 ∷ []) (0 ∷ 1 ∷ [])
  pub cell_without_ink : Reads (small ++ d255 ++ lf ++ (0 ∷ [])) m9 i66 one_by_one (0 ∷ []) (0 ∷ 0 ∷ [])
  pub past_the_last_row : Reads (small ++ d255 ++ lf ++ c7) m9 (6 ∷ 6 ∷ 5 ∷ []) one_by_one c7 (0 ∷ 1 ∷ 5 ∷ [])
  -- 13
  pub nothing : Not []
  pub one_byte : Not (80 ∷ [])
  pub plain_mark : Not ((80 ∷ 50 ∷ []) ++ lf ++ d1 ++ sp ++ d1 ++ lf ++ d255 ++ lf ++ c7)
  pub before_mark : Not (sp ++ small ++ d255 ++ lf ++ c7)
  pub no_space_after_mark : Not (mark ++ d1 ++ sp ++ d1 ++ lf ++ d255 ++ lf ++ c7)
  pub vertical_tab : Not (mark ++ (11 ∷ []) ++ d1 ++ sp ++ d1 ++ lf ++ d255 ++ lf ++ c7)
  pub form_feed : Not (small ++ d255 ++ (12 ∷ []) ++ c7)
  pub ten_digits : Not (mark ++ lf ++ zeros ++ (48 ∷ []) ++ d1 ++ sp ++ d1 ++ lf ++ d255 ++ lf ++ c7)
  pub plus_sign : Not (mark ++ lf ++ (43 ∷ []) ++ d1 ++ sp ++ d1 ++ lf ++ d255 ++ lf ++ c7)
  pub comma : Not (mark ++ lf ++ d1 ++ (44 ∷ []) ++ d1 ++ lf ++ d255 ++ lf ++ c7)
  pub comment : Not (mark ++ lf ++ (35 ∷ 99 ∷ []) ++ lf ++ d1 ++ sp ++ d1 ++ lf ++ d255 ++ lf ++ c7)
  pub comment_after_depth : Not (small ++ d255 ++ (35 ∷ []) ++ lf ++ c7)
  pub ends_at_depth : Not (small ++ d255)
  pub wrong_depth_ends : Not (small ++ d254)
  pub wrong_depth_and_letter : Not (small ++ d254 ++ (120 ∷ []))
  pub zero_before_depth : Not (mark ++ lf ++ (48 ∷ []) ++ sp ++ d1 ++ lf ++ d254 ++ lf)
  -- 14
  pub wrong_depth : Refuses (small ++ d254 ++ lf) m9 i66 WrongDepth
  pub depth_of_zero : Refuses (small ++ (48 ∷ []) ++ lf ++ c7) m9 i66 WrongDepth
  pub depth_before_size : Refuses (mark ++ lf ++ d4097 ++ sp ++ d1 ++ lf ++ d254 ++ lf) m9 i66 WrongDepth
  -- 3
  pub size_before_raster : Refuses (mark ++ lf ++ d4097 ++ sp ++ d1 ++ lf ++ d255 ++ lf) m9 i66 MaskTooLarge
  pub nine_nines : Refuses (mark ++ lf ++ nines ++ sp ++ nines ++ lf ++ d255 ++ lf) [] [] MaskTooLarge
  -- 15
  pub no_raster : Refuses (small ++ d255 ++ lf) m9 i66 WrongRaster
  pub two_bytes_after_depth : Refuses (small ++ d255 ++ (13 ∷ 10 ∷ []) ++ c7) m9 i66 WrongRaster
  pub raster_before_mask : Refuses (mark ++ lf ++ (50 ∷ []) ++ sp ++ d1 ++ lf ++ d255 ++ lf ++ c7) [] i66 WrongRaster
  pub raster_before_ink : Refuses (small ++ d255 ++ lf) m9 (6 ∷ []) WrongRaster
  -- 4
  pub no_mask : Refuses (small ++ d255 ++ lf ++ c7) [] i66 BufferTooShort
  pub ink_one_short : Refuses (small ++ d255 ++ lf ++ c7) m9 (6 ∷ []) BufferTooShort
  -- written
  pub writes : Writes (by 1 1) c7 (nine11 ++ (9 ∷ 8 ∷ [])) (Ok 12) (small ++ d255 ++ lf ++ c7 ++ (8 ∷ []))
  pub file_one_short : Writes (by 1 1) c7 nine11 (Err BufferTooShort) nine11
  pub mask_one_short : Writes (by 1 2) c7 (nine11 ++ (9 ∷ 9 ∷ [])) (Err BufferTooShort) (nine11 ++ (9 ∷ 9 ∷ []))
  pub no_width_before_size : Writes (by 0 4097) [] nine11 (Err NotPgm) nine11
  pub no_height : Writes (by 1 0) c7 nine11 (Err NotPgm) nine11
  pub size_before_mask_short : Writes (by 4097 1) [] [] (Err MaskTooLarge) []
  pub one_digit_more : header_text (by 10 9) ≡ mark ++ lf ++ (49 ∷ 48 ∷ []) ++ sp ++ (57 ∷ []) ++ lf ++ d255 ++ lf
  pub a_digit_of_0 : header_text (by 100 4096) ≡ mark ++ lf ++ (49 ∷ 48 ∷ 48 ∷ []) ++ sp ++ (52 ∷ 48 ∷ 57 ∷ 54 ∷ []) ++ lf ++ d255 ++ lf
