-- The header of a PGM file, read from its first byte on (document 02, change 4: 'Read such files too'). What a header
-- is, said without the reading: Laws.antt. Definitions only.
use Rattle.std.specs.Prelude.{ℕ, suc, ◌+◌, ◌-◌, ◌*◌, Bool, cond, ◌||◌, ◌&&◌, List, [], ◌∷◌, ltb, leb, eqb, take, drop}
use Rattle.cells.specs.declared.Size.{Size}

-- ---- bytes

-- 'PGM whitespace (blank, tab, carriage return, line feed)'
unfoldable pub is_space : ℕ → Bool
is_space b = ((eqb b 32 || eqb b 9) || eqb b 13) || eqb b 10

-- from "0" to "9"
unfoldable pub is_digit : ℕ → Bool
is_digit b = leb 48 b && leb b 57

-- how many bytes of a kind there are at the front
unfoldable pub leading : (ℕ → Bool) → List ℕ → ℕ
leading is [] = 0
leading is (b ∷ bs) = cond (is b) (suc (leading is bs)) 0

-- the number that digits spell, behind a number read before them
unfoldable pub value_of : ℕ → List ℕ → ℕ
value_of before [] = before
value_of before (b ∷ bs) = value_of (before * 10 + (b - 48)) bs

-- ---- what is read and the bytes behind it, or a header at fault: number 13

pub data Read (A : Type 0) : Type 0 where
  ok : A → List ℕ → Read A
  bad : Read A

-- reading goes on behind what was read
unfoldable pub and_then : {A B : Type 0} → Read A → (A → List ℕ → Read B) → Read B
and_then (ok a rest) more = more a rest
and_then bad more = bad

-- ---- field by field

-- 'a wrong mark': not "P5"
unfoldable pub read_mark : List ℕ → Read Unit
read_mark [] = bad
read_mark (a ∷ []) = bad
read_mark (a ∷ b ∷ bs) = cond (eqb a 80 && eqb b 53) (ok tt bs) bad

-- 'a missing or bad number or one of over nine digits (leading zeros counted)'
unfoldable pub read_digits : List ℕ → Read ℕ
unfolding leading value_of is_digit
read_digits bs =
    cond (eqb (leading is_digit bs) 0 || ltb 9 (leading is_digit bs)) bad
    (ok (value_of 0 (take (leading is_digit bs) bs)) (drop (leading is_digit bs) bs))

-- 'one or more bytes of PGM whitespace .. before width, height and depth', and the number
unfoldable pub read_field : List ℕ → Read ℕ
unfolding leading is_space read_digits
read_field bs = cond (eqb (leading is_space bs) 0) bad (read_digits (drop (leading is_space bs) bs))

-- 'a width or height of 0'
unfoldable pub read_positive : List ℕ → Read ℕ
unfolding and_then read_field
read_positive bs = and_then (read_field bs) (λ n rest. cond (eqb n 0) bad (ok n rest))

-- 'exactly one whitespace byte after the depth'
unfoldable pub read_space : List ℕ → Read Unit
unfolding is_space
read_space [] = bad
read_space (b ∷ bs) = cond (is_space b) (ok tt bs) bad

-- what a header says
pub record Head : Type 0 where
  pub size : Size
  pub depth : ℕ

-- the depth and the byte behind it, of a header whose size is read
unfoldable pub read_depth : Size → List ℕ → Read Head
unfolding and_then read_field read_space
read_depth size bs =
    and_then (read_field bs) (λ depth more. and_then (read_space more) (λ u raster. ok (record { size = size; depth = depth }) raster))

-- 'width, height and depth'
unfoldable pub read_fields : List ℕ → Read Head
unfolding and_then read_positive read_depth
read_fields bs =
    and_then (read_positive bs) (λ width more. and_then (read_positive more) (λ height rest. read_depth (record { width = width; height = height }) rest))

-- the header; what is behind it is the raster
unfoldable pub read_header : List ℕ → Read Head
unfolding and_then read_mark read_fields
read_header bs = and_then (read_mark bs) (λ u more. read_fields more)
