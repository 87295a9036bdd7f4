-- What a header is, said without the reading: document 02, change 4. Proved in proofs/Laws.antt.
use Rattle.std.specs.Prelude.{◌≡◌, Bool, true, List, [], ◌∷◌, ◌++◌, ℕ, ◌≤◌, ◌<◌, length}
use Rattle.cells.specs.declared.Size.{Size}
use Rattle.pgm_reader.specs.Reading.{is_space, is_digit, value_of, Head, ok, read_header}

-- all bytes are of a kind
unfoldable pub All : (ℕ → Bool) → List ℕ → Type 0
All is [] = Unit
All is (b ∷ bs) = (is b ≡ true) × All is bs

-- 'one or more bytes of PGM whitespace'
pub record Spaces (bytes : List ℕ) : Type 0 where
  pub all : All is_space bytes
  pub some : 0 < length bytes

-- a number: digits, one at least and not 'over nine digits (leading zeros counted)'
pub record Digits (bytes : List ℕ) : Type 0 where
  pub all : All is_digit bytes
  pub some : 0 < length bytes
  pub few : length bytes ≤ 9

-- bytes that begin with whitespace and a number: 'Leading zeros are taken, comments are not'
pub record FieldIs (bytes : List ℕ) (n : ℕ) (rest : List ℕ) : Type 0 where
  pub space : List ℕ
  pub digits : List ℕ
  pub is : bytes ≡ space ++ (digits ++ rest)
  pub is_space_law : Spaces space
  pub is_digits : Digits digits
  pub value : value_of 0 digits ≡ n

-- A file with a header: "P5", then width, height and depth, each behind whitespace, then one whitespace byte; what is
-- left is the raster. Width and height are not 0
pub record HeaderIs (file : List ℕ) (size : Size) (depth : ℕ) (raster : List ℕ) : Type 0 where
  pub after_mark : List ℕ
  pub after_width : List ℕ
  pub after_height : List ℕ
  pub last : ℕ
  pub is_mark : file ≡ 80 ∷ 53 ∷ after_mark
  pub is_width : FieldIs after_mark size.width after_width
  pub is_height : FieldIs after_width size.height after_height
  pub is_depth : FieldIs after_height depth (last ∷ raster)
  pub is_last : is_space last ≡ true
  pub wide : 0 < size.width
  pub high : 0 < size.height

-- a header is read exactly when there is one, and what is read is what it says
pub record HeaderExactlyWhen : Type 0 where
  pub only : (file : List ℕ) (h : Head) (raster : List ℕ) → read_header file ≡ ok h raster → HeaderIs file h.size h.depth raster
  pub always : (file : List ℕ) (size : Size) (depth : ℕ) (raster : List ℕ) → HeaderIs file size depth raster
      → read_header file ≡ ok (record { size = size; depth = depth }) raster

-- no file has two headers
abbrev pub OneHeader : Type 0
OneHeader =
    (file : List ℕ) (size size' : Size) (depth depth' : ℕ) (raster raster' : List ℕ) → HeaderIs file size depth raster
    → HeaderIs file size' depth' raster' → (size ≡ size') × (depth ≡ depth') × (raster ≡ raster')
