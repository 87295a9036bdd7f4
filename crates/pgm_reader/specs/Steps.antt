-- What the functions of this crate promise to each other. Definitions only.
use Rattle.std.specs.Prelude.{◌≡◌, ℕ, ◌-◌, ◌<◌, Bool, length, Option, Some, None}
use Rattle.pgm_reader.specs.Reading.{Read, ok, bad, Head}
use Rattle.pgm_reader.specs.declared.Field.{Field}
use Rattle.pgm_reader.specs.declared.Header.{Header}

-- a test, by what it may answer, tells the bytes of a kind
abbrev pub Tells : (ℕ → Bool → Type 0) → (ℕ → Bool) → Type 0
Tells answers kind = (b : ℕ) (r : Bool) → b < 256 → answers b r → r ≡ kind b

-- what is read, handed on by a place in a file of so many bytes instead of the bytes behind it
abbrev pub field_of : ℕ → Read ℕ → Option Field
field_of total (ok n rest) = Some (record { number = n; at = total - length rest })
field_of total bad = None

abbrev pub header_of : ℕ → Read Head → Option Header
header_of total (ok h rest) = Some (record { size = h.size; depth = h.depth; at = total - length rest })
header_of total bad = None
