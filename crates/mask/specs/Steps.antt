-- What the functions of this crate promise to each other. Definitions only.
use Rattle.std.specs.Prelude.{◌≡◌, cond, ◌||◌, ℕ, Ok, Err}
use Rattle.fault.specs.declared.Fault.TheVariants.{MaskTooLarge, CornerOutOfRange}
use Rattle.fault.specs.Check.{Check}
use Rattle.cells.specs.declared.Size.{Size}
use Rattle.cells.specs.Cells.{too_large}
use Rattle.cells.specs.Corner.{corner_out}
use Rattle.ink.specs.Lent.{Lent}
use Rattle.laying.specs.declared.Offset.{Offset}
use Rattle.laying.specs.Laying.{laying}
use Rattle.laying.specs.Placed.{Placed}
use Rattle.mask.specs.Calls.{lay_answer}

-- a check that tells the answer of a laying-on, whatever its offset, from the sizes and the lengths of what is lent
pub record LayChecked (size : Size) (lent : Lent) (other_size : Size) (other_length : ℕ) (c : Check) : Type 0 where
  pub tells : (offset : Offset) → lay_answer (laying size other_size offset) lent other_length ≡ c

-- what a laying-on by corners is refused for before the laying-on by the offset between them: 3, then 16
abbrev pub corners_check : Placed → Check
corners_check p =
    cond (too_large p.own.size || too_large p.other.size) (Err MaskTooLarge)
    (cond (corner_out p.own.corner || corner_out p.other.corner) (Err CornerOutOfRange) (Ok tt))
