-- Document 02, change 10: what the call on a list and a safe area answers. Definitions only; proofs/Inside.antt shows
-- them.
use Rattle.std.specs.Prelude.{◌≡◌, [], ◌∷◌, Float, Some, None, Ok, Err}
use Rattle.std.specs.Float.{nan, binary32}
use Rattle.std.specs.Float.Ieee.{of_bits}
use Rattle.float.specs.Ops.{f0, f1, f_minus_1}
use Rattle.fault.specs.declared.Fault.TheVariants.{NumberOutOfRange, ImproperBox, TooManyBoxes}
use Rattle.shape.specs.declared.RoundedBox.{RoundedBox}
use Rattle.inside.specs.Inside.{inside_call}
use Rattle.examples.specs.Starred.{f4}
use Rattle.examples.specs.Touches.{f4½, past4½, f5, upright, upright_at, square, sliver, behind}
use Rattle.inside.specs.declared.Inside.TheVariants as inside

-- 2^-149, the least float above 0
abbrev pub least : Float
least = of_bits binary32 0x0000_0001

-- half a fringe width larger than `square` at a fringe of 1, one float more, and a whole one larger
abbrev pub half_larger : RoundedBox
half_larger = upright f4½ f4½ f0

abbrev pub past_half_larger : RoundedBox
past_half_larger = upright past4½ f4 f0

abbrev pub larger : RoundedBox
larger = upright f5 f5 f0

abbrev pub improper : RoundedBox
improper = upright f_minus_1 f4 f0

abbrev pub no_number : RoundedBox
no_number = upright_at nan f4 f4 f0

pub record SafeArea : Type 0 where
  -- 'No safe-area coverage at that fringe is a "no box" outcome, looked at before the list's answer': a thin area, and
  -- fringes that are numbers but no widths
  pub thin : inside_call [] sliver f1 ≡ Ok None
  pub thin_outside : inside_call (larger ∷ []) sliver f1 ≡ Ok None
  pub fringe_zero : inside_call [] square f0 ≡ Ok None
  pub fringe_below : inside_call (square ∷ []) square f_minus_1 ≡ Ok None
  -- 'With coverage, an empty list holds'
  pub empty : inside_call [] square f1 ≡ Ok (Some inside.All)
  -- `contains` has a slack of half a fringe width
  pub same : inside_call (square ∷ []) square f1 ≡ Ok (Some inside.All)
  pub half : inside_call (half_larger ∷ []) square f1 ≡ Ok (Some inside.All)
  pub past_half : inside_call (past_half_larger ∷ []) square f1 ≡ Ok (Some (inside.Outside 0))
  pub whole : inside_call (larger ∷ []) square f1 ≡ Ok (Some (inside.Outside 0))
  -- 'the lowest place where it fails'
  pub lowest : inside_call (square ∷ larger ∷ square ∷ larger ∷ []) square f1 ≡ Ok (Some (inside.Outside 1))
  -- at the least fringe there is a coverage of infinities, in which distances are NaNs
  pub least_fringe : inside_call (square ∷ []) square least ≡ Ok (Some (inside.Outside 0))
  -- 'the list's boxes are checked first, then the safe-area box, then the fringe'; a box is checked whatever was found
  -- before it
  pub behind_outside : inside_call (larger ∷ improper ∷ []) square f1 ≡ Err ImproperBox
  pub list_first : inside_call (no_number ∷ []) improper f1 ≡ Err NumberOutOfRange
  pub area_next : inside_call (larger ∷ []) improper nan ≡ Err ImproperBox
  pub fringe_last : inside_call (larger ∷ []) sliver nan ≡ Err NumberOutOfRange

-- 4,096 boxes, the last alone outside; and one box more, whatever they are
pub record FullList : Type 0 where
  pub last : inside_call (behind 4095 square larger) square f1 ≡ Ok (Some (inside.Outside 4095))
  pub one_more : inside_call (behind 4096 no_number larger) improper nan ≡ Err TooManyBoxes
