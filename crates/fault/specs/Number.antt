-- The number of each cause: document 01, 'What a call hands back', and document 02, changes 4, 5 and 8. `CauseNumbers` is
-- proved in proofs/Numbers.antt.
use Rattle.std.specs.Prelude.{◌≡◌, ℕ, ◌≤◌}
use Rattle.fault.specs.declared.Fault.{Fault}
use Rattle.fault.specs.declared.Fault.TheVariants.{
  NumberOutOfRange,
  ImproperBox,
  MaskTooLarge,
  BufferTooShort,
  ListEndsEarly,
  CountOutOfRange,
  CoordinateOutOfRange,
  UnknownVerb,
  PositionsMismatch,
  TooManyVerbs,
  TooManyBoxes,
  NotPgm,
  WrongDepth,
  WrongRaster,
  CornerOutOfRange,
}

abbrev pub number_of : Fault → ℕ
number_of NumberOutOfRange = 1
number_of ImproperBox = 2
number_of MaskTooLarge = 3
number_of BufferTooShort = 4
number_of ListEndsEarly = 5
number_of CountOutOfRange = 6
number_of CoordinateOutOfRange = 7
number_of UnknownVerb = 8
number_of PositionsMismatch = 9
number_of TooManyVerbs = 11
number_of TooManyBoxes = 12
number_of NotPgm = 13
number_of WrongDepth = 14
number_of WrongRaster = 15
number_of CornerOutOfRange = 16

-- Each cause has a number of its own, from 1 to 31. 0 and the numbers past 31 are left for what a done call answers.
-- Document 02, change 5: 'Number 10 no longer occurs, and that is shown'
pub record CauseNumbers : Type 0 where
  pub least : (f : Fault) → 1 ≤ number_of f
  pub most : (f : Fault) → number_of f ≤ 31
  pub never_ten : (f : Fault) → number_of f ≡ 10 → ⊥
  pub apart : (f g : Fault) → number_of f ≡ number_of g → f ≡ g
