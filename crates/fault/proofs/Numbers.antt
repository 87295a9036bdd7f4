-- Each cause has a number of its own, from 1 to 31, and none has 10 (specs/Number.antt, CauseNumbers). Assumes nothing.
use mathlib.Core.Path.{◌≡◌, refl, sym, ap, ◌∙◌}
use mathlib.Core.List.{[], ◌∷◌}
use Prim.Native.Nat.{ℕ, ◌≤◌}
use native.Mathlib.Omega.{arith}
use lib.ListN.{get_or}
use Rattle.fault.specs.declared.Fault.{Fault}
use Rattle.fault.specs.declared.Fault.TheVariants.{
  NumberOutOfRange,
  ImproperBox,
  MaskTooLarge,
  BufferTooShort,
  ListEndsEarly,
  CountOutOfRange,
  CoordinateOutOfRange,
  UnknownVerb,
  PositionsMismatch,
  TooManyVerbs,
  TooManyBoxes,
  NotPgm,
  WrongDepth,
  WrongRaster,
  CornerOutOfRange,
}
use Rattle.fault.specs.Number.{number_of, CauseNumbers}

-- the causes in the order of their numbers; any stands at 0 and at 10, which are no cause's
abbrev cause_at : ℕ → Fault
cause_at n = get_or (
    NumberOutOfRange
    ∷ NumberOutOfRange
    ∷ ImproperBox
    ∷ MaskTooLarge
    ∷ BufferTooShort
    ∷ ListEndsEarly
    ∷ CountOutOfRange
    ∷ CoordinateOutOfRange
    ∷ UnknownVerb
    ∷ PositionsMismatch
    ∷ NumberOutOfRange
    ∷ TooManyVerbs
    ∷ TooManyBoxes
    ∷ NotPgm
    ∷ WrongDepth
    ∷ WrongRaster
    ∷ CornerOutOfRange
    ∷ []
    ) n NumberOutOfRange

record Tabled (f : Fault) : Type 0 where
  back : cause_at (number_of f) ≡ f
  least : 1 ≤ number_of f
  most : number_of f ≤ 31
  not_ten : number_of f ≡ 10 → ⊥

tabled : (f : Fault) → Tabled f
tabled NumberOutOfRange = record { back = refl; least = omega arith; most = omega arith; not_ten = λ e. omega arith }
tabled ImproperBox = record { back = refl; least = omega arith; most = omega arith; not_ten = λ e. omega arith }
tabled MaskTooLarge = record { back = refl; least = omega arith; most = omega arith; not_ten = λ e. omega arith }
tabled BufferTooShort = record { back = refl; least = omega arith; most = omega arith; not_ten = λ e. omega arith }
tabled ListEndsEarly = record { back = refl; least = omega arith; most = omega arith; not_ten = λ e. omega arith }
tabled CountOutOfRange = record { back = refl; least = omega arith; most = omega arith; not_ten = λ e. omega arith }
tabled CoordinateOutOfRange = record { back = refl; least = omega arith; most = omega arith; not_ten = λ e. omega arith }
tabled UnknownVerb = record { back = refl; least = omega arith; most = omega arith; not_ten = λ e. omega arith }
tabled PositionsMismatch = record { back = refl; least = omega arith; most = omega arith; not_ten = λ e. omega arith }
tabled TooManyVerbs = record { back = refl; least = omega arith; most = omega arith; not_ten = λ e. omega arith }
tabled TooManyBoxes = record { back = refl; least = omega arith; most = omega arith; not_ten = λ e. omega arith }
tabled NotPgm = record { back = refl; least = omega arith; most = omega arith; not_ten = λ e. omega arith }
tabled WrongDepth = record { back = refl; least = omega arith; most = omega arith; not_ten = λ e. omega arith }
tabled WrongRaster = record { back = refl; least = omega arith; most = omega arith; not_ten = λ e. omega arith }
tabled CornerOutOfRange = record { back = refl; least = omega arith; most = omega arith; not_ten = λ e. omega arith }

pub cause_numbers : CauseNumbers
cause_numbers = record {
  least = λ f. (tabled f).least;
  most = λ f. (tabled f).most;
  never_ten = λ f. (tabled f).not_ten;
  apart = λ f g e. sym (tabled f).back ∙ ap cause_at e ∙ (tabled g).back;
}
