-- Long lists of boxes (specs/Touches.antt, SheetOfFrames): what boxes alike, and one behind them, are answered, by their
-- number. Assumes nothing.
use Rattle.std.specs.Prelude.{Some, Ok, Err}
use Prim.Native.Nat.{ℕ, zero, suc, ◌+◌, ◌<◌, ◌≤◌}
use mathlib.Core.Path.{◌≡◌, refl, ap}
use mathlib.Core.Bool.{true, false}
use mathlib.Core.List.{List, [], ◌∷◌, ◌++◌}
use native.Mathlib.Omega.{arith}
use lib.Ieee.{nan}
use lib.ListN.{length, replicate, length-append, length-replicate}
use borrow.Author.Tests.{le-ltb}
use Rattle.float.specs.Ops.{f0, f1, f_minus_1}
use Rattle.fault.specs.declared.Fault.{Fault}
use Rattle.fault.specs.declared.Fault.TheVariants.{TooManyBoxes}
use Rattle.shape.specs.declared.RoundedBox.{RoundedBox}
use Rattle.shape.specs.Checks.{box_check_of}
use Rattle.covering.specs.Touches.{touches_of}
use Rattle.boxes.specs.Checks.{most_boxes, boxes_check_of}
use Rattle.touch.specs.Touch.{first_touched_from}
use Rattle.touch.proofs.Laws.{twelve_exactly_when}
use Rattle.examples.specs.Starred.{f4}
use Rattle.examples.specs.Touches.{sliver, square, upright, upright_at, point, Names, behind, SheetOfFrames}
use Rattle.examples.proofs.Touched.{one_box}

pub length_behind : (n : ℕ) (b last : RoundedBox) → length (behind n b last) ≡ n + 1
length_behind n b last = rw (length-append (replicate n b) (last ∷ []), length-replicate n b)

pub few_behind : (n : ℕ) (b last : RoundedBox) → n < most_boxes → length (behind n b last) ≤ most_boxes
few_behind n b last l = rw (length_behind n b last) (omega arith)

too_long : (bs : List RoundedBox) {n : ℕ} → length bs ≡ n → 4096 < n → Names bs f1 (Err TooManyBoxes)
too_long bs e l = twelve_exactly_when.always bs f1 (point f0 f0) (rw e l)

-- boxes that are not refused leave the check to those behind them
module _ (b : RoundedBox) (passes : box_check_of b ≡ Ok tt) where
  checked : (n : ℕ) (bs : List RoundedBox) → boxes_check_of (replicate n b ++ bs) ≡ boxes_check_of bs
  checked zero bs = refl
  checked (suc n) bs = rw passes (checked n bs)

  -- boxes that hold no touch leave it to those behind them
  passed : touches_of b f1 (point f0 f0) ≡ false → (n k place : ℕ) (bs : List RoundedBox) → k + n ≡ place
      → first_touched_from k (replicate n b ++ bs) f1 (point f0 f0) ≡ first_touched_from place bs f1 (point f0 f0)
  passed missed zero k place bs e = let same : k ≡ place = omega arith in rw same
  passed missed (suc n) k place bs e = rw missed (passed missed n (suc k) place bs (omega arith))

  named : touches_of b f1 (point f0 f0) ≡ false → (last : RoundedBox) → box_check_of last ≡ Ok tt
      → touches_of last f1 (point f0 f0) ≡ true → (n : ℕ) → n < most_boxes → Names (behind n b last) f1 (Ok (Some n))
  named missed last good touched n l =
      rw (
        le-ltb _ _ (few_behind n b last l),
        checked n (last ∷ []),
        good,
        one_box.fringe_passes,
        one_box.point_passes,
        passed missed n 0 n (last ∷ []) (omega arith),
        touched,
      )

  refused : (last : RoundedBox) (f : Fault) → box_check_of last ≡ Err f → (n : ℕ) → n < most_boxes
      → Names (behind n b last) f1 (Err f)
  refused last f bad n l = rw (le-ltb _ _ (few_behind n b last l), checked n (last ∷ []), bad)

pub sheet_of_frames : SheetOfFrames
sheet_of_frames =
    let of-slivers = named sliver one_box.sliver_passes one_box.sliver_untouched square one_box.square_passes one_box.square_touched in
    record {
      last = of-slivers 4095 (omega arith);
      one_more = too_long (behind 4096 sliver square) (length_behind 4096 sliver square) (omega arith);
      one_more_first = too_long (upright_at nan f4 f4 f0 ∷ behind 4095 square square) (ap suc (length_behind 4095 square square)) (omega arith);
      past_a_byte = of-slivers 256 (omega arith);
      late_fault = refused square one_box.square_passes (upright f_minus_1 f4 f0) _ one_box.improper 299 (omega arith);
    }
