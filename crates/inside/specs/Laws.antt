-- The answer of `all_inside` read back, by what `coverage` and `contains` answer of each box as calls of their own
-- (document 02, change 10: 'the layout tests them singly'). Proved in proofs/Laws.antt.
use Rattle.std.specs.Prelude.{ℕ, zero, suc, ◌<◌, ◌≤◌, ◌≡◌, true, false, List, ◌∷◌, Float, length, Some, None, Ok, Err}
use Rattle.fault.specs.declared.Fault.{Fault}
use Rattle.fault.specs.declared.Fault.TheVariants.{TooManyBoxes}
use Rattle.shape.specs.declared.RoundedBox.{RoundedBox}
use Rattle.shape.specs.Checks.{box_check_of}
use Rattle.clip_coverage.specs.declared.ClipCoverage.{ClipCoverage}
use Rattle.clip_coverage.specs.Calls.{contains_call}
use Rattle.covering.specs.Calls.{coverage_call}
use Rattle.boxes.specs.Laws.{All}
use Rattle.inside.specs.declared.Inside.TheVariants as inside
use Rattle.inside.specs.Inside.{inside_check_of, inside_call}

-- '`contains` holds', and 'it fails'
abbrev pub Contained : ClipCoverage → RoundedBox → Type 0
Contained area b = contains_call area b ≡ Ok true

abbrev pub NotContained : ClipCoverage → RoundedBox → Type 0
NotContained area b = contains_call area b ≡ Ok false

-- a box that is not refused: `Faultless` of box_fault/specs/Causes.antt says it without the check
abbrev pub Unrefused : RoundedBox → Type 0
Unrefused b = box_check_of b ≡ Ok tt

-- 'the lowest place where it fails', counted from 0: `contains` holds for each box before it. No box behind it is refused
pub data FirstOutside (area : ClipCoverage) : List RoundedBox → ℕ → Type 0 where
  here : {b : RoundedBox} {bs : List RoundedBox} → NotContained area b → All Unrefused bs → FirstOutside area (b ∷ bs) zero
  later : {b : RoundedBox} {bs : List RoundedBox} {n : ℕ} → Contained area b → FirstOutside area bs n → FirstOutside area (b ∷ bs) (suc n)

-- all are inside exactly when the safe area has a coverage and it contains each; so with coverage an empty list holds
pub record AllInsideExactlyWhen : Type 0 where
  pub only : (bs : List RoundedBox) (safe : RoundedBox) (fringe : Float) → inside_call bs safe fringe ≡ Ok (Some inside.All)
      → (length bs ≤ 4096) × (area : ClipCoverage) × (coverage_call safe fringe ≡ Ok (Some area)) × All (Contained area) bs
  pub always : (bs : List RoundedBox) (safe : RoundedBox) (fringe : Float) (area : ClipCoverage)
      → length bs ≤ 4096 → coverage_call safe fringe ≡ Ok (Some area) → All (Contained area) bs → inside_call bs safe fringe ≡ Ok (Some inside.All)

-- a place is named exactly when the safe area has a coverage and it is the lowest of a box that this does not contain
pub record OutsideExactlyWhen : Type 0 where
  pub only : (bs : List RoundedBox) (safe : RoundedBox) (fringe : Float) (n : ℕ) → inside_call bs safe fringe ≡ Ok (Some (inside.Outside n))
      → (length bs ≤ 4096) × (area : ClipCoverage) × (coverage_call safe fringe ≡ Ok (Some area)) × FirstOutside area bs n
  pub always : (bs : List RoundedBox) (safe : RoundedBox) (fringe : Float) (n : ℕ) (area : ClipCoverage)
      → length bs ≤ 4096 → coverage_call safe fringe ≡ Ok (Some area) → FirstOutside area bs n → inside_call bs safe fringe ≡ Ok (Some (inside.Outside n))
  -- it is a box's: 16 bits hold it
  pub within : (bs : List RoundedBox) (safe : RoundedBox) (fringe : Float) (n : ℕ) → inside_call bs safe fringe ≡ Ok (Some (inside.Outside n))
      → (n < length bs) × (n < 4096)

-- 'no box' exactly when the safe area has no coverage, whatever it would contain: 'looked at before the list's answer'
pub record NoBoxExactlyWhen : Type 0 where
  pub only : (bs : List RoundedBox) (safe : RoundedBox) (fringe : Float) → inside_call bs safe fringe ≡ Ok None
      → (length bs ≤ 4096) × All Unrefused bs × (coverage_call safe fringe ≡ Ok None)
  pub always : (bs : List RoundedBox) (safe : RoundedBox) (fringe : Float)
      → length bs ≤ 4096 → All Unrefused bs → coverage_call safe fringe ≡ Ok None → inside_call bs safe fringe ≡ Ok None

-- a list is refused with a fault exactly when its check refuses with that fault, whatever is contained. (The causes, said
-- without the check: box_fault/specs/Laws.antt)
pub record RefusedExactlyWhen : Type 0 where
  pub only : (bs : List RoundedBox) (safe : RoundedBox) (fringe : Float) (f : Fault) → inside_call bs safe fringe ≡ Err f
      → inside_check_of bs safe fringe ≡ Err f
  pub always : (bs : List RoundedBox) (safe : RoundedBox) (fringe : Float) (f : Fault)
      → inside_check_of bs safe fringe ≡ Err f → inside_call bs safe fringe ≡ Err f

-- 'List limits and their number are those of the touch list': 12 for more than 4,096, whatever boxes, safe area and
-- fringe hold
pub record TwelveExactlyWhen : Type 0 where
  pub only : (bs : List RoundedBox) (safe : RoundedBox) (fringe : Float) → inside_call bs safe fringe ≡ Err TooManyBoxes → 4096 < length bs
  pub always : (bs : List RoundedBox) (safe : RoundedBox) (fringe : Float) → 4096 < length bs → inside_call bs safe fringe ≡ Err TooManyBoxes
