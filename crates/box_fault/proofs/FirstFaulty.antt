-- What a box with a half extent below 0 meets (specs/FirstFaulty.antt). Assumes nothing.
use Rattle.std.specs.Prelude.{Err}
use mathlib.Core.Path.{◌≡◌, refl, sym}
use mathlib.Core.Bool.{Bool, true, false, true≢false, cond, ◌||◌}
use mathlib.Core.Logic.{◌⊎◌, inl, inr}
use mathlib.Core.List.{List, [], ◌∷◌, ◌++◌}
use Prim.Native.Nat.{◌≤◌}
use lib.Ieee.{Float, lt}
use lib.ListN.{length}
use Rattle.float.specs.Ops.{f0}
use Rattle.fault.specs.declared.Fault.{Fault}
use Rattle.fault.specs.declared.Fault.TheVariants.{NumberOutOfRange, ImproperBox}
use Rattle.fault.specs.Number.{number_of}
use Rattle.shape.specs.declared.RoundedBox.{RoundedBox}
use Rattle.shape.specs.Checks.{box_check_of}
use Rattle.boxes.specs.Checks.{most_boxes}
use Rattle.boxes.specs.Laws.{All}
use Rattle.outline.specs.Outline.{all_in_range_of}
use Rattle.box_fault.specs.Causes.{FirstAtFault, here, later, box_numbers, ImproperSide, BoxFault, number, improper, Faultless, of_box, FaultlessList, of_touch_list, of_list, of_safe}
use Rattle.box_fault.specs.FirstFaulty.{below_zero_of, cause_of, AsFirst, AsSecond, Listed, AsSafeArea, FirstFaultyBox}
use Rattle.box_fault.proofs.Boxes.{box_refused, box_passes}
use Rattle.box_fault.proofs.Laws.{refused_exactly_when}

numbered : (good : Bool) → number_of (cond good ImproperBox NumberOutOfRange) ≡ cond good 2 1
numbered true = refl
numbered false = refl

-- ---- the cause of such a box

either_below : (b : RoundedBox) → below_zero_of b ≡ true → ImproperSide b.ex b.rx ⊎ ImproperSide b.ey b.ry
either_below b h = go (lt b.ex f0) (lt b.ey f0) refl refl h
  where
    go : (x y : Bool) → lt b.ex f0 ≡ x → lt b.ey f0 ≡ y → x || y ≡ true → ImproperSide b.ex b.rx ⊎ ImproperSide b.ey b.ry
    go true y e f h = inl (inl e)
    go false true e f h = inr (inl f)
    go false false e f h = absurd (true≢false (sym h))

caused : (b : RoundedBox) (good : Bool) → all_in_range_of (box_numbers b) ≡ good → below_zero_of b ≡ true → BoxFault b (cond good ImproperBox NumberOutOfRange)
caused b true e h = improper e (either_below b h)
caused b false e h = number e

faulty : (b : RoundedBox) → below_zero_of b ≡ true → box_check_of b ≡ Err (cause_of b)
faulty b h = box_refused b (cause_of b) (caused b (all_in_range_of (box_numbers b)) refl h)

-- ---- as the first box, and as the second

first : AsFirst
first = record {
  transformed = λ t b h. rw (faulty b h);
  bounds = λ b h. rw (faulty b h);
  coverage = λ fringe b h. rw (faulty b h);
  touches = λ fringe p b h. rw (faulty b h);
  contains = λ k b h. rw (faulty b h);
  parallel = λ two b h. rw (faulty b h);
  rect_intersection = λ two b h. rw (faulty b h);
  intersection = λ two fringe b h. rw (faulty b h);
  with_scissor = λ s fringe b h. rw (faulty b h);
  trimmed_scissor = λ s fringe b h. rw (faulty b h);
  rect_fill = λ fill fringe b h. rw (faulty b h);
}

second : (one : RoundedBox) → Faultless one → AsSecond one
second one g = let passes = box_passes one g in record {
  parallel = λ b h. rw (passes, faulty b h);
  rect_intersection = λ b h. rw (passes, faulty b h);
  intersection = λ fringe b h. rw (passes, faulty b h);
  with_scissor = λ fringe b h. rw (passes, faulty b h);
  trimmed_scissor = λ fringe b h. rw (passes, faulty b h);
  rect_fill = λ fringe b h. rw (passes, faulty b h);
}

-- ---- in a list, and as the safe area

behind : (before after : List RoundedBox) (b : RoundedBox) {f : Fault} → All Faultless before → BoxFault b f
    → FirstAtFault Faultless BoxFault (before ++ b ∷ after) f
behind [] after b g h = here h
behind (x ∷ xs) after b g h = later g.0 (behind xs after b g.1 h)

listed : (before after : List RoundedBox) (b : RoundedBox) (fringe : Float)
    → length (before ++ b ∷ after) ≤ most_boxes → All Faultless before → below_zero_of b ≡ true → Listed before after b fringe
listed before after b fringe few g h =
    let bs = before ++ b ∷ after in
    let first = of_box few (behind before after b g (caused b (all_in_range_of (box_numbers b)) refl h)) in
    record {
      touch = λ p. (refused_exactly_when.touch bs fringe p).always (cause_of b) (of_touch_list first);
      all_inside = λ safe. (refused_exactly_when.all_inside bs safe fringe).always (cause_of b) (of_list first);
    }

safe_area : (bs : List RoundedBox) → FaultlessList bs → AsSafeArea bs
safe_area bs g fringe b h =
    (refused_exactly_when.all_inside bs b fringe).always (cause_of b) (of_safe g (caused b (all_in_range_of (box_numbers b)) refl h))

pub first_faulty_box : FirstFaultyBox
first_faulty_box = record {
  number = λ b. numbered (all_in_range_of (box_numbers b));
  first = first;
  second = second;
  listed = listed;
  safe_area = safe_area;
}
