-- A box's check, that of two boxes and a fringe, of a touch list and of a list and a safe area, by their causes
-- (specs/Causes.antt). Assumes nothing.
use Rattle.std.specs.Prelude.{Ok, Err}
use mathlib.Core.Path.{◌≡◌, refl, sym}
use mathlib.Core.Bool.{Bool, true, false, ◌&&◌}
use mathlib.Core.Logic.{◌⊎◌, inl, inr}
use mathlib.Core.List.{List, [], ◌∷◌}
use lib.Dec.{ltb}
use lib.Ieee.{Float, lt}
use lib.ListN.{length}
use borrow.Author.Tests.{lt-ltb, le-ltb, ltb-true, ltb-false}
use Rattle.float.specs.Ops.{f0}
use Rattle.fault.specs.declared.Fault.{Fault}
use Rattle.fault.specs.declared.Fault.TheVariants.{NumberOutOfRange, ImproperBox, TooManyBoxes}
use Rattle.fault.specs.Check.{◌and_then◌}
use Rattle.geometry.specs.declared.Position.{Position}
use Rattle.geometry.specs.declared.Transform2D.{Transform2D}
use Rattle.shape.specs.declared.RoundedBox.{RoundedBox}
use Rattle.shape.specs.Checks.{in_range_of, both_in_range_of, frame_in_range_of, box_in_range_of, improper_side_of, improper_of, box_check_of, numbers_check_of, fringe_check_of, point_check_of}
use Rattle.beside.specs.Calls.{pair_fringe_check_of}
use Rattle.cells.proofs.Sizes.{or_true}
use Rattle.boxes.specs.Checks.{most_boxes, boxes_check_of, list_check_of}
use Rattle.boxes.specs.Laws.{All}
use Rattle.touch.specs.Touch.{touch_check_of}
use Rattle.inside.specs.Inside.{inside_check_of}
use Rattle.outline.specs.Outline.{all_in_range_of}
use Rattle.box_fault.specs.Causes.{InRange, frame_numbers, box_numbers, ImproperSide, ProperSide, BoxFault, number, improper, Faultless, PairFault, of_first, of_second, of_fringe}
use Rattle.box_fault.specs.Causes.{FirstAtFault, ListFault, too_many_boxes, of_box, FaultlessList, touch_numbers, TouchFault, of_touch_list, of_touch, InsideFault, of_list, of_safe, of_safe_fringe}
use Rattle.fault.proofs.Decided.{Decided}
use Rattle.box_fault.proofs.Lists.{EachChecked, all_pass, first_refuses, all_decided}

-- ---- numbers: a check's nested tests are one test of a list

and_assoc : (p q r : Bool) → ((p && q) && r) ≡ (p && (q && r))
and_assoc true q r = refl
and_assoc false q r = refl

and_true : (p : Bool) → (p && true) ≡ p
and_true true = refl
and_true false = refl

pub frame_numbers_lem : (t : Transform2D) → frame_in_range_of t ≡ all_in_range_of (frame_numbers t)
unfolding frame_in_range_of both_in_range_of all_in_range_of
frame_numbers_lem t = simp (and_assoc, and_true)

pub box_numbers_lem : (b : RoundedBox) → box_in_range_of b ≡ all_in_range_of (box_numbers b)
unfolding box_in_range_of frame_in_range_of both_in_range_of all_in_range_of
box_numbers_lem b = simp (and_assoc, and_true)

fringe_number : (fringe : Float) → in_range_of fringe ≡ all_in_range_of (fringe ∷ [])
unfolding all_in_range_of
fringe_number fringe = sym (and_true (in_range_of fringe))

-- ---- one side, and one box

side_improper : (extent radius : Float) → ImproperSide extent radius → improper_side_of extent radius ≡ true
unfolding improper_side_of
side_improper extent radius (inl h) = rw h
side_improper extent radius (inr (inl h)) = rw h (or_true (lt extent f0))
side_improper extent radius (inr (inr h)) = rw (h, or_true (lt radius f0)) (or_true (lt extent f0))

side_proper : (extent radius : Float) → ProperSide extent radius → improper_side_of extent radius ≡ false
unfolding improper_side_of
side_proper extent radius h = rw (h.0, h.1, h.2)

side_decided : (extent radius : Float) → ProperSide extent radius ⊎ ImproperSide extent radius
side_decided extent radius = go (lt extent f0) (lt radius f0) (lt extent radius) refl refl refl
  where
    go : (a b c : Bool) → lt extent f0 ≡ a → lt radius f0 ≡ b → lt extent radius ≡ c → ProperSide extent radius ⊎ ImproperSide extent radius
    go true b c e f g = inr (inl e)
    go false true c e f g = inr (inr (inl f))
    go false false true e f g = inr (inr (inr g))
    go false false false e f g = inl (e, f, g)

either_improper : (b : RoundedBox) → ImproperSide b.ex b.rx ⊎ ImproperSide b.ey b.ry → improper_of b ≡ true
unfolding improper_of
either_improper b (inl h) = rw (side_improper b.ex b.rx h)
either_improper b (inr h) = rw (side_improper b.ey b.ry h) (or_true (improper_side_of b.ex b.rx))

pub box_refused : (b : RoundedBox) (f : Fault) → BoxFault b f → box_check_of b ≡ Err f
unfolding box_check_of
box_refused b f (number h) = rw (box_numbers_lem b, h)
box_refused b f (improper h i) = rw (box_numbers_lem b, h, either_improper b i)

pub box_passes : (b : RoundedBox) → Faultless b → box_check_of b ≡ Ok tt
unfolding box_check_of improper_of
box_passes b h = rw (box_numbers_lem b, h.in_range, side_proper b.ex b.rx h.proper_x, side_proper b.ey b.ry h.proper_y)

pub box_decided : (b : RoundedBox) → Decided (Faultless b) (BoxFault b)
box_decided b = go (all_in_range_of (box_numbers b)) (side_decided b.ex b.rx) (side_decided b.ey b.ry) refl
  where
    go : (good : Bool) → ProperSide b.ex b.rx ⊎ ImproperSide b.ex b.rx → ProperSide b.ey b.ry ⊎ ImproperSide b.ey b.ry
        → all_in_range_of (box_numbers b) ≡ good → Decided (Faultless b) (BoxFault b)
    go false x y e = inr (NumberOutOfRange, number e)
    go true (inr x) y e = inr (ImproperBox, improper e (inl x))
    go true (inl x) (inr y) e = inr (ImproperBox, improper e (inr y))
    go true (inl x) (inl y) e = inl (record { in_range = e; proper_x = x; proper_y = y })

-- ---- two boxes and a fringe

module _ (one two : RoundedBox) (fringe : Float) where
  pub pair_refused : (f : Fault) → PairFault one two fringe f → pair_fringe_check_of one two fringe ≡ Err f
  pair_refused f (of_first e) = rw (box_refused one f e)
  pair_refused f (of_second g e) = rw (box_passes one g, box_refused two f e)
  pair_refused f (of_fringe g h e) = rw (box_passes one g, box_passes two h, fringe_number fringe, e)

  abbrev pub PairFaultless : Type 0
  PairFaultless = Faultless one × Faultless two × InRange (fringe ∷ [])

  pub pair_passes : PairFaultless → pair_fringe_check_of one two fringe ≡ Ok tt
  pair_passes h = rw (box_passes one h.0, box_passes two h.1, fringe_number fringe, h.2)

  pub pair_decided : Decided PairFaultless (PairFault one two fringe)
  pair_decided = go (box_decided one) (box_decided two) (all_in_range_of (fringe ∷ [])) refl
    where
      go : Decided (Faultless one) (BoxFault one) → Decided (Faultless two) (BoxFault two) → (good : Bool) → all_in_range_of (fringe ∷ []) ≡ good
          → Decided PairFaultless (PairFault one two fringe)
      go (inr (f, e)) d good h = inr (f, of_first e)
      go (inl g) (inr (f, e)) good h = inr (f, of_second g e)
      go (inl g) (inl k) false h = inr (NumberOutOfRange, of_fringe g k h)
      go (inl g) (inl k) true h = inl (g, k, h)

-- ---- a list of boxes

each_box : EachChecked Faultless BoxFault box_check_of boxes_check_of
each_box = record { none = refl; next = λ b bs. refl; passes = box_passes; caused = box_refused }

module _ (bs : List RoundedBox) where
  list_refused : (f : Fault) → ListFault bs f → list_check_of bs ≡ Err f
  list_refused f (too_many_boxes l) = rw (lt-ltb _ _ l)
  list_refused f (of_box l e) = rw (le-ltb _ _ l, first_refuses each_box bs f e)

  list_passes : FaultlessList bs → list_check_of bs ≡ Ok tt
  list_passes h = rw (le-ltb _ _ h.few, all_pass each_box bs h.boxes)

  list_decided : Decided (FaultlessList bs) (ListFault bs)
  list_decided = go (ltb most_boxes (length bs)) (all_decided box_decided bs) refl
    where
      go : (many : Bool) → Decided (All Faultless bs) (FirstAtFault Faultless BoxFault bs) → ltb most_boxes (length bs) ≡ many
          → Decided (FaultlessList bs) (ListFault bs)
      go true d l = inr (TooManyBoxes, too_many_boxes (ltb-true _ _ l))
      go false (inr (f, e)) l = inr (f, of_box (ltb-false _ _ l) e)
      go false (inl g) l = inl (record { few = ltb-false _ _ l; boxes = g })

-- ---- a touch list

-- two checks of numbers are one test of a list
both_checks : (a b : Bool) → (numbers_check_of a and_then numbers_check_of b) ≡ numbers_check_of (a && b)
both_checks true b = refl
both_checks false b = refl

touch_numbers_lem : (fringe : Float) (p : Position) → (fringe_check_of fringe and_then point_check_of p) ≡ numbers_check_of (all_in_range_of (touch_numbers fringe p))
unfolding both_in_range_of all_in_range_of
touch_numbers_lem fringe p = rw (and_true (in_range_of p.y)) (both_checks (in_range_of fringe) (in_range_of p.x && in_range_of p.y))

module _ (bs : List RoundedBox) (fringe : Float) (p : Position) where
  pub touch_refused : (f : Fault) → TouchFault bs fringe p f → touch_check_of bs fringe p ≡ Err f
  touch_refused f (of_touch_list e) = rw (list_refused bs f e)
  touch_refused f (of_touch g e) = rw (list_passes bs g, touch_numbers_lem fringe p, e)

  abbrev pub TouchFaultless : Type 0
  TouchFaultless = FaultlessList bs × InRange (touch_numbers fringe p)

  pub touch_passes : TouchFaultless → touch_check_of bs fringe p ≡ Ok tt
  touch_passes h = rw (list_passes bs h.0, touch_numbers_lem fringe p, h.1)

  pub touch_decided : Decided TouchFaultless (TouchFault bs fringe p)
  touch_decided = go (list_decided bs) (all_in_range_of (touch_numbers fringe p)) refl
    where
      go : Decided (FaultlessList bs) (ListFault bs) → (good : Bool) → all_in_range_of (touch_numbers fringe p) ≡ good
          → Decided TouchFaultless (TouchFault bs fringe p)
      go (inr (f, e)) good h = inr (f, of_touch_list e)
      go (inl g) false h = inr (NumberOutOfRange, of_touch g h)
      go (inl g) true h = inl (g, h)

-- ---- a list and a safe area

module _ (bs : List RoundedBox) (safe : RoundedBox) (fringe : Float) where
  pub inside_refused : (f : Fault) → InsideFault bs safe fringe f → inside_check_of bs safe fringe ≡ Err f
  inside_refused f (of_list e) = rw (list_refused bs f e)
  inside_refused f (of_safe g e) = rw (list_passes bs g, box_refused safe f e)
  inside_refused f (of_safe_fringe g h e) = rw (list_passes bs g, box_passes safe h, fringe_number fringe, e)

  abbrev pub InsideFaultless : Type 0
  InsideFaultless = FaultlessList bs × Faultless safe × InRange (fringe ∷ [])

  pub inside_passes : InsideFaultless → inside_check_of bs safe fringe ≡ Ok tt
  inside_passes h = rw (list_passes bs h.0, box_passes safe h.1, fringe_number fringe, h.2)

  pub inside_decided : Decided InsideFaultless (InsideFault bs safe fringe)
  inside_decided = go (list_decided bs) (box_decided safe) (all_in_range_of (fringe ∷ [])) refl
    where
      go : Decided (FaultlessList bs) (ListFault bs) → Decided (Faultless safe) (BoxFault safe) → (good : Bool)
          → all_in_range_of (fringe ∷ []) ≡ good → Decided InsideFaultless (InsideFault bs safe fringe)
      go (inr (f, e)) d good h = inr (f, of_list e)
      go (inl g) (inr (f, e)) good h = inr (f, of_safe g e)
      go (inl g) (inl k) false h = inr (NumberOutOfRange, of_safe_fringe g k h)
      go (inl g) (inl k) true h = inl (g, k, h)
