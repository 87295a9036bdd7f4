-- Why a call on boxes or on an outline is refused, in the documents' order, said of what is given and not by the checks.
-- Each cause is given with none before it. Definitions only.
use Rattle.std.specs.Prelude.{◌≡◌, true, false, ◌⊎◌, List, [], ◌∷◌, ℕ, ◌≤◌, ◌<◌, Float, length}
use Rattle.std.specs.Float.Ieee.{lt}
use Rattle.float.specs.Ops.{f0}
use Rattle.fault.specs.declared.Fault.{Fault}
use Rattle.fault.specs.declared.Fault.TheVariants.{NumberOutOfRange, ImproperBox, UnknownVerb, PositionsMismatch, TooManyVerbs, TooManyBoxes}
use Rattle.geometry.specs.declared.Position.{Position}
use Rattle.geometry.specs.declared.Transform2D.{Transform2D}
use Rattle.shape.specs.declared.RoundedBox.{RoundedBox}
use Rattle.boxes.specs.Checks.{most_boxes}
use Rattle.boxes.specs.Laws.{All}
use Rattle.outline.specs.Outline.{floats_needed_of, all_in_range_of}

-- ---- numbers

-- number 1: some number 'is not finite, or its size is over 2^20'; and none is so
abbrev pub OutOfRange : List Float → Type 0
OutOfRange xs = all_in_range_of xs ≡ false

abbrev pub InRange : List Float → Type 0
InRange xs = all_in_range_of xs ≡ true

abbrev pub frame_numbers : Transform2D → List Float
frame_numbers t = t.a ∷ t.b ∷ t.c ∷ t.d ∷ t.x ∷ t.y ∷ []

-- a box's ten numbers: its frame, half extents and radii
abbrev pub box_numbers : RoundedBox → List Float
box_numbers b =
    b.frame.a ∷ b.frame.b ∷ b.frame.c ∷ b.frame.d ∷ b.frame.x ∷ b.frame.y ∷ b.ex ∷ b.ey ∷ b.rx ∷ b.ry ∷ []

-- ---- lists: the first element at fault, where all before it are good

pub data FirstAtFault {A : Type 0} (Good : A → Type 0) (AtFault : A → Fault → Type 0) : List A → Fault → Type 0 where
  here : {x : A} {xs : List A} {f : Fault} → AtFault x f → FirstAtFault Good AtFault (x ∷ xs) f
  later : {x : A} {xs : List A} {f : Fault} → Good x → FirstAtFault Good AtFault xs f → FirstAtFault Good AtFault (x ∷ xs) f

-- ---- one box

-- number 2: 'a half extent or radius below 0, or a radius over its half extent'
abbrev pub ImproperSide : Float → Float → Type 0
ImproperSide extent radius = (lt extent f0 ≡ true) ⊎ ((lt radius f0 ≡ true) ⊎ (lt extent radius ≡ true))

abbrev pub ProperSide : Float → Float → Type 0
ProperSide extent radius = (lt extent f0 ≡ false) × (lt radius f0 ≡ false) × (lt extent radius ≡ false)

-- 'per box 1, 2'
pub data BoxFault (b : RoundedBox) : Fault → Type 0 where
  number : OutOfRange (box_numbers b) → BoxFault b NumberOutOfRange
  improper : InRange (box_numbers b) → ImproperSide b.ex b.rx ⊎ ImproperSide b.ey b.ry → BoxFault b ImproperBox

pub record Faultless (b : RoundedBox) : Type 0 where
  pub in_range : InRange (box_numbers b)
  pub proper_x : ProperSide b.ex b.rx
  pub proper_y : ProperSide b.ey b.ry

-- ---- two boxes and a fringe: 'first box before second, then 1 for a lone .. fringe'
pub data PairFault (one two : RoundedBox) (fringe : Float) : Fault → Type 0 where
  of_first : {f : Fault} → BoxFault one f → PairFault one two fringe f
  of_second : {f : Fault} → Faultless one → BoxFault two f → PairFault one two fringe f
  of_fringe : Faultless one → Faultless two → OutOfRange (fringe ∷ []) → PairFault one two fringe NumberOutOfRange

-- ---- a list of boxes: '12, then per box 1, 2, first box before second'. What is asked of the boxes does not come into
-- it: a box at fault refuses the list, whatever is found before it

pub data ListFault (bs : List RoundedBox) : Fault → Type 0 where
  too_many_boxes : most_boxes < length bs → ListFault bs TooManyBoxes
  of_box : {f : Fault} → length bs ≤ most_boxes → FirstAtFault Faultless BoxFault bs f → ListFault bs f

pub record FaultlessList (bs : List RoundedBox) : Type 0 where
  pub few : length bs ≤ most_boxes
  pub boxes : All Faultless bs

-- ---- a touch list: 'then 1 for a lone frame, fringe and point'

abbrev pub touch_numbers : Float → Position → List Float
touch_numbers fringe p = fringe ∷ p.x ∷ p.y ∷ []

pub data TouchFault (bs : List RoundedBox) (fringe : Float) (p : Position) : Fault → Type 0 where
  of_touch_list : {f : Fault} → ListFault bs f → TouchFault bs fringe p f
  of_touch : FaultlessList bs → OutOfRange (touch_numbers fringe p) → TouchFault bs fringe p NumberOutOfRange

-- ---- a list and a safe area. Document 02, change 10: 'the list's boxes are checked first, then the safe-area box, then
-- the fringe'
pub data InsideFault (bs : List RoundedBox) (safe : RoundedBox) (fringe : Float) : Fault → Type 0 where
  of_list : {f : Fault} → ListFault bs f → InsideFault bs safe fringe f
  of_safe : {f : Fault} → FaultlessList bs → BoxFault safe f → InsideFault bs safe fringe f
  of_safe_fringe : FaultlessList bs → Faultless safe → OutOfRange (fringe ∷ []) → InsideFault bs safe fringe NumberOutOfRange

-- ---- an outline: '11, then verbs in order (8 or 10 at the first verb at fault), 9, then 1 for positions'; document 02,
-- change 5: 'Number 10 no longer occurs'

-- 'a verb byte above 5' is 8
pub data VerbFault (byte : ℕ) : Fault → Type 0 where
  unknown : 5 < byte → VerbFault byte UnknownVerb

abbrev pub KnownVerb : ℕ → Type 0
KnownVerb byte = byte ≤ 5

pub data OutlineFault (verbs : List ℕ) (positions : List Float) : Fault → Type 0 where
  too_many : 256 < length verbs → OutlineFault verbs positions TooManyVerbs
  of_verb : {f : Fault} → length verbs ≤ 256 → FirstAtFault KnownVerb VerbFault verbs f → OutlineFault verbs positions f
  mismatch : length verbs ≤ 256 → All KnownVerb verbs → (floats_needed_of verbs ≡ length positions → ⊥)
      → OutlineFault verbs positions PositionsMismatch
  of_position : length verbs ≤ 256 → All KnownVerb verbs → floats_needed_of verbs ≡ length positions → OutOfRange positions
      → OutlineFault verbs positions NumberOutOfRange

pub record FaultlessOutline (verbs : List ℕ) (positions : List Float) : Type 0 where
  pub few : length verbs ≤ 256
  pub known : All KnownVerb verbs
  pub match : floats_needed_of verbs ≡ length positions
  pub in_range : InRange positions

-- ---- an outline and a frame. Document 02, change 1: 'Whatever else is given with an outline is checked after it'
pub data OutlineFrameFault (verbs : List ℕ) (positions : List Float) (t : Transform2D) : Fault → Type 0 where
  of_outline : {f : Fault} → OutlineFault verbs positions f → OutlineFrameFault verbs positions t f
  of_frame : FaultlessOutline verbs positions → OutOfRange (frame_numbers t) → OutlineFrameFault verbs positions t NumberOutOfRange
