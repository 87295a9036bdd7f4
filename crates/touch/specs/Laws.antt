-- The answer of a touch read back: which place is named, when 'no frame' comes and when a list is refused; and what
-- held of it before document 02's changes 7, 3 and 2. Proved in proofs/Laws.antt.
use Rattle.std.specs.Prelude.{ℕ, zero, suc, ◌<◌, ◌≤◌, ◌≡◌, Bool, true, false, List, [], ◌∷◌, ◌++◌, Float, length, Option, Some, None, Result, Ok, Err}
use Rattle.fault.specs.declared.Fault.{Fault}
use Rattle.fault.specs.declared.Fault.TheVariants.{TooManyBoxes}
use Rattle.fault.specs.Check.{Check}
use Rattle.geometry.specs.declared.Position.{Position}
use Rattle.shape.specs.declared.RoundedBox.{RoundedBox}
use Rattle.boxes.specs.Checks.{most_boxes}
use Rattle.covering.specs.Touches.{touches_of}
use Rattle.covering.specs.Laws.{on_or_inside_of}
use Rattle.touch.specs.Touch.{touch_check_of, touch_within, touch_call}

-- at place k, counted from 0, there is a box 'whose coverage exists and whose distance at the point is at most' 0.5
abbrev pub touches_at : List RoundedBox → Float → Position → ℕ → Bool
touches_at [] fringe p k = false
touches_at (b ∷ bs) fringe p zero = touches_of b fringe p
touches_at (b ∷ bs) fringe p (suc k) = touches_at bs fringe p k

-- k is 'the lowest place whose box holds the touch'
pub record LowestTouched (bs : List RoundedBox) (fringe : Float) (p : Position) (k : ℕ) : Type 0 where
  pub touched : touches_at bs fringe p k ≡ true
  pub none_below : (j : ℕ) → j < k → touches_at bs fringe p j ≡ false

-- a list that is not refused gets a place exactly when it is the lowest that is touched; it is a box's, below the limit
pub record FrameExactlyWhen : Type 0 where
  pub only : (bs : List RoundedBox) (fringe : Float) (p : Position) (k : ℕ) → touch_call bs fringe p ≡ Ok (Some k)
      → (touch_check_of bs fringe p ≡ Ok tt) × LowestTouched bs fringe p k × (k < length bs) × (k < most_boxes)
  pub always : (bs : List RoundedBox) (fringe : Float) (p : Position) (k : ℕ)
      → touch_check_of bs fringe p ≡ Ok tt → LowestTouched bs fringe p k → touch_call bs fringe p ≡ Ok (Some k)

-- a list that is not refused gets 'no frame' exactly when no box is touched
pub record NoFrameExactlyWhen : Type 0 where
  pub only : (bs : List RoundedBox) (fringe : Float) (p : Position) → touch_call bs fringe p ≡ Ok None
      → (touch_check_of bs fringe p ≡ Ok tt) × ((k : ℕ) → touches_at bs fringe p k ≡ false)
  pub always : (bs : List RoundedBox) (fringe : Float) (p : Position)
      → touch_check_of bs fringe p ≡ Ok tt → ((k : ℕ) → touches_at bs fringe p k ≡ false) → touch_call bs fringe p ≡ Ok None

-- a list is refused with a fault exactly when its check refuses with that fault, whatever is touched. (The causes, said
-- without the check: box_fault/specs/Laws.antt)
pub record RefusedExactlyWhen : Type 0 where
  pub only : (bs : List RoundedBox) (fringe : Float) (p : Position) (f : Fault) → touch_call bs fringe p ≡ Err f
      → touch_check_of bs fringe p ≡ Err f
  pub always : (bs : List RoundedBox) (fringe : Float) (p : Position) (f : Fault)
      → touch_check_of bs fringe p ≡ Err f → touch_call bs fringe p ≡ Err f

-- document 02, change 7: 'Number 12 is now for more than 4,096, at the same place in the order', which is the first:
-- whatever boxes, fringe and point hold
pub record TwelveExactlyWhen : Type 0 where
  pub only : (bs : List RoundedBox) (fringe : Float) (p : Position) → touch_call bs fringe p ≡ Err TooManyBoxes → 4096 < length bs
  pub always : (bs : List RoundedBox) (fringe : Float) (p : Position) → 4096 < length bs → touch_call bs fringe p ≡ Err TooManyBoxes

-- ---- before document 02, change 7: number 12 was 'over 256 boxes in a touch list', and the place a byte. That call is
-- touch_within 256

pub record ShortListsAsBefore (bs : List RoundedBox) (fringe : Float) (p : Position) : Type 0 where
  -- 'Lists of 256 or fewer name the same places as before', and get 'no frame' and each refusal as before
  pub same : length bs ≤ 256 → touch_call bs fringe p ≡ touch_within 256 bs fringe p
  -- each such place is a byte still
  pub byte : length bs ≤ 256 → (k : ℕ) → touch_call bs fringe p ≡ Ok (Some k) → k < 256
  -- every longer list was refused
  pub longer : 256 < length bs → touch_within 256 bs fringe p ≡ Err TooManyBoxes

-- ---- the rule before document 02, change 3: 'the place of some box', any that is touched

-- what held of the answer to a list that is not refused
abbrev pub FoundRule : List RoundedBox → Float → Position → Result (Option ℕ) Fault → Type 0
FoundRule bs fringe p (Ok (Some k)) = touches_at bs fringe p k ≡ true
FoundRule bs fringe p (Ok None) = (k : ℕ) → touches_at bs fringe p k ≡ false
FoundRule bs fringe p (Err f) = ⊥

abbrev pub RuleUnless : Check → List RoundedBox → Float → Position → Result (Option ℕ) Fault → Type 0
RuleUnless (Err f) bs fringe p r = r ≡ Err f
RuleUnless (Ok _) bs fringe p r = FoundRule bs fringe p r

-- what held of the answer r
abbrev pub TouchRule : List RoundedBox → Float → Position → Result (Option ℕ) Fault → Type 0
TouchRule bs fringe p r = RuleUnless (touch_check_of bs fringe p) bs fringe p r

pub record AsBefore (bs : List RoundedBox) (fringe : Float) (p : Position) : Type 0 where
  -- the answer is one that was right before
  pub right : TouchRule bs fringe p (touch_call bs fringe p)
  -- where places were right, it is the lowest of them
  pub lowest : (j : ℕ) → TouchRule bs fringe p (Ok (Some j)) → (k : ℕ) × (touch_call bs fringe p ≡ Ok (Some k)) × (k ≤ j)
  -- and every other answer that was right is the answer still
  pub no_frame : TouchRule bs fringe p (Ok None) → touch_call bs fringe p ≡ Ok None
  pub refused : (f : Fault) → TouchRule bs fringe p (Err f) → touch_call bs fringe p ≡ Err f

-- ---- beside the rule before document 02, change 2: 'a touch must fall on or inside the outline' of a box b, which
-- stands anywhere in the list

pub record StillNamed (before after : List RoundedBox) (b : RoundedBox) (fringe : Float) (p : Position) : Type 0 where
  -- a place is named still: that of b, or a lower one
  pub named : on_or_inside_of b fringe p ≡ true → touch_check_of (before ++ b ∷ after) fringe p ≡ Ok tt
      → (k : ℕ) × (touch_call (before ++ b ∷ after) fringe p ≡ Ok (Some k)) × (k ≤ length before)
  -- and 'no frame' comes only where it came before
  pub no_frame : touch_call (before ++ b ∷ after) fringe p ≡ Ok None → on_or_inside_of b fringe p ≡ false
