-- What document 01 says of drawings and of laying on as a whole, and document 02, change 8, of laying on by corners,
-- stated of the definitions in Calls.antt. Proved in proofs/Causes.antt, LayCauses.antt, PlacedCauses.antt, Numbers.antt
-- and Laws.antt.
use Rattle.std.specs.Prelude.{◌≡◌, ◌⊎◌, List, ℕ, ◌≤◌, ◌<◌, ℤ, length, take, Ok, Err}
use Rattle.fault.specs.declared.Fault.{Fault}
use Rattle.fault.specs.Number.{number_of}
use Rattle.fault.specs.Check.{ForItsFirstCause}
use Rattle.fault.specs.declared.Fault.TheVariants.{MaskTooLarge, BufferTooShort, CornerOutOfRange, ListEndsEarly, CountOutOfRange, CoordinateOutOfRange}
use Rattle.word_list.specs.Words.{Group, points_in, fault, read_words}
use Rattle.word_list.specs.Writer.{words_of, Allowed}
use Rattle.list_fault.specs.ListFault.{FaultOf}
use Rattle.cells.specs.Cells.{cells_of, TooLarge, SizeAllowed}
use Rattle.cells.specs.Corner.{CornerOut, CornerAllowed}
use Rattle.ink.specs.Lent.{Lent, lent as lent_of, LentShort, LentEnough}
use Rattle.ink.specs.Print.{PrintsTheMask}
use Rattle.coverage.specs.Scratch.{floats_needed, counters_needed}
use Rattle.laying.specs.Laying.{Laying}
use Rattle.laying.specs.Placed.{Placed, by_offset}
use Rattle.mask.specs.Calls.{Drawing, outcome_number, draw_answer, mask_after_drawing, lay_answer, mask_after_laying, lay_placed_answer, ink_after_call}
use Rattle.fault.specs.Check.{Check}

-- ---- drawing

-- what a drawing asks for: none of the causes 3 to 7 of document 01's table. Said without the reading: the list is the
-- writing of allowed groups
pub record CanDraw (d : Drawing) (lent : Lent) : Type 0 where
  pub size_allowed : SizeAllowed d.size
  pub enough : LentEnough d.size lent
  pub groups : List Group
  pub written : d.words ≡ words_of groups
  pub allowed : Allowed groups
  pub floats : floats_needed d.size (points_in groups) ≤ d.floats
  pub counters : counters_needed d.size ≤ d.counters

-- 'Numbers are given only for these causes': a drawing is done exactly when none of them holds
pub record DoneExactlyWhen : Type 0 where
  pub only : (d : Drawing) (lent : Lent) → draw_answer d lent ≡ Ok tt → CanDraw d lent
  pub always : (d : Drawing) (lent : Lent) → CanDraw d lent → draw_answer d lent ≡ Ok tt

-- Why a drawing is refused with a fault, in document 01's order: 'Order when drawing: 3, then 4 for the mask' (and, by
-- document 02, change 9, for its ink with it), 'then the list from its first word (5, 6 or 7 ..), then 4 for scratch.' Each cause is given with none before it. The fault of a
-- list is said without the reading (list_fault/specs/ListFault.antt)
abbrev pub ScratchShort : Drawing → List Group → Type 0
ScratchShort d gs = (d.floats < floats_needed d.size (points_in gs)) ⊎ (d.counters < counters_needed d.size)

pub data FirstCause (d : Drawing) (lent : Lent) : Fault → Type 0 where
  too_large_law : TooLarge d.size → FirstCause d lent MaskTooLarge
  lent_short_law : SizeAllowed d.size → LentShort d.size lent → FirstCause d lent BufferTooShort
  list_fault : {f : Fault} → SizeAllowed d.size → LentEnough d.size lent → FaultOf d.words f → FirstCause d lent f
  scratch_short : SizeAllowed d.size → LentEnough d.size lent → (gs : List Group) → Allowed gs → d.words ≡ words_of gs
      → ScratchShort d gs → FirstCause d lent BufferTooShort

-- a drawing is refused with a fault exactly when that is its first cause
pub record RefusedExactlyWhen : Type 0 where
  pub only : (d : Drawing) (lent : Lent) (f : Fault) → draw_answer d lent ≡ Err f → FirstCause d lent f
  pub always : (d : Drawing) (lent : Lent) (f : Fault) → FirstCause d lent f → draw_answer d lent ≡ Err f

-- 'Numbers are given only for these causes': a list's fault is 5, 6 or 7
abbrev pub ListFaults : Type 0
ListFaults = (words : List ℤ) (f : Fault) → read_words words ≡ fault f → (f ≡ ListEndsEarly) ⊎ ((f ≡ CountOutOfRange) ⊎ (f ≡ CoordinateOutOfRange))

-- Whatever the mask held before, its cells are the same after a done drawing. (The answer and the cells do not read the
-- scratch: draw_answer is given its length alone, and mask_after_drawing nothing of it.)
abbrev pub SameCells : Type 0
SameCells = (d : Drawing) (mask other : List ℕ) → cells_of d.size ≤ length mask → cells_of d.size ≤ length other
    → take (cells_of d.size) (mask_after_drawing (Ok tt) d mask) ≡ take (cells_of d.size) (mask_after_drawing (Ok tt) d other)

-- ---- laying on

-- what a laying-on asks for: neither of the causes 3 and 4, of either mask
pub record CanLay (l : Laying) (lent : Lent) (other : ℕ) : Type 0 where
  pub size_allowed : SizeAllowed l.size
  pub other_allowed : SizeAllowed l.other_size
  pub enough : LentEnough l.size lent
  pub other_cells : cells_of l.other_size ≤ other

-- why it is refused, in document 01's order: 'Laying on: 3, 4.'
pub data FirstLayCause (l : Laying) (lent : Lent) (other : ℕ) : Fault → Type 0 where
  either_too_large : TooLarge l.size ⊎ TooLarge l.other_size → FirstLayCause l lent other MaskTooLarge
  either_short : SizeAllowed l.size → SizeAllowed l.other_size → LentShort l.size lent ⊎ (other < cells_of l.other_size)
      → FirstLayCause l lent other BufferTooShort

pub record LaidExactlyWhen : Type 0 where
  pub done_only : (l : Laying) (lent : Lent) (other : ℕ) → lay_answer l lent other ≡ Ok tt → CanLay l lent other
  pub done_always : (l : Laying) (lent : Lent) (other : ℕ) → CanLay l lent other → lay_answer l lent other ≡ Ok tt
  pub refused_only : (l : Laying) (lent : Lent) (other : ℕ) (f : Fault) → lay_answer l lent other ≡ Err f → FirstLayCause l lent other f
  pub refused_always : (l : Laying) (lent : Lent) (other : ℕ) (f : Fault) → FirstLayCause l lent other f → lay_answer l lent other ≡ Err f

-- ---- laying on by corners

-- what it asks for: corners within their limit, and what the laying-on by the offset between them asks for
pub record CanLayPlaced (p : Placed) (lent : Lent) (other : ℕ) : Type 0 where
  pub corner_allowed : CornerAllowed p.own.corner
  pub other_corner_allowed : CornerAllowed p.other.corner
  pub can_lay : CanLay (by_offset p) lent other

-- why it is refused: 16 'directly after 3', so 3, 16, 4, each with none before it
pub data FirstPlacedCause (p : Placed) (lent : Lent) (other : ℕ) : Fault → Type 0 where
  placed_too_large : TooLarge p.own.size ⊎ TooLarge p.other.size → FirstPlacedCause p lent other MaskTooLarge
  corner_out_law : SizeAllowed p.own.size → SizeAllowed p.other.size → CornerOut p.own.corner ⊎ CornerOut p.other.corner
      → FirstPlacedCause p lent other CornerOutOfRange
  placed_short : SizeAllowed p.own.size → SizeAllowed p.other.size → CornerAllowed p.own.corner → CornerAllowed p.other.corner
      → LentShort p.own.size lent ⊎ (other < cells_of p.other.size) → FirstPlacedCause p lent other BufferTooShort

pub record LaidPlacedExactlyWhen : Type 0 where
  pub done_only : (p : Placed) (lent : Lent) (other : ℕ) → lay_placed_answer p lent other ≡ Ok tt → CanLayPlaced p lent other
  pub done_always : (p : Placed) (lent : Lent) (other : ℕ) → CanLayPlaced p lent other → lay_placed_answer p lent other ≡ Ok tt
  pub refused : (p : Placed) (lent : Lent) (other : ℕ) → ForItsFirstCause (lay_placed_answer p lent other) (FirstPlacedCause p lent other)

-- Laying on by corners is laying on by the offset between them: with corners within their limit it answers what that
-- answers, and it leaves in the mask what that leaves (both contracts cite `mask_after_laying`). With another corner it is
-- never done
pub record PlacedIsByOffset : Type 0 where
  pub within : (p : Placed) (lent : Lent) (other : ℕ) → CornerAllowed p.own.corner → CornerAllowed p.other.corner
      → lay_placed_answer p lent other ≡ lay_answer (by_offset p) lent other
  pub beyond : (p : Placed) (lent : Lent) (other : ℕ) → CornerOut p.own.corner ⊎ CornerOut p.other.corner
      → (lay_placed_answer p lent other ≡ Err MaskTooLarge) ⊎ (lay_placed_answer p lent other ≡ Err CornerOutOfRange)

-- ---- ink (document 02, change 9)

-- 'A print loop that sends only those stretches onto blank paper prints the same cells as one that sends every byte', by
-- the numbers that each done call leaves
pub record DonePrints : Type 0 where
  pub drawn : (d : Drawing) (mask ink : List ℕ) → draw_answer d (lent_of mask ink) ≡ Ok tt →
      let after = mask_after_drawing (Ok tt) d mask in
      PrintsTheMask d.size after (ink_after_call (Ok tt) d.size after ink)
  pub laid : (l : Laying) (mask ink other : List ℕ) → lay_answer l (lent_of mask ink) (length other) ≡ Ok tt →
      let after = mask_after_laying (Ok tt) l mask other in
      PrintsTheMask l.size after (ink_after_call (Ok tt) l.size after ink)
  pub laid_placed : (p : Placed) (mask ink other : List ℕ) → lay_placed_answer p (lent_of mask ink) (length other) ≡ Ok tt →
      let after = mask_after_laying (Ok tt) (by_offset p) mask other in
      PrintsTheMask p.own.size after (ink_after_call (Ok tt) p.own.size after ink)

-- ---- the same in the documents' numbers ('Where an answer is an enum, the promises use a definition that gives this
-- paper's number'): 0 where the call can be done, else that of its first cause
pub data NumberFor (Can : Type 0) (Cause : Fault → Type 0) : ℕ → Type 0 where
  is_done : Can → NumberFor Can Cause 0
  is_refused : {f : Fault} → Cause f → NumberFor Can Cause (number_of f)

abbrev pub DrawNumber : Drawing → Lent → ℕ → Type 0
DrawNumber d lent = NumberFor (CanDraw d lent) (FirstCause d lent)

abbrev pub LayNumber : Laying → Lent → ℕ → ℕ → Type 0
LayNumber l lent other = NumberFor (CanLay l lent other) (FirstLayCause l lent other)

abbrev pub LayPlacedNumber : Placed → Lent → ℕ → ℕ → Type 0
LayPlacedNumber p lent other = NumberFor (CanLayPlaced p lent other) (FirstPlacedCause p lent other)

-- each call has one number alone, and it tells the answer
pub record NumbersExactlyWhen : Type 0 where
  pub draw_only : (d : Drawing) (lent : Lent) → DrawNumber d lent (outcome_number (draw_answer d lent))
  pub draw_always : (d : Drawing) (lent : Lent) (n : ℕ) → DrawNumber d lent n → outcome_number (draw_answer d lent) ≡ n
  pub lay_only : (l : Laying) (lent : Lent) (other : ℕ) → LayNumber l lent other (outcome_number (lay_answer l lent other))
  pub lay_always : (l : Laying) (lent : Lent) (other n : ℕ) → LayNumber l lent other n → outcome_number (lay_answer l lent other) ≡ n
  pub placed_only : (p : Placed) (lent : Lent) (other : ℕ) → LayPlacedNumber p lent other (outcome_number (lay_placed_answer p lent other))
  pub placed_always : (p : Placed) (lent : Lent) (other n : ℕ) → LayPlacedNumber p lent other n → outcome_number (lay_placed_answer p lent other) ≡ n
  pub told_apart : (o p : Check) → outcome_number o ≡ outcome_number p → o ≡ p
