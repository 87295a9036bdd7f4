-- Lists that draw at corners and lay by them are meant (document 02, change 8), and lists that lay by offsets alone are as
-- before. Proved in proofs/Corners.antt.
use Rattle.std.specs.Prelude.{◌≡◌, List, [], ◌∷◌, ℕ, Ok}
use Rattle.cells.specs.declared.Corner.{Corner}
use Rattle.cells.specs.declared.MaskRecord.{MaskRecord}
use Rattle.cells.specs.Corner.{CornerAllowed}
use Rattle.laying.specs.Laying.{Laying}
use Rattle.laying.specs.Placed.{placed}
use Rattle.fault.specs.Check.{Check}
use Rattle.ink.specs.Lent.{Lent}
use Rattle.mask.specs.Calls.{Drawing}
use Rattle.mask.specs.Laws.{CanDraw}
use Rattle.reckoner.specs.Reckoner.{Held, Place, running, next, Two, of, at_first, Call, draw, lay, lay_placed, answers, reckoned, Meant}
use Rattle.reckoner.specs.Claim.{Buffers, Scratches, buffers_after_all}

-- ---- lists that draw at corners and lay by them are meant

-- a drawing, and where its mask's corner lies
pub record DrawingAt : Type 0 where
  pub corner : Corner
  pub drawing : Drawing

abbrev pub record_given : DrawingAt → MaskRecord
record_given f = record { size = f.drawing.size; corner = f.corner }

-- each is drawn as the next mask and laid on the running one, which has this record
abbrev pub others_laid : MaskRecord → List DrawingAt → List Call
others_laid own [] = []
others_laid own (f ∷ fs) = draw next f.corner f.drawing ∷ lay_placed (placed own (record_given f)) ∷ others_laid own fs

-- a card: its first drawing is the running mask, and the others are laid on it
abbrev pub card : DrawingAt → List DrawingAt → List Call
card first fs = draw running first.corner first.drawing ∷ others_laid (record_given first) fs

-- it can be drawn, at a corner within the limit
abbrev pub CanPlace : Lent → DrawingAt → Type 0
CanPlace lent f = CanDraw f.drawing lent × CornerAllowed f.corner

abbrev pub AllPlaced : Lent → List DrawingAt → Type 0
AllPlaced lent [] = Unit {0}
AllPlaced lent (f ∷ fs) = CanPlace lent f × AllPlaced lent fs

abbrev pub AllDone : List Check → Type 0
AllDone [] = Unit {0}
AllDone (o ∷ os) = (o ≡ Ok tt) × AllDone os

-- whatever was held before, a card of such drawings is meant, and each of its calls is done
pub record CardsAreMeant : Type 0 where
  pub meant : (lengths : Two Lent) (first : DrawingAt) (fs : List DrawingAt) → CanPlace lengths.at_running first → AllPlaced lengths.at_next fs
      → (held : Two Held) → Meant lengths (card first fs) held
  pub done : (lengths : Two Lent) (first : DrawingAt) (fs : List DrawingAt) → CanPlace lengths.at_running first → AllPlaced lengths.at_next fs
      → AllDone (answers lengths (card first fs))

-- ---- lists that lay by offsets alone are as before: the corners given with their drawings decide nothing

-- two such lists, which differ in these corners alone
pub data SameButCorners : List Call → List Call → Type 0 where
  no_more : SameButCorners [] []
  drawn : {cs ds : List Call} (p : Place) (one other : Corner) (d : Drawing) → SameButCorners cs ds → SameButCorners (draw p one d ∷ cs) (draw p other d ∷ ds)
  laid : {cs ds : List Call} (l : Laying) → SameButCorners cs ds → SameButCorners (lay l ∷ cs) (lay l ∷ ds)

-- the scratch of one is scratch of the other
abbrev pub scratch_too : {cs ds : List Call} → SameButCorners cs ds → Scratches cs → Scratches ds
scratch_too no_more s = s
scratch_too (drawn p one other d same) s = (s.0, scratch_too same s.1)
scratch_too (laid l same) s = (s.0, scratch_too same s.1)

-- what is held, but for the corners
abbrev pub SameMask : Held → Held → Type 0
SameMask h k = (h.size ≡ k.size) × ((column row : ℕ) → h.cell column row ≡ k.cell column row)

abbrev pub SameMasks : Two Held → Two Held → Type 0
SameMasks h k = (p : Place) → SameMask (of p h) (of p k)

-- they have the same answers and leave the same bytes, both are meant or neither is, and each cell has the same share
-- and allowed difference
pub record CornersDecideNothing : Type 0 where
  pub same_answers : (lengths : Two Lent) (cs ds : List Call) → SameButCorners cs ds → answers lengths cs ≡ answers lengths ds
  pub same_bytes : (cs ds : List Call) (same : SameButCorners cs ds) (s : Scratches cs) (b : Buffers)
      → buffers_after_all cs s b ≡ buffers_after_all ds (scratch_too same s) b
  pub meant_too : (lengths : Two Lent) (cs ds : List Call) → SameButCorners cs ds → Meant lengths cs at_first → Meant lengths ds at_first
  pub same_shares : (lengths : Two Lent) (cs ds : List Call) → SameButCorners cs ds → SameMasks (reckoned lengths cs at_first) (reckoned lengths ds at_first)
