-- The record given with a mask's last done drawing (document 02, change 8): 'the reckoner also holds each mask's corner,
-- (0, 0) at first and then the one given with that mask's last done drawing', said of the list, without the reckoner's
-- steps. `HeldIsLastGiven` is proved in proofs/LastGiven.antt.
use Rattle.std.specs.Prelude.{◌≡◌, List, [], ◌∷◌, ◌++◌, pos, Ok}
use Rattle.cells.specs.declared.Corner.{Corner}
use Rattle.cells.specs.declared.MaskRecord.{MaskRecord}
use Rattle.ink.specs.Lent.{Lent}
use Rattle.mask.specs.Calls.{Drawing, draw_answer}
use Rattle.reckoner.specs.Reckoner.{Place, Two, of, record_of, at_first, Call, draw, answer, reckoned}

-- a call that is no done drawing of the running, or of the next mask; and that none of a list is
abbrev pub NotDrawn : Two Lent → Place → Call → Type 0
NotDrawn lengths p c = (corner : Corner) (d : Drawing) → c ≡ draw p corner d → answer lengths c ≡ Ok tt → ⊥

abbrev pub NoneDrawn : Two Lent → Place → List Call → Type 0
NoneDrawn lengths p [] = Unit {0}
NoneDrawn lengths p (c ∷ cs) = NotDrawn lengths p c × NoneDrawn lengths p cs

abbrev pub none_given : MaskRecord
none_given = record { size = record { width = 0; height = 0 }; corner = record { x = pos 0; y = pos 0 } }

-- the record given with the last done drawing of that mask; before any, 0 by 0 at (0, 0)
pub data LastGiven (lengths : Two Lent) (p : Place) : List Call → MaskRecord → Type 0 where
  never : {cs : List Call} → NoneDrawn lengths p cs → LastGiven lengths p cs none_given
  last : (before : List Call) (corner : Corner) (d : Drawing) (after : List Call) → draw_answer d (of p lengths) ≡ Ok tt → NoneDrawn lengths p after
      → LastGiven lengths p (before ++ draw p corner d ∷ after) (record { size = d.size; corner = corner })

-- it is what is held, and nothing else is
pub record HeldIsLastGiven : Type 0 where
  pub only : (lengths : Two Lent) (cs : List Call) (p : Place) → LastGiven lengths p cs (record_of (of p (reckoned lengths cs at_first)))
  pub always : (lengths : Two Lent) (cs : List Call) (p : Place) (given : MaskRecord) → LastGiven lengths p cs given
      → record_of (of p (reckoned lengths cs at_first)) ≡ given
