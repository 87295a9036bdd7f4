-- The reckoner (document 01, 'The reckoner'; document 02, changes 8 and 9), in exact fractions. It is given the arguments
-- of the calls and, of masks, their ink and scratch, the lengths only ('the reckoner is given its length too'). Of the
-- engine's definitions it takes the table of causes (mask/specs/Calls.antt), how a word list is read
-- (word_list/specs/Words.antt) and the offset between two corners (laying/specs/Placed.antt); no float enters.
-- Definitions only.
use Rattle.std.specs.Prelude.{ℕ, ◌≡◌, cond, ◌&&◌, List, [], ◌∷◌, ltb, ℤ, pos, negsuc, ◌+ℤ◌, Ok, Err}
use Rattle.fraction.specs.Fraction.{Fraction, natᶠ, ◌/2^◌, ◌+ᶠ◌, ◌*ᶠ◌}
use Rattle.word_list.specs.Words.{groups_of}
use Rattle.winding.specs.Drawn.{drawn_share, allowed_difference}
use Rattle.cells.specs.declared.Size.{Size}
use Rattle.cells.specs.declared.Corner.{Corner}
use Rattle.cells.specs.declared.MaskRecord.{MaskRecord}
use Rattle.cells.specs.Corner.{sheet_origin}
use Rattle.laying.specs.declared.Offset.{Offset}
use Rattle.laying.specs.Laying.{Laying}
use Rattle.laying.specs.Placed.{Placed, offset_between}
use Rattle.fault.specs.Check.{Check}
use Rattle.ink.specs.Lent.{Lent}
use Rattle.mask.specs.Calls.{Drawing, draw_answer, lay_answer, lay_placed_answer}

-- ---- what is held

-- 'it holds a width, a height and, per cell, a share and an allowed difference'
pub record Cell : Type 0 where
  pub share : Fraction
  pub difference : Fraction

-- 'the reckoner also holds each mask's corner'
pub record Held : Type 0 where
  pub size : Size
  pub corner : Corner
  pub cell : ℕ → ℕ → Cell

-- the record of a mask that is held
abbrev pub record_of : Held → MaskRecord
record_of held = record { size = held.size; corner = held.corner }

-- 'For the running and the next mask': one thing for each
pub data Place : Type 0 where
  running next : Place

pub record Two (A : Type 0) : Type 0 where
  pub at_running : A
  pub at_next : A

abbrev pub of : {A : Type 0} → Place → Two A → A
of running t = t.at_running
of next t = t.at_next

abbrev pub put : {A : Type 0} → Place → A → Two A → Two A
put running a t = record { at_running = a; at_next = t.at_next }
put next a t = record { at_running = t.at_running; at_next = a }

-- 'At first both are 0 by 0.' Corners are '(0, 0) at first'
abbrev pub nothing_held : Held
nothing_held = record {
  size = record { width = 0; height = 0 };
  corner = sheet_origin;
  cell = λ column row. record { share = natᶠ 0; difference = natᶠ 0 };
}

abbrev pub at_first : Two Held
at_first = record { at_running = nothing_held; at_next = nothing_held }

-- ---- its steps

-- 'A done drawing sets its mask's size and forgets what was there.' Its corner is 'the one given with that mask's last
-- done drawing'. Shares and allowed differences: winding/specs/Drawn.antt
abbrev pub drawn_held : Corner → Drawing → Held
drawn_held corner d = record {
  size = d.size;
  corner = corner;
  cell = λ column row. record { share = drawn_share (groups_of d.words) column row; difference = allowed_difference (groups_of d.words) row };
}

-- 'Where the next mask has a cell at the place met, the running cell's share is multiplied by that cell's, and its
-- allowed difference grows by that cell's and a half. Elsewhere the share becomes 0, and the allowed difference grows
-- by a half.'
abbrev pub both : Cell → Cell → Cell
both a b = record { share = a.share *ᶠ b.share; difference = a.difference +ᶠ (b.difference +ᶠ 1 /2^ 1) }

abbrev pub alone : Cell → Cell
alone a = record { share = natᶠ 0; difference = a.difference +ᶠ 1 /2^ 1 }

abbrev pub meets : Held → Cell → ℤ → ℤ → Cell
meets other a (pos x) (pos y) = cond (ltb x other.size.width && ltb y other.size.height) (both a (other.cell x y)) (alone a)
meets other a (pos x) (negsuc y) = alone a
meets other a (negsuc x) y = alone a

-- 'Cell (column, row) meets the other mask at (column + offset x, row + offset y)'. 'the running mask keeps its own corner'
abbrev pub laid_held : Held → Held → Offset → Held
laid_held mask other offset = record {
  size = mask.size;
  corner = mask.corner;
  cell = λ column row. meets other (mask.cell column row) (pos column +ℤ offset.x) (pos row +ℤ offset.y);
}

-- by corners: 'own corner minus the other's', of those held
abbrev pub laid_placed : Held → Held → Held
laid_placed mask other = laid_held mask other (offset_between mask.corner other.corner)

-- ---- calls

pub data Call : Type 0 where
  -- a drawing of the running or the next mask, whose corner on the sheet is given
  draw : Place → Corner → Drawing → Call
  -- the next mask laid on the running one, by an offset
  lay : Laying → Call
  -- the same by their corners
  lay_placed : Placed → Call

-- the answer that the table of causes and its order give, for mask buffers and ink of these lengths
abbrev pub answer : Two Lent → Call → Check
answer lengths (draw p corner d) = draw_answer d (of p lengths)
answer lengths (lay l) = lay_answer l lengths.at_running lengths.at_next.mask
answer lengths (lay_placed q) = lay_placed_answer q lengths.at_running lengths.at_next.mask

abbrev pub answers : Two Lent → List Call → List Check
answers lengths [] = []
answers lengths (c ∷ cs) = answer lengths c ∷ answers lengths cs

-- 'A call that the table of causes turns away changes nothing.' .. 'The next mask stays.'
abbrev pub step : Check → Call → Two Held → Two Held
step (Err f) c held = held
step (Ok _) (draw p corner d) held = put p (drawn_held corner d) held
step (Ok _) (lay l) held = put running (laid_held held.at_running held.at_next l.offset) held
step (Ok _) (lay_placed q) held = put running (laid_placed held.at_running held.at_next) held

abbrev pub reckoned : Two Lent → List Call → Two Held → Two Held
reckoned lengths [] held = held
reckoned lengths (c ∷ cs) held = reckoned lengths cs (step (answer lengths c) c held)

-- 'In the lists meant, a done laying-on is given the sizes held', and 'a done laying-on by corners is given the corners
-- held'
abbrev pub Given : Check → Call → Two Held → Type 0
Given (Err f) c held = Unit {0}
Given (Ok _) (draw p corner d) held = Unit {0}
Given (Ok _) (lay l) held = (l.size ≡ held.at_running.size) × (l.other_size ≡ held.at_next.size)
Given (Ok _) (lay_placed q) held = (q.own ≡ record_of held.at_running) × (q.other ≡ record_of held.at_next)

abbrev pub Meant : Two Lent → List Call → Two Held → Type 0
Meant lengths [] held = Unit {0}
Meant lengths (c ∷ cs) held = Given (answer lengths c) c held × Meant lengths cs (step (answer lengths c) c held)
