-- The calls on masks as they were before document 02's change 9: what each answered from the length of its mask alone.
-- Where enough numbers are lent for the ink, each answers that still. Proved in proofs/Before.antt. (What a call leaves
-- in the mask and in scratch is given by the definitions of Calls.antt that gave it then, which take no ink.)
use Rattle.std.specs.Prelude.{ℕ, ◌≤◌, ◌≡◌, cond, ◌||◌, ltb, Ok, Err}
use Rattle.fault.specs.declared.Fault.TheVariants.{MaskTooLarge, BufferTooShort, CornerOutOfRange}
use Rattle.word_list.specs.Words.{read_words}
use Rattle.cells.specs.Cells.{cells_of, too_large}
use Rattle.cells.specs.Corner.{corner_out}
use Rattle.ink.specs.Lent.{Lent, ink_needed}
use Rattle.laying.specs.Laying.{Laying}
use Rattle.laying.specs.Placed.{Placed}
use Rattle.mask.specs.Calls.{Drawing, list_answer, draw_answer, lay_answer, lay_placed_answer}
use Rattle.fault.specs.Check.{Check}

abbrev pub draw_answer_before : Drawing → ℕ → Check
draw_answer_before d mask =
    cond (too_large d.size) (Err MaskTooLarge)
    (cond (ltb mask (cells_of d.size)) (Err BufferTooShort) (list_answer d (read_words d.words)))

abbrev pub lay_answer_before : Laying → ℕ → ℕ → Check
lay_answer_before l mask other =
    cond (too_large l.size || too_large l.other_size) (Err MaskTooLarge)
    (cond (ltb mask (cells_of l.size) || ltb other (cells_of l.other_size)) (Err BufferTooShort) (Ok tt))

abbrev pub lay_placed_answer_before : Placed → ℕ → ℕ → Check
lay_placed_answer_before p mask other =
    cond (too_large p.own.size || too_large p.other.size) (Err MaskTooLarge)
    (cond (corner_out p.own.corner || corner_out p.other.corner) (Err CornerOutOfRange)
    (cond (ltb mask (cells_of p.own.size) || ltb other (cells_of p.other.size)) (Err BufferTooShort) (Ok tt)))

pub record WithInkAsBefore : Type 0 where
  pub draw : (d : Drawing) (lent : Lent) → ink_needed d.size ≤ lent.ink → draw_answer d lent ≡ draw_answer_before d lent.mask
  pub lay : (l : Laying) (lent : Lent) (other : ℕ) → ink_needed l.size ≤ lent.ink → lay_answer l lent other ≡ lay_answer_before l lent.mask other
  pub lay_placed : (p : Placed) (lent : Lent) (other : ℕ) → ink_needed p.own.size ≤ lent.ink
      → lay_placed_answer p lent other ≡ lay_placed_answer_before p lent.mask other
