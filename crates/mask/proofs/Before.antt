-- Where enough is lent for the ink, each call answers as before (specs/Before.antt). Assumes nothing.
use mathlib.Core.Path.{refl}
use Rattle.ink.proofs.Lent.{short_by_mask}
use Rattle.mask.specs.Before.{WithInkAsBefore}

pub with_ink_as_before : WithInkAsBefore
with_ink_as_before = record {
  draw = λ d lent h. rw (short_by_mask d.size lent h) refl;
  lay = λ l lent other h. rw (short_by_mask l.size lent h) refl;
  lay_placed = λ p lent other h. rw (short_by_mask p.own.size lent h) refl;
}
