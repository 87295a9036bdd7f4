-- A print loop by the ink that a done reading leaves prints the mask (specs/Laws.antt, ReadPrints). Assumes nothing.
use Rattle.ink.specs.Lent.{lent}
use Rattle.ink.proofs.Written.{prints}
use Rattle.pgm.specs.Laws.{ReadPrints}
use Rattle.pgm.proofs.Reading.{read_exactly_when, cells_read}

pub read_prints : ReadPrints
read_prints file mask ink r e =
    let d = read_exactly_when.done_only file r (lent mask ink) e in
    let taken = d.1.0 in
    prints r.size d.0 mask taken.exactly ink _ (cells_read taken mask) d.1.1.0
