-- `pgm_reader::read_header` meets its contract. Assumes nothing.
use mathlib.Core.Path.{ap, ◌∙◌}
use lib.ListN.{length}
use Rattle.pgm_reader.specs.Steps.{header_of}
use Rattle.pgm_reader.proofs.Steps.{mark_short, mark_first, mark_second, mark_there}
use Rattle.pgm_reader.proofs.read_header.Goals as goal
use Rattle.pgm_reader.proofs.read_header.Goals.{then-file-lt2-via-then-file-lt2, then-file-lt2-via-else-file-lt2+then-file-ne80, then-file-lt2-via-else-file-lt2+else-file-ne80+then-file-ne53}

pub returns-then-file-lt2 : goal.returns-then-file-lt2
returns-then-file-lt2 c =
    let file = c.args.file.now in
    elim c.then-file-lt2.branch [
      | then-file-lt2-via-then-file-lt2 w ↦ mark_short file w.if-file-lt2.true
      | then-file-lt2-via-else-file-lt2+then-file-ne80 w ↦ mark_first file w.if-file-lt2.false w.if-file-ne80.true
      | then-file-lt2-via-else-file-lt2+else-file-ne80+then-file-ne53 w ↦ mark_second file w.if-file-lt2.false w.if-file-ne80.false w.if-file-ne53.true
    ]

pub returns : goal.returns
returns c =
    let file = c.args.file.now in
    c.fields_at.ensures ∙ ap (header_of (length file)) (mark_there file c.if-file-lt2.false c.if-file-ne80.false c.if-file-ne53.false)
