-- `beamnettle::beamnettle_lay` meets its contract: the offset's numbers fit. Assumes nothing.
use mir.Syntax.{w32}
use mir.ValLaws.{to_z-of_z}
use Rattle.beamnettle.proofs.beamnettle_lay.Goals as goal

pub returns : goal.returns
returns c =
    let across = to_z-of_z w32 c.args.offset_x c.ranges.offset_x in
    let down = to_z-of_z w32 c.args.offset_y c.ranges.offset_y in
    rw (across, down) at c.lay.ensures
