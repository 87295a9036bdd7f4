-- `beamnettle::beamnettle_lay_placed` meets its contract: the corners' numbers fit. Assumes nothing.
use mir.Syntax.{w32}
use mir.ValLaws.{to_z-of_z}
use Rattle.beamnettle.proofs.beamnettle_lay_placed.Goals as goal

pub returns : goal.returns
returns c =
    let x = to_z-of_z w32 c.args.x c.ranges.x in
    let y = to_z-of_z w32 c.args.y c.ranges.y in
    let other_x = to_z-of_z w32 c.args.other_x c.ranges.other_x in
    let other_y = to_z-of_z w32 c.args.other_y c.ranges.other_y in
    rw (x, y, other_x, other_y) at c.lay_placed.ensures
