-- `ink::scan` meets its contract: row by row. Assumes nothing.
use mathlib.Core.Path.{◌≡◌}
use Prim.Native.Nat.{◌+◌, ◌*◌}
use native.Mathlib.Nat.{suc-mul}
use native.Mathlib.Numerals.{add-one}
use native.Mathlib.Omega.{arith}
use Rattle.ink.proofs.Scans.{rows_done, rows_turn}
use Rattle.ink.proofs.scan.Goals as goal

pub loop-row-preserved : goal.loop-row-preserved
loop-row-preserved c =
    let row = c.loop-row.row in
    let width = c.args.size.width in
    let turn = rows_turn c.loop-row.invariant (omega arith) (omega arith) c.ink_of-s.result c.ink_of-s.ensures in
    let from : row * width + width ≡ (row + 1) * width = rw (add-one row, suc-mul row width) in
    let at : 2 * row + 2 ≡ 2 * (row + 1) = omega arith in
    rw (from, at) at turn

pub returns : goal.returns
returns c = rows_done c.loop-row.invariant (omega arith)
