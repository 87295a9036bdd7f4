-- `outline::all_in_range` meets its contract. Assumes nothing.
use Rattle.std.proofs.Common.{rules}
use Rattle.std.specs.Prelude.{IsTrue, EachIndex, ◌↔◌}
use Rattle.outline.proofs.Scan.{InRange, numbers_in}
use Rattle.outline.proofs.all_in_range.Goals as goal

pub returns : goal.returns
returns c =
    let all : IsTrue c.all.result ↔ EachIndex c.args.positions.now (InRange c.args.positions.now) = search rules in
    numbers_in c.args.positions.now c.all.result all
