-- `cells::put_bytes` meets its contract. Assumes nothing.
use mathlib.Core.Path.{sym, ap, ◌∙◌}
use native.Mathlib.Numerals.{add-one}
use native.Mathlib.Omega.{arith}
use lib.ListN.{length-set}
use lib.Seq.{paste, paste-suc}
use Rattle.cells.proofs.put_bytes.Goals as goal

pub loop-i-preserved : goal.loop-i-preserved
loop-i-preserved c =
    let args = c.args in
    let i = c.loop-i.i in
    let more = paste-suc args.to.now args.at args.bytes.now i 0 (omega arith) (omega arith) in
    (simp length-set c.loop-i.invariant.0, rw c.loop-i.invariant.1 (more ∙ ap (paste args.to.now args.at args.bytes.now) (sym (add-one i))))
