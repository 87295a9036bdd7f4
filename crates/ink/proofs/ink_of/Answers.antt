-- `ink::ink_of` meets its contract, by the law that pins a row's stretch. Assumes nothing.
use Prim.Native.Nat.{◌<◌}
use native.Mathlib.Omega.{arith}
use Rattle.ink.proofs.Bytes.{zeros_from}
use Rattle.ink.proofs.Stretches.{found_none, found}
use Rattle.ink.proofs.ink_of.Goals as goal

pub returns-then-end-eq0 : goal.returns-then-end-eq0
returns-then-end-eq0 c = found_none c.args.line.now c.end_ink-end.result (omega arith) (zeros_from c.end_ink-end.ensures.passed)

pub returns : goal.returns
returns c =
    let some : 0 < c.end_ink-end.result = omega arith in
    found c.args.line.now c.first_ink-first.result c.end_ink-end.result some c.end_ink-end.ensures.passed.up (zeros_from c.end_ink-end.ensures.passed) (c.end_ink-end.ensures.fact some)
    (λ k h. c.first_ink-first.ensures.passed.blanks k (omega arith) h) c.first_ink-first.ensures.fact
