-- `ink::grown` meets its contract, by the law that pins a row's stretch. Assumes nothing.
use Prim.Native.Nat.{◌<◌}
use native.Mathlib.Omega.{arith}
use Rattle.ink.proofs.Bytes.{min_either, max_either}
use Rattle.ink.proofs.Growing.{grown_none, part_low, part_none, grown_first, grown_more}
use Rattle.ink.proofs.grown.Goals as goal

pub returns-then-part-eq0 : goal.returns-then-part-eq0
returns-then-part-eq0 c = λ before e g.
    let args = c.args in
    let up : args.from < args.to = omega arith in
    grown_none (part_none args.line.now args.from args.to up (omega arith) c.ink_of-part.ensures (omega arith)) e g

pub overflow_add-first : goal.overflow_add-first
overflow_add-first c =
    let args = c.args in
    let up : args.from < args.to = omega arith in
    let low = part_low args.line.now args.from args.to up (omega arith) c.ink_of-part.ensures in
    omega arith

pub overflow_add-behind : goal.overflow_add-behind
overflow_add-behind c =
    let args = c.args in
    let up : args.from < args.to = omega arith in
    let low = part_low args.line.now args.from args.to up (omega arith) c.ink_of-part.ensures in
    omega arith

pub returns-then-old-eq0 : goal.returns-then-old-eq0
returns-then-old-eq0 c = λ before is g.
    let args = c.args in
    let up : args.from < args.to = omega arith in
    grown_first args.line.now args.from args.to up (omega arith) c.ink_of-part.ensures (λ z. omega arith) g is (omega arith)

pub returns : goal.returns
returns c = λ before is g.
    let args = c.args in
    let up : args.from < args.to = omega arith in
    grown_more args.line.now args.from args.to up (omega arith) c.ink_of-part.ensures (λ z. omega arith) g is (λ z. omega arith)
    (let m = c.min.ensures in (omega arith, omega arith, rw m (min_either _ _)))
    (let m = c.max.ensures in (omega arith, omega arith, rw m (max_either _ _)))
