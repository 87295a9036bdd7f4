-- `pgm_writer::digits` meets its contract. Assumes nothing.
use mathlib.Core.Path.{refl, sym}
use native.Mathlib.Omega.{arith}
use borrow.Author.Tests.{lt-ltb, le-ltb}
use Rattle.pgm_writer.specs.Text.{place, decimal}
use Rattle.pgm_writer.proofs.digits.Goals as goal

pub returns-then-n-lt10 : goal.returns-then-n-lt10
unfolding place decimal
returns-then-n-lt10 c = let n = c.args.n in sym (rw (lt-ltb n 1000 (omega arith), lt-ltb n 100 (omega arith), lt-ltb n 10 (omega arith), le-ltb n 1 (omega arith)) refl)

pub returns-then-n-lt100 : goal.returns-then-n-lt100
unfolding place decimal
returns-then-n-lt100 c = let n = c.args.n in sym (rw (lt-ltb n 1000 (omega arith), lt-ltb n 100 (omega arith), le-ltb n 10 (omega arith), le-ltb n 1 (omega arith)) refl)

pub returns-then-n-lt1000 : goal.returns-then-n-lt1000
unfolding place decimal
returns-then-n-lt1000 c = let n = c.args.n in sym (rw (lt-ltb n 1000 (omega arith), le-ltb n 100 (omega arith), le-ltb n 10 (omega arith), le-ltb n 1 (omega arith)) refl)

pub returns : goal.returns
unfolding place decimal
returns c = let n = c.args.n in sym (rw (le-ltb n 1000 (omega arith), le-ltb n 100 (omega arith), le-ltb n 10 (omega arith), le-ltb n 1 (omega arith)) refl)
