-- `sweep::fill` meets its contract: the bytes are mapped from the front. Assumes nothing.
use Rattle.sweep.specs.Sweeping.{plus_of}
use Rattle.accumulation.proofs.Mapped.{MappedTo}
use Rattle.sweep.proofs.fill.Given as goal

abbrev pub invariant-loop-byte : goal.invariant-loop-byte
invariant-loop-byte l = MappedTo (plus_of l.by) l.initial.line l.line l.byte-index
