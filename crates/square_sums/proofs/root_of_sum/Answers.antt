-- `square_sums::root_of_sum` meets its contract, by the laws of proofs/Sums.antt. Assumes nothing.
use mathlib.Core.Logic.{inl}
use mathlib.Core.Path.{refl}
use native.Mathlib.Omega.{arith}
use Rattle.root_digits.proofs.Halves.{rounded_le}
use Rattle.square_sums.specs.Squares.{RootOfSum}
use Rattle.square_sums.proofs.Sums.{few_digits, in_fours}
use Rattle.square_sums.proofs.root_of_sum.Goals as goal

pub pack32-requires : goal.pack32-requires
pack32-requires c =
    let l = few_digits c.if-sum-lt281474976710656.true c.requires.fact c.root_by_digits-r.ensures in
    record {
      q_bound = rw c.round_root.ensures (rounded_le 24 c.root_by_digits-r.result.root c.root_by_digits-r.result.rest l.0);
      k_bound = omega arith;
      fact = inl refl;
    }

pub returns-then-sum-lt281474976710656 : goal.returns-then-sum-lt281474976710656
returns-then-sum-lt281474976710656 c =
    rw (c.pack32.ensures, c.round_root.ensures) (few_digits c.if-sum-lt281474976710656.true c.requires.fact c.root_by_digits-r.ensures).1

pub returns : goal.returns
unfolding RootOfSum
returns c = λ S o. c.rounded-2.ensures S (in_fours o)
