-- `square_sums::rounded` meets its contract, by the laws of proofs/Sums.antt. Assumes nothing.
use mathlib.Core.Logic.{inl, inr}
use mathlib.Core.Path.{refl}
use native.Mathlib.Omega.{arith}
use Rattle.root_digits.proofs.Halves.{rounded_le, rounded_ge}
use Rattle.square_sums.proofs.Sums.{full_root, all_digits}
use Rattle.square_sums.proofs.rounded.Goals as goal

pub root_digits-r-requires : goal.root_digits-r-requires
root_digits-r-requires c =
    record {
      fact = inl refl;
      bound = omega arith;
    }

pub pack32-requires : goal.pack32-requires
pack32-requires c =
    let q = c.round_root.ensures in
    let l = full_root c.requires.bound c.root_digits-r.ensures in
    record {
      q_bound = rw q (rounded_le 24 c.root_digits-r.result.root _ c.root_digits-r.ensures.short);
      k_bound = omega arith;
      fact = inr (rw q (rounded_ge 23 c.root_digits-r.result.root _ l.0));
    }

pub returns : goal.returns
returns c =
    rw (c.pack32.ensures, c.round_root.ensures) (all_digits c.args.more c.args.k c.requires.bound c.root_digits-r.ensures)
