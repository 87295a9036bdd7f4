-- `roots::root32` meets its contract, by the laws of proofs/Rooting.antt over the width. Assumes nothing.
use Rattle.root_digits.proofs.Halves.{rounded_le, rounded_ge}
use Rattle.roots.proofs.Rooting.{digits_pos, root_of}
use lib.Ieee.Positive.{positive-finite}
use mathlib.Core.Logic.{inl, inr}
use mathlib.Core.Path.{refl, ◌∙◌}
use native.Mathlib.Omega.{arith}
use Rattle.roots.proofs.root32.Goals as goal

pub unpack32-p-requires : goal.unpack32-p-requires
unpack32-p-requires c = positive-finite c.args.x c.requires

pub root_parts-r-requires : goal.root_parts-r-requires
root_parts-r-requires c =
    let u = c.unpack32-p.ensures in
    let e = u.fields in
    record {
      d_nonzero = digits_pos u c.requires;
      d_bound = u.small;
      fact = inl refl;
      e_bound = omega arith;
      le_bias = omega arith;
      bias_bound = omega arith;
    }

pub pack32-requires : goal.pack32-requires
pack32-requires c =
    let r = c.root_parts-r.ensures in
    let e = r.exponent in
    record {
      q_bound = rw r.kept (rounded_le 24 r.root r.rest r.short);
      k_bound = omega arith;
      fact = inr (rw r.kept (rounded_ge 23 r.root r.rest r.high));
    }

pub returns : goal.returns
returns c = c.pack32.ensures ∙ root_of c.unpack32-p.ensures c.requires refl c.root_parts-r.ensures
