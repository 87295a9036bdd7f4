-- `roots::root_parts` meets its contract, by the law of proofs/Rooting.antt. Assumes nothing.
use Rattle.roots.proofs.Rooting.{root_parts}
use mathlib.Core.Logic.{◌⊎◌, inl, inr}
use mathlib.Core.Path.{◌≡◌}
use Prim.Native.Nat.{ℕ, ◌+◌, ◌≤◌}
use lib.Dec.{lit≤}
use lib.Pow.{pow_mono}
use native.Mathlib.Nat.{lt_of_lt_of_le, le_trans}
use native.Mathlib.Omega.{arith}
use Rattle.roots.proofs.root_parts.Goals as goal

keep_most : {keep : ℕ} → (keep ≡ 24) ⊎ (keep ≡ 53) → keep ≤ 53
keep_most (inl e) = omega arith
keep_most (inr e) = omega arith

one_more : {keep : ℕ} → (keep ≡ 24) ⊎ (keep ≡ 53) → (keep + 1 ≡ 25) ⊎ (keep + 1 ≡ 54)
one_more (inl e) = inl (omega arith)
one_more (inr e) = inr (omega arith)

pub align-up-requires : goal.align-up-requires
align-up-requires c =
    record {
      d_nonzero = c.requires.d_nonzero;
      d_bound = lt_of_lt_of_le c.requires.d_bound (le_trans (pow_mono (keep_most c.requires.fact)) (lit≤ tt));
      e_bound = omega arith;
    }

pub overflow_add-keep : goal.overflow_add-keep
overflow_add-keep c = let p = keep_most c.requires.fact in omega arith

pub root_digits-r-requires : goal.root_digits-r-requires
root_digits-r-requires c =
    record {
      fact = one_more c.requires.fact;
      bound = c.align-up.ensures.high;
    }

pub returns : goal.returns
returns c =
    let a = c.args in
    let al = c.align-up.ensures in
    let ro = c.root_digits-r.ensures in
    rw c.rounded.ensures (root_parts a.e a.keep a.bias al ro c.requires.d_bound c.requires.le_bias c.requires.e_bound c.requires.bias_bound)
