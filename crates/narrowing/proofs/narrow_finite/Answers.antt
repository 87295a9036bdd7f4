-- `narrowing::narrow_finite` meets its contract, by the laws of proofs/Narrowing.antt. Assumes nothing.
use Prim.Native.Nat.{ℕ, ◌-◌}
use Rattle.narrowing.proofs.Narrowing.{normal_le, normal_ge, normal, short_le, short, none}
use Rattle.float.proofs.Shift.{one_shl}
use lib.Dec.{lit<, lit≤}
use lib.Ieee.Nearest.{closest}
use lib.Ieee.{binary32, units}
use lib.Pow.{pow_pos}
use mathlib.Core.Logic.{inl, inr}
use mathlib.Core.Path.{refl, ap, ◌∙◌}
use native.Mathlib.Omega.{arith}
use Rattle.narrowing.proofs.narrow_finite.Goals as goal

pub nearest_div-q-requires : goal.nearest_div-q-requires
nearest_div-q-requires c = let s = c.unpack64-p.ensures.small in omega arith

pub pack32-requires : goal.pack32-requires
pack32-requires c =
    let e = c.nearest_div-q.ensures in
    let k = c.if-e-ge896.true in
    let f = c.unpack64-p.ensures.fields in
    record {
      q_bound = rw e (normal_le c.unpack64-p.ensures);
      k_bound = omega arith;
      fact = inr (rw e (normal_ge c.unpack64-p.ensures k));
    }

pub returns-then-e-ge896 : goal.returns-then-e-ge896
returns-then-e-ge896 c =
    c.pack32.ensures
    ∙ ap (λ (q : ℕ). units binary32 c.unpack64-p.result.negative q (c.unpack64-p.result.exponent - 896)) c.nearest_div-q.ensures
    ∙ normal c.unpack64-p.ensures c.if-e-ge896.true

pub nearest_div-q-requires-then-e-ge863 : goal.nearest_div-q-requires-then-e-ge863
nearest_div-q-requires-then-e-ge863 c =
    let s = c.unpack64-p.ensures.small in
    let a = c.if-e-ge896.false in
    let b = c.if-e-ge863.true in
    record {
      a_bound = omega arith;
      unit_nonzero = rw (one_shl (925 - c.unpack64-p.result.exponent) (omega arith)) (pow_pos (925 - c.unpack64-p.result.exponent));
    }

pub pack32-requires-then-e-ge863 : goal.pack32-requires-then-e-ge863
pack32-requires-then-e-ge863 c =
    let a = c.if-e-ge896.false in
    let b = c.if-e-ge863.true in
    record {
      q_bound = rw (c.nearest_div-q-then-e-ge863.ensures, one_shl (925 - c.unpack64-p.result.exponent) (omega arith)) (short_le c.unpack64-p.ensures a);
      k_bound = lit< tt;
      fact = inl refl;
    }

pub returns-then-e-ge863 : goal.returns-then-e-ge863
returns-then-e-ge863 c =
    let a = c.if-e-ge896.false in
    let b = c.if-e-ge863.true in
    let s = one_shl (925 - c.unpack64-p.result.exponent) (omega arith) in
    c.pack32-then-e-ge863.ensures
    ∙ ap (λ (q : ℕ). units binary32 c.unpack64-p.result.negative q 0) (c.nearest_div-q-then-e-ge863.ensures ∙ ap (closest c.unpack64-p.result.digits) s)
    ∙ short c.unpack64-p.ensures a

pub pack32-requires-2 : goal.pack32-requires-2
pack32-requires-2 c =
    record {
      q_bound = lit≤ tt;
      k_bound = lit< tt;
      fact = inl refl;
    }

pub returns : goal.returns
returns c = c.pack32-2.ensures ∙ none c.unpack64-p.ensures c.if-e-ge863.false
