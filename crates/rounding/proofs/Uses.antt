-- The analyses at work, each on an expression of the rasterizer. Assumes nothing.
use Prim.Native.Nat.{◌^◌}
use lib.Dec.{T}
use lib.Ieee.{Float, binary32, add, mul, div, fits}
use lib.Ieee.Scale.{finite}
use Rattle.fraction.specs.Fraction.{Fraction, ◌≤ᶠ◌, ◌≈ᶠ◌, natᶠ, ◌/2^◌, ◌+ᶠ◌, ◌-ᶠ◌, ◌*ᶠ◌, ◌/ᶠ◌, invᶠ, absᶠ, Near, Within}
use Rattle.fraction.proofs.Linear.{lit}
use Rattle.fraction.proofs.Near.{near_add, near_refl, near_weaken, within_near, within_weaken}
use Rattle.rounding.specs.Value.{val}
use Rattle.rounding.proofs.Round.{step}
use Rattle.rounding.proofs.Ops.{add_rounds}
use Rattle.rounding.proofs.Analyse.{E, leaf, op, plus, over as per, auto, given, analyse}
use Rattle.rounding.proofs.Relative.{approx_self, mul_approx, div_approx}
use Rattle.fraction.proofs.Relative.{rel_near}

-- An analysis with a quotient: (a + b) / c for sizes up to 4,096 and a c of size 1/2 at least is off by less than 2 ^
-- -8
module _ (a b c : Float) (A : T (finite a) × T (fits binary32 a) × Within (val a) (natᶠ 4096)) (B : T (finite b) × T (fits binary32 b) × Within (val b) (natᶠ 4096))
    (C : T (finite c) × T (fits binary32 c) × Within (val c) (natᶠ 4096)) (large : 1 /2^ 1 ≤ᶠ absᶠ (val c)) where
  quotient : E binary32
  quotient =
      op (per (1 /2^ 1)) auto (op plus auto (leaf (given binary32 a (natᶠ 4096) A.0 A.1 A.2)) (leaf (given binary32 b (natᶠ 4096) B.0 B.1 B.2)))
      (leaf (given binary32 c (natᶠ 4096) C.0 C.1 C.2))

  quotient_near : Near (val (div binary32 (add binary32 a b) c)) ((val a +ᶠ val b) /ᶠ val c) (1 /2^ 8)
  unfolding quotient ◌+ᶠ◌ ◌-ᶠ◌ ◌*ᶠ◌ ◌/ᶠ◌ invᶠ
  quotient_near = near_weaken (analyse quotient tt (tt, large, (tt, tt, tt, tt), tt)).near (lit tt)

-- Relative errors: x + t * (dx / dy), an edge's crossing at a height. The slope dx / dy may be 2 ^ 21, but t * (dx /
-- dy) is at most 8,192, and the sum 4,096
module _ (x t dx dy : Float) (X : T (finite x) × T (fits binary32 x)) (S : T (finite t) × T (fits binary32 t)) (D : T (finite dx) × T (fits binary32 dx)) (H : T (finite dy) × T (fits binary32 dy))
    (dx-size : Within (val dx) (natᶠ 8192)) (some : ¬ (val dy ≈ᶠ natᶠ 0)) (dy-size : Within (invᶠ (val dy)) (natᶠ 256)) (t-size : Within (val t) (natᶠ 8192)) where
  abbrev slope : Fraction
  slope = val dx *ᶠ invᶠ (val dy)

  module _ (along : Within (val t *ᶠ slope) (natᶠ 8192)) (at_size : Within (val x +ᶠ val t *ᶠ slope) (natᶠ 4096)) (slope-size : Within slope (natᶠ (2 ^ 21))) where
    pub crossing_near : T (finite (add binary32 x (mul binary32 t (div binary32 dx dy)))) × Near (val (add binary32 x (mul binary32 t (div binary32 dx dy)))) (val x +ᶠ val t *ᶠ slope) (11 /2^ 13)
    unfolding ◌+ᶠ◌ ◌-ᶠ◌ ◌*ᶠ◌
    crossing_near =
        let O = natᶠ 0 in
        let q = div_approx binary32 dx dy (val dx) (val dy) O O (natᶠ 8192) O O (natᶠ 256) (approx_self binary32 dx D.0 D.1) (approx_self binary32 dy H.0 H.1) some (lit tt) (lit tt)
        (record { r0 = lit tt; s0 = lit tt; t0 = lit tt; v0 = lit tt; both0 = lit tt }) dx-size dy-size (lit tt) in
        let m = mul_approx binary32 t (div binary32 dx dy) (val t) slope O O (natᶠ 8192) _ _ (natᶠ (2 ^ 21)) (approx_self binary32 t S.0 S.1) q
        (record { r0 = lit tt; s0 = lit tt; t0 = lit tt; v0 = lit tt; both0 = lit tt }) t-size slope-size (lit tt) in
        let n = near_add (near_refl (val x)) (rel_near (lit tt) m.rel along) in
        let h = add_rounds binary32 x (mul binary32 t (div binary32 dx dy)) X.0 m.fine X.1 m.held (within_weaken (within_near n at_size) (lit tt)) in
        (h.fine, near_weaken (step h n at_size) (lit tt))
