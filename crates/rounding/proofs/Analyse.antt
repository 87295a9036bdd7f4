-- AN ERROR ANALYSIS BY COMPUTATION. An expression `E` of floats is given with a list of leaves, and `analyse` says
-- how far its float value is from its exact value: `err`, a closed fraction that computes. A leaf is a float with the
-- fraction that it stands for, a bound of that fraction's size and a bound of the error. An operation's bound is
-- worked out from its operands' (`auto`), or is one that the caller knows (`known b`) and proves (`Needs`). A
-- quotient names a number that its divisor's size reaches (`over l`), which the caller proves too. `ok` tests that
-- nothing overflows and that no error reaches a divisor. Assumes nothing.
use mathlib.Core.Bool.{Bool, true, false, ◌&&◌}
use Prim.Native.Nat.{◌^◌}
use lib.Dec.{T}
use lib.Ieee.{Float, Format, emax, add, sub, mul, div, fits}
use lib.Ieee.Fits.{add-fits, sub-fits, mul-fits, div-fits}
use lib.Ieee.Scale.{finite}
use Rattle.fraction.specs.Fraction.{Fraction, ◌≤ᶠ◌, leᵇ, ltᵇ, eqᵇ, natᶠ, ◌+ᶠ◌, ◌-ᶠ◌, ◌*ᶠ◌, ◌/ᶠ◌, absᶠ, Near, Within}
use Rattle.fraction.proofs.Linear.{lit, lit<ᶠ, lit≈}
use Rattle.fraction.proofs.Order.{sym≈, div_mul}
use Rattle.fraction.proofs.Near.{near_add, near_sub, near_mul, within_add, within_sub, within_mul, within_near, within_weaken, within_self, near_refl, near_same}
use Rattle.fraction.proofs.Quotient.{near_div, within_div, divisor_not}
use Rattle.rounding.specs.Value.{val, roundoff, tiny}
use Rattle.rounding.specs.Rounding.{Rounds}
use Rattle.rounding.proofs.Round.{step}
use Rattle.rounding.proofs.Ops.{add_rounds, sub_rounds, mul_rounds, div_rounds}

-- x is a value of the format that stands for X: |X| ≤ b and |x - X| ≤ e
pub record Known (f : Format) (x : Float) (X b e : Fraction) : Type 0 where
  pub fine : T (finite x)
  pub held : T (fits f x)
  pub near : Near (val x) X e
  pub within : Within X b

pub record Leaf (f : Format) : Type 0 where
  pub x : Float
  pub X : Fraction
  pub b : Fraction
  pub e : Fraction
  pub is : Known f x X b e

-- two kinds of leaf: a float that is what it stands for, and a constant, whose four tests compute
abbrev pub given : (f : Format) (x : Float) (b : Fraction) → T (finite x) → T (fits f x) → Within (val x) b → Leaf f
given f x b p q w = record { x = x; X = val x; b = b; e = natᶠ 0; is = record { fine = p; held = q; near = near_refl (val x); within = w } }

abbrev pub constant : (f : Format) (x : Float) (X : Fraction) → T (finite x) → T (fits f x) → T (eqᵇ (val x) X) → T (leᵇ (natᶠ 0) X) → Leaf f
constant f x X p q h w = record { x = x; X = X; b = X; e = natᶠ 0; is = record { fine = p; held = q; near = near_same (sym≈ (lit≈ h)) (near_refl X); within = within_self (lit w) } }

pub data Bound : Type 0 where
  auto : Bound
  known : Fraction → Bound

pub data Op : Type 0 where
  plus minus times : Op
  over : Fraction → Op

pub data E (f : Format) : Type 0 where
  leaf : Leaf f → E f
  op : Op → Bound → E f → E f → E f

-- ---- the float, the fraction, and what is known of them
abbrev pub float : Format → Op → Float → Float → Float
float f plus x y = add f x y
float f minus x y = sub f x y
float f times x y = mul f x y
float f (over l) x y = div f x y

abbrev pub fraction : Op → Fraction → Fraction → Fraction
fraction plus X Y = X +ᶠ Y
fraction minus X Y = X -ᶠ Y
fraction times X Y = X *ᶠ Y
fraction (over l) X Y = X /ᶠ Y

-- a bound of the exact result, from bounds b and c of the operands
abbrev pub reach : Op → Fraction → Fraction → Fraction
reach plus b c = b +ᶠ c
reach minus b c = b +ᶠ c
reach times b c = b *ᶠ c
reach (over l) b c = b /ᶠ l

abbrev pub pick : Bound → Fraction → Fraction
pick auto b = b
pick (known b) c = b

-- the error before the rounding, from bounds b and c and errors d and e of the operands and a bound q of the exact
-- result
abbrev pub drift : Op → Fraction → Fraction → Fraction → Fraction → Fraction → Fraction
drift plus q b d c e = d +ᶠ e
drift minus q b d c e = d +ᶠ e
drift times q b d c e = d *ᶠ (c +ᶠ e) +ᶠ b *ᶠ e
drift (over l) q b d c e = (d +ᶠ q *ᶠ e) /ᶠ (l -ᶠ e)

-- and with the rounding, where |X| ≤ b
abbrev pub last : Format → Op → Fraction
last f plus = natᶠ 0
last f minus = natᶠ 0
last f times = tiny f
last f (over l) = tiny f

abbrev pub grown : Format → Op → Fraction → Fraction → Fraction
grown f o b e = roundoff f *ᶠ (b +ᶠ e) +ᶠ last f o +ᶠ e

-- the error of the divisor does not reach l
abbrev pub sound : Op → Fraction → Bool
sound plus e = true
sound minus e = true
sound times e = true
sound (over l) e = ltᵇ (natᶠ 0) l && ltᵇ e l

-- what the caller proves: the bounds that it says it knows, and that a divisor Y is as large as said
abbrev pub Bounded : Bound → Fraction → Type 0
Bounded auto X = Unit {0}
Bounded (known b) X = Within X b

abbrev pub Large : Op → Fraction → Type 0
Large plus Y = Unit {0}
Large minus Y = Unit {0}
Large times Y = Unit {0}
Large (over l) Y = l ≤ᶠ absᶠ Y

module _ {f : Format} where
  abbrev pub flt : E f → Float
  flt (leaf l) = l.x
  flt (op o k a c) = float f o (flt a) (flt c)

  abbrev pub exact : E f → Fraction
  exact (leaf l) = l.X
  exact (op o k a c) = fraction o (exact a) (exact c)

  abbrev pub bound : E f → Fraction
  bound (leaf l) = l.b
  bound (op o k a c) = pick k (reach o (bound a) (bound c))

  abbrev pub err : E f → Fraction
  err (leaf l) = l.e
  err (op o k a c) =
      let q = pick k (reach o (bound a) (bound c)) in
      grown f o q (drift o q (bound a) (err a) (bound c) (err c))

  abbrev pub ok : E f → Bool
  ok (leaf l) = true
  ok (op o k a c) =
      let q = pick k (reach o (bound a) (bound c)) in
      ok a && (ok c && (sound o (err c) && leᵇ (q +ᶠ drift o q (bound a) (err a) (bound c) (err c)) (natᶠ (2 ^ emax f))))

  abbrev pub Needs : E f → Type 0
  Needs (leaf l) = Unit {0}
  Needs (op o k a c) = Bounded k (fraction o (exact a) (exact c)) × Large o (exact c) × Needs a × Needs c

-- ---- one operation
both : (a b : Bool) → T (a && b) → T a × T b
both true b t = (tt, t)
both false b t = absurd t

chosen : (k : Bound) (X b : Fraction) → Bounded k X → Within X b → Within X (pick k b)
chosen auto X b n w = w
chosen (known c) X b n w = n

module _ (f : Format) (x y : Float) (X Y b d c e : Fraction) (A : Known f x X b d) (C : Known f y Y c e) where
  reached : (o : Op) → T (sound o e) → Large o Y → Within (fraction o X Y) (reach o b c)
  reached plus s g = within_add A.within C.within
  reached minus s g = within_sub A.within C.within
  reached times s g = within_mul A.within C.within
  reached (over l) s g = within_div Y (lit<ᶠ (both (ltᵇ (natᶠ 0) l) (ltᵇ e l) s).0) g A.within

  drifted : (o : Op) (q : Fraction) → T (sound o e) → Large o Y → Within (fraction o X Y) q → Near (fraction o (val x) (val y)) (fraction o X Y) (drift o q b d c e)
  drifted plus q s g w = near_add A.near C.near
  drifted minus q s g w = near_sub A.near C.near
  drifted times q s g w = near_mul A.near C.near A.within (within_near C.near C.within)
  drifted (over l) q s g w = near_div (val y) Y e l C.near g (lit<ᶠ (both (ltᵇ (natᶠ 0) l) (ltᵇ e l) s).1) (val x) X d q A.near w

  rounds : (o : Op) → T (sound o e) → Large o Y → Within (fraction o (val x) (val y)) (natᶠ (2 ^ emax f)) → Rounds f (last f o) (fraction o (val x) (val y)) (float f o x y)
  rounds plus s g w = add_rounds f x y A.fine C.fine A.held C.held w
  rounds minus s g w = sub_rounds f x y A.fine C.fine A.held C.held w
  rounds times s g w = mul_rounds f x y A.fine C.fine w
  rounds (over l) s g w =
      let some = divisor_not (val y) Y e l C.near g (lit<ᶠ (both (ltᵇ (natᶠ 0) l) (ltᵇ e l) s).1) in
      div_rounds f x y (val x /ᶠ val y) A.fine C.fine some (div_mul (val x) (val y) some) w

  fits_float : (o : Op) → T (fits f (float f o x y))
  fits_float plus = add-fits f x y
  fits_float minus = sub-fits f x y
  fits_float times = mul-fits f x y
  fits_float (over l) = div-fits f x y

  operated : (o : Op) (q : Fraction) → T (sound o e) → Large o Y → Within (fraction o X Y) q → q +ᶠ drift o q b d c e ≤ᶠ natᶠ (2 ^ emax f)
      → Known f (float f o x y) (fraction o X Y) q (grown f o q (drift o q b d c e))
  operated o q s g w l =
      let n = drifted o q s g w in
      let r = rounds o s g (within_weaken (within_near n w) l) in
      record { fine = r.fine; held = fits_float o; near = step r n w; within = w }

-- ---- THE THEOREM
pub analyse : {f : Format} (a : E f) → T (ok a) → Needs a → Known f (flt a) (exact a) (bound a) (err a)
analyse (leaf l) t n = l.is
analyse {f} (op o k a c) t n =
    let q = pick k (reach o (bound a) (bound c)) in
    let fit : Bool = leᵇ (q +ᶠ drift o q (bound a) (err a) (bound c) (err c)) (natᶠ (2 ^ emax f)) in
    let s = both (ok a) (ok c && (sound o (err c) && fit)) t in
    let u = both (ok c) (sound o (err c) && fit) s.1 in
    let v = both (sound o (err c)) fit u.1 in
    let A = analyse a s.0 n.2 in
    let C = analyse c u.0 n.3 in
    let R = reached f (flt a) (flt c) (exact a) (exact c) (bound a) (err a) (bound c) (err c) A C o v.0 n.1 in
    operated f (flt a) (flt c) (exact a) (exact c) (bound a) (err a) (bound c) (err c) A C o q v.0 n.1
    (chosen k (fraction o (exact a) (exact c)) (reach o (bound a) (bound c)) n.0 R) (lit v.1)
