-- What the fields of a bit pattern stand for. Over the width. Assumes nothing.
use Rattle.std.proofs.Common.{◌≡◌, ℕ, suc, ◌+◌, ◌-◌, ◌*◌, ◌/◌, ◌%◌, ◌^◌, ◌<◌, Bool, true, false, cond, not, T, eqb, leb, sym, refl, ap, ◌∙◌, subst, inl, inr, add-zero, mod-lt, mul_comm, div-lt_iff_lt-mul, add_comm, arith, lit<, eqb→eq, pow_pos, eqb-true}
use lib.Dec.{eqb_refl}
use borrow.Author.Tests.{eqb-false}
use lib.Ieee.{Float, nan, inf, fin, Format, binary32, binary64, prec, emax, low, odd, hid, ones, top, of_fields, of_bits, to_bits, fits, is_nan}
use lib.Ieee.Bits.{of_bits-to_bits}
use lib.Ieee.Exact.{HasValue, odd_sign}
use lib.Ieee.Scale.{finite}
use Rattle.float.specs.Parts.{Unpacked, Fields}

no_field : (f : Format) (s : Bool) (t : ℕ) → HasValue (of_fields f s 0 t) s (t * 2 ^ 0) (2 ^ low f)
unfolding of_fields
no_field f s t = odd_sign (prec f) s t 0 (low f)

-- an exponent's field of all ones is an infinity or a NaN
some_field : (f : Format) (s : Bool) (x t : ℕ) → T (finite (of_fields f s (suc x) t))
    → HasValue (of_fields f s (suc x) t) s ((hid f + t) * 2 ^ x) (2 ^ low f) × (suc x ≡ ones f → ⊥)
unfolding of_fields
some_field f s x t h = go (eqb (suc x) (ones f)) h (eqb→eq (suc x) (ones f)) (eq→T (suc x) (ones f))
  where
    special : (b : Bool) → T (finite (cond b (inf s) nan)) → ⊥
    special true k = k
    special false k = k

    go : (b : Bool) → T (finite (cond b (cond (eqb t 0) (inf s) nan) (odd (prec f) s (hid f + t) x (low f)))) → (T b → suc x ≡ ones f) → (suc x ≡ ones f → T b)
        → HasValue (cond b (cond (eqb t 0) (inf s) nan) (odd (prec f) s (hid f + t) x (low f))) s ((hid f + t) * 2 ^ x) (2 ^ low f) × (suc x ≡ ones f → ⊥)
    go true k a b = absurd (special (eqb t 0) k)
    go false k a b = (odd_sign (prec f) s (hid f + t) x (low f), b)

    eq→T : (a b : ℕ) → a ≡ b → T (eqb a b)
    eq→T a b e = subst (λ (y : ℕ). T (eqb a y)) e (eqb_refl a)

-- ---- a float's fields, by its pattern

twice : (f : Format) → hid f + hid f ≡ 2 ^ prec f
twice binary32 = refl
twice binary64 = refl

module _ (f : Format) (x : Float) (held : T (fits f x)) (h : T (finite x)) where
  abbrev bits : ℕ
  bits = to_bits f x

  fields_is : of_fields f (leb (top f) bits) (bits % top f / hid f) (bits % hid f) ≡ x
  unfolding of_bits
  fields_is = of_bits-to_bits f x held

  digits_lt : bits % hid f < hid f
  digits_lt = mod-lt bits (pow_pos (prec f - 1))

  field_lt : bits % top f / hid f < suc (ones f)
  field_lt = (div-lt_iff_lt-mul (pow_pos (prec f - 1))).1 (subst (λ (y : ℕ). bits % top f < y) (mul_comm (hid f) (suc (ones f))) (mod-lt bits (top_pos f)))
    where
      top_pos : (f : Format) → 0 < top f
      top_pos binary32 = lit< tt
      top_pos binary64 = lit< tt

  apart_zero : bits % top f / hid f ≡ 0 → Unpacked f x (leb (top f) bits) (bits % hid f) 0
  apart_zero e =
      let d : bits % hid f < hid f = digits_lt in
      let w : hid f + hid f ≡ 2 ^ prec f = twice f in
      record {
        value =
            subst (λ (y : Float). HasValue y (leb (top f) bits) (bits % hid f * 2 ^ 0) (2 ^ low f))
            (ap (λ (z : ℕ). of_fields f (leb (top f) bits) z (bits % hid f)) (sym e) ∙ fields_is)
            (no_field f (leb (top f) bits) (bits % hid f));
        small = omega arith;
        fields = some_emax f;
        full = inl refl;
      }
    where
      some_emax : (f : Format) → 0 < emax f + emax f
      some_emax binary32 = lit< tt
      some_emax binary64 = lit< tt

  apart_some : (bits % top f / hid f ≡ 0 → ⊥) → Unpacked f x (leb (top f) bits) (bits % hid f + hid f) (bits % top f / hid f - 1)
  apart_some ne =
      let s = leb (top f) bits in
      let t = bits % hid f in
      let z = bits % top f / hid f in
      let d : t < hid f = digits_lt in
      let l : z < suc (ones f) = field_lt in
      let w : hid f + hid f ≡ 2 ^ prec f = twice f in
      let up : suc (z - 1) ≡ z = not_zero z ne in
      let is : of_fields f s (suc (z - 1)) t ≡ x = ap (λ (y : ℕ). of_fields f s y t) up ∙ fields_is in
      let v = some_field f s (z - 1) t (subst (λ (y : Float). T (finite y)) (sym is) h) in
      record {
        value =
            subst (λ (y : Float). HasValue y s ((t + hid f) * 2 ^ (z - 1)) (2 ^ low f)) is
            (subst (λ (y : ℕ). HasValue (of_fields f s (suc (z - 1)) t) s (y * 2 ^ (z - 1)) (2 ^ low f)) (add_comm (hid f) t) v.0);
        small = omega arith;
        fields = in_range z (emax f) (emax f + emax f) (double (emax f)) ne l (λ e. v.1 (up ∙ e));
        full = inr (omega arith);
      }
    where
      not_zero : (z : ℕ) → (z ≡ 0 → ⊥) → suc (z - 1) ≡ z
      not_zero z ne = omega arith

      double : (m : ℕ) → m + m ≡ 2 * m
      double m = omega arith

      in_range : (z m d : ℕ) → d ≡ 2 * m → (z ≡ 0 → ⊥) → z < suc (2 * m + 1) → (z ≡ 2 * m + 1 → ⊥) → z - 1 < d
      in_range z m d e ne l nf = omega arith

  -- what `unpack32` and `unpack64` return
  pub apart : {s : Bool} {d e : ℕ} → Fields bits (top f) (hid f) s d e → Unpacked f x s d e
  apart {s} {d} {e} p = rw (p.negative, p.digits, p.exponent) (go (eqb (bits % top f / hid f) 0) refl)
    where
      go : (b : Bool) → eqb (bits % top f / hid f) 0 ≡ b → Unpacked f x (leb (top f) bits) (bits % hid f + cond b 0 (hid f)) (bits % top f / hid f - 1)
      go true h =
          let z : bits % top f / hid f ≡ 0 = eqb-true _ _ h in
          rw (add-zero (bits % hid f), ap (λ (n : ℕ). n - 1) z) (apart_zero z)
      go false h = apart_some (eqb-false _ _ h)

pub number_no_nan : (x : Float) → T (finite x) → T (not (is_nan x))
unfolding is_nan
number_no_nan nan h = h
number_no_nan (inf s) h = tt
number_no_nan (fin s m e) h = tt
