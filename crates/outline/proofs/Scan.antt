-- Loops that pass over a list from its first element: what is left to do, with one element less. Assumes nothing.
use mathlib.Core.Path.{◌≡◌, refl}
use mathlib.Core.Bool.{Bool, true, false}
use mathlib.Core.List.{List, [], ◌∷◌}
use Prim.Native.Nat.{ℕ, zero, suc, ◌+◌, ◌*◌, ◌≤◌, ◌<◌}
use native.Mathlib.Numerals.{add-one}
use native.Mathlib.Omega.{arith}
use lib.ListN.{length, get_or, drop, drop_of_length-le}
use lib.Seq.{drop-cons}
use lib.Ieee.{Float, nan}
use Rattle.path.specs.declared.PackedVerb.{PackedVerb}
use Rattle.path.specs.declared.PackedVerb.TheVariants as packed
use Rattle.path.specs.Verbs.{unpacked_of, num_coordinates_of}
use Rattle.fault.specs.declared.Fault.{Fault}
use Rattle.fault.specs.Check.{Check, ◌and_then◌}
use Rattle.std.specs.Prelude.{Result, Ok, Err, IsTrue, EachIndex, ◌↔◌}
use Rattle.shape.specs.Checks.{in_range_of}
use Rattle.outline.specs.Outline.{verb_check_of, verbs_check_of, floats_by, floats_of, floats_needed_of, all_in_range_of}

-- at element i, what is left gives the answer
pub record Left {A B : Type 0} (answer : List A → B) (l : List A) (i : ℕ) : Type 0 where
  pub most : i ≤ length l
  pub same : answer (drop i l) ≡ answer l

pub left_all : {A B : Type 0} {answer : List A → B} {l : List A} → Left answer l 0
left_all = record { most = omega arith; same = refl }

left_none : {A B : Type 0} {answer : List A → B} {l : List A} {i : ℕ} → Left answer l i → length l ≤ i → answer [] ≡ answer l
left_none {A} {B} {answer} {l} s h = rw (drop_of_length-le l h) at s.same

-- ---- the verbs' checks: one that refuses ends the loop
verbs_next : (verbs : List ℕ) (i : ℕ) → i < length verbs
    → verbs_check_of (drop i verbs) ≡ (verb_check_of (get_or verbs i 0) and_then verbs_check_of (drop (i + 1) verbs))
unfolding verbs_check_of
verbs_next verbs i h = rw (drop-cons verbs i 0 h, add-one i)

module _ {verbs : List ℕ} {i : ℕ} (s : Left verbs_check_of verbs i) where
  module _ (l : i < length verbs) {c : Check} (e : c ≡ verb_check_of (get_or verbs i 0)) where
    pub verb_refused : {f : Fault} → c ≡ Err f → Err f ≡ verbs_check_of verbs
    verb_refused h = rw (← s.same, verbs_next verbs i l, ← e, h)

    pub verb_passes : c ≡ Ok tt → Left verbs_check_of verbs (i + 1)
    verb_passes h = record { most = omega arith; same = rw (← s.same, verbs_next verbs i l, ← e, h) }

  pub verbs_pass : length verbs ≤ i → Ok tt ≡ verbs_check_of verbs
  unfolding verbs_check_of
  verbs_pass h = left_none s h

-- ---- the positions' numbers
abbrev pub InRange : List Float → ℕ → Type 0
InRange xs i = IsTrue (in_range_of (get_or xs i nan))

each_in : (xs : List Float) → EachIndex xs (InRange xs) → all_in_range_of xs ≡ true
unfolding all_in_range_of
each_in [] h = refl
each_in (x ∷ xs) h = rw (h 0 (omega arith), each_in xs (λ k l. h (suc k) (omega arith)))

in_each : (xs : List Float) → all_in_range_of xs ≡ true → EachIndex xs (InRange xs)
unfolding all_in_range_of
in_each [] h k l = absurd (omega arith)
in_each (x ∷ xs) h zero l = grind arith
in_each (x ∷ xs) h (suc k) l = in_each xs (grind arith) k (omega arith)

pub numbers_in : (xs : List Float) (t : Bool) → IsTrue t ↔ EachIndex xs (InRange xs) → t ≡ all_in_range_of xs
numbers_in xs true h = let each = each_in xs in grind arith
numbers_in xs false h = let each = in_each xs in grind arith

-- ---- the floats that the verbs' positions take
pub floats_next : (verbs : List ℕ) (i : ℕ) → i < length verbs
    → floats_needed_of (drop i verbs) ≡ floats_of (get_or verbs i 0) + floats_needed_of (drop (i + 1) verbs)
unfolding floats_needed_of
floats_next verbs i h = rw (drop-cons verbs i 0 h, add-one i)

pub packed_le : (p : PackedVerb) → 2 * num_coordinates_of p ≤ 6
packed_le packed.MoveTo = omega arith
packed_le packed.LineTo = omega arith
packed_le packed.BezierTo = omega arith
packed_le packed.Solid = omega arith
packed_le packed.Hole = omega arith
packed_le packed.Close = omega arith

unpacked_le : (u : Result PackedVerb Fault) → floats_by u ≤ 6
unpacked_le (Ok p) = packed_le p
unpacked_le (Err f) = omega arith

pub floats_le : (byte : ℕ) → floats_of byte ≤ 6
unfolding floats_of
floats_le byte = unpacked_le (unpacked_of byte)

-- the sum so far, at verb i, with what the verbs left need
pub record Summed (verbs : List ℕ) (sum i : ℕ) : Type 0 where
  pub most : i ≤ length verbs
  pub small : sum ≤ 6 * i
  pub left : sum + floats_needed_of (drop i verbs) ≡ floats_needed_of verbs

pub sum_next : {verbs : List ℕ} {sum i f : ℕ} → Summed verbs sum i → i < length verbs → f ≡ floats_of (get_or verbs i 0) → Summed verbs (sum + f) (i + 1)
sum_next {verbs} {sum} {i} {f} s l e =
    let next = floats_next verbs i l in
    let few = floats_le (get_or verbs i 0) in
    let small = s.small in
    let left = s.left in
    record { most = omega arith; small = omega arith; left = omega arith }

pub sum_all : {verbs : List ℕ} {sum i : ℕ} → Summed verbs sum i → length verbs ≤ i → sum ≡ floats_needed_of verbs
unfolding floats_needed_of
sum_all {verbs} {sum} {i} s h =
    let none : floats_needed_of (drop i verbs) ≡ 0 = rw (drop_of_length-le verbs h) in
    let left = s.left in
    omega arith
