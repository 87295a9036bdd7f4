-- Columns that a scan may pass, bytes or-ed, and the lesser and the greater of two. Assumes nothing.
use mathlib.Core.Path.{◌≡◌, sym, ap, ◌∙◌}
use mathlib.Core.List.{List}
use mathlib.Core.Logic.{◌⊎◌, inl, inr}
use Prim.Native.Nat.{ℕ, ◌+◌, ◌-◌, ◌≤◌, ◌<◌, min, max}
use native.Mathlib.Decide.{dec_lt}
use native.Mathlib.Omega.{arith}
use lib.Bits.{bit_or, or_add_and, and_le_l, and_le_r}
use lib.ListN.{length, get_or, take, drop, length-take, length-drop, get_or-eq_default}
use lib.Seq.{get_or-take, get_or-drop}
use Rattle.ink.specs.Steps.{Blanks, Passed}

pub or_none : (a b : ℕ) → bit_or a b ≡ 0 → (a ≡ 0) × (b ≡ 0)
or_none a b e =
    let s = or_add_and a b in
    let l = and_le_l a b in
    let r = and_le_r a b in
    (omega arith, omega arith)

pub min_either : (a b : ℕ) → (min a b ≡ a) ⊎ (min a b ≡ b)
min_either a b = go (dec_lt a b)
  where
    go : Dec (a < b) → (min a b ≡ a) ⊎ (min a b ≡ b)
    go (yes h) = inl (omega arith)
    go (no h) = inr (omega arith)

pub max_either : (a b : ℕ) → (max a b ≡ a) ⊎ (max a b ≡ b)
max_either a b = go (dec_lt a b)
  where
    go : Dec (a < b) → (max a b ≡ a) ⊎ (max a b ≡ b)
    go (yes h) = inr (omega arith)
    go (no h) = inl (omega arith)

-- none, some and some more
pub passed_none : {line : List ℕ} {at : ℕ} → at ≤ length line → Passed line at at
passed_none h = record { up = omega arith; within = h; blanks = λ k l m. absurd (omega arith) }

pub passed_more : {line : List ℕ} {from at to : ℕ} → Passed line from at → Passed line at to → Passed line from to
passed_more {line} {from} {at} {to} p q =
    let a = p.up in
    let b = q.up in
    record { up = omega arith; within = q.within; blanks = λ k l m. go k l m (dec_lt k at) }
  where
    go : (k : ℕ) → from ≤ k → k < to → Dec (k < at) → get_or line k 0 ≡ 0
    go k l m (yes h) = p.blanks k l h
    go k l m (no h) = q.blanks k (omega arith) m

pub passed_one : {line : List ℕ} (at : ℕ) → at < length line → get_or line at 0 ≡ 0 → Passed line at (at + 1)
passed_one {line} at h z = record {
  up = omega arith;
  within = omega arith;
  blanks = λ k l m. (let e : k ≡ at = omega arith in ap (λ (i : ℕ). get_or line i 0) e ∙ z);
}

-- in a part of a line
module _ (line : List ℕ) (from to : ℕ) (room : to ≤ length line) (up : from ≤ to) where
  abbrev part : List ℕ
  part = take (to - from) (drop from line)

  pub part_long : length part ≡ to - from
  part_long = simp (length-take, length-drop) (omega arith)

  pub part_passed : (a b : ℕ) → Passed part a b → Passed line (from + a) (from + b)
  part_passed a b p =
      let u = p.up in
      let w = p.within in
      let l = part_long in
      record { up = omega arith; within = omega arith; blanks = byte }
    where
      byte : Blanks line (from + a) (from + b)
      byte k low high =
          let w = p.within in
          let l = part_long in
          let e : from + (k - from) ≡ k = omega arith in
          ap (λ (i : ℕ). get_or line i 0) (sym e) ∙ sym (get_or-drop from line (k - from) 0)
          ∙ sym (get_or-take (to - from) (drop from line) (k - from) 0 (omega arith)) ∙ p.blanks (k - from) (omega arith) (omega arith)

  pub part_blank : Blanks part 0 (length part) → Passed line from to
  part_blank z =
      let l = part_long in
      let a : from + 0 ≡ from = omega arith in
      let b : from + length part ≡ to = omega arith in
      rw (a, b) at (part_passed 0 (length part) (record { up = omega arith; within = omega arith; blanks = z }))

pub past_zeros : (line : List ℕ) (k : ℕ) → length line ≤ k → get_or line k 0 ≡ 0
past_zeros line k h = get_or-eq_default line 0 h

-- from a column on to the line's end, and past it
pub zeros_from : {line : List ℕ} {at : ℕ} → Passed line at (length line) → (k : ℕ) → at ≤ k → get_or line k 0 ≡ 0
zeros_from {line} p k h = go (dec_lt k (length line))
  where
    go : Dec (k < length line) → get_or line k 0 ≡ 0
    go (yes m) = p.blanks k h m
    go (no m) = past_zeros line k (omega arith)
