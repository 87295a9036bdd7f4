-- Marks: what `mark` stores, runs of marks one after another, and a row whose cells changed only where they were
-- marked. Assumes nothing.
use mathlib.Core.Path.{◌≡◌, refl, sym, ap, ◌∙◌}
use mathlib.Core.Logic.{◌≢◌, ◌⊎◌, inl, inr}
use mathlib.Core.List.{List}
use Prim.Native.Nat.{ℕ, ◌+◌, ◌*◌, ◌/◌, ◌%◌, ◌^◌, ◌≤◌, ◌<◌}
use native.Mathlib.Omega.{arith}
use native.Mathlib.Decide.{ℕ_discrete, dec_lt}
use lib.Bits.{bit_or}
use lib.ListN.{length, get_or, set, length-set}
use lib.Seq.{get_or-set_same, get_or-set_other}
use lib.Ieee.{nan}
use Rattle.float.proofs.Shift.{one_shl}
use Rattle.float.specs.Ops.{f0}
use Rattle.accumulation.specs.Area.{Cells}
use Rattle.accumulation.specs.Marks.{bit_of, Clear, Summed, Ready, Marked}
use Rattle.accumulation.proofs.Bits.{or_clear, own_bit, ones_at, ones_set}

-- ---- one word

module _ (before : List ℕ) (cell n : ℕ) (some : 0 < n) (one : cell % 64 + n ≤ 64) (low : cell / 64 < 64) (room : cell / 64 + 1 < length before) where
  abbrev word : ℕ
  word = cell / 64

  abbrev first : List ℕ
  first = set before 0 (bit_or (get_or before 0 0) (1 * 2 ^ word % 2 ^ 64))

  abbrev after : List ℕ
  after = set first (word + 1) (bit_or (get_or first (word + 1) 0) (ones_at n (cell % 64)))

  in_first : word + 1 < length first
  in_first = rw length-set room

  at_front : get_or after 0 0 ≡ bit_or (get_or before 0 0) (1 * 2 ^ word % 2 ^ 64)
  at_front = get_or-set_other first (word + 1) 0 _ 0 (λ e. omega arith) ∙ get_or-set_same before 0 _ 0 (omega arith)

  at_word : get_or after (word + 1) 0 ≡ bit_or (get_or before (word + 1) 0) (ones_at n (cell % 64))
  at_word =
      get_or-set_same first (word + 1) _ 0 in_first
      ∙ ap (λ (x : ℕ). bit_or x (ones_at n (cell % 64))) (get_or-set_other before 0 (word + 1) _ 0 (λ e. omega arith))

  at_other : (v : ℕ) → v ≢ word → get_or after (v + 1) 0 ≡ get_or before (v + 1) 0
  at_other v d = get_or-set_other first (word + 1) (v + 1) _ 0 (λ e. d (omega arith)) ∙ get_or-set_other before 0 (v + 1) _ 0 (λ e. omega arith)

  here : (c : ℕ) → c / 64 ≡ word → Clear after c → (bit_of (get_or before (word + 1) 0) (c % 64) ≡ 0) × (bit_of (ones_at n (cell % 64)) (c % 64) ≡ 0)
  here c e z = or_clear (get_or before (word + 1) 0) (ones_at n (cell % 64)) (c % 64) (ap (λ (x : ℕ). bit_of x (c % 64)) (sym (ap (λ (v : ℕ). get_or after (v + 1) 0) e ∙ at_word)) ∙ z)

  kept : (c : ℕ) → Clear after c → Clear before c
  kept c z = go (ℕ_discrete (c / 64) word)
    where
      go : Dec (c / 64 ≡ word) → Clear before c
      go (yes e) = ap (λ (v : ℕ). bit_of (get_or before (v + 1) 0) (c % 64)) e ∙ (here c e z).0
      go (no d) = ap (λ (x : ℕ). bit_of x (c % 64)) (sym (at_other (c / 64) d)) ∙ z

  own : (c : ℕ) → cell ≤ c → c < cell + n → Clear after c → ⊥
  own c l h z =
      let e : c / 64 ≡ word = omega arith in
      let b = (here c e z).1 in
      ones_set n (cell % 64) (c % 64) one (omega arith) (omega arith) b

  summed : Summed before → Summed after
  summed s w h z =
      let k = or_clear (get_or before 0 0) (1 * 2 ^ word % 2 ^ 64) w (ap (λ (x : ℕ). bit_of x w) (sym at_front) ∙ z) in
      let d : w ≢ word = λ e. own_bit w (ap (λ (x : ℕ). bit_of x w) (sym (one_shl w h) ∙ ap (λ (x : ℕ). 1 * 2 ^ x % 2 ^ 64) e) ∙ k.1) in
      at_other w d ∙ s w h k.0

  pub marked_word : Marked before after cell (cell + n)
  marked_word = record { long = length-set first (word + 1) _ ∙ length-set before 0 _; own = own; kept = kept; summed = summed }

-- ---- runs

pub marked_none : {touched : List ℕ} {from : ℕ} → Marked touched touched from from
marked_none = record { long = refl; own = λ c p q z. omega arith; kept = λ c z. z; summed = λ s. s }

pub marked_more : {a b c : List ℕ} {from at to : ℕ} → Marked a b from at → Marked b c at to → Marked a c from to
marked_more {c = c} {from} {at} {to} p q =
    record {
      long = q.long ∙ p.long;
      own = λ k l h z. go k l h z (dec_lt k at);
      kept = λ k z. p.kept k (q.kept k z);
      summed = λ s. q.summed (p.summed s);
    }
  where
    go : (k : ℕ) → from ≤ k → k < to → Clear c k → Dec (k < at) → ⊥
    go k l h z (yes m) = p.own k l m (q.kept k z)
    go k l h z (no m) = q.own k (omega arith) h z

-- ---- a row

-- the cells changed only from `from` up to `to`, and those are marked
pub ready_marked : {cells raised : Cells} {before after : List ℕ} {from to : ℕ} → Ready cells before → Marked before after from to
    → length raised ≡ length cells → ((c : ℕ) → (c < from) ⊎ (to ≤ c) → get_or raised c nan ≡ get_or cells c nan) → Ready raised after
ready_marked {cells} {raised} {after = after} {from} {to} r m long same =
    record {
      narrow = rw long r.narrow;
      words = rw (m.long, long) r.words;
      marked = λ c h z. go c (rw long at h) z (dec_lt c from) (dec_lt c to);
      summed = m.summed r.summed;
    }
  where
    outside : (c : ℕ) → c < length cells → Clear after c → (c < from) ⊎ (to ≤ c) → get_or raised c nan ≡ f0
    outside c h z o = same c o ∙ r.marked c h (m.kept c z)

    go : (c : ℕ) → c < length cells → Clear after c → Dec (c < from) → Dec (c < to) → get_or raised c nan ≡ f0
    go c h z (yes p) q = outside c h z (inl p)
    go c h z (no p) (yes q) = absurd (m.own c (omega arith) q z)
    go c h z (no p) (no q) = outside c h z (inr (omega arith))
