-- The walk over all verbs, whatever a loop keeps of it: what is left of it, and how many segments it has. Assumes nothing.
use mathlib.Core.Path.{◌≡◌, refl, sym, ap, ◌∙◌, subst}
use mathlib.Core.Bool.{Bool, true, false, cond, not, ◌||◌}
use mathlib.Core.List.{List, [], ◌∷◌}
use Prim.Native.Nat.{ℕ, ◌+◌, ◌*◌, ◌≤◌, ◌<◌}
use native.Mathlib.Numerals.{add-one}
use native.Mathlib.Omega.{arith}
use lib.ListN.{length, get_or, drop, length-append, drop_of_length-le}
use lib.Seq.{drop-cons}
use lib.Ieee.{Float}
use Rattle.geometry.specs.declared.Position.{Position}
use Rattle.fault.specs.declared.Fault.{Fault}
use Rattle.path.specs.declared.PackedVerb.{PackedVerb}
use Rattle.path.specs.declared.Verb.{Verb}
use Rattle.path.specs.declared.Verb.TheVariants as verb
use Rattle.path.specs.Verbs.{unpacked_of, num_coordinates_of, from_packed_of}
use Rattle.outline.specs.declared.Segment.{Segment}
use Rattle.outline.specs.declared.Segment.TheVariants as segment
use Rattle.outline.specs.declared.Walk.{Walk}
use Rattle.std.specs.Prelude.{Ok, Err, Option, Some, None}
use Rattle.outline.specs.Outline.{most_verbs, most_points, floats_of, floats_needed_of}
use Rattle.outline.specs.Contour.{
  Contour,
  Walked,
  stopped,
  reached,
  new_contour,
  empty_of,
  same_place_of,
  move_of,
  pushed_of,
  draw_of,
  contour_step_of,
  byte_step_of,
  contour_from,
  contour_of,
}
use Rattle.outline.specs.Kept.{walk_of, step_of, count_of}
use Rattle.outline.proofs.Scan.{floats_next}

-- ---- one verb

-- what holds wherever a walk stands
abbrev pub Holds : (Contour → Type 0) → Walked → Type 0
Holds P stopped = Unit
Holds P (reached k) = P k

cond_elim : (P : Walked → Type 0) (b : Bool) (x y : Walked) → (b ≡ true → P x) → (b ≡ false → P y) → P (cond b x y)
cond_elim P true x y f g = f refl
cond_elim P false x y f g = g refl

pub no_segment : (ss : List Segment) → empty_of ss ≡ true → ss ≡ []
no_segment [] h = refl
no_segment (s ∷ ss) h = absurd (subst (λ (b : Bool). cond b ⊥ Unit) h tt)

-- what holds after a verb: of the same segments begun anew, of the same contour, and of one segment more
module _ (k : Contour) (P : Contour → Type 0) where
  pub moved : ((p : Position) → k.segments ≡ [] → P (record { started = true; start = p; last = p; closed = k.closed; segments = k.segments }))
      → (p : Position) → Holds P (move_of k p)
  unfolding move_of
  moved anew p = cond_elim (Holds P) (empty_of k.segments) _ _ (λ e. anew p (no_segment k.segments e)) (λ e. tt)

  pub lined : P k → (x y : Float) → P (pushed_of k (segment.Line x y) (record { x = x; y = y })) → Holds P (draw_of k (segment.Line x y))
  unfolding draw_of
  lined still x y more =
      cond_elim (Holds P) (k.closed || not k.started) _ _ (λ e. tt)
      (λ e. cond_elim (Holds P) (same_place_of (record { x = x; y = y }) k.last) _ _ (λ f. still) (λ f. more))

  pub curved : (a b c d x y : Float) → P (pushed_of k (segment.Cubic a b c d x y) (record { x = x; y = y }))
      → Holds P (draw_of k (segment.Cubic a b c d x y))
  unfolding draw_of
  curved a b c d x y more = cond_elim (Holds P) (k.closed || not k.started) _ _ (λ e. tt) (λ e. more)

-- a verb is the MoveTo, or adds one segment at most
abbrev Few : ℕ → Contour → Type 0
Few i k = length k.segments + count_of k.started ≤ i

module _ (k : Contour) (i : ℕ) (few : Few i k) where
  more : (s : Segment) (p : Position) → Few (i + 1) (pushed_of k s p)
  more s p = rw length-append (omega arith)

  few_after : (v : Verb) → Holds (Few (i + 1)) (contour_step_of k v)
  few_after (verb.MoveTo x y) = moved k (Few (i + 1)) (λ p e. rw e (omega arith)) (record { x = x; y = y })
  few_after (verb.LineTo x y) = lined k (Few (i + 1)) (omega arith) x y (more (segment.Line x y) (record { x = x; y = y }))
  few_after (verb.BezierTo a b c d x y) = curved k (Few (i + 1)) a b c d x y (more (segment.Cubic a b c d x y) (record { x = x; y = y }))
  few_after verb.Solid = omega arith
  few_after verb.Hole = omega arith
  few_after verb.Close = omega arith

-- ---- the loop

pub record Walking (Kept : Contour → Type 0) (verbs : List ℕ) (positions : List Float) (w : Walk) (i at : ℕ) : Type 0 where
  pub contour : Contour
  pub stands : w ≡ walk_of contour
  pub ahead : contour_from (reached contour) (drop i verbs) positions at ≡ contour_of verbs positions
  pub kept : Kept contour
  pub few : length contour.segments + count_of contour.started ≤ i
  pub left : at + floats_needed_of (drop i verbs) ≡ length positions
  pub within : i ≤ length verbs

pub begins : {Kept : Contour → Type 0} {verbs : List ℕ} {positions : List Float} {w : Walk} → Kept new_contour → floats_needed_of verbs ≡ length positions
    → w ≡ walk_of new_contour → Walking Kept verbs positions w 0 0
begins first fits e =
    record {
      contour = new_contour;
      stands = e;
      ahead = refl;
      kept = first;
      few = omega arith;
      left = omega arith;
      within = omega arith;
    }

stays_stopped : (bytes : List ℕ) (positions : List Float) (at : ℕ) → contour_from stopped bytes positions at ≡ stopped
unfolding contour_from
stays_stopped [] positions at = refl
stays_stopped (b ∷ bytes) positions at = refl

step_of_stop : (z : Walked) → None ≡ step_of z → z ≡ stopped
step_of_stop stopped h = refl
step_of_stop (reached k) h = let never : ◌≡◌ {A = ℕ} 0 1 = cc in absurd (omega arith)

module _ {Kept : Contour → Type 0} {verbs : List ℕ} {positions : List Float} {w : Walk} {i at : ℕ} (s : Walking Kept verbs positions w i at) where
  pub count_is : w.count ≡ length s.contour.segments
  unfolding walk_of
  count_is = rw s.stands

  -- at most as many segments as verbs
  pub most : length verbs ≤ most_verbs → length s.contour.segments ≤ most_verbs
  most small = let n = s.few in let m = s.within in omega arith

  -- there is room for one point more
  pub has_room : length verbs ≤ most_verbs → w.count < most_points
  has_room small = let n = most small in let c = count_is in omega arith

  pub count_fits : i < length verbs → length verbs ≤ most_verbs → w.count < most_verbs
  count_fits l small = let n = count_is in let f = s.few in omega arith

  -- ---- after the last verb
  module _ (done : length verbs ≤ i) where
    pub ended_at : contour_of verbs positions ≡ reached s.contour
    unfolding contour_from
    ended_at = sym s.ahead ∙ rw (drop_of_length-le verbs done)

    pub ended_few : length verbs ≤ most_verbs → length s.contour.segments + count_of s.contour.started ≤ most_verbs
    ended_few small = let l = s.few in let m = s.within in omega arith

  -- ---- one verb more
  module _ (next_one : i < length verbs) where
    abbrev byte : ℕ
    byte = get_or verbs i 0

    abbrev from_next : Walked → Walked
    from_next z = contour_from z (drop (i + 1) verbs) positions (at + floats_of byte)

    next_verb : contour_of verbs positions ≡ from_next (byte_step_of s.contour (unpacked_of byte) positions at)
    unfolding contour_from
    next_verb = sym s.ahead ∙ rw (drop-cons verbs i 0 next_one, add-one i)

    none_from : from_next stopped ≡ stopped
    none_from = stays_stopped (drop (i + 1) verbs) positions (at + floats_of byte)

    pub bad_byte : {f : Fault} → unpacked_of byte ≡ Err f → contour_of verbs positions ≡ stopped
    bad_byte u = next_verb ∙ rw u none_from

    module _ {p : PackedVerb} (u : unpacked_of byte ≡ Ok p) where
      takes : floats_of byte ≡ 2 * num_coordinates_of p
      unfolding floats_of
      takes = rw u

      pub room : at + 2 * num_coordinates_of p ≤ length positions
      room = let l = s.left in let t = takes in let n = floats_next verbs i next_one in omega arith

      module _ {v : Verb} (e : v ≡ from_packed_of p positions at) {r : Option Walk}
          (told : (k : Contour) → w ≡ walk_of k → r ≡ step_of (contour_step_of k v)) where
        onward : (z : Walked) → contour_step_of s.contour v ≡ z → contour_of verbs positions ≡ from_next z
        onward z g = next_verb ∙ rw (u, ← e, g)

        pub stops : r ≡ None → contour_of verbs positions ≡ stopped
        stops h = onward stopped (step_of_stop (contour_step_of s.contour v) (sym h ∙ told s.contour s.stands)) ∙ none_from

        -- what the loop keeps from now on holds of the contour after the verb
        module _ {next : Walk} (h : r ≡ Some next) {f : ℕ} (takes-f : f ≡ 2 * num_coordinates_of p) {Kept₁ : Contour → Type 0}
            (keeps : Holds Kept₁ (contour_step_of s.contour v)) where
          goes_by : (z : Walked) → contour_step_of s.contour v ≡ z → Holds Kept₁ z → Holds (Few (i + 1)) z
              → Walking Kept₁ verbs positions next (i + 1) (at + f)
          goes_by stopped g q few =
              let never : ◌≡◌ {A = Option Walk} (Some next) None = sym h ∙ told s.contour s.stands ∙ ap step_of g in
              let z : ◌≡◌ {A = ℕ} 0 1 = cc in
              absurd (omega arith)
          goes_by (reached k₁) g q few =
              let same : ◌≡◌ {A = Option Walk} (Some next) (Some (walk_of k₁)) = sym h ∙ told s.contour s.stands ∙ ap step_of g in
              let l = s.left in
              let t = takes in
              let n = floats_next verbs i next_one in
              record {
                contour = k₁;
                stands = cc;
                ahead = rw (takes-f ∙ sym takes) (sym (onward (reached k₁) g));
                kept = q;
                few = few;
                left = omega arith;
                within = omega arith;
              }

          pub goes : Walking Kept₁ verbs positions next (i + 1) (at + f)
          goes = goes_by (contour_step_of s.contour v) refl keeps (few_after s.contour i s.few v)
