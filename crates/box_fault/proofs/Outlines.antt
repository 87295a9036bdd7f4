-- An outline's check, and that of an outline and a frame, by their causes (specs/Causes.antt). Assumes nothing.
use Rattle.std.specs.Prelude.{Ok, Err}
use mathlib.Core.Path.{◌≡◌, refl}
use mathlib.Core.Bool.{Bool, true, false}
use mathlib.Core.Logic.{inl, inr}
use mathlib.Core.List.{List}
use Prim.Native.Nat.{ℕ, zero, suc, ◌≤◌}
use native.Mathlib.Omega.{arith}
use lib.Dec.{leb, eqb}
use lib.Ieee.{Float}
use lib.ListN.{length}
use borrow.Author.Tests.{le-leb, lt-leb, leb-true, leb-false, eqb-true, eqb-false, eq-eqb, ne_eqb}
use Rattle.fault.specs.declared.Fault.{Fault}
use Rattle.fault.specs.declared.Fault.TheVariants.{NumberOutOfRange, UnknownVerb, PositionsMismatch, TooManyVerbs}
use Rattle.geometry.specs.declared.Transform2D.{Transform2D}
use Rattle.path.specs.Verbs.{unpacked_of}
use Rattle.outline.specs.Outline.{verb_check_of, verbs_check_of, floats_needed_of, all_in_range_of, outline_check_of}
use Rattle.upright_rect.specs.Calls.{outline_frame_check_of}
use Rattle.boxes.specs.Laws.{All}
use Rattle.box_fault.specs.Causes.{InRange, frame_numbers, FirstAtFault, VerbFault, unknown, KnownVerb}
use Rattle.box_fault.specs.Causes.{OutlineFault, too_many, of_verb, mismatch, of_position, FaultlessOutline, OutlineFrameFault, of_outline, of_frame}
use Rattle.fault.proofs.Decided.{Decided}
use Rattle.box_fault.proofs.Lists.{EachChecked, all_pass, first_refuses, all_decided}
use Rattle.box_fault.proofs.Boxes.{frame_numbers_lem}

-- ---- one verb

verb_known : (byte : ℕ) → KnownVerb byte → verb_check_of byte ≡ Ok tt
unfolding verb_check_of unpacked_of
verb_known zero h = refl
verb_known (suc zero) h = refl
verb_known (suc (suc zero)) h = refl
verb_known (suc (suc (suc zero))) h = refl
verb_known (suc (suc (suc (suc zero)))) h = refl
verb_known (suc (suc (suc (suc (suc zero))))) h = refl
verb_known (suc (suc (suc (suc (suc (suc n)))))) h = absurd (omega arith)

verb_at_fault : (byte : ℕ) (f : Fault) → VerbFault byte f → verb_check_of byte ≡ Err f
unfolding verb_check_of unpacked_of
verb_at_fault byte f (unknown l) =
    let above : (n : ℕ) → n ≤ 5 → eqb byte n ≡ false = λ n h. ne_eqb byte n (λ e. omega arith) in
    rw (above 0 (omega arith), above 1 (omega arith), above 2 (omega arith), above 3 (omega arith), above 4 (omega arith), above 5 (omega arith))

verb_decided : (byte : ℕ) → Decided (KnownVerb byte) (VerbFault byte)
verb_decided byte = go (leb byte 5) refl
  where
    go : (b : Bool) → leb byte 5 ≡ b → Decided (KnownVerb byte) (VerbFault byte)
    go true e = inl (leb-true _ _ e)
    go false e = inr (UnknownVerb, unknown (leb-false _ _ e))

-- ---- all verbs

each_verb : EachChecked KnownVerb VerbFault verb_check_of verbs_check_of
unfolding verbs_check_of
each_verb = record { none = refl; next = λ byte bytes. refl; passes = verb_known; caused = verb_at_fault }

-- ---- the outline

module _ (verbs : List ℕ) (positions : List Float) where
  pub outline_refused : (f : Fault) → OutlineFault verbs positions f → outline_check_of verbs positions ≡ Err f
  unfolding outline_check_of
  outline_refused f (too_many l) = rw (lt-leb _ _ l)
  outline_refused f (of_verb l e) = rw (le-leb _ _ l, first_refuses each_verb verbs f e)
  outline_refused f (mismatch l s n) = rw (le-leb _ _ l, all_pass each_verb verbs s, ne_eqb _ _ n)
  outline_refused f (of_position l s e h) = rw (le-leb _ _ l, all_pass each_verb verbs s, eq-eqb _ _ e, h)

  pub outline_passes : FaultlessOutline verbs positions → outline_check_of verbs positions ≡ Ok tt
  unfolding outline_check_of
  outline_passes h = rw (le-leb _ _ h.few, all_pass each_verb verbs h.known, eq-eqb _ _ h.match, h.in_range)

  pub outline_decided : Decided (FaultlessOutline verbs positions) (OutlineFault verbs positions)
  outline_decided =
      go (leb (length verbs) 256) (all_decided verb_decided verbs) (eqb (floats_needed_of verbs) (length positions)) (all_in_range_of positions) refl refl refl
    where
      go : (few : Bool) → Decided (All KnownVerb verbs) (FirstAtFault KnownVerb VerbFault verbs) → (match good : Bool) → leb (length verbs) 256 ≡ few
          → eqb (floats_needed_of verbs) (length positions) ≡ match → all_in_range_of positions ≡ good
          → Decided (FaultlessOutline verbs positions) (OutlineFault verbs positions)
      go false d match good l m g = inr (TooManyVerbs, too_many (leb-false _ _ l))
      go true (inr (f, e)) match good l m g = inr (f, of_verb (leb-true _ _ l) e)
      go true (inl s) false good l m g = inr (PositionsMismatch, mismatch (leb-true _ _ l) s (eqb-false _ _ m))
      go true (inl s) true false l m g = inr (NumberOutOfRange, of_position (leb-true _ _ l) s (eqb-true _ _ m) g)
      go true (inl s) true true l m g = inl (record { few = leb-true _ _ l; known = s; match = eqb-true _ _ m; in_range = g })

  -- ---- the outline and a frame

  module _ (t : Transform2D) where
    pub framed_refused : (f : Fault) → OutlineFrameFault verbs positions t f → outline_frame_check_of verbs positions t ≡ Err f
    framed_refused f (of_outline e) = rw (outline_refused f e)
    framed_refused f (of_frame g e) = rw (outline_passes g, frame_numbers_lem t, e)

    pub framed_passes : FaultlessOutline verbs positions × InRange (frame_numbers t) → outline_frame_check_of verbs positions t ≡ Ok tt
    framed_passes h = rw (outline_passes h.0, frame_numbers_lem t, h.1)

    pub framed_decided : Decided (FaultlessOutline verbs positions × InRange (frame_numbers t)) (OutlineFrameFault verbs positions t)
    framed_decided = go outline_decided (all_in_range_of (frame_numbers t)) refl
      where
        go : Decided (FaultlessOutline verbs positions) (OutlineFault verbs positions) → (good : Bool) → all_in_range_of (frame_numbers t) ≡ good
            → Decided (FaultlessOutline verbs positions × InRange (frame_numbers t)) (OutlineFrameFault verbs positions t)
        go (inr (f, e)) good h = inr (f, of_outline e)
        go (inl g) false h = inr (NumberOutOfRange, of_frame g h)
        go (inl g) true h = inl (g, h)
