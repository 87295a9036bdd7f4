-- What the scratch holds before each drawing never matters, whatever the list of calls (specs/Claim.antt). Assumes
-- nothing.
use mathlib.Core.Path.{◌≡◌, refl, sym, ap, ap₂, ◌∙◌}
use mathlib.Core.List.{List, [], ◌∷◌}
use Rattle.fault.specs.Check.{Check}
use Rattle.mask.specs.Calls.{Drawing, draw_answer}
use Rattle.reckoner.specs.Reckoner.{of, put, Call, draw, lay, lay_placed}
use Rattle.reckoner.specs.Claim.{Buffers, lent_of, drawn_on, Scratch, ScratchFor, Scratches, given, answered, buffers_after, all_answered, buffers_after_all}

-- a call is given the scratch's lengths alone
pub given_is : {d : Drawing} (s : Scratch d) → given d s ≡ d
given_is {d} s = rw (s.floats_long, s.counters_long) refl

same_given : {d : Drawing} (s t : Scratch d) → given d s ≡ given d t
same_given s t = given_is s ∙ sym (given_is t)

one_answer : (b : Buffers) (c : Call) (s t : ScratchFor c) → answered b c s ≡ answered b c t
one_answer b (draw p corner d) s t = ap (λ (e : Drawing). draw_answer e (lent_of (of p b))) (same_given s t)
one_answer b (lay l) s t = refl
one_answer b (lay_placed q) s t = refl

one_after : (b : Buffers) (c : Call) (s t : ScratchFor c) → buffers_after b c s ≡ buffers_after b c t
one_after b (draw p corner d) s t = ap (λ (e : Drawing). put p (drawn_on (draw_answer e (lent_of (of p b))) e (of p b)) b) (same_given s t)
one_after b (lay l) s t = refl
one_after b (lay_placed q) s t = refl

pub scratch_never_matters : (cs : List Call) (b : Buffers) (s t : Scratches cs)
    → (all_answered cs s b ≡ all_answered cs t b) × (buffers_after_all cs s b ≡ buffers_after_all cs t b)
scratch_never_matters [] b s t = (refl, refl)
scratch_never_matters (c ∷ cs) b s t =
    let h = scratch_never_matters cs (buffers_after b c s.0) s.1 t.1 in
    let e = one_after b c s.0 t.0 in (
      ap₂ (λ (o : Check) (os : List Check). o ∷ os) (one_answer b c s.0 t.0) (h.0 ∙ ap (all_answered cs t.1) e),
      h.1 ∙ ap (buffers_after_all cs t.1) e,
    )
