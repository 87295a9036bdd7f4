-- No outcome's number is a cause's (specs/Numbers.antt). Assumes nothing.
use Prim.Native.Nat.{ℕ, ◌+◌, ◌-◌, ◌≤◌}
use mathlib.Core.Path.{◌≡◌, refl, sym, ap, ◌∙◌}
use mathlib.Core.Bool.{Bool, true, false}
use mathlib.Core.List.{[], ◌∷◌}
use native.Mathlib.Omega.{arith}
use lib.ListN.{get_or, get_or-eq_default}
use Rattle.std.specs.Prelude.{Option, Some, None, Result, Ok, Err}
use Rattle.fault.specs.declared.Fault.{Fault}
use Rattle.fault.specs.Number.{number_of}
use Rattle.fault.proofs.Numbers.{cause_numbers}
use Rattle.mask.specs.Calls.{outcome_number}
use Rattle.geometry.specs.declared.Bounds.{Bounds}
use Rattle.shape.specs.declared.RoundedBox.{RoundedBox}
use Rattle.clip_coverage.specs.declared.ClipCoverage.{ClipCoverage}
use Rattle.fill.specs.declared.RectFill.{RectFill}
use Rattle.fill.specs.declared.RectFill.TheVariants as fill
use Rattle.rounded.specs.declared.Fitted.{Fitted}
use Rattle.inside.specs.declared.Inside.{Inside}
use Rattle.inside.specs.declared.Inside.TheVariants as inside
use Rattle.boundary.specs.Outcomes.{Ordinary, done, none, yes, no, no_frame, shared, covered, cut, counted, ordinary_number}
use Rattle.boundary.specs.Answers.{Handed, optional, unless_refused, rect_fill_handed, cut_by, whole_cut, both_box_handed}
use Rattle.boundary.specs.Answers.{reach_handed, test_number, touch_number, inside_number, write_number, read_number}
use Rattle.boundary.specs.Numbers.{CauseExactlyWhen, NumbersApart}

-- ---- outcomes

outside : (o : Ordinary) → 1 ≤ ordinary_number o → ordinary_number o ≤ 31 → ⊥
outside done low high = omega arith
outside none low high = omega arith
outside yes low high = omega arith
outside no low high = omega arith
outside no_frame low high = omega arith
outside shared low high = omega arith
outside covered low high = omega arith
outside cut low high = omega arith
outside (counted k) low high = omega arith

apart : (o : Ordinary) (f : Fault) → ordinary_number o ≡ number_of f → ⊥
apart o f e = let least = cause_numbers.least f in let most = cause_numbers.most f in outside o (omega arith) (omega arith)

-- those below what is counted, by number; then what is counted
abbrev outcome_at : ℕ → Ordinary
outcome_at n = get_or (done ∷ []) n (get_or (none ∷ yes ∷ no ∷ no_frame ∷ shared ∷ covered ∷ cut ∷ []) (n - 32) (counted (n - 256)))

own_outcome : (o : Ordinary) → outcome_at (ordinary_number o) ≡ o
own_outcome done = refl
own_outcome none = refl
own_outcome yes = refl
own_outcome no = refl
own_outcome no_frame = refl
own_outcome shared = refl
own_outcome covered = refl
own_outcome cut = refl
own_outcome (counted k) =
    let past_first : 1 ≤ 256 + k = omega arith in
    let past_all : 7 ≤ 256 + k - 32 = omega arith in
    get_or-eq_default (done ∷ []) _ past_first
    ∙ get_or-eq_default (none ∷ yes ∷ no ∷ no_frame ∷ shared ∷ covered ∷ cut ∷ []) _ past_all
    ∙ ap counted (omega arith)

outcomes : (o p : Ordinary) → ordinary_number o ≡ ordinary_number p → o ≡ p
outcomes o p e = sym (own_outcome o) ∙ ap outcome_at e ∙ own_outcome p

-- ---- answers by their numbers

-- the number is an ordinary outcome's
abbrev Ordinarily : ℕ → Type 0
Ordinarily n = (o : Ordinary) × (n ≡ ordinary_number o)

-- a number is an outcome's where the call is done, and a cause's where it is turned away
module _ {A : Type 0} (number : Result A Fault → ℕ) (ordinary : (a : A) → Ordinarily (number (Ok a)))
    (refused : (f : Fault) → number (Err f) ≡ number_of f) where
  within : (a : Result A Fault) → 1 ≤ number a → number a ≤ 31 → (f : Fault) × (a ≡ Err f)
  within (Ok a) low high = let o = ordinary a in absurd (outside o.0 (rw o.1 at low) (rw o.1 at high))
  within (Err f) low high = (f, refl)

  only : (a : Result A Fault) (f : Fault) → number a ≡ number_of f → a ≡ Err f
  only a f e =
      let least = cause_numbers.least f in
      let most = cause_numbers.most f in
      let w = within a (omega arith) (omega arith) in
      w.1 ∙ ap Err (cause_numbers.apart w.0 f (sym (refused w.0) ∙ ap number (sym w.1) ∙ e))

  never_ten : (a : Result A Fault) → number a ≡ 10 → ⊥
  never_ten a e =
      let w = within a (omega arith) (omega arith) in
      cause_numbers.never_ten w.0 (sym (refused w.0) ∙ ap number (sym w.1) ∙ e)

  exactly : CauseExactlyWhen number
  exactly = record { only = only; always = refused; within = within; never_ten = never_ten }

-- what is handed over: where a value's number is an outcome's, so is that of an answer with it
by_value : {A : Type 0} (handed : A → Handed) → ((a : A) → Ordinarily (handed a).number)
    → CauseExactlyWhen (λ a. (unless_refused handed a).number)
by_value handed ordinary = exactly (λ a. (unless_refused handed a).number) ordinary (λ f. refl)

or_none : {A : Type 0} (handed : A → Handed) → ((a : A) → Ordinarily (handed a).number) → (a : Option A) → Ordinarily (optional handed a).number
or_none handed ordinary (Some a) = ordinary a
or_none handed ordinary None = (none, refl)

of_both : (a : Option (RoundedBox × ClipCoverage)) → Ordinarily (both_box_handed (Ok a)).number
of_both (Some (b, k)) = (done, refl)
of_both None = (none, refl)

of_fill : (a : RectFill) → Ordinarily (rect_fill_handed a).number
of_fill (fill.Shared b) = (shared, refl)
of_fill (fill.Covered b) = (covered, refl)

of_cut : (a : Fitted) → Ordinarily (whole_cut a).number
of_cut a = go a.cut
  where
    go : (by : Option RoundedBox) → Ordinarily (cut_by a.shape a.strays by).number
    go (Some b) = (cut, refl)
    go None = (done, refl)

of_test : (a : Bool) → Ordinarily (test_number (Ok a))
of_test true = (yes, refl)
of_test false = (no, refl)

of_touch : (a : Option ℕ) → Ordinarily (touch_number (Ok a))
of_touch (Some k) = (counted k, refl)
of_touch None = (no_frame, refl)

of_inside : (a : Option Inside) → Ordinarily (inside_number (Ok a))
of_inside (Some inside.All) = (yes, refl)
of_inside (Some (inside.Outside k)) = (counted k, refl)
of_inside None = (none, refl)

never_refused : (a : Option Bounds) (f : Fault) → (reach_handed a).number ≡ number_of f → ⊥
never_refused (Some b) f e = apart done f e
never_refused None f e = apart none f e

reach_never_ten : (a : Option Bounds) → (reach_handed a).number ≡ 10 → ⊥
reach_never_ten (Some b) e = omega arith
reach_never_ten None e = omega arith

pub numbers_apart : NumbersApart
numbers_apart = record {
  causes = cause_numbers;
  apart = apart;
  outcomes = outcomes;
  outcome = exactly outcome_number (λ a. (done, refl)) (λ f. refl);
  whole_box = by_value _ (λ b. (done, refl));
  box = by_value _ (or_none _ (λ b. (done, refl)));
  coverage = by_value _ (or_none _ (λ k. (done, refl)));
  bounds = by_value _ (λ b. (done, refl));
  distance = by_value _ (λ x. (done, refl));
  both = exactly (λ a. (both_box_handed a).number) of_both (λ f. refl);
  fill = by_value _ (or_none _ of_fill);
  outline = by_value _ (or_none _ (λ b. (done, refl)));
  cut = by_value _ (or_none _ of_cut);
  reach = never_refused;
  reach_never_ten = reach_never_ten;
  test = exactly test_number of_test (λ f. refl);
  touch = exactly touch_number of_touch (λ f. refl);
  all_inside = exactly inside_number of_inside (λ f. refl);
  write = exactly write_number (λ n. (counted n, refl)) (λ f. refl);
  read = exactly read_number (λ r. (done, refl)) (λ f. refl);
}
