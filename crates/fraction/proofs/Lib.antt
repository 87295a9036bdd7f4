-- HOW TO REASON WITH FRACTIONS. Three forms carry every proof over them.
--
-- 1. A LINEAR FACT: hypotheses h : x ≤ᶠ y +ᶠ z, k : .. and a goal of sums, differences and negations. `over` lists
--     the numbers in it and hands them back over one
--    common denominator N (X : At N x, ..), `search at` finds the whole number of a sum from those of its parts, and
--        `omega` ends the proof:
--
--        over (x ∷ y ∷ z ∷ []) (λ N n X Y Z.
--        le-at N (search at) (search at) n (omega (arith, at-le N (search at) (search at) h, ..)))
--
--    A literal, or a product, in it is one more entry of the list: a literal q's fact is `Q.is`, that of `q *ᶠ x` is
--        `scale_at N q X J`, an equation's is `at_eq N .. .. e`.
--    A size, a minimum, a maximum, a number held between 0 and 1: `abs_at N n X`, `min_at N n X Y`, `max_at N n X Y`,
--        `clamp_at N n O I X`.
--
-- 2. A POLYNOMIAL IDENTITY, by computation (`search` goes five deep: for a deeper expression `search rep depth 9`):
--
--        let ρ = x ∷ y ∷ z ∷ [] in let R = reps ρ in ring ρ (search rep) (search rep) tt
--
-- 3. AN INEQUALITY BY A CERTIFICATE: y - x is, by the second form, a p that is known not to be negative (a square, a
--     product of such):
--
--        le-by (square-nonneg (x -ᶠ y)) (ring ρ (search rep) (search rep) tt)
--
-- Two closed fractions are compared by `lit tt : x ≤ᶠ y`, `lit<ᶠ tt`, `lit≈ tt`, where `◌+ᶠ◌ ◌*ᶠ◌ ..` unfold.
--
-- Linear: the first form. Order: the laws of order, sums, products and quotients. Near: errors and bounds. Ring: the
-- second and the third form. Clamp: minimum, maximum, held between 0 and 1. Integer: the library's integers. Abs:
-- sizes. Quotient: the error of a quotient. Relative: errors as parts of the value. Laws: specs/Laws.antt.
pub mod Linear
pub mod Order
pub mod Near
pub mod Ring
pub mod Clamp
pub mod Integer
pub mod Abs
pub mod Quotient
pub mod Relative
pub mod Laws
