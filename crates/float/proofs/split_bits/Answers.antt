-- `float::split_bits` meets its contract: the two cases of the exponent's field. Assumes nothing.
use Rattle.std.proofs.Common.{ℕ, ◌-◌, sym, refl, ap, add-zero, mod-lt, arith, eq-eqb, ne_eqb}
use Rattle.float.proofs.split_bits.Goals as goal

pub returns-then-field-eq0 : goal.returns-then-field-eq0
returns-then-field-eq0 c = record { negative = refl; digits = rw (eq-eqb _ _ c.if-field-eq0.true) (sym (add-zero _)); exponent = sym (ap (λ (n : ℕ). n - 1) c.if-field-eq0.true) }

pub overflow_add-result : goal.overflow_add-result
overflow_add-result c = let d = mod-lt c.args.bits c.requires.hidden_nonzero in omega arith

pub returns : goal.returns
returns c = record { negative = refl; digits = rw (ne_eqb _ _ c.if-field-eq0.false) refl; exponent = refl }
