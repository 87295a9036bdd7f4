-- `float::signum` meets its contract. Assumes nothing.
use mathlib.Core.Path.{sym, ◌∙◌}
use Rattle.float.proofs.Methods.{nan_is, sign_is}
use Rattle.float.proofs.signum.Goals as goal

pub returns-then-is_nan : goal.returns-then-is_nan
returns-then-is_nan c = nan_is c.args.x (sym c.is_nan.ensures.value ∙ c.if-is_nan.true)

pub returns-then-is_sign_negative : goal.returns-then-is_sign_negative
returns-then-is_sign_negative c =
    rw (sym c.is_sign_negative.ensures ∙ c.if-is_sign_negative.true) at (sign_is c.args.x (sym c.is_nan.ensures.value ∙ c.if-is_nan.false))

pub returns-else-is_sign_negative : goal.returns-else-is_sign_negative
returns-else-is_sign_negative c =
    rw (sym c.is_sign_negative.ensures ∙ c.if-is_sign_negative.false) at (sign_is c.args.x (sym c.is_nan.ensures.value ∙ c.if-is_nan.false))
