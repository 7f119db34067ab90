-- What holds of both cases holds of the one that a test picks. Assumes nothing.
use mathlib.Core.Bool.{Bool, true, false, cond}

pub either : {A : Type 0} (P : A → Type 0) (b : Bool) (x y : A) → P x → P y → P (cond b x y)
either P true x y f g = f
either P false x y f g = g
