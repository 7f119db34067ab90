-- The limits: a list whose elements are tested one by one, and what each limit says where its tests are passed. By cases on the Bools of
-- the tests. Assumes nothing.
use mathlib.Core.Path.{◌≡◌, refl, sym, subst}
use mathlib.Core.Bool.{Bool, true, false, ◌&&◌}
use Prim.Native.Nat.{ℕ, ◌*◌, ◌≤◌}
use native.Mathlib.Omega.{arith}
use lib.Dec.{T, eqb, leb}
use borrow.Author.Tests.{leb-true, eqb-true}
use Rattle.std.specs.Prelude.{Result, Ok, is_err, ⊤}
use Rattle.limits.specs.Refusals.{number_of, need}
use Rattle.limits.specs.declared.Refusal.{Refusal}
use Rattle.limits.specs.declared.Refusal.TheVariants.{Sizes, Groups, Rounds, Arrays, Weight, Coordinate}
use Rattle.limits.specs.declared.Refusal.TheVariants.{FileLength, FileSizes, Kappa}
use Rattle.limits.specs.Limits.{sizes_ok, groups_ok}

-- ---- what the tests say
pub both : (a b : Bool) → (a && b) ≡ true → (a ≡ true) × (b ≡ true)
both true b e = (refl, e)
both false b e = absurd (subst T (sym e) tt)

pub met : (t : Bool) (e : Refusal) (rest : Result ⊤ Refusal) → need t e rest ≡ Ok tt → (t ≡ true) × (rest ≡ Ok tt)
met true e rest h = (refl, h)
met false e rest h = absurd (subst (λ (r : Result ⊤ Refusal). T (is_err r)) h tt)

-- no refusal has the number 0
pub numbered : (e : Refusal) → number_of e ≡ 0 → ⊥
numbered Sizes h = omega (arith, h)
numbered Groups h = omega (arith, h)
numbered Rounds h = omega (arith, h)
numbered Arrays h = omega (arith, h)
numbered Weight h = omega (arith, h)
numbered Coordinate h = omega (arith, h)
numbered FileLength h = omega (arith, h)
numbered FileSizes h = omega (arith, h)
numbered Kappa h = omega (arith, h)

-- the six tests that the entries share the order of, where nothing is refused
pub record Admitted (sizes groups settings arrays weights coords : Bool) : Type 0 where
  pub sizes_ok_law : sizes ≡ true
  pub groups_ok_law : groups ≡ true
  pub settings_ok : settings ≡ true
  pub arrays_ok_law : arrays ≡ true
  pub weights_ok : weights ≡ true
  pub coords_ok : coords ≡ true

pub admitted : (sizes groups settings arrays weights coords : Bool)
    → need sizes Sizes (need groups Groups (need settings Rounds (need arrays Arrays (need weights Weight (need coords Coordinate (Ok tt))))))
    ≡ Ok tt
    → Admitted sizes groups settings arrays weights coords
admitted sizes groups settings arrays weights coords e =
    let e1 = met sizes _ _ e in
    let e2 = met groups _ _ e1.1 in
    let e3 = met settings _ _ e2.1 in
    let e4 = met arrays _ _ e3.1 in
    let e5 = met weights _ _ e4.1 in
    let e6 = met coords _ _ e5.1 in
    record { sizes_ok_law = e1.0; groups_ok_law = e2.0; settings_ok = e3.0; arrays_ok_law = e4.0; weights_ok = e5.0; coords_ok = e6.0 }

pub sizes_met : (m d coords : ℕ) → sizes_ok m d coords ≡ true → (1 ≤ m) × (m ≤ 4096) × (1 ≤ d) × (d ≤ 256) × (coords ≡ m * d)
sizes_met m d coords e =
    let e1 = both (leb 1 m) _ e in
    let e2 = both (leb m 4096) _ e1.1 in
    let e3 = both (leb 1 d) _ e2.1 in
    let e4 = both (leb d 256) (eqb coords (m * d)) e3.1 in
    (leb-true _ _ e1.0, leb-true _ _ e2.0, leb-true _ _ e3.0, leb-true _ _ e4.0, eqb-true _ _ e4.1)

pub groups_met : (k m : ℕ) → groups_ok k m ≡ true → (1 ≤ k) × (k ≤ 64) × (k ≤ m)
groups_met k m e =
    let e1 = both (leb 1 k) _ e in
    let e2 = both (leb k 64) (leb k m) e1.1 in
    (leb-true _ _ e1.0, leb-true _ _ e2.0, leb-true _ _ e2.1)
