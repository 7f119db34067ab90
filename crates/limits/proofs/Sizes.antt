-- Sizes within the limits, and what their products come to. Assumes nothing.
use Prim.Native.Nat.{ℕ, ◌≤◌, ◌<◌}
use native.Mathlib.Nat.{mul-le-mul}
use Rattle.limits.specs.Limits.{most_leaves, most_coordinates, most_groups}
use Rattle.limits.specs.Sizes.{Sizes}

pub sizes_of : (m k d : ℕ) → 0 < m → m ≤ most_leaves → 0 < k → k ≤ most_groups → 0 < d → d ≤ most_coordinates → Sizes m k d
sizes_of m k d m1 m2 k1 k2 d1 d2 =
    record {
      m_some = m1;
      m_small = m2;
      k_some = k1;
      k_small = k2;
      d_some = d1;
      d_small = d2;
      mk_small = mul-le-mul m2 k2;
      kd_small = mul-le-mul k2 d2;
      md_small = mul-le-mul m2 d2;
    }
