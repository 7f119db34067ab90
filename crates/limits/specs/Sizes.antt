-- What 1 ≤ m ≤ 4,096, 1 ≤ k ≤ 64 and 1 ≤ d ≤ 256 give: m leaves of d coordinates in k groups. The records of what the
-- functions of a run ask of their sizes hold this one. No definition of document 01 stands on this file.
use Rattle.std.specs.Prelude.{ℕ, ◌*◌, ◌≤◌, ◌<◌}
use Rattle.limits.specs.Limits.{most_leaves, most_coordinates, most_groups}

pub record Sizes (m k d : ℕ) : Type 0 where
  pub m_some : 0 < m
  pub m_small : m ≤ most_leaves
  pub k_some : 0 < k
  pub k_small : k ≤ most_groups
  pub d_some : 0 < d
  pub d_small : d ≤ most_coordinates
  pub mk_small : m * k ≤ 262144
  pub kd_small : k * d ≤ 16384
  pub md_small : m * d ≤ 1048576
