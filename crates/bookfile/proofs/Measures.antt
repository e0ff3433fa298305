-- The measures of the two versions: a head and 256 places are all of a written form.
use mathlib.Core.Path.{◌≡◌, refl}
use Prim.Native.Nat.{ℕ, ◌+◌, ◌*◌, ◌≤◌, ◌<◌}
use native.Mathlib.Omega.{arith}
use Rattle.bookfile.specs.declared.Version.{Version}
use Rattle.bookfile.specs.declared.Version.TheVariants.{One, Two}
use Rattle.bookfile.specs.Versions.{size_of, head_of, width_of, sort_at}

pub all-places : (v : Version) → head_of v + width_of v * 256 ≡ size_of v
all-places One = refl
all-places Two = refl

pub head-within : (v : Version) → 12 ≤ size_of v
head-within One = omega arith
head-within Two = omega arith

-- what stands in place i from its sort on
pub row_within : (v : Version) (i : ℕ) → i < 256 → sort_at v i + 93 ≤ size_of v
row_within One i l = omega arith
row_within Two i l = omega arith
