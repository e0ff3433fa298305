-- Only for internal functions: no promise of a public call cites it.
use Rattle.std.specs.Prelude.{List, ℕ, eqb, length}
use Rattle.sums.specs.Choice.{pick}
use Rattle.bookfile.specs.declared.Version.{Version}
use Rattle.bookfile.specs.declared.Version.TheVariants.{One, Two}
use Rattle.bookfile.specs.Written.{size}

-- the version that bytes of this length may be a book of
abbrev pub version_of : List ℕ → Version
version_of file = pick (eqb (length file) size) Two One
