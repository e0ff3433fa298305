-- docs/API.md, 'The book file': how long each version of the written form is, and what stands where in it.
use Rattle.std.specs.Prelude.{List, [], ◌∷◌, ℕ, ◌+◌, ◌*◌}
use Rattle.bookfile.specs.declared.Version.{Version}
use Rattle.bookfile.specs.declared.Version.TheVariants.{One, Two}

-- "A book's written form has 24,332 bytes"; of version 1 "It has 23,816 bytes"
abbrev pub size_of : Version → ℕ
size_of One = 23_816
size_of Two = 24_332

-- "4C 56 42 02 (`LVB`, version 2)"; of version 1 "4C 56 42 01"
abbrev pub version_byte : Version → ℕ
version_byte One = 1
version_byte Two = 2

abbrev pub mark_of : Version → List ℕ
mark_of v = 76 ∷ 86 ∷ 66 ∷ version_byte v ∷ []

-- "place i begins at 12 + 95 i"; in version 1 "at 8 + 93 i"
abbrev pub head_of : Version → ℕ
head_of One = 8
head_of Two = 12

abbrev pub width_of : Version → ℕ
width_of One = 93
width_of Two = 95

abbrev pub place_at : Version → ℕ → ℕ
place_at v i = head_of v + width_of v * i

-- "number 2, sort 1": the sort of place i stands behind its number; version 1 has "the places without their numbers"
abbrev pub sort_at : Version → ℕ → ℕ
sort_at One i = place_at One i
sort_at Two i = place_at Two i + 2
